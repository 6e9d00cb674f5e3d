-- An injective code for well-formed trees. The code of the tree suffices, because a tree has at
-- most one proof that it is well-formed.
use Rattle.std.proofs.Common.{◌≡◌, refl, ap}
use Rattle.std.specs.Coded.{Coded, code_by, ×_prop, Unit-prop}
use base.Stored.{coded_sub}
use Rattle.ijson_number.specs.laws.Codes.{IsNum-prop}
use Rattle.ijson_table.specs.laws.Store.{IsDistinct-prop}
use Rattle.ijson_value.specs.Tree.{Tree, null, boolean, number, string, array, object, Items, no_items, item, Members, no_members, member}
use Rattle.ijson_value.specs.Tree.{member_keys}
use Rattle.ijson_value.specs.WellFormed.{WellFormed, IsWellFormed, AreWellFormed, HaveWellFormed}
use Rattle.ijson_value.specs.laws.TreeCode.{tree_code}

mutual
  -- A tree has at most one proof that it is well-formed.
  pub IsWellFormed-prop : (t : Tree) → IsProp (IsWellFormed t)
  IsWellFormed-prop null = Unit-prop
  IsWellFormed-prop (boolean b) = Unit-prop
  IsWellFormed-prop (number n) = IsNum-prop n
  IsWellFormed-prop (string s) = Unit-prop
  IsWellFormed-prop (array ts) = AreWellFormed-prop ts
  IsWellFormed-prop (object ps) = ×_prop (IsDistinct-prop (member_keys ps)) (HaveWellFormed-prop ps)

  -- A list of elements has at most one proof that the elements are well-formed.
  AreWellFormed-prop : (ts : Items) → IsProp (AreWellFormed ts)
  AreWellFormed-prop no_items = Unit-prop
  AreWellFormed-prop (item t ts) = ×_prop (IsWellFormed-prop t) (AreWellFormed-prop ts)

  -- A list of members has at most one proof that the values are well-formed.
  HaveWellFormed-prop : (ps : Members) → IsProp (HaveWellFormed ps)
  HaveWellFormed-prop no_members = Unit-prop
  HaveWellFormed-prop (member k t ps) = ×_prop (IsWellFormed-prop t) (HaveWellFormed-prop ps)

-- The code of values, with the proof that the code is injective.
abbrev pub well_formed_code : Coded WellFormed
well_formed_code =
    code_by ((t : Tree) × IsWellFormed t) (coded_sub tree_code IsWellFormed IsWellFormed-prop)
    (λ v. (v.tree, v.well_formed)) (λ p. record { tree = p.0; well_formed = p.1 }) (λ _. refl)

-- Values with the same tree are equal.
pub one_tree : (v w : WellFormed) → v.tree ≡ w.tree → v ≡ w
one_tree v w e = well_formed_code.inj v w (ap tree_code.code e)
