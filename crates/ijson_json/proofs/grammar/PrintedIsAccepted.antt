-- Lemmas: the printed text of a well-formed tree within the nesting limit is accepted as that tree.
use Rattle.std.proofs.Common.{◌≡◌, true, refl, sym, ap₂, subst}
use Rattle.std.specs.Prelude.{◌&&◌}
use Rattle.ijson_number.specs.Text.{num_text}
use Rattle.ijson_number.proofs.writing.RoundTrip.{num_text_spells}
use Rattle.ijson_value.specs.Tree.{Tree, null, boolean, number, string, array, object, Items, no_items, item, Members, no_members}
use Rattle.ijson_value.specs.Tree.{member, depth}
use Rattle.ijson_value.specs.WellFormed.{IsWellFormed, AreWellFormed, HaveWellFormed}
use Rattle.ijson_json.specs.Ranged.{is_ranged, items_ranged, members_ranged}
use Rattle.ijson_json.specs.Grammar.{Spaced, IsValue}
use Rattle.ijson_json.specs.Print.{print}
use Rattle.ijson_json.specs.PrintedIsAccepted.{PrintedIsAccepted}
use Rattle.ijson_json.proofs.grammar.SettlesToItself.{settles}
use Rattle.ijson_json.proofs.grammar.SpelledTrees.{kept_shapes, tree_spelled}

-- The printed text of a well-formed tree spells that tree.
printed : (t : Tree) → IsWellFormed t → Spaced (λ value. IsValue t value) (print t)
printed t h =
    subst (λ (u : Tree). Spaced (λ value. IsValue u value) (print t)) (kept_shapes t) (tree_spelled num_text (λ n. n) num_text_spells t h)

-- The numbers of a well-formed tree are within the exponent limit.
mutual
  ranged : (t : Tree) → IsWellFormed t → is_ranged t ≡ true
  ranged null h = refl
  ranged (boolean b) h = refl
  ranged (number n) h = h.in_range
  ranged (string s) h = refl
  ranged (array is) h = ranged_items is h
  ranged (object ms) h = ranged_members ms h.1

  -- The numbers of well-formed elements are within the exponent limit.
  ranged_items : (is : Items) → AreWellFormed is → items_ranged is ≡ true
  ranged_items no_items h = refl
  ranged_items (item t more) h = ap₂ ◌&&◌ (ranged t h.0) (ranged_items more h.1)

  -- The numbers of well-formed members are within the exponent limit.
  ranged_members : (ms : Members) → HaveWellFormed ms → members_ranged ms ≡ true
  ranged_members no_members h = refl
  ranged_members (member k t more) h = ap₂ ◌&&◌ (ranged t h.0) (ranged_members more h.1)

-- The printed text of a well-formed tree within the nesting limit is accepted as that tree.
pub printed_is_accepted : PrintedIsAccepted
printed_is_accepted t h d = (
  depth t,
  d,
  record {
    written = t;
    spelled = printed t h;
    tree_is = sym (settles t h);
    deepest_is = refl;
    ranged_is = sym (ranged t h);
  },
)
