-- The first document that passes the test for a tree means the same as the tree. If no document
-- passes the test, no document means the same as the tree.
use Rattle.std.proofs.Common.{◌≡◌, ℕ, zero, suc, Bool, true, false, List, [], ◌∷◌, ◌++◌, get_or}
use Rattle.std.proofs.Common.{Option, Some, None, is_some, sym, ap, subst, ◌∙◌, inl, inr}
use Rattle.std.proofs.lemmas.Bool.{or_parts}
use Rattle.std.proofs.lemmas.List.Quantifiers.{position-Some}
use Rattle.std.proofs.lemmas.Option.{slice_get-get_or}
use Rattle.std.specs.List.{position, list_any}
use Rattle.std.specs.Prelude.{if◌then◌else◌, IfSome, IfNone}
use Rattle.ijson_value.specs.SameTest.{same}
use Rattle.ijson_value.specs.Tree.{Tree}
use Rattle.ijson_value.specs.Values.{null_value}
use Rattle.ijson_value.specs.WellFormed.{WellFormed}
use Rattle.ijson_value.specs.laws.SameDecided.{decides}
use Rattle.ijson.specs.examples.Documents.{StandsAt, Stores}

abbrev pub tests : Tree → WellFormed → Bool
tests t v = same t v.tree

-- If `r` is the index of the first document that passes the test for `t`, it is the index of a
-- document that means the same as `t`.
pub found_at : (vs : List WellFormed) (t : Tree) (r : Option ℕ) → r ≡ position (tests t) vs → IfSome r (StandsAt vs t)
found_at vs t None is = tt
found_at vs t (Some i) is =
    let found = position-Some (tests t) vs i null_value (sym is) in
    let v = get_or vs i null_value in
    (v, slice_get-get_or vs i null_value found.0, (decides t v.tree).0 found.1)

none_stands : (vs : List WellFormed) (t : Tree) → list_any (tests t) vs ≡ false → (i : ℕ) → StandsAt vs t i → ⊥
none_stands [] t none i h = let e = h.1 in absurd (cc)
none_stands (v ∷ vs) t none zero h =
    let first = (or_parts (tests t v) (list_any (tests t) vs) none).0 in
    let e : v ≡ h.0 = let s = h.1 in cc in
    let yes = (decides t h.0.tree).1 h.2 in
    let no = ap (tests t) (sym e) ∙ first in absurd (cc)
none_stands (v ∷ vs) t none (suc i) h =
    none_stands vs t (or_parts (tests t v) (list_any (tests t) vs) none).1 i h

pub none_at : (vs : List WellFormed) (t : Tree) (r : Option ℕ) → is_some r ≡ list_any (tests t) vs
    → IfNone r ((i : ℕ) → StandsAt vs t i → ⊥)
none_at vs t None found = none_stands vs t (sym found)
none_at vs t (Some i) found = tt

pub is_stored : (old new : List WellFormed) (v : WellFormed) (any : Bool) (i : ℕ) → list_any (tests v.tree) old ≡ any
    → new ≡ (if any then old else old ++ v ∷ []) → StandsAt new v.tree i → Stores old v new
is_stored old new v true i any is at = inl ((i, subst (λ vs. StandsAt vs v.tree i) is at), is)
is_stored old new v false i any is at = inr (none_stands old v.tree any, is)
