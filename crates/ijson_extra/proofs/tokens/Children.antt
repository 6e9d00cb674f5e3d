-- The child that a token refers to is an element or the value of a key.
use Rattle.std.proofs.Common.{◌≡◌, ◌⊎◌, inl, inr, ℕ, Bool, true, false, List, [], ◌∷◌, Option, Some, None, option_map}
use Rattle.std.proofs.Common.{option_copied, eqb, refl, ap, ◌∙◌}
use Rattle.std.specs.Prelude.{◌≢◌, IfSome, IfNone, MatchOption, option_and_then, slice_get}
use Rattle.std.proofs.lemmas.Bool.{eqb-true}
use denote.Ref.{Bor}
use Rattle.ijson_table.specs.Store.{Store, lookup}
use Rattle.ijson_value.specs.Step.{by_position, tree_at}
use Rattle.ijson_value.specs.Values.{array_tree, array_value, object_value}
use Rattle.ijson_value.specs.laws.Steps.{item_at, value_at}
use Rattle.ijson_value.proofs.Found.{found_tree}
use Rattle.ijson_value.specs.WellFormed.{WellFormed, tree_of}
use Rattle.ijson_extra.specs.Pointer.{meant, all_meant, written_tokens, position_named, tokens_of, child_at}
use Rattle.ijson_extra.proofs.tokens.Positions.{same_position}

item_named : (vs : List WellFormed) (o : Option ℕ)
    → option_map tree_of (option_and_then (slice_get vs) o) ≡ option_and_then (tree_at (array_tree vs)) (option_map by_position o)
item_named vs None = refl
item_named vs (Some i) = item_at vs i

-- If `o` is the element at the index that the token denotes, `o` is the child that the token refers
-- to.
pub child_item : (v : WellFormed) (vs : List WellFormed) (o : Option (Bor WellFormed)) (token m : List ℕ) → array_value vs ≡ v
    → option_map (λ x. x.now.tree) o ≡ option_map tree_of (option_and_then (slice_get vs) (position_named token)) → meant token ≡ Some m
    → option_map (λ x. x.now.tree) o ≡ child_at v.tree m
child_item v vs o token m is e f =
    e ∙ item_named vs (position_named token)
    ∙ ap (λ p. option_and_then (tree_at (array_tree vs)) (option_map by_position p)) (same_position token m f)
    ∙ ap (λ w. child_at (tree_of w) m) is

-- If `o` is the value of the key that the token means, `o` is the child that the token refers to.
pub child_member : (v : WellFormed) (s : Store WellFormed) (o : Option (Bor WellFormed)) (m : List ℕ) → object_value s ≡ v
    → option_copied o ≡ lookup m s.pairs
    → option_map (λ x. x.now.tree) o ≡ child_at v.tree m
child_member v s o m is e = found_tree o ∙ ap (option_map tree_of) e ∙ value_at s.pairs m ∙ ap (λ w. child_at (tree_of w) m) is

-- If a text is not empty and does not begin with `/`, it is not a pointer.
begins_by : (b : ℕ) (text : List ℕ) (r : Bool) → eqb b 47 ≡ r → ((rest : List ℕ) → b ∷ text ≢ 47 ∷ rest) → tokens_of (b ∷ text) ≡ None
begins_by b text true e h = absurd (h text (ap (λ c. c ∷ text) (eqb-true b 47 e)))
begins_by b text false e h = ap (λ (r : Bool). elim r [ true ↦ all_meant (written_tokens text) | false ↦ None ]) e

no_slash : (text : List ℕ) → ((rest : List ℕ) → text ≢ 47 ∷ rest) → (text ≡ []) ⊎ (tokens_of text ≡ None)
no_slash [] h = inl refl
no_slash (b ∷ text) h = inr (begins_by b text (eqb b 47) refl h)

pub slash : (text : List ℕ) (r : Option (Bor (List ℕ))) → MatchOption r ((rest : List ℕ) → text ≢ 47 ∷ rest) (λ left. text ≡ 47 ∷ left.now)
    → IfSome r (λ left. text ≡ 47 ∷ left.now) × IfNone r ((text ≡ []) ⊎ (tokens_of text ≡ None))
slash text None is = (tt, no_slash text is)
slash text (Some left) is = (is, tt)
