-- Lists of elements: their depth, their limits, and the text of a list with one more element
-- before.
use Rattle.std.proofs.Common.{◌≡◌, ℕ, Bool, true, max, List, [], ◌∷◌, ◌++◌, refl, sym, append_assoc, arith}
use Rattle.std.specs.Prelude.{◌&&◌}
use Rattle.std.proofs.Math.Bool.{and_assoc}
use Rattle.ijson_value.specs.Tree.{depth}
use Rattle.ijson_json.specs.Ranged.{is_ranged}
use Rattle.ijson_json.specs.Grammar.{IsSpace}
use Rattle.ijson_json.specs.private.Reading.{Found}
use Rattle.ijson_json.proofs.scanning.Prefixes.{all-append}
use Rattle.ijson_json.proofs.grammar.CommaLists.{IsList, Shape}

module _ (E : Type 0) (S : Shape E) where
  -- The maximum depth of the elements, or 0 for an empty list.
  abbrev pub deepest : List E → ℕ
  deepest [] = 0
  deepest (e ∷ es) = max (depth (S.inner e)) (deepest es)

  -- Returns `true` if each element is within the exponent limit.
  abbrev pub all_ranged : List E → Bool
  all_ranged [] = true
  all_ranged (e ∷ es) = is_ranged (S.inner e) && all_ranged es

  -- The depth of two concatenated lists is the maximum of their depths.
  pub deepest-append : (es fs : List E) → deepest (es ++ fs) ≡ max (deepest es) (deepest fs)
  deepest-append [] fs = omega arith
  deepest-append (e ∷ es) fs = omega (arith, deepest-append es fs)

  -- Two concatenated lists are within the exponent limit if and only if both lists are.
  pub ranged-append : (es fs : List E) → all_ranged (es ++ fs) ≡ (all_ranged es && all_ranged fs)
  ranged-append [] fs = refl
  ranged-append (e ∷ es) fs = rw (ranged-append es fs) (sym (and_assoc (is_ranged (S.inner e)) (all_ranged es) (all_ranged fs)))

  -- Holds if the element `e` was read at the start of `cur`, and `after` is the text after it.
  abbrev pub ElementRead : ℕ → List ℕ → E → List ℕ → Type 0
  ElementRead opened cur e after = Found E (λ e text. S.Is e text) (λ e. S.inner e) opened cur e after

  -- White space before the text of a list is part of the text of the list.
  pub absorb : (e : E) (more : List E) (s others : List ℕ) → IsSpace s → IsList S.Is (e ∷ more) others
      → IsList S.Is (e ∷ more) (s ++ others)
  absorb e [] s others h (b, v, a, sb, w, sa, g) = (s ++ b, v, a, all-append _ s b h sb, w, sa, rw g (simp append_assoc))
  absorb e (f ∷ more) s others h (first, second, (b, v, a, sb, iv, sa, g), o, i) =
      (s ++ first, second, (s ++ b, v, a, all-append _ s b h sb, iv, sa, rw g (simp append_assoc)), o, rw i (simp append_assoc))

  -- An element, white space, a comma and the text of a list are the text of a list with one more
  -- element.
  pub one_more : (e f : E) (more : List E) (value after others : List ℕ) → S.Is e value → IsSpace after → IsList S.Is (f ∷ more) others
      → IsList S.Is (e ∷ f ∷ more) (value ++ (after ++ 44 ∷ others))
  one_more e f more value after others v sa o = (
    value ++ after,
    others,
    ([], value, after, tt, v, sa, refl),
    o,
    sym (append_assoc value after (44 ∷ others)),
  )
