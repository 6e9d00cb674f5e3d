-- An iterator that began at a source of elements yields exactly these elements, in order.
use Rattle.std.proofs.Common.{◌≡◌, ℕ, List, [], ◌∷◌, ◌++◌, length, map, Option, Some, None, refl, ap, sym, subst, ◌∙◌}
use Rattle.std.proofs.lemmas.List.{append-nil}
use Rattle.ijson_table.specs.Store.{IsDistinct}
use Rattle.std.specs.Iterator.{AlwaysYields, Yields}
use Rattle.std.specs.Map.Iter.{TakesFirst, deref_pair}
use Rattle.std.specs.Prelude.{String, string_bytes}
use Rattle.std.specs.declared.alloc.Global.{Global}

module _ {S A B : Type 0} (steps : S → Option A → S → Type 0) (shows : A → B) where
  -- The elements already yielded, followed by the elements that the iterator yields later, are all
  -- elements.
  shown_and_left : (given : List A) (all : List B) (s t : S) → AlwaysYields steps shows s all → Yields steps s given t
      → (left : List B) × (all ≡ map shows given ++ left) × AlwaysYields steps shows t left
  shown_and_left [] all s t a y = (all, refl, subst (λ i. AlwaysYields steps shows i all) y a)
  shown_and_left (x ∷ given) [] s t a y = absurd (a x y.0 y.1)
  shown_and_left (x ∷ given) (b ∷ all) s t a y =
      let here = a.1 x y.0 y.1 in
      let more = shown_and_left given all y.0 t here.1 y.2 in
      (more.0, ap (λ l. l ∷ all) (sym here.0) ∙ ap (λ l. shows x ∷ l) more.1, more.2)

  first_left : (ys : List B) (s t : S) (x : A) → AlwaysYields steps shows s ys → steps s (Some x) t
      → (rest : List B) × (ys ≡ shows x ∷ rest)
  first_left [] s t x a y = absurd (a x t y)
  first_left (b ∷ rest) s t x a y = (rest, ap (λ l. l ∷ rest) (sym (a.1 x t y).0))

  none_left : (ys : List B) (s t : S) → AlwaysYields steps shows s ys → steps s None t → ys ≡ []
  none_left [] s t a y = refl
  none_left (b ∷ rest) s t a y = absurd (a.0 t y)

  -- In this module, an iterator began at a source of the elements `all` and has yielded `given`.
  module _ {source s : S} (is : s ≡ source) (given : List A) (all : List B) (t u : S) (a : AlwaysYields steps shows source all)
      (y : Yields steps s given t) where
    left : (left : List B) × (all ≡ map shows given ++ left) × AlwaysYields steps shows t left
    left = shown_and_left given all s t (subst (λ i. AlwaysYields steps shows i all) (sym is) a) y

    -- After `given`, the iterator yields the next element of `all`.
    pub shown_next : (x : A) → steps t (Some x) u → (rest : List B) × (all ≡ map shows given ++ shows x ∷ rest)
    shown_next x more =
        let first = first_left left.0 t u x left.2 more in
        (first.0, left.1 ∙ ap (λ l. map shows given ++ l) first.1)

    -- If the iterator has ended, all elements have been yielded.
    pub shown_all : steps t None u → all ≡ map shows given
    shown_all none = left.1 ∙ ap (λ l. map shows given ++ l) (none_left left.0 t u left.2 none) ∙ append-nil (map shows given)

-- An iterator whose model is the list of remaining elements yields that list.
list_shown : {A B : Type 0} (shows : A → B) (it all : List B) → it ≡ all → AlwaysYields (TakesFirst shows) shows it all
list_shown shows it [] is = λ x t y. let e = sym is ∙ y in cc
list_shown shows it (b ∷ all) is = (
  λ t y. let e = sym is ∙ y.0 in cc,
  λ x t y.
      let e = sym is ∙ y in
      let head : shows x ≡ b = cc in
      let tail : t ≡ all = cc in
      (head, list_shown shows t all tail),
)

-- The iterator of a map yields its remaining entries.
pub entries_shown : {K X : Type 0} {it all : List (K × X)} → it ≡ all → AlwaysYields (TakesFirst deref_pair) deref_pair it all
entries_shown {it = it} {all = all} is = list_shown deref_pair it all is

-- The iterator of a map yields `count` entries with distinct keys.
pub entries_given : {X : Type 0} {it all : List (String Global × X)} {count : ℕ} → it ≡ all → count ≡ length all
    → IsDistinct (map (λ e. string_bytes e.0) all)
    → (es : List (String Global × X)) × AlwaysYields (TakesFirst deref_pair) deref_pair it es × (count ≡ length es)
    × IsDistinct (map (λ e. string_bytes e.0) es)
entries_given {all = all} is counted distinct = (all, entries_shown is, counted, distinct)

-- If `Shown` implies `Tree`, `Cache` and `Refused` for every `es`, an `es` that satisfies `Shown`
-- satisfies all three.
pub of_shown : {E : Type 0} {Shown Tree Cache Refused : E → Type 0}
    → record {
      tree : (es : E) → Shown es → Tree es;
      cache : (es : E) → Shown es → Cache es;
      refused : (es : E) → Shown es → Refused es;
    } → {es : E} → Shown es → record { tree : Tree es; cache : Cache es; refused : Refused es }
of_shown made {es} shown =
    record { tree = made.tree es shown; cache = made.cache es shown; refused = made.refused es shown }
