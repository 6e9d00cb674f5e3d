-- The keys of a map are distinct, and the iterator of a map yields its entries in order.
use Rattle.std.proofs.Common.{◌≡◌, ◌≢◌, ◌+◌, ℕ, suc, List, [], ◌∷◌, ◌++◌, length, map, Some, false}
use Rattle.std.proofs.Common.{ap, sym, subst, ◌∙◌, arith}
use mathlib.Core.Bool.{true≢false}
use Rattle.std.proofs.lemmas.List.{append-nil, length-append}
use Rattle.std.specs.Cmp.{tied_itself}
use Rattle.std.specs.Cmp.Lexicographic.{slice_cmp, pointwise, nat_list_cmp_total, nat_list_eq_equiv}
use Rattle.std.specs.Iterator.{Yields, Drains, YieldsThen}
use Rattle.std.specs.List.{AllByRecursion, IsDistinct as IsUnique}
use Rattle.std.specs.List.Sorted.{IsStrictlySortedBy}
use Rattle.std.specs.Map.{keys_of as map_keys}
use Rattle.std.specs.Map.Iter.{TakesFirst}
use Rattle.std.specs.Ordering.{nat_cmp}
use Rattle.std.specs.Prelude.{nat_eq}
use Rattle.std.specs.declared.cmp.Ordering.TheVariants.{Less}
use Rattle.ijson_table.specs.Store.{keys_of, Lacks, IsDistinct}
use Rattle.ijson_value.specs.private.GivesPairs.{GivesDistinctPairs}

-- A key that the list lacks differs from each key of the list.
lacks_middle : (ks rest : List (List ℕ)) (j k : List ℕ) → Lacks j (ks ++ k ∷ rest) → k ≢ j
lacks_middle [] rest j k l = λ e. l.0 (sym e)
lacks_middle (i ∷ ks) rest j k l = lacks_middle ks rest j k l.1

-- In a list of distinct keys, a key does not occur among the keys before it.
pub lacks_before : (ks : List (List ℕ)) (k : List ℕ) (rest : List (List ℕ)) → IsDistinct (ks ++ k ∷ rest) → Lacks k ks
lacks_before [] k rest d = tt
lacks_before (j ∷ ks) k rest d = (lacks_middle ks rest j k d.0, lacks_before ks k rest d.1)

-- The function `bytes` returns the bytes of a key of the map.
module _ {K X : Type 0} (bytes : K → List ℕ) where
  -- If a key is `Apart` from each key of a list, and no key is `Apart` from itself, then the list
  -- lacks the key.
  lacks_apart : (Apart : List ℕ → List ℕ → Type 0) → ((k : List ℕ) → Apart k k → ⊥) → (x : K) (es : List (K × X))
      → AllByRecursion (λ y. Apart (bytes x) (bytes y)) (map_keys es) → Lacks (bytes x) (map (λ e. bytes e.0) es)
  lacks_apart Apart never x [] a = tt
  lacks_apart Apart never x (e ∷ es) a =
      (λ q. never (bytes x) (subst (Apart (bytes x)) (sym q) a.0), lacks_apart Apart never x es a.1)

  -- If `IsUnique` holds for the keys of a map, compared by their bytes, then the keys are distinct.
  pub unique_keys : (es : List (K × X)) → IsUnique (λ x y. pointwise nat_eq (bytes x) (bytes y)) (map_keys es)
      → IsDistinct (map (λ e. bytes e.0) es)
  unfolding IsUnique
  unique_keys [] d = tt
  unique_keys (e ∷ es) d = (
    lacks_apart (λ j k. pointwise nat_eq j k ≡ false) (λ k f. true≢false (sym (nat_list_eq_equiv.refl k) ∙ f)) e.0 es d.0,
    unique_keys es d.1,
  )

  -- Keys are distinct if they are in strictly ascending order.
  pub ordered_keys : (es : List (K × X)) → IsStrictlySortedBy (λ x y. slice_cmp nat_cmp (bytes x) (bytes y)) (map_keys es)
      → IsDistinct (map (λ e. bytes e.0) es)
  unfolding IsStrictlySortedBy
  ordered_keys [] d = tt
  ordered_keys (e ∷ es) d = (
    lacks_apart (λ j k. slice_cmp nat_cmp j k ≡ Less) (λ k less. let tied = tied_itself nat_list_cmp_total k in cc) e.0 es d.0,
    ordered_keys es d.1,
  )

-- An iterator that takes the first element of its list yields the list in order.
module _ {X : Type 0} where
  -- If an iterator over the list `s` yields `xs` and becomes an iterator over `t`, then `s` is
  -- `xs ++ t`.
  yielded : (xs s t : List X) → Yields (TakesFirst (λ (x : X). x)) s xs t → s ≡ xs ++ t
  yielded [] s t y = y
  yielded (x ∷ xs) s t y = y.1 ∙ ap (λ l. x ∷ l) (yielded xs y.0 t y.2)

  -- If an iterator over the list `s` yields `xs` until the end, then `s` is `xs`.
  pub all_given : (s xs : List X) → Drains (TakesFirst (λ (x : X). x)) s xs → s ≡ xs
  all_given s xs d = yielded xs s d.1.0 d.1.1 ∙ ap (λ l. xs ++ l) d.1.2.0 ∙ append-nil xs

  -- If an iterator over the list `s` yields `xs` and `x` and becomes an iterator over `u`, then `s`
  -- is `xs ++ x ∷ u`.
  pub then_given : (s xs : List X) (x : X) (u : List X) → YieldsThen (TakesFirst (λ (x : X). x)) s xs (Some x) u → s ≡ xs ++ x ∷ u
  then_given s xs x u d = yielded xs s d.0 d.1 ∙ ap (λ l. xs ++ l) d.2

module _ {X : Type 0} {entries : List (List ℕ × X)} where
  -- An iterator over the list `entries` yields exactly `entries`.
  pub entries_given : {it : List (List ℕ × X)} → it ≡ entries → (xs : List (List ℕ × X))
      → Drains (TakesFirst (λ (p : List ℕ × X). p)) it xs → xs ≡ entries
  entries_given {it} start xs drains = sym (all_given it xs drains) ∙ start

  -- If the iterator of a source yields `count` entries with distinct keys, then the source
  -- satisfies `GivesDistinctPairs`.
  pub map_gives : {U : Type 0} {becomes : U → List (List ℕ × X) → Type 0} {source : U}
      → ((it : List (List ℕ × X)) → becomes source it → it ≡ entries) → {count : ℕ} → count ≡ length entries
      → IsDistinct (keys_of entries) → GivesDistinctPairs becomes (TakesFirst (λ (p : List ℕ × X). p)) source count
  map_gives starts counted distinct = record {
    all = λ xs given. let same = entries_given (starts given.0 given.1) xs given.2 in (
      subst (λ l. IsDistinct (keys_of l)) (sym same) distinct,
      ap length same ∙ sym counted,
    );
    fewer = λ xs next given.
        let parts : entries ≡ xs ++ next ∷ given.1 = sym (starts given.0 given.2) ∙ then_given given.0 xs next given.1 given.3 in
        let size : length entries ≡ length xs + suc (length given.1) = ap length parts ∙ length-append xs (next ∷ given.1) in
        omega (arith, size, counted);
  }
