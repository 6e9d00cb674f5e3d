-- Lemmas for the loops that compare arrays and objects.
use Rattle.std.proofs.Common.{◌≡◌, ◌≢◌, ℕ, suc, ◌<◌, List, [], ◌∷◌, length, get_or, drop, Bool, true, false, cond, ◌&&◌, ◌||◌, ◌==◌, Some}
use Rattle.std.proofs.Common.{None, refl, sym, ap, ◌∙◌, eq-eqb}
use Rattle.std.proofs.Math.Seq.{drop-cons}
use Rattle.std.specs.Str.{bytes_eq}
use Rattle.std.proofs.lemmas.Bool.{false_from_ne_true}
use Rattle.std.proofs.lemmas.Bool.Decides.{Decides-eqb}
use Rattle.std.specs.Cmp.Lexicographic.{bytes_decides}
use Rattle.ijson_table.specs.Store.{Store, lookup, keys_of, Lacks, IsDistinct}
use Rattle.ijson_value.specs.WellFormed.{WellFormed, tree_of, item_trees, pair_trees}
use Rattle.ijson_value.specs.laws.Lengths.{members_len-pairs}
use Rattle.ijson_value.specs.SameTest.{same, same_each, same_in, some_has}
use Rattle.ijson_value.specs.Tree.{Tree, object, Members, members_len}

-- `bytes_eq` is false for different keys.
pub other_bytes : (k j : List ℕ) → k ≢ j → bytes_eq k j ≡ false
other_bytes k j ne = false_from_ne_true (bytes_eq k j) (λ e. ne ((bytes_decides k j).0 e))

-- If no entry has the key `k`, then `some_has` is false for `k`.
some_has-lacking : (k : List ℕ) (passes : Tree → Bool) (ps : List (List ℕ × WellFormed))
    → Lacks k (keys_of ps) → some_has k passes (pair_trees ps) ≡ false
some_has-lacking k passes [] h = refl
some_has-lacking k passes (p ∷ ps) h =
    ap (λ b. (b && passes (tree_of p.1)) || some_has k passes (pair_trees ps)) (other_bytes k p.0 h.0)
    ∙ some_has-lacking k passes ps h.1

-- If a lookup of `k` returns `None`, then `some_has` is false for `k`.
some_has-None : (k : List ℕ) (passes : Tree → Bool) (ps : List (List ℕ × WellFormed))
    → None ≡ lookup k ps → some_has k passes (pair_trees ps) ≡ false
some_has-None k passes [] h = refl
some_has-None k passes (p ∷ ps) h =
    elim (bytes_eq k p.0) as (λ b. None ≡ cond b (Some p.1) (lookup k ps)
    → (b && passes (tree_of p.1)) || some_has k passes (pair_trees ps) ≡ false) [
      | true ↦ λ e. cc
      | false ↦ λ e. some_has-None k passes ps e
    ] h

or-false : (b : Bool) → b || false ≡ b
or-false true = refl
or-false false = refl

-- If the keys are distinct and a lookup of `k` returns `u`, then `some_has` for `k` is the result
-- of the test `passes` on `u`.
some_has-Some : (k : List ℕ) (passes : Tree → Bool) (ps : List (List ℕ × WellFormed)) (u : WellFormed)
    → IsDistinct (keys_of ps) → Some u ≡ lookup k ps → some_has k passes (pair_trees ps) ≡ passes (tree_of u)
some_has-Some k passes [] u d h = cc
some_has-Some k passes (p ∷ ps) u d h =
    elim (bytes_eq k p.0) as (λ b. bytes_eq k p.0 ≡ b → Some u ≡ cond b (Some p.1) (lookup k ps)
    → (b && passes (tree_of p.1)) || some_has k passes (pair_trees ps) ≡ passes (tree_of u)) [
      | true ↦ λ e q.
          let k_is : k ≡ p.0 = (bytes_decides k p.0).0 e in
          let u_is : u ≡ p.1 = cc in
          let gone : some_has p.0 passes (pair_trees ps) ≡ false = some_has-lacking p.0 passes ps d.0 in
          ap (λ j. passes (tree_of p.1) || some_has j passes (pair_trees ps)) k_is
          ∙ ap (λ b. passes (tree_of p.1) || b) gone
          ∙ or-false (passes (tree_of p.1)) ∙ ap (λ v. passes (tree_of v)) (sym u_is)
      | false ↦ λ e q. some_has-Some k passes ps u d.1 q
    ] refl h

-- `same_in` is true for the entries from index `i` on exactly if the entry at `i` has a match in
-- `qs` and `same_in` is true for the entries after `i`.
in-drop : (ps : List (List ℕ × WellFormed)) (qs : Members) (i : ℕ) (p : List ℕ × WellFormed)
    → i < length ps → p ≡ get_or ps i p
    → same_in (pair_trees (drop i ps)) qs
    ≡ (some_has p.0 (same (tree_of p.1)) qs && same_in (pair_trees (drop (suc i) ps)) qs)
in-drop ps qs i p h e = ap (λ l. same_in (pair_trees l) qs) (drop-cons ps i p h)
    ∙ ap (λ q. some_has q.0 (same (tree_of q.1)) qs && same_in (pair_trees (drop (suc i) ps)) qs) (sym e)

-- If `qs` lacks the key of the entry at index `i`, then `same_in` is false for the entries from `i`
-- on.
pub in-drop-None : (ps qs : List (List ℕ × WellFormed)) (i : ℕ) (p : List ℕ × WellFormed)
    → i < length ps → p ≡ get_or ps i p → None ≡ lookup p.0 qs
    → same_in (pair_trees (drop i ps)) (pair_trees qs) ≡ false
in-drop-None ps qs i p h e none = in-drop ps (pair_trees qs) i p h e
    ∙ ap (λ b. b && same_in (pair_trees (drop (suc i) ps)) (pair_trees qs))
    (some_has-None p.0 (same (tree_of p.1)) qs none)

-- If a lookup of the key of the entry at index `i` returns `u`, then `same_in` is true for the
-- entries from `i` on exactly if the two values are the same and `same_in` is true for the entries
-- after `i`.
pub in-drop-Some : (ps : List (List ℕ × WellFormed)) (s : Store WellFormed) (i : ℕ) (p : List ℕ × WellFormed)
    (u : WellFormed) (b : Bool) → i < length ps → p ≡ get_or ps i p
    → Some u ≡ lookup p.0 s.pairs → b ≡ same (tree_of p.1) (tree_of u)
    → same_in (pair_trees (drop i ps)) (pair_trees s.pairs)
    ≡ (b && same_in (pair_trees (drop (suc i) ps)) (pair_trees s.pairs))
in-drop-Some ps s i p u b h e some is = in-drop ps (pair_trees s.pairs) i p h e
    ∙ ap (λ c. c && same_in (pair_trees (drop (suc i) ps)) (pair_trees s.pairs))
    (some_has-Some p.0 (same (tree_of p.1)) s.pairs u s.distinct some ∙ sym is)

and-false : (b : Bool) → (b && false) ≡ false
and-false true = refl
and-false false = refl

-- Arrays of different lengths are not the same.
pub each-other_lengths : (xs ys : List WellFormed) → length xs ≢ length ys
    → same_each (item_trees xs) (item_trees ys) ≡ false
each-other_lengths [] [] ne = absurd (ne refl)
each-other_lengths [] (y ∷ ys) ne = refl
each-other_lengths (x ∷ xs) [] ne = refl
each-other_lengths (x ∷ xs) (y ∷ ys) ne =
    ap (λ b. same (tree_of x) (tree_of y) && b) (each-other_lengths xs ys (λ e. ne (ap suc e)))
    ∙ and-false (same (tree_of x) (tree_of y))

-- Objects of the same length are the same exactly if `same_in` is true for their entries.
pub objects-lengths : (ps qs : List (List ℕ × WellFormed)) → length ps ≡ length qs
    → same (object (pair_trees ps)) (object (pair_trees qs)) ≡ same_in (pair_trees ps) (pair_trees qs)
objects-lengths ps qs e = ap (λ b. b && same_in (pair_trees ps) (pair_trees qs))
    (eq-eqb _ _ (members_len-pairs ps ∙ e ∙ sym (members_len-pairs qs)))

-- Objects of different lengths are not the same.
pub objects-other_lengths : (ps qs : List (List ℕ × WellFormed)) → length ps ≢ length qs
    → same (object (pair_trees ps)) (object (pair_trees qs)) ≡ false
objects-other_lengths ps qs ne =
    let d = Decides-eqb (members_len (pair_trees ps)) (members_len (pair_trees qs)) in
    elim (members_len (pair_trees ps) == members_len (pair_trees qs))
    as (λ b. (b ≡ true → members_len (pair_trees ps) ≡ members_len (pair_trees qs))
    → (b && same_in (pair_trees ps) (pair_trees qs)) ≡ false) [
      | true ↦ λ h. absurd (ne (sym (members_len-pairs ps) ∙ h refl ∙ members_len-pairs qs))
      | false ↦ λ h. refl
    ] d.0
