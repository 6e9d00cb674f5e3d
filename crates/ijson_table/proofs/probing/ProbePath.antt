-- If a lookup passes no resident with the key sought and ends as `Vacant` or `Full`, the key is
-- missing.
use Rattle.std.proofs.Common.{◌≡◌, ◌≢◌, ℕ, zero, suc, ◌+◌, ◌-◌, ◌%◌, ◌<◌, ◌≤◌, ◌⊎◌, inl, inr, arith, List, [], length, map, get_or, Option}
use Rattle.std.proofs.Common.{Some, None, refl, sym, ap, subst, ◌∙◌}
use Rattle.std.proofs.lemmas.Bool.Decides.{nat_tests}
use Rattle.std.proofs.lemmas.List.{get_or-map, length-map}
use Rattle.std.proofs.Math.Nat.{mod-lt}
use Rattle.std.proofs.lemmas.Bool.{cases_lt}
use Rattle.ijson_table.specs.Crowd.{distance, home_of}
use Rattle.ijson_table.specs.Slots.{after, displacement, resident, home_at, displaced, times, IsOrdered, IsTable}
use Rattle.ijson_table.specs.private.Probe.{onward, Passed}
use Rattle.ijson_table.proofs.arithmetic.Circular.{onward-below, onward-zero, after-onward, distance-below, onward-distance}
use Rattle.ijson_table.proofs.slots.Residents.{stands, stands_once, times-some}

module _ (hashes : List ℕ) (slots : List (Option ℕ)) where
  -- If slot `p` has resident `i`, its displacement is the distance of `i` from its home slot, plus
  -- one.
  pub displacement-some : (p i : ℕ) → resident slots p ≡ Some i
      → displacement hashes slots p ≡ distance (length slots) (home_at (length slots) hashes i) p + 1
  unfolding displacement
  displacement-some p i e = ap (displaced (length slots) hashes p) e

  -- The displacement of an empty slot is 0.
  pub displacement-none : (p : ℕ) → resident slots p ≡ None → displacement hashes slots p ≡ 0
  unfolding displacement
  displacement-none p e = ap (displaced (length slots) hashes p) e

  -- If the displacement of `o` is positive, `o` is a resident.
  someone : (p : ℕ) (o : Option ℕ) → 0 < displaced (length slots) hashes p o → (i : ℕ) × (o ≡ Some i)
  someone p None h = absurd (omega (arith, h))
  someone p (Some i) h = (i, refl)

  -- A slot with a positive displacement has a resident.
  pub reached : (p : ℕ) → 0 < displacement hashes slots p → (i : ℕ) × (resident slots p ≡ Some i)
  unfolding displacement
  reached p h = someone p (resident slots p) h

  -- If the resident of `p` is displaced at least as far as a key with home slot `h` would be in
  -- `p`, the same holds for each slot on the way from `h` to `p`.
  pub on_the_way : IsOrdered hashes slots → (h p : ℕ) → h < length slots → p < length slots
      → distance (length slots) h p + 1 ≤ displacement hashes slots p
      → (k m : ℕ) → m + k ≡ distance (length slots) h p → m + 1 ≤ displacement hashes slots (onward (length slots) h m)
  on_the_way ordered h p lh lp far zero m e =
      let there : onward (length slots) h m ≡ p = ap (onward (length slots) h) (omega (arith, e))
      ∙ onward-distance (length slots) h p lh lp in
      omega (arith, far, ap (displacement hashes slots) there)
  on_the_way ordered h p lh lp far (suc k) m e =
      let below = distance-below (length slots) h p lh lp in
      let further : m + 1 + 1 ≤ displacement hashes slots (onward (length slots) h (m + 1)) =
      on_the_way ordered h p lh lp far k (m + 1) (omega arith) in
      let here : onward (length slots) h m < length slots = onward-below (length slots) h m lh (omega arith) in
      let next : after (length slots) (onward (length slots) h m) ≡ onward (length slots) h (m + 1) =
      after-onward (length slots) h m lh (omega arith) in
      omega (arith, ordered (onward (length slots) h m) here, ap (displacement hashes slots) next)

  -- If slot `e` has displacement 0, the slot `k` slots after `e` has a displacement of at most `k`.
  pub from_empty : IsOrdered hashes slots → (e : ℕ) → e < length slots → displacement hashes slots e ≡ 0
      → (k : ℕ) → k < length slots → displacement hashes slots (onward (length slots) e k) ≤ k
  from_empty ordered e le none zero lk = omega (arith, ap (displacement hashes slots) (onward-zero (length slots) e le))
  from_empty ordered e le none (suc k) lk =
      let before : displacement hashes slots (onward (length slots) e k) ≤ k = from_empty ordered e le none k (omega arith) in
      let here : onward (length slots) e k < length slots = onward-below (length slots) e k le (omega arith) in
      let next : after (length slots) (onward (length slots) e k) ≡ onward (length slots) e (k + 1) =
      after-onward (length slots) e k le (omega arith) in
      let same : onward (length slots) e (k + 1) ≡ onward (length slots) e (suc k) = ap (onward (length slots) e) (omega arith) in
      omega (arith, ordered (onward (length slots) e k) here, ap (displacement hashes slots) next, ap (displacement hashes slots) same)

-- If index `i` is in a slot, a probe from the home slot of `i` passes `i` before it can end as
-- `Vacant` or `Full`.
pub passed_by : (hashes : List ℕ) (slots : List (Option ℕ)) → IsOrdered hashes slots → (i p m : ℕ) → p < length slots
    → resident slots p ≡ Some i
    → (length slots ≤ m) ⊎ (displacement hashes slots (onward (length slots) (home_at (length slots) hashes i) m) ≤ m)
    → (j : ℕ) × (j < m) × (resident slots (onward (length slots) (home_at (length slots) hashes i) j) ≡ Some i)
unfolding home_at
passed_by hashes slots ordered i p m lp there ended =
    let n : ℕ = length slots in
    let h : ℕ = home_at n hashes i in
    let lh : h < n = mod-lt (get_or hashes i 0) (omega (arith, lp)) in
    let d : ℕ = distance n h p in
    let far : d + 1 ≤ displacement hashes slots p = omega (arith, displacement-some hashes slots p i there) in
    elim (cases_lt d m) [
      | inl early ↦ (d, early, ap (resident slots) (onward-distance n h p lh lp) ∙ there)
      | inr late ↦ absurd (elim ended [
        | inl all ↦ omega (arith, distance-below n h p lh lp)
        | inr stop ↦ omega (arith, on_the_way hashes slots ordered h p lh lp far (d - m) m (omega arith))
      ])
    ]

-- Each index of a table is in a slot.
pub placed_at : (hashes : List ℕ) (slots : List (Option ℕ)) → IsTable hashes slots → (i : ℕ) → i < length hashes
    → (p : ℕ) × (p < length slots) × (resident slots p ≡ Some i)
placed_at hashes slots t i li =
    let one : times i slots ≡ 1 = grind (arith, nat_tests, t.placed i) in
    stands i slots (omega arith)

-- In a table, slots with the same resident are equal.
pub one_slot : (hashes : List ℕ) (slots : List (Option ℕ)) → IsTable hashes slots → (p q i : ℕ) → p < length slots → q < length slots
    → resident slots p ≡ Some i → resident slots q ≡ Some i → p ≡ q
one_slot hashes slots t p q i lp lq ep eq =
    let one : times i slots ≤ 1 = grind (arith, nat_tests, t.placed i) in
    stands_once i slots p q one lp lq ep eq

-- Each resident of a table is below the number of hashes.
pub in_list : (hashes : List ℕ) (slots : List (Option ℕ)) → IsTable hashes slots → (p i : ℕ) → p < length slots → resident slots p ≡ Some i
    → i < length hashes
in_list hashes slots t p i lp e =
    let some = times-some i slots p lp e in
    grind (arith, nat_tests, t.placed i, some)

-- The home slot of index `i` is the home slot of key `i`.
pub home-key : (hash : List ℕ → ℕ) (n : ℕ) (keys : List (List ℕ)) (i : ℕ) → i < length keys
    → home_at n (map hash keys) i ≡ home_of hash n (get_or keys i [])
unfolding home_at
home-key hash n keys i li = ap (λ x. x % n) (get_or-map hash keys i [] 0 li)

-- If a lookup passes no resident with `key` and ends as `Vacant` or `Full`, `key` is missing.
pub absent : (hash : List ℕ → ℕ) (keys : List (List ℕ)) (slots : List (Option ℕ)) → IsTable (map hash keys) slots → (key : List ℕ) (m : ℕ)
    → 0 < length slots
    → Passed (displacement (map hash keys) slots) (length slots) (home_of hash (length slots) key) m
    → ((j i : ℕ) → j < m → resident slots (onward (length slots) (home_of hash (length slots) key) j) ≡ Some i → get_or keys i [] ≢ key)
    → (length slots ≤ m) ⊎ (displacement (map hash keys) slots (onward (length slots) (home_of hash (length slots) key) m) ≤ m)
    → (i : ℕ) → i < length keys → get_or keys i [] ≢ key
absent hash keys slots t key m some passed others ended i li same =
    let n : ℕ = length slots in
    let spot = placed_at (map hash keys) slots t i (omega (arith, li, length-map keys hash)) in
    let home : home_of hash n key ≡ home_at n (map hash keys) i = sym (home-key hash n keys i li ∙ ap (home_of hash n) same) in
    let by = passed_by (map hash keys) slots t.ordered i spot.0 m spot.1 spot.2
    (subst (λ h. (n ≤ m) ⊎ (displacement (map hash keys) slots (onward n h m) ≤ m)) home ended) in
    others by.0 i by.1 (subst (λ h. resident slots (onward n h by.0) ≡ Some i) (sym home) by.2) same
