-- The bound on the number of slots that a lookup passes.
use Rattle.std.proofs.Common.{◌≡◌, ℕ, zero, suc, ◌+◌, ◌-◌, ◌<◌, ◌≤◌, inl, inr, arith, List, [], length, get_or, map, Option, Some, cond}
use Rattle.std.proofs.Common.{leb, sym, ap, ◌∙◌}
use Rattle.std.specs.Prelude.{sum}
use Rattle.std.proofs.lemmas.Bool.Decides.{nat_tests}
use Rattle.std.proofs.lemmas.List.{get_or-map, length-map}
use Rattle.std.proofs.lemmas.List.Sums.{sum-map}
use Rattle.std.proofs.Math.Nat.{mod-lt}
use Rattle.std.proofs.lemmas.Bool.{cases_lt}
use Rattle.ijson_table.specs.Crowd.{distance, home_of, homed, crowd, slot_count}
use Rattle.ijson_table.specs.Slots.{displacement, resident, home_at, IsTable}
use Rattle.ijson_table.specs.private.Probe.{onward, Passed}
use Rattle.ijson_table.proofs.arithmetic.Circular.{onward-below, onward-zero, distance-below, distance-onward, onward-distance}
use Rattle.ijson_table.proofs.arithmetic.Circular.{distance-seen, onward-onward, round, distance-round, onward-round}
use Rattle.ijson_table.proofs.arithmetic.Counting.{covers, nearest, greatest-at}
use Rattle.ijson_table.proofs.probing.ProbePath.{reached, displacement-some, from_empty, one_slot, in_list, home-key}

-- 1 if the home slot of `key` is among the `s + 1` slots that end at `h`, else 0.
abbrev near : (List ℕ → ℕ) → ℕ → ℕ → ℕ → List ℕ → ℕ
near hash n h s key = cond (leb (distance n (home_of hash n key) h) s) 1 0

-- The sum of `near` over all keys is `homed`.
homed-sum : (hash : List ℕ → ℕ) (n : ℕ) (keys : List (List ℕ)) (h s : ℕ) → sum (map (near hash n h s) keys) ≡ homed hash n keys h s
unfolding homed
homed-sum hash n keys h s = sum-map (near hash n h s) keys

-- If the home slot of key `i` is at most `s` slots before `h`, `near` is 1 for key `i`.
near-one : (hash : List ℕ → ℕ) (n : ℕ) (keys : List (List ℕ)) (h s i : ℕ) → i < length keys
    → distance n (home_at n (map hash keys) i) h ≤ s → near hash n h s (get_or keys i []) ≡ 1
near-one hash n keys h s i li le =
    let close : distance n (home_of hash n (get_or keys i [])) h ≤ s =
    omega (arith, le, ap (λ x. distance n x h) (home-key hash n keys i li)) in
    grind (arith, nat_tests)

-- The home slot of an index is below the number of slots.
pub home-below : (n : ℕ) (hashes : List ℕ) (i : ℕ) → 0 < n → home_at n hashes i < n
unfolding home_at
home-below n hashes i some = mod-lt (get_or hashes i 0) some

-- The slot `n` slots after slot `h` of `n` is `h`.
round-whole : (n h : ℕ) → h < n → onward n h n ≡ h
unfolding onward
round-whole n h lh = grind (arith, nat_tests)

-- For each number `s` below the number of slots, `homed` minus `s` is at most the size of the
-- collision cluster.
crowd-at : (hash : List ℕ → ℕ) (keys : List (List ℕ)) (c : ℕ) (key : List ℕ) (n : ℕ) → n ≡ slot_count c → (s : ℕ) → s < n
    → homed hash n keys (home_of hash n key) s - s ≤ crowd hash keys c key
unfolding crowd
crowd-at hash keys c key n size s ls =
    let here : homed hash (slot_count c) keys (home_of hash (slot_count c) key) s - s ≤ crowd hash keys c key =
    greatest-at (slot_count c) (λ r. homed hash (slot_count c) keys (home_of hash (slot_count c) key) r - r) s (omega arith) in
    omega (arith, here, ap (λ k. homed hash k keys (home_of hash k key) s) size)

module _ (hashes : List ℕ) (slots : List (Option ℕ)) (t : IsTable hashes slots) where
  -- If the resident `j + 1` slots after the empty slot `e` is at least `j - s` slots from its home
  -- slot, then its home slot is at most `s` slots before `h`.
  counts : (e h s j i : ℕ) → e < length slots → h < length slots → displacement hashes slots e ≡ 0 → distance (length slots) e h ≡ s + 1
      → j + 1 < length slots → resident slots (onward (length slots) e (j + 1)) ≡ Some i
      → j + 1 ≤ s + distance (length slots) (home_at (length slots) hashes i) (onward (length slots) e (j + 1)) + 1
      → home_at (length slots) hashes i < length slots
      → distance (length slots) (home_at (length slots) hashes i) h ≤ s
  counts e h s j i le lh none way lj there close lx =
      let n : ℕ = length slots in
      let q : ℕ = onward n e (j + 1) in
      let lq : q < n = onward-below n e (j + 1) le (omega arith) in
      let x : ℕ = home_at n hashes i in
      let got : displacement hashes slots q ≤ j + 1 = from_empty hashes slots t.ordered e le none (j + 1) lj in
      let is : displacement hashes slots q ≡ distance n x q + 1 = displacement-some hashes slots q i there in
      let at : distance n e q ≡ j + 1 = distance-onward n e (j + 1) le lj in
      let bx : distance n e x < n = distance-below n e x le lx in
      let seen_q = distance-seen n e x q le lx lq in
      let seen_h = distance-seen n e x h le lx lh in
      elim seen_q [
        | inl a ↦ elim seen_h [ inl b ↦ omega arith | inr b ↦ omega arith ]
        | inr a ↦ omega arith
      ]

module _ (hash : List ℕ → ℕ) (keys : List (List ℕ)) (slots : List (Option ℕ)) (t : IsTable (map hash keys) slots) where
  abbrev hashes : List ℕ
  hashes = map hash keys

  -- If the `s + 1` slots after the empty slot `e` up to `h` have residents, and a probe from `h`
  -- passes `m` slots, then at least `s + m` keys have their home slots among these `s + 1` slots.
  run : (e h s m : ℕ) → e < length slots → h < length slots → displacement hashes slots e ≡ 0 → distance (length slots) e h ≡ s + 1
      → ((j : ℕ) → 0 < j → j ≤ s + 1 → 0 < displacement hashes slots (onward (length slots) e j))
      → ((j : ℕ) → j < m → j + 1 ≤ displacement hashes slots (onward (length slots) h j))
      → m ≤ length slots → m + s ≤ homed hash (length slots) keys h s
  run e h s m le lh none way full far lm =
      let n : ℕ = length slots in
      let lw : distance n e h < n = distance-below n e h le lh in
      let fits : s + 1 + m ≤ n = elim (cases_lt n (s + 1 + m)) [
        | inl over ↦
            let back : onward n h (n - distance n e h) ≡ e = round n e h le lh in
            let same : onward n h (n - (s + 1)) ≡ onward n h (n - distance n e h) = ap (λ d. onward n h (n - d)) (sym way) in
            omega (arith, far (n - (s + 1)) (omega arith), ap (displacement hashes slots) (same ∙ back))
        | inr within ↦ within
      ] in
      let R : ℕ → ℕ → Type 0 = λ i j. resident slots (onward n e (j + 1)) ≡ Some i in
      let ns : List ℕ = map (near hash n h s) keys in
      let all : m + s ≤ sum ns = covers (m + s) R ns
      (λ i j l lj ll a b.
      let same : onward n e (j + 1) ≡ onward n e (l + 1) =
      one_slot hashes slots t (onward n e (j + 1)) (onward n e (l + 1)) i (onward-below n e (j + 1) le (omega arith))
      (onward-below n e (l + 1) le (omega arith)) a b in
      omega (arith, distance-onward n e (j + 1) le (omega arith), distance-onward n e (l + 1) le (omega arith), ap (distance n e) same))
      (λ j lj.
      let q : ℕ = onward n e (j + 1) in
      let lq : q < n = onward-below n e (j + 1) le (omega arith) in
      let height : (0 < displacement hashes slots q) × (j + 1 ≤ s + displacement hashes slots q) = elim (cases_lt j (s + 1)) [
        | inl before ↦ let got : 0 < displacement hashes slots q = full (j + 1) (omega arith) (omega arith) in (got, omega arith)
        | inr behind ↦
            let k : ℕ = j - s in
            let slot : onward n h k ≡ q = ap (λ p. onward n p k) (sym (onward-distance n e h le lh))
            ∙ (ap (λ d. onward n (onward n e d) k) way ∙ (onward-onward n e (s + 1) k le (omega arith) (omega arith)
            ∙ ap (onward n e) (omega arith))) in
            let got : k + 1 ≤ displacement hashes slots (onward n h k) = far k (omega arith) in
            let eq : displacement hashes slots (onward n h k) ≡ displacement hashes slots q = ap (displacement hashes slots) slot in
            (omega arith, omega arith)
      ] in
      let who = reached hashes slots q height.0 in
      let i : ℕ = who.0 in
      let li : i < length keys = omega (arith, in_list hashes slots t q i lq who.1, length-map keys hash) in
      let is : displacement hashes slots q ≡ distance n (home_at n hashes i) q + 1 = displacement-some hashes slots q i who.1 in
      let lx : home_at n hashes i < n = home-below n hashes i (omega arith) in
      let ok : distance n (home_at n hashes i) h ≤ s = counts hashes slots t e h s j i le lh none way (omega arith) who.1
      (omega arith) lx in (
        i,
        omega (arith, length-map keys (near hash n h s)),
        who.1,
        omega
            (arith, get_or-map (near hash n h s) keys i [] 0 li, near-one hash n keys h s i li ok),
      ))
      in omega (arith, homed-sum hash n keys h s)

  -- If a slot is empty, a lookup passes at most as many slots as the size of the collision cluster
  -- of its key.
  pub within_crowd : (c : ℕ) → length slots ≡ slot_count c → (key : List ℕ) (m e : ℕ) → m ≤ length slots → e < length slots
      → displacement hashes slots e ≡ 0
      → Passed (displacement hashes slots) (length slots) (home_of hash (length slots) key) m → m ≤ crowd hash keys c key
  within_crowd c size key zero e lm le none passed = omega arith
  within_crowd c size key (suc m) e lm le none passed =
      let n : ℕ = length slots in
      let h : ℕ = home_of hash n key in
      let lh : h < n = mod-lt (hash key) (omega arith) in
      let f : ℕ → ℕ = λ k. displacement hashes slots (onward n h (n - k)) in
      let d : ℕ = distance n e h in
      let ld : d < n = distance-below n e h le lh in
      let found = nearest d f (ap (displacement hashes slots) (round n e h le lh) ∙ none) in
      let w : ℕ = found.0 in
      let lw : w < n = omega (arith, found.1) in
      let e' : ℕ = onward n h (n - w) in
      let le' : e' < n = onward-below n h (n - w) lh (omega arith) in
      let way : distance n e' h ≡ w = distance-round n h w lh lw in
      let at_home : 1 ≤ displacement hashes slots h = omega
      (arith, passed.far 0 (omega arith), ap (displacement hashes slots) (onward-zero n h lh)) in
      let apart : 0 < w = elim (cases_lt 0 w) [
        | inl more ↦ more
        | inr none_left ↦
            let gone : w ≡ 0 = omega arith in let whole : n - w ≡ n = omega arith in let same : e' ≡ h =
            ap (onward n h) whole ∙ round-whole n h lh in
            omega (arith, found.2, ap (displacement hashes slots) same)
      ] in
      let full : (j : ℕ) → 0 < j → j ≤ w - 1 + 1 → 0 < displacement hashes slots (onward n e' j) = λ j pos lj.
      let to : onward n e' j ≡ onward n h (n - (w - j)) = onward-round n h w j lh lw (omega arith) in
      omega (arith, found.3 (w - j) (omega arith), ap (displacement hashes slots) to) in
      let many : suc m + (w - 1) ≤ homed hash n keys h (w - 1) =
      run e' h (w - 1) (suc m) le' lh found.2 (way ∙ omega arith) full passed.far lm in
      omega (arith, crowd-at hash keys c key n size (w - 1) (omega arith))
