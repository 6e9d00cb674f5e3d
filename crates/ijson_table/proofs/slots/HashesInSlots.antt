-- The hashes that slots store with indices.
use Rattle.std.proofs.Common.{◌≡◌, ◌≢◌, zero, suc, Bool, inl, inr, get_or-set_other, get_or-set_same, ℕ, ◌<◌, ◌%◌, ◌+◌, arith, List, length}
use Rattle.std.proofs.Common.{get_or, map, set, Option, Some, None, refl, ap, sym, subst, ◌∙◌}
use Rattle.std.specs.List.{All, slice_index_or}
use Rattle.std.proofs.lemmas.List.{get_or-map, length-map, length-set, map-set}
use Rattle.std.proofs.lemmas.List.Elements.{All-get_or, All-from_get_or, All-set}
use Rattle.std.proofs.lemmas.Bool.{cases_eq}
use Rattle.ijson_table.specs.declared.slot.Slot.{Slot}
use Rattle.ijson_table.specs.Crowd.{distance}
use Rattle.ijson_table.specs.Slots.{home_at, displaced, displacement, resident}
use Rattle.ijson_table.proofs.probing.ProbePath.{displacement-some}
use Rattle.ijson_table.specs.private.KeptHash.{kept}
use Rattle.ijson_table.specs.private.SlotHashes.{position_in, positions, blank, coded_position, displaced_by, displacement_in, HasHash}
use Rattle.ijson_table.specs.private.SlotHashes.{HaveHashes, SeenAs}
use Rattle.ijson_table.specs.private.Probe.{LooksAt}
use Rattle.ijson_table.proofs.slots.KeptHashes.{kept-home}
use Rattle.ijson_table.specs.declared.slot.Seen.{Seen}
use Rattle.ijson_table.specs.declared.slot.Seen.TheVariants.{Empty, Resident}

-- The length of `positions` equals the number of slots.
pub positions-length : (slots : List Slot) → length (positions slots) ≡ length slots
positions-length slots = length-map slots position_in

-- Writing a slot writes its index to `positions`.
pub positions-set : (slots : List Slot) (p : ℕ) (slot : Slot) → positions (set slots p slot) ≡ set (positions slots) p (position_in slot)
positions-set slots p slot = map-set position_in slots p slot

-- Writing a slot with index `i` writes `Some i` to `positions`.
pub positions-put : (slots : List Slot) (p : ℕ) (slot : Slot) (i : ℕ) → position_in slot ≡ Some i
    → positions (set slots p slot) ≡ set (positions slots) p (Some i)
positions-put slots p slot i at = positions-set slots p slot ∙ ap (set (positions slots) p) at

-- The resident of slot `p` is the index in the slot that was read at `p`.
pub position-at : (slots : List Slot) (p : ℕ) (read : Option ℕ) → p < length slots → read ≡ position_in (get_or slots p blank)
    → resident (positions slots) p ≡ read
position-at slots p read lp is = get_or-map position_in slots p blank None lp ∙ sym is

-- The stored slot that was read at `p` represents slot `p`.
pub seen_at : {X : Type 0} (f : X → Slot) (slots : List X) (p : ℕ) (read : X) → p < length (map f slots) → read ≡ get_or slots p read
    → f read ≡ get_or (map f slots) p blank
seen_at f slots p read lp is = ap f is ∙ sym (get_or-map f slots p read blank (omega (arith, lp, length-map slots f)))

-- An empty slot satisfies `HasHash` for any hashes.
pub nothing_has_hash : (n : ℕ) (hashes : List ℕ) (slot : Slot) → position_in slot ≡ None → HasHash n hashes slot
nothing_has_hash n hashes slot none i e = let bad : ◌≡◌ {A = Option ℕ} (Some i) None = sym e ∙ none in cc

-- A slot with the kept hash of its index satisfies `HasHash`.
pub has_own_hash : (n : ℕ) (hashes : List ℕ) (slot : Slot) (i : ℕ) → position_in slot ≡ Some i → slot.hash ≡ kept n (get_or hashes i 0)
    → HasHash n hashes slot
has_own_hash n hashes slot i at is k e =
    let who : ◌≡◌ {A = Option ℕ} (Some i) (Some k) = sym at ∙ e in
    let same : i ≡ k = cc in
    is ∙ ap (λ j. kept n (get_or hashes j 0)) same

module _ (n : ℕ) (hashes : List ℕ) where
  -- If the slots satisfy `HaveHashes`, the slot at `p` satisfies `HasHash`.
  pub hashes-at : (slots : List Slot) (p : ℕ) → HaveHashes n hashes slots → p < length slots → HasHash n hashes (get_or slots p blank)
  hashes-at slots p have lp = All-get_or (HasHash n hashes) slots p blank lp have

  -- Writing a slot that satisfies `HasHash` keeps `HaveHashes`.
  pub hashes-set : (slots : List Slot) (p : ℕ) (slot : Slot) → HasHash n hashes slot → HaveHashes n hashes slots
      → HaveHashes n hashes (set slots p slot)
  hashes-set slots p slot has have = All-set (HasHash n hashes) slots p slot has have

  -- The home slot of an index is the stored hash modulo the number of slots.
  hash-home : (i : ℕ) (slot : Slot) → HasHash n hashes slot → position_in slot ≡ Some i → slot.hash % n ≡ home_at n hashes i
  unfolding home_at
  hash-home i slot has at = ap (λ h. h % n) (has i at) ∙ kept-home n (get_or hashes i 0)

  -- A distance from the home slot of the stored hash is a distance from the home slot of the index.
  pub hash-distance : (p i d : ℕ) (slot : Slot) → HasHash n hashes slot → position_in slot ≡ Some i → d ≡ distance n (slot.hash % n) p
      → d ≡ distance n (home_at n hashes i) p
  hash-distance p i d slot has at is = is ∙ ap (λ h. distance n h p) (hash-home i slot has at)

  -- The displacement of a slot by its stored hash is its displacement by the hash of its key.
  displaced-by : (p code hash : ℕ) → HasHash n hashes (record { code = code; hash = hash })
      → displaced_by n p (record { code = code; hash = hash }) code ≡ displaced n hashes p
      (position_in (record { code = code; hash = hash }))
  displaced-by p zero hash has = refl
  displaced-by p (suc i) hash has = ap (λ h. distance n h p + 1) (hash-home i (record { code = suc i; hash = hash }) has refl)

  -- Empty slots satisfy `HaveHashes` for any hashes.
  pub hashes-none : (slots : List Slot) → All (λ slot. position_in slot ≡ None) slots → HaveHashes n hashes slots
  hashes-none slots empty = λ p d lp. nothing_has_hash n hashes (slice_index_or slots p d) (empty p d lp)

  -- If `hashes'` agrees with `hashes` at the index in a slot, the slot satisfies `HasHash` for
  -- `hashes'`.
  has_hash-as : (hashes' : List ℕ) (slot : Slot) → HasHash n hashes slot
      → ((i : ℕ) → position_in slot ≡ Some i → get_or hashes' i 0 ≡ get_or hashes i 0) → HasHash n hashes' slot
  has_hash-as hashes' slot has same i e = has i e ∙ sym (ap (kept n) (same i e))

  -- If `hashes'` agrees with `hashes` at all residents, the slots satisfy `HaveHashes` for
  -- `hashes'`.
  pub hashes-as : (hashes' : List ℕ) (slots : List Slot) → HaveHashes n hashes slots
      → ((p i : ℕ) → p < length (positions slots) → resident (positions slots) p ≡ Some i → get_or hashes' i 0 ≡ get_or hashes i 0)
      → HaveHashes n hashes' slots
  hashes-as hashes' slots have same = All-from_get_or (HasHash n hashes') slots blank (λ p lp.
      has_hash-as hashes' (get_or slots p blank) (hashes-at slots p have lp)
      (λ i e. same p i (omega (arith, lp, positions-length slots)) (position-at slots p (Some i) lp (sym e))))

  -- If `hashes'` agrees with `hashes` at the residents of all slots except `p`, the slots satisfy
  -- `HaveHashes` for `hashes'` after a slot that satisfies `HasHash` for `hashes'` is written to
  -- `p`.
  pub hashes-put : (hashes' : List ℕ) (slots : List Slot) (p : ℕ) (slot : Slot) → HaveHashes n hashes slots → HasHash n hashes' slot
      → ((q i : ℕ) → q < length (positions slots) → q ≢ p → resident (positions slots) q ≡ Some i → get_or hashes' i 0 ≡ get_or hashes i 0)
      → HaveHashes n hashes' (set slots p slot)
  hashes-put hashes' slots p slot have has same = All-from_get_or (HasHash n hashes') (set slots p slot) blank (λ q lq'.
      let lq : q < length slots = omega (arith, lq', length-set slots p slot) in
      elim (cases_eq q p) [
        | inl self ↦ subst (HasHash n hashes') (sym (ap (λ k. get_or (set slots p slot) k blank) self
            ∙ get_or-set_same slots p slot blank (omega (arith, lq, self)))) has
        | inr other ↦ subst (HasHash n hashes') (sym (get_or-set_other slots p q slot blank other))
            (has_hash-as hashes' (get_or slots q blank) (hashes-at slots q have lq)
            (λ i e. same q i (omega (arith, lq, positions-length slots)) other (position-at slots q (Some i) lq (sym e))))
      ])

module _ (hashes : List ℕ) where
  -- Writing a slot that satisfies `HasHash` for the number of slots keeps `HaveHashes` for this
  -- number.
  pub hashes-written : (slots : List Slot) (p : ℕ) (slot : Slot) → HasHash (length slots) hashes slot → HaveHashes (length slots) hashes slots
      → HaveHashes (length (set slots p slot)) hashes (set slots p slot)
  hashes-written slots p slot has have = subst (λ n. HaveHashes n hashes (set slots p slot)) (sym (length-set slots p slot))
      (hashes-set (length slots) hashes slots p slot has have)

  -- In each slot, the displacement by the stored hash is the displacement by the hash of the key.
  pub displacement-in : (slots : List Slot) (p : ℕ) → HaveHashes (length slots) hashes slots → p < length slots
      → displacement_in slots p ≡ displacement hashes (positions slots) p
  unfolding displacement_in displacement
  displacement-in slots p have lp =
      let slot : Slot = get_or slots p blank in
      let size : length slots ≡ length (positions slots) = sym (positions-length slots) in
      displaced-by (length slots) hashes p slot.code slot.hash (hashes-at (length slots) hashes slots p have lp)
      ∙ (ap (λ n. displaced n hashes p (position_in slot)) size
      ∙ ap (displaced (length (positions slots)) hashes p) (sym (position-at slots p (position_in slot) lp refl)))

  -- The displacement of a resident is one more than the distance computed from its stored hash.
  pub displacement-read : (slots : List Slot) (p i d : ℕ) → HaveHashes (length slots) hashes slots → p < length slots
      → Some i ≡ position_in (get_or slots p blank) → d ≡ distance (length slots) ((get_or slots p blank).hash % length slots) p
      → displacement hashes (positions slots) p ≡ d + 1
  displacement-read slots p i d have lp at is =
      let size : length slots ≡ length (positions slots) = sym (positions-length slots) in
      let far : d ≡ distance (length slots) (home_at (length slots) hashes i) p =
      hash-distance (length slots) hashes p i d (get_or slots p blank) (hashes-at (length slots) hashes slots p have lp) (sym at) is in
      omega (
        arith,
        displacement-some hashes (positions slots) p i (position-at slots p (Some i) lp at),
        far,
        ap
            (λ n. distance n (home_at n hashes i) p) size,
      )

-- If all slots are empty, each slot lacks a resident.
pub all_empty : (slots : List Slot) → All (λ slot. position_in slot ≡ None) slots → (p : ℕ) → p < length (positions slots)
    → resident (positions slots) p ≡ None
all_empty slots empty p lp =
    let within : p < length slots = omega (arith, lp, positions-length slots) in
    position-at slots p (position_in (get_or slots p blank)) within refl
    ∙ All-get_or (λ slot. position_in slot ≡ None) slots p blank within empty

-- The displacement of an empty slot, by its stored hash, is 0.
displaced_by-none : (n p : ℕ) (slot : Slot) (code : ℕ) → coded_position code ≡ None → displaced_by n p slot code ≡ 0
displaced_by-none n p slot zero e = refl
displaced_by-none n p slot (suc i) e = cc

-- The displacement of a resident, by its stored hash, is its distance from its home slot plus one.
displaced_by-some : (n p : ℕ) (slot : Slot) (code i : ℕ) → coded_position code ≡ Some i
    → displaced_by n p slot code ≡ distance n (slot.hash % n) p + 1
displaced_by-some n p slot zero i e = cc
displaced_by-some n p slot (suc j) i e = refl

-- If `same` agrees with `seeks` at the index in slot `p`, the inspection satisfies `LooksAt` for
-- the displacements by stored hashes.
pub looks_at : (slots : List Slot) (p : ℕ) (same : Bool) (seeks : ℕ → Bool) (seen : Seen) → p < length slots
    → SeenAs (get_or slots p blank) (length slots) p same seen
    → ((i : ℕ) → position_in (get_or slots p blank) ≡ Some i → same ≡ seeks i)
    → LooksAt (positions slots) (displacement_in slots) seeks p seen
unfolding displacement_in
looks_at slots p same seeks Empty lp seen is = (
  position-at slots p None lp (sym seen),
  displaced_by-none (length slots) p (get_or slots p blank) (get_or slots p blank).code seen,
)
looks_at slots p same seeks (Resident i d sought) lp seen is = (
  position-at slots p (Some i) lp (sym seen.0),
  displaced_by-some (length slots) p (get_or slots p blank) (get_or slots p blank).code i seen.0 ∙ ap (λ x. x + 1) (sym seen.1),
  seen.2 ∙ is i seen.0,
)

-- The displacement of an empty slot of a list, by the stored hashes, is 0.
pub displacement_in-none : (slots : List Slot) (p : ℕ) → p < length slots → resident (positions slots) p ≡ None
    → displacement_in slots p ≡ 0
unfolding displacement_in
displacement_in-none slots p lp none =
    displaced_by-none (length slots) p (get_or slots p blank) (get_or slots p blank).code
    (sym (position-at slots p (position_in (get_or slots p blank)) lp refl) ∙ none)
