-- The end of a probe for a key (`Found`, `Vacant` or `Full`) satisfies `LookUpEnds`, and the number
-- of inspections is within the bounds.
use Rattle.std.proofs.Common.{◌≡◌, ◌≢◌, ℕ, ◌%◌, ◌<◌, ◌≤◌, inl, inr, arith, Bool, List, [], ◌∷◌, ◌++◌, length, map, get_or}
use Rattle.std.proofs.Common.{Option, Some, sym, ap, subst, ◌∙◌}
use Rattle.std.proofs.lemmas.List.{length-map}
use Rattle.std.proofs.Math.Nat.{mod-lt}
use Rattle.std.proofs.Math.ListN.{get_or-append}
use Rattle.std.proofs.Math.Seq.{get_or-append_seam}
use Rattle.ijson_table.specs.Crowd.{home_of, slot_count}
use Rattle.ijson_table.specs.Slots.{displacement, home_at, resident, IsTable, IsBounded}
use Rattle.ijson_table.specs.Store.{position_of, IsDistinct}
use Rattle.ijson_table.specs.declared.index.probe.Probed.{Probed}
use Rattle.ijson_table.specs.declared.index.probe.Probed.TheVariants.{Found, Vacant, Full}
use Rattle.ijson_table.specs.private.Holds.{MayStand}
use Rattle.ijson_table.specs.private.Lookup.{found_at, is_key, LookUpEnds}
use Rattle.ijson_table.specs.private.Probe.{onward, Passed, PassedOthers, EndsAt, Ends}
use Rattle.ijson_table.proofs.arithmetic.Circular.{onward-below}
use Rattle.ijson_table.proofs.pairs.KeyPositions.{position-none, position-distinct}
use Rattle.ijson_table.proofs.probing.KeyTests.{is_key-true, is_key-false}
use Rattle.ijson_table.proofs.probing.LookCount.{bounded_there, bounded_all}
use Rattle.ijson_table.proofs.shifting.Insertion.{may_end, not_round}
use Rattle.ijson_table.proofs.shifting.Removal.{displacement-as}
use Rattle.ijson_table.proofs.probing.ProbePath.{absent, displacement-none, in_list}

module _ (hashes : List ℕ) (slots : List (Option ℕ)) (t : IsTable hashes slots) (hash : ℕ) where
  abbrev longer : List ℕ
  longer = hashes ++ hash ∷ []

  -- The home slot of the appended index is `hash % n`.
  home-last : (n : ℕ) → home_at n longer (length hashes) ≡ hash % n
  unfolding home_at
  home-last n = ap (λ x. x % n) (get_or-append_seam hashes hash [] 0)

  -- Appending a hash keeps the displacement of each slot.
  displacement-longer : (p : ℕ) → p < length slots → displacement longer slots p ≡ displacement hashes slots p
  displacement-longer p lp = displacement-as hashes longer slots p
      (λ i e. get_or-append hashes (hash ∷ []) 0 i (in_list hashes slots t p i lp e))

  -- A probe for the appended index ends at a slot at which the index may be inserted.
  pub may_last : (p m : ℕ) → m < length slots → p ≡ onward (length slots) (hash % length slots) m
      → Passed (displacement hashes slots) (length slots) (hash % length slots) m
      → displacement hashes slots p ≤ m → MayStand longer slots (length hashes) p
  may_last p m lm there passed near =
      let n : ℕ = length slots in
      let h : ℕ = hash % n in
      let lh : h < n = mod-lt hash (omega (arith, lm)) in
      let home : home_at n longer (length hashes) ≡ h = home-last n in
      let far : Passed (displacement longer slots) n h m =
      record {
        far = λ j lj. omega (
          arith,
          passed.far j lj,
          displacement-longer (onward n h j)
              (onward-below n h j lh (omega arith)),
        );
      } in
      let here : onward n h m < n = onward-below n h m lh (omega arith) in
      subst (MayStand longer slots (length hashes)) (ap (λ x. onward n x m) home ∙ sym there)
      (may_end longer slots (length hashes) m lm (omega (arith, lh, home))
      (subst (λ x. Passed (displacement longer slots) n x m) (sym home) far)
      (omega (
        arith,
        near,
        ap (displacement hashes slots) there,
        displacement-longer (onward n h m) here,
        ap
            (λ x. displacement longer slots (onward n x m)) home,
      )))

module _ (hash : List ℕ → ℕ) (keys : List (List ℕ)) (slots : List (Option ℕ)) (t : IsTable (map hash keys) slots) (key : List ℕ) where
  abbrev hashes : List ℕ
  hashes = map hash keys

  abbrev seeks : ℕ → Bool
  seeks = is_key keys key

  abbrev home : ℕ
  home = home_of hash (length slots) key

  -- Each resident is below the number of keys.
  listed : (p i : ℕ) → p < length slots → resident slots p ≡ Some i → i < length keys
  listed p i lp there = omega (arith, in_list hashes slots t p i lp there, length-map keys hash)

  -- The residents that the probe passed have keys other than `key`.
  other_keys : (m : ℕ) → 0 < length slots → m ≤ length slots → PassedOthers slots seeks home m → (j i : ℕ) → j < m
      → resident slots (onward (length slots) home j) ≡ Some i → get_or keys i [] ≢ key
  other_keys m some lm others j i lj there =
      is_key-false keys key i (others j i lj there)

  -- The end of a probe for `key` satisfies `LookUpEnds`.
  pub look_up_ends : IsDistinct keys → 0 < length slots → (end : Probed) (looks : ℕ)
      → Ends slots (displacement hashes slots) home seeks looks end → LookUpEnds hashes keys slots (hash key) key end
  look_up_ends distinct some (Found i p) looks ends =
      let at : EndsAt slots (displacement hashes slots) home seeks looks p ends.0 = ends.1 in
      let lp : p < length slots = omega (
        arith,
        onward-below (length slots) home ends.0 (mod-lt (hash key) some)
            (omega (arith, at.within)),
        at.there,
      ) in
      let li : i < length keys = listed p i lp ends.2 in
      position-distinct keys key i distinct li (is_key-true keys key i ends.3)
  look_up_ends distinct some (Vacant p) looks ends =
      let at : EndsAt slots (displacement hashes slots) home seeks looks p ends.0 = ends.1 in
      let near : displacement hashes slots (onward (length slots) home ends.0) ≤ ends.0 =
      omega (arith, ends.2, ap (displacement hashes slots) at.there) in (
        position-none keys key (absent hash keys slots t key ends.0 some at.passed
            (other_keys ends.0 some (omega (arith, at.within)) at.others) (inr near)),
        omega (arith, onward-below (length slots) home ends.0 (mod-lt (hash key) some) (omega (arith, at.within)), at.there),
        may_last hashes slots t (hash key) p ends.0 at.within at.there at.passed ends.2,
      )
  look_up_ends distinct some Full looks ends = (
    position-none keys key (absent hash keys slots t key (length slots) some ends.0 (other_keys (length slots) some (omega arith) ends.1)
        (inl (omega arith))),
    λ e. not_round (displacement hashes slots) (length slots) home e.0 (mod-lt (hash key) some) e.1
        (displacement-none hashes slots e.0 e.2) ends.0,
  )

  -- The number of inspections of a probe for `key` is within the bounds.
  pub bounded : (c : ℕ) → length slots ≡ slot_count c → (end : Probed) (looks : ℕ)
      → Ends slots (displacement hashes slots) home seeks looks end → IsBounded hash keys slots c key looks
  bounded c size (Found i p) looks ends = bounded_there hash keys slots t c size key ends.0 looks ends.1.within ends.1.looked ends.1.passed
  bounded c size (Vacant p) looks ends = bounded_there hash keys slots t c size key ends.0 looks ends.1.within ends.1.looked ends.1.passed
  bounded c size Full looks ends = bounded_all hash keys slots t c size key looks ends.2 ends.0

-- If the end of a lookup satisfies `LookUpEnds`, the index that it found is the index of `key`.
pub found_at-ends : (hs : List ℕ) (keys : List (List ℕ)) (slots : List (Option ℕ)) (hash : ℕ) (key : List ℕ) (end : Probed)
    → LookUpEnds hs keys slots hash key end → found_at end ≡ position_of keys key
found_at-ends hs keys slots hash key (Found i p) told = sym told
found_at-ends hs keys slots hash key (Vacant p) told = sym told.0
found_at-ends hs keys slots hash key Full told = sym told.0
