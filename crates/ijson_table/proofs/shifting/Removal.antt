-- After a removal, the slots are a table of the remaining hashes.
use Rattle.std.proofs.Common.{◌≡◌, ◌≢◌, ℕ, ◌+◌, ◌%◌, ◌<◌, ◌≤◌, inl, inr, arith, List, [], length, get_or, set, Option, Some, None}
use Rattle.std.proofs.Common.{refl, sym, subst, ap, ◌∙◌}
use Rattle.std.proofs.lemmas.Bool.Decides.{nat_tests}
use Rattle.std.proofs.lemmas.List.{length-set}
use Rattle.ijson_table.specs.Crowd.{distance}
use Rattle.std.specs.List.{remove, swap_remove}
use Rattle.std.proofs.lemmas.List.Edits.{length-remove, get_or-remove_below}
use Rattle.std.proofs.lemmas.Bool.{cases_eq, cases_lt}
use Rattle.ijson_table.specs.declared.slot.Slot.{Slot}
use Rattle.ijson_table.specs.private.Holds.{one_if}
use Rattle.ijson_table.specs.private.Insertion.{IsTableBut, IsTableOf}
use Rattle.ijson_table.specs.private.KeptHash.{kept}
use Rattle.ijson_table.specs.private.SlotHashes.{blank, position_in, positions, HasHash, HaveHashes}
use Rattle.ijson_table.specs.Slots.{after, displacement, resident, home_at, times, IsOrdered, IsTable, displaced}
use Rattle.ijson_table.proofs.arithmetic.Circular.{after-below}
use Rattle.ijson_table.proofs.slots.HashesInSlots.{has_own_hash, hashes-as, hashes-at, hashes-put, position-at, positions-length, positions-put}
use Rattle.ijson_table.proofs.slots.Residents.{stands, stands_once, times-set, times-some}
use Rattle.ijson_table.proofs.shifting.ListSwapRemove.{length-swap_remove, swap_remove-same, swap_remove-other}
use Rattle.ijson_table.proofs.shifting.SlotWrites.{displacement-set_same, displacement-set_other}
use Rattle.ijson_table.proofs.probing.ProbePath.{displacement-some, displacement-none}

-- Lists of hashes that agree at the index in `o` displace `o` equally.
displaced-as : (n : ℕ) (hashes hashes' : List ℕ) (p : ℕ) (o : Option ℕ) → ((i : ℕ) → o ≡ Some i → get_or hashes' i 0 ≡ get_or hashes i 0)
    → displaced n hashes' p o ≡ displaced n hashes p o
unfolding home_at
displaced-as n hashes hashes' p None same = refl
displaced-as n hashes hashes' p (Some i) same = ap (λ x. distance n (x % n) p + 1) (same i refl)

-- Lists of hashes that agree at the resident of slot `p` displace the resident equally.
pub displacement-as : (hashes hashes' : List ℕ) (slots : List (Option ℕ)) (p : ℕ)
    → ((i : ℕ) → resident slots p ≡ Some i → get_or hashes' i 0 ≡ get_or hashes i 0)
    → displacement hashes' slots p ≡ displacement hashes slots p
unfolding displacement
displacement-as hashes hashes' slots p same = displaced-as (length slots) hashes hashes' p (resident slots p) same

-- If the slots are ordered for `hashes`, they are ordered for every list of hashes that agrees with
-- `hashes` at each resident.
pub ordered-as : (hashes hashes' : List ℕ) (slots : List (Option ℕ)) → IsOrdered hashes slots
    → ((p i : ℕ) → p < length slots → resident slots p ≡ Some i → get_or hashes' i 0 ≡ get_or hashes i 0) → IsOrdered hashes' slots
ordered-as hashes hashes' slots ordered same p lp = omega (
  arith,
  ordered p lp,
  displacement-as hashes hashes' slots p (λ i. same p i lp),
  displacement-as hashes hashes' slots (after (length slots) p) (λ i. same (after (length slots) p) i (after-below (length slots) p lp)),
)

-- Indices with the same hash have the same home slot.
home-as : (n : ℕ) (hashes hashes' : List ℕ) (i j : ℕ) → get_or hashes' i 0 ≡ get_or hashes j 0 → home_at n hashes' i ≡ home_at n hashes j
unfolding home_at
home-as n hashes hashes' i j e = ap (λ x. x % n) e

module _ (hashes : List ℕ) (gone : ℕ) (slots : List Slot) (left : IsTableBut hashes gone slots) where
  abbrev ps : List (Option ℕ)
  ps = positions slots

  -- After the removal, each index other than `gone` is in a slot.
  pub stands_still : (i : ℕ) → i < length hashes → i ≢ gone → (p : ℕ) × (p < length ps) × (resident ps p ≡ Some i)
  stands_still i li ne = let one : times i ps ≡ 1 = grind (arith, nat_tests, left.holds.placed i) in stands i ps (omega arith)

  -- After the removal, each resident is an index other than `gone`.
  pub stays : (p k : ℕ) → p < length ps → resident ps p ≡ Some k → (k < length hashes) × (k ≢ gone)
  stays p k lp e = let some = times-some k ps p lp e in (
    grind (arith, nat_tests, left.holds.placed k, some),
    λ same. grind (arith, nat_tests, left.holds.placed k, some),
  )

  module _ (hashes' : List ℕ) (same : (k : ℕ) → k < length hashes → k ≢ gone → get_or hashes' k 0 ≡ get_or hashes k 0) where
    as_before : (p k : ℕ) → p < length ps → resident ps p ≡ Some k → get_or hashes' k 0 ≡ get_or hashes k 0
    as_before p k lp e = let who = stays p k lp e in same k who.0 who.1

    -- If `hashes'` differs from `hashes` only at `gone`, the slots are ordered for `hashes'`.
    pub but_ordered : IsOrdered hashes' ps
    but_ordered = ordered-as hashes hashes' ps left.holds.ordered as_before

    pub but_hashes : HaveHashes (length slots) hashes' slots
    but_hashes = hashes-as (length slots) hashes hashes' slots left.hashes_are as_before

  -- If `gone` is the last index, the slots are a table of the remaining hashes.
  pub last_out : gone + 1 ≡ length hashes → IsTableOf (remove hashes gone) slots
  last_out last =
      let size = length-remove hashes gone (omega arith) in
      let same : (k : ℕ) → k < length hashes → k ≢ gone → get_or (remove hashes gone) k 0 ≡ get_or hashes k 0 =
      λ k lk ne. get_or-remove_below hashes gone 0 k (omega arith) (omega arith) in
      record {
        table = record {
          ordered = but_ordered (remove hashes gone) same;
          placed = λ k. grind (arith, nat_tests, left.holds.placed k, size);
        };
        hashes_are = but_hashes (remove hashes gone) same;
      }

  -- If `gone` is not the last index, the last index, in slot `p`, is renumbered to `gone`.
  module _ (p last : ℕ) (is : last + 1 ≡ length hashes) (li : gone < last) (lp : p < length slots) (there : resident ps p ≡ Some last) where
    abbrev hashes' : List ℕ
    hashes' = swap_remove hashes gone 0

    lq : p < length ps
    lq = omega (arith, lp, positions-length slots)

    moved : get_or hashes' gone 0 ≡ get_or hashes last 0
    moved = swap_remove-same hashes gone (omega (arith, is, li)) ∙ ap (λ x. get_or hashes x 0) (omega (arith, is))

    others : (q k : ℕ) → q < length ps → q ≢ p → resident ps q ≡ Some k → get_or hashes' k 0 ≡ get_or hashes k 0
    others q k lq' other e =
        let who = stays q k lq' e in
        let once : times last ps ≤ 1 = grind (arith, nat_tests, left.holds.placed last) in
        let not_last : k ≢ last = λ same. other (stands_once last ps q p once lq' lq (e ∙ ap Some same) there) in
        swap_remove-other hashes gone k (omega (arith, li, is)) (omega (arith, who.0, not_last, is)) who.1

    reached : (q : ℕ) → q < length ps → displacement hashes' (set ps p (Some gone)) q ≡ displacement hashes ps q
    reached q lq' = elim (cases_eq q p) [
      | inl self ↦ let n = length ps in omega (
        arith,
        displacement-set_same hashes' ps p (Some gone) lq,
        displacement-some hashes ps p last there,
        ap (λ x. distance n x p) (home-as n hashes hashes' gone last moved),
        ap (displacement hashes' (set ps p (Some gone))) self,
        ap (displacement hashes ps) self,
      )
      | inr other ↦ displacement-set_other hashes' ps p q (Some gone) other
          ∙ displacement-as hashes hashes' ps q (λ k e. others q k lq' other e)
    ]

    -- After the removal, the hash in slot `p` is the kept hash of index `gone`.
    pub own_hash : (slot : Slot) → position_in slot ≡ Some gone → slot.hash ≡ (get_or slots p blank).hash → HasHash (length slots) hashes' slot
    own_hash slot at same = has_own_hash (length slots) hashes' slot gone at (same
        ∙ (hashes-at (length slots) hashes slots p left.hashes_are lp last (sym (position-at slots p (position_in (get_or slots p blank)) lp refl) ∙ there)
        ∙ ap (kept (length slots)) (sym moved)))

    pub renamed : (slot : Slot) → position_in slot ≡ Some gone → slot.hash ≡ (get_or slots p blank).hash → IsTableOf hashes' (set slots p slot)
    renamed slot at same =
        let fits : length (set ps p (Some gone)) ≡ length ps = length-set ps p (Some gone) in
        let size = length-swap_remove hashes gone (omega (arith, li, is)) in
        let table : IsTable hashes' (set ps p (Some gone)) = record {
          ordered = λ q lq'.
              let within : q < length ps = omega arith in
              omega (
                arith,
                left.holds.ordered q within,
                reached q within,
                reached (after (length ps) q) (after-below (length ps) q within),
                ap (λ s. displacement hashes' (set ps p (Some gone)) (after s q)) fits,
              );
          placed = λ k. grind (arith, nat_tests, left.holds.placed k, times-set k ps p (Some gone) lq, ap (one_if k) there, size, is, li);
        } in
        record {
          table = subst (IsTable hashes') (sym (positions-put slots p slot gone at)) table;
          hashes_are = subst (λ n. HaveHashes n hashes' (set slots p slot)) (sym (length-set slots p slot))
              (hashes-put (length slots) hashes hashes' slots p slot left.hashes_are (own_hash slot at same) (λ q k lq' other e. others q k lq' other e));
        }

-- If all slots are empty, each index occurs 0 times.
pub times-none : (i : ℕ) (slots : List (Option ℕ)) → ((p : ℕ) → p < length slots → resident slots p ≡ None) → times i slots ≡ 0
times-none i slots empty = elim (cases_lt 0 (times i slots)) [
  | inl some ↦
      let spot = stands i slots some in
      let bad : ◌≡◌ {A = Option ℕ} (Some i) None = sym spot.2 ∙ empty spot.0 spot.1 in
      cc
  | inr none ↦ omega arith
]

-- Empty slots are a table of an empty list of hashes.
pub empty_is_table : (slots : List (Option ℕ)) → ((p : ℕ) → p < length slots → resident slots p ≡ None) → IsTable [] slots
empty_is_table slots empty = record {
  ordered = λ p lp. let up = after-below (length slots) p lp in
      omega (arith, displacement-none [] slots (after (length slots) p) (empty (after (length slots) p) up));
  placed = λ i. grind (arith, nat_tests, times-none i slots empty);
}
