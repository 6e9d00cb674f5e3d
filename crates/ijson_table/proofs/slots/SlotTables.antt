-- After the next index is inserted into a table of hashes, the slots are a table of these hashes
-- and the new hash.
use Rattle.std.proofs.Common.{◌≡◌, ℕ, ◌+◌, ◌<◌, ◌^◌, arith, List, [], ◌∷◌, ◌++◌, length, get_or, Option, Some, None, refl}
use Rattle.std.proofs.Common.{sym, ap, subst, ◌∙◌, length-append}
use Rattle.std.specs.List.{All}
use Rattle.std.proofs.lemmas.Bool.Decides.{nat_tests}
use Rattle.std.proofs.lemmas.List.Elements.{All-from_get_or}
use Rattle.std.proofs.Math.ListN.{get_or-append}
use Rattle.std.proofs.Math.Seq.{get_or-append_seam}
use Rattle.ijson_table.specs.declared.slot.Slot.{Slot}
use Rattle.ijson_table.specs.Slots.{resident, IsTable}
use Rattle.ijson_table.specs.private.Holds.{with_one, HasEmpty, Holds}
use Rattle.ijson_table.specs.private.Insertion.{Accepts, IsTableOf}
use Rattle.ijson_table.specs.private.KeptHash.{kept}
use Rattle.ijson_table.specs.private.SlotHashes.{position_in, positions, blank, HaveHashes}
use Rattle.ijson_table.proofs.slots.HashesInSlots.{positions-length, position-at, all_empty, hashes-none, hashes-as}
use Rattle.ijson_table.proofs.shifting.Insertion.{some_empty}
use Rattle.ijson_table.proofs.shifting.Removal.{empty_is_table, ordered-as}
use Rattle.ijson_table.proofs.slots.Residents.{times-some}
use Rattle.ijson_table.proofs.probing.ProbePath.{in_list}

-- Empty slots are a table of an empty list of hashes.
pub empty_table : (slots : List Slot) → All (λ slot. position_in slot ≡ None) slots → IsTableOf [] slots
empty_table slots empty = record {
  table = empty_is_table (positions slots) (all_empty slots empty);
  hashes_are = hashes-none (length slots) [] slots empty;
}

-- In a table without keys, each slot that is read is empty.
nothing_there : (slots : List Slot) → IsTableOf [] slots → (p : ℕ) → p < length slots → (read : Option ℕ)
    → read ≡ position_in (get_or slots p blank) → position_in (get_or slots p blank) ≡ None
nothing_there slots are p lp None e = sym e
nothing_there slots are p lp (Some i) e =
    let one = times-some i (positions slots) p (omega (arith, lp, positions-length slots)) (position-at slots p (Some i) lp e) in
    absurd (grind (arith, nat_tests, one, are.table.placed i))

-- In a table without keys, all slots are empty.
pub each_empty : (slots : List Slot) → IsTableOf [] slots → All (λ slot. position_in slot ≡ None) slots
each_empty slots are = All-from_get_or (λ slot. position_in slot ≡ None) slots blank
    (λ p lp. nothing_there slots are p lp (position_in (get_or slots p blank)) refl)

-- If a table has more slots than hashes, a slot is empty.
pub left_empty : (hashes : List ℕ) (slots : List (Option ℕ)) → IsTable hashes slots → length hashes < length slots → HasEmpty slots
left_empty hashes slots table room = some_empty slots (length hashes + 1) (length hashes) (λ i. grind (arith, nat_tests, table.placed i))
    (omega arith) (grind (arith, nat_tests, table.placed (length hashes))) (omega (arith, room))

module _ (hashes : List ℕ) (slots : List Slot) (are : IsTableOf hashes slots) (position hash : ℕ) (next : position ≡ length hashes)
    (room : position < length slots) where
  -- Appending a hash keeps the hash of each resident.
  same : (p i : ℕ) → p < length (positions slots) → resident (positions slots) p ≡ Some i
      → get_or (hashes ++ hash ∷ []) i 0 ≡ get_or hashes i 0
  same p i lp e = get_or-append hashes (hash ∷ []) 0 i (in_list hashes (positions slots) are.table p i lp e)

  -- The next index may be inserted into the slots.
  pub accepts : (part : ℕ) → part ≡ kept (length slots) hash → length slots < 2 ^ 64 → Accepts (hashes ++ hash ∷ []) slots position part
  accepts part is limited = record {
    fits = omega (arith, room, limited);
    hash_is = is ∙ ap (kept (length slots)) (sym (ap (λ n. get_or (hashes ++ hash ∷ []) n 0) next ∙ get_or-append_seam hashes hash [] 0));
    hashes_are = hashes-as (length slots) hashes (hashes ++ hash ∷ []) slots are.hashes_are same;
    ordered = ordered-as hashes (hashes ++ hash ∷ []) (positions slots) are.table.ordered same;
    empty = left_empty hashes (positions slots) are.table (omega (arith, next, room, positions-length slots));
  }

  -- After the next index is inserted, the slots are a table of the hashes and the new hash.
  pub pushed : (new : List Slot) → length new ≡ length slots
      → Holds (hashes ++ hash ∷ []) (with_one (positions slots) position) None (positions new)
      → HaveHashes (length slots) (hashes ++ hash ∷ []) new → IsTableOf (hashes ++ hash ∷ []) new
  pushed new same held have =
      let size : length (hashes ++ hash ∷ []) ≡ position + 1 = omega (arith, length-append hashes (hash ∷ []), next) in
      record {
        table = record {
          ordered = held.ordered;
          placed = λ i. grind (arith, nat_tests, held.placed i, are.table.placed i, next, size);
        };
        hashes_are = subst (λ n. HaveHashes n (hashes ++ hash ∷ []) new) (sym same) have;
      }
