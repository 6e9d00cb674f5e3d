-- `Placed` has a code. The invariant of a table is a proposition, and depends only on the keys of
-- the entries, not on the values.
use Rattle.std.specs.Prelude.{◌≡◌, ℕ, List, map, length, Option, refl}
use Rattle.std.specs.Coded.{Coded, code_by, coded×, coded_list, coded_ℕ, coded_option}
use Rattle.std.proofs.Common.{subst}
use denote.Struct.Props.{props}
use Rattle.ijson_table.specs.declared.slot.Slot.{Slot}
use Rattle.ijson_table.specs.Crowd.{slot_count}
use Rattle.ijson_table.specs.Placed.{Placed}
use Rattle.ijson_table.specs.Slots.{times, below, IsOrdered}
use Rattle.ijson_table.specs.Store.{Store, keys_of}
use Rattle.ijson_table.specs.laws.Room.{HasRoom-prop}
use Rattle.ijson_table.specs.laws.Store.{store_code}
use Rattle.ijson_table.specs.private.Insertion.{IsTableOf}
use Rattle.ijson_table.specs.private.IsPlaced.{IsPlaced}
use Rattle.ijson_table.specs.private.Room.{HasRoom}
use Rattle.ijson_table.specs.private.SlotHashes.{positions, HaveHashes}

abbrev pub placed_code : {V : Type 0} → Coded V → Coded (Placed V)
placed_code {V} c =
    code_by (Store V × List (Option ℕ)) (coded× (store_code c) (coded_list (coded_option coded_ℕ))) (λ t. (t.store, t.slots))
    (λ v. record { store = v.0; slots = v.1 }) (λ _. refl)

IsTableOf-prop : (hashes : List ℕ) (slots : List Slot) → IsProp (IsTableOf hashes slots)
IsTableOf-prop hashes slots x y =
    let ordered_prop : IsProp (IsOrdered hashes (positions slots)) = hlevel props in
    let placed_prop : IsProp ((i : ℕ) → times i (positions slots) ≡ below (length hashes) i) = hlevel props in
    let hashes_prop : IsProp (HaveHashes (length slots) hashes slots) = hlevel props in
    λ i. record {
      table = record {
        ordered = ordered_prop x.table.ordered y.table.ordered i;
        placed = placed_prop x.table.placed y.table.placed i;
      };
      hashes_are = hashes_prop x.hashes_are y.hashes_are i;
    }

pub IsPlaced-prop : {V : Type 0} (hash : List ℕ → ℕ) (pairs : List (List ℕ × V)) (capacity : ℕ) (slots : List Slot)
    → IsProp (IsPlaced hash pairs capacity slots)
IsPlaced-prop hash pairs capacity slots x y =
    let size_prop : IsProp (length slots ≡ slot_count capacity) = hlevel props in
    λ i. record {
      room = HasRoom-prop (length pairs) capacity x.room y.room i;
      table = IsTableOf-prop (map hash (keys_of pairs)) slots x.table y.table i;
      size = size_prop x.size y.size i;
    }

-- If `ps` and `qs` have the same keys and the same length, the invariant for `ps` implies the
-- invariant for `qs`.
pub placed_along : {X Y : Type 0} (hash : List ℕ → ℕ) (ps : List (List ℕ × X)) (qs : List (List ℕ × Y)) (capacity : ℕ) (slots : List Slot)
    → keys_of ps ≡ keys_of qs → length ps ≡ length qs → IsPlaced hash ps capacity slots → IsPlaced hash qs capacity slots
placed_along hash ps qs capacity slots keys lengths placed = record {
  room = subst (λ n. HasRoom n capacity) lengths placed.room;
  table = subst (λ ks. IsTableOf (map hash ks) slots) keys placed.table;
  size = placed.size;
}
