-- The list of slots that stored slots represent.
use Rattle.std.proofs.Common.{◌≡◌, ◌∙◌, ℕ, zero, suc, List, [], ◌∷◌, None, map, take, set, replicate, ap, refl, subst, sym}
use Rattle.std.specs.List.{All}
use Rattle.std.proofs.lemmas.List.{map-set, take-map}
use Rattle.std.proofs.lemmas.List.Elements.{All-map, All-replicate, All-take}
use Rattle.ijson_table.specs.declared.slot.Slot.{Slot}
use Rattle.ijson_table.specs.declared.slot.narrow.NarrowSlot.{NarrowSlot}
use Rattle.ijson_table.specs.private.Narrow.{widened}
use Rattle.ijson_table.specs.private.SlotHashes.{blank, position_in}

-- Taking the first `n` items and setting an item commute.
take_set : {X : Type 0} (n i : ℕ) (xs : List X) (x : X) → take n (set xs i x) ≡ set (take n xs) i x
take_set zero i xs x = refl
take_set (suc n) i [] x = refl
take_set (suc n) zero (y ∷ xs) x = refl
take_set (suc n) (suc i) (y ∷ xs) x = ap (λ rest. y ∷ rest) (take_set n i xs x)

-- Setting a three-byte slot sets the represented slot.
pub narrow-set : (slots : List NarrowSlot) (i : ℕ) (narrow : NarrowSlot) (slot : Slot) → widened narrow ≡ slot
    → map widened (set slots i narrow) ≡ set (map widened slots) i slot
narrow-set slots i narrow slot same =
    map-set widened slots i narrow ∙ ap (λ entry. set (map widened slots) i entry) same

-- Setting a three-byte slot sets the represented slot in the first `n` slots.
pub few-set : (n : ℕ) (slots : List NarrowSlot) (i : ℕ) (narrow : NarrowSlot) (slot : Slot) → widened narrow ≡ slot
    → map widened (take n (set slots i narrow)) ≡ set (map widened (take n slots)) i slot
few-set n slots i narrow slot same = ap (map widened) (take_set n i slots narrow) ∙ narrow-set (take n slots) i narrow slot same

-- Holds if all slots are empty.
abbrev pub IsEmpty : List Slot → Type 0
IsEmpty slots = All (λ slot. position_in slot ≡ None) slots

-- Copies of an empty slot are empty.
pub wide-empty : (slots : List Slot) (n : ℕ) (slot : Slot) → slots ≡ replicate n slot → position_in slot ≡ None → IsEmpty slots
wide-empty slots n slot each none =
    subst IsEmpty (sym each) (All-replicate (λ slot. position_in slot ≡ None) n slot none)

-- Copies of an empty three-byte slot represent empty slots.
pub narrow-empty : (slots : List NarrowSlot) (n : ℕ) (narrow : NarrowSlot) → slots ≡ replicate n narrow → widened narrow ≡ blank
    → IsEmpty (map widened slots)
narrow-empty slots n narrow each same = subst (λ ns. IsEmpty (map widened ns)) (sym each)
    (All-map (λ slot. position_in slot ≡ None) widened (replicate n narrow)
    (All-replicate (λ slot. position_in (widened slot) ≡ None) n narrow (ap position_in same)))

-- The first `m` copies of an empty three-byte slot represent empty slots.
pub few-empty : (m : ℕ) (slots : List NarrowSlot) (n : ℕ) (narrow : NarrowSlot) → slots ≡ replicate n narrow → widened narrow ≡ blank
    → IsEmpty (map widened (take m slots))
few-empty m slots n narrow each same = subst IsEmpty (take-map widened m slots)
    (All-take (λ slot. position_in slot ≡ None) m (map widened slots) (narrow-empty slots n narrow each same))
