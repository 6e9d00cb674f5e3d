-- The possible replies of a pair store to each command, and their effects.
use Rattle.std.specs.Prelude.{◌≡◌, ℕ, List, [], ◌∷◌, length, Some, None, Ok, Err, slice_get}
use Rattle.ijson_table.specs.declared.commands.Command.{Command}
use Rattle.ijson_table.specs.declared.commands.Command.TheVariants.{Insert, Find, Remove, ShiftRemove, Reserve, ShrinkToFit, Clear}
use Rattle.ijson_table.specs.declared.commands.Reply.{Reply}
use Rattle.ijson_table.specs.declared.commands.Reply.TheVariants.{Added, Replaced, Refused, Found, Removed, Done, NotDone}
use Rattle.ijson_table.specs.Store.{at, swap_out, shift_out}
use Rattle.ijson_table.specs.Growth.{Grown, Ungrown, Shrink}
use Rattle.ijson_table.specs.Inserts.{Inserts}

-- Holds if a store of `pairs` and capacity `c` may reply `reply` to `command` and end with `pairs'`
-- and `c'`.
abbrev pub Step : {V : Type 0} → List (List ℕ × V) → ℕ → Command V → Reply V → List (List ℕ × V) → ℕ → Type 0
Step pairs c (Insert k v) Added pairs' c' = Inserts pairs c k v (Ok None) pairs' c'
Step pairs c (Insert k v) (Replaced old) pairs' c' = Inserts pairs c k v (Ok (Some old)) pairs' c'
Step pairs c (Insert k v) (Refused key value why) pairs' c' =
    Inserts pairs c k v (Err (record { key = key; value = value; why = why })) pairs' c'
Step pairs c (Find k) (Found i) pairs' c' = (i ≡ at pairs k) × (pairs' ≡ pairs) × (c' ≡ c)
Step pairs c (Remove k) (Removed (Some pair)) pairs' c' =
    ((i : ℕ) × (at pairs k ≡ Some i) × (slice_get pairs i ≡ Some pair) × (pairs' ≡ swap_out pairs i))
    × (c' ≡ c)
Step pairs c (Remove k) (Removed None) pairs' c' = (at pairs k ≡ None) × (pairs' ≡ pairs) × (c' ≡ c)
Step pairs c (ShiftRemove k) (Removed (Some pair)) pairs' c' =
    ((i : ℕ) × (at pairs k ≡ Some i) × (slice_get pairs i ≡ Some pair) × (pairs' ≡ shift_out pairs i))
    × (c' ≡ c)
Step pairs c (ShiftRemove k) (Removed None) pairs' c' = (at pairs k ≡ None) × (pairs' ≡ pairs) × (c' ≡ c)
Step pairs c (Reserve n) Done pairs' c' = Grown (length pairs) c n c' × (pairs' ≡ pairs)
Step pairs c (Reserve n) (NotDone why) pairs' c' = Ungrown (length pairs) c n why c' × (pairs' ≡ pairs)
Step pairs c ShrinkToFit Done pairs' c' = Shrink {A = Unit {0}} (length pairs) c (Ok tt) c' × (pairs' ≡ pairs)
Step pairs c ShrinkToFit (NotDone why) pairs' c' = Shrink {A = Unit {0}} (length pairs) c (Err why) c' × (pairs' ≡ pairs)
Step pairs c Clear Done pairs' c' = (pairs' ≡ []) × (c' ≡ c)
-- No other reply is possible.
Step pairs c command reply pairs' c' = ⊥

-- Holds if a store of `pairs` and capacity `c` may reply with these replies to these commands, in
-- order, and end with `pairs'` and `c'`.
-- e.g. to a, b, c, d at capacity 4, `Remove(b)` replies the entry of b and leaves a, d, c;
-- `Remove(b)` again replies that there is none.
abbrev pub Run : {V : Type 0} → List (List ℕ × V) → ℕ → List (Command V) → List (Reply V)
    → List (List ℕ × V) → ℕ → Type 0
Run pairs c [] [] pairs' c' = (pairs' ≡ pairs) × (c' ≡ c)
Run {V} pairs c (command ∷ commands) (reply ∷ replies) pairs' c' =
    (mid : List (List ℕ × V)) × (d : ℕ) × Step pairs c command reply mid d × Run mid d commands replies pairs' c'
Run pairs c [] (reply ∷ replies) pairs' c' = ⊥
Run pairs c (command ∷ commands) [] pairs' c' = ⊥
