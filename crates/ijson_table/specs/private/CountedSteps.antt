-- The steps counted during the insertion of a key.
use Rattle.std.specs.Prelude.{ℕ, ◌+◌, ◌≤◌, List, Option, length, map}
use Rattle.ijson_table.specs.declared.index.probe.Probed.{Probed}
use Rattle.ijson_table.specs.Crowd.{home_of}
use Rattle.ijson_table.specs.Slots.{displacement}
use Rattle.ijson_table.specs.private.Changes.{changes}
use Rattle.ijson_table.specs.private.Lookup.{is_key}
use Rattle.ijson_table.specs.private.Probe.{Ends}

-- Holds if the probe for `key` may end with `end` after `looks` inspections.
abbrev pub Walks : (List ℕ → ℕ) → List (List ℕ) → List (Option ℕ) → List ℕ → ℕ → Probed → Type 0
Walks hash keys slots key looks end = Ends slots (displacement (map hash keys) slots) (home_of hash (length slots) key)
    (is_key keys key) looks end

-- Holds if `steps` covers each inspection of the probe for `key` and each slot that differs between
-- `old` and `new`.
pub record CountsSteps (hash : List ℕ → ℕ) (keys : List (List ℕ)) (key : List ℕ) (old new : List (Option ℕ)) (steps : ℕ) : Type 0 where
  pub looks : ℕ
  pub end : Probed
  pub walked : Walks hash keys old key looks end
  pub counted : looks + changes old new ≤ steps
