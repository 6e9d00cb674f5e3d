-- The meaning of each error for the rejected text.
use Rattle.std.specs.Prelude.{◌≡◌, ℕ, ◌+◌, ◌<◌, ◌≤◌, Bool, false, List, ◌++◌, ⊤, length}
use Rattle.ijson_value.specs.Tree.{Tree}
use Rattle.ijson_json.specs.Grammar.{Reads, IsClosers}
use Rattle.ijson_json.specs.Limits.{max_depth}
use Rattle.ijson_json.specs.declared.fault.JsonError.{JsonError}
use Rattle.ijson_json.specs.declared.fault.JsonError.TheVariants.{Syntax, TooDeep, NumberRange, Memory}

-- Holds if `text` is not JSON: `Reads` does not hold for any tree, depth and range.
abbrev pub HasNoReading : List ℕ → Type 0
HasNoReading text = (tree : Tree) (deepest : ℕ) (ranged : Bool) → Reads text tree deepest ranged → ⊥

-- Holds if `text` exceeds a limit. Each reading of `text`, if any, satisfies `Past`. Some prefix of
-- `text`, completed by closing brackets only, has a reading that satisfies `First`.
pub record Passes (Past First : ℕ → Bool → Type 0) (text : List ℕ) : Type 0 where
  pub each : (tree : Tree) (deepest : ℕ) (ranged : Bool)
      → Reads text tree deepest ranged → Past deepest ranged
  pub beginning : List ℕ
  pub others : List ℕ
  pub closers : List ℕ
  pub is : text ≡ beginning ++ others
  pub closing : IsClosers closers
  pub tree : Tree
  pub deepest : ℕ
  pub ranged : Bool
  pub reading : Reads (beginning ++ closers) tree deepest ranged
  pub first : First deepest ranged

-- Holds if each reading of the text exceeds the nesting limit. Some prefix, completed by closing
-- brackets, exceeds the limit by 1.
abbrev pub PassesDepth : List ℕ → Type 0
PassesDepth text =
    Passes (λ deepest _. max_depth < deepest) (λ deepest _. deepest ≡ max_depth + 1) text

-- Holds if each reading of the text has a number beyond the limit. Some prefix, completed by
-- closing brackets, has such a number too.
-- e.g. `01` has no reading; 128 brackets pass the depth, and `1e-1073741825` the range.
abbrev pub PassesRange : List ℕ → Type 0
PassesRange text = Passes (λ _ ranged. ranged ≡ false) (λ _ ranged. ranged ≡ false) text

-- Holds if the text has the fault that the error reports, and the offset is within the text.
-- `Memory` is always allowed.
-- e.g. `1 2` is `Syntax`, and so is an unclosed `"` before 128 brackets; 128 of `[` and of `]` are
-- `TooDeep`.
abbrev pub Refuses : List ℕ → JsonError → Type 0
Refuses text (Syntax at) = (at ≤ length text) × HasNoReading text
Refuses text (TooDeep at) = (at ≤ length text) × PassesDepth text
Refuses text (NumberRange at) = (at ≤ length text) × PassesRange text
Refuses text Memory = ⊤
