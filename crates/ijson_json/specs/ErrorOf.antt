-- The error of a rejected text and the offset of the error, defined by the text alone.
use Rattle.std.specs.Prelude.{◌≡◌, ◌≢◌, ◌⊎◌, ℕ, List, [], ◌∷◌, ◌++◌, length}
use Rattle.ijson_number.specs.NumberFront.{IsUnread}
use Rattle.ijson_number.specs.declared.number.ReadNumberError.TheVariants.{OutOfRange}
use Rattle.ijson_json.specs.Begins.{Begins, BeginsWithin}
use Rattle.ijson_json.specs.Inside.{IsValuePlace, IsCharacterPlace}
use Rattle.ijson_json.specs.Strings.{Character}
use Rattle.ijson_json.specs.Refuses.{HasNoReading}
use Rattle.ijson_json.specs.Limits.{max_depth}
use Rattle.ijson_json.specs.declared.fault.JsonError.{JsonError}
use Rattle.ijson_json.specs.declared.fault.JsonError.TheVariants.{Syntax, TooDeep, NumberRange, Memory}

-- Holds if the opening bracket at offset `at` exceeds the nesting limit. A value may begin after
-- `before`, and the maximum number of containers is open there. Some JSON text within the limits
-- begins with `before`.
pub record TooDeepAt (text : List ℕ) (at : ℕ) : Type 0 where
  pub before : List ℕ
  pub bracket : ℕ
  pub rest : List ℕ
  pub is : text ≡ before ++ bracket ∷ rest
  pub at_is : at ≡ length before
  pub begins : BeginsWithin before
  pub place : IsValuePlace max_depth before
  pub opens : (bracket ≡ 91) ⊎ (bracket ≡ 123)

-- Holds if a number out of range begins at offset `at`. A value may begin after `before`, and some
-- JSON text within the limits begins with `before`. The longest prefix of `rest` that begins a
-- number spells a number beyond the limit.
pub record OutOfRangeAt (text : List ℕ) (at : ℕ) : Type 0 where
  pub before : List ℕ
  pub rest : List ℕ
  pub is : text ≡ before ++ rest
  pub at_is : at ≡ length before
  pub begins : BeginsWithin before
  pub opened : ℕ
  pub place : IsValuePlace opened before
  pub past : IsUnread rest OutOfRange

-- Holds if the backslash at offset `at` begins an invalid escape in a string.
pub record BadEscapeAt (text : List ℕ) (at : ℕ) : Type 0 where
  pub before : List ℕ
  pub letters : List ℕ
  pub is : text ≡ before ++ 92 ∷ letters
  pub at_is : at ≡ length before
  pub place : IsCharacterPlace before
  pub none : (written meant rest : List ℕ) → Character written meant → 92 ∷ letters ≢ written ++ rest

-- Holds if `text` is not JSON, and `at` is the length of its longest prefix with which a JSON text
-- begins.
pub record StuckAt (text : List ℕ) (at : ℕ) : Type 0 where
  pub before : List ℕ
  pub rest : List ℕ
  pub is : text ≡ before ++ rest
  pub at_is : at ≡ length before
  pub begins : Begins before
  pub no_reading : HasNoReading text
  pub ends : (b : ℕ) (more : List ℕ) → rest ≡ b ∷ more → Begins (before ++ b ∷ []) → ⊥

-- Holds if the error is the first of `text`, from left to right. A syntax error is at the backslash
-- of an invalid escape, otherwise at the first byte that no JSON text has there, or at the end of
-- `text`. A text with a syntax error does not exceed a limit. `TooDeep` and `NumberRange` are at
-- the offset where the limit is exceeded. `Memory` is never the error of a text.
-- e.g. of `[1 2]` and of `[1,` it is `Syntax` at 3, of `01` at 1, of `"a\u12` and of `"a\ud834x"`
-- at 2; of 128 `[` `TooDeep` at 127, of `[1e2000000000-` `NumberRange` at 1.
abbrev pub IsErrorOf : List ℕ → JsonError → Type 0
IsErrorOf text (Syntax at) =
    ((m : ℕ) → TooDeepAt text m → ⊥) × ((m : ℕ) → OutOfRangeAt text m → ⊥)
    × (BadEscapeAt text at ⊎ (StuckAt text at × ((m : ℕ) → BadEscapeAt text m → ⊥)))
IsErrorOf text (TooDeep at) = TooDeepAt text at
IsErrorOf text (NumberRange at) = OutOfRangeAt text at
IsErrorOf text Memory = ⊥
