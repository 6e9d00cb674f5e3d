-- The faults with which the reader's private functions may fail.
use Rattle.std.specs.Prelude.{◌≡◌, ◌≢◌, ◌==◌, ◌⊎◌, ℕ, ◌-◌, true, false, List, ◌∷◌, ◌++◌, ⊤, length, take, drop, Result, Ok, Err}
use Rattle.ijson_number.specs.Decimal.{Decimal}
use Rattle.ijson_number.specs.Num.{is_in_range}
use Rattle.ijson_number.specs.Grammar.{Spells}
use Rattle.ijson_number.specs.NumberFront.{IsNumberFront, IsUnread}
use Rattle.ijson_number.specs.declared.number.ReadNumberError.TheVariants.{OutOfRange}
use Rattle.ijson_value.specs.WellFormed.{WellFormed}
use Rattle.ijson_json.specs.Grammar.{Accepted, IsString, null_text, boolean_text}
use Rattle.ijson_json.specs.ErrorOf.{IsErrorOf}
use Rattle.ijson_json.specs.private.Reading.{Past, Stops, Skips, Front}
use Rattle.ijson_json.specs.private.Contexts.{ValueContext, MemberContext}
use Rattle.ijson_json.specs.private.StringReading.{ContentStops}
use Rattle.ijson_json.specs.declared.fault.Fault.{Fault}
use Rattle.ijson_json.specs.declared.fault.Fault.TheVariants as faults
use Rattle.ijson_json.specs.declared.fault.JsonError.{JsonError}
use Rattle.ijson_json.specs.declared.fault.JsonError.TheVariants as errors

-- The error for `fault` in a text of `length` bytes. A fault contains the number of bytes left, and
-- an error contains the offset.
abbrev pub error_of : ℕ → Fault → JsonError
error_of length (faults.Syntax left) = errors.Syntax (length - left)
error_of length (faults.TooDeep left) = errors.TooDeep (length - left)
error_of length (faults.NumberRange left) = errors.NumberRange (length - left)
error_of length faults.Memory = errors.Memory

-- Holds if the error is `Memory`, or if it is the error of `text`.
abbrev pub Rejects : List ℕ → JsonError → Type 0
Rejects text error = error ≢ errors.Memory → IsErrorOf text error

-- Holds if `Rejects` holds for the error that `fault` becomes in `text`.
abbrev pub RejectsBy : List ℕ → Fault → Type 0
RejectsBy text fault = Rejects text (error_of (length text) fault)

-- Holds if reading a value at the start of `text`, inside `opened` containers, may fail with
-- `fault`. If a value may begin after `before`, then `fault` becomes the error of `before ++ text`.
abbrev pub Explains : ℕ → List ℕ → Fault → Type 0
Explains opened text fault = (before : List ℕ) → ValueContext opened before text → RejectsBy (before ++ text) fault

-- Holds if reading a member at the start of `text`, inside `opened` containers, may fail with
-- `fault`. If a member may begin after `before`, then `fault` becomes the error of
-- `before ++ text`.
abbrev pub ExplainsMember : ℕ → List ℕ → Fault → Type 0
ExplainsMember opened text fault = (before : List ℕ) → MemberContext opened before text → RejectsBy (before ++ text) fault

-- Holds if the longest common prefix of `text` and `word` has `count` bytes.
pub record CommonFront (text word : List ℕ) (count : ℕ) : Type 0 where
  pub front : List ℕ
  pub rest : List ℕ
  pub more : List ℕ
  pub text_is : text ≡ front ++ rest
  pub word_is : word ≡ front ++ more
  pub count_is : count ≡ length front
  pub differ : (b : ℕ) (x y : List ℕ) → rest ≡ b ∷ x → more ≡ b ∷ y → ⊥

-- Holds if `text` does not begin with `word`, and the fault is a syntax error at the first byte
-- that differs.
abbrev pub WordFault : List ℕ → List ℕ → Fault → Type 0
WordFault text word (faults.Syntax left) =
    (count : ℕ) × CommonFront text word count × (left ≡ length text - count) × ((rest : List ℕ) → text ≢ word ++ rest)
WordFault text word (faults.TooDeep left) = ⊥
WordFault text word (faults.NumberRange left) = ⊥
WordFault text word faults.Memory = ⊥

-- Holds if `text` does not begin with a string, and reading stops with `left` bytes left. The first
-- byte is not a quote, or the content after the quote stops.
abbrev pub StringStops : List ℕ → ℕ → Type 0
StringStops text left =
    ((left ≡ length text) × Past (λ b. b == 34) text) ⊎ ((inside : List ℕ) × (text ≡ 34 ∷ inside) × ContentStops inside left)

-- Holds if reading a string at the start of `text` may fail with the fault.
abbrev pub StringFault : List ℕ → Fault → Type 0
StringFault text (faults.Syntax left) = StringStops text left
StringFault text (faults.TooDeep left) = ⊥
StringFault text (faults.NumberRange left) = ⊥
StringFault text faults.Memory = ⊤

-- Holds if a syntax error occurs with `left` bytes left, while reading a number at the start of
-- `text`. The longest prefix that begins a number is not a number, or it is a number within the
-- limit and a byte of a number follows.
pub record NumberStops (text : List ℕ) (left : ℕ) : Type 0 where
  pub count : ℕ
  pub front : IsNumberFront text count
  pub left_is : left ≡ length text - count
  pub stops : ((n : Decimal) → Spells (take count text) n → ⊥)
      ⊎ ((n : Decimal) × Spells (take count text) n × (is_in_range n ≡ true) × (Stops (drop count text) → ⊥))

-- Holds if reading a number at the start of `text` may fail with the fault.
abbrev pub NumberFault : List ℕ → Fault → Type 0
NumberFault text (faults.Syntax left) = NumberStops text left
NumberFault text (faults.TooDeep left) = ⊥
NumberFault text (faults.NumberRange left) = (left ≡ length text) × IsUnread text OutOfRange
NumberFault text faults.Memory = ⊤

-- Holds if only a number can begin with the byte `first`.
abbrev pub IsApart : ℕ → Type 0
IsApart first = (first ≢ 110) × (first ≢ 116) × (first ≢ 102) × (first ≢ 91) × (first ≢ 123) × (first ≢ 34)

-- Holds if reading a value that is not a container at the start of `text` may fail with `fault`.
abbrev pub ScalarFault : List ℕ → Fault → Type 0
ScalarFault text fault =
    (first : ℕ) × (more : List ℕ) × (text ≡ first ∷ more)
    × ((first ≡ 34 × StringFault text fault) ⊎ ((first ≡ 110 × WordFault text null_text fault)
    ⊎ ((first ≡ 116 × WordFault text (boolean_text true) fault)
    ⊎ ((first ≡ 102 × WordFault text (boolean_text false) fault) ⊎ (IsApart first × NumberFault text fault)))))

-- Holds if `text` begins with a key, but `:` does not follow the key and its white space. Reading
-- stops there, with `left` bytes left.
pub record ColonStops (text : List ℕ) (left : ℕ) : Type 0 where
  pub key : List ℕ
  pub after : List ℕ
  pub rest : List ℕ
  pub found : Front (λ front. IsString key front) text after
  pub skipped : Skips after rest
  pub no_colon : Past (λ b. b == 58) rest
  pub left_is : left ≡ length rest

-- Holds if reading a key and its `:` at the start of `text` may fail with the fault.
abbrev pub KeyFault : List ℕ → Fault → Type 0
KeyFault text (faults.Syntax left) = StringStops text left ⊎ ColonStops text left
KeyFault text (faults.TooDeep left) = ⊥
KeyFault text (faults.NumberRange left) = ⊥
KeyFault text faults.Memory = ⊤

-- Holds for `Ok value` if `text` is accepted as the tree of `value`. Holds for `Err error` if
-- `Rejects text error` does.
abbrev pub Answers : List ℕ → Result WellFormed JsonError → Type 0
Answers text (Ok value) = Accepted text value.tree
Answers text (Err error) = Rejects text error
