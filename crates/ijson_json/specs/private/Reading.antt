-- The results of the reader's private functions, which read at the start of a text.
use Rattle.std.specs.Prelude.{◌≡◌, ◌==◌, ℕ, ◌+◌, ◌≤◌, Bool, true, false, List, [], ◌∷◌, ◌++◌, ⊤}
use Rattle.ijson_number.specs.Decimal.{Decimal}
use Rattle.ijson_number.specs.Num.{is_in_range}
use Rattle.ijson_number.specs.Grammar.{Spells}
use Rattle.ijson_number.specs.NumberBytes.{is_number_byte}
use Rattle.ijson_number.specs.NumberFront.{IsPastLimit}
use Rattle.ijson_value.specs.Tree.{Tree, null, boolean, number, string, array, object, depth}
use Rattle.ijson_json.specs.Ranged.{is_ranged}
use Rattle.ijson_json.specs.Settled.{settled}
use Rattle.ijson_json.specs.Grammar.{is_space, IsSpace, IsString, IsValue}
use Rattle.ijson_json.specs.Limits.{max_depth}

-- Holds if the first byte fails the test `p`, or if the list is empty.
abbrev pub Past : (ℕ → Bool) → List ℕ → Type 0
Past p [] = ⊤
Past p (b ∷ bs) = p b ≡ false

-- Holds if the text does not begin with a byte of a number.
abbrev pub Stops : List ℕ → Type 0
Stops text = Past is_number_byte text

-- Holds if the value can end before `rest`: a byte of a number must not follow a number.
abbrev pub Ends : Tree → List ℕ → Type 0
Ends null rest = ⊤
Ends (boolean b) rest = ⊤
Ends (number n) rest = Stops rest
Ends (string s) rest = ⊤
Ends (array is) rest = ⊤
Ends (object ms) rest = ⊤

-- Holds if `text` is a text with the property `P`, then `rest`.
pub record Front (P : List ℕ → Type 0) (text rest : List ℕ) : Type 0 where
  pub front : List ℕ
  pub holds : P front
  pub is : text ≡ front ++ rest

-- Holds if `rest` is `text` without its leading white space.
pub record Skips (text rest : List ℕ) : Type 0 where
  pub space : List ℕ
  pub passed : IsSpace space
  pub is : text ≡ space ++ rest
  pub past : Past is_space rest

-- Holds if a value or member `e` was read at the start of `text`, inside `opened` containers, and
-- `rest` follows. `e` is within the limits. `e` is as written, including duplicate keys.
pub record Found (E : Type 0) (Is : E → List ℕ → Type 0) (inner : E → Tree)
    (opened : ℕ) (text : List ℕ) (e : E) (rest : List ℕ) : Type 0 where
  pub found : Front (λ text. Is e text) text rest
  pub ends : Ends (inner e) rest
  pub deep : opened + depth (inner e) ≤ max_depth
  pub ranged : is_ranged (inner e) ≡ true

-- Holds if `text` is the key and the value of the member `m`, with `:` between them.
pub record Pair (m : List ℕ × Tree) (text : List ℕ) : Type 0 where
  pub key : List ℕ
  pub gap : List ℕ
  pub gap' : List ℕ
  pub value : List ℕ
  pub is_key : IsString m.0 key
  pub space : IsSpace gap
  pub space' : IsSpace gap'
  pub is_value : IsValue m.1 value
  pub is : text ≡ key ++ (gap ++ 58 ∷ (gap' ++ value))

-- Holds if `text` begins with the key `k`, `:` and white space, and the value begins at `cur`.
pub record KeyRead (k text cur : List ℕ) : Type 0 where
  pub key : List ℕ
  pub gap : List ℕ
  pub gap' : List ℕ
  pub is_key : IsString k key
  pub space : IsSpace gap
  pub space' : IsSpace gap'
  pub is : text ≡ key ++ (gap ++ 58 ∷ (gap' ++ cur))
  pub past : Past is_space cur

-- Holds if `text` is white space, then the byte `closing`, then `rest`.
pub record Closes (closing : ℕ) (text rest : List ℕ) : Type 0 where
  pub space : List ℕ
  pub passed : IsSpace space
  pub is : text ≡ space ++ closing ∷ rest

-- Holds if `text` is white space, a comma, white space, then `rest`, which does not begin with
-- white space.
pub record GoesOn (text rest : List ℕ) : Type 0 where
  pub gap : List ℕ
  pub gap' : List ℕ
  pub space : IsSpace gap
  pub space' : IsSpace gap'
  pub is : text ≡ gap ++ 44 ∷ (gap' ++ rest)
  pub past : Past is_space rest

-- Holds if neither a comma nor `closing` follows the leading white space of `text`. The text after
-- the white space is `left`.
pub record IsStuck (closing : ℕ) (text left : List ℕ) : Type 0 where
  pub skipped : Skips text left
  pub no_comma : Past (λ b. b == 44) left
  pub not_closed : Past (λ b. b == closing) left

abbrev pub IsRead : ℕ → List ℕ → Tree → List ℕ → Type 0
IsRead opened text t rest = Found Tree (λ t value. IsValue t value) (λ t. t) opened text t rest

-- Holds if a value was read at the start of `text`, inside `opened` containers. `tree` is the value
-- with duplicate keys resolved.
abbrev pub ReadAs : ℕ → List ℕ → Tree → List ℕ → Type 0
ReadAs opened text tree rest =
    (written : Tree) × IsRead opened text written rest × (tree ≡ settled written)

-- Holds if `text` begins with the number `n`, and a byte of a number does not follow.
pub record NumberAt (text : List ℕ) (n : Decimal) (rest : List ℕ) : Type 0 where
  pub found : Front (λ front. Spells front n) text rest
  pub stops : Stops rest

abbrev pub NumberRead : List ℕ → Decimal → List ℕ → Type 0
NumberRead text n rest = NumberAt text n rest × (is_in_range n ≡ true)

-- Holds if each number at the start of `text` is beyond the limit, and some prefix of `text` spells
-- such a number.
pub record PastLimitAt (text : List ℕ) : Type 0 where
  pub each : (n : Decimal) (rest : List ℕ) → NumberAt text n rest → is_in_range n ≡ false
  pub rest : List ℕ
  pub beginning : Front IsPastLimit text rest
