-- Prefixes of JSON texts, by the number of open containers.
use Rattle.std.specs.Prelude.{◌≡◌, ◌⊎◌, ℕ, suc, List, [], ◌∷◌, ◌++◌}
use Rattle.ijson_value.specs.Tree.{Tree}
use Rattle.ijson_json.specs.Strings.{StringBody}
use Rattle.ijson_json.specs.Grammar.{IsSpace, Spaced, Split, IsString, IsValue}

-- Holds if `text` is an element of an array, with optional white space around it.
abbrev pub IsElement : List ℕ → Type 0
IsElement text = (t : Tree) × Spaced (λ value. IsValue t value) text

-- Holds if `text` is the key of a member in quotes, with optional white space around it.
abbrev pub IsKey : List ℕ → Type 0
IsKey text = (k : List ℕ) × Spaced (λ string. IsString k string) text

-- Holds if `text` is a member of an object: a key, `:` and a value.
abbrev pub IsMember : List ℕ → Type 0
IsMember text = Split IsKey 58 IsElement text

-- Holds if the text is a sequence of texts with the property `P`, each followed by a comma.
pub data EachWithComma (P : List ℕ → Type 0) : List ℕ → Type 0 where
  no_comma : EachWithComma P []
  comma_after : {first more : List ℕ} → P first → EachWithComma P more → EachWithComma P (first ++ 44 ∷ more)

-- Holds if the text leaves `opened` containers open, and its part inside the innermost container
-- has the property `P`. That part follows the complete elements of an array, or the key and `:` in
-- an object. `[` is 91, `{` 123 and `:` 58.
pub data Inside (P : List ℕ → Type 0) : ℕ → List ℕ → Type 0 where
  here : {text : List ℕ} → P text → Inside P 0 text
  in_array : {opened : ℕ} (gap : List ℕ) {items inside : List ℕ} → IsSpace gap → EachWithComma IsElement items → Inside P opened inside
      → Inside P (suc opened) (gap ++ 91 ∷ (items ++ inside))
  in_object : {opened : ℕ} (gap key : List ℕ) {members inside : List ℕ} → IsSpace gap → EachWithComma IsMember members → IsKey key
      → Inside P opened inside → Inside P (suc opened) (gap ++ 123 ∷ (members ++ (key ++ 58 ∷ inside)))

-- Holds if a value may begin after `before`, with `opened` containers open.
abbrev pub IsValuePlace : ℕ → List ℕ → Type 0
IsValuePlace opened before = Inside IsSpace opened before

-- Holds if `text` is a prefix of a string: optional white space, the opening quote and complete
-- characters.
abbrev pub IsOpenString : List ℕ → Type 0
IsOpenString text = (gap body s : List ℕ) × IsSpace gap × StringBody body s × (text ≡ gap ++ 34 ∷ body)

-- Holds if `text` is a prefix of an object that ends inside a key: complete members, then the
-- opening quote and complete characters of the key.
abbrev pub IsOpenKey : List ℕ → Type 0
IsOpenKey text =
    (gap members key : List ℕ) × IsSpace gap × EachWithComma IsMember members × IsOpenString key
    × (text ≡ gap ++ 123 ∷ (members ++ key))

-- Holds if a character of a string may begin after `before`.
abbrev pub IsCharacterPlace : List ℕ → Type 0
IsCharacterPlace before = (opened : ℕ) × Inside (λ text. IsOpenString text ⊎ IsOpenKey text) opened before
