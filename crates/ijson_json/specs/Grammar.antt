-- JSON (RFC 8259, sections 2 to 7) as a relation between texts and trees. A text is a list of
-- bytes.
use Rattle.std.specs.Prelude.{◌≡◌, ℕ, ◌≤◌, Bool, true, false, ◌||◌, ◌==◌, IsTrue, ◌⊎◌, List, [], ◌∷◌, ◌++◌}
use Rattle.std.specs.List.{AllByRecursion}
use Rattle.ijson_number.specs.Grammar.{Spells}
use Rattle.ijson_value.specs.Tree.{Tree, null, boolean, number, string, array, object, Items, no_items, item, Members, no_members}
use Rattle.ijson_value.specs.Tree.{member, depth}
use Rattle.ijson_json.specs.Strings.{StringBody}
use Rattle.ijson_json.specs.Ranged.{is_ranged}
use Rattle.ijson_json.specs.Settled.{settled}
use Rattle.ijson_json.specs.Limits.{max_depth}

-- Returns `true` if a byte is white space: space, tab, line feed or carriage return (section 2).
abbrev pub is_space : ℕ → Bool
is_space b = (b == 32) || ((b == 9) || ((b == 10) || (b == 13)))

abbrev pub IsSpace : List ℕ → Type 0
IsSpace text = AllByRecursion (λ b. IsTrue (is_space b)) text

-- Holds if `text` is a text with the property `P`, surrounded by optional white space.
abbrev pub Spaced : (List ℕ → Type 0) → List ℕ → Type 0
Spaced P text =
    (before inside after : List ℕ) × IsSpace before × P inside × IsSpace after
    × (text ≡ before ++ (inside ++ after))

-- Holds if `text` is a text with the property `P`, then `byte`, then a text with the property `Q`.
abbrev pub Split : (List ℕ → Type 0) → ℕ → (List ℕ → Type 0) → List ℕ → Type 0
Split P byte Q text = (first second : List ℕ) × P first × Q second × (text ≡ first ++ byte ∷ second)

-- Holds if `text` is a text with the property `P` between the bytes `first` and `last`.
-- e.g. `1, 2` is split at the comma into `1` and ` 2`, the second being 2 with white space around
-- it.
abbrev pub Enclosed : ℕ → (List ℕ → Type 0) → ℕ → List ℕ → Type 0
Enclosed first P last text = (inside : List ℕ) × P inside × (text ≡ first ∷ (inside ++ last ∷ []))

-- The literals `null`, `true` and `false` (section 3).
abbrev pub null_text : List ℕ
null_text = 110 ∷ 117 ∷ 108 ∷ 108 ∷ []

abbrev pub boolean_text : Bool → List ℕ
boolean_text true = 116 ∷ 114 ∷ 117 ∷ 101 ∷ []
boolean_text false = 102 ∷ 97 ∷ 108 ∷ 115 ∷ 101 ∷ []

-- Holds if `text` is a JSON string, with its quotes, and `s` is its content (section 7).
-- e.g. `"hi"` is a string for `hi`.
abbrev pub IsString : List ℕ → List ℕ → Type 0
IsString s text = Enclosed 34 (λ body. StringBody body s) 34 text

-- Holds if `text` spells the tree, without white space around it (sections 3 to 6). An object keeps
-- its members as written, including duplicate keys. `[` is 91, `]` 93, `{` 123, `}` 125, `,` 44 and
-- `:` 58.
abbrev mutual
  pub IsValue : Tree → List ℕ → Type 0
  IsValue null text = text ≡ null_text
  IsValue (boolean b) text = text ≡ boolean_text b
  IsValue (number n) text = Spells text n
  IsValue (string s) text = IsString s text
  IsValue (array items) text = Enclosed 91 (λ inside. IsItems items inside) 93 text
  IsValue (object members) text = Enclosed 123 (λ inside. IsMembers members inside) 125 text

  pub IsItems : Items → List ℕ → Type 0
  IsItems no_items text = IsSpace text
  IsItems (item t no_items) text = Spaced (λ value. IsValue t value) text
  IsItems (item t (item u more)) text =
      Split (λ first. Spaced (λ value. IsValue t value) first) 44
      (λ others. IsItems (item u more) others) text

  -- e.g. `{"a":1,"a":3}` is an object with the key a twice; `[1,]` is nothing.
  pub IsMembers : Members → List ℕ → Type 0
  IsMembers no_members text = IsSpace text
  IsMembers (member k t no_members) text =
      Split (λ key. Spaced (λ string. IsString k string) key) 58
      (λ value. Spaced (λ value. IsValue t value) value) text
  IsMembers (member k t (member l u more)) text =
      Split (λ first. Split (λ key. Spaced (λ string. IsString k string) key) 58
      (λ value. Spaced (λ value. IsValue t value) value) first) 44
      (λ others. IsMembers (member l u more) others) text

-- Holds if `text` is JSON that reads as `tree`. `deepest` is the maximum number of open containers,
-- and `ranged` is whether each number is within the limit. `deepest` and `ranged` include members
-- that a duplicate key replaces.
-- e.g. `{"a":[1],"a":2}` reads as `{"a":2}`, two deep.
pub record Reads (text : List ℕ) (tree : Tree) (deepest : ℕ) (ranged : Bool) : Type 0 where
  pub written : Tree
  pub spelled : Spaced (λ value. IsValue written value) text
  pub tree_is : tree ≡ settled written
  pub deepest_is : deepest ≡ depth written
  pub ranged_is : ranged ≡ is_ranged written

-- Holds if the text is JSON for the tree, within this project's own limits on nesting and
-- exponents.
abbrev pub Accepted : List ℕ → Tree → Type 0
Accepted text tree = (deepest : ℕ) × (deepest ≤ max_depth) × Reads text tree deepest true

-- Holds if the text consists of closing brackets only.
-- e.g. ` 1 ` is accepted as 1; `1 2` and the empty text are not; `]}` are closers.
abbrev pub IsClosers : List ℕ → Type 0
IsClosers text = AllByRecursion (λ b. (b ≡ 93) ⊎ (b ≡ 125)) text
