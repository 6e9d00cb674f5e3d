-- The bytes before a value or a member of an object, and the JSON texts that continue these bytes.
use Rattle.std.specs.Prelude.{◌≡◌, ℕ, ◌+◌, ◌≤◌, true, List, [], ◌∷◌, ◌++◌}
use Rattle.ijson_value.specs.Tree.{Tree, depth}
use Rattle.ijson_json.specs.Ranged.{is_ranged}
use Rattle.ijson_json.specs.Grammar.{IsSpace, Spaced, IsValue, IsClosers}
use Rattle.ijson_json.specs.Inside.{EachWithComma, Inside, IsMember, IsValuePlace}
use Rattle.ijson_json.specs.Limits.{max_depth}
use Rattle.ijson_json.specs.private.Reading.{Front, Pair, Stops}

-- Holds if both texts begin with the same byte, or if both are empty.
abbrev pub StartsAs : List ℕ → List ℕ → Type 0
StartsAs [] text = text ≡ []
StartsAs (b ∷ rest) text = (more : List ℕ) × (text ≡ b ∷ more)

-- Holds if `text` is JSON, and exceeds only limits that `value`, inside `opened` containers,
-- exceeds.
pub record Built (opened : ℕ) (value : Tree) (text : List ℕ) : Type 0 where
  pub tree : Tree
  pub spelled : Spaced (λ text. IsValue tree text) text
  pub deep : opened + depth value ≤ max_depth → depth tree ≤ max_depth
  pub ranged : is_ranged value ≡ true → is_ranged tree ≡ true

-- Holds if an element of the type `E` (a value or a member) may begin after `before`, inside
-- `opened` containers. If a JSON text continues `before` with the first byte of `text`, an element
-- follows `before` in that text (`only`). Any element and the brackets `closers` extend `before` to
-- a JSON text (`builds`).
pub record Context (E : Type 0) (Is : E → List ℕ → Type 0) (inner : E → Tree) (IsPlace : ℕ → List ℕ → Type 0)
    (opened : ℕ) (before text : List ℕ) : Type 0 where
  pub within : opened ≤ max_depth
  pub place : IsPlace opened before
  pub only : (t : Tree) (next : List ℕ) → StartsAs text next → Spaced (λ value. IsValue t value) (before ++ next)
      → (e : E) × (rest : List ℕ) × Front (λ text. Is e text) next rest × Stops rest
  pub closers : List ℕ
  pub closing : IsClosers closers
  pub builds : (e : E) (written : List ℕ) → Spaced (λ text. Is e text) written → Built opened (inner e) (before ++ (written ++ closers))

abbrev pub ValueContext : ℕ → List ℕ → List ℕ → Type 0
ValueContext opened before text = Context Tree (λ t value. IsValue t value) (λ t. t) IsValuePlace opened before text

-- Holds if `text` is a prefix of an object that ends where a member may begin.
abbrev pub IsOpenObject : List ℕ → Type 0
IsOpenObject text =
    (gap members space : List ℕ) × IsSpace gap × EachWithComma IsMember members × IsSpace space
    × (text ≡ gap ++ 123 ∷ (members ++ space))

-- Holds if a member may begin after `before`, with `opened` containers open.
abbrev pub IsMemberPlace : ℕ → List ℕ → Type 0
IsMemberPlace opened before = (outer : ℕ) × (opened ≡ outer + 1) × Inside IsOpenObject outer before

abbrev pub MemberContext : ℕ → List ℕ → List ℕ → Type 0
MemberContext opened before text = Context (List ℕ × Tree) (λ m text. Pair m text) (λ m. m.1) IsMemberPlace opened before text
