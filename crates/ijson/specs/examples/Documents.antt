-- A list of documents in the order in which they were added, with the index of each document.
use Rattle.std.specs.Prelude.{◌≡◌, ◌⊎◌, ◌++◌, ◌∷◌, [], ℕ, List, Some, slice_get}
use Rattle.ijson_value.specs.Same.{Same}
use Rattle.ijson_value.specs.Tree.{Tree}
use Rattle.ijson_value.specs.WellFormed.{WellFormed}

-- Holds if the document at the index `position` means the same as `t`.
-- e.g. `[1.0]` at 0, and the tree of `[1]`.
abbrev pub StandsAt : List WellFormed → Tree → ℕ → Type 0
StandsAt documents t position =
    (found : WellFormed) × (slice_get documents position ≡ Some found) × Same t found.tree

-- Holds if an equal document exists and the list is unchanged, or if no equal document exists and
-- `document` is appended.
-- e.g. `[1.0]` changes nothing if `[1]` is stored.
abbrev pub Stores : List WellFormed → WellFormed → List WellFormed → Type 0
Stores old document new =
    (((position : ℕ) × StandsAt old document.tree position) × (new ≡ old))
    ⊎ (((position : ℕ) → StandsAt old document.tree position → ⊥) × (new ≡ old ++ document ∷ []))
