-- Null is read as `None`, never as `Some` of a value whose tree is null.
use Rattle.std.specs.Prelude.{◌≡◌, Option, None, Some, ⊤}
use Rattle.ijson_value.specs.Tree.{Tree, null}

-- Holds for `None`, and for `Some x` if the tree of `x` is not null and `inside x` holds.
-- e.g. of `Option<Option<u8>>` it holds of `None` and of `Some` of `Some(7)`, not of `Some` of
-- `None`.
abbrev pub option_null_is_none : {X : Type 0} → (X → Tree) → (X → Type 0) → Option X → Type 0
option_null_is_none tree inside None = ⊤
option_null_is_none tree inside (Some x) = (tree x ≡ null → ⊥) × inside x
