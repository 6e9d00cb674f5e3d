-- The keys of a target and of a patch, without duplicates and each with its change.
use Rattle.std.specs.Prelude.{ℕ, List, Option, Some, None, map, option_map}
use Rattle.std.specs.Borrow.{Bor}
use Rattle.ijson_table.specs.Store.{keys_of, put_each}
use Rattle.ijson_value.specs.Tree.{Tree, null}
use Rattle.ijson_value.specs.WellFormed.{WellFormed}
use Rattle.ijson_extra.specs.MergePatch.{merged}

-- The tree of a change, if any.
abbrev pub change_of : Option (Bor WellFormed) → Option Tree
change_of change = option_map (λ c. c.now.tree) change

-- A key with the tree of its change, if any.
abbrev pub shown : List ℕ × Option (Bor WellFormed) → List ℕ × Option Tree
shown key = (key.0, change_of key.1)

-- The keys, each without a change.
abbrev pub unchanged : List (List ℕ) → List (List ℕ × Option Tree)
unchanged keys = map (λ key. (key, None)) keys

-- The keys of the entries of a patch, each with its change.
abbrev pub all_changed : List (List ℕ × WellFormed) → List (List ℕ × Option Tree)
all_changed pairs = map (λ pair. (pair.0, Some pair.1.tree)) pairs

-- The keys of the target, then the new keys of the patch, each with its change, if any.
abbrev pub joined : List (List ℕ × WellFormed) → List (List ℕ × WellFormed) → List (List ℕ × Option Tree)
joined pairs changes = put_each (unchanged (keys_of pairs)) (all_changed changes)

-- The trees of the values of entries, in order.
abbrev pub old_trees : List (List ℕ × WellFormed) → List Tree
old_trees pairs = map (λ pair. pair.1.tree) pairs

-- The value of a member after its change, or `None` if the change is null.
abbrev pub after : Tree → Option Tree → Option Tree
after old None = Some old
after old (Some null) = None
after old (Some patch) = Some (merged old patch)
