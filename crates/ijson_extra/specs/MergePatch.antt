-- JSON Merge Patch on trees (RFC 7396, section 2). An existing key keeps its index, and a new key
-- is appended.
use Rattle.std.specs.Prelude.{ℕ, List, [], filter, not}
use Rattle.std.specs.Option.{unwrap_or}
use Rattle.std.specs.Str.{bytes_eq}
use Rattle.ijson_table.specs.Store.{lookup, put}
use Rattle.ijson_value.specs.Tree.{Tree, null, object, Members, no_members, member, members_of, members_list}

-- The members of an object. A tree of another kind does not have members.
-- e.g. of `[1]` there are none.
abbrev pub members_in : Tree → List (List ℕ × Tree)
members_in (object ps) = members_list ps
members_in _ = []

-- The members without the member of `key`.
-- e.g. a and b without a: b alone.
abbrev pub without : List ℕ → List (List ℕ × Tree) → List (List ℕ × Tree)
without key ms = filter (λ m. not (bytes_eq m.0 key)) ms

-- The members after `key` was set to `value`, or removed if `patch` is null.
-- e.g. a and b, with null at a: b alone.
abbrev pub changed : List (List ℕ × Tree) → List ℕ → Tree → Tree → List (List ℕ × Tree)
changed ms key null value = without key ms
changed ms key patch value = put ms key value

abbrev mutual
  -- The result of applying a patch to a target. A patch that is not an object replaces the target.
  pub merged : Tree → Tree → Tree
  merged target (object ps) = object (members_of (merged_into (members_in target) ps))
  merged target patch = patch

  -- The members after each member of a patch was applied in order. A missing key counts as null.
  -- e.g. `{"a":{"b":1}}` and the patch `{"a":{"b":null,"c":2}}` make `{"a":{"c":2}}`.
  pub merged_into : List (List ℕ × Tree) → Members → List (List ℕ × Tree)
  merged_into ms no_members = ms
  merged_into ms (member key patch ps) =
      merged_into (changed ms key patch (merged (unwrap_or (lookup key ms) null) patch)) ps
