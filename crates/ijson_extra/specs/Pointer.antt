-- The value that a JSON Pointer refers to (RFC 6901, sections 3 and 4).
use Rattle.std.specs.Prelude.{ℕ, Bool, true, false, ◌&&◌, ◌==◌, not, List, [], ◌∷◌, Option, Some, None, option_map, option_and_then}
use Rattle.std.specs.Str.{all_ascii_digits}
use Rattle.std.specs.Str.Parse.{digits_value}
use Rattle.ijson_value.specs.Step.{Step, by_position, by_key, tree_at, tree_with}
use Rattle.ijson_value.specs.Tree.{Tree, array, object}

-- ---- The tokens of a pointer (section 3): each token follows a `/`, which is byte 47

-- The tokens with the byte `b` prepended to the first token.
abbrev pub in_first : ℕ → List (List ℕ) → List (List ℕ)
in_first b [] = []
in_first b (token ∷ more) = (b ∷ token) ∷ more

-- The tokens of the text after the first `/`, as written.
-- e.g. after the first `/` of `/a~1b/0` they are `a~1b` and `0`.
abbrev pub written_tokens : List ℕ → List (List ℕ)
written_tokens [] = [] ∷ []
written_tokens (b ∷ text) =
    elim (b == 47) [
      | true ↦ [] ∷ written_tokens text
      | false ↦ in_first b (written_tokens text)
    ]

-- ---- What a token means (section 4): `~0` means `~` (byte 126), `~1` means `/`, and any other `~`
-- is invalid
abbrev mutual
  pub meant : List ℕ → Option (List ℕ)
  meant [] = Some []
  meant (b ∷ text) =
      elim (b == 126) [
        | true ↦ escape_meant text
        | false ↦ option_map (λ token. b ∷ token) (meant text)
      ]

  -- The meaning of a token that begins with `~`, from the text after the `~`.
  pub escape_meant : List ℕ → Option (List ℕ)
  escape_meant [] = None
  escape_meant (b ∷ text) =
      elim (b == 48) [
        | true ↦ option_map (λ token. 126 ∷ token) (meant text)
        | false ↦ elim (b == 49) [
          | true ↦ option_map (λ token. 47 ∷ token) (meant text)
          | false ↦ None
        ]
      ]

abbrev pub all_meant : List (List ℕ) → Option (List (List ℕ))
all_meant [] = Some []
all_meant (written ∷ more) =
    option_and_then (λ token. option_map (λ tokens. token ∷ tokens) (all_meant more)) (meant written)

-- The tokens of a pointer with their escapes decoded, or `None` if the text is not a pointer.
-- e.g. `a~1b` means `a/b`; `~2` and `~` mean nothing; `/a~1b/0` has the tokens `a/b` and `0`; the
-- empty text is a pointer with no tokens, `/` has one, which is empty, and `a` is no pointer.
abbrev pub tokens_of : List ℕ → Option (List (List ℕ))
tokens_of [] = Some []
tokens_of (b ∷ text) =
    elim (b == 47) [
      | true ↦ all_meant (written_tokens text)
      | false ↦ None
    ]

-- ---- The value that a token refers to (section 4)

-- Returns `true` for `0`, and for digits without a leading zero.
abbrev pub names_position : List ℕ → Bool
names_position [] = false
names_position (b ∷ []) = all_ascii_digits (b ∷ [])
names_position (b ∷ c ∷ token) = not (b == 48) && all_ascii_digits (b ∷ c ∷ token)

-- The index that a token denotes.
-- e.g. `0` and `10` are indexes; `01`, `-` and the empty token are not.
abbrev pub position_named : List ℕ → Option ℕ
position_named token =
    elim (names_position token) [
      | true ↦ Some (digits_value 10 token)
      | false ↦ None
    ]

-- The step that a token denotes: to the value of a key in an object, or to an index in an array.
abbrev pub step_named : Tree → List ℕ → Option Step
step_named (array items) token = option_map by_position (position_named token)
step_named (object _) token = Some (by_key token)
step_named _ token = None

-- The child of a value that a token refers to.
-- e.g. `1` in `["x","y"]` leads to `"y"`, and in `{"1":2}` to 2; in `"x"` it leads nowhere.
abbrev pub child_at : Tree → List ℕ → Option Tree
child_at t token = option_and_then (tree_at t) (step_named t token)

-- The tree with the child at `step` replaced by `u`.
abbrev pub stepped_with : Tree → Option Step → Tree → Tree
stepped_with t None u = t
stepped_with t (Some step) u = tree_with t step u

-- e.g. 5 at `1` of `[1,2]` gives `[1,5]`.
abbrev pub child_with : Tree → List ℕ → Tree → Tree
child_with t token u = stepped_with t (step_named t token) u

-- ---- The value that a pointer refers to

abbrev pub followed : Tree → List (List ℕ) → Option Tree
followed t [] = Some t
followed t (token ∷ more) = option_and_then (λ u. followed u more) (child_at t token)

-- The tree at a pointer: `Some None` if it does not exist, and `None` if the text is not a pointer.
-- e.g. `/a/1` in `{"a":[1,2]}` is 2, `/b` is none, and the empty pointer is the whole value.
abbrev pub resolved : Tree → List ℕ → Option (Option Tree)
resolved t pointer = option_map (followed t) (tokens_of pointer)

-- ---- The tree with the value at a pointer replaced

-- Replaces the value at the path of the tokens by `u`, and returns the tree.
abbrev pub followed_with : Option Tree → List (List ℕ) → Tree → Tree
followed_with t [] u = u
followed_with None (token ∷ more) u = u
followed_with (Some t) (token ∷ more) u = child_with t token (followed_with (child_at t token) more u)

abbrev pub tokens_with : Tree → Option (List (List ℕ)) → Tree → Tree
tokens_with t None u = t
tokens_with t (Some tokens) u = followed_with (Some t) tokens u

-- The tree with the value at a pointer replaced by `u`. Everything else is unchanged.
-- e.g. 5 at `/a/1` of `{"a":[1,2]}` gives `{"a":[1,5]}`.
abbrev pub resolved_with : Tree → List ℕ → Tree → Tree
resolved_with t pointer u = tokens_with t (tokens_of pointer) u
