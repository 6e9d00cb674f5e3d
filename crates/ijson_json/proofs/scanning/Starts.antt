-- If two texts begin with the same byte, each test of the first byte has the same result for both.
use Rattle.std.proofs.Common.{ℕ, Bool, List, [], ◌∷◌, ◌++◌, refl}
use Rattle.ijson_value.specs.Tree.{Tree, number}
use Rattle.ijson_number.specs.NumberBytes.{is_number_byte}
use Rattle.ijson_json.specs.private.Reading.{Ends, Past}
use Rattle.ijson_json.specs.private.Contexts.{StartsAs}

-- A text begins with the same byte as itself.
pub starts_self : (text : List ℕ) → StartsAs text text
starts_self [] = refl
starts_self (b ∷ text) = (text, refl)

-- If `next` begins like `text`, and the first byte of `text` fails the test `p`, the first byte of
-- `next` fails too.
pub starts_past : (p : ℕ → Bool) (text next : List ℕ) → StartsAs text next → Past p text → Past p next
starts_past p [] next e h = rw e tt
starts_past p (b ∷ rest) next (more, e) h = rw e h

-- If `next` begins like `text`, and a value may end before `space ++ text`, it may end before
-- `space ++ next`.
pub starts_ends : (t : Tree) (space text next : List ℕ) → StartsAs text next → Ends t (space ++ text) → Ends t (space ++ next)
starts_ends (number n) [] text next s h = starts_past is_number_byte text next s h
starts_ends (number n) (b ∷ space) text next s h = h
starts_ends t space text next s h = tt

-- If `next` begins like `text`, and the first byte of `next` fails the test `p`, the first byte of
-- `text` fails too.
pub starts_back : (p : ℕ → Bool) (text next : List ℕ) → StartsAs text next → Past p next → Past p text
starts_back p [] next e h = tt
starts_back p (b ∷ rest) next (more, e) h = rw e at h

-- If `next` begins like `text`, `front ++ next` begins like `front ++ text`.
pub starts_behind : (front text next : List ℕ) → StartsAs text next → StartsAs (front ++ text) (front ++ next)
starts_behind [] text next s = s
starts_behind (b ∷ front) text next s = (front ++ next, refl)
