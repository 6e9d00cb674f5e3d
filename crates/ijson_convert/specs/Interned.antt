-- The cache after strings were interned in order. Strings of up to 7 bytes do not enter the cache.
use Rattle.std.specs.Prelude.{◌≡◌, ℕ, List, [], ◌∷◌, ◌++◌}
use Rattle.ijson_string.specs.Cache.{Texts, interned}

-- The cache after all strings of the list were interned, in order.
abbrev pub all_interned : List (List ℕ) → Texts → Texts
all_interned [] cache = cache
all_interned (text ∷ more) cache = all_interned more (interned text cache)

-- Holds if some leading strings of `texts` were interned, and the cache is otherwise unchanged.
-- e.g. `eight888` and `a` into the empty set make it the set of `eight888`.
pub record SomeInterned (texts : List (List ℕ)) (old new : Texts) : Type 0 where
  pub done : List (List ℕ)
  pub left : List (List ℕ)
  pub parts : texts ≡ done ++ left
  pub cache : new ≡ all_interned done old
