-- For callers: after entries are put, a lookup returns the value that was put for the key, or else
-- the old value.
use Rattle.std.specs.Prelude.{◌≡◌, ℕ, true, false, cond, List, [], ◌∷◌, Some, None}
use Rattle.std.specs.Option.{option_or}
use Rattle.std.specs.Str.{bytes_eq}
use Rattle.std.proofs.Common.{inl, inr, refl, ◌∙◌, arith}
use Rattle.ijson_table.specs.Store.{keys_of, lookup, put, put_each, Lacks, IsDistinct}
use Rattle.ijson_table.proofs.pairs.KeyPositions.{same_key}

module _ {V : Type 0} where
  -- After `value` is put at `key`, a lookup of `key` returns `value`, and lookups of other keys are
  -- unchanged.
  pub lookup-put : (pairs : List (List ℕ × V)) (key : List ℕ) (value : V) (k : List ℕ)
      → lookup k (put pairs key value) ≡ cond (bytes_eq k key) (Some value) (lookup k pairs)
  lookup-put [] key value k = refl
  lookup-put (pair ∷ pairs) key value k =
      let rest = lookup-put pairs key value k in
      elim (same_key pair.0 key) [
        | inl here ↦ elim (same_key k key) [
          | inl same ↦ let found : bytes_eq k pair.0 ≡ true = grind (arith, same_key k pair.0) in grind (arith, here, same, found)
          | inr other ↦ let past : bytes_eq k pair.0 ≡ false = grind (arith, same_key k pair.0) in grind (arith, here, other, past)
        ]
        | inr off ↦ elim (same_key k key) [
          | inl same ↦ let past : bytes_eq k pair.0 ≡ false = grind (arith, same_key k pair.0) in grind (arith, off, same, past, rest)
          | inr other ↦ grind (arith, off, other, rest)
        ]
      ]

  -- A lookup of a key that no entry has returns `None`.
  pub lookup-lacks : (pairs : List (List ℕ × V)) (key : List ℕ) → Lacks key (keys_of pairs) → lookup key pairs ≡ None
  lookup-lacks [] key lacks = refl
  lookup-lacks (pair ∷ pairs) key lacks =
      let past : bytes_eq key pair.0 ≡ false = grind (arith, same_key key pair.0, lacks.0) in
      grind (arith, past, lookup-lacks pairs key lacks.1)

  -- If `more` lacks the key of `pair`, then looking up `k` first in `more`, then in `pairs` after
  -- `pair` is put, equals looking up `k` first in `pair ∷ more`, then in `pairs`.
  put_first : (pairs more : List (List ℕ × V)) (pair : List ℕ × V) (k : List ℕ) → Lacks pair.0 (keys_of more)
      → option_or (lookup k more) (lookup k (put pairs pair.0 pair.1)) ≡ option_or (lookup k (pair ∷ more)) (lookup k pairs)
  put_first pairs more pair k lacks =
      let none = lookup-lacks more pair.0 lacks in
      let found = lookup-put pairs pair.0 pair.1 k in
      elim (same_key k pair.0) [
        | inl here ↦ grind (arith, here, none, found)
        | inr away ↦ grind (arith, away, found)
      ]

  -- After entries with distinct keys are put, a lookup returns the value that was put for the key,
  -- or else the old value.
  pub lookup-put_each : (pairs more : List (List ℕ × V)) → IsDistinct (keys_of more) → (k : List ℕ)
      → lookup k (put_each pairs more) ≡ option_or (lookup k more) (lookup k pairs)
  lookup-put_each pairs [] distinct k = refl
  lookup-put_each pairs (pair ∷ more) distinct k =
      lookup-put_each (put pairs pair.0 pair.1) more distinct.1 k ∙ put_first pairs more pair k distinct.0
