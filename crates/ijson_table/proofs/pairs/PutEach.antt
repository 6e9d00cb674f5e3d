-- Inserting a list of pairs in order keeps the keys distinct, and appends the pairs if all keys are
-- distinct.
use Rattle.std.proofs.Common.{◌≡◌, ◌≢◌, ℕ, ◌+◌, ◌<◌, ◌≤◌, inl, inr, arith, List, [], ◌∷◌, ◌++◌, length, take, drop, Option, Some, None}
use Rattle.std.proofs.Common.{Result, Ok, Err, refl, sym, ap, subst, ◌∙◌, append_assoc}
use Rattle.std.specs.Prelude.{IsOk}
use Rattle.std.proofs.lemmas.List.{append-nil, take-append-drop}
use Rattle.ijson_table.specs.declared.store.RefusedPair.{RefusedPair}
use Rattle.ijson_table.specs.declared.store.ReserveError.{ReserveError}
use Rattle.ijson_table.specs.declared.store.ReserveError.TheVariants.{Memory, TooLarge}
use Rattle.ijson_table.specs.Growth.{wanted, Ungrown}
use Rattle.ijson_table.specs.Inserts.{Inserts}
use Rattle.ijson_table.specs.Store.{at, keys_of, put, put_each, IsDistinct, Lacks}
use Rattle.ijson_table.proofs.pairs.KeyPositions.{same_key}
use Rattle.ijson_table.specs.laws.Store.{keys-with_value}
use Rattle.ijson_table.proofs.pairs.PairsByKey.{distinct_pushed, put-absent, put-present}
use Rattle.ijson_table.proofs.probing.KeyHashes.{had_room}

-- If a growth failed, the wanted capacity exceeds the capacity.
short : (len c n c' : ℕ) (why : ReserveError) → Ungrown len c n why c' → c < wanted len c n
short len c n c' Memory h = h.1
short len c n c' TooLarge h = h.1

module _ {V : Type 0} where
  -- Inserting `first ++ more` equals inserting `first`, then `more`.
  pub put_each-append : (pairs first more : List (List ℕ × V)) → put_each pairs (first ++ more) ≡ put_each (put_each pairs first) more
  put_each-append pairs [] more = refl
  put_each-append pairs (pair ∷ first) more = put_each-append (put pairs pair.0 pair.1) first more

  -- If a list of pairs lacks `key`, the key of a pair in the middle differs from `key`.
  lacks_middle : (key : List ℕ) (pairs : List (List ℕ × V)) (pair : List ℕ × V) (more : List (List ℕ × V))
      → Lacks key (keys_of (pairs ++ pair ∷ more)) → key ≢ pair.0
  lacks_middle key [] pair more l = l.0
  lacks_middle key (p ∷ pairs) pair more l = lacks_middle key pairs pair more l.1

  -- If the keys of a list are distinct, the pairs before `pair` lack its key.
  missing : (pairs : List (List ℕ × V)) (pair : List ℕ × V) (more : List (List ℕ × V)) → IsDistinct (keys_of (pairs ++ pair ∷ more))
      → at pairs pair.0 ≡ None
  missing [] pair more d = refl
  missing (p ∷ pairs) pair more d = elim (same_key p.0 pair.0) [
    | inl s ↦ absurd (lacks_middle p.0 pairs pair more d.0 s.1)
    | inr n ↦ simp (n.0, missing pairs pair more d.1)
  ]

  -- If all keys are distinct, inserting `more` appends `more`.
  pub put_each-new : (pairs more : List (List ℕ × V)) → IsDistinct (keys_of (pairs ++ more)) → put_each pairs more ≡ pairs ++ more
  put_each-new pairs [] d = sym (append-nil pairs)
  put_each-new pairs (pair ∷ more) d =
      let whole : (pairs ++ pair ∷ []) ++ more ≡ pairs ++ pair ∷ more = append_assoc pairs (pair ∷ []) more in
      ap (λ ps. put_each ps more) (put-absent pairs pair.0 pair.1 (missing pairs pair more d))
      ∙ (put_each-new (pairs ++ pair ∷ []) more (subst (λ ps. IsDistinct (keys_of ps)) (sym whole) d) ∙ whole)

  -- If the first `n` keys are distinct, inserting all pairs equals inserting the pairs from `n` on
  -- into the first `n` pairs.
  pub put_each-split : (pairs : List (List ℕ × V)) (n : ℕ) → IsDistinct (keys_of (take n pairs))
      → put_each (take n pairs) (drop n pairs) ≡ put_each [] pairs
  put_each-split pairs n d =
      ap (λ ps. put_each ps (drop n pairs)) (sym (put_each-new [] (take n pairs) d))
      ∙ (sym (put_each-append [] (take n pairs) (drop n pairs)) ∙ ap (put_each []) (take-append-drop n pairs))

  -- If the keys of `pairs` are distinct, inserting `pairs ++ more` equals inserting `more` into
  -- `pairs`.
  pub put_each-behind : (pairs more : List (List ℕ × V)) → IsDistinct (keys_of pairs) → put_each [] (pairs ++ more) ≡ put_each pairs more
  put_each-behind pairs more d = put_each-append [] pairs more ∙ ap (λ ps. put_each ps more) (put_each-new [] pairs d)

  -- Inserting a key keeps the keys distinct.
  put-distinct : (pairs : List (List ℕ × V)) (key : List ℕ) (value : V) → IsDistinct (keys_of pairs)
      → IsDistinct (keys_of (put pairs key value))
  put-distinct pairs key value d =
      elim (at pairs key) as (λ o. at pairs key ≡ o → IsDistinct (keys_of (put pairs key value))) [
        | None ↦ λ e. rw (put-absent pairs key value e) (distinct_pushed pairs key value d e)
        | Some i ↦ λ e. rw (put-present pairs i key value e, keys-with_value pairs i value) d
      ] refl

  -- Inserting a list of pairs keeps the keys distinct.
  pub put_each-distinct : (pairs more : List (List ℕ × V)) → IsDistinct (keys_of pairs) → IsDistinct (keys_of (put_each pairs more))
  put_each-distinct pairs [] d = d
  put_each-distinct pairs (pair ∷ more) d = put_each-distinct (put pairs pair.0 pair.1) more (put-distinct pairs pair.0 pair.1 d)

  -- Inserting a key adds at most one pair.
  pub put-length : (pairs : List (List ℕ × V)) (key : List ℕ) (value : V) → length (put pairs key value) ≤ length pairs + 1
  put-length [] key value = omega arith
  put-length (pair ∷ pairs) key value = elim (same_key pair.0 key) [
    | inl s ↦ simp s.0 (omega arith)
    | inr d ↦ simp d.0 (omega (arith, put-length pairs key value))
  ]

  -- If there is spare capacity, an insertion succeeds without growth.
  pub put_in_room : (pairs : List (List ℕ × V)) (c : ℕ) (key : List ℕ) (value : V) (answer : Result (Option V) (RefusedPair V))
      (pairs' : List (List ℕ × V)) (c' : ℕ) → length pairs < c
      → Inserts pairs c key value answer pairs' c' → IsOk answer × (pairs' ≡ put pairs key value) × (c' ≡ c)
  put_in_room pairs c key value (Ok (Some old)) pairs' c' room h = (refl, h.1, h.2)
  put_in_room pairs c key value (Ok None) pairs' c' room h = (refl, h.1, h.2.0 ∙ sym (had_room (length pairs) c room).0)
  put_in_room pairs c key value (Err refused) pairs' c' room h =
      absurd (omega (arith, short (length pairs) c 1 c' refused.why h.4, (had_room (length pairs) c room).0))
