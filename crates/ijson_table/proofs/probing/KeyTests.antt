-- If `same` is whether the key of the resident is the key sought, an inspection satisfies `Sees`,
-- and therefore `LooksAt`.
use Rattle.std.proofs.Common.{◌≡◌, ◌≢◌, ℕ, ◌+◌, ◌<◌, inl, inr, Bool, true, false, List, [], length, map, get_or, Option}
use Rattle.std.proofs.Common.{Some, refl, sym, ap, subst, ◌∙◌, ◌↔◌, IsTrue}
use Rattle.std.specs.Cmp.Lexicographic.{bytes_decides}
use Rattle.std.specs.Str.{bytes_eq}
use Rattle.std.proofs.lemmas.List.{get_or-map}
use Rattle.ijson_table.specs.declared.slot.Slot.{Slot}
use Rattle.ijson_table.specs.declared.slot.Seen.{Seen}
use Rattle.ijson_table.specs.declared.slot.Seen.TheVariants.{Empty, Resident}
use Rattle.ijson_table.specs.Crowd.{distance}
use Rattle.ijson_table.specs.Slots.{displacement, home_at, resident}
use Rattle.ijson_table.specs.Sees.{Sees}
use Rattle.ijson_table.specs.private.Lookup.{is_key}
use Rattle.ijson_table.specs.private.SlotHashes.{blank, position_in, positions, HasHash, HaveHashes, SeenAs}
use Rattle.ijson_table.specs.private.KeptHash.{kept}
use Rattle.ijson_table.specs.private.Probe.{LooksAt}
use Rattle.ijson_table.proofs.pairs.KeyPositions.{same_key}
use Rattle.ijson_table.proofs.slots.HashesInSlots.{hash-distance, hashes-at, position-at}
use Rattle.ijson_table.proofs.probing.ProbePath.{displacement-some, displacement-none}

-- Holds if `there` has the resident of slot `p` and the kept part of its key's hash.
pub record ReadAt (hashes : List ℕ) (slots : List Slot) (p : ℕ) (there : Slot) : Type 0 where
  pub position : position_in there ≡ resident (positions slots) p
  pub hash : HasHash (length slots) hashes there

pub read_at : (hashes : List ℕ) (slots : List Slot) (p : ℕ) (there : Slot) → HaveHashes (length slots) hashes slots
    → p < length slots → there ≡ get_or slots p blank → ReadAt hashes slots p there
read_at hashes slots p there have within is = record {
  position = sym (position-at slots p (position_in there) within (ap position_in is));
  hash = subst (HasHash (length slots) hashes) (sym is) (hashes-at (length slots) hashes slots p have within);
}

-- A test that is true exactly if two keys are equal is `bytes_eq`.
pub same_test : (r : Bool) (k key : List ℕ) → (IsTrue r ↔ (k ≡ key)) → r ≡ bytes_eq k key
same_test r k key is = elim (same_key k key) [
  | inl yes_it ↦ let up = is.1 yes_it.1 in let other = yes_it.0 in cc (up, other)
  | inr no_it ↦ elim r as (λ b. r ≡ b → r ≡ bytes_eq k key) [
    | true ↦ λ e. absurd (no_it.1 (is.0 e))
    | false ↦ λ e. e ∙ sym no_it.0
  ] refl
]

-- If `is_key` is true for index `i`, key `i` is `key`.
pub is_key-true : (keys : List (List ℕ)) (key : List ℕ) (i : ℕ) → is_key keys key i ≡ true → get_or keys i [] ≡ key
is_key-true keys key i = (bytes_decides (get_or keys i []) key).0

-- If `is_key` is false for index `i`, key `i` is not `key`.
pub is_key-false : (keys : List (List ℕ)) (key : List ℕ) (i : ℕ) → is_key keys key i ≡ false → get_or keys i [] ≢ key
is_key-false keys key i e same = let yes_it = (bytes_decides (get_or keys i []) key).1 same in absurd (cc (yes_it, e))

-- If the kept parts of the hashes of key `i` and `key` differ, `is_key` is false for index `i`.
pub other_hash : (hash : List ℕ → ℕ) (keys : List (List ℕ)) (key : List ℕ) (i n a b : ℕ) → i < length keys
    → a ≡ kept n (get_or (map hash keys) i 0) → b ≡ kept n (hash key) → a ≢ b → false ≡ is_key keys key i
other_hash hash keys key i n a b li at is apart = elim (is_key keys key i) as (λ t. is_key keys key i ≡ t → false ≡ t) [
  | true ↦ λ e. absurd (apart (at ∙ (ap (kept n) (get_or-map hash keys i [] 0 li ∙ ap hash (is_key-true keys key i e)) ∙ sym is)))
  | false ↦ λ e. refl
] refl

-- If `same` agrees with `seeks` at the index in slot `p`, the inspection satisfies `LooksAt`.
pub looks_at_slot : (n : ℕ) (hashes : List ℕ) (slots : List (Option ℕ)) (p : ℕ) (there : Slot) (same : Bool) (seeks : ℕ → Bool) (seen : Seen)
    → n ≡ length slots → position_in there ≡ resident slots p → HasHash n hashes there
    → SeenAs there n p same seen → ((i : ℕ) → position_in there ≡ Some i → same ≡ seeks i)
    → LooksAt slots (displacement hashes slots) seeks p seen
looks_at_slot n hashes slots p there same seeks Empty size at has seen is = (sym at ∙ seen, displacement-none hashes slots p (sym at ∙ seen))
looks_at_slot n hashes slots p there same seeks (Resident i d sought) size at has seen is = (
  sym at ∙ seen.0,
  displacement-some hashes slots p i (sym at ∙ seen.0)
      ∙ ap (λ x. x + 1) (sym (hash-distance n hashes p i d there has seen.0 seen.1 ∙ ap (λ m. distance m (home_at m hashes i) p) size)),
  seen.2 ∙ is i seen.0,
)

-- If `same` is whether the key of the resident is `key`, the inspection satisfies `Sees`.
pub sees_slot : (n : ℕ) (hash : List ℕ → ℕ) (keys : List (List ℕ)) (slots : List (Option ℕ)) (p : ℕ) (there : Slot) (same : Bool)
    (key : List ℕ) (seen : Seen) → n ≡ length slots → position_in there ≡ resident slots p → HasHash n (map hash keys) there
    → SeenAs there n p same seen → ((i : ℕ) → position_in there ≡ Some i → IsTrue same ↔ (get_or keys i [] ≡ key))
    → Sees hash keys slots p key seen
sees_slot n hash keys slots p there same key Empty size at has seen is = sym at ∙ seen
sees_slot n hash keys slots p there same key (Resident i d sought) size at has seen is =
    let told = is i seen.0 in (
      sym at ∙ seen.0,
      hash-distance n (map hash keys) p i d there has seen.0 seen.1 ∙ ap (λ m. distance m (home_at m (map hash keys) i) p) size,
      (λ yes_it. told.0 (sym seen.2 ∙ yes_it), λ e. seen.2 ∙ told.1 e),
    )

-- If an inspection for `key` satisfies `Sees`, it satisfies `LooksAt`, which a probe requires.
pub sees_looks : (hash : List ℕ → ℕ) (keys : List (List ℕ)) (slots : List (Option ℕ)) (p : ℕ) (key : List ℕ) (seen : Seen)
    → Sees hash keys slots p key seen → LooksAt slots (displacement (map hash keys) slots) (is_key keys key) p seen
sees_looks hash keys slots p key Empty s = (s, displacement-none (map hash keys) slots p s)
sees_looks hash keys slots p key (Resident i d same) s =
    (s.0, displacement-some (map hash keys) slots p i s.0 ∙ ap (λ x. x + 1) (sym s.1), same_test same (get_or keys i []) key s.2)
