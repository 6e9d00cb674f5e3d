-- Lemmas: if some accepted text begins with `before`, then `before` does not exceed a limit.
use Rattle.std.proofs.Common.{◌≡◌, ℕ, zero, suc, ◌+◌, ◌<◌, ◌≤◌, Bool, true, false, List, [], ◌∷◌, ◌++◌, length, take, refl, sym, ap, subst, ◌∙◌, append_assoc, append-nil, arith, inl, inr}
use Rattle.std.specs.Prelude.{◌⊎◌, ◌||◌, ◌&&◌, nat_le}
use Rattle.std.proofs.lemmas.Bool.{cases_lt}
use Rattle.std.proofs.lemmas.Bool.Decides.{nat_tests}
use Rattle.std.proofs.lemmas.List.{length-append, take-append-le}
use Rattle.std.specs.Prelude.{IsTrue}
use Rattle.ijson_number.specs.NumberBytes.{is_number_byte}
use Rattle.ijson_number.specs.NumberFront.{IsNumberFront, IsUnread, BeginsNumber, IsPastLimit}
use Rattle.ijson_number.specs.declared.number.ReadNumberError.TheVariants.{OutOfRange}
use Rattle.ijson_number.proofs.parsing.SpelledBytes.{spells_bytes}
use Rattle.ijson_json.specs.Grammar.{is_space, IsSpace}
use Rattle.ijson_json.specs.Begins.{BeginsWithin}
use Rattle.ijson_json.specs.Inside.{EachWithComma, no_comma, comma_after, Inside, here, in_array, in_object, IsValuePlace}
use Rattle.ijson_json.specs.ErrorOf.{TooDeepAt, OutOfRangeAt}
use Rattle.ijson_json.proofs.scanning.Prefixes.{Run, not_both, heads}
use Rattle.ijson_json.proofs.errors.Overlaps.{IsLonger, last_passes}
use Rattle.ijson_json.proofs.errors.LimitErrors.{accepted_shallow, accepted_ranged}

-- ---- the last byte before a value

-- Returns `true` if the byte can occur in a number, `null`, `true` or `false`.
abbrev pub is_token : ℕ → Bool
is_token b = is_number_byte b || (nat_le 97 b && nat_le b 122)

-- Holds if `text` is empty, or if its last byte cannot occur in a number, `null`, `true` or
-- `false`.
abbrev EndsPlain : List ℕ → Type 0
EndsPlain text = (text ≡ []) ⊎ ((front : List ℕ) × (b : ℕ) × (is_token b ≡ false) × (text ≡ front ++ b ∷ []))

-- If `EndsPlain` holds for two texts, it holds for their concatenation.
ends_behind : (a b : List ℕ) → EndsPlain a → EndsPlain b → EndsPlain (a ++ b)
ends_behind a b p (inr (front, c, plain, e)) = inr (a ++ front, c, plain, ap (λ (l : List ℕ). a ++ l) e ∙ sym (append_assoc a front (c ∷ [])))
ends_behind a b p (inl e) = subst EndsPlain (rw e (sym (append-nil a))) p

space_plain : (b : ℕ) → IsTrue (is_space b) → is_token b ≡ false
space_plain b h = grind (arith, nat_tests)

space_ends : (text : List ℕ) → IsSpace text → EndsPlain text
space_ends [] h = inl refl
space_ends (b ∷ text) h = ends_behind (b ∷ []) text (inr ([], b, space_plain b h.0, refl)) (space_ends text h.1)

each_ends : {P : List ℕ → Type 0} {text : List ℕ} → EachWithComma P text → EndsPlain text
each_ends no_comma = inl refl
each_ends (comma_after {first} {more} p each) =
    let one : EndsPlain (first ++ 44 ∷ []) = inr (first, 44, refl, refl) in
    subst EndsPlain (append_assoc first (44 ∷ []) more) (ends_behind (first ++ 44 ∷ []) more one (each_ends each))

place_ends : {opened : ℕ} {before : List ℕ} → Inside IsSpace opened before → EndsPlain before
place_ends (here {text} h) = space_ends text h
place_ends (in_array gap {items} {inside} sg each i) =
    let bracket : EndsPlain (gap ++ 91 ∷ []) = inr (gap, 91, refl, refl) in
    let behind = ends_behind items inside (each_ends each) (place_ends i) in
    subst EndsPlain (append_assoc gap (91 ∷ []) (items ++ inside)) (ends_behind (gap ++ 91 ∷ []) (items ++ inside) bracket behind)
place_ends (in_object gap key {members} {inside} sg each k i) =
    let colon : EndsPlain (((gap ++ 123 ∷ members) ++ key) ++ 58 ∷ []) = inr ((gap ++ 123 ∷ members) ++ key, 58, refl, refl) in
    subst EndsPlain (simp append_assoc) (ends_behind (((gap ++ 123 ∷ members) ++ key) ++ 58 ∷ []) inside colon (place_ends i))

-- The text before a value does not end with a byte that can occur in a number, `null`, `true` or
-- `false`.
pub within_token : {opened : ℕ} {before : List ℕ} (front : List ℕ) (c : ℕ) (more : List ℕ) → Inside IsSpace opened before
    → before ≡ front ++ c ∷ more → Run is_token (c ∷ more) → ⊥
within_token front c more i e h = go (place_ends i) e
  where
    go : {text : List ℕ} → EndsPlain text → text ≡ front ++ c ∷ more → ⊥
    go (inl n) e = no_end front (sym n ∙ e)
      where
        no_end : (front : List ℕ) → [] ≡ front ++ c ∷ more → ⊥
        no_end [] e = cc
        no_end (d ∷ front) e = cc
    go (inr (a, b, plain, f)) e = not_both (is_token b) (last_passes is_token front more c a b h (sym e ∙ f)) plain

-- A byte that can occur in a number satisfies `is_token`.
number_token : (b : ℕ) → is_number_byte b ≡ true → is_token b ≡ true
number_token b h = rw h refl

pub number_tokens : (text : List ℕ) → Run is_number_byte text → Run is_token text
number_tokens [] h = tt
number_tokens (b ∷ text) h = (number_token b h.0, number_tokens text h.1)

-- ---- the longest prefix that begins a number

-- A number out of range that ends within `seen` is out of range, whatever text follows `seen`.
same_unread : (seen y z : List ℕ) (count : ℕ) → IsNumberFront (seen ++ y) count → IsPastLimit (take count (seen ++ y))
    → count < length seen → IsUnread (seen ++ z) OutOfRange
same_unread seen y z count f past less =
    let one : take count (seen ++ y) ≡ take count (seen ++ z) =
    take-append-le count seen y (omega (arith, less)) ∙ sym (take-append-le count seen z (omega (arith, less))) in
    let two : take (count + 1) (seen ++ y) ≡ take (count + 1) (seen ++ z) =
    take-append-le (count + 1) seen y (omega (arith, less)) ∙ sym (take-append-le (count + 1) seen z (omega (arith, less))) in (
      count,
      record {
        within = omega (arith, less, length-append seen z);
        begins = subst BeginsNumber one f.begins;
        ends = λ inside more. f.ends (omega (arith, less, length-append seen y)) (subst BeginsNumber (sym two) more);
      },
      subst IsPastLimit one past,
    )

-- If the first `count` bytes of a text pass the test, so do the bytes of a shorter prefix `seen`.
run_front : (p : ℕ → Bool) (seen y : List ℕ) (count : ℕ) → Run p (take count (seen ++ y)) → length seen ≤ count → Run p seen
run_front p [] y count h most = tt
run_front p (c ∷ seen) y zero h most = absurd (omega arith)
run_front p (c ∷ seen) y (suc count) h most = (h.0, run_front p seen y count h.1 (omega (arith, most)))

-- ---- a limit that is exceeded earlier

-- If some accepted text begins with `before`, then `before` does not contain a bracket that is too
-- deep.
pub no_deep_before : {text : List ℕ} {at : ℕ} (a : TooDeepAt text at) (before y : List ℕ) → BeginsWithin before
    → IsLonger a.before before (a.bracket ∷ a.rest) y → ⊥
no_deep_before a before y (more, tree, accepted) (c, mid, e, f) =
    accepted_shallow (before ++ more) tree a.before a.bracket (mid ++ more) accepted
    (rw (e, heads _ _ _ _ f) (append_assoc a.before (c ∷ mid) more)) a.place a.opens

-- If some accepted text begins with `before`, and a value may begin after `before`, then `before`
-- does not contain a number out of range.
pub no_range_before : {text : List ℕ} {at : ℕ} (a : OutOfRangeAt text at) (opened : ℕ) (before y : List ℕ) → BeginsWithin before
    → IsValuePlace opened before → IsLonger a.before before a.rest y → ⊥
no_range_before a opened before y (more, tree, accepted) i (c, mid, e, f) =
    let (count, front, past) = a.past in
    let front' = subst (λ (l : List ℕ). IsNumberFront l count) f front in
    let past' = subst (λ (l : List ℕ). IsPastLimit (take count l)) f past in
    elim (cases_lt count (length (c ∷ mid))) [
      | inl less ↦ accepted_ranged (before ++ more) tree a.opened a.before ((c ∷ mid) ++ more) accepted
          (ap (λ (l : List ℕ). l ++ more) e ∙ append_assoc a.before (c ∷ mid) more) a.place
          (same_unread (c ∷ mid) y more count front' past' less)
      | inr most ↦ within_token a.before c mid i e (number_tokens (c ∷ mid)
          (run_front is_number_byte (c ∷ mid) y count (spells_bytes _ past'.0 past'.1) (omega (arith, most))))
    ]
