-- Stripping zeros from the parts of a number yields its canonical digits and exponent, and keeps
-- its value.
use Rattle.ijson_number.proofs.Common.{◌≡◌, ◌≢◌, ℕ, zero, suc, ◌+◌, ◌-◌, ◌^◌, ◌<◌, ◌≤◌, Bool, false, List, [], ◌∷◌, ◌++◌, length, get_or, replicate}
use Rattle.ijson_number.proofs.Common.{refl, ap, sym, ◌∙◌, length-append, inl, inr, arith, ℤ, pos, map-append, nil_from_length, All-from_recursion}
use Rattle.ijson_number.proofs.Common.{number_from_digits, Decimal, IsNum, stored_number, AllDigits, Denotes, Parts, IsSpelled, IsFraction, Spells}
use Rattle.ijson_number.proofs.Common.{value, cases_lt, IsWithin, exponent_of, BeginsWithNoZero, EndsWithNoZero, IsStored, IsStripped}
use Rattle.ijson_number.proofs.Common.{digits_from_text, power_le, signed_zero, cases_eq}
use Rattle.ijson_number.proofs.parsing.DigitRuns.{AllDigits-append, AllDigits_left, AllDigits_right, IsDigits_all, whole_all}
use Rattle.ijson_number.proofs.parsing.DigitValues.{below_base, count_of, value_small}
use Rattle.ijson_number.proofs.parsing.Exponents.{within_in_range, in_range_within}
use Rattle.ijson_number.proofs.parsing.Denotes.{denotes_some, denotes_zero, spells_one, stripped_plain, stripped_mod, pointless}

digit_at : (bs : List ℕ) (i : ℕ) → AllDigits bs → i < length bs → (48 ≤ get_or bs i 0) × (get_or (digits_from_text bs) i 0 ≡ get_or bs i 0 - 48)
digit_at [] i h l = absurd (omega arith)
digit_at (b ∷ bs) zero h l = (omega arith, refl)
digit_at (b ∷ bs) (suc i) h l = digit_at bs i h.1 (omega arith)

not_zero_at : (bs : List ℕ) (i : ℕ) → AllDigits bs → i < length bs → get_or bs i 0 ≢ 48 → get_or (digits_from_text bs) i 0 ≢ 0
not_zero_at bs i h l n e = let r = digit_at bs i h l in n (omega arith)

pub count_is : (front back : List ℕ) → length (digits_from_text (front ++ back)) ≡ length front + length back
count_is front back = count_of (front ++ back) ∙ length-append front back

-- The digits of `front` followed by the digits of `back` are the digits of `front ++ back`.
pub joined : (front back one two : List ℕ) → one ≡ digits_from_text front → two ≡ one ++ digits_from_text back
    → two ≡ digits_from_text (front ++ back)
joined front back one two a b = b ∙ ap (λ x. x ++ digits_from_text back) a ∙ sym (map-append {A = ℕ} {B = ℕ} (λ b. b - 48) front back)

pub text_stripped : (bs : List ℕ) → AllDigits bs → BeginsWithNoZero bs → EndsWithNoZero bs → IsStripped (digits_from_text bs)
text_stripped bs h f l =
    let len = count_of bs in
    record {
      below_ten = All-from_recursion (λ d. d < 10) (digits_from_text bs) (below_base bs h);
      first = λ p. not_zero_at bs 0 h (rw len at p) (f (rw len at p));
      last = λ p. rw len (not_zero_at bs (length bs - 1) h (omega arith) (l (rw len at p)));
    }

begins_left : (a b : List ℕ) → BeginsWithNoZero (a ++ b) → BeginsWithNoZero a
begins_left [] b h p = absurd (omega arith)
begins_left (x ∷ a) b h p = h (omega arith)

fraction_digits : (ft f : List ℕ) (p : Bool) → IsFraction ft f p → AllDigits f
fraction_digits [] f p g = rw g.0 tt
fraction_digits (b ∷ bs) f p g = rw g.2 (IsDigits_all bs g.1)

-- Holds if `w ++ f` are the digits of the parts `p` without their `j` leading zeros, and `a ++ b`
-- are the digits that remain without `k` trailing zeros. No zeros remain at either end.
pub record ZerosTaken (text : List ℕ) (p : Parts) (w f a b : List ℕ) (j k : ℕ) : Type 0 where
  pub spelled : IsSpelled text p
  pub front : p.whole ++ p.fraction ≡ replicate j 48 ++ (w ++ f)
  pub back : w ++ f ≡ (a ++ b) ++ replicate k 48
  pub first : BeginsWithNoZero (w ++ f)
  pub last : EndsWithNoZero (a ++ b)

module _ {text : List ℕ} {p : Parts} {w f a b : List ℕ} {j k : ℕ} (taken : ZerosTaken text p w f a b j k) where
  open taken use {spelled, front, back, first, last}

  all_digits : AllDigits (a ++ b)
  all_digits =
      let h = AllDigits-append p.whole p.fraction (whole_all p.whole spelled.whole)
      (fraction_digits spelled.fraction_text p.fraction spelled.has_point spelled.fraction) in
      let g : AllDigits (w ++ f) = AllDigits_right (replicate j 48) (w ++ f) (rw front at h) in
      AllDigits_left (a ++ b) (replicate k 48) (rw back at g)

  pub digits_front : AllDigits a
  digits_front = AllDigits_left a b all_digits

  pub digits_back : AllDigits b
  digits_back = AllDigits_right a b all_digits

  stripped : IsStripped (digits_from_text (a ++ b))
  stripped = text_stripped (a ++ b) all_digits (begins_left (a ++ b) (replicate k 48) (rw back at first)) last

  some_digits : 0 < length (a ++ b) → 0 < length (digits_from_text (a ++ b))
  some_digits h = rw (count_of (a ++ b)) h

  pub denotes_number : 0 < length (a ++ b) → (e : ℤ) → e ≡ exponent_of p.exponent (length p.fraction) k
      → Denotes p (stored_number p.negative (digits_from_text (a ++ b)) e p.point)
  denotes_number h e is = rw is (denotes_some p (w ++ f) (a ++ b) j k front back (some_digits h) stripped (pointless text p k spelled))

  pub denotes_nought : length (a ++ b) ≡ 0 → Denotes p (stored_number false (digits_from_text (a ++ b)) (pos 0) p.point)
  denotes_nought h = let nil : a ++ b ≡ [] = nil_from_length (a ++ b) h in rw nil (denotes_zero p (w ++ f) (a ++ b) j k front back h)

  pub stores_number : 0 < length (a ++ b) → IsStored p.negative (digits_from_text (a ++ b))
  stores_number h = record {
    stripped = stripped;
    no_minus = λ nil. (let l : length (digits_from_text (a ++ b)) ≡ 0 = ap length nil in let s = some_digits h in absurd (omega arith));
  }

  pub is_num : 0 < length (a ++ b) → (e : ℤ) → e ≡ exponent_of p.exponent (length p.fraction) k → IsWithin e
      → IsNum (stored_number p.negative (digits_from_text (a ++ b)) e p.point)
  is_num h e is within = record {
    plain = stripped_plain p.negative p.point (digits_from_text (a ++ b)) e stripped (some_digits h)
        (λ n. rw is (pointless text p k spelled n));
    in_range = within_in_range (stored_number p.negative (digits_from_text (a ++ b)) e p.point) within;
  }

  pub past_limit : 0 < length (a ++ b) → (IsWithin (exponent_of p.exponent (length p.fraction) k) → ⊥) → (n : Decimal) → Spells text n
      → IsNum n → ⊥
  past_limit h out n s num =
      let e : n ≡ stored_number p.negative (digits_from_text (a ++ b)) (exponent_of p.exponent (length p.fraction) k) p.point =
      spells_one text n _ s (p, spelled, denotes_number h _ refl) in
      let num' = rw e at num in
      elim (in_range_within (stored_number p.negative (digits_from_text (a ++ b))
      (exponent_of p.exponent (length p.fraction) k) p.point) num'.in_range) [
        | inl z ↦ stripped_mod (digits_from_text (a ++ b)) stripped (some_digits h)
            (rw (signed_zero p.negative (number_from_digits 10 (digits_from_text (a ++ b))) z) refl)
        | inr within ↦ out within
      ]

-- Digits with a value of at least `10 ^ 19` are at least 20 digits.
pub many_digits : (front back : List ℕ) → AllDigits front → AllDigits back → 10 ^ 19 ≤ value (front ++ back) → 19 < length front + length back
many_digits front back a b large = elim (cases_lt 19 (length front + length back)) [
  | inl many ↦ many
  | inr few ↦ (
      let small = value_small (front ++ back) (AllDigits-append front back a b) in
      let power = power_le (length (front ++ back)) 19 (rw length-append few) in
      absurd (omega (arith, small, power, large))
      )
]

-- Every list of bytes consists of `j` leading `'0'`s and a list that does not begin with `'0'`.
front_zeros : (bs : List ℕ) → (j : ℕ) × (t : List ℕ) × (bs ≡ replicate j 48 ++ t) × BeginsWithNoZero t
front_zeros [] = (0, [], refl, λ l. absurd (omega arith))
front_zeros (b ∷ bs) =
    elim (cases_eq b 48) [
      | inl e ↦ (let r = front_zeros bs in (suc r.0, r.1, rw e (ap (λ (x : List ℕ). 48 ∷ x) r.2), r.3))
      | inr n ↦ (0, b ∷ bs, refl, λ l e. n e)
    ]

longer_end : (b c : ℕ) (cs : List ℕ) → EndsWithNoZero (c ∷ cs) → EndsWithNoZero (b ∷ c ∷ cs)
longer_end b c cs h l = let e : length (b ∷ c ∷ cs) - 1 ≡ suc (length (c ∷ cs) - 1) = omega arith in rw e (h (omega arith))

back_step : (b k : ℕ) (s bs : List ℕ) → bs ≡ s ++ replicate k 48 → EndsWithNoZero s
    → (j : ℕ) × (t : List ℕ) × (b ∷ bs ≡ t ++ replicate j 48) × EndsWithNoZero t
back_step b k [] bs e h =
    elim (cases_eq b 48) [ inl is ↦ (suc k, [], rw (is, e) refl, λ l. absurd (omega arith)) | inr n ↦ (k, b ∷ [], rw e refl, λ l e. n e) ]
back_step b k (c ∷ cs) bs e h = (k, b ∷ c ∷ cs, rw e refl, longer_end b c cs h)

-- Every list of bytes consists of a list that does not end with `'0'` and `k` trailing `'0'`s.
back_zeros : (bs : List ℕ) → (k : ℕ) × (s : List ℕ) × (bs ≡ s ++ replicate k 48) × EndsWithNoZero s
back_zeros [] = (0, [], refl, λ l. absurd (omega arith))
back_zeros (b ∷ bs) = let r = back_zeros bs in back_step b r.0 r.1 bs r.2 r.3

pub parts_denote : (text : List ℕ) (p : Parts) → IsSpelled text p → (n : Decimal) × Denotes p n
parts_denote text p spelled =
    let f = front_zeros (p.whole ++ p.fraction) in
    let b = back_zeros f.1 in
    let taken : ZerosTaken text p [] f.1 [] b.1 f.0 b.0 = record { spelled = spelled; front = f.2; back = b.2; first = f.3; last = b.3 } in
    elim (cases_eq (length b.1) 0) [
      | inl none ↦ (_, denotes_nought taken none)
      | inr some ↦ (_, denotes_number taken (omega (arith, some)) _ refl)
    ]

pub parts_spell : (text : List ℕ) (p : Parts) → IsSpelled text p → (n : Decimal) × Spells text n
parts_spell text p spelled = let n = parts_denote text p spelled in (n.0, (p, spelled, n.1))
