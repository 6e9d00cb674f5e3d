-- No value's words are a proper prefix of another value's words. If two values feed the same words
-- and the first contains no object, the values are the same.
use Rattle.std.proofs.Common.{◌≡◌, ◌⊎◌, ℕ, Bool, true, false, cond, List, [], ◌∷◌, ◌++◌, length, get_or, drop, inl, inr, refl, sym, ap, ◌∙◌}
use Rattle.std.proofs.Common.{arith, append_assoc}
use Rattle.std.specs.declared.cmp.Ordering.TheVariants.{Equal}
use Rattle.std.specs.Prelude.{◌^◌, ℤ, pos, negsuc, neg_ℤ, nat_abs, nat_eq, nat_lt, ◌+ℤ◌, ◌≤ℤ◌, int_lt, if◌then◌else◌}
use Rattle.std.specs.Int.Digits.{number_from_digits}
use Rattle.std.proofs.lemmas.Bool.Decides.{nat_tests}
use Rattle.std.proofs.lemmas.Int.{ints}
use Rattle.ijson_number.specs.Decimal.{Decimal}
use Rattle.ijson_number.specs.Num.{IsNum}
use Rattle.ijson_number.specs.Order.{number_cmp}
use Rattle.ijson_number.specs.StrippedDigits.{stripped_digits}
use Rattle.ijson_number.specs.Words.{number_words}
use Rattle.ijson_number.specs.laws.Ordered.{same_equal}
use Rattle.ijson_number.proofs.parsing.Exponents.{in_range_within}
use Rattle.ijson_number.proofs.writing.DigitTexts.{within_value}
use Rattle.ijson_value.specs.HoldsNoObject.{HoldsNoObject, HoldNoObject}
use Rattle.ijson_value.specs.Order.{rank}
use Rattle.ijson_value.specs.Same.{Same, SameEach}
use Rattle.ijson_value.specs.Tree.{Tree, null, boolean, number, string, array, object, Items, no_items, item}
use Rattle.ijson_value.specs.WellFormed.{IsWellFormed, AreWellFormed}
use Rattle.ijson_value.specs.Length.{items_len}
use Rattle.ijson_value.specs.Words.{words, item_words}

-- The word at an index, or 0 if the index is out of bounds.
abbrev word : ℕ → List ℕ → ℕ
word i ws = get_or ws i 0

-- If `xs ++ x` equals `ys ++ y`, and `xs` and `ys` have the same length, then `xs` equals `ys` and
-- `x` equals `y`.
split_at : (xs ys x y : List ℕ) → length xs ≡ length ys → xs ++ x ≡ ys ++ y → (xs ≡ ys) × (x ≡ y)
split_at [] [] x y l h = (refl, h)
split_at [] (b ∷ ys) x y l h = absurd (omega (arith, l))
split_at (a ∷ xs) [] x y l h = absurd (omega (arith, l))
split_at (a ∷ xs) (b ∷ ys) x y l h =
    let rest = split_at xs ys x y (omega (arith, l)) (ap (drop 1) h) in
    (λ i. ap (word 0) h i ∷ rest.0 i, rest.1)

-- The word for the sign of a nonzero number: 2 if negative, otherwise 1.
abbrev sign_word : Bool → ℕ
sign_word negative = (if negative then 2 else 1)

-- The words of a nonzero number.
abbrev some_words : Decimal → List ℕ
some_words n =
    2
    ∷ sign_word (int_lt n.mantissa (pos 0))
    ∷ nat_abs (n.exponent +ℤ pos 2147483648)
    ∷ length (stripped_digits n)
    ∷ stripped_digits n

-- Holds if `n` is zero and its words are 2 and 0.
record IsZero (n : Decimal) : Type 0 where
  no_mantissa : nat_abs n.mantissa ≡ 0
  words_are : number_words n ≡ 2 ∷ 0 ∷ []

-- Holds if `n` is nonzero and its words are `some_words`.
record IsSome (n : Decimal) : Type 0 where
  some_mantissa : nat_eq (nat_abs n.mantissa) 0 ≡ false
  words_are : number_words n ≡ some_words n

-- A conditional equals `xs` if `b` is true, and `ys` if `b` is false.
either : (b : Bool) (xs ys : List ℕ)
    → ((b ≡ true) × ((let r : List ℕ = elim b [ true ↦ xs | false ↦ ys ] in r) ≡ xs))
    ⊎ ((b ≡ false) × ((let r : List ℕ = elim b [ true ↦ xs | false ↦ ys ] in r) ≡ ys))
either true xs ys = inl (refl, refl)
either false xs ys = inr (refl, refl)

-- Each number is zero or nonzero.
zero_or_some : (n : Decimal) → IsZero n ⊎ IsSome n
zero_or_some n = elim (either (nat_eq (nat_abs n.mantissa) 0) (2 ∷ 0 ∷ []) (some_words n)) [
  | inl z ↦ let e = z.0 in inl (record { no_mantissa = grind (arith, nat_tests); words_are = z.1 })
  | inr s ↦ inr (record { some_mantissa = s.0; words_are = s.1 })
]

none_below : (n : ℕ) → nat_lt n 0 ≡ false
none_below n = grind (arith, nat_tests)

-- Significands with the same sign word and the same absolute value are equal.
same_mantissa : (a b : ℤ) → sign_word (int_lt a (pos 0)) ≡ sign_word (int_lt b (pos 0)) → nat_abs a ≡ nat_abs b → a ≡ b
same_mantissa (pos a) (pos b) s e = ap pos e
same_mantissa (negsuc a) (negsuc b) s e = ap negsuc (omega (arith, e))
same_mantissa (pos a) (negsuc b) s e = absurd (omega (arith, sym (ap sign_word (none_below a)) ∙ s))
same_mantissa (negsuc a) (pos b) s e = absurd (omega (arith, s ∙ ap sign_word (none_below b)))

-- Exponents of at least -(2 ^ 30) that have the same word are equal.
same_exponent : (e f : ℤ) → neg_ℤ (pos (2 ^ 30)) ≤ℤ e → neg_ℤ (pos (2 ^ 30)) ≤ℤ f
    → nat_abs (e +ℤ pos 2147483648) ≡ nat_abs (f +ℤ pos 2147483648) → e ≡ f
same_exponent e f a b h = omega (arith, ints)

-- The exponent of a nonzero number is at least -(2 ^ 30).
least_exponent : (n : Decimal) → IsNum n → IsSome n → neg_ℤ (pos (2 ^ 30)) ≤ℤ n.exponent
least_exponent n k s = elim (in_range_within n k.in_range) [
  | inl z ↦ let q = s.some_mantissa in absurd (cc)
  | inr w ↦ w.0
]

-- Two nonzero numbers with the same words are equal in value.
some_same : (m n : Decimal) → IsNum m → IsNum n → IsSome m → IsSome n → some_words m ≡ some_words n
    → number_cmp m n ≡ Equal
some_same m n j k p q h =
    let size : nat_abs m.mantissa ≡ nat_abs n.mantissa = sym (within_value (nat_abs m.mantissa))
    ∙ ap (λ ws. number_from_digits 10 (drop 4 ws)) h ∙ within_value (nat_abs n.mantissa) in
    same_equal m n (same_mantissa m.mantissa n.mantissa (ap (word 1) h) size)
    (same_exponent m.exponent n.exponent (least_exponent m j p) (least_exponent n k q) (ap (word 2) h))

-- Two numbers that are zero are equal in value.
zero_same : (m n : Decimal) → IsNum m → IsNum n → IsZero m → IsZero n → number_cmp m n ≡ Equal
zero_same m n j k p q =
    let a : m.mantissa ≡ pos 0 = let z = p.no_mantissa in omega (arith, ints) in
    let b : n.mantissa ≡ pos 0 = let z = q.no_mantissa in omega (arith, ints) in
    same_equal m n (a ∙ sym b) (j.plain.zero a ∙ sym (k.plain.zero b))

sign_not_zero : (b : Bool) → 0 ≡ sign_word b → ⊥
sign_not_zero true e = omega (arith, e)
sign_not_zero false e = omega (arith, e)

-- If the words of `m` followed by `x` equal the words of `n` followed by `y`, then `x` equals `y`,
-- and `m` and `n` are equal in value.
number_ends : (m n : Decimal) (x y : List ℕ) → IsNum m → IsNum n → number_words m ++ x ≡ number_words n ++ y
    → (x ≡ y) × (number_cmp m n ≡ Equal)
number_ends m n x y j k h = elim (zero_or_some m) [
  | inl p ↦ elim (zero_or_some n) [
    | inl q ↦
        let e = ap (λ ws. ws ++ x) (sym p.words_are) ∙ h ∙ ap (λ ws. ws ++ y) q.words_are in
        (ap (drop 2) e, zero_same m n j k p q)
    | inr q ↦
        let e = ap (λ ws. ws ++ x) (sym p.words_are) ∙ h ∙ ap (λ ws. ws ++ y) q.words_are in
        absurd (sign_not_zero (int_lt n.mantissa (pos 0)) (ap (word 1) e))
  ]
  | inr p ↦ elim (zero_or_some n) [
    | inl q ↦
        let e = ap (λ ws. ws ++ x) (sym p.words_are) ∙ h ∙ ap (λ ws. ws ++ y) q.words_are in
        absurd (sign_not_zero (int_lt m.mantissa (pos 0)) (sym (ap (word 1) e)))
    | inr q ↦
        let e = ap (λ ws. ws ++ x) (sym p.words_are) ∙ h ∙ ap (λ ws. ws ++ y) q.words_are in
        let s = split_at (some_words m) (some_words n) x y (omega (arith, ap (word 3) e)) e in
        (s.1, some_same m n j k p q s.0)
  ]
]

-- The first word of a number is 2.
number_first : (n : Decimal) (x : List ℕ) → word 0 (number_words n ++ x) ≡ 2
number_first n x = elim (zero_or_some n) [
  | inl z ↦ ap (λ ws. word 0 (ws ++ x)) z.words_are
  | inr s ↦ ap (λ ws. word 0 (ws ++ x)) s.words_are
]

-- The first word of a tree is the rank of its kind.
first_word : (t : Tree) (x : List ℕ) → word 0 (words t ++ x) ≡ rank t
first_word (number n) x = number_first n x
first_word _ x = refl

-- If the words of `t` followed by `x` equal the words of `u` followed by `y`, then `t` and `u` have
-- the same kind.
other_kinds : (t u : Tree) (x y : List ℕ) → words t ++ x ≡ words u ++ y → rank t ≡ rank u
other_kinds t u x y h = sym (first_word t x) ∙ ap (word 0) h ∙ first_word u y

-- The second word of a Boolean: 1 for true, 0 for false.
abbrev truth_word : Bool → ℕ
truth_word b = cond b 1 0

-- Booleans with the same word are equal.
same_boolean : (a b : Bool) → truth_word a ≡ truth_word b → a ≡ b
same_boolean true true e = refl
same_boolean true false e = absurd (omega (arith, e))
same_boolean false true e = absurd (omega (arith, e))
same_boolean false false e = refl

mutual
  -- If the words of `t` followed by `x` equal the words of `u` followed by `y`, then `x` equals
  -- `y`. If in addition `t` contains no object, then `t` and `u` are the same.
  pub words_end : (t u : Tree) (x y : List ℕ) → IsWellFormed t → IsWellFormed u → words t ++ x ≡ words u ++ y
      → (x ≡ y) × (HoldsNoObject t → Same t u)
  words_end null null x y d e h = (ap (drop 1) h, λ k. tt)
  words_end (boolean a) (boolean b) x y d e h = (ap (drop 2) h, λ k. same_boolean a b (ap (word 1) h))
  words_end (number m) (number n) x y d e h = let s = number_ends m n x y d e h in (s.0, λ k. s.1)
  words_end (string r) (string s) x y d e h =
      let p = split_at r s x y (ap (word 1) h) (ap (drop 2) h) in (p.1, λ k. p.0)
  words_end (array ts) (array us) x y d e h = items_end ts us x y d e (ap (word 1) h) (ap (drop 2) h)
  words_end (object ps) (object qs) x y d e h = (ap (drop 3) h, λ k. absurd k)
  words_end t u x y d e h = absurd (omega (arith, other_kinds t u x y h))

  -- If `ts` and `us` have the same length, and the words of `ts` followed by `x` equal the words of
  -- `us` followed by `y`, then `x` equals `y`. If in addition `ts` contains no object, then the
  -- elements are the same.
  items_end : (ts us : Items) (x y : List ℕ) → AreWellFormed ts → AreWellFormed us
      → items_len ts ≡ items_len us → item_words ts ++ x ≡ item_words us ++ y
      → (x ≡ y) × (HoldNoObject ts → SameEach ts us)
  items_end no_items no_items x y d e l h = (h, λ k. tt)
  items_end no_items (item u us) x y d e l h = absurd (omega (arith, l))
  items_end (item t ts) no_items x y d e l h = absurd (omega (arith, l))
  items_end (item t ts) (item u us) x y d e l h =
      let first = words_end t u (item_words ts ++ x) (item_words us ++ y) d.0 e.0
      (sym (append_assoc (words t) (item_words ts) x) ∙ h ∙ append_assoc (words u) (item_words us) y) in
      let rest = items_end ts us x y d.1 e.1 (omega (arith, l)) first.0 in
      (rest.0, λ k. (first.1 k.0, rest.1 k.1))
