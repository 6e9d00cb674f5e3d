-- The order of numbers by value is a total order.
use Rattle.std.proofs.Common.{◌≡◌, ℕ, zero, suc, ◌+◌, ◌-◌, ◌*◌, ◌^◌, ◌<◌, ◌≤◌, true, false, refl}
use Rattle.std.proofs.Common.{ap, sym, ◌∙◌, arith, pow-add, inl, inr, ap₂}
use Rattle.std.specs.Prelude.{ℤ, pos, negsuc, neg_ℤ, nat_abs, nat_lt, int_lt, ◌*ℤ◌, ◌-ℤ◌, ◌≤ℤ◌}
use Rattle.std.specs.Int.{int_min}
use Rattle.std.specs.declared.cmp.Ordering.{Ordering}
use Rattle.std.specs.declared.cmp.Ordering.TheVariants.{Less, Equal, Greater}
use Rattle.std.specs.Ordering.{int_cmp, is_eq, ordering_reverse}
use Rattle.std.specs.Cmp.{IsTotalOrder, IsEquivalence, int_cmp_total, both_ways, eq_by_cmp_equiv, tied_itself}
use Rattle.std.specs.List.{flat_map}
use Rattle.std.specs.Hash as fed
use Rattle.std.proofs.lemmas.Int.{ints, clamps}
use Rattle.std.proofs.lemmas.Bool.Decides.{nat_tests}
use Rattle.std.proofs.Math.Nat.{mul_assoc, mul-le-mul_right}
use Rattle.std.proofs.lemmas.Bool.{cases_lt}
use Rattle.ijson_number.specs.Decimal.{Decimal, IsPlain}
use Rattle.ijson_number.specs.Num.{Num}
use Rattle.ijson_number.specs.Order.{number_cmp, number_eq, at_exponent}
use Rattle.ijson_number.specs.Words.{number_words}
use Rattle.ijson_number.specs.laws.Tens.{ten_pos, signed_mul, int_tens, zero_or_not}

below_scaled : (x y k : ℕ) → 0 < k → x < y → x * k < y * k
below_scaled x y k h l = let p : suc x * k ≤ y * k = mul-le-mul_right k l in grind (arith, p)

above_scaled : (x y k : ℕ) → x * k < y * k → x < y
above_scaled x y k l =
    elim (cases_lt x y) [ inl p ↦ p | inr q ↦ (let r : y * k ≤ x * k = mul-le-mul_right k q in absurd (omega arith)) ]

scale_lt : (x y k : ℕ) → 0 < k → nat_lt (x * k) (y * k) ≡ nat_lt x y
scale_lt x y k h = both_ways (nat_lt (x * k) (y * k)) (nat_lt x y)
    (λ t. let p : x * k < y * k = grind (arith, nat_tests) in let q = above_scaled x y k p in grind (arith, nat_tests))
    (λ t. let p : x < y = grind (arith, nat_tests) in let q = below_scaled x y k h p in grind (arith, nat_tests))

neg_is : (t : ℕ) → 0 < t → neg_ℤ (pos t) ≡ negsuc (t - 1)
neg_is zero h = absurd (omega arith)
neg_is (suc t) h = let e : suc t - 1 ≡ t = omega arith in rw e refl

pub times : (x : ℤ) (a b : ℕ) → x *ℤ pos (a * b) ≡ x *ℤ pos a *ℤ pos b
times (pos x) a b = ap pos (sym (mul_assoc x a b))
times (negsuc x) a b = ap (λ t. neg_ℤ (pos t)) (sym (mul_assoc (suc x) a b)) ∙ signed_mul true (suc x * a) b

prod_some : (a k : ℕ) → 0 < k → 0 < suc a * k
prod_some a k h = grind arith

one_less : (a b : ℕ) → 0 < a → 0 < b → nat_lt (a - 1) (b - 1) ≡ nat_lt a b
one_less a b p q = both_ways (nat_lt (a - 1) (b - 1)) (nat_lt a b) (λ t. grind (arith, nat_tests)) (λ t. grind (arith, nat_tests))

suc_lt : (a b : ℕ) → nat_lt (suc a) (suc b) ≡ nat_lt a b
suc_lt a b = both_ways (nat_lt (suc a) (suc b)) (nat_lt a b) (λ t. grind (arith, nat_tests)) (λ t. grind (arith, nat_tests))

scale_int : (x y : ℤ) (k : ℕ) → 0 < k → int_lt (x *ℤ pos k) (y *ℤ pos k) ≡ int_lt x y
scale_int (pos x) (pos y) k h = scale_lt x y k h
scale_int (pos x) (negsuc y) k h = rw (neg_is (suc y * k) (prod_some y k h)) refl
scale_int (negsuc x) (pos y) k h = rw (neg_is (suc x * k) (prod_some x k h)) refl
scale_int (negsuc x) (negsuc y) k h =
    let p = prod_some x k h in
    let q = prod_some y k h in
    rw (neg_is (suc x * k) p, neg_is (suc y * k) q) (one_less (suc y * k) (suc x * k) q p ∙ scale_lt (suc y) (suc x) k h ∙ suc_lt y x)

pub scale_cmp : (x y : ℤ) (k : ℕ) → 0 < k → int_cmp (x *ℤ pos k) (y *ℤ pos k) ≡ int_cmp x y
scale_cmp x y k h = rw (scale_int x y k h, scale_int y x k h) refl

pub nonneg : (z : ℤ) → pos 0 ≤ℤ z → z ≡ pos (nat_abs z)
nonneg (pos n) h = refl
nonneg (negsuc n) h = absurd (omega (arith, ints))

span : (e c d : ℤ) → d ≤ℤ c → c ≤ℤ e → nat_abs (e -ℤ d) ≡ nat_abs (e -ℤ c) + nat_abs (c -ℤ d)
span e c d h g =
    let p = nonneg (e -ℤ d) (omega (arith, ints)) in
    let q = nonneg (e -ℤ c) (omega (arith, ints)) in
    let r = nonneg (c -ℤ d) (omega (arith, ints)) in
    omega (arith, ints)

lower : (n : Decimal) (c d : ℤ) → d ≤ℤ c → c ≤ℤ n.exponent
    → at_exponent d n ≡ at_exponent c n *ℤ pos (10 ^ nat_abs (c -ℤ d))
lower n c d h g =
    ap (λ k. n.mantissa *ℤ pos (10 ^ k)) (span n.exponent c d h g)
    ∙ ap (λ k. n.mantissa *ℤ pos k) (pow-add 10 (nat_abs (n.exponent -ℤ c)) (nat_abs (c -ℤ d)))
    ∙ times n.mantissa (10 ^ nat_abs (n.exponent -ℤ c)) (10 ^ nat_abs (c -ℤ d))

-- Scaling both mantissas to any exponent `d` up to both exponents keeps the order of the numbers.
pub rescale : (a b : Decimal) (d : ℤ) → d ≤ℤ a.exponent → d ≤ℤ b.exponent
    → number_cmp a b ≡ int_cmp (at_exponent d a) (at_exponent d b)
rescale a b d h g =
    let c = int_min a.exponent b.exponent in
    let u : d ≤ℤ c = omega (arith, ints, clamps) in
    let v : c ≤ℤ a.exponent = omega (arith, ints, clamps) in
    let w : c ≤ℤ b.exponent = omega (arith, ints, clamps) in
    sym (rw (lower a c d u v, lower b c d u w)
    (scale_cmp (at_exponent c a) (at_exponent c b) (10 ^ nat_abs (c -ℤ d)) (ten_pos (nat_abs (c -ℤ d)))))

module _ (x y z : Decimal) where
  abbrev least : ℤ
  least = int_min x.exponent (int_min y.exponent z.exponent)

  least_x : least ≤ℤ x.exponent
  least_x = omega (arith, ints, clamps)

  least_y : least ≤ℤ y.exponent
  least_y = omega (arith, ints, clamps)

  least_z : least ≤ℤ z.exponent
  least_z = omega (arith, ints, clamps)

  order_trans : number_cmp x y ≡ Less → number_cmp y z ≡ Less → number_cmp x z ≡ Less
  order_trans p q =
      rescale x z least least_x least_z
      ∙ int_cmp_total.trans (at_exponent least x) (at_exponent least y) (at_exponent least z)
      (sym (rescale x y least least_x least_y) ∙ p)
      (sym (rescale y z least least_y least_z) ∙ q)

  order_congr : number_cmp x y ≡ Equal → number_cmp x z ≡ number_cmp y z
  order_congr p =
      rescale x z least least_x least_z
      ∙ int_cmp_total.congr (at_exponent least x) (at_exponent least y) (at_exponent least z)
      (sym (rescale x y least least_x least_y) ∙ p)
      ∙ sym (rescale y z least least_y least_z)

  order_antisymm : number_cmp x y ≡ ordering_reverse (number_cmp y x)
  order_antisymm =
      rescale x y least least_x least_y
      ∙ int_cmp_total.antisymm (at_exponent least x) (at_exponent least y)
      ∙ ap ordering_reverse (sym (rescale y x least least_y least_x))

pub number_cmp_total : IsTotalOrder number_cmp
number_cmp_total = record {
  antisymm = λ x y. order_antisymm x y y;
  trans = order_trans;
  congr = order_congr;
}

-- Equality by value is an equivalence relation.
pub number_eq_equiv : IsEquivalence number_eq
number_eq_equiv = eq_by_cmp_equiv number_cmp_total

-- If `is_eq o` is true, then `o` is `Equal`.
pub tests_equal : (o : Ordering) → is_eq o ≡ true → o ≡ Equal
tests_equal Less h = absurd (cc)
tests_equal Equal h = refl
tests_equal Greater h = absurd (cc)

pub cmp_equal : (x y : ℤ) → int_cmp x y ≡ Equal → x ≡ y
cmp_equal x y h = grind (arith, ints)

same_span : (a b c : ℤ) (j k : ℕ) → a -ℤ c ≡ pos j → b -ℤ c ≡ pos k → j ≡ k → a ≡ b
same_span a b c j k x y e = omega (arith, ints)

-- Canonical numbers of equal value have the same mantissa and the same exponent.
pub equal_same : (a b : Decimal) → IsPlain a → IsPlain b → number_cmp a b ≡ Equal
    → (a.mantissa ≡ b.mantissa) × (a.exponent ≡ b.exponent)
equal_same a b p q h =
    let c = int_min a.exponent b.exponent in
    let v : c ≤ℤ a.exponent = omega (arith, ints, clamps) in
    let w : c ≤ℤ b.exponent = omega (arith, ints, clamps) in
    let j = nat_abs (a.exponent -ℤ c) in
    let k = nat_abs (b.exponent -ℤ c) in
    let r = int_tens a.mantissa b.mantissa j k p.stripped q.stripped (cmp_equal (at_exponent c a) (at_exponent c b) h) in
    let x = nonneg (a.exponent -ℤ c) (omega (arith, ints)) in
    let y = nonneg (b.exponent -ℤ c) (omega (arith, ints)) in (
      r.0,
      elim (zero_or_not a.mantissa) [
        | inl z ↦ p.zero z ∙ sym (q.zero (sym r.0 ∙ z))
        | inr z ↦ same_span a.exponent b.exponent c j k x y (r.1 z)
      ],
    )

-- Canonical numbers of equal value have the same `number_words`.
pub equal_words : (a b : Decimal) → IsPlain a → IsPlain b → number_cmp a b ≡ Equal → number_words a ≡ number_words b
equal_words a b p q h =
    let r = equal_same a b p q h in
    ap (λ (m : ℤ). number_words (record { mantissa = m; exponent = a.exponent; point = false })) r.0
    ∙ ap (λ (e : ℤ). number_words (record { mantissa = b.mantissa; exponent = e; point = false })) r.1

-- Numbers with the same mantissa and the same exponent are equal by value.
pub same_equal : (a b : Decimal) → a.mantissa ≡ b.mantissa → a.exponent ≡ b.exponent → number_cmp a b ≡ Equal
same_equal a b p q =
    ap₂ (λ (m e : ℤ). number_cmp a (record { mantissa = m; exponent = e; point = b.point })) (sym p) (sym q)
    ∙ tied_itself number_cmp_total a

-- Numbers of equal value feed a hasher the same bytes.
pub equal_feed : (a b : Num) → number_eq a.decimal b.decimal ≡ true
    → flat_map fed.u64 (number_words a.decimal) ≡ flat_map fed.u64 (number_words b.decimal)
equal_feed a b h = ap (flat_map fed.u64) (equal_words a.decimal b.decimal a.is_num.plain b.is_num.plain (tests_equal _ h))
