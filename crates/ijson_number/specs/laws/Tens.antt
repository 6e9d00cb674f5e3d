-- The result of stripping the trailing zeros of a mantissa is unique.
use Rattle.std.proofs.Common.{◌≡◌, ◌≢◌, ◌⊎◌, ℕ, zero, suc, ◌+◌, ◌-◌, ◌*◌, ◌%◌, ◌^◌, ◌<◌, ◌≤◌, pow-add}
use Rattle.std.proofs.Common.{Bool, true, false, refl, ap, sym, ◌∙◌, inl, inr, arith}
use Rattle.std.specs.Prelude.{ℤ, pos, negsuc, neg_ℤ, nat_abs, ◌*ℤ◌, ◌+ℤ◌}
use Rattle.std.proofs.Math.Nat.{pow-succ', mul-mod_left, mul-le-mul_right}
use Rattle.ijson_number.specs.Decimal.{Decimal, IsPlain}
use Rattle.ijson_number.specs.Strips.{Strips, signed}

pub ten_pos : (k : ℕ) → 0 < 10 ^ k
ten_pos zero = omega arith
ten_pos (suc k) = let h = ten_pos k in rw pow-succ' (omega arith)

prod_pos : (a k : ℕ) → 0 < suc a * 10 ^ k
prod_pos a k = let h = ten_pos k in grind (arith, h)

prod_zero : (a k : ℕ) → a * 10 ^ k ≡ 0 → a ≡ 0
prod_zero zero k e = refl
prod_zero (suc a) k e = let h = prod_pos a k in absurd (omega arith)

mod_zero : (a : ℕ) → (a ≢ 0 → a % 10 ≢ 0) → a % 10 ≡ 0 → a ≡ 0
mod_zero zero p e = refl
mod_zero (suc a) p e = absurd (p (λ h. cc) e)

tens_mod : (a b k : ℕ) → a * 10 ^ 0 ≡ b * 10 ^ suc k → a % 10 ≡ 0
tens_mod a b k e =
    let f : a * 10 ^ 0 ≡ b * (10 * 10 ^ k) = rw (pow-succ' 10 k) at e in
    let g : a ≡ b * 10 ^ k * 10 = omega arith in
    rw g (mul-mod_left (b * 10 ^ k) 10)

one_less : (a b j k : ℕ) → a * 10 ^ suc j ≡ b * 10 ^ suc k → a * 10 ^ j ≡ b * 10 ^ k
one_less a b j k e =
    let f : a * (10 * 10 ^ j) ≡ b * (10 * 10 ^ k) = rw (pow-succ' 10 j, pow-succ' 10 k) at e in
    omega arith

-- Suppose that `a * 10 ^ j` equals `b * 10 ^ k`, and that ten divides `a` or `b` only if it is 0.
-- Then `a` equals `b`, and `j` equals `k` unless `a` is 0.
nat_tens : (a b j k : ℕ) → (a ≢ 0 → a % 10 ≢ 0) → (b ≢ 0 → b % 10 ≢ 0) → a * 10 ^ j ≡ b * 10 ^ k
    → (a ≡ b) × (a ≢ 0 → j ≡ k)
nat_tens a b zero zero p q e = (omega arith, λ _. refl)
nat_tens a b zero (suc k) p q e =
    let r : a ≡ 0 = mod_zero a p (tens_mod a b k e) in
    let s : b ≡ 0 = prod_zero b (suc k) (sym e ∙ rw r (omega arith)) in
    (r ∙ sym s, λ n. absurd (n r))
nat_tens a b (suc j) zero p q e =
    let r : b ≡ 0 = mod_zero b q (tens_mod b a j (sym e)) in
    let s : a ≡ 0 = prod_zero a (suc j) (e ∙ rw r (omega arith)) in
    (s ∙ sym r, λ n. absurd (n s))
nat_tens a b (suc j) (suc k) p q e =
    let s = nat_tens a b j k p q (one_less a b j k e) in
    (s.0, λ n. ap suc (s.1 n))

neg_apart : (a b : ℕ) → 0 < b → pos a ≡ neg_ℤ (pos b) → ⊥
neg_apart a zero h e = omega arith
neg_apart a (suc b) h e = cc

neg_same : (a b : ℕ) → neg_ℤ (pos a) ≡ neg_ℤ (pos b) → a ≡ b
neg_same zero zero e = refl
neg_same zero (suc b) e = absurd (cc)
neg_same (suc a) zero e = absurd (cc)
neg_same (suc a) (suc b) e = cc

pub int_tens : (a b : ℤ) (j k : ℕ) → (a ≢ pos 0 → nat_abs a % 10 ≢ 0)
    → (b ≢ pos 0 → nat_abs b % 10 ≢ 0) → a *ℤ pos (10 ^ j) ≡ b *ℤ pos (10 ^ k)
    → (a ≡ b) × (a ≢ pos 0 → j ≡ k)
int_tens (pos a) (pos b) j k p q e =
    let r = nat_tens a b j k (λ n. p (λ h. n (cc))) (λ n. q (λ h. n (cc))) (cc) in
    (ap pos r.0, λ n. r.1 (λ h. n (ap pos h)))
int_tens (pos a) (negsuc b) j k p q e = absurd (neg_apart (a * 10 ^ j) (suc b * 10 ^ k) (prod_pos b k) e)
int_tens (negsuc a) (pos b) j k p q e = absurd (neg_apart (b * 10 ^ k) (suc a * 10 ^ j) (prod_pos a j) (sym e))
int_tens (negsuc a) (negsuc b) j k p q e =
    let r = nat_tens (suc a) (suc b) j k (λ n. p (λ h. cc)) (λ n. q (λ h. cc)) (neg_same (suc a * 10 ^ j) (suc b * 10 ^ k) e) in
    (let s : suc a ≡ suc b = r.0 in cc, λ n. r.1 (λ h. absurd (omega arith)))

pub int_zero : (a : ℤ) (k : ℕ) → a *ℤ pos (10 ^ k) ≡ pos 0 → a ≡ pos 0
int_zero (pos a) k e = ap pos (prod_zero a k (cc))
int_zero (negsuc a) k e = absurd (neg_apart 0 (suc a * 10 ^ k) (prod_pos a k) (sym e))

pub signed_mul : (negative : Bool) (a b : ℕ) → signed negative (a * b) ≡ signed negative a *ℤ pos b
signed_mul false a b = refl
signed_mul true zero b = let e : 0 * b ≡ 0 = omega arith in rw e refl
signed_mul true (suc a) b = refl

pub signed_zero : (negative : Bool) (a : ℕ) → signed negative a ≡ pos 0 → a ≡ 0
signed_zero false a e = cc
signed_zero true zero e = refl
signed_zero true (suc a) e = absurd (cc)

pub abs_signed : (negative : Bool) (a : ℕ) → nat_abs (signed negative a) ≡ a
abs_signed false a = refl
abs_signed true zero = refl
abs_signed true (suc a) = refl

pub zero_or_not : (a : ℤ) → (a ≡ pos 0) ⊎ (a ≢ pos 0)
zero_or_not (pos zero) = inl refl
zero_or_not (pos (suc a)) = inr (λ h. cc)
zero_or_not (negsuc a) = inr (λ h. cc)

strips_apart : (m e : ℤ) (n n' : Decimal) (j k : ℕ) → IsPlain n → IsPlain n'
    → m ≡ n.mantissa *ℤ pos (10 ^ j) → m ≡ n'.mantissa *ℤ pos (10 ^ k) → n.exponent ≡ e +ℤ pos j
    → n'.exponent ≡ e +ℤ pos k → (n.mantissa ≡ n'.mantissa) × (n.exponent ≡ n'.exponent)
strips_apart m e n n' j k g h p q x y =
    let r = int_tens n.mantissa n'.mantissa j k g.stripped h.stripped (sym p ∙ q) in (
      r.0,
      elim (zero_or_not n.mantissa) [
        | inl z ↦ g.zero z ∙ sym (h.zero (sym r.0 ∙ z))
        | inr z ↦ x ∙ ap (λ i. e +ℤ pos i) (r.1 z) ∙ sym y
      ],
    )

-- Two canonical numbers with the value `m * 10 ^ e` have the same mantissa and the same exponent.
pub strips_one : (m e : ℤ) (n n' : Decimal) → Strips m e n → Strips m e n'
    → (n.mantissa ≡ n'.mantissa) × (n.exponent ≡ n'.exponent)
strips_one m e n n' s t =
    elim s.tens [
      | inl p ↦ elim t.tens [
        | inl q ↦ (p.1 ∙ sym q.1, s.plain.zero p.1 ∙ sym (t.plain.zero q.1))
        | inr q ↦ (let z = int_zero n'.mantissa q.0 (sym q.1 ∙ p.0) in (p.1 ∙ sym z, s.plain.zero p.1 ∙ sym (t.plain.zero z)))
      ]
      | inr p ↦ elim t.tens [
        | inl q ↦ (let z = int_zero n.mantissa p.0 (sym p.1 ∙ q.0) in (z ∙ sym q.1, s.plain.zero z ∙ sym (t.plain.zero q.1)))
        | inr q ↦ strips_apart m e n n' p.0 q.0 s.plain t.plain p.1 q.1 p.2 q.2
      ]
    ]

-- If `a <= b`, then `10 ^ a <= 10 ^ b`.
pub power_le : (a b : ℕ) → a ≤ b → 10 ^ a ≤ 10 ^ b
power_le a b h =
    let e : b ≡ a + (b - a) = omega arith in
    let m : 1 * 10 ^ a ≤ 10 ^ (b - a) * 10 ^ a = mul-le-mul_right (10 ^ a) (ten_pos (b - a)) in
    rw (e, pow-add 10 a (b - a)) (omega arith)
