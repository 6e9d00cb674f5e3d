-- The parts of a spelled number denote exactly one number.
use Rattle.ijson_number.proofs.Common.{◌≡◌, ◌≢◌, ℕ, ◌+◌, ◌-◌, ◌*◌, ◌%◌, ◌^◌, ◌<◌, Bool, false, List, [], ◌∷◌, ◌++◌, length, get_or, take, replicate}
use Rattle.ijson_number.proofs.Common.{refl, ap, sym, ◌∙◌, inl, inr, arith, ℤ, pos, ◌-ℤ◌, ◌≤ℤ◌, ◌||◌, ints, take_more, take_all, nil_from_length}
use Rattle.ijson_number.proofs.Common.{number_push, number_from_digits, or_parts, Decimal, IsPlain, signed, Parts, IsSpelled, IsFraction, IsExponent}
use Rattle.ijson_number.proofs.Common.{Denotes, Spells, value, exponent_of, IsStripped, digits_from_text, strips_one, signed_mul, signed_zero}
use Rattle.ijson_number.proofs.Common.{abs_signed}
use Rattle.ijson_number.proofs.parsing.DigitValues.{value_zeros_front, value_zeros_back}
use Rattle.ijson_number.proofs.parsing.DigitRuns.{spelled_one}

pub same_decimal : (m m' e e' : ℤ) (p p' : Bool) → m ≡ m' → e ≡ e' → p ≡ p'
    → (let a : Decimal = record { mantissa = m; exponent = e; point = p } in a) ≡ record { mantissa = m'; exponent = e'; point = p' }
same_decimal m m' e e' p p' a b c = rw (a, b, c) refl

pub denotes_one : (p : Parts) (n n' : Decimal) → Denotes p n → Denotes p n' → n ≡ n'
denotes_one p n n' h g =
    let r = strips_one (signed p.negative (value (p.whole ++ p.fraction))) (p.exponent -ℤ pos (length p.fraction)) n n' h.0 g.0 in
    same_decimal n.mantissa n'.mantissa n.exponent n'.exponent n.point n'.point r.0 r.1 (h.1 ∙ sym g.1)

-- A byte string spells at most one number.
pub spells_one : (t : List ℕ) (n n' : Decimal) → Spells t n → Spells t n' → n ≡ n'
spells_one t n n' h g = let e : h.0 ≡ g.0 = spelled_one t h.0 g.0 h.1 g.1 in denotes_one g.0 n n' (rw e at h.2) g.2

split_last : (ds : List ℕ) → 0 < length ds → ds ≡ take (length ds - 1) ds ++ get_or ds (length ds - 1) 0 ∷ []
split_last ds h =
    let e : length ds - 1 + 1 ≡ length ds = omega arith in
    sym (take_all (length ds - 1 + 1) ds (omega arith)) ∙ take_more ds (length ds - 1) 0 (omega arith)

pub stripped_mod : (ds : List ℕ) → IsStripped ds → 0 < length ds → number_from_digits 10 ds % 10 ≢ 0
stripped_mod ds s h =
    let v : number_from_digits 10 ds ≡ number_from_digits 10 (take (length ds - 1) ds) * 10 + get_or ds (length ds - 1) 0 =
    ap (number_from_digits 10) (split_last ds h) ∙ number_push 10 (take (length ds - 1) ds) (get_or ds (length ds - 1) 0) in
    let d : get_or ds (length ds - 1) 0 < 10 = s.below_ten (length ds - 1) 0 (omega arith) in
    let last = s.last h in
    rw v (λ e. omega arith)

pub stripped_plain : (negative point : Bool) (ds : List ℕ) (e : ℤ) → IsStripped ds → 0 < length ds → (point ≡ false → pos 0 ≤ℤ e)
    → IsPlain (record { mantissa = signed negative (number_from_digits 10 ds); exponent = e; point = point })
stripped_plain negative point ds e s h w =
    let m = stripped_mod ds s h in
    record {
      zero = λ z. (let v = signed_zero negative (number_from_digits 10 ds) z in absurd (m (rw v refl)));
      stripped = λ _. rw (abs_signed negative (number_from_digits 10 ds)) m;
      whole = w;
    }

pub signed_nought : (negative : Bool) → signed negative 0 ≡ pos 0
signed_nought negative = grind (arith, ints)

module _ (p : Parts) (t s : List ℕ) (j k : ℕ) (front : p.whole ++ p.fraction ≡ replicate j 48 ++ t) (back : t ≡ s ++ replicate k 48) where
  digits_is : value (p.whole ++ p.fraction) ≡ value s * 10 ^ k
  digits_is = ap value front ∙ value_zeros_front j t ∙ ap value back ∙ value_zeros_back s k

  pub denotes_some : 0 < length (digits_from_text s) → IsStripped (digits_from_text s)
      → (p.point ≡ false → pos 0 ≤ℤ exponent_of p.exponent (length p.fraction) k)
      → Denotes p (record {
        mantissa = signed p.negative (value s);
        exponent = exponent_of p.exponent (length p.fraction) k;
        point = p.point;
      })
  denotes_some h d w = (
    record {
      plain = stripped_plain p.negative p.point (digits_from_text s) (exponent_of p.exponent (length p.fraction) k) d h w;
      tens = inr (k, rw digits_is (signed_mul p.negative (value s) (10 ^ k)), refl);
    },
    refl,
  )

  pub denotes_zero : length s ≡ 0 → Denotes p (record { mantissa = pos 0; exponent = pos 0; point = p.point })
  denotes_zero h =
      let nil : s ≡ [] = nil_from_length s h in
      let no_digits : value (p.whole ++ p.fraction) ≡ 0 = digits_is ∙ rw nil (omega arith) in (
        record {
          plain = record { zero = λ _. refl; stripped = λ n. absurd (n refl); whole = λ _. omega (arith, ints) };
          tens = inl (rw no_digits (signed_nought p.negative), refl);
        },
        refl,
      )

pub no_point : (ft et f : List ℕ) (z : ℤ) (a b : Bool) → IsFraction ft f a → IsExponent et z b → a || b ≡ false → (f ≡ []) × (z ≡ pos 0)
no_point [] [] f z a b g h e = (g.0, h.0)
no_point [] (x ∷ et) f z a b g h e = let r = or_parts a b e in absurd (cc (r.1, h.2))
no_point (x ∷ ft) et f z a b g h e = let r = or_parts a b e in absurd (cc (r.0, g.3))

-- The exponent of a number that was written without a point and an exponent is not negative.
pub pointless : (t : List ℕ) (p : Parts) (k : ℕ) → IsSpelled t p → p.point ≡ false → pos 0 ≤ℤ exponent_of p.exponent (length p.fraction) k
pointless t p k s e =
    let r = no_point s.fraction_text s.exponent_text p.fraction p.exponent s.has_point s.has_exponent s.fraction s.exponent
    (sym s.point ∙ e) in
    rw (r.0, r.1) (omega (arith, ints))
