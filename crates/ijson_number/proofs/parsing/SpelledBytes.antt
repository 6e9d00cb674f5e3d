-- A JSON number begins with a digit or a minus sign, and each of its bytes satisfies
-- `is_number_byte`.
use Rattle.ijson_number.proofs.Common.{◌≡◌, ℕ, ◌≤◌, Bool, List, [], ◌∷◌, ◌++◌, refl, ◌∙◌, inl, inr, arith, append_assoc, ℤ, IsTrue, ◌||◌, ◌==◌}
use Rattle.ijson_number.proofs.Common.{AllByRecursion, le-leb, Decimal, AllDigits, IsMinus, IsWhole, IsFraction, IsSigned, IsExponent, Spells, ap₂}
use Rattle.ijson_number.specs.NumberBytes.{is_digit, is_number_byte}
use Rattle.ijson_number.proofs.parsing.DigitRuns.{whole_all, IsDigits_all}

abbrev NumberBytes : List ℕ → Type 0
NumberBytes bs = AllByRecursion (λ b. IsTrue (is_number_byte b)) bs

pub digit_test : (b : ℕ) → 48 ≤ b → b ≤ 57 → IsTrue (is_digit b)
digit_test b l h = rw (le-leb 48 b l, le-leb b 57 h) refl

digit_bytes : (bs : List ℕ) → AllDigits bs → NumberBytes bs
digit_bytes [] h = tt
digit_bytes (b ∷ bs) h = (rw (digit_test b h.0.0 h.0.1) refl, digit_bytes bs h.1)

both_bytes : (a b : List ℕ) → NumberBytes a → NumberBytes b → NumberBytes (a ++ b)
both_bytes [] b p q = q
both_bytes (x ∷ a) b p q = (p.0, both_bytes a b p.1 q)

minus_bytes : (m : List ℕ) (negative : Bool) → IsMinus m negative → NumberBytes m
minus_bytes m negative h = elim h [ inl e ↦ rw e.0 tt | inr e ↦ rw e.0 (refl, tt) ]

fraction_bytes : (ft f : List ℕ) (p : Bool) → IsFraction ft f p → NumberBytes ft
fraction_bytes [] f p h = tt
fraction_bytes (b ∷ bs) f p h = (rw h.0 refl, digit_bytes bs (IsDigits_all bs h.1))

signed_bytes : (bs : List ℕ) (z : ℤ) → IsSigned bs z → NumberBytes bs
signed_bytes [] z h = absurd h
signed_bytes (b ∷ bs) z h =
    elim h [
      | inl p ↦ (rw p.0 refl, digit_bytes bs (IsDigits_all bs p.1))
      | inr q ↦ elim q [ inl p ↦ (rw p.0 refl, digit_bytes bs (IsDigits_all bs p.1)) | inr p ↦ digit_bytes (b ∷ bs) p.0 ]
    ]

exponent_bytes : (et : List ℕ) (z : ℤ) (w : Bool) → IsExponent et z w → NumberBytes et
exponent_bytes [] z w h = tt
exponent_bytes (b ∷ bs) z w h = (elim h.0 [ inl e ↦ rw e refl | inr e ↦ rw e refl ], signed_bytes bs z h.1)

-- Each byte of a JSON number satisfies `is_number_byte`.
pub spells_bytes : (text : List ℕ) (n : Decimal) → Spells text n → AllByRecursion (λ b. IsTrue (is_number_byte b)) text
spells_bytes text n s =
    let q = s.1 in
    let p = s.0 in
    let front = both_bytes q.minus_text p.whole (minus_bytes q.minus_text p.negative q.minus)
    (digit_bytes p.whole (whole_all p.whole q.whole)) in
    let more = both_bytes (q.minus_text ++ p.whole) q.fraction_text front
    (fraction_bytes q.fraction_text p.fraction q.has_point q.fraction) in
    rw q.text_is (both_bytes (q.minus_text ++ p.whole ++ q.fraction_text) q.exponent_text more
    (exponent_bytes q.exponent_text p.exponent q.has_exponent q.exponent))

whole_first : (w : List ℕ) → IsWhole w → (b : ℕ) × (more : List ℕ) × IsTrue (is_digit b) × (w ≡ b ∷ more)
whole_first [] h = absurd h
whole_first (b ∷ w) h = (b, w, elim h [ inl e ↦ rw e.0 refl | inr e ↦ digit_test b (omega arith) e.1 ], refl)

begins_with : (m w rest : List ℕ) (negative : Bool) → IsMinus m negative → IsWhole w
    → (b : ℕ) × (more : List ℕ) × IsTrue (is_digit b || (b == 45)) × (m ++ (w ++ rest) ≡ b ∷ more)
begins_with m w rest negative h g =
    elim h [
      | inl e ↦ (let r = whole_first w g in (r.0, r.1 ++ rest, rw r.2 refl, ap₂ (λ (x y : List ℕ). x ++ (y ++ rest)) e.0 r.3))
      | inr e ↦ (45, w ++ rest, refl, rw e.0 refl)
    ]

-- A JSON number begins with a digit or a minus sign.
pub spells_first : (text : List ℕ) (n : Decimal) → Spells text n
    → (b : ℕ) × (more : List ℕ) × IsTrue (is_digit b || (b == 45)) × (text ≡ b ∷ more)
spells_first text n s =
    let q = s.1 in
    let p = s.0 in
    let r = begins_with q.minus_text p.whole (q.fraction_text ++ q.exponent_text) p.negative q.minus q.whole in
    (r.0, r.1, r.2, q.text_is ∙ (simp append_assoc) ∙ r.3)
