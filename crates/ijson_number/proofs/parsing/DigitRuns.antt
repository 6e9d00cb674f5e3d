-- A byte string has at most one division into the parts of a number.
use Rattle.ijson_number.proofs.Common.{pos, value, ◌≡◌, ℕ, suc, ◌+◌, ◌-◌, ◌<◌, ◌≤◌, List, [], ◌∷◌, ◌++◌, length, get_or, drop, replicate, refl}
use Rattle.ijson_number.proofs.Common.{◌∙◌, arith, drop_more, AllDigits, IsDigits, BeginsWithNoDigit, Bool, sym, inl, inr}
use Rattle.ijson_number.proofs.Common.{append_assoc, ℤ, IsMinus, IsWhole, IsFraction, IsExponent, IsSigned, Parts, IsSpelled, IsTail, IsSignTaken}

pub zeros_from : (bs : List ℕ) (n : ℕ) → 0 < n → n ≤ length bs → get_or bs (n - 1) 0 ≡ 48 → drop n bs ≡ replicate (length bs - n) 48
    → drop (n - 1) bs ≡ replicate (length bs - (n - 1)) 48
zeros_from bs n p h e r =
    let m : n ≡ (n - 1) + 1 = omega arith in
    let k : length bs - (n - 1) ≡ suc (length bs - n) = omega arith in
    drop_more bs (n - 1) 0 (omega arith) ∙ rw (k, e, ← m, r) refl

pub AllDigits-append : (a b : List ℕ) → AllDigits a → AllDigits b → AllDigits (a ++ b)
AllDigits-append [] b p q = q
AllDigits-append (x ∷ a) b p q = (p.0, AllDigits-append a b p.1 q)

pub AllDigits_left : (a b : List ℕ) → AllDigits (a ++ b) → AllDigits a
AllDigits_left [] b p = tt
AllDigits_left (x ∷ a) b p = (p.0, AllDigits_left a b p.1)

pub AllDigits_right : (a b : List ℕ) → AllDigits (a ++ b) → AllDigits b
AllDigits_right [] b p = p
AllDigits_right (x ∷ a) b p = AllDigits_right a b p.1

pub IsDigits_all : (a : List ℕ) → IsDigits a → AllDigits a
IsDigits_all [] h = absurd h
IsDigits_all (x ∷ a) h = h

pub IsDigits_from : (a : List ℕ) → 0 < length a → AllDigits a → IsDigits a
IsDigits_from [] h p = absurd (omega arith)
IsDigits_from (x ∷ a) h p = p

pub IsDigits_nonempty : (a : List ℕ) → IsDigits a → 0 < length a
IsDigits_nonempty [] h = absurd h
IsDigits_nonempty (x ∷ a) h = omega arith

-- Digits without a sign are a signed integer.
pub digits_signed : (bs : List ℕ) → IsDigits bs → IsSigned bs (pos (value bs))
digits_signed [] h = absurd h
digits_signed (b ∷ bs) h = inr (inr (h, refl))

-- A byte string has only one division into leading digits and a rest that does not begin with a
-- digit.
pub one_run : (a b x y : List ℕ) → AllDigits a → AllDigits b → BeginsWithNoDigit x → BeginsWithNoDigit y → a ++ x ≡ b ++ y → (a ≡ b) × (x ≡ y)
one_run [] [] x y p q n m e = (refl, e)
one_run [] (d ∷ b) [] y p q n m e = absurd (cc)
one_run [] (d ∷ b) (c ∷ x) y p q n m e = let h : d ≡ c = cc in absurd (n (rw h at q.0))
one_run (c ∷ a) [] x [] p q n m e = absurd (cc)
one_run (c ∷ a) [] x (d ∷ y) p q n m e = let h : c ≡ d = cc in absurd (m (rw h at p.0))
one_run (c ∷ a) (d ∷ b) x y p q n m e = let r = one_run a b x y p.1 q.1 n m (cc) in grind arith

pub exponent_begins : (et : List ℕ) (z : ℤ) (w : Bool) → IsExponent et z w → BeginsWithNoDigit et
exponent_begins [] z w h = tt
exponent_begins (b ∷ bs) z w h = λ d. elim h.0 [ inl e ↦ omega arith | inr e ↦ omega arith ]

pub tail_begins : (ft et f : List ℕ) (z : ℤ) (p w : Bool) → IsFraction ft f p → IsExponent et z w → BeginsWithNoDigit (ft ++ et)
tail_begins [] et f z p w g h = exponent_begins et z w h
tail_begins (b ∷ bs) et f z p w g h = λ d. omega arith

pub fraction_one : (ft f f' : List ℕ) (p p' : Bool) → IsFraction ft f p → IsFraction ft f' p' → (f ≡ f') × (p ≡ p')
fraction_one [] f f' p p' g h = (cc, cc)
fraction_one (b ∷ bs) f f' p p' g h = (cc, cc)

pub signed_one : (bs : List ℕ) (z z' : ℤ) → IsSigned bs z → IsSigned bs z' → z ≡ z'
signed_one [] z z' g h = absurd g
signed_one (b ∷ bs) z z' g h = grind arith

pub exponent_one : (et : List ℕ) (z z' : ℤ) (w w' : Bool) → IsExponent et z w → IsExponent et z' w' → (z ≡ z') × (w ≡ w')
exponent_one [] z z' w w' g h = (cc, cc)
exponent_one (b ∷ bs) z z' w w' g h = (signed_one bs z z' g.1 h.1, cc)

pub no_exponent : (et : List ℕ) (b : ℕ) (bs : List ℕ) (z : ℤ) (w : Bool) → IsExponent et z w → b ≡ 46 → et ≡ b ∷ bs → ⊥
no_exponent [] b bs z w h e s = cc
no_exponent (c ∷ et) b bs z w h e s = let k : c ≡ b = cc in elim h.0 [ inl q ↦ omega arith | inr q ↦ omega arith ]

pub tails_agree : (ft ft' et et' f f' : List ℕ) (z z' : ℤ) (p p' w w' : Bool) → IsFraction ft f p → IsFraction ft' f' p'
    → IsExponent et z w → IsExponent et' z' w' → ft ++ et ≡ ft' ++ et' → (ft ≡ ft') × (et ≡ et')
tails_agree [] [] et et' f f' z z' p p' w w' g g' h h' e = (refl, e)
tails_agree [] (b ∷ bs) et et' f f' z z' p p' w w' g g' h h' e = absurd (no_exponent et b (bs ++ et') z w h g'.0 e)
tails_agree (b ∷ bs) [] et et' f f' z z' p p' w w' g g' h h' e = absurd (no_exponent et' b (bs ++ et) z' w' h' g.0 (sym e))
tails_agree (b ∷ bs) (c ∷ cs) et et' f f' z z' p p' w w' g g' h h' e =
    let r = one_run bs cs et et' (IsDigits_all bs g.1) (IsDigits_all cs g'.1) (exponent_begins et z w h) (exponent_begins et' z' w' h') (cc) in
    grind arith

pub tail_one : (t f f' : List ℕ) (z z' : ℤ) (p p' : Bool) → IsTail t f z p → IsTail t f' z' p' → (f ≡ f') × (z ≡ z') × (p ≡ p')
tail_one t f f' z z' p p' g h =
    let r =
    tails_agree g.fraction_text h.fraction_text g.exponent_text h.exponent_text f f' z z' g.has_point h.has_point g.has_exponent
    h.has_exponent g.fraction_is h.fraction_is g.exponent_is h.exponent_is (sym g.text_is ∙ h.text_is) in
    let a = fraction_one h.fraction_text f f' g.has_point h.has_point (rw r.0 at g.fraction_is) h.fraction_is in
    let b = exponent_one h.exponent_text z z' g.has_exponent h.has_exponent (rw r.1 at g.exponent_is) h.exponent_is in
    (a.0, b.0, g.point_is ∙ cc (a.1, b.1) ∙ sym h.point_is)

pub tail_of_begins : (t f : List ℕ) (z : ℤ) (p : Bool) → IsTail t f z p → BeginsWithNoDigit t
tail_of_begins t f z p h = rw h.text_is (tail_begins h.fraction_text h.exponent_text f z h.has_point h.has_exponent h.fraction_is h.exponent_is)

pub whole_all : (bs : List ℕ) → IsWhole bs → AllDigits bs
whole_all [] h = absurd h
whole_all (b ∷ bs) h = elim h [ inl e ↦ ((omega arith, omega arith), rw e.1 tt) | inr e ↦ ((omega arith, omega arith), e.2) ]

-- Holds if `text` is a number without its sign, with the parts `whole`, `fraction` and `exponent`.
-- `point` is true if a fraction or an exponent was written.
pub record IsUnsigned (text whole fraction : List ℕ) (exponent : ℤ) (point : Bool) : Type 0 where
  pub rest : List ℕ
  pub text_is : text ≡ whole ++ rest
  pub whole_is : IsWhole whole
  pub tail_is : IsTail rest fraction exponent point

-- The whole part of a number without its sign consists of all its leading digits.
pub unsigned_at : (bytes a rest w f : List ℕ) (z : ℤ) (p : Bool) → bytes ≡ a ++ rest → AllDigits a → BeginsWithNoDigit rest
    → IsUnsigned bytes w f z p → (w ≡ a) × IsTail rest f z p
unsigned_at bytes a rest w f z p e d n u =
    let r = one_run a w rest u.rest d (whole_all w u.whole_is) n (tail_of_begins u.rest f z p u.tail_is) (sym e ∙ u.text_is) in
    (sym r.0, rw r.1 u.tail_is)

pub unsigned_one : (t w w' f f' : List ℕ) (z z' : ℤ) (p p' : Bool) → IsUnsigned t w f z p → IsUnsigned t w' f' z' p'
    → (w ≡ w') × (f ≡ f') × (z ≡ z') × (p ≡ p')
unsigned_one t w w' f f' z z' p p' u v =
    let r = unsigned_at t w' v.rest w f z p v.text_is (whole_all w' v.whole_is) (tail_of_begins v.rest f' z' p' v.tail_is) u in
    let s = tail_one v.rest f f' z z' p p' r.1 v.tail_is in
    (r.0, s.0, s.1, s.2)

pub sign_one : (t r r' : List ℕ) (n n' : Bool) → IsSignTaken t n r → IsSignTaken t n' r' → (n ≡ n') × (r ≡ r')
sign_one [] r r' n n' g h = elim g [ inl p ↦ absurd (cc) | inr p ↦ elim h [ inl q ↦ absurd (cc) | inr q ↦ (cc, cc) ] ]
sign_one (b ∷ t) r r' n n' g h = grind arith

-- A byte string that begins with a whole part does not begin with a minus sign.
pub whole_no_sign : (w rest : List ℕ) → IsWhole w → 0 < length (w ++ rest) → get_or (w ++ rest) 0 0 ≡ 45 → ⊥
whole_no_sign [] rest h l e = absurd h
whole_no_sign (b ∷ w) rest h l e = elim h [ inl q ↦ omega arith | inr q ↦ omega arith ]

-- Splitting off the optional minus sign of a number leaves its whole part and the bytes after it.
pub sign_taken : (t minus w rest : List ℕ) (n : Bool) → IsMinus minus n → IsWhole w → t ≡ minus ++ (w ++ rest) → IsSignTaken t n (w ++ rest)
sign_taken t minus w rest n m whole g = elim m [
  | inl e ↦ inr (g ∙ rw e.0 refl, e.1, λ l q. whole_no_sign w rest whole (rw (g, e.0) at l) (rw (g, e.0) at q))
  | inr e ↦ inl (g ∙ rw e.0 refl, e.1)
]

pub spelled_sign : (t : List ℕ) (p : Parts) → IsSpelled t p
    → (r : List ℕ) × IsSignTaken t p.negative r × IsUnsigned r p.whole p.fraction p.exponent p.point
spelled_sign t p s =
    let r = p.whole ++ (s.fraction_text ++ s.exponent_text) in
    let u : IsUnsigned r p.whole p.fraction p.exponent p.point = record {
      rest = s.fraction_text ++ s.exponent_text;
      text_is = refl;
      whole_is = s.whole;
      tail_is = record {
        fraction_text = s.fraction_text;
        exponent_text = s.exponent_text;
        has_point = s.has_point;
        has_exponent = s.has_exponent;
        text_is = refl;
        fraction_is = s.fraction;
        exponent_is = s.exponent;
        point_is = s.point;
      };
    } in
    let g : t ≡ s.minus_text ++ r = s.text_is ∙ simp append_assoc in
    (r, sign_taken t s.minus_text p.whole (s.fraction_text ++ s.exponent_text) p.negative s.minus s.whole g, u)

-- If `unsigned` is `text` without its sign, then `text` is an optional minus sign followed by
-- `unsigned`.
pub minus_of : (text unsigned : List ℕ) (negative : Bool) → IsSignTaken text negative unsigned
    → (minus : List ℕ) × IsMinus minus negative × (text ≡ minus ++ unsigned)
minus_of text unsigned negative sign = elim sign [ inl e ↦ (45 ∷ [], inr (refl, e.1), e.0) | inr e ↦ ([], inl (refl, e.1), e.0) ]

same_parts : (n n' : Bool) (w w' f f' : List ℕ) (z z' : ℤ) (p p' : Bool) → n ≡ n' → w ≡ w' → f ≡ f' → z ≡ z' → p ≡ p'
    → (let a : Parts = record { negative = n; whole = w; fraction = f; exponent = z; point = p } in
    a) ≡ record { negative = n'; whole = w'; fraction = f'; exponent = z'; point = p' }
same_parts n n' w w' f f' z z' p p' a b c d e = rw (a, b, c, d, e) refl

-- A byte string has at most one division into the parts of a number.
pub spelled_one : (t : List ℕ) (p q : Parts) → IsSpelled t p → IsSpelled t q → p ≡ q
spelled_one t p q s s' =
    let x = spelled_sign t p s in
    let y = spelled_sign t q s' in
    let e = sign_one t x.0 y.0 p.negative q.negative x.1 y.1 in
    let u = unsigned_one y.0 p.whole q.whole p.fraction q.fraction p.exponent q.exponent p.point q.point (rw e.1 at x.2) y.2 in
    same_parts p.negative q.negative p.whole q.whole p.fraction q.fraction p.exponent q.exponent p.point q.point e.0 u.0 u.1 u.2 u.3
