-- An input begins with at most one number that the fast reader accepts.
use Rattle.ijson_number.proofs.Common.{◌≡◌, ◌≢◌, ◌⊎◌, ℕ, ◌-◌, ◌<◌, ◌≤◌, Bool, List, [], ◌∷◌, ◌++◌, length, take, drop, refl, sym, ap, ◌∙◌, inl}
use Rattle.ijson_number.proofs.Common.{inr, arith, nat_tests, take-append-drop, AllDigits, IsDigits, IsFraction, Parts, value, EndsDigits, EndsToken}
use Rattle.ijson_number.proofs.Common.{IsCommonFront, cases_lt, IsFewFraction, BeginsWithNoDigit, IsSignTaken, get_or, append_assoc, length-take-le}
use Rattle.ijson_number.proofs.Common.{IsExponentTail, IsFewDigits, IsFewExponent, IsFewSigned, IsExponentSignTaken, IsTaken}
use Rattle.ijson_number.proofs.Common.{take_rest, IsSigned, signed, HasNoPoint}
use Rattle.ijson_number.proofs.parsing.DigitRuns.{sign_one, whole_all, sign_taken, one_run, IsDigits_all, IsDigits_nonempty}
use Rattle.ijson_number.proofs.parsing.DigitRuns.{digits_signed}
use Rattle.std.proofs.lemmas.List.Prefix.{end_rest}

-- If `EndsToken rest` holds, `rest` does not begin with a digit.
pub none_begins : (rest : List ℕ) → EndsToken rest → BeginsWithNoDigit rest
none_begins [] h = tt
none_begins (b ∷ rest) h = λ d. grind (arith, nat_tests, d.0, d.1)

-- If `EndsToken rest` holds and `rest` does not begin with a point, `rest` does not continue the
-- digits of a number.
pub digits_end_of : (point : Bool) (rest : List ℕ) → EndsToken rest → HasNoPoint point rest → EndsDigits point rest
digits_end_of point [] h n = tt
digits_end_of point (b ∷ rest) h n = (none_begins (b ∷ rest) h, n)

ends_begins : (point : Bool) (rest : List ℕ) → EndsDigits point rest → BeginsWithNoDigit rest
ends_begins point [] h = tt
ends_begins point (b ∷ rest) h = h.0

-- Suppose that `a ++ x` equals `b ++ y` and that `y` does not begin with a digit. If `a` consists
-- of digits and is at least as long as `b`, then `a` equals `b`.
pub run_within : (a b x y : List ℕ) → AllDigits a → BeginsWithNoDigit y → length b ≤ length a → a ++ x ≡ b ++ y → (a ≡ b) × (x ≡ y)
run_within [] [] x y p n l e = (refl, e)
run_within [] (d ∷ b) x y p n l e = absurd (omega arith)
run_within (c ∷ a) [] x [] p n l e = absurd (cc)
run_within (c ∷ a) [] x (d ∷ y) p n l e = let h : c ≡ d = cc in absurd (n (rw h at p.0))
run_within (c ∷ a) (d ∷ b) x y p n l e = let r = run_within a b x y p.1 n (omega arith) (cc) in grind arith

-- If `a` are the leading digits of an input, or at least `most` of them, and `b` are all its
-- leading digits, at most `most`, then `a` equals `b`.
pub same_run : (most : ℕ) (a b x y : List ℕ) → AllDigits a → AllDigits b → (length a < most → BeginsWithNoDigit x) → BeginsWithNoDigit y
    → length b ≤ most → a ++ x ≡ b ++ y → (a ≡ b) × (x ≡ y)
same_run most a b x y p q n m l e =
    elim (cases_lt (length a) most) [ inl h ↦ one_run a b x y p q (n h) m e | inr g ↦ run_within a b x y p m (omega (arith, g)) e ]

-- If a point and digits are read from an input that begins with a fraction of at most `most`
-- digits, the bytes after these digits are the bytes after the fraction.
point_tail_at : (most : ℕ) (front digits rest taken after : List ℕ) (point : Bool) → IsFraction front digits point → EndsDigits point rest
    → length digits ≤ most → 46 ∷ (taken ++ after) ≡ front ++ rest → AllDigits taken → (length taken < most → BeginsWithNoDigit after)
    → IsDigits taken × (after ≡ rest)
point_tail_at most [] digits [] taken after point f s l e d n = absurd (cc)
point_tail_at most [] digits (b ∷ rest) taken after point f s l e d n = let h : b ≡ 46 = cc in absurd (s.1 f.1 h)
point_tail_at most (b ∷ bs) digits rest taken after point f s l e d n =
    let g : taken ++ after ≡ bs ++ rest = cc in
    let few : length bs ≤ most = rw f.2 at l in
    let r = same_run most taken bs after rest d (IsDigits_all bs f.1) n (ends_begins point rest s) few g in
    (rw r.0 f.1, r.1)

pub point_tail : (most : ℕ) (bytes front rest taken after : List ℕ) → bytes ≡ 46 ∷ (taken ++ after) → AllDigits taken
    → (length taken < most → BeginsWithNoDigit after) → (number count : ℕ) → (number ≡ 0 → most ≡ 19) → (number ≢ 0 → most ≡ 19 - count)
    → IsFewFraction number count bytes front rest → IsDigits taken × (after ≡ rest)
point_tail most bytes front rest taken after e d n number count zero others t =
    point_tail_at most front t.digits rest taken after t.has_point t.fraction t.ends
    (let few = t.few in grind arith) (sym e ∙ t.text_is) d n

-- If `EndsDigits point rest` holds, an optional fraction followed by `rest` does not begin with a
-- digit.
behind_begins : (ft f rest : List ℕ) (point : Bool) → IsFraction ft f point → EndsDigits point rest → BeginsWithNoDigit (ft ++ rest)
behind_begins [] f rest point g s = ends_begins point rest s
behind_begins (b ∷ bs) f rest point g s = λ d. omega (arith, g.0)

-- The bytes after the optional minus sign of a number are its whole part, its fraction and the
-- remaining bytes.
plain_unsigned : (t u : List ℕ) (n : Bool) (p : Parts) (rest : List ℕ) → IsSignTaken t n u → (f : IsCommonFront t p rest)
    → u ≡ p.whole ++ (f.fraction_text ++ f.after)
plain_unsigned t u n p rest h f =
    let s = sign_taken t f.minus_text p.whole (f.fraction_text ++ f.after) p.negative f.minus f.whole f.text_is in
    (sign_one t u (p.whole ++ (f.fraction_text ++ f.after)) n p.negative h s).1

-- If the fast reader accepts a number, its leading digits after the sign are its whole part.
pub whole_taken : (t u a x : List ℕ) (n : Bool) (p : Parts) (rest : List ℕ) (count : ℕ) → IsSignTaken t n u → a ≡ take count u
    → x ≡ drop count u → length a ≡ count → AllDigits (take count u) → (count < 19 → BeginsWithNoDigit (drop count u))
    → (f : IsCommonFront t p rest) → (a ≡ p.whole) × (x ≡ f.fraction_text ++ f.after)
whole_taken t u a x n p rest count h is behind c d l f =
    let e : a ++ x ≡ p.whole ++ (f.fraction_text ++ f.after) = rw (is, behind) (take-append-drop count u) ∙ plain_unsigned t u n p rest h f in
    same_run 19 a p.whole x (f.fraction_text ++ f.after) (rw is d) (whole_all p.whole f.whole)
    (λ m. rw behind (l (omega (arith, c, m)))) (behind_begins f.fraction_text p.fraction f.after f.has_point f.fraction f.digits_end)
    (elim f.few [ inl few ↦ omega (arith, few) | inr zero ↦ rw zero.0 (omega arith) ]) e

-- If the fast reader accepts a number, an optional fraction of few digits follows its whole part.
pub plain_tail : (t : List ℕ) (a x : List ℕ) (p : Parts) (rest : List ℕ) (count : ℕ) → length a ≡ count
    → (f : IsCommonFront t p rest) → (a ≡ p.whole) × (x ≡ f.fraction_text ++ f.after) → IsFewFraction (value a) count x f.fraction_text f.after
plain_tail t a x p rest count c f r = record {
  digits = p.fraction;
  has_point = f.has_point;
  text_is = r.1;
  fraction = f.fraction;
  few = elim f.few [
    | inl few ↦ inl (omega (arith, few, c, ap length r.0))
    | inr zero ↦ inr (ap value (r.0 ∙ zero.0), zero.1)
  ];
  ends = f.digits_end;
}

-- If an input begins with `e` or `E`, `EndsToken` does not hold for the input.
pub letter_continues : (text : List ℕ) → 0 < length text → get_or text 0 0 ≡ 101 ⊎ get_or text 0 0 ≡ 69 → EndsToken text → ⊥
letter_continues [] some b h = omega (arith, some)
letter_continues (c ∷ text) some b h = grind (arith, nat_tests)

-- If `EndsToken` holds for an input, the input does not begin with an exponent.
token_ends : (text exponent_text rest : List ℕ) → text ≡ exponent_text ++ rest → IsFewExponent exponent_text → EndsToken text → text ≡ rest
token_ends text [] rest e h ends = e
token_ends text (b ∷ bs) rest e h ends = absurd (letter_continues text (rw e (omega arith)) (rw e h.0) ends)

pub ends_at_once : (text rest : List ℕ) → IsExponentTail text rest → EndsToken text → text ≡ rest
ends_at_once text rest t = token_ends text t.exponent_text rest t.text_is t.exponent

-- Splitting the sign off a signed integer of at most four digits leaves one to four digits and
-- `rest`.
signed_digits : (number signed_text rest digits : List ℕ) (negative : Bool) → number ≡ signed_text ++ rest → IsFewSigned signed_text
    → IsExponentSignTaken number negative digits
    → (ds : List ℕ) × IsFewDigits ds × (digits ≡ ds ++ rest)
signed_digits number [] rest digits negative e h sign = absurd h
signed_digits number (b ∷ bs) rest digits negative e h sign = elim h [
  | inl few ↦ elim sign [
    | inl m ↦ (bs, few.1, cc (m.0, e))
    | inr more ↦ elim more [
      | inl p ↦ (bs, few.1, cc (p.0, e))
      | inr none ↦ (let not = none.2 (rw e (omega arith)) in elim few.0 [
        | inl plus ↦ absurd (not.1 (rw e plus))
        | inr minus ↦ absurd (not.0 (rw e minus))
      ])
    ]
  ]
  | inr few ↦ (let d = few.0.0 in elim sign [
    | inl m ↦ (let is : b ≡ 45 = cc (m.0, e) in absurd (omega (arith, d, is)))
    | inr more ↦ elim more [
      | inl p ↦ (let is : b ≡ 43 = cc (p.0, e) in absurd (omega (arith, d, is)))
      | inr none ↦ (b ∷ bs, few, sym none.0 ∙ e)
    ]
  ])
]

-- Splitting the letter and the sign off an exponent of at most four digits leaves one to four
-- digits and `rest`.
power_digits : (text exponent_text rest digits : List ℕ) (negative : Bool) → text ≡ exponent_text ++ rest → IsFewExponent exponent_text
    → (EndsToken text → ⊥) → EndsToken rest → IsExponentSignTaken (drop 1 text) negative digits
    → (ds : List ℕ) × IsFewDigits ds × (digits ≡ ds ++ rest)
power_digits text [] rest digits negative e h on ends sign = absurd (on (rw e ends))
power_digits text (b ∷ bs) rest digits negative e h on ends sign = signed_digits (drop 1 text) bs rest digits negative (ap (drop 1) e) h.1 sign

-- The digits read after the letter and the sign of an exponent are all digits of the exponent, and
-- the bytes after them are `rest`.
pub power_rest : (text rest digits : List ℕ) (negative : Bool) (magnitude count : ℕ) → IsExponentSignTaken (drop 1 text) negative digits
    → IsTaken 0 digits 4 magnitude count → (EndsToken text → ⊥) → IsExponentTail text rest
    → (0 < count) × (drop count digits ≡ rest)
power_rest text rest digits negative magnitude count sign t on p =
    let d = power_digits text p.exponent_text rest digits negative p.text_is p.exponent on p.ends sign in
    let long = length-take-le count digits t.within in
    let r = same_run 4 (take count digits) d.0 (drop count digits) rest t.digits (IsDigits_all d.0 d.1.0)
    (λ few. t.all (omega (arith, long, few))) (none_begins rest p.ends) d.1.1 (take-append-drop count digits ∙ d.2) in
    let some = IsDigits_nonempty d.0 d.1.0 in
    let same : length (take count digits) ≡ length d.0 = ap length r.0 in
    (omega (arith, some, same, long), r.1)

-- If `digits` is `number` without its sign, then `number` is this sign followed by `digits`. The
-- sign followed by any digits is a signed integer.
pub sign_of : (number digits : List ℕ) (negative : Bool) → IsExponentSignTaken number negative digits
    → (sign : List ℕ) × (number ≡ sign ++ digits) × ((ds : List ℕ) → IsDigits ds → IsSigned (sign ++ ds) (signed negative (value ds)))
sign_of number digits negative sign = elim sign [
  | inl m ↦ (45 ∷ [], m.0, λ ds all. inr (inl (refl, all, ap (λ n. signed n (value ds)) m.1)))
  | inr more ↦ elim more [
    | inl p ↦ (43 ∷ [], p.0, λ ds all. inl (refl, all, ap (λ n. signed n (value ds)) p.1))
    | inr none ↦ ([], none.0, λ ds all. rw none.1 (digits_signed ds all))
  ]
]

-- The bytes of `text` after the letter, the sign and the first `count` digits are
-- `drop count digits`.
pub behind_taken : (text digits : List ℕ) (negative : Bool) (count : ℕ) → 0 < length text → IsExponentSignTaken (drop 1 text) negative digits
    → drop (length text - length (drop count digits)) text ≡ drop count digits
behind_taken [] digits negative count some sign = absurd (omega arith)
behind_taken (b ∷ text) digits negative count some sign =
    let s = sign_of text digits negative sign in
    let all : text ≡ (s.0 ++ take count digits) ++ drop count digits = s.1 ∙ ap (λ d. s.0 ++ d) (sym (take-append-drop count digits))
    ∙ sym (append_assoc s.0 (take count digits) (drop count digits)) in
    end_rest (b ∷ text) (drop count digits) (b ∷ (s.0 ++ take count digits)) (ap (λ t. b ∷ t) all)

pub begun : (bytes after : List ℕ) (b : ℕ) → 0 < length bytes → get_or bytes 0 0 ≡ b → drop 1 bytes ≡ after → bytes ≡ b ∷ after
begun [] after b h e d = absurd (omega arith)
begun (x ∷ xs) after b h e d = cc

-- If the first byte of `bytes` is a point and the bytes after it are `a ++ rest`, then `bytes` is a
-- point followed by `a ++ rest`.
pub point_first : (bytes a rest : List ℕ) → 0 < length bytes → get_or bytes 0 0 ≡ 46 → take (length bytes - 1) (drop 1 bytes) ≡ a ++ rest
    → bytes ≡ 46 ∷ (a ++ rest)
point_first bytes a rest h e s = begun bytes (a ++ rest) 46 h e (sym (take_rest bytes 1) ∙ s)
