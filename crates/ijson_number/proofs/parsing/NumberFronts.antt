-- Reading an input byte by byte finds its longest prefix that can begin a number.
use Rattle.ijson_number.proofs.Common.{◌≡◌, ◌⊎◌, ℕ, ◌+◌, ◌-◌, ◌<◌, ◌≤◌, Bool, true, false, cond, List, [], ◌∷◌, ◌++◌, length, take, drop, refl, sym, ap, ◌∙◌, inl, inr}
use Rattle.ijson_number.proofs.Common.{arith, nat_tests, ℤ, Option, Some, None, append_assoc, append-nil, take-append-drop, length-append, ◌||◌, ◌==◌, subst}
use Rattle.ijson_number.proofs.Common.{take-append_seam, AllDigits, Decimal, EndsToken, IsDigit, IsDigits, IsExponent, IsFraction, IsMinus, IsSigned, IsSpelled}
use Rattle.ijson_number.proofs.Common.{IsTail, IsWhole, Parts, Spells, BeginsNumber, HasNoPoint, IsNumberFront, length-take-le}
use Rattle.std.proofs.Math.Seq.{drop-append_seam, take-append-add}
use Rattle.ijson_number.proofs.Common.{false_from_ne_true}
use Rattle.ijson_number.specs.NumberBytes.{is_digit}
use Rattle.ijson_number.specs.private.NumberStates.{State, start, minus, zero_digit, whole_digit, point, fraction_digit, letter, sign, exponent_digit}
use Rattle.ijson_number.specs.private.NumberStates.{is_letter, next, step, after, is_final, IsStuck, Halts}
use Rattle.std.proofs.Math.Bool.{or-true}
use Rattle.ijson_number.proofs.Common.{BeginsWithNoDigit, IsSignTaken, IsExponentSignTaken, value, pos, get_or}
use Rattle.ijson_number.specs.private.GeneralReader.{EndsExponent, EndsFraction, IsCut, IsExponentCut, IsExponentRead, IsFractionRead}
use Rattle.ijson_number.specs.private.GeneralReader.{IsSpellingRead, IsTailCut, IsTailRead, IsWholeRead}
use Rattle.std.specs.Prelude.{nat_lt}
use Rattle.ijson_number.specs.declared.general_reader.Tail.{Tail}
use Rattle.ijson_number.specs.declared.general_reader.Spelling.{Spelling}
use Rattle.ijson_number.proofs.Common.{nil_from_length, neg_ℤ, parts_of}
use Rattle.ijson_number.proofs.parsing.DigitRuns.{IsDigits_all, minus_of}
use Rattle.std.specs.Char.{is_ascii_alphanumeric}
use Rattle.ijson_number.proofs.Common.{EndsDigits, Denotes, IsNum, IsPastLimit, IsUnread, is_in_range, cases_lt, take-append-le, take_all, ◌↔◌}
use Rattle.ijson_number.specs.Refused.{IsRefused}
use Rattle.ijson_number.specs.declared.number.ParseNumberError.TheVariants as parse
use Rattle.ijson_number.specs.declared.number.ReadNumberError.TheVariants as read
use Rattle.ijson_number.proofs.parsing.Denotes.{spells_one}
use Rattle.ijson_number.proofs.parsing.DigitRuns.{spelled_one}
use Rattle.ijson_number.proofs.parsing.CommonFronts.{begun, none_begins, sign_of}
use Rattle.ijson_number.proofs.parsing.SpelledBytes.{digit_test}
use Rattle.ijson_number.proofs.parsing.CanonicalSpellings.{parts_spell}

pub after-append : (s : Option State) (a b : List ℕ) → after s (a ++ b) ≡ after (after s a) b
after-append s [] b = refl
after-append s (x ∷ a) b = after-append (step s x) a b

after-None : (bs : List ℕ) → after None bs ≡ None
after-None [] = refl
after-None (b ∷ bs) = after-None bs

-- Holds if each digit leads from state `s` to state `t`, and from `t` back to `t`.
record Digits (s t : State) : Type 0 where
  first : (b : ℕ) → is_digit b ≡ true → next s b ≡ Some t
  more : (b : ℕ) → is_digit b ≡ true → next t b ≡ Some t

all_after : (s t : State) → Digits s t → (ds : List ℕ) → AllDigits ds → after (Some t) ds ≡ Some t
all_after s t d [] h = refl
all_after s t d (b ∷ ds) h = rw (d.more b (digit_test b h.0.0 h.0.1)) (all_after s t d ds h.1)

digits_after : (s t : State) → Digits s t → (ds : List ℕ) → IsDigits ds → after (Some s) ds ≡ Some t
digits_after s t d [] h = absurd h
digits_after s t d (b ∷ ds) h = rw (d.first b (digit_test b h.0.0 h.0.1)) (all_after s t d ds h.1)

of_point : Digits point fraction_digit
of_point = record { first = λ b d. rw d refl; more = λ b d. rw d refl }

of_sign : Digits sign exponent_digit
of_sign = record { first = λ b d. rw d refl; more = λ b d. rw d refl }

of_letter : Digits letter exponent_digit
of_letter = record { first = λ b d. grind (arith, nat_tests); more = λ b d. rw d refl }

signed_after : (bs : List ℕ) (z : ℤ) → IsSigned bs z → after (Some letter) bs ≡ Some exponent_digit
signed_after [] z h = absurd h
signed_after (b ∷ bs) z h = elim h [
  | inl p ↦ rw p.0 (digits_after sign exponent_digit of_sign bs p.1)
  | inr q ↦ elim q [
    | inl p ↦ rw p.0 (digits_after sign exponent_digit of_sign bs p.1)
    | inr p ↦ digits_after letter exponent_digit of_letter (b ∷ bs) p.0
  ]
]

letter_is : (b : ℕ) → b ≡ 101 ⊎ b ≡ 69 → is_letter b ≡ true
letter_is b h = elim h [ inl e ↦ rw e refl | inr e ↦ rw e refl ]

-- Reading an exponent leads to the state `exponent_digit`. Reading an empty exponent keeps the
-- state.
exponent_after : (s : State) → ((b : ℕ) → is_letter b ≡ true → next s b ≡ Some letter) → (et : List ℕ) (z : ℤ) (w : Bool) → IsExponent et z w
    → after (Some s) et ≡ Some (cond w exponent_digit s)
exponent_after s begins [] z w h = rw h.1 refl
exponent_after s begins (b ∷ bs) z w h = rw (h.2, begins b (letter_is b h.0)) (signed_after bs z h.1)

-- Reading a fraction leads to the state `fraction_digit`. Reading an empty fraction keeps the
-- state.
fraction_after : (s : State) → next s 46 ≡ Some point → (ft f : List ℕ) (p : Bool) → IsFraction ft f p
    → after (Some s) ft ≡ Some (cond p fraction_digit s)
fraction_after s begins [] f p h = rw h.1 refl
fraction_after s begins (b ∷ bs) f p h = rw (h.0, h.3, begins) (digits_after point fraction_digit of_point bs h.1)

-- The state after a whole part is read.
abbrev whole_state : List ℕ → State
whole_state [] = minus
whole_state (b ∷ bs) = cond (b == 48) zero_digit whole_digit

of_whole : Digits whole_digit whole_digit
of_whole = record { first = λ b d. rw d refl; more = λ b d. rw d refl }

whole_step : (b : ℕ) → 49 ≤ b → b ≤ 57 → (next start b ≡ Some whole_digit) × (next minus b ≡ Some whole_digit) × (cond (b == 48) zero_digit whole_digit ≡ whole_digit)
whole_step b l h = let d = digit_test b (omega arith) h in
    let z : (b == 48) ≡ false = grind (arith, nat_tests) in
    let m : (b == 45) ≡ false = grind (arith, nat_tests) in
    (rw (m, z, d) refl, rw (z, d) refl, rw z refl)

whole_after : (w x : List ℕ) → IsWhole w → (after (Some start) (w ++ x) ≡ after (Some (whole_state w)) x) × (after (Some minus) (w ++ x) ≡ after (Some (whole_state w)) x)
whole_after [] x h = absurd h
whole_after (b ∷ bs) x h = elim h [
  | inl z ↦ rw (z.0, z.1) (refl, refl)
  | inr d ↦ (
      let s = whole_step b d.0 d.1 in
      let more : after (Some whole_digit) (bs ++ x) ≡ after (Some whole_digit) x =
      after-append (Some whole_digit) bs x ∙ ap (λ s. after s x) (all_after whole_digit whole_digit of_whole bs d.2) in
      let back = sym (ap (λ (t : State). after (Some t) x) s.2) in
      (ap (λ t. after t (bs ++ x)) s.0 ∙ more ∙ back, ap (λ t. after t (bs ++ x)) s.1 ∙ more ∙ back)
      )
]

-- Reading an optional minus sign and a whole part leads from `start` to the `whole_state` of the
-- part.
begun_after : (m w x : List ℕ) (negative : Bool) → IsMinus m negative → IsWhole w → after (Some start) (m ++ (w ++ x)) ≡ after (Some (whole_state w)) x
begun_after m w x negative h whole = elim h [
  | inl e ↦ rw e.0 (whole_after w x whole).0
  | inr e ↦ rw e.0 (whole_after w x whole).1
]

whole_cases : (w : List ℕ) → IsWhole w → (whole_state w ≡ zero_digit) ⊎ (whole_state w ≡ whole_digit)
whole_cases [] h = absurd h
whole_cases (b ∷ bs) h = elim h [ inl z ↦ inl (rw z.0 refl) | inr d ↦ inr (whole_step b d.0 d.1).2 ]

digit_of : (b : ℕ) → is_digit b ≡ true → IsDigit b
digit_of b h = (grind (arith, nat_tests), grind (arith, nat_tests))

pub no_digit : (b : ℕ) → (IsDigit b → ⊥) → is_digit b ≡ false
no_digit b h = false_from_ne_true (is_digit b) (λ e. h (digit_of b e))

pub other : (b k : ℕ) → (b ≡ k → ⊥) → (b == k) ≡ false
other b k h = grind (arith, nat_tests)

-- The state after an optional fraction and an optional exponent are read in state `s`.
abbrev tail_state : (s : State) (has_point has_exponent : Bool) → State
tail_state s p w = cond w exponent_digit (cond p fraction_digit s)

tail_after : (s : State) → (s ≡ zero_digit) ⊎ (s ≡ whole_digit) → (ft et f : List ℕ) (z : ℤ) (p w : Bool) → IsFraction ft f p → IsExponent et z w
    → after (Some s) (ft ++ et) ≡ Some (tail_state s p w)
tail_after s k ft et f z p w g h =
    let dot : next s 46 ≡ Some point = elim k [ inl e ↦ rw e refl | inr e ↦ rw e refl ] in
    after-append (Some s) ft et ∙ ap (λ t. after t et) (fraction_after s dot ft f p g)
    ∙ exponent_after (cond p fraction_digit s) (λ b l. letter_next b l p) et z w h
  where
    letter_next : (b : ℕ) → is_letter b ≡ true → (p : Bool) → next (cond p fraction_digit s) b ≡ Some letter
    letter_next b l true = grind (arith, nat_tests)
    letter_next b l false = elim k [ inl e ↦ rw e (grind (arith, nat_tests)) | inr e ↦ rw e (grind (arith, nat_tests)) ]

-- If the fraction and the exponent end at `rest`, the first byte of `rest` cannot continue the
-- number.
tail_stuck : (p w : Bool) (et rest : List ℕ) → (w ≡ false → et ≡ []) → EndsFraction p (et ++ rest) → EndsExponent w rest
    → IsStuck (tail_state zero_digit p w) rest
tail_stuck p w et [] none f e = tt
tail_stuck p true et (b ∷ rest) none f e = rw (no_digit b e) refl
tail_stuck true false et (b ∷ rest) none f e =
    let d : IsDigit b → ⊥ = rw (none refl) at f in rw (no_digit b d, e) refl
tail_stuck false false et (b ∷ rest) none f e =
    let d = rw (none refl) at f in rw (other b 46 (d refl), e) refl

no_exponent_text : (et : List ℕ) (z : ℤ) (w : Bool) → IsExponent et z w → w ≡ false → et ≡ []
no_exponent_text [] z w h e = refl
no_exponent_text (b ∷ bs) z w h e = absurd (let t : w ≡ true = h.2 in cc)

-- An optional fraction and an optional exponent are not empty if and only if a point or an exponent
-- was written.
tail_length : (ft et f rest : List ℕ) (z : ℤ) (p w : Bool) → IsFraction ft f p → IsExponent et z w
    → nat_lt (length rest) (length ((ft ++ et) ++ rest)) ≡ p || w
tail_length [] [] f rest z p w g h = rw (g.1, h.1) (grind (arith, nat_tests))
tail_length [] (b ∷ et) f rest z p w g h = rw (g.1, h.2) (grind (arith, nat_tests, length-append et rest))
tail_length (b ∷ ft) et f rest z p w g h = rw g.3 (grind (arith, nat_tests, length-append (ft ++ et) rest))

-- If an optional fraction and then an optional exponent are read, `IsTailRead` holds for both
-- together.
pub tail_read : (bytes behind rest : List ℕ) (t : Tail) → IsFractionRead bytes t.fraction.now behind
    → IsExponentRead behind t.negative t.exponent.now rest → t.point ≡ nat_lt (length rest) (length bytes) → IsTailRead bytes t rest
tail_read bytes behind rest t f e shown =
    let front = f.front ++ e.front in
    let is : bytes ≡ front ++ rest = f.text_is ∙ ap (λ t. f.front ++ t) e.text_is ∙ sym (append_assoc f.front e.front rest) in record {
      front = front;
      text_is = is;
      tail_is = record {
        fraction_text = f.front;
        exponent_text = e.front;
        has_point = f.has_point;
        has_exponent = e.has_exponent;
        text_is = refl;
        fraction_is = f.fraction;
        exponent_is = e.exponent;
        point_is = shown ∙ ap (λ l. nat_lt (length rest) (length l)) is
            ∙ tail_length f.front e.front _ rest _ f.has_point e.has_exponent f.fraction e.exponent;
      };
      all_digits = e.all_digits;
      halts = record {
        at = tail_state zero_digit f.has_point e.has_exponent;
        runs = tail_after zero_digit (inl refl) f.front e.front _ _ f.has_point e.has_exponent f.fraction e.exponent;
        stuck = tail_stuck f.has_point e.has_exponent e.front rest (no_exponent_text e.front _ e.has_exponent e.exponent)
            (rw e.text_is at f.ends) e.ends;
      };
    }

-- A point that is not followed by a digit is an incomplete fraction.
pub cut_point : (bytes rest : List ℕ) → bytes ≡ 46 ∷ rest → BeginsWithNoDigit rest → IsTailCut bytes rest
cut_point bytes rest is none = record {
  front = 46 ∷ [];
  fraction = 48 ∷ [];
  exponent = pos 0;
  text_is = is;
  opens = record {
    fraction_text = 46 ∷ 48 ∷ [];
    exponent_text = [];
    has_point = true;
    has_exponent = false;
    text_is = refl;
    fraction_is = (refl, ((omega arith, omega arith), tt), refl, refl);
    exponent_is = (refl, refl);
    point_is = refl;
  };
  halts = record { at = point; runs = refl; stuck = stuck rest none };
  unfinished = refl;
}
  where
    stuck : (rest : List ℕ) → BeginsWithNoDigit rest → IsStuck point rest
    stuck [] h = tt
    stuck (b ∷ rest) h = rw (no_digit b h) refl

-- An optional fraction followed by an exponent without digits is incomplete.
pub cut_exponent : (bytes fraction behind rest : List ℕ) → IsFractionRead bytes fraction behind → IsExponentCut behind rest → IsTailCut bytes rest
cut_exponent bytes fraction behind rest f e =
    let front = f.front ++ e.first ∷ e.sign in
    record {
      front = front;
      fraction = fraction;
      exponent = e.value;
      text_is = f.text_is ∙ ap (λ t. f.front ++ t) e.text_is ∙ sym (append_assoc f.front (e.first ∷ e.sign) rest);
      opens = record {
        fraction_text = f.front;
        exponent_text = e.first ∷ (e.sign ++ 48 ∷ []);
        has_point = f.has_point;
        has_exponent = true;
        text_is = append_assoc f.front (e.first ∷ e.sign) (48 ∷ []);
        fraction_is = f.fraction;
        exponent_is = e.opens;
        point_is = sym (or-true f.has_point);
      };
      halts = record {
        at = e.halts.at;
        runs = after-append (Some zero_digit) f.front (e.first ∷ e.sign)
            ∙ ap (λ s. after s (e.first ∷ e.sign)) (fraction_after zero_digit refl f.front fraction f.has_point f.fraction)
            ∙ ap (λ s. after s e.sign) (letter_next f.has_point e.first e.is_first) ∙ e.halts.runs;
        stuck = e.halts.stuck;
      };
      unfinished = e.unfinished;
    }
  where
    letter_next : (p : Bool) (b : ℕ) → is_letter b ≡ true → next (cond p fraction_digit zero_digit) b ≡ Some letter
    letter_next true b l = grind (arith, nat_tests)
    letter_next false b l = grind (arith, nat_tests)

-- In this module, `bytes` is the letter `e` or `E`, an optional sign, `digits` and `rest`. `rest`
-- does not begin with a digit.
module _ (bytes number digits rest : List ℕ) (negative : Bool) (some : 0 < length bytes) (first : get_or bytes 0 0 ≡ 101 ⊎ get_or bytes 0 0 ≡ 69)
    (taken : IsExponentSignTaken (drop 1 bytes) negative number) (split : number ≡ digits ++ rest) (none : BeginsWithNoDigit rest) where
  pub exponent_read : IsDigits digits → IsExponentRead bytes negative digits rest
  exponent_read all =
      let s = sign_of (drop 1 bytes) number negative taken in record {
        front = get_or bytes 0 0 ∷ (s.0 ++ digits);
        has_exponent = true;
        text_is = begun bytes (drop 1 bytes) (get_or bytes 0 0) some refl refl
            ∙ ap (λ t. get_or bytes 0 0 ∷ t) (s.1 ∙ ap (λ t. s.0 ++ t) split ∙ sym (append_assoc s.0 digits rest));
        exponent = (first, s.2 digits all, refl);
        all_digits = IsDigits_all digits all;
        ends = none;
      }

  sign_halts : length digits ≡ 0 → (sign_text : List ℕ) × (z : ℤ) × (drop 1 bytes ≡ sign_text ++ rest) × IsSigned (sign_text ++ 48 ∷ []) z
      × (h : Halts letter sign_text rest) × (is_final h.at ≡ false)
  sign_halts zero =
      let same : number ≡ rest = split ∙ ap (λ d. d ++ rest) (nil_from_length digits zero) in
      elim taken [
        | inl m ↦ (45 ∷ [], neg_ℤ (pos (value (48 ∷ []))), m.0 ∙ ap (λ t. 45 ∷ t) same, inr (inl (refl, nought, refl)), at_sign 45 refl, refl)
        | inr more ↦ elim more [
          | inl p ↦ (43 ∷ [], pos (value (48 ∷ [])), p.0 ∙ ap (λ t. 43 ∷ t) same, inl (refl, nought, refl), at_sign 43 refl, refl)
          | inr n ↦ (
            [],
            pos (value (48 ∷ [])),
            n.0 ∙ same,
            inr (inr (nought, refl)),
            record { at = letter; runs = refl; stuck = unsigned rest none (rw (n.0 ∙ same) at n.2) },
            refl,
          )
        ]
      ]
    where
      nought : IsDigits (48 ∷ [])
      nought = ((omega arith, omega arith), tt)

      stuck : (rest : List ℕ) → BeginsWithNoDigit rest → IsStuck sign rest
      stuck [] h = tt
      stuck (b ∷ rest) h = rw (no_digit b h) refl

      at_sign : (b : ℕ) → next letter b ≡ Some sign → Halts letter (b ∷ []) rest
      at_sign b h = record { at = sign; runs = h; stuck = stuck rest none }

      unsigned : (rest : List ℕ) → BeginsWithNoDigit rest
          → (0 < length rest → (get_or rest 0 0 ≡ 45 → ⊥) × (get_or rest 0 0 ≡ 43 → ⊥)) → IsStuck letter rest
      unsigned [] h s = tt
      unsigned (b ∷ rest) h s =
          let t = s (omega arith) in rw (other b 43 t.1, other b 45 t.0, no_digit b h) refl

  pub exponent_cut : length digits ≡ 0 → IsExponentCut bytes rest
  exponent_cut zero =
      let s = sign_halts zero in record {
        first = get_or bytes 0 0;
        sign = s.0;
        value = s.1;
        text_is = begun bytes (drop 1 bytes) (get_or bytes 0 0) some refl refl ∙ ap (λ t. get_or bytes 0 0 ∷ t) s.2;
        is_first = letter_is (get_or bytes 0 0) first;
        opens = (first, s.3, refl);
        halts = s.4;
        unfinished = s.5;
      }

-- If no digit follows the whole part, reading halts at the same byte whether the whole part is `0`
-- or another number.
whole_goes : (front rest : List ℕ) → BeginsWithNoDigit (front ++ rest) → (h : Halts zero_digit front rest)
    → (k : Halts whole_digit front rest) × (is_final k.at ≡ is_final h.at)
whole_goes [] rest none h =
    let e : zero_digit ≡ h.at = let r = h.runs in cc in
    (record { at = whole_digit; runs = refl; stuck = stuck rest none (rw (← e) at h.stuck) }, rw (← e) refl)
  where
    stuck : (rest : List ℕ) → BeginsWithNoDigit rest → IsStuck zero_digit rest → IsStuck whole_digit rest
    stuck [] n s = tt
    stuck (b ∷ rest) n s = rw (no_digit b n) s
whole_goes (b ∷ front) rest none h = (record { at = h.at; runs = rw (no_digit b none) h.runs; stuck = h.stuck }, refl)

state_goes : (w front rest : List ℕ) → IsWhole w → (w ≡ 48 ∷ []) ⊎ BeginsWithNoDigit (front ++ rest) → (h : Halts zero_digit front rest)
    → (k : Halts (whole_state w) front rest) × (is_final k.at ≡ is_final h.at)
state_goes w front rest whole ends h = elim (whole_cases w whole) [
  | inl e ↦ rw e (h, refl)
  | inr e ↦ elim ends [
    | inl z ↦ rw z (h, refl)
    | inr none ↦ rw e (whole_goes front rest none h)
  ]
]

-- If reading the bytes after the whole part halts at `rest`, reading from the first byte of the
-- number halts at `rest`.
begun_goes : (m w front rest : List ℕ) (negative : Bool) → IsMinus m negative → IsWhole w → (w ≡ 48 ∷ []) ⊎ BeginsWithNoDigit (front ++ rest)
    → (h : Halts zero_digit front rest) → (k : Halts start (m ++ (w ++ front)) rest) × (is_final k.at ≡ is_final h.at)
begun_goes m w front rest negative signed_is whole ends h =
    let k = state_goes w front rest whole ends h in
    (record { at = k.0.at; runs = begun_after m w front negative signed_is whole ∙ k.0.runs; stuck = k.0.stuck }, k.1)

-- An optional minus sign, a whole part and a tail spell the parts of a number.
spelled_by : (m w tail f : List ℕ) (negative : Bool) (z : ℤ) (p : Bool) → IsMinus m negative → IsWhole w → IsTail tail f z p
    → IsSpelled (m ++ (w ++ tail)) (record { negative = negative; whole = w; fraction = f; exponent = z; point = p })
spelled_by m w tail f negative z p signed_is whole t = record {
  minus_text = m;
  fraction_text = t.fraction_text;
  exponent_text = t.exponent_text;
  has_point = t.has_point;
  has_exponent = t.has_exponent;
  text_is = ap (λ x. m ++ (w ++ x)) t.text_is ∙ simp append_assoc;
  minus = signed_is;
  whole = whole;
  fraction = t.fraction_is;
  exponent = t.exponent_is;
  point = t.point_is;
}

-- If no digit follows the optional minus sign of `text`, then `text` is an incomplete number
-- followed by `unsigned`.
pub cut_whole : (text unsigned : List ℕ) (negative : Bool) → IsSignTaken text negative unsigned → BeginsWithNoDigit unsigned → IsCut text unsigned
cut_whole text unsigned negative taken none = elim taken [
  | inl m ↦ record {
    front = 45 ∷ [];
    parts = parts true;
    text_is = m.0;
    opens = spelled_by (45 ∷ []) (48 ∷ []) [] [] true (pos 0) false (inr (refl, refl)) (inl (refl, refl)) no_tail;
    halts = record { at = minus; runs = refl; stuck = stuck unsigned none };
    unfinished = refl;
  }
  | inr n ↦ record {
    front = [];
    parts = parts false;
    text_is = n.0;
    opens = spelled_by [] (48 ∷ []) [] [] false (pos 0) false (inl (refl, refl)) (inl (refl, refl)) no_tail;
    halts = record { at = start; runs = refl; stuck = unsigned_stuck unsigned none (rw n.0 at n.2) };
    unfinished = refl;
  }
]
  where
    parts : Bool → Parts
    parts n = record { negative = n; whole = 48 ∷ []; fraction = []; exponent = pos 0; point = false }

    no_tail : IsTail [] [] (pos 0) false
    no_tail = record {
      fraction_text = [];
      exponent_text = [];
      has_point = false;
      has_exponent = false;
      text_is = refl;
      fraction_is = (refl, refl);
      exponent_is = (refl, refl);
      point_is = refl;
    }

    stuck : (rest : List ℕ) → BeginsWithNoDigit rest → IsStuck minus rest
    stuck [] h = tt
    stuck (b ∷ rest) h = rw (no_digit b h, other b 48 (λ e. h (omega (arith, e), omega (arith, e)))) refl

    unsigned_stuck : (rest : List ℕ) → BeginsWithNoDigit rest → (0 < length rest → get_or rest 0 0 ≡ 45 → ⊥) → IsStuck start rest
    unsigned_stuck [] h s = tt
    unsigned_stuck (b ∷ rest) h s = rw (other b 45 (s (omega arith))) (stuck (b ∷ rest) h)

-- If an incomplete fraction or exponent follows the whole part, `text` is an incomplete number
-- followed by `rest`.
pub cut_tail : (text unsigned whole behind rest : List ℕ) (negative : Bool) → IsSignTaken text negative unsigned
    → IsWholeRead unsigned whole behind → IsTailCut behind rest → IsCut text rest
cut_tail text unsigned whole behind rest negative taken w t =
    let m = minus_of text unsigned negative taken in
    let h = begun_goes m.0 whole t.front rest negative m.1 w.whole_is (rw t.text_is at w.ends) t.halts in record {
      front = m.0 ++ (whole ++ t.front);
      parts = record { negative = negative; whole = whole; fraction = t.fraction; exponent = t.exponent; point = true };
      text_is = m.2 ∙ ap (λ x. m.0 ++ x) (w.text_is ∙ ap (λ x. whole ++ x) t.text_is) ∙ simp append_assoc;
      opens = subst (λ x. IsSpelled x (record { negative = negative; whole = whole; fraction = t.fraction; exponent = t.exponent; point = true })) (simp append_assoc)
          (spelled_by m.0 whole (t.front ++ 48 ∷ []) t.fraction negative t.exponent true m.1 w.whole_is t.opens);
      halts = h.0;
      unfinished = h.1 ∙ t.unfinished;
    }

-- If an optional minus sign, a whole part and a tail are read, `IsSpellingRead` holds for all three
-- together.
pub spelling_read : (text unsigned behind rest : List ℕ) (s : Spelling) → IsSignTaken text s.negative unsigned
    → IsWholeRead unsigned s.whole.now behind → IsTailRead behind s.tail rest → IsSpellingRead text s rest
spelling_read text unsigned behind rest s taken w t =
    let m = minus_of text unsigned s.negative taken in record {
      front = m.0 ++ (s.whole.now ++ t.front);
      text_is = m.2 ∙ ap (λ x. m.0 ++ x) (w.text_is ∙ ap (λ x. s.whole.now ++ x) t.text_is) ∙ simp append_assoc;
      spelled = spelled_by m.0 s.whole.now t.front s.tail.fraction.now s.negative _ s.tail.point m.1 w.whole_is t.tail_is;
      all_digits = t.all_digits;
      halts = (begun_goes m.0 s.whole.now t.front rest s.negative m.1 w.whole_is (rw t.text_is at w.ends) t.halts).0;
    }

-- Holds if `bytes` lead to a final state. If `has_point` is true, the last byte is a fraction digit
-- or an exponent digit, and otherwise a whole digit.
record EndsAt (bytes : List ℕ) (has_point : Bool) : Type 0 where
  at : State
  runs : after (Some start) bytes ≡ Some at
  final : is_final at ≡ true
  pointless : has_point ≡ false → (at ≡ zero_digit) ⊎ (at ≡ whole_digit)
  pointed : has_point ≡ true → (at ≡ fraction_digit) ⊎ (at ≡ exponent_digit)

tail_ends : (bytes : List ℕ) (s : State) → (s ≡ zero_digit) ⊎ (s ≡ whole_digit) → (p w : Bool) → after (Some start) bytes ≡ Some (tail_state s p w)
    → EndsAt bytes (p || w)
tail_ends bytes s k true true runs = record { at = exponent_digit; runs = runs; final = refl; pointless = λ e. absurd (cc); pointed = λ _. inr refl }
tail_ends bytes s k false true runs = record { at = exponent_digit; runs = runs; final = refl; pointless = λ e. absurd (cc); pointed = λ _. inr refl }
tail_ends bytes s k true false runs = record { at = fraction_digit; runs = runs; final = refl; pointless = λ e. absurd (cc); pointed = λ _. inl refl }
tail_ends bytes s k false false runs = record {
  at = s;
  runs = runs;
  final = elim k [ inl e ↦ rw e refl | inr e ↦ rw e refl ];
  pointless = λ _. k;
  pointed = λ e. absurd (cc);
}

spelled_ends : (bytes : List ℕ) (p : Parts) → IsSpelled bytes p → EndsAt bytes p.point
spelled_ends bytes p s =
    let w = whole_state p.whole in
    let whole : bytes ≡ s.minus_text ++ (p.whole ++ (s.fraction_text ++ s.exponent_text)) = s.text_is ∙ simp append_assoc in
    let runs : after (Some start) bytes ≡ Some (tail_state w s.has_point s.has_exponent) =
    ap (after (Some start)) whole
    ∙ begun_after s.minus_text p.whole (s.fraction_text ++ s.exponent_text) p.negative s.minus s.whole
    ∙ tail_after w (whole_cases p.whole s.whole) s.fraction_text s.exponent_text p.fraction p.exponent s.has_point s.has_exponent s.fraction
    s.exponent in
    rw s.point (tail_ends bytes w (whole_cases p.whole s.whole) s.has_point s.has_exponent runs)

-- If reading halts before the byte `b`, no number begins with the bytes read followed by `b`.
halted : (front rest more : List ℕ) (b : ℕ) → Halts start front (b ∷ rest) → (n : Decimal) → Spells ((front ++ b ∷ []) ++ more) n → ⊥
halted front rest more b h n s =
    let e = spelled_ends ((front ++ b ∷ []) ++ more) s.0 s.1 in
    let none : after (Some start) ((front ++ b ∷ []) ++ more) ≡ None =
    ap (after (Some start)) (append_assoc front (b ∷ []) more) ∙ after-append (Some start) front (b ∷ more)
    ∙ ap (λ s. after s (b ∷ more)) h.runs ∙ ap (λ s. after s more) h.stuck ∙ after-None more in
    let clash : Some e.at ≡ None = sym e.runs ∙ none in
    cc

number_front_of : (front rest : List ℕ) → Halts start front rest → BeginsNumber front → IsNumberFront (front ++ rest) (length front)
number_front_of front rest h begins = record {
  within = omega (arith, length-append front rest);
  begins = rw (take-append_seam front rest) begins;
  ends = ends rest h;
}
  where
    ends : (rest : List ℕ) → Halts start front rest → length front < length (front ++ rest) → BeginsNumber (take (length front + 1) (front ++ rest)) → ⊥
    ends [] h less b = omega (arith, length-append front [])
    ends (b ∷ rest) h less more =
        let one : take (length front + 1) (front ++ b ∷ rest) ≡ front ++ b ∷ [] = take-append-add front (b ∷ rest) 1 in
        let m = rw one at more in
        halted front rest m.0 b h m.1 m.2

-- If reading `front` halts and some number begins with `front`, then `front` is the longest prefix
-- of `text` that can begin a number.
pub number_front : (text front rest : List ℕ) → text ≡ front ++ rest → Halts start front rest → BeginsNumber front
    → IsNumberFront text (length text - length rest)
number_front text front rest is h begins =
    let count : length text - length rest ≡ length front = omega (arith, ap length is ∙ length-append front rest) in
    rw (count, is) (number_front_of front rest h begins)

pub front_taken : (text front rest : List ℕ) → text ≡ front ++ rest → take (length text - length rest) text ≡ front
front_taken text front rest is =
    let count : length text - length rest ≡ length front = omega (arith, ap length is ∙ length-append front rest) in
    rw (count, is) (take-append_seam front rest)

pub rest_dropped : (text front rest : List ℕ) → text ≡ front ++ rest → drop (length text - length rest) text ≡ rest
rest_dropped text front rest is =
    let count : length text - length rest ≡ length front = omega (arith, ap length is ∙ length-append front rest) in
    rw (count, is) (drop-append_seam front rest)

begins_itself : (bytes : List ℕ) (n : Decimal) → Spells bytes n → BeginsNumber bytes
begins_itself bytes n s = ([], n, subst (λ b. Spells b n) (sym (append-nil bytes)) s)

-- If `text` begins with an incomplete number, the incomplete number is the longest prefix that can
-- begin a number, and does not spell a number.
pub cut_unread : (text rest : List ℕ) → IsCut text rest → IsNumberFront text (length text - length rest)
    × ((n : Decimal) → Spells (take (length text - length rest) text) n → ⊥)
cut_unread text rest c =
    let s = parts_spell (c.front ++ 48 ∷ []) c.parts c.opens in (
      number_front text c.front rest c.text_is c.halts (48 ∷ [], s.0, s.1),
      λ n spelled. let e = spelled_ends c.front _ ((rw (front_taken text c.front rest c.text_is) at spelled).1) in
          let same : c.halts.at ≡ e.at = let l = c.halts.runs in let r = e.runs in cc in
          let clash : false ≡ true = sym c.unfinished ∙ ap is_final same ∙ e.final in
          cc,
    )

-- If reading halts after a number that was written without a point and an exponent, no point
-- follows.
pub point_stops : (front rest : List ℕ) (p : Parts) (n : Decimal) → IsSpelled front p → n.point ≡ p.point → Halts start front rest
    → HasNoPoint n.point rest
point_stops front [] p n s same h = tt
point_stops front (b ∷ rest) p n s same h = λ none dot.
    let e = spelled_ends front p s in
    let at : h.at ≡ e.at = let l = h.runs in let r = e.runs in cc in
    let stuck = h.stuck in
    let goes : next h.at 46 ≡ Some point = elim (e.pointless (sym same ∙ none)) [ inl z ↦ rw (at ∙ z) refl | inr w ↦ rw (at ∙ w) refl ] in
    let clash : None ≡ Some point = sym (rw dot at stuck) ∙ goes in
    cc

no_letter : (b : ℕ) → is_ascii_alphanumeric b ≡ false → is_letter b ≡ false
no_letter b h = grind (arith, nat_tests)

-- If `bytes` are a number, and `EndsToken` and `HasNoPoint` hold for `rest`, the first byte of
-- `rest` cannot continue the number.
token_stuck : (bytes rest : List ℕ) (p : Bool) → (e : EndsAt bytes p) → EndsToken rest → HasNoPoint p rest → IsStuck e.at rest
token_stuck bytes [] p e ends none = tt
token_stuck bytes (b ∷ rest) true e ends none =
    let d : is_digit b ≡ false = no_digit b (none_begins (b ∷ rest) ends) in
    let l : is_letter b ≡ false = no_letter b ends in
    elim (e.pointed refl) [ inl f ↦ rw (f, d, l) refl | inr x ↦ rw (x, d) refl ]
token_stuck bytes (b ∷ rest) false e ends none =
    let d : is_digit b ≡ false = no_digit b (none_begins (b ∷ rest) ends) in
    let l : is_letter b ≡ false = no_letter b ends in
    let dot : (b == 46) ≡ false = other b 46 (none refl) in
    elim (e.pointless refl) [ inl z ↦ rw (z, dot, l) refl | inr w ↦ rw (w, d, dot, l) refl ]

pub no_point_of : (p : Bool) (rest : List ℕ) → EndsDigits p rest → HasNoPoint p rest
no_point_of p [] h = tt
no_point_of p (b ∷ rest) h = h.1

-- If the byte after a number is neither a digit nor a letter, nor `.` after a number without a
-- point, the number is the longest prefix of `text` that can begin a number.
pub common_front : (text : List ℕ) (count : ℕ) (n : Decimal) → count ≤ length text → Spells (take count text) n → EndsToken (drop count text)
    → EndsDigits n.point (drop count text) → IsNumberFront text count
common_front text count n within s ends digits =
    let front : List ℕ = take count text in
    let rest : List ℕ = drop count text in
    let e = spelled_ends front s.0 s.1 in
    let stuck = token_stuck front rest s.0.point e ends (rw s.2.1 at (no_point_of n.point rest digits)) in
    let is : text ≡ front ++ rest = sym (take-append-drop count text) in
    let long : length text - length rest ≡ count = omega (arith, length-take-le count text within, ap length is ∙ length-append front rest) in
    rw long at (number_front text front rest is (record { at = e.at; runs = e.runs; stuck = stuck }) (begins_itself front n s))

-- The number that `read_spelling` read is the longest prefix of `text` that can begin a number.
pub spelling_front : (text rest : List ℕ) (s : Spelling) (r : IsSpellingRead text s rest) → IsNumberFront text (length text - length rest)
spelling_front text rest s r =
    let n = parts_spell r.front (parts_of s) r.spelled in
    number_front text r.front rest r.text_is r.halts (begins_itself r.front n.0 n.1)

pub spelling_past : (text rest : List ℕ) (s : Spelling) (r : IsSpellingRead text s rest)
    → ((n : Decimal) → Denotes (parts_of s) n → IsNum n → ⊥) → IsPastLimit (take (length text - length rest) text)
spelling_past text rest s r none =
    let n = parts_spell r.front (parts_of s) r.spelled in
    let d : Denotes (parts_of s) n.0 = subst (λ p. Denotes p n.0) (spelled_one r.front n.1.0 (parts_of s) n.1.1 r.spelled) n.1.2 in
    rw (front_taken text r.front rest r.text_is)
    (n.0, n.1, false_from_ne_true _ (λ e. none n.0 d (record { plain = d.0.plain; in_range = e })))

pub spelling_spells : (text rest : List ℕ) (s : Spelling) (r : IsSpellingRead text s rest) (n : Decimal) → Denotes (parts_of s) n
    → Spells (take (length text - length rest) text) n × HasNoPoint n.point (drop (length text - length rest) text)
spelling_spells text rest s r n d = (
  rw (front_taken text r.front rest r.text_is) (parts_of s, r.spelled, d),
  rw (rest_dropped text r.front rest r.text_is) (point_stops r.front rest (parts_of s) n r.spelled d.1 r.halts),
)

-- A number at the start of `text` is at most as long as the longest prefix that can begin a number.
pub front_within : (text : List ℕ) (count : ℕ) → IsNumberFront text count → (front rest : List ℕ) (n : Decimal) → text ≡ front ++ rest
    → Spells front n → length front ≤ count
front_within text count f front rest n is s = elim (cases_lt count (length front)) [
  | inl less ↦ absurd
      (let within = f.within in
      let one : take (count + 1) text ≡ take (count + 1) front =
      ap (take (count + 1)) is ∙ take-append-le (count + 1) front rest (omega (arith, less)) in
      let whole : front ≡ take (count + 1) text ++ drop (count + 1) front =
      sym (take-append-drop (count + 1) front) ∙ ap (λ t. t ++ drop (count + 1) front) (sym one) in
      f.ends (omega (arith, less, ap length is ∙ length-append front rest)) (drop (count + 1) front, n, subst (λ b. Spells b n) whole s))
  | inr most ↦ omega (arith, most)
]

-- If all of `text` is a number, its longest prefix that can begin a number is all of `text`.
pub whole_front : (text : List ℕ) (count : ℕ) → IsNumberFront text count → (n : Decimal) → Spells text n → count ≡ length text
whole_front text count f n s =
    let most = front_within text count f text [] n (sym (append-nil text)) s in
    let within = f.within in
    omega (arith, most)

-- The bytes after the number that `read_spelling` read are empty if and only if all of `text` is a
-- number.
pub spelling_whole : (text rest : List ℕ) (s : Spelling) → IsSpellingRead text s rest → length rest ≡ 0 ↔ ((n : Decimal) × Spells text n)
spelling_whole text rest s r = (
  λ none. parts_spell text (parts_of s)
      (subst (λ b. IsSpelled b (parts_of s)) (sym (r.text_is ∙ ap (λ l. r.front ++ l) (nil_from_length rest none) ∙ append-nil r.front)) r.spelled),
  λ n. let e = whole_front text _ (spelling_front text rest s r) n.0 n.1 in
      omega (arith, e, ap length r.text_is ∙ length-append r.front rest),
)

pub cut_spells : (text rest : List ℕ) → IsCut text rest → (n : Decimal) × Spells text n → ⊥
cut_spells text rest c n =
    let u = cut_unread text rest c in
    let e = whole_front text _ u.0 n.0 n.1 in
    u.1 n.0 (rw (take_all (length text - length rest) text (omega (arith, e))) n.1)

-- If the longest prefix that can begin a number is not all of `text`, parsing `text` fails with
-- `Invalid`.
pub part_refused : (text : List ℕ) (count : ℕ) → IsNumberFront text count → (count ≡ length text → ⊥) → IsRefused text parse.Invalid
part_refused text count f part = λ n s num. part (whole_front text count f n s)

-- If reading a number at the start of `text` fails with `Syntax`, parsing `text` fails with
-- `Invalid`.
pub cut_refused : (text : List ℕ) (at : ℕ) → IsUnread text (read.Syntax at) → IsRefused text parse.Invalid
cut_refused text at u n s num =
    let e = whole_front text at u.0 n s in
    u.1 n (rw (take_all at text (omega (arith, e))) s)

pub range_refused : (text : List ℕ) → IsUnread text read.OutOfRange → IsRefused text parse.Invalid
range_refused text u n s num =
    let e = whole_front text u.0 u.1 n s in
    let p = rw (take_all u.0 text (omega (arith, e))) at u.2 in
    let same : p.0 ≡ n = spells_one text p.0 n p.1 s in
    let range = num.in_range in
    let clash : true ≡ false = sym range ∙ ap is_in_range (sym same) ∙ p.2 in
    cc

pub memory_refused : (text : List ℕ) → IsUnread text read.Memory → (n : Decimal) × Spells text n → IsRefused text parse.Memory
memory_refused text u n =
    let e = whole_front text u.0 u.1 n.0 n.1 in
    rw (take_all u.0 text (omega (arith, e))) at u.2
