-- The parts that the general reader splits off the input, and where each part ends.
use Rattle.std.specs.Prelude.{◌≡◌, ◌⊎◌, ℕ, ℤ, Bool, true, false, List, [], ◌∷◌, ◌++◌}
use Rattle.ijson_number.specs.Strips.{signed}
use Rattle.ijson_number.specs.Grammar.{AllDigits, IsExponent, IsFraction, IsSpelled, IsWhole, Parts, value}
use Rattle.ijson_number.specs.private.CanonicalSpelling.{parts_of}
use Rattle.ijson_number.specs.private.NumberStates.{start, letter, zero_digit, is_final, is_letter, Halts}
use Rattle.ijson_number.specs.private.Reading.{BeginsWithNoDigit, IsTail}
use Rattle.ijson_number.specs.NumberFront.{HasNoPoint}
use Rattle.ijson_number.specs.declared.general_reader.Spelling.{Spelling}
use Rattle.ijson_number.specs.declared.general_reader.Tail.{Tail}

-- Holds if `text` is the digits `whole` followed by `rest`, and `whole` is the longest possible
-- whole part.
pub record IsWholeRead (text whole rest : List ℕ) : Type 0 where
  pub text_is : text ≡ whole ++ rest
  pub whole_is : IsWhole whole
  pub ends : (whole ≡ 48 ∷ []) ⊎ BeginsWithNoDigit rest

-- Holds if `rest` does not continue the fraction: it does not begin with a digit if a fraction was
-- read, and does not begin with `'.'` if the fraction is empty.
abbrev pub EndsFraction : (has_point : Bool) → List ℕ → Type 0
EndsFraction false rest = HasNoPoint false rest
EndsFraction true rest = BeginsWithNoDigit rest

-- Holds if `text` is an optional fraction with the digits `digits`, followed by `rest`, and the
-- fraction is as long as possible.
pub record IsFractionRead (text digits rest : List ℕ) : Type 0 where
  pub front : List ℕ
  pub has_point : Bool
  pub text_is : text ≡ front ++ rest
  pub fraction : IsFraction front digits has_point
  pub ends : EndsFraction has_point rest

-- Holds if the input is empty or begins with neither `'e'` nor `'E'`.
abbrev pub BeginsWithNoLetter : List ℕ → Type 0
BeginsWithNoLetter [] = Unit {0}
BeginsWithNoLetter (b ∷ bs) = is_letter b ≡ false

-- Holds if `rest` does not continue the exponent: it does not begin with a digit if an exponent was
-- read, and does not begin with `'e'` or `'E'` if the exponent is empty.
abbrev pub EndsExponent : (has_exponent : Bool) → List ℕ → Type 0
EndsExponent false rest = BeginsWithNoLetter rest
EndsExponent true rest = BeginsWithNoDigit rest

-- Holds if `text` is an optional exponent with the sign `negative` and the digits `digits`,
-- followed by `rest`, and the exponent is as long as possible.
pub record IsExponentRead (text : List ℕ) (negative : Bool) (digits rest : List ℕ) : Type 0 where
  pub front : List ℕ
  pub has_exponent : Bool
  pub text_is : text ≡ front ++ rest
  pub exponent : IsExponent front (signed negative (value digits)) has_exponent
  pub all_digits : AllDigits digits
  pub ends : EndsExponent has_exponent rest

-- Holds if `text` is `'e'` or `'E'` and an optional sign followed by `rest`, and `rest` does not
-- begin with a digit.
pub record IsExponentCut (text rest : List ℕ) : Type 0 where
  pub first : ℕ
  pub sign : List ℕ
  pub value : ℤ
  pub text_is : text ≡ first ∷ (sign ++ rest)
  pub is_first : is_letter first ≡ true
  pub opens : IsExponent (first ∷ (sign ++ 48 ∷ [])) value true
  pub halts : Halts letter sign rest
  pub unfinished : is_final halts.at ≡ false

-- Holds if `text` is the fraction and exponent stored in `tail` followed by `rest`, and the first
-- byte of `rest` cannot continue the number.
pub record IsTailRead (text : List ℕ) (tail : Tail) (rest : List ℕ) : Type 0 where
  pub front : List ℕ
  pub text_is : text ≡ front ++ rest
  pub tail_is : IsTail front tail.fraction.now (signed tail.negative (value tail.exponent.now)) tail.point
  pub all_digits : AllDigits tail.exponent.now
  pub halts : Halts zero_digit front rest

-- Holds if `text` is an incomplete fraction or exponent, such as `.` or `.5e+`, followed by `rest`.
pub record IsTailCut (text rest : List ℕ) : Type 0 where
  pub front : List ℕ
  pub fraction : List ℕ
  pub exponent : ℤ
  pub text_is : text ≡ front ++ rest
  pub opens : IsTail (front ++ 48 ∷ []) fraction exponent true
  pub halts : Halts zero_digit front rest
  pub unfinished : is_final halts.at ≡ false

-- Holds if `text` is a number with the parts in `spelling` followed by `rest`, and the number is as
-- long as possible.
pub record IsSpellingRead (text : List ℕ) (spelling : Spelling) (rest : List ℕ) : Type 0 where
  pub front : List ℕ
  pub text_is : text ≡ front ++ rest
  pub spelled : IsSpelled front (parts_of spelling)
  pub all_digits : AllDigits spelling.tail.exponent.now
  pub halts : Halts start front rest

-- Holds if `text` is an incomplete number, such as `-` or `1.`, followed by `rest`. A number can
-- begin with these bytes, but not with one byte more.
pub record IsCut (text rest : List ℕ) : Type 0 where
  pub front : List ℕ
  pub parts : Parts
  pub text_is : text ≡ front ++ rest
  pub opens : IsSpelled (front ++ 48 ∷ []) parts
  pub halts : Halts start front rest
  pub unfinished : is_final halts.at ≡ false
