-- Names that most proofs import.
pub use Rattle.std.proofs.Common.{Option, Some, None, Result, Ok, Err, OnErr, ◌≡◌, ◌<◌, Bool, true, false, [], ◌∷◌, length, refl, ap, sym, ◌∙◌, arith}
pub use Rattle.std.proofs.Common.{◌^◌, ℕ, subst, ◌↔◌, List, map, inl, inr, zero, suc, ◌*◌, ap₂, ◌≢◌, ◌+◌, min, get_or, drop, add-one, ◌-◌, ◌≤◌}
pub use Rattle.std.proofs.Common.{pow-add, rules, take, ◌++◌, length-drop, ◌/◌, ◌%◌, string_bytes, append_assoc, replicate, length-append, ◌⊎◌, cond}
pub use Rattle.std.proofs.Common.{T, ltb, take-add, eqb, set}
pub use Rattle.std.specs.Prelude.{IfNone, pos, nat_abs, nat_eq, ◌+ℤ◌, if◌then◌else◌, ℤ, FitsSigned, IfSome, negsuc, neg_ℤ, codes, int_le, int_lt}
pub use Rattle.std.specs.Prelude.{◌≤ℤ◌, ◌<ℤ◌, ◌-ℤ◌, ◌*ℤ◌, ◌==◌, not, ◌||◌, ◌&&◌, IfOk, IsTrue, ⊤, is_some, IsErr, OnOk, is_ok}
pub use Rattle.std.proofs.Math.Nat.{mul-le-mul_right, pow-succ', mul-le-mul_left, mul_assoc, mul-mod_left, mul_comm}
pub use Rattle.std.proofs.Output.{has_written_of_eq}
pub use Rattle.std.proofs.lemmas.Bool.{and_from, cases_eq, false_from_ne_true, and_left, and_parts, and_right, cases_lt, or_cases, or_right, le-leb}
pub use Rattle.std.proofs.lemmas.Bool.{ltb-true, ltb-false, or_parts, or_from}
pub use Rattle.std.proofs.lemmas.Bool.Decides.{nat_tests, Decides-eqb}
pub use Rattle.std.proofs.lemmas.Fmt.{length-decimal-le, decimal-digits_of, decimal_by_steps_wide, decimal_digit, decimal_step_wide, decimal_nonempty}
pub use Rattle.std.proofs.lemmas.Fmt.{first_decimal}
pub use Rattle.std.proofs.lemmas.Grind.{common_steps, put_two, flat_map-append, fold-append}
pub use Rattle.std.proofs.lemmas.Int.{ints, to_z-of_z, clamps}
pub use Rattle.std.proofs.lemmas.Int.Digits.{number_lt, number_digits_of, number_more, number_after_append, number_after_lt, digits_of_step}
pub use Rattle.std.proofs.lemmas.Int.Digits.{all_below_base_digits_of, first_digits_of, number_push, length-digits_of-le}
pub use Rattle.std.proofs.lemmas.List.{nil_from_length, drop_all, take_all, append-nil, drop-drop, drop-map, length-take-le, take-map, take-take}
pub use Rattle.std.proofs.lemmas.List.{length-replicate, take-replicate, length-map, map-append, take-append-drop, take_more, length-take, take_rest}
pub use Rattle.std.proofs.lemmas.List.{drop_more, ext_get_or, replicate-append-replicate, map-id, take_at, drop_at, length_push, replicate_more}
pub use Rattle.std.proofs.lemmas.List.{get_or_append_left, get_or-replicate, get_or-take, take-append-le, length-set, take_more_set}
pub use Rattle.std.proofs.lemmas.List.Elements.{recursion_from_All, All-drop, All-take, All-from_recursion}
pub use Rattle.std.proofs.lemmas.Simd.{length-zip2, zip2_splat, swz_l, SwzOk, SwzOk-from_Each1, map-map, zip2_splat_left, zip2_of_maps, mask_l-mod}
pub use Rattle.std.proofs.lemmas.Simd.{leading_from_mask_l, trailing_mask_l, get_or-chunk, length-chunk, bitmask_splat}
pub use Rattle.std.proofs.lemmas.Str.{IsAscii-drop, IsUtf8-from_ascii, IsAscii-append, IsAscii-take}
pub use Rattle.std.proofs.lemmas.Str.Ascii.{All-from_ascii, IsAscii-nil, IsAscii-cons, IsAscii-push, IsAscii-set}
pub use Rattle.std.specs.Cmp.{nat_cmp_total, tied_itself, both_ways, alike_right}
pub use Rattle.std.specs.Cmp.Lexicographic.{slice_cmp, pointwise}
pub use Rattle.std.specs.Fmt.{HasWritten, IsPlainFormatter, decimal, signed_decimal}
pub use Rattle.std.specs.Int.{FitsUnsigned, int_min}
pub use Rattle.std.specs.Int.Digits.{number_from_digits, digits_of, number_from_digits_after, AllBelowBase, digits_with_fuel}
pub use Rattle.std.specs.List.{AllByRecursion, All, range_with_len, prefix_len, fold, flat_map}
pub use Rattle.std.specs.Ordering.{is_eq, nat_cmp, int_cmp, ordering_index, ordering_then}
pub use Rattle.std.specs.Slice.Iter.{chunks_rest, chunks_size}
pub use Rattle.std.specs.Str.{IsAscii}
pub use Rattle.std.specs.declared.cmp.Ordering.{Ordering}
pub use Rattle.std.specs.declared.cmp.Ordering.TheVariants.{Less, Equal, Greater}
pub use lib.Lanes.{zip2, Each1, chunk, dots, mask_l, top, number_l, digits_l}
pub use lib.Seq.{get_or-append-add, take-append-add}
pub use mir.Syntax.{w128, w32, w64, w8, w16}
pub use mir.Val.{bits, of_z, to_z, bool_byte, zeroes}
pub use Rattle.ijson_number.specs.private.CommonFront.{EndsToken, IsExponentTail, IsFewDigits, IsFewExponent, IsFewSigned, EndsDigits, IsCommonFront}
pub use Rattle.ijson_number.specs.Decimal.{Decimal, IsPlain}
pub use Rattle.ijson_number.specs.Form.{FormOf, form_of, packed, signed_word, unsigned_word, digits, is_digits, digits_form, integer_form}
pub use Rattle.ijson_number.specs.Form.{fits_packed, fits_i64, fits_u64, smallest_packed}
pub use Rattle.ijson_number.specs.FormNumber.{form_number, integer_word}
pub use Rattle.ijson_number.specs.Grammar.{Spells, Denotes, IsSpelled, Parts, value, AllDigits, IsDigit, IsDigits, IsFraction, IsExponent, IsMinus}
pub use Rattle.ijson_number.specs.Grammar.{IsWhole, IsSigned}
pub use Rattle.ijson_number.specs.Integers.{HasValue, IsInteger, integer}
pub use Rattle.ijson_number.specs.Num.{Num, IsNum, exponent_limit, is_in_range}
pub use Rattle.ijson_number.specs.NumberFront.{BeginsNumber, HasNoPoint, IsNumberFront, IsPastLimit, IsUnread}
pub use Rattle.ijson_number.specs.Order.{number_cmp, at_exponent, number_eq}
pub use Rattle.ijson_number.specs.StoredNumber.{stored_number}
pub use Rattle.ijson_number.specs.Stripped.{stripped_number, with_ten, exponent_above}
pub use Rattle.ijson_number.specs.StrippedDigits.{stripped_digits, digits_within}
pub use Rattle.ijson_number.specs.Strips.{signed, Strips}
pub use Rattle.ijson_number.specs.Text.{num_text, digits_text, minus_text, zeros_text, shape_text, whole_text, scientific_text, point_text}
pub use Rattle.ijson_number.specs.Text.{float_text, zero_text}
pub use Rattle.ijson_number.specs.laws.Ordered.{equal_same, same_equal, tests_equal, nonneg, cmp_equal, rescale, scale_cmp, number_cmp_total}
pub use Rattle.ijson_number.specs.laws.Tens.{abs_signed, power_le, ten_pos, signed_mul, signed_zero, strips_one, int_tens, int_zero, zero_or_not}
pub use Rattle.ijson_number.specs.private.CanonicalSpelling.{spelled_digits, spelled_number, parts_of}
pub use Rattle.ijson_number.specs.private.PrefixDigits.{IsCount, IsTaken}
pub use Rattle.ijson_number.specs.private.Reading.{IsExponentSignTaken, BeginsWithNoDigit, IsWithin, exponent_of, BeginsWithNoZero, EndsWithNoZero}
pub use Rattle.ijson_number.specs.private.Reading.{IsSignTaken, IsTail}
pub use Rattle.ijson_number.specs.private.Significand.{significand_number, canonical_number, significand_of, IsFewFraction, IsFront, IsMantissa}
pub use Rattle.ijson_number.specs.private.Significand.{IsPower, IsPowerSmall, HasFewerTens, IsSmall}
pub use Rattle.ijson_number.specs.private.Stored.{stored_decimal, long_form, short_form, stored_form}
pub use Rattle.ijson_number.specs.private.StoredNumber.{IsStored}
pub use Rattle.ijson_number.specs.private.Stripped.{IsStripped, digits_from_text}
pub use Rattle.ijson_number.specs.private.StrippedNumber.{decimal_of}
pub use Rattle.ijson_number.specs.private.Word.{word_exponent, word_mantissa, word_point, word_code}
pub use Rattle.ijson_number.specs.private.WordText.{integer_text, pointed_text}
pub use Rattle.ijson_number.specs.private.ZerosInFront.{IsZerosInFront}
pub use Rattle.std.proofs.Math.Seq.{drop-cons, drop-append-add, take-append_seam, get_or-append_seam}
