-- Examples of the word that stores a packed number. No clause of a public function states these
-- bits.
use Rattle.std.specs.Prelude.{◌≡◌, ℕ, ℤ, pos, negsuc, Bool, true, false, refl, List, [], ◌∷◌, map}
use Rattle.ijson_number.specs.private.Word.{word_mantissa, word_exponent, word_point}

parts : ℕ → ℤ × (ℤ × Bool)
parts bits = (word_mantissa bits, (word_exponent bits, word_point bits))

-- The word 248 stores 0.
zero : parts 248 ≡ (pos 0, (pos 0, false))
unfolding parts
zero = refl

-- The word 504 stores 1.
one : parts 504 ≡ (pos 1, (pos 0, false))
unfolding parts
one = refl

-- The word 18446744073709551608 stores -1.
minus_one : parts 18446744073709551608 ≡ (negsuc 0, (pos 0, false))
unfolding parts
minus_one = refl

-- The word 120 stores 0.0.
zero_point : parts 120 ≡ (pos 0, (pos 0, true))
unfolding parts
zero_point = refl

-- The word 632 stores 2.0.
two_point : parts 632 ≡ (pos 2, (pos 0, true))
unfolding parts
two_point = refl

-- The word 1384 stores 0.5.
half : parts 1384 ≡ (pos 5, (negsuc 0, true))
unfolding parts
half = refl

-- The word 25720 stores 100.0.
hundred_point : parts 25720 ≡ (pos 100, (pos 0, true))
unfolding parts
hundred_point = refl

-- The word 162664 stores 63.5.
sixty_three_and_a_half : parts 162664 ≡ (pos 635, (negsuc 0, true))
unfolding parts
sixty_three_and_a_half = refl

-- The word 9223372036854775800 stores 36028797018963967, the maximum mantissa.
greatest : parts 9223372036854775800 ≡ (pos 36028797018963967, (pos 0, false))
unfolding parts
greatest = refl

-- The word 9223372036854776056 stores -36028797018963968, the minimum mantissa.
least : parts 9223372036854776056 ≡ (negsuc 36028797018963967, (pos 0, false))
unfolding parts
least = refl

-- The word 2560000000000000184 stores 1e20.
ten_to_20 : parts 2560000000000000184 ≡ (pos 10000000000000000, (pos 4, true))
unfolding parts
ten_to_20 = refl

-- The word 2560000000000000232 stores 1e23, as the mantissa 10^16 and the maximum exponent, 7.
ten_to_23 : parts 2560000000000000232 ≡ (pos 10000000000000000, (pos 7, true))
unfolding parts
ten_to_23 = refl

-- The word 9223372036854775928 stores -36028797018963968.0, which has a decimal point.
least_point : parts 9223372036854775928 ≡ (negsuc 36028797018963967, (pos 0, true))
unfolding parts
least_point = refl

-- The word 264 stores 0.0000001, as the mantissa 1 and the minimum exponent, -7.
ten_to_minus_7 : parts 264 ≡ (pos 1, (negsuc 6, true))
unfolding parts
ten_to_minus_7 = refl

-- The word 9223372036854775688 stores 360287970189639670.0.
greatest_tens : parts 9223372036854775688 ≡ (pos 36028797018963967, (pos 1, true))
unfolding parts
greatest_tens = refl
