-- Comparisons of integers return `true` exactly if the compared relation holds.
use Rattle.ijson_number.proofs.Common.{◌≡◌, ◌≢◌, ℕ, ◌<◌, true, false, ap, arith, ℤ, pos, negsuc, nat_abs, nat_eq, int_le, int_lt, ◌≤ℤ◌, ◌<ℤ◌, ints}

pub test_le : (a b : ℤ) → int_le a b ≡ true → a ≤ℤ b
test_le a b h = grind (arith, ints)

pub test_below : (a b : ℤ) → int_lt a b ≡ true → a <ℤ b
test_below a b h = grind (arith, ints)

pub test_not_le : (a b : ℤ) → int_le a b ≡ false → b <ℤ a
test_not_le a b h = grind (arith, ints)

pub le_test : (a b : ℤ) → a ≤ℤ b → int_le a b ≡ true
le_test a b h = grind (arith, ints)

pub test_zero : (v : ℕ) → nat_eq v 0 ≡ true → v ≡ 0
test_zero v h = grind arith

pub test_not_zero : (v : ℕ) → nat_eq v 0 ≡ false → 0 < v
test_not_zero v h = grind arith

pub not_zero : (v : ℕ) → v ≢ 0 → nat_eq v 0 ≡ false
not_zero v h = let some : 0 < v = omega arith in grind arith

pub abs_zero : (m : ℤ) → nat_abs m ≡ 0 → m ≡ pos 0
abs_zero (pos m) h = ap pos h
abs_zero (negsuc m) h = absurd (cc)

pub not_le : (a b : ℤ) → b <ℤ a → int_le a b ≡ false
not_le a b h = grind (arith, ints)

pub not_lt : (a b : ℤ) → b ≤ℤ a → int_lt a b ≡ false
not_lt a b h = grind (arith, ints)
