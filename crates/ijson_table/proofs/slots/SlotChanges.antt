-- Writing a slot adds at most one change to the changes from the old slots.
use Rattle.std.proofs.Common.{◌≡◌, ℕ, zero, suc, ◌+◌, ◌≤◌, arith, List, [], ◌∷◌, set, Option, Some, None, cond, true, false, eqb, refl}
use Rattle.std.specs.Option.{option_eq}
use Rattle.std.proofs.lemmas.Bool.Decides.{nat_tests}
use Rattle.ijson_table.specs.private.Changes.{changes}

-- `option_eq` is true for a resident and itself.
same-option : (o : Option ℕ) → option_eq eqb o o ≡ true
same-option None = refl
same-option (Some i) = grind (arith, nat_tests)

-- A list of slots does not differ from itself at any slot.
pub changes-none : (slots : List (Option ℕ)) → changes slots slots ≡ 0
changes-none [] = refl
changes-none (o ∷ slots) = grind (arith, same-option o, changes-none slots)

-- Each slot counts as at most one change.
one : (o n : Option ℕ) → cond (option_eq eqb o n) 0 1 ≤ 1
one o n = elim (option_eq eqb o n) as (λ b. cond b 0 1 ≤ 1) [ true ↦ omega arith | false ↦ omega arith ]

-- Writing a slot adds at most one change.
pub changes-set : (old slots : List (Option ℕ)) (p : ℕ) (o : Option ℕ) → changes old (set slots p o) ≤ changes old slots + 1
changes-set [] slots p o = omega arith
changes-set (x ∷ old) [] p o = omega arith
changes-set (x ∷ old) (y ∷ slots) zero o = omega (arith, one x o)
changes-set (x ∷ old) (y ∷ slots) (suc p) o = omega (arith, changes-set old slots p o)
