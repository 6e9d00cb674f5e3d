use Rattle.ijson_number.proofs.Common.{◌≡◌, ◌∙◌, ℕ, rules, to_z-of_z, map-id, w32}
use Rattle.std.proofs.lemmas.Slice.Zip.{AllZip-map}
use Rattle.ijson_number.proofs.number.LongNumberClone.clone.Goals.{In_ok-digits}
use Rattle.ijson_number.proofs.number.LongNumberClone.clone.Goals as goal

-- The clone has the same digits as the original.
same_digits : (c : In_ok-digits) → c.in_ok-digits.digits.items ≡ c.args.self.now.digits.items
same_digits c = AllZip-map {A = ℕ} {B = ℕ} (λ x. x) _ _ c.in_ok-digits.ensures.cases.0 ∙ map-id c.args.self.now.digits.items

pub invariant_of-result : goal.invariant_of-result
invariant_of-result c =
    let n = c.args.self.now in
    let same = same_digits (goal.at.invariant_of-result c).In_ok-digits in
    record { stripped = rw same (search rules); many = rw (same, to_z-of_z w32 n.exponent (search rules)) n.many }

pub returns : goal.returns
returns c =
    let n = c.args.self.now in
    record { cases = rw (same_digits (goal.at.returns c).In_ok-digits, to_z-of_z w32 n.exponent (search rules)) (cc) }
