use Rattle.ijson_number.proofs.Common.{inl, inr, ◌≡◌, ◌<◌, false, ◌∙◌, ap, ap₂, sym, length, arith, rules, ℤ, FitsSigned, pos, ◌≤ℤ◌, ◌+ℤ◌, ◌||◌}
use Rattle.ijson_number.proofs.Common.{int_le, int_lt, negsuc, ints, to_z-of_z, common_steps, w32, w128}
use Rattle.ijson_number.proofs.writing.WordTexts.{below_one_shown}
use Rattle.ijson_number.proofs.repr.stored.StrippedNumber.push_unsplit.Goals as goal

not_above : (p x : ℤ) → x ≡ p → int_lt (pos 0) x ≡ false → p ≤ℤ pos 0
not_above p x same test = grind (arith, ints)

pub returns-clause-pushed : goal.returns-clause-pushed
returns-clause-pushed c =
    let n = c.args.self.now in
    let ds = n.digits.now in
    let fits : FitsSigned w32 n.exponent = search rules in
    let exact = to_z-of_z w32 n.exponent fits in
    let p = c.place_of-place in
    let place = to_z-of_z w128 p.result p.ensures.fits in
    let is : p.result ≡ pos (length ds) +ℤ n.exponent = p.ensures.value ∙ ap (λ e. pos (length ds) +ℤ e) exact in
    let pointed : int_le p.result (negsuc 5) || int_lt (pos 20) n.exponent ≡ false =
    ap₂ (λ p e. int_le p (negsuc 5) || int_lt (pos 20) e) (sym place) (sym exact) ∙ sym c.is_scientific.ensures ∙ grind arith in
    let some : 0 < length ds = grind arith in
    let text = below_one_shown n p.result c.requires.point some is (not_above p.result _ place c.if-place-gt0.false) pointed in
    rw (c.unsigned_abs.ensures.value, place, text) at c.push_fraction.ensures

pub returns-then-place-gt0-clause-rows : goal.returns-then-place-gt0-clause-rows
returns-then-place-gt0-clause-rows c rows = elim rows [
  | inl below ↦ (let a = below.below_zero in let b = below.before_all in grind (arith, common_steps))
  | inr power ↦ (let a = power.exponent in search rules)
]

pub returns-then-count-lt2-clause-rows : goal.returns-then-count-lt2-clause-rows
returns-then-count-lt2-clause-rows c rows = elim rows [
  | inl below ↦ (let a = below.below_zero in let b = below.before_all in grind (arith, common_steps))
  | inr power ↦ (let a = power.some in search rules)
]
