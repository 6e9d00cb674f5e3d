use Rattle.ijson_number.proofs.Common.{◌≡◌, ◌∙◌, Bool, arith, rules, sym, true, false, to_z-of_z, has_written_of_eq, FitsSigned, w32, w128, to_z}
use Rattle.ijson_number.proofs.Common.{of_z, shape_text}
use Rattle.ijson_number.proofs.writing.Writing.{float_shape, float_shape_is}
use Rattle.ijson_number.proofs.write_display.ShapeDisplay.fmt.Goals.{After-is_scientific}
use Rattle.ijson_number.proofs.write_display.ShapeDisplay.fmt.Goals as goal

-- Both branches, with and without an exponent, write the text of the shape.
shown : (g : _) (c : After-is_scientific g) (scientific : Bool) → c.is_scientific.result ≡ scientific → let s = c.args.self.now in
    let place = to_z w128 (of_z w128 c.place_of-place.result) in
    float_shape scientific s.digits.now place ≡ shape_text s.point s.digits.now s.exponent
shown g c scientific branch =
    let s = c.args.self.now in
    let r = c.place_of-place in
    let fits : FitsSigned w32 s.exponent = search rules in
    let exact : to_z w32 (of_z w32 s.exponent) ≡ s.exponent = to_z-of_z w32 s.exponent fits in
    let e = float_shape_is scientific s.point s.digits.now (to_z w32 (of_z w32 s.exponent)) (to_z w128 (of_z w128 r.result)) (grind arith)
    (to_z-of_z w128 r.result r.ensures.fits ∙ r.ensures.value) (sym c.is_scientific.ensures ∙ branch) in
    rw exact at e

pub returns-then-is_scientific-clause-writes : goal.returns-then-is_scientific-clause-writes
returns-then-is_scientific-clause-writes g c = λ p ok.
    has_written_of_eq _ _ _ _ _
    (shown g (goal.at.returns-then-is_scientific-clause-writes g c).After-is_scientific true c.if-is_scientific.true)
    (c.fmt.ensures.writes p ok)

pub returns-else-is_scientific-clause-writes : goal.returns-else-is_scientific-clause-writes
returns-else-is_scientific-clause-writes g c = λ p ok.
    has_written_of_eq _ _ _ _ _
    (shown g (goal.at.returns-else-is_scientific-clause-writes g c).After-is_scientific false c.if-is_scientific.false)
    (c.fmt-else-is_scientific.ensures.writes p ok)
