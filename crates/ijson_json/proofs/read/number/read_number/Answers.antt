use Rattle.std.proofs.Common.{◌≡◌, true, false, drop, sym, ◌∙◌, arith, inl, inr}
use Rattle.ijson_json.specs.private.Reading.{Stops}
use Rattle.ijson_json.proofs.reading.Numbers.{spelled_boundary}
use Rattle.ijson_json.proofs.read.number.read_number.Goals as goal

pub split_at-requires : goal.split_at-requires
split_at-requires c =
    let read = c.in-Ok in
    spelled_boundary c.args.text.now read.length read.number.decimal c.utf8.text read.ensures.front.within read.ensures.spelled

pub returns-else-stops : goal.returns-else-stops
returns-else-stops c =
    let more : Stops (drop c.in-Ok.length c.args.text.now) → ⊥ = λ s.
    (let yes = c.stops.ensures.1 (rw c.split_at.ensures.back s) in let clash : false ≡ true = sym c.if-stops.false ∙ yes in cc) in
    let back = c.split_at.ensures.back in
    record {
      count = c.in-Ok.length;
      front = c.in-Ok.ensures.front;
      left_is = grind arith;
      stops = inr (c.in-Ok.number.decimal, c.in-Ok.ensures.spelled, c.in-Ok.number.is_num.in_range, more);
    }

pub returns-in-Err-Syntax : goal.returns-in-Err-Syntax
returns-in-Err-Syntax c =
    let e = rw c.in-Err-Syntax.field-0-is at c.in-Err-Syntax.ensures.err in
    record { count = c.in-Err-Syntax.at; front = e.0; left_is = omega arith; stops = inl e.1 }

pub returns-in-Err-OutOfRange : goal.returns-in-Err-OutOfRange
returns-in-Err-OutOfRange c =
    (omega arith, rw c.in-Err-OutOfRange.field-0-is at c.in-Err-OutOfRange.ensures.err)
