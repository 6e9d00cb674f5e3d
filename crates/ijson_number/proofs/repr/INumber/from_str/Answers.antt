use Rattle.ijson_number.proofs.Common.{arith}
use Rattle.ijson_number.proofs.parsing.NumberFronts.{cut_refused, memory_refused, part_refused, range_refused}
use Rattle.ijson_number.proofs.repr.INumber.from_str.Goals as goal

pub returns-else-length-text-clause-err : goal.returns-else-length-text-clause-err
returns-else-length-text-clause-err c =
    part_refused c.args.text.now c.in-Ok.length c.in-Ok.ensures.front (λ e. let f = c.if-length-text.false in omega (arith, e))

pub returns-then-not-is_spelling-clause-err : goal.returns-then-not-is_spelling-clause-err
returns-then-not-is_spelling-clause-err c = λ n s num.
    let yes = c.is_spelling.ensures.1 (n, rw c.as_bytes.ensures.value s) in
    let no = c.if-not-is_spelling.true in
    grind (arith, yes, no)

pub returns-in-Memory-clause-err : goal.returns-in-Memory-clause-err
returns-in-Memory-clause-err c =
    memory_refused c.args.text.now (rw c.in-Memory.is at c.in-Err.ensures.err)
    (rw c.as_bytes.ensures.value at (c.is_spelling.ensures.0 (let no = c.if-not-is_spelling.false in grind (arith, no))))

pub returns-in-OutOfRange-clause-err : goal.returns-in-OutOfRange-clause-err
returns-in-OutOfRange-clause-err c = range_refused c.args.text.now (rw c.in-OutOfRange.is at c.in-Err.ensures.err)

pub returns-in-Syntax-clause-err : goal.returns-in-Syntax-clause-err
returns-in-Syntax-clause-err c =
    cut_refused c.args.text.now c.in-Syntax.at (rw c.in-Syntax.is at c.in-Err.ensures.err)
