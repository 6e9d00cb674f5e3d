use Rattle.std.proofs.Common.{ℕ, List, [], rules, subst}
use Rattle.ijson_table.specs.Store.{Store}
use Rattle.ijson_value.specs.InsertsEach.{InsertsEach}
use Rattle.ijson_value.specs.WellFormed.{WellFormed}
use Rattle.ijson_value.proofs.object.map.IObject.from_iter.Goals as goal

pub returns-in-Ok : goal.returns-in-Ok
returns-in-Ok g c =
    let made : Store WellFormed = c.extend.new.self in
    let all = c.in-Ok.ensures.added in
    let inserted : InsertsEach [] 0 all.0 made.pairs made.capacity =
    subst (λ (s : List (List ℕ × WellFormed) × ℕ). InsertsEach s.0 s.1 all.0 made.pairs made.capacity)
    (λ i. (c.new-object.ensures.pairs i, c.new-object.ensures.capacity i)) all.1 in
    (all.0, (search rules, all.2))

-- If an insertion fails, the object built so far is the object that could not grow.
pub returns-in-Err : goal.returns-in-Err
returns-in-Err g c =
    let made : Store WellFormed = c.extend.new.self in
    let refused = c.in-Err.ensures.added in (
      refused.0,
      (
        made,
        subst (λ (s : List (List ℕ × WellFormed) × ℕ). InsertsEach s.0 s.1 refused.0 made.pairs made.capacity)
            (λ i. (c.new-object.ensures.pairs i, c.new-object.ensures.capacity i)) refused.1,
        refused.2.0,
        refused.2.1,
      ),
    )
