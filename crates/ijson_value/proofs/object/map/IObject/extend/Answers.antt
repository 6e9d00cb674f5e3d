use Rattle.std.proofs.Common.{◌≡◌, ℕ, List, rules, sym, ap, subst, ◌∙◌, length, Some}
use Rattle.ijson_table.specs.Growth.{Ungrown}
use Rattle.ijson_table.specs.Store.{Store, lookup, put_each}
use Rattle.ijson_value.specs.InsertsEach.{InsertsEach}
use Rattle.ijson_value.specs.WellFormed.{WellFormed}
use Rattle.ijson_value.proofs.pairs.Entries.{refused_capacity}
use Rattle.ijson_value.proofs.pairs.Inserted.{one_more}
use Rattle.ijson_value.proofs.pairs.PutInTurn.{put_in_turn}
use Rattle.ijson_value.proofs.object.map.IObject.extend.Goals as goal

pub loop-key-preserved : goal.loop-key-preserved
loop-key-preserved g c =
    let old : Store WellFormed = c.args.self.now in let mid : Store WellFormed = c.loop-key.self in
    let new : Store WellFormed = c.insert.new.self in (
      search rules,
      search rules,
      one_more old.pairs old.capacity c.loop-key.yielded mid.pairs mid.capacity (c.in-Some.key, c.in-Some.value) c.in-Ok.old new.pairs
          new.capacity c.loop-key.invariant.2 c.in-Ok.ensures.inserts,
    )

pub returns-in-Err-clause-added : goal.returns-in-Err-clause-added
returns-in-Err-clause-added g c =
    let old : Store WellFormed = c.args.self.now in let mid : Store WellFormed = c.loop-key.self in
    let new : Store WellFormed = c.insert.new.self in
    let why = c.in-Err.refused.why in
    let missing = c.in-Err.ensures.inserts.0 in let key = c.in-Err.ensures.inserts.1 in let value = c.in-Err.ensures.inserts.2 in
    let same : new.pairs ≡ mid.pairs = c.in-Err.ensures.inserts.3 in
    let room : new.capacity ≡ mid.capacity =
    refused_capacity (length mid.pairs) mid.capacity 1 new.capacity why c.in-Err.ensures.inserts.4 in (
      c.loop-key.yielded,
      subst (λ (s : List (List ℕ × WellFormed) × ℕ). InsertsEach old.pairs old.capacity c.loop-key.yielded s.0 s.1)
          (λ i. (sym same i, sym room i)) c.loop-key.invariant.2,
      (
        (
          _,
          c.next.new.self,
          c.into_iter-key-iterator.ensures.into_iter_gives,
          (
            c.loop-key.key-iterator,
            c.loop-key.yielded_by,
            subst (λ (pair : List ℕ × WellFormed). g.I.IntoIter.Iterator.next_gives c.loop-key.key-iterator (Some pair) c.next.new.self)
                (λ i. (sym key i, sym value i)) c.in-Some.ensures.steps,
          ),
        ),
        (
          (λ i. lookup (key i) (same i)) ∙ missing,
          subst (λ (s : List (List ℕ × WellFormed) × ℕ). Ungrown (length s.0) s.1 1 why s.1) (λ i. (sym same i, sym room i))
              (subst (λ n. Ungrown (length mid.pairs) mid.capacity 1 why n) room c.in-Err.ensures.inserts.4),
        ),
      ),
    )

pub returns-clause-added : goal.returns-clause-added
returns-clause-added g c = search rules

pub returns-clause-list : goal.returns-clause-list
returns-clause-list g c = λ all gives.
    let old : Store WellFormed = c.args.self.now in
    let all_added = returns-clause-added g c in
    let added : List (List ℕ × WellFormed) = all_added.0 in
    put_in_turn old.pairs old.capacity added c.loop-key.self.pairs c.loop-key.self.capacity all_added.1
    ∙ ap (put_each old.pairs) (gives added all_added.2)
