use Rattle.std.proofs.Common.{◌≡◌, [], ◌∷◌, ◌++◌, length, arith, sym, ◌∙◌, subst, length-append}
use Rattle.std.proofs.lemmas.Iterator.Adapters.{YieldsList-from_vec}
use Rattle.std.proofs.lemmas.Iterator.Consumers.{YieldsList-end}
use Rattle.ijson_table.specs.Steps.{Run}
use Rattle.ijson_table.proofs.pairs.RunSteps.{Run-more, map-same}
use Rattle.ijson_table.proofs.commands.run.Goals as goal

pub loop-command-preserved : goal.loop-command-preserved
loop-command-preserved g c =
    let pairs = g.P.PairStore.pairs in
    let room = g.P.PairStore.room in
    let i = c.loop-command.invariant in
    let pushed : c.push_reserved.new.self.items ≡ c.loop-command.replies.items ++ c.step-reply.result ∷ [] =
    c.push_reserved.ensures.items in
    let more = Run-more (pairs c.args.store.now) (room c.args.store.now) c.loop-command.yielded c.loop-command.replies.items
    (pairs c.loop-command.store) (room c.loop-command.store) c.in-Some.command c.step-reply.result (pairs c.step-reply.new.store)
    (room c.step-reply.new.store) i.2 c.step-reply.ensures in
    let counted : length (c.loop-command.yielded ++ c.in-Some.command ∷ []) ≡ c.push_reserved.new.self.len =
    omega (arith, length-append c.loop-command.yielded (c.in-Some.command ∷ []), c.push_reserved.ensures.len, i.3) in (
      tt,
      tt,
      subst (λ rs. Run (pairs c.args.store.now) (room c.args.store.now) (c.loop-command.yielded ++ c.in-Some.command ∷ []) rs
          (pairs c.step-reply.new.store) (room c.step-reply.new.store)) (sym pushed) more,
      counted,
      omega
          (arith, i.4, c.push_reserved.ensures.capacity),
    )

pub returns-clause-run : goal.returns-clause-run
returns-clause-run g c =
    let pairs = g.P.PairStore.pairs in
    let room = g.P.PairStore.room in
    let i = c.loop-command.invariant in
    let gives = c.into_iter-command-iterator.ensures.into_iter_gives in
    let t = YieldsList-end (YieldsList-from_vec c.args.commands.items gives.0
    (gives.1 ∙ c.args.commands.ok.0)) c.loop-command.yielded c.loop-command.command-iterator c.loop-command.yielded_by c.next.result
    c.next.new.self c.in-None.is c.next.ensures.steps in
    let all : c.loop-command.yielded ≡ c.args.commands.items = sym (map-same c.loop-command.yielded) ∙ t.0 in
    subst (λ xs. Run (pairs c.args.store.now) (room c.args.store.now) xs c.loop-command.replies.items (pairs c.loop-command.store)
    (room c.loop-command.store)) all i.2
