use Rattle.std.proofs.Common.{[], ◌∷◌, ap, subst, ◌∙◌}
use Rattle.std.proofs.lemmas.Result.{on_ok_weaker}
use Rattle.ijson_number.proofs.AnyAnswer.{where_refused}
use Rattle.ijson_table.specs.Store.{put}
use Rattle.ijson_convert.specs.Interned.{all_interned, SomeInterned}
use Rattle.ijson_convert.specs.TextsOf.{texts_of}
use Rattle.ijson_convert.proofs.Interning.{some_behind, wholly_interned}
use Rattle.ijson.proofs.literal.insert_of.Goals as goal

pub returns-clause-pairs : goal.returns-clause-pairs
returns-clause-pairs g c =
    let value = c.in_ok-value.value in
    let old = c.args.object.now.pairs in
    on_ok_weaker c.insert.result
    (λ e. (value, c.in_ok-value.ensures.tree, e ∙ ap (λ k. put old k value) c.in_ok-key.ensures.text))
    c.insert.ensures.pairs

pub returns-in_err-value-clause-beginning : goal.returns-in_err-value-clause-beginning
returns-in_err-value-clause-beginning g c =
    let texts = texts_of (g.T.ToIValue.tree c.args.x.now) in
    let behind = subst (λ m. SomeInterned texts m c.to_value.new.cache) c.in_ok-key.ensures.cache c.in_err-value.ensures.refused.1 in
    where_refused c.from_residual-in_err-value.result
    (some_behind (c.args.key.now ∷ []) texts c.args.cache.now c.to_value.new.cache behind)

pub returns-clause-beginning : goal.returns-clause-beginning
returns-clause-beginning g c =
    let texts = texts_of (g.T.ToIValue.tree c.args.x.now) in
    let all = c.in_ok-value.ensures.cache ∙ ap (all_interned texts) c.in_ok-key.ensures.cache in
    where_refused c.insert.result (wholly_interned (c.args.key.now ∷ texts) c.args.cache.now c.to_value.new.cache all)
