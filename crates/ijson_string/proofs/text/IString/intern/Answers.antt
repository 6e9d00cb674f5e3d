use Rattle.std.proofs.Common.{◌∙◌, sym, arith}
use Rattle.std.proofs.lemmas.Grind.{common_steps}
use Rattle.std.proofs.lemmas.Result.{on_ok_weaker}
use Rattle.ijson_string.specs.laws.Texts.{texts_same}
use Rattle.ijson_string.proofs.Interning.{interned_long, interned_short}
use Rattle.ijson_string.proofs.text.IString.intern.Goals as goal

pub returns-then-text-gt7-clause-cache : goal.returns-then-text-gt7-clause-cache
returns-then-text-gt7-clause-cache g c =
    on_ok_weaker c.share.result
    (λ added. texts_same _ _ (added ∙ sym (interned_long c.args.text.now c.args.cache.now c.if-text-gt7.true)))
    c.share.ensures.added

pub returns-clause-cache : goal.returns-clause-cache
returns-clause-cache g c = texts_same _ _ (sym (interned_short c.args.text.now c.args.cache.now c.if-text-gt7.false))

pub returns-clause-text : goal.returns-clause-text
returns-clause-text g c = grind (arith, common_steps)
