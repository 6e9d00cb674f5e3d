use Rattle.ijson.proofs.test_lemmas.Kept.{second_there, second_written}
use Rattle.ijson.proofs.tests.object.callers.put_two.Goals as goal

pub unwrap-requires : goal.unwrap-requires
unwrap-requires c =
    second_there c.args.first.now c.args.second.now _ _ _ _ c.put_false-2.new.object c.requires.empty c.requires.apart
    c.in_ok-put_false.ensures c.in_ok-put_false-2.ensures c.get_mut.result c.get_mut.ensures.value

pub returns : goal.returns
returns c =
    second_written c.args.first.now c.args.second.now _ _ _ _ c.put_false-2.new.object c.requires.empty c.requires.apart
    c.in_ok-put_false.ensures c.in_ok-put_false-2.ensures _
