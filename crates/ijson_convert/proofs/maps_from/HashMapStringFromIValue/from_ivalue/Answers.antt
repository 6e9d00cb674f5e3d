use Rattle.std.proofs.Common.{◌≡◌, ap, sym, ◌∙◌, rules}
use Rattle.std.proofs.Math.Logic.{⊎_map}
use Rattle.std.specs.Prelude.{false, is_err}
use Rattle.ijson_value.specs.Opened.{ref_value}
use Rattle.ijson_value.specs.Values.{object_tree}
use Rattle.ijson_convert.proofs.Refusals.{passed_on}
use Rattle.ijson_convert.proofs.reading.HashRead.{put_all, put_same}
use Rattle.ijson_convert.proofs.reading.MembersRead.{none_so_far, new_key, one_read, one_refused, all_read}
use Rattle.ijson_convert.proofs.maps_from.HashMapStringFromIValue.from_ivalue.Goals as goal

pub loop-key-init : goal.loop-key-init
loop-key-init g c =
    none_so_far (ap (λ v. v.tree) (sym c.destructure_ref.ensures ∙ ap ref_value c.in-Object.is)
    ∙ ap object_tree (sym (c.into_iter-key-iterator.ensures.into_iter_gives ∙ c.iter-key-items.ensures))) c.in_ok-map.ensures.empty

pub loop-key-preserved : goal.loop-key-preserved
loop-key-preserved g c =
    let so_far = c.loop-key.invariant in
    let steps = c.in-Some.ensures.steps in
    let key = c.in_ok-key.key in
    let x = c.in_ok-x.x in
    let stored : is_err c.insert.result ≡ false = search rules in
    one_read so_far steps
    (put_same g.T.FromIValue.tree c.loop-key.map c.insert.new.self so_far.done key c.in-Some.key.now x c.in-Some.item.now c.in_ok-key.ensures
    (new_key so_far steps) so_far.same c.in_ok-x.ensures.same c.insert.result stored
    c.insert.ensures.old c.insert.ensures.entries)
    c.in_ok-x.ensures.read
    (put_all g.T.FromIValue.null_is_none c.loop-key.map c.insert.new.self key x c.insert.result stored c.insert.ensures.entries so_far.none
    c.in_ok-x.ensures.none)

pub returns-in_err-x-clause-refused : goal.returns-in_err-x-clause-refused
returns-in_err-x-clause-refused g c =
    passed_on _ _ c.from_residual-in_err-x.ensures.1
    (⊎_map (λ memory. memory) (one_refused c.loop-key.invariant c.in-Some.ensures.steps) c.in_err-x.ensures.refused)

pub returns-clause-same : goal.returns-clause-same
returns-clause-same g c = (all_read c.loop-key.invariant c.in-None.ensures.steps.0).0

pub returns-clause-read : goal.returns-clause-read
returns-clause-read g c = (all_read c.loop-key.invariant c.in-None.ensures.steps.0).1
