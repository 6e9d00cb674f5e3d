use Rattle.std.proofs.Common.{◌≡◌, ◌++◌, ◌∙◌, [], map, subst, rules}
use Rattle.std.specs.Prelude.{IfOk}
use Rattle.ijson_table.specs.Store.{keys_of, put_each}
use Rattle.ijson_extra.specs.private.Joined.{all_changed, shown, unchanged}
use Rattle.ijson_extra.proofs.patching.Joined.{joined-shown}
use Rattle.ijson_extra.proofs.merge_patch.joined_keys.Goals as goal

pub returns : goal.returns
returns c =
    let pairs = c.args.object.now.pairs in
    let changes = c.args.changes.now.pairs in
    let listed : map shown c.push_changed.new.keys.items ≡ unchanged (keys_of pairs) ++ all_changed changes = search rules in
    let held : c.in_ok-table.table.store.pairs ≡ put_each [] c.push_changed.new.keys.items =
    subst (λ made. IfOk made (λ table. table.store.pairs ≡ put_each [] c.push_changed.new.keys.items)) c.in_ok-table.ensures
    c.from_pairs.ensures.pairs in
    joined-shown c.into_pairs.result.items c.push_changed.new.keys.items pairs changes c.args.object.now.distinct
    (c.into_pairs.ensures ∙ held) listed
