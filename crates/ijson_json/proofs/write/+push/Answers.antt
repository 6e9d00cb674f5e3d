use Rattle.std.proofs.Common.{true, ◌≡◌, ◌∙◌, ◌++◌, arith, ap, sym, string_bytes}
use Rattle.ijson_value.specs.WellFormed.{pair_trees}
use Rattle.ijson_value.specs.Tree.{members_depth}
use Rattle.ijson_value.proofs.DepthLemmas.{item-items_depth}
use Rattle.ijson_json.specs.Print.{print}
use Rattle.ijson_json.proofs.writing.Joined.{joined, member_texts, joined-items, joined-members}
use Rattle.ijson_json.proofs.write.+push.Goals as goal

pub push_items-loop-item-init : goal.push_items-loop-item-init
push_items-loop-item-init t c = ap (λ l. string_bytes c.args.out.now ++ l) (sym (joined-items c.args.items.now))

pub push_items-push_value-requires : goal.push_items-push_value-requires
push_items-push_value-requires t c =
    let below = item-items_depth c.args.items.now c.loop-item.item-index c.item-item.result c.loop-item-test.true c.item-item.is in
    (omega (arith, below, c.decreases), tt)

pub push_members-loop-key-init : goal.push_members-loop-key-init
push_members-loop-key-init t c =
    let all = c.into_iter-key-iterator.ensures.into_iter_gives ∙ c.iter-key-items.ensures in
    let same : members_depth (pair_trees c.into_iter-key-iterator.result) ≡ members_depth (pair_trees c.args.object.now.pairs) =
    ap (λ ps. members_depth (pair_trees ps)) all in
    record {
      below = omega (arith, same);
      written = ap (λ l. string_bytes c.args.out.now ++ l)
          (sym (ap (λ ps. joined true (member_texts print ps)) all ∙ joined-members c.args.object.now.pairs));
    }
