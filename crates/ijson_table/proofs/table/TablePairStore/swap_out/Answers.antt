use Rattle.std.proofs.Common.{◌≡◌, ◌<◌, length, map, arith, ap, sym, ◌∙◌, subst}
use Rattle.std.specs.List.{swap_remove}
use Rattle.ijson_table.specs.Crowd.{slot_count}
use Rattle.ijson_table.specs.Store.{keys_of, swap_out, IsDistinct}
use Rattle.ijson_table.specs.Placed.{Placed}
use Rattle.ijson_table.specs.private.Insertion.{IsTableOf}
use Rattle.ijson_table.proofs.pairs.Shown.{count_shown, pairs_shown}
use Rattle.ijson_table.proofs.pairs.PairsByKey.{distinct_swapped, keys-length, length-swap_out, slice_get-seen, swap_out-is}
use Rattle.ijson_table.proofs.probing.KeyHashes.{hashes-swap_out}
use Rattle.ijson_table.proofs.table.TablePairStore.swap_out.Goals as goal

pub invariant_of-self-inside : goal.invariant_of-self-inside
invariant_of-self-inside g c =
    let old = c.self.inside.pairs.items in
    let viewed : old ≡ c.args.self.now.store.pairs = pairs_shown c.self.view_is in
    let li : c.args.index < length old = omega (arith, ap length viewed, c.requires) in
    let now : c.swap_remove-2.new.self.items ≡ swap_out old c.args.index =
    c.swap_remove-2.ensures.items ∙ swap_out-is old c.args.index c.swap_remove-2.result li in
    (subst (λ ps. IsDistinct (keys_of ps)) (sym now) (distinct_swapped old c.args.index c.self.inside.distinct li), tt)

-- `index` is below the length.
within : (g : _) (c : goal.After-self-1 g) → c.args.index < length c.self.inside.pairs.items
within g c = omega (arith, count_shown c.self.view_is, c.requires)

-- The remaining pairs are the result of `swap_out`.
left : (g : _) (c : goal.After-self-1 g) → c.swap_remove-2.new.self.items ≡ swap_out c.self.inside.pairs.items c.args.index
left g c = c.swap_remove-2.ensures.items ∙ swap_out-is c.self.inside.pairs.items c.args.index c.swap_remove-2.result (within g c)

pub invariant_of-self : goal.invariant_of-self
invariant_of-self g c =
    let hash = g.H.KeyHash.hash_of in
    let old = c.self.inside.pairs.items in
    record {
      room = record {
        within = omega (
          arith,
          ap length (left g c),
          length-swap_out old c.args.index (within g c),
          keys-length (swap_out old c.args.index),
          c.self.invariant.room.within,
        );
        limited = omega (arith, c.self.invariant.room.limited, c.swap_remove-2.ensures.capacity);
      };
      table = subst (λ hs. IsTableOf hs c.swap_remove.new.self)
          (ap (λ ps. swap_remove (map hash (keys_of ps)) c.args.index 0) c.deref.ensures.value
          ∙ (sym (hashes-swap_out hash old c.args.index (within g c)) ∙ ap (λ ps. map hash (keys_of ps)) (sym (left g c))))
          c.swap_remove.ensures.table;
      size = c.swap_remove.ensures.count ∙ c.self.invariant.size ∙ ap slot_count (sym c.swap_remove-2.ensures.capacity);
    }

pub returns-clause-pair : goal.returns-clause-pair
returns-clause-pair g c =
    slice_get-seen c.self.inside.pairs.items c.args.self.now.store.pairs c.args.index c.swap_remove-2.result
    (pairs_shown c.self.view_is) c.requires c.swap_remove-2.ensures.value

pub returns-clause-pairs : goal.returns-clause-pairs
returns-clause-pairs g c = left g c
    ∙ ap (λ (s : Placed g.row.V.Denot). swap_out s.store.pairs c.args.index) c.self.view_is
