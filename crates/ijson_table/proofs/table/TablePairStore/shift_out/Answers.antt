use Rattle.std.proofs.Common.{◌≡◌, ◌<◌, length, map, arith, ap, sym, ◌∙◌, subst}
use Rattle.std.specs.List.{remove}
use Rattle.ijson_table.proofs.pairs.Shown.{count_shown, pairs_shown}
use Rattle.ijson_table.proofs.pairs.PairsByKey.{slice_get-seen}
use Rattle.ijson_table.specs.Crowd.{slot_count}
use Rattle.ijson_table.specs.Store.{keys_of, shift_out, IsDistinct}
use Rattle.ijson_table.specs.private.Insertion.{IsTableOf}
use Rattle.ijson_table.proofs.shifting.ListShiftOut.{distinct_shifted, keys-shift_out, map-remove}
use Rattle.ijson_table.proofs.table.TablePairStore.shift_out.Goals as goal

pub invariant_of-self-inside : goal.invariant_of-self-inside
invariant_of-self-inside g c =
    let old = c.self.inside.pairs.items in
    let size : length old ≡ length c.args.self.now.store.pairs = count_shown c.self.view_is in
    let li : c.args.index < length old = omega (arith, size, c.requires) in
    (subst (λ ps. IsDistinct (keys_of ps)) (sym c.remove.ensures.items) (distinct_shifted old c.args.index c.self.inside.distinct li), tt)

pub invariant_of-self : goal.invariant_of-self
invariant_of-self g c =
    let hash = g.H.KeyHash.hash_of in
    let old = c.self.inside.pairs.items in
    let left : map hash (keys_of (shift_out old c.args.index)) ≡ remove (map hash (keys_of old)) c.args.index =
    ap (map hash) (keys-shift_out old c.args.index) ∙ map-remove hash (keys_of old) c.args.index in
    record {
      room = record {
        within = omega (
          arith,
          c.remove.ensures.len,
          c.remove.new.self.ok.0,
          c.self.inside.pairs.ok.0,
          c.self.invariant.room.within,
          c.remove.ensures.capacity,
        );
        limited = omega (arith, c.self.invariant.room.limited, c.remove.ensures.capacity);
      };
      table = subst (λ hs. IsTableOf hs c.shift_remove.new.self)
          (ap (λ ps. remove (map hash (keys_of ps)) c.args.index) c.deref.ensures.value ∙ (sym left
          ∙ ap (λ ps. map hash (keys_of ps)) (sym c.remove.ensures.items)))
          c.shift_remove.ensures.table;
      size = c.shift_remove.ensures.count ∙ c.self.invariant.size ∙ ap slot_count (sym c.remove.ensures.capacity);
    }

pub returns-clause-pair : goal.returns-clause-pair
returns-clause-pair g c =
    slice_get-seen c.self.inside.pairs.items c.args.self.now.store.pairs c.args.index c.remove.result
    (pairs_shown c.self.view_is) c.requires c.remove.ensures.value
