use Rattle.std.proofs.Common.{◌≡◌, ◌<◌, length, arith, ap, subst, sym, ◌∙◌, refl}
use Rattle.std.proofs.lemmas.List.{length-set}
use Rattle.ijson_table.specs.Store.{with_value}
use Rattle.ijson_table.specs.Placed.{Placed}
use Rattle.ijson_table.specs.private.Insertion.{IsTableOf}
use Rattle.ijson_table.proofs.pairs.Shown.{pairs_shown, room_shown}
use Rattle.ijson_table.proofs.pairs.PairsByKey.{set-value, distinct_set, slice_get-seen}
use Rattle.ijson_table.proofs.probing.KeyHashes.{hashes-set}
use Rattle.ijson_table.proofs.pairs.SameStores.{placed_path}
use Rattle.ijson_table.proofs.table.TablePairStore.pair_mut.Goals as goal

pub invariant_of-self-inside-lent : goal.invariant_of-self-inside-lent
invariant_of-self-inside-lent g c = λ w.
    let old = c.self.inside.pairs.items in
    let viewed : old ≡ c.args.self.now.store.pairs = pairs_shown c.self.view_is in
    let li : c.args.index < length old = omega (arith, ap length viewed, c.requires) in
    (distinct_set old c.args.index c.index_mut-pair.result.now w li c.index_mut-pair.ensures.value c.self.inside.distinct, tt)

pub invariant_of-self-lent : goal.invariant_of-self-lent
invariant_of-self-lent g c = λ w.
    let old = c.self.inside.pairs.items in
    let pair = c.index_mut-pair.result.now in
    let viewed : old ≡ c.args.self.now.store.pairs = pairs_shown c.self.view_is in
    let li : c.args.index < length old = omega (arith, ap length viewed, c.requires) in
    record {
      room = record {
        within = omega (arith, c.self.invariant.room.within, length-set old c.args.index (pair.0, w));
        limited = c.self.invariant.room.limited;
      };
      table = subst (λ hs. IsTableOf hs c.self.inside.slots)
          (sym (hashes-set g.H.KeyHash.hash_of old c.args.index pair w li c.index_mut-pair.ensures.value)) c.self.invariant.table;
      size = c.self.invariant.size;
    }

pub returns : goal.returns
returns g c =
    let old = c.self.inside.pairs.items in
    let pair = c.index_mut-pair.result.now in
    let viewed : old ≡ c.args.self.now.store.pairs = pairs_shown c.self.view_is in (
      (
        refl,
        λ w. placed_path _ _
            (set-value old c.args.index pair w (omega (arith, ap length viewed, c.requires)) c.index_mut-pair.ensures.value
            ∙ ap (λ ps. with_value ps c.args.index w) viewed)
            (room_shown c.self.view_is)
            (ap (λ (s : Placed g.row.V.Denot). s.slots) c.self.view_is),
      ),
      record {
        writes_back = tt;
        pair = slice_get-seen old c.args.self.now.store.pairs c.args.index pair viewed c.requires c.index_mut-pair.ensures.value;
      },
    )
