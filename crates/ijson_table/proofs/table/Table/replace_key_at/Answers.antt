use Rattle.std.proofs.Common.{◌≡◌, map, set, arith, rules, ap, ap₂, sym, ◌∙◌, subst}
use Rattle.std.proofs.lemmas.List.{length-set, map-set}
use Rattle.ijson_table.specs.Placed.{Placed}
use Rattle.ijson_table.specs.Store.{at, keys_of, with_key, IsDistinct}
use Rattle.ijson_table.specs.private.Insertion.{IsTableOf}
use Rattle.ijson_table.proofs.pairs.OtherKeys.{distinct_with_key, keys-with_key, set-key}
use Rattle.ijson_table.proofs.pairs.Shown.{count_shown, pairs_shown}
use Rattle.ijson_table.proofs.table.Table.replace_key_at.Goals.{After-replace}
use Rattle.ijson_table.proofs.table.Table.replace_key_at.Goals as goal

-- Setting the pair at `index` to the new key and its old value equals `with_key`.
now : (g : _) (c : After-replace g) → set c.self.inside.pairs.items c.args.index (c.replace.new.dest, c.index_mut.result.now.1)
    ≡ with_key c.self.inside.pairs.items c.args.index c.args.key
now g c =
    ap (λ k. set c.self.inside.pairs.items c.args.index (k, c.index_mut.result.now.1)) c.replace.ensures.after
    ∙ set-key c.self.inside.pairs.items c.args.index c.index_mut.result.now c.args.key
    (omega (arith, c.requires.within, count_shown c.self.view_is)) c.index_mut.ensures.value

pub invariant_of-self-inside : goal.invariant_of-self-inside
invariant_of-self-inside g c = (
  subst (λ ps. IsDistinct (keys_of ps)) (sym (now g (goal.at.invariant_of-self-inside g c).After-replace)) (distinct_with_key c.self.inside.pairs.items c.args.index c.args.key
      c.self.inside.distinct (omega (arith, c.requires.within, count_shown c.self.view_is))
      (ap (λ ps. at ps c.args.key) (pairs_shown c.self.view_is) ∙ c.requires.missing)),
  tt,
)

pub invariant_of-self : goal.invariant_of-self
invariant_of-self g c =
    let hash = g.H.KeyHash.hash_of in
    let old = c.self.inside.pairs.items in
    let index = c.args.index in
    let hashed : c.hash.result ≡ hash c.args.key = search rules in
    record {
      room = record {
        within = omega (arith, length-set old index (c.replace.new.dest, c.index_mut.result.now.1), c.self.invariant.room.within);
        limited = c.self.invariant.room.limited;
      };
      table = subst (λ hs. IsTableOf hs c.rehash_one.new.self)
          (ap₂ (λ ps h. set (map hash (keys_of ps)) index h) c.deref.ensures.value hashed
          ∙ (sym (map-set hash (keys_of old) index c.args.key) ∙ (ap (map hash) (sym (keys-with_key old index c.args.key))
          ∙ ap (λ ps. map hash (keys_of ps)) (sym (now g (goal.at.invariant_of-self g c).After-replace)))))
          c.rehash_one.ensures.table;
      size = c.rehash_one.ensures.count ∙ c.self.invariant.size;
    }

pub returns-clause-pairs : goal.returns-clause-pairs
returns-clause-pairs g c = now g (goal.at.returns-clause-pairs g c).After-replace ∙ ap (λ (s : Placed g.row.V.Denot). with_key s.store.pairs c.args.index c.args.key) c.self.view_is
