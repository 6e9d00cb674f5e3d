use Rattle.std.proofs.Common.{◌≡◌, ◌<◌, [], ◌∷◌, ◌++◌, List, ℕ, length, arith, ap, sym, ◌∙◌, subst, refl, length-append}
use Rattle.std.specs.Prelude.{vec_capacity}
use Rattle.ijson_table.specs.Crowd.{slot_count}
use Rattle.ijson_table.specs.Placed.{Placed}
use Rattle.ijson_table.specs.private.Holds.{MayStand}
use Rattle.ijson_table.specs.private.Insertion.{IsTableOf, MayPut}
use Rattle.ijson_table.specs.private.KeptHash.{kept}
use Rattle.ijson_table.specs.private.SlotHashes.{positions}
use Rattle.ijson_table.proofs.pairs.Shown.{count_shown, pairs_shown, room_shown}
use Rattle.ijson_table.proofs.pairs.NewPairs.{still_distinct}
use Rattle.ijson_table.proofs.probing.KeyHashes.{hashes, hashes-push, length-hashes}
use Rattle.ijson_table.proofs.slots.HashesInSlots.{positions-length}
use Rattle.ijson_table.proofs.slots.NarrowSlots.{may_hold}
use Rattle.ijson_table.proofs.slots.SlotTables.{accepts, pushed}
use Rattle.ijson_table.proofs.table.Table.push_at.Goals.{After-push_reserved}
use Rattle.ijson_table.proofs.table.Table.push_at.Goals as goal

-- The list has capacity for one more pair.
room : (g : _) (c : After-push_reserved g) → length c.self.inside.pairs.items < vec_capacity c.self.inside.pairs
room g c = omega (arith, c.requires.room, count_shown c.self.view_is, room_shown c.self.view_is)

-- The hashes of the keys before the new pair is appended.
abbrev old : (g : _) (c : After-push_reserved g) → List ℕ
old g c = hashes g.H.KeyHash.hash_of c.self.inside.pairs.items

-- The new index is the number of hashes.
next : (g : _) (c : After-push_reserved g) → c.len-position.result ≡ length (old g c)
next g c = omega (arith, c.len-position.ensures, c.self.inside.pairs.ok.0, length-hashes g.H.KeyHash.hash_of c.self.inside.pairs.items)

inside : (g : _) (c : After-push_reserved g) → c.len-position.result < length c.self.inside.slots
inside g c = omega (arith, room g c, next g c, length-hashes g.H.KeyHash.hash_of c.self.inside.pairs.items, c.self.invariant.size)

-- `kept` is the part of the key's hash that the slots keep.
part : (g : _) (c : After-push_reserved g) → c.args.kept ≡ kept (length c.self.inside.slots) (g.H.KeyHash.hash_of c.args.key)
part g c = c.requires.kept ∙ ap (λ n. kept n (g.H.KeyHash.hash_of c.args.key)) (sym (ap (λ (t : Placed g.row.V.Denot). length t.slots) c.self.view_is)
    ∙ positions-length c.self.inside.slots)

may : (g : _) (c : After-push_reserved g) → MayPut (old g c ++ g.H.KeyHash.hash_of c.args.key ∷ []) c.self.inside.slots c.len-position.result c.args.kept
    c.args.slot
may g c = (
  accepts (old g c) c.self.inside.slots c.self.invariant.table c.len-position.result (g.H.KeyHash.hash_of c.args.key) (next g c) (inside g c)
      c.args.kept (part g c) (omega (arith, c.self.invariant.size, c.self.invariant.room.limited)),
  subst (λ n. MayStand (old g c ++ g.H.KeyHash.hash_of c.args.key ∷ []) (positions c.self.inside.slots) n c.args.slot) (sym (next g c))
      (subst (λ (t : Placed g.row.V.Denot). MayStand (hashes g.H.KeyHash.hash_of t.store.pairs ++ g.H.KeyHash.hash_of c.args.key ∷ []) t.slots
      (length (hashes g.H.KeyHash.hash_of t.store.pairs)) c.args.slot) (sym c.self.view_is) c.requires.may),
)

pub shift_forward-requires-clause-may : goal.shift_forward-requires-clause-may
shift_forward-requires-clause-may g c =
    let w = (goal.at.shift_forward-requires-clause-may g c).After-push_reserved in (old g w ++ g.H.KeyHash.hash_of c.args.key ∷ [], may g w)

pub shift_forward-requires-clause-narrow : goal.shift_forward-requires-clause-narrow
shift_forward-requires-clause-narrow g c =
    let w = (goal.at.shift_forward-requires-clause-narrow g c).After-push_reserved in
    may_hold (length c.self.inside.slots) c.len-position.result c.args.kept (g.H.KeyHash.hash_of c.args.key) (part g w) (inside g w)

pub invariant_of-self-inside : goal.invariant_of-self-inside
invariant_of-self-inside g c =
    let viewed = pairs_shown c.self.view_is in
    (still_distinct c.args.key c.args.value viewed c.push_reserved.ensures.items refl c.requires.missing c.self.inside.distinct, tt)

pub invariant_of-self : goal.invariant_of-self
invariant_of-self g c =
    let w = (goal.at.invariant_of-self g c).After-push_reserved in
    let items = c.push_reserved.ensures.items in
    let put = c.shift_forward.ensures (old g w ++ g.H.KeyHash.hash_of c.args.key ∷ []) (may g w) in
    record {
      room = record {
        within = omega (
          arith,
          ap length items,
          length-append c.self.inside.pairs.items ((c.args.key, c.args.value) ∷ []),
          c.push_reserved.ensures.capacity,
          room g w,
        );
        limited = omega (arith, c.self.invariant.room.limited, c.push_reserved.ensures.capacity);
      };
      table = subst (λ hs. IsTableOf hs c.shift_forward.new.self) (sym (hashes-push g.H.KeyHash.hash_of c.self.inside.pairs.items c.args.key c.args.value)
          ∙ ap (hashes g.H.KeyHash.hash_of) (sym items))
          (pushed (old g w) c.self.inside.slots c.self.invariant.table c.len-position.result (g.H.KeyHash.hash_of c.args.key) (next g w) (inside g w)
          c.shift_forward.new.self put.count put.holds put.hashes_are);
      size = put.count ∙ (c.self.invariant.size ∙ ap slot_count (sym c.push_reserved.ensures.capacity));
    }
