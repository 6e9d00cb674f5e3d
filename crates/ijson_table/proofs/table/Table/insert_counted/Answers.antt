use Rattle.std.proofs.Common.{◌≡◌, ◌<◌, Some, None, length, arith, rules, ap, refl, sym, ◌∙◌, subst}
use Rattle.std.specs.Prelude.{vec_capacity}
use Rattle.ijson_table.specs.Growth.{Grown}
use Rattle.ijson_table.specs.Placed.{Placed}
use Rattle.ijson_table.specs.Store.{at, keys_of, with_value}
use Rattle.ijson_table.specs.declared.index.probe.Probed.{Probed}
use Rattle.ijson_table.specs.declared.index.probe.Probed.TheVariants.{Found, Vacant}
use Rattle.ijson_table.specs.private.Lookup.{LookUpEnds}
use Rattle.ijson_table.proofs.pairs.NewPairs.{put_last}
use Rattle.ijson_table.proofs.pairs.PairsByKey.{lookup-absent, position_within}
use Rattle.ijson_table.proofs.probing.KeyHashes.{had_room, hashes}
use Rattle.ijson_table.proofs.pairs.Replaced.{replaced}
use Rattle.ijson_table.proofs.table.Table.insert_counted.Goals.{After-find, After-reserve, In-Found-default}
use Rattle.ijson_table.proofs.table.Table.insert_counted.Goals as goal

-- The end of the lookup satisfies `LookUpEnds`.
ended : (g : _) (c : After-find g) (end : Probed) → c.find.result.0 ≡ end → LookUpEnds (hashes g.H.KeyHash.hash_of c.args.self.now.store.pairs)
    (keys_of c.args.self.now.store.pairs) c.args.self.now.slots (g.H.KeyHash.hash_of c.as_str-2.result.now) c.as_str-2.result.now end
ended g c end is = subst (LookUpEnds (hashes g.H.KeyHash.hash_of c.args.self.now.store.pairs) (keys_of c.args.self.now.store.pairs)
    c.args.self.now.slots (g.H.KeyHash.hash_of c.as_str-2.result.now) c.as_str-2.result.now) is c.find.ensures.ends

-- The index that was found is the index of the key.
found : (g : _) (c : In-Found-default g) → at c.args.self.now.store.pairs c.args.key ≡ Some c.in-Found-default.at
found g c = ap (at c.args.self.now.store.pairs) (sym c.as_str-2.ensures) ∙ ended g c.before (Found c.in-Found-default.at c.in-Found-default.slot-0) c.in-Found-default.is-0

pub value_mut-requires : goal.value_mut-requires
value_mut-requires g c = position_within c.args.self.now.store.pairs c.args.key c.in-Found-default.at
    (found g (goal.at.value_mut-requires g c).In-Found-default)

pub returns-in-Found-default-clause-inserts : goal.returns-in-Found-default-clause-inserts
returns-in-Found-default-clause-inserts g c =
    let before = c.args.self.now.store.pairs in
    let told = c.value_mut.ensures.value in
    let kept = replaced before _ c.in-Found-default.at (told.0, c.value_mut.result.now) c.args.key c.args.value c.replace.result told.1
    c.replace.ensures.value (ap (with_value before c.in-Found-default.at) c.replace.ensures.after)
    (found g (goal.at.returns-in-Found-default-clause-inserts g c).In-Found-default) in
    (kept.0, kept.1, refl)

pub returns-in-Vacant-default-clause-inserts : goal.returns-in-Vacant-default-clause-inserts
returns-in-Vacant-default-clause-inserts g c =
    let pairs = c.args.self.now.store.pairs in
    let missing = ap (at pairs) (sym c.as_str-2.ensures)
    ∙ (ended g (goal.at.returns-in-Vacant-default-clause-inserts g c).After-find (Vacant c.in-Vacant-default.slot) c.in-Vacant-default.is-0).0 in
    let room : length c.self.inside.pairs.items < vec_capacity c.self.inside.pairs =
    omega (arith, c.if-len-capacity.true, c.capacity.ensures, c.len.ensures) in (
      lookup-absent pairs c.args.key missing,
      put_last {old = pairs} c.args.key c.args.value refl c.push_at.ensures.pairs refl missing,
      subst (Grown (length pairs) c.args.self.now.store.capacity 1) (sym c.push_at.ensures.capacity)
          (subst (λ (t : Placed g.row.V.Denot). Grown (length t.store.pairs) t.store.capacity 1 t.store.capacity) c.self.view_is
          (had_room (length c.self.inside.pairs.items) (vec_capacity c.self.inside.pairs) room)),
    )

-- A key that the lookup did not find is missing.
missing : (g : _) (c : After-reserve g) → at c.args.self.now.store.pairs c.args.key ≡ None
missing g c = search rules

pub returns-in-Err-clause-inserts : goal.returns-in-Err-clause-inserts
returns-in-Err-clause-inserts g c = (
  lookup-absent c.args.self.now.store.pairs c.args.key (missing g (goal.at.returns-in-Err-clause-inserts g c).After-reserve),
  refl,
  refl,
  c.in-Err.ensures.pairs,
  c.in-Err.ensures.grown,
)

pub returns-in_default-clause-inserts : goal.returns-in_default-clause-inserts
returns-in_default-clause-inserts g c =
    let none = missing g (goal.at.returns-in_default-clause-inserts g c).After-reserve in (
      lookup-absent c.args.self.now.store.pairs c.args.key none,
      put_last c.args.key c.args.value c.in_default.ensures.pairs c.push_hashed.ensures.pairs refl none,
      subst (Grown (length c.args.self.now.store.pairs) c.args.self.now.store.capacity 1) (sym c.push_hashed.ensures.capacity)
          c.in_default.ensures.grown,
    )
