use Rattle.std.proofs.Common.{◌≡◌, ◌-◌, ◌<◌, ◌%◌, ◌++◌, ◌∷◌, [], ℕ, List, Option, length, get_or, take, arith, ap, ap₂, refl, sym, subst, ◌∙◌}
use Rattle.ijson_table.specs.declared.index.probe.Probed.{Probed}
use Rattle.ijson_table.specs.declared.index.probe.Probed.TheVariants.{Found, Full, Vacant}
use Rattle.ijson_table.specs.Crowd.{distance, home_of}
use Rattle.ijson_table.specs.Slots.{displacement}
use Rattle.ijson_table.specs.Store.{at, keys_of}
use Rattle.ijson_table.specs.private.CountedSteps.{CountsSteps, Walks}
use Rattle.ijson_table.specs.private.Holds.{MayStand}
use Rattle.ijson_table.specs.private.Insertion.{IsPut, MayPut}
use Rattle.ijson_table.specs.private.KeptHash.{kept}
use Rattle.ijson_table.specs.private.Lookup.{is_key, LookUpEnds}
use Rattle.ijson_table.specs.private.SlotHashes.{positions}
use Rattle.std.proofs.lemmas.Nat.{mod_below}
use Rattle.ijson_table.proofs.arithmetic.Circular.{distance-below}
use Rattle.ijson_table.proofs.probing.FirstPairs.{first_hashes, next_placed}
use Rattle.ijson_table.proofs.probing.KeyHashes.{hashes}
use Rattle.ijson_table.proofs.probing.ProbeEnds.{look_up_ends}
use Rattle.ijson_table.proofs.probing.StepsByEnd.{ended_found, counts_found, counts_new}
use Rattle.ijson_table.proofs.pairs.PairsByKey.{key_at}
use Rattle.ijson_table.proofs.slots.HashesInSlots.{positions-length}
use Rattle.ijson_table.proofs.slots.NarrowSlots.{may_hold}
use Rattle.ijson_table.proofs.slots.SlotTables.{accepts, left_empty, pushed}
use Rattle.ijson_table.proofs.index.add.add_new_key.Goals.{After-probe_for, In-Found, In-Vacant, After-shift_forward-last}
use Rattle.ijson_table.proofs.index.add.add_new_key.Goals as goal

-- Key `position` of the pairs is the string that was read.
keyed : (g : _) (c : After-probe_for g) → get_or (keys_of c.args.pairs.now) c.args.position [] ≡ c.as_str-key.result.now
keyed g c = key_at c.args.pairs.now c.args.position c.index-pairs-position.result c.requires.within ∙ sym c.as_str-key.ensures

-- The keys before index `position`. `first` has their hashes.
abbrev before : (g : _) (c : After-probe_for g) → List (List ℕ)
before g c = keys_of (take c.args.position c.args.pairs.now)

abbrev first : (g : _) (c : After-probe_for g) → List ℕ
first g c = hashes g.H.KeyHash.hash_of (take c.args.position c.args.pairs.now)

-- The hashes of the keys before index `position`, followed by the hash of the new key.
abbrev more : (g : _) (c : After-probe_for g) → List ℕ
more g c = first g c ++ g.H.KeyHash.hash_of c.as_str-key.result.now ∷ []

count_is : (g : _) (c : After-probe_for g) → length (first g c) ≡ c.args.position
count_is g c = first_hashes g.H.KeyHash.hash_of c.args.pairs.now c.args.position c.requires.within

-- The length of `positions` equals the number of slots.
size : (g : _) (c : After-probe_for g) → length (positions c.args.slots.now) ≡ length c.args.slots.now
size g c = positions-length c.args.slots.now

some : (g : _) (c : After-probe_for g) → 0 < length (positions c.args.slots.now)
some g c = omega (arith, c.requires.room, size g c)

-- If the probe satisfies `Walks`, its end satisfies `LookUpEnds`.
told : (g : _) (c : After-probe_for g) (end : Probed)
    → Walks g.H.KeyHash.hash_of (before g c) (positions c.args.slots.now) c.as_str-key.result.now (c.probe_for.new.looks - c.new.result) end
    → LookUpEnds (first g c) (before g c) (positions c.args.slots.now) (g.H.KeyHash.hash_of c.as_str-key.result.now) c.as_str-key.result.now end
told g c end walks = look_up_ends g.H.KeyHash.hash_of (before g c) (positions c.args.slots.now) c.requires.placed.table.table
    c.as_str-key.result.now c.requires.placed.distinct (some g c) end _ walks

-- The second result of `split` is the part of the key's hash that the slots keep.
part : (g : _) (c : After-probe_for g) → c.split-home.result.1 ≡ kept (length c.args.slots.now) (g.H.KeyHash.hash_of c.as_str-key.result.now)
part g c = c.split-home.ensures.kept ∙ ap₂ kept c.requires.counted c.hash.ensures

-- Index `position` may be inserted at the slot at which the probe ended.
may : (g : _) (c : In-Vacant g) → MayPut (more g c.before) c.args.slots.now c.args.position c.split-home.result.1 c.in-Vacant.slot
may g c =
    let w = c.before in (
      accepts (first g w) c.args.slots.now c.requires.placed.table c.args.position (g.H.KeyHash.hash_of c.as_str-key.result.now)
          (sym (count_is g w)) c.requires.room c.split-home.result.1 (part g w) (omega (arith, c.requires.fits)),
      subst (λ k. MayStand (more g w) (positions c.args.slots.now) k c.in-Vacant.slot) (count_is g w)
          (told g w (Vacant c.in-Vacant.slot) c.in-Vacant.ensures.ends).2,
    )

pub shift_forward-last-requires-clause-may : goal.shift_forward-last-requires-clause-may
shift_forward-last-requires-clause-may g c =
    let w = (goal.at.shift_forward-last-requires-clause-may g c).In-Vacant in (more g w.before, may g w)

pub shift_forward-last-requires-clause-narrow : goal.shift_forward-last-requires-clause-narrow
shift_forward-last-requires-clause-narrow g c = may_hold (length c.args.slots.now) c.args.position c.split-home.result.1
    (g.H.KeyHash.hash_of c.as_str-key.result.now)
    (part g (goal.at.shift_forward-last-requires-clause-narrow g c).After-probe_for) c.requires.room

put : (g : _) (c : After-shift_forward-last g) → IsPut (more g c.before.before.before) c.args.slots.now c.args.position c.in-Vacant.slot
    c.shift_forward-last.result c.shift_forward-last.new.self
put g c = c.shift_forward-last.ensures (more g c.before.before.before) (may g c.before.before)

pub distance_between-requires-clause-to : goal.distance_between-requires-clause-to
distance_between-requires-clause-to g c =
    omega (arith, (put g (goal.at.distance_between-requires-clause-to g c).After-shift_forward-last).within, c.requires.counted)

-- A distance from the first result of `split` is a distance from the home slot of the key.
away : (g : _) (c : After-probe_for g) (p d : ℕ) → d ≡ distance c.args.modulus.count c.split-home.result.0 p
    → d ≡ distance (length (positions c.args.slots.now)) (home_of g.H.KeyHash.hash_of (length (positions c.args.slots.now)) c.as_str-key.result.now) p
away g c p d is = is ∙ (ap (λ h. distance c.args.modulus.count h p) (c.split-home.ensures.home ∙ ap (λ h. h % c.args.modulus.count)
    c.hash.ensures)
    ∙ ap (λ n. distance n (home_of g.H.KeyHash.hash_of n c.as_str-key.result.now) p) (c.requires.counted ∙ sym (size g c)))

near : (g : _) (c : After-probe_for g) (p d : ℕ) → d ≡ distance c.args.modulus.count c.split-home.result.0 p → p < length c.args.slots.now
    → d < length c.args.slots.now
near g c p d is there = omega (
  arith,
  is,
  distance-below c.args.modulus.count c.split-home.result.0 p c.split-home.ensures.within (omega (arith, there, c.requires.counted)),
  c.requires.counted,
)

-- The slot at which the key was found is below the number of slots.
there : (g : _) (c : In-Found g) → c.in-Found.slot < length c.args.slots.now
there g c =
    let hash = g.H.KeyHash.hash_of in
    let slots = positions c.args.slots.now in
    let key = c.as_str-key.result.now in
    omega (
      arith,
      (ended_found slots (displacement (first g c.before) slots) (home_of hash (length slots) key)
          (is_key (before g c.before) key) (mod_below (hash key) (length slots) (some g c.before)) _ c.in-Found.at
          c.in-Found.slot c.in-Found.ensures.ends).there,
      size g c.before,
    )

pub overflow_add-steps : goal.overflow_add-steps
overflow_add-steps g c = let w = goal.at.overflow_add-steps g c in omega (
  arith,
  near g w.After-probe_for c.shift_forward-last.result c.distance_between.result c.distance_between.ensures
      (put g w.After-shift_forward-last).within,
  c.requires.fits,
)

pub overflow_add-steps-in-Vacant : goal.overflow_add-steps-in-Vacant
overflow_add-steps-in-Vacant g c = let w = goal.at.overflow_add-steps-in-Vacant g c in omega (
  arith,
  near g w.After-probe_for c.shift_forward-last.result c.distance_between.result c.distance_between.ensures
      (put g w.After-shift_forward-last).within,
  c.requires.fits,
)

pub overflow_add-steps-in-Found : goal.overflow_add-steps-in-Found
overflow_add-steps-in-Found g c = let w = goal.at.overflow_add-steps-in-Found g c in omega (
  arith,
  near g w.After-probe_for c.in-Found.slot c.distance_between-in-Found.result c.distance_between-in-Found.ensures (there g w.In-Found),
  c.requires.fits,
)

pub overflow_add-steps-in-Found-2 : goal.overflow_add-steps-in-Found-2
overflow_add-steps-in-Found-2 g c = let w = goal.at.overflow_add-steps-in-Found-2 g c in omega (
  arith,
  near g w.After-probe_for c.in-Found.slot c.distance_between-in-Found.result c.distance_between-in-Found.ensures (there g w.In-Found),
  c.requires.fits,
)

pub unreachable-requires : goal.unreachable-requires
unreachable-requires g c =
    let w = (goal.at.unreachable-requires g c).After-probe_for in
    (told g w Full c.in-Full.ensures.ends).1 (left_empty (first g w) (positions c.args.slots.now) c.requires.placed.table.table
    (omega (arith, count_is g w, c.requires.room, size g w)))

-- If `CountsSteps` holds for the string that was read, it holds for key `position` of the pairs.
counted : (g : _) (c : After-probe_for g) (new : List (Option ℕ)) (steps : ℕ)
    → CountsSteps g.H.KeyHash.hash_of (before g c) c.as_str-key.result.now (positions c.args.slots.now) new steps
    → CountsSteps g.H.KeyHash.hash_of (before g c) (get_or (keys_of c.args.pairs.now) c.args.position []) (positions c.args.slots.now) new steps
counted g c new steps = subst (λ k. CountsSteps g.H.KeyHash.hash_of (before g c) k (positions c.args.slots.now) new steps) (sym (keyed g c))

pub returns-in-Vacant : goal.returns-in-Vacant
returns-in-Vacant g c =
    let place = goal.at.returns-in-Vacant g c in
    let w = place.After-probe_for in
    let pair = c.index-pairs-position.result in
    let key : c.as_str-key.result.now ≡ pair.0 = c.as_str-key.ensures ∙ ap (λ p. p.0) (sym c.index-pairs-position.is) in
    let done = put g place.After-shift_forward-last in
    let missing = (told g w (Vacant c.in-Vacant.slot) c.in-Vacant.ensures.ends).0 in
    let d = c.distance_between.result in
    record {
      found = sym (ap (at (take c.args.position c.args.pairs.now)) (keyed g w) ∙ missing);
      placed = next_placed g.H.KeyHash.hash_of c.args.pairs.now c.args.position c.requires.within pair
          (g.H.KeyHash.hash_of c.as_str-key.result.now) c.shift_forward-last.new.self c.index-pairs-position.is (ap g.H.KeyHash.hash_of key)
          (ap (at (take c.args.position c.args.pairs.now)) (sym key) ∙ missing) c.requires.placed.distinct
          (pushed (first g w) c.args.slots.now c.requires.placed.table c.args.position _ (sym (count_is g w)) c.requires.room
          c.shift_forward-last.new.self done.count done.holds done.hashes_are);
      count = done.count;
      steps = omega (arith, near g w c.shift_forward-last.result d c.distance_between.ensures done.within);
      counted = counted g w (positions c.shift_forward-last.new.self) _
          (counts_new g.H.KeyHash.hash_of (before g w) (positions c.args.slots.now) (some g w) c.as_str-key.result.now _ c.in-Vacant.slot
          c.shift_forward-last.result d _ (positions c.shift_forward-last.new.self) c.in-Vacant.ensures.ends
          (omega (arith, done.within, size g w)) done.empty
          (omega (arith, done.changes, ap (λ n. distance n c.in-Vacant.slot c.shift_forward-last.result) (size g w)))
          (away g w c.shift_forward-last.result d c.distance_between.ensures) (omega arith));
      grows = omega arith;
    }

pub returns-in-Found : goal.returns-in-Found
returns-in-Found g c =
    let place = goal.at.returns-in-Found g c in
    let w = place.After-probe_for in
    let d = c.distance_between-in-Found.result in
    record {
      found = sym (ap (at (take c.args.position c.args.pairs.now)) (keyed g w)
          ∙ told g w (Found c.in-Found.at c.in-Found.slot) c.in-Found.ensures.ends);
      placed = refl;
      count = refl;
      steps = omega (arith, near g w c.in-Found.slot d c.distance_between-in-Found.ensures (there g place.In-Found));
      counted = counted g w (positions c.args.slots.now) _
          (counts_found g.H.KeyHash.hash_of (before g w) (positions c.args.slots.now) (some g w) c.as_str-key.result.now _
          c.in-Found.at c.in-Found.slot d _ c.in-Found.ensures.ends (away g w c.in-Found.slot d c.distance_between-in-Found.ensures) (omega arith));
      grows = omega arith;
    }
