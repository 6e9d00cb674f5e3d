use Rattle.std.proofs.Common.{ℕ, ◌-◌, ◌<◌, List, length, map, arith, rules, subst, sym, ◌∙◌}
use Rattle.std.proofs.lemmas.List.{length-map}
use Rattle.std.proofs.Math.Nat.{mod-lt}
use Rattle.ijson_table.specs.Crowd.{home_of}
use Rattle.ijson_table.specs.Slots.{displacement}
use Rattle.ijson_table.specs.private.Lookup.{is_key}
use Rattle.ijson_table.specs.private.Probe.{Ends}
use Rattle.ijson_table.proofs.pairs.KeyPositions.{position-none}
use Rattle.ijson_table.proofs.probing.LookCount.{within_list}
use Rattle.ijson_table.proofs.probing.ProbeEnds.{look_up_ends, bounded, found_at-ends}
use Rattle.ijson_table.proofs.probing.ProbePath.{placed_at}
use Rattle.ijson_table.proofs.index.places.locate.Goals.{After-probe}
use Rattle.ijson_table.proofs.index.places.locate.Goals as goal

pub returns-then-count-eq0-clause-found : goal.returns-then-count-eq0-clause-found
returns-then-count-eq0-clause-found g c =
    let p = g.P.Places in
    let table = c.args.table.now in
    sym (position-none (p.keys table) c.args.key.now (λ j lj e.
    let spot = placed_at (map p.hash_of (p.keys table)) (p.slots table) c.places-count.ensures.table j
    (omega (arith, lj, length-map (p.keys table) p.hash_of)) in
    omega (arith, spot.1, c.if-count-eq0.true, c.places-count.ensures.count)))

pub probe-requires-clause-fits : goal.probe-requires-clause-fits
probe-requires-clause-fits g c = λ m lm passed.
    let p = g.P.Places in
    let table = c.args.table.now in
    let n : ℕ = length (p.slots table) in
    let few = within_list (map p.hash_of (p.keys table)) (p.slots table) c.places-count.ensures.table c.home.result m
    (subst (λ h. h < n) (sym c.home.ensures) (mod-lt (p.hash_of c.args.key.now) (omega (arith, lm)))) (omega (arith, lm)) passed in
    omega (arith, few, c.requires, length-map (p.keys table) p.hash_of)

-- The probe from the home slot of `key` ends as `Ends` states.
walked : (g : _) (c : goal.After-probe g) → Ends (g.P.Places.slots c.args.table.now)
    (displacement (map g.P.Places.hash_of (g.P.Places.keys c.args.table.now)) (g.P.Places.slots c.args.table.now))
    (home_of g.P.Places.hash_of (length (g.P.Places.slots c.args.table.now)) c.args.key.now)
    (is_key (g.P.Places.keys c.args.table.now) c.args.key.now) (c.probe.new.looks - c.args.looks.now) c.probe.result
walked g c =
    let p = g.P.Places in
    let table = c.args.table.now in
    subst (λ h. Ends (p.slots table) (displacement (map p.hash_of (p.keys table)) (p.slots table)) h (is_key (p.keys table) c.args.key.now)
    (c.probe.new.looks - c.args.looks.now) c.probe.result) c.home.ensures c.probe.ensures.ends

pub returns-clause-found : goal.returns-clause-found
returns-clause-found g c =
    let p = g.P.Places in
    let table = c.args.table.now in
    let keys : List (List ℕ) = p.keys table in
    let key : List ℕ = c.args.key.now in
    let some : 0 < length (p.slots table) = omega (arith, c.if-count-eq0.false, c.places-count.ensures.count) in
    c.found.ensures ∙ found_at-ends (map p.hash_of keys) keys (p.slots table) (p.hash_of key) key c.probe.result
    (look_up_ends p.hash_of keys (p.slots table) c.places-count.ensures.table key (p.distinct table) some
    c.probe.result (c.probe.new.looks - c.args.looks.now) (walked g (goal.at.returns-clause-found g c).After-probe))

pub returns-clause-bounded : goal.returns-clause-bounded
returns-clause-bounded g c =
    let p = g.P.Places in
    let table = c.args.table.now in
    let few = bounded p.hash_of (p.keys table) (p.slots table) c.places-count.ensures.table c.args.key.now
    (p.room table) c.places-count.ensures.size c.probe.result
    (c.probe.new.looks - c.args.looks.now) (walked g (goal.at.returns-clause-bounded g c).After-probe) in
    search (rules, few)
