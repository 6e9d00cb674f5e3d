use Rattle.std.proofs.Common.{◌≡◌, ◌<◌, ◌+◌, ℕ, List, Bool, false, length, Option, Some, arith, ap, sym, ◌∙◌, subst, inl, inr}
use Rattle.std.proofs.lemmas.Bool.{cases_lt}
use Rattle.ijson_table.specs.Slots.{after, resident}
use Rattle.ijson_table.specs.private.Probe.{onward, EndsAt, Passed, PassedOthers}
use Rattle.ijson_table.proofs.arithmetic.Circular.{onward-zero, after-onward}
use Rattle.ijson_table.proofs.probing.LookCount.{passed_none, passed_more}
use Rattle.ijson_table.proofs.index.probe.probe.Goals as goal

pub loop-passed-init : goal.loop-passed-init
loop-passed-init g c =
    let p = g.P.ProbeTarget in
    let target = c.args.target.now in
    let n : ℕ = length (p.slots target) in
    let home : c.args.home < n = omega arith in
    record {
      within = home;
      there = sym (onward-zero n c.args.home home);
      passed = passed_none (p.displacements target) n c.args.home;
      others = λ j i lj. absurd (omega arith);
      looked = omega arith;
    }

-- If the next resident is not the target, `PassedOthers` holds for `m + 1` slots.
more : (slots : List (Option ℕ)) (seeks : ℕ → Bool) (h m i : ℕ) → PassedOthers slots seeks h m
    → resident slots (onward (length slots) h m) ≡ Some i → seeks i ≡ false → PassedOthers slots seeks h (m + 1)
more slots seeks h m i others there no_it_is j k lj at = elim (cases_lt j m) [
  | inl less ↦ others j k less at
  | inr last ↦
      let same : m ≡ j = omega arith in
      let who : Some i ≡ Some k = sym there ∙ (ap (λ x. resident slots (onward (length slots) h x)) same ∙ at) in
      let it : i ≡ k = cc in
      ap seeks (sym it) ∙ no_it_is
]

pub loop-passed-preserved : goal.loop-passed-preserved
loop-passed-preserved g c =
    let p = g.P.ProbeTarget in
    let target = c.args.target.now in
    let n : ℕ = length (p.slots target) in
    let h : ℕ = c.args.home in
    let m : ℕ = c.loop-passed.passed in
    let size : c.args.count ≡ n = c.requires.counted in
    let lm : m < n = omega (arith, c.loop-passed-test.true, size) in
    let at : c.loop-passed.slot ≡ onward n h m = c.loop-passed.invariant.there in
    let sees = c.in-Resident.ensures.sees in
    let there : resident (p.slots target) (onward n h m) ≡ Some c.in-Resident.at = ap (resident (p.slots target)) (sym at) ∙ sees.0 in
    record {
      within = omega (arith, c.next_slot-slot.ensures.within, size);
      there = c.next_slot-slot.ensures.slot ∙ (ap (λ k. after k c.loop-passed.slot) size
          ∙ (ap (after n) at ∙ after-onward n h m (omega (arith, size, c.requires.home)) lm));
      passed = passed_more (p.displacements target) n h m c.loop-passed.invariant.passed
          (omega (arith, sees.1, c.if-distance-passed.false, ap (p.displacements target) at));
      others = more (p.slots target) (p.seeks target) h m c.in-Resident.at c.loop-passed.invariant.others there
          (sym sees.2 ∙ c.if-same.false);
      looked = omega (arith, c.look.ensures.counts, c.loop-passed.invariant.looked);
    }

-- `EndsAt` holds if each of its fields holds.
ends_at : {slots : List (Option ℕ)} {displacements : ℕ → ℕ} {h : ℕ} {seeks : ℕ → Bool} {looks p m : ℕ} → m < length slots
    → p ≡ onward (length slots) h m → Passed displacements (length slots) h m → PassedOthers slots seeks h m → looks ≡ m + 1
    → EndsAt slots displacements h seeks looks p m
ends_at w t p o l = record { within = w; there = t; passed = p; others = o; looked = l }

pub returns-then-same-clause-ends : goal.returns-then-same-clause-ends
returns-then-same-clause-ends g c =
    let i = c.loop-passed.invariant in
    let sees = c.in-Resident.ensures.sees in (
      c.loop-passed.passed,
      ends_at (omega (arith, c.loop-passed-test.true, c.requires.counted)) i.there i.passed i.others
          (omega (arith, i.looked, c.in-Resident.ensures.counts)),
      sees.0,
      sym sees.2 ∙ c.if-same.true,
    )

pub returns-clause-ends : goal.returns-clause-ends
returns-clause-ends g c =
    let p = g.P.ProbeTarget in
    let target = c.args.target.now in
    let i = c.loop-passed.invariant in
    let all : c.loop-passed.passed ≡ length (p.slots target) =
    omega (arith, c.loop-passed-test.false, c.requires.counted, c.loop-passed.auto.passed-end) in (
      subst (Passed (p.displacements target) (length (p.slots target)) c.args.home) all i.passed,
      subst (PassedOthers (p.slots target) (p.seeks target) c.args.home) all i.others,
      omega (arith, i.looked, all),
    )
