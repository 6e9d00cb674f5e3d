-- The steps of probing for a key and inserting it, computed from the slots at which they end.
use Rattle.std.proofs.Common.{◌≡◌, ℕ, ◌+◌, ◌<◌, ◌≤◌, Bool, List, length, map, Option, None, arith, ap, sym, subst, ◌∙◌, inl, inr}
use Rattle.std.proofs.lemmas.Bool.{cases_lt}
use Rattle.std.proofs.lemmas.Nat.{mod_below}
use Rattle.ijson_table.specs.declared.index.probe.Probed.TheVariants.{Found, Vacant}
use Rattle.ijson_table.specs.Crowd.{distance, home_of}
use Rattle.ijson_table.specs.Slots.{displacement, resident}
use Rattle.ijson_table.specs.private.Changes.{changes}
use Rattle.ijson_table.specs.private.CountedSteps.{CountsSteps, Walks}
use Rattle.ijson_table.specs.private.Lookup.{is_key}
use Rattle.ijson_table.specs.private.Probe.{onward, Ends, EndsAt}
use Rattle.ijson_table.proofs.arithmetic.Circular.{distance-onward, distance-rest, onward-below, onward-distance}
use Rattle.ijson_table.proofs.probing.ProbePath.{displacement-none}
use Rattle.ijson_table.proofs.slots.SlotChanges.{changes-none}

-- Holds if a probe from home slot `h` ended at slot `p` of `n` after `looks` inspections.
pub record EndedAt (n h looks p : ℕ) : Type 0 where
  pub there : p < n
  pub looked : distance n h p + 1 ≡ looks
  pub few : looks ≤ n

module _ (slots : List (Option ℕ)) (displacements : ℕ → ℕ) (h : ℕ) (seeks : ℕ → Bool) (home : h < length slots) where
  -- A probe that satisfies `EndsAt` satisfies `EndedAt`.
  ended_after : (looks p m : ℕ) → EndsAt slots displacements h seeks looks p m → EndedAt (length slots) h looks p
  ended_after looks p m e =
      let n = length slots in
      record {
        there = subst (λ q. q < n) (sym e.there) (onward-below n h m home (omega (arith, e.within)));
        looked = ap (λ q. distance n h q + 1) e.there ∙ (ap (λ d. d + 1) (distance-onward n h m home e.within) ∙ sym e.looked);
        few = omega (arith, e.within, e.looked);
      }

  -- A probe that ended as `Found` satisfies `EndedAt` for the slot of its target.
  pub ended_found : (looks at p : ℕ) → Ends slots displacements h seeks looks (Found at p) → EndedAt (length slots) h looks p
  ended_found looks at p ends = ended_after looks p ends.0 ends.1

  -- A probe that ended as `Vacant` satisfies `EndedAt` for the vacant slot.
  pub ended_vacant : (looks p : ℕ) → Ends slots displacements h seeks looks (Vacant p) → EndedAt (length slots) h looks p
  ended_vacant looks p ends = ended_after looks p ends.0 ends.1

  -- If a probe ended as `Vacant` at slot `p`, the distance from its home slot to an empty slot is
  -- the distance from its home slot to `p` plus the distance from `p` to the empty slot.
  pub through : (looks p last : ℕ) → Ends slots displacements h seeks looks (Vacant p) → last < length slots → displacements last ≡ 0
      → distance (length slots) h p + distance (length slots) p last ≡ distance (length slots) h last
  through looks p last ends there empty =
      let n = length slots in
      let m : ℕ = ends.0 in
      let e = ends.1 in
      let far : distance n h p ≡ m = ap (distance n h) e.there ∙ distance-onward n h m home e.within in
      let way : distance n p last ≡ distance n (onward n h m) last = ap (λ q. distance n q last) e.there in
      elim (cases_lt (distance n h last) m) [
        | inl less ↦
            let full = e.passed.far (distance n h last) less in
            absurd (omega (arith, full, ap displacements (onward-distance n h last home there), empty))
        | inr more ↦ omega (arith, far, way, distance-rest n h m last home there e.within more)
      ]

module _ (hash : List ℕ → ℕ) (keys : List (List ℕ)) (slots : List (Option ℕ)) (some : 0 < length slots) (key : List ℕ) where
  abbrev home : ℕ
  home = home_of hash (length slots) key

  -- For a missing key inserted at the end of its probe, `CountsSteps` holds if `steps` is at least
  -- the distance from the home slot to the last slot written, plus 2.
  pub counts_new : (looks p last far steps : ℕ) (new : List (Option ℕ))
      → Walks hash keys slots key looks (Vacant p) → last < length slots → resident slots last ≡ None
      → changes slots new ≤ distance (length slots) p last + 1 → far ≡ distance (length slots) home last
      → far + 2 ≤ steps → CountsSteps hash keys key slots new steps
  counts_new looks p last far steps new walks there empty few away_is enough =
      let within = mod_below (hash key) (length slots) some in
      let ended = ended_vacant slots (displacement (map hash keys) slots) home (is_key keys key) within looks p walks in
      let way = through slots (displacement (map hash keys) slots) home (is_key keys key) within looks p last walks there
      (displacement-none (map hash keys) slots last empty) in
      record {
        looks = looks;
        end = Vacant p;
        walked = walks;
        counted = omega (arith, ended.looked, way, few, away_is, enough);
      }

  -- For a key that was found, `CountsSteps` holds if `steps` is at least the distance from its home
  -- slot to its slot, plus 1.
  pub counts_found : (looks at p far steps : ℕ) → Walks hash keys slots key looks (Found at p)
      → far ≡ distance (length slots) home p → far + 1 ≤ steps → CountsSteps hash keys key slots slots steps
  counts_found looks at p far steps walks away_is enough =
      let ended = ended_found slots (displacement (map hash keys) slots) home (is_key keys key) (mod_below (hash key) (length slots) some)
      looks at p walks in
      record {
        looks = looks;
        end = Found at p;
        walked = walks;
        counted = omega (arith, ended.looked, changes-none slots, away_is, enough);
      }
