use Rattle.std.proofs.Common.{◌≡◌, ℕ, ◌%◌, ◌-◌, ◌≤◌, ◌⊎◌, List, length, Option, false, eqb, arith, ap, subst, ◌∙◌}
use Rattle.std.proofs.Common.{inl, inr}
use Rattle.ijson_table.specs.declared.slot.Slot.{Slot}
use Rattle.ijson_table.specs.Slots.{displacement, resident}
use Rattle.ijson_table.specs.private.SlotHashes.{displacement_in, positions}
use Rattle.ijson_table.specs.declared.index.probe.Probed.{Probed}
use Rattle.ijson_table.specs.declared.index.probe.Probed.TheVariants.{Found, Vacant, Full}
use Rattle.ijson_table.specs.private.Insertion.{Stands}
use Rattle.ijson_table.specs.private.Probe.{onward, PassedOthers, Ends}
use Rattle.ijson_table.proofs.arithmetic.Circular.{onward-below}
use Rattle.std.proofs.lemmas.Bool.Decides.{nat_tests}
use Rattle.ijson_table.proofs.shifting.Vacancy.{home_here}
use Rattle.ijson_table.proofs.slots.HashesInSlots.{positions-length, displacement-in}
use Rattle.ijson_table.proofs.probing.CrowdBound.{home-below}
use Rattle.ijson_table.proofs.probing.ProbePath.{passed_by}
use Rattle.ijson_table.proofs.index.shift.slot_of.Goals as goal

-- A probe for an index that is in a slot does not end before it finds the index.
missed : (hashes : List ℕ) (slots : List Slot) (position hash m : ℕ) → Stands hashes slots position hash
    → PassedOthers (positions slots) (λ i. eqb i position) (hash % length slots) m
    → (length (positions slots) ≤ m)
    ⊎ (displacement hashes (positions slots) (onward (length (positions slots)) (hash % length slots) m) ≤ m) → ⊥
missed hashes slots position hash m s others ended =
    let ps : List (Option ℕ) = positions slots in
    let home = home_here hashes slots position hash s.hash_is in
    let by = passed_by hashes ps s.ordered position s.stands.0 m s.stands.1 s.stands.2
    (subst (λ h. (length ps ≤ m) ⊎ (displacement hashes ps (onward (length ps) h m) ≤ m)) home ended) in
    let no_it_is : eqb position position ≡ false = others by.0 position by.1 (ap (λ h. resident ps (onward (length ps) h by.0)) home ∙ by.2) in
    grind (arith, nat_tests, no_it_is)

-- A probe for an index that is in a slot ends as `Found`.
no_other : (hashes : List ℕ) (slots : List Slot) (position hash looks : ℕ) → Stands hashes slots position hash
    → (end : Probed) → Ends (positions slots) (displacement_in slots) (hash % length slots) (λ i. eqb i position) looks end
    → ((x : ℕ) × (end ≡ Vacant x)) ⊎ (end ≡ Full) → ⊥
no_other hashes slots position hash looks s (Found i p) ends (inl is) = let e = is.1 in cc
no_other hashes slots position hash looks s (Found i p) ends (inr is) = cc
no_other hashes slots position hash looks s Full ends is =
    missed hashes slots position hash (length (positions slots)) s ends.1 (inl (omega arith))
no_other hashes slots position hash looks s (Vacant p) ends is =
    let k : ℕ = length (positions slots) in
    let size = positions-length slots in
    let home = home_here hashes slots position hash s.hash_is in
    let lp = onward-below k (hash % length slots) ends.0
    (omega (arith, home, home-below k hashes position (omega (arith, ends.1.within)))) (omega (arith, ends.1.within)) in
    missed hashes slots position hash ends.0 s ends.1.others (inr (omega (
      arith,
      ends.2,
      displacement-in hashes slots p s.hashes_are (omega (arith, ends.1.there, lp, size)),
      ap (displacement hashes (positions slots)) ends.1.there,
    )))

pub unreachable-requires : goal.unreachable-requires
unreachable-requires c =
    let looks : ℕ = c.probe.new.looks - c.new.result in
    no_other c.requires.stands.0 c.args.slots.now c.args.position c.args.hash looks c.requires.stands.1 c.probe.result
    (subst (λ h. Ends (positions c.args.slots.now) (displacement_in c.args.slots.now) h (λ i. eqb i c.args.position) looks c.probe.result)
    (c.home_of_hash-home.ensures.value ∙ ap (λ n. c.args.hash % n) c.requires.counted) c.probe.ensures.ends) c.in-Vacant.is
