use Rattle.ijson_number.proofs.Common.{◌≡◌, ◌+◌, ◌-◌, ◌≤◌, ◌∙◌, ◌∷◌, ◌++◌, List, ℕ, Bool, drop, length, refl, replicate, take, take_all, length-drop}
use Rattle.ijson_number.proofs.Common.{arith, IsAscii, bool_byte, minus_text}
use Rattle.ijson_number.proofs.writing.WrittenLanes.{filled, filled_is, minus_length, IsFront, front_all, front_is}
use Rattle.ijson_number.proofs.lanes.push_rows.Goals as goal

-- The buffer begins with the sign, the whole part, the point and the fraction.
rows : (negative : Bool) (whole fraction : List ℕ) (start count scale first many more : ℕ)
    → (length whole ≡ 16) × IsAscii (drop start whole) → start + count ≤ 16
    → (length fraction ≡ 16) × IsAscii (drop (16 - scale) fraction) → scale ≤ 16 → first ≡ bool_byte negative → many ≡ 16
    → IsFront (filled first count many more (drop start whole ++ replicate start 0) (drop (16 - scale) fraction ++ replicate (16 - scale) 0))
    (first + count + 1 + scale) (minus_text negative ++ (take count (drop start whole) ++ 46 ∷ drop (16 - scale) fraction))
rows negative whole fraction start count scale first many more w within f places is row =
    let behind : 16 - scale + scale ≤ 16 = omega arith in
    let a = front_is whole w.0 start count within w.1 in
    let b = front_is fraction f.0 (16 - scale) scale behind f.1 in
    let last = take_all scale (drop (16 - scale) fraction) (omega (arith, f.0, length-drop (16 - scale) fraction)) in
    let room = filled_is negative first count scale many more _ _ (is ∙ minus_length negative)
    (front_all whole w.0 start count within w.1, a.ascii) (front_all fraction f.0 (16 - scale) scale behind f.1, b.ascii)
    (omega arith, places) row in
    record { ascii = room.ascii; within = room.within; shown = room.shown ∙ rw (a.shown, b.shown, last) refl }

pub push_front-requires : goal.push_front-requires
push_front-requires c =
    let a = c.args in
    let r = c.requires in
    let room = rows a.negative a.whole a.fraction a.start a.count a.scale c.from-first.result _ _ r.whole r.within r.fraction r.places
    c.from-first.ensures (omega arith) in
    rw (c.copy_from_slice.ensures.after, c.copy_from_slice-2.ensures.after, c.front_of.ensures, c.front_of-2.ensures)
    (record { ascii = room.ascii; within = room.within })

pub returns-clause-written : goal.returns-clause-written
returns-clause-written c =
    let a = c.args in
    let r = c.requires in
    let first = c.from-first.result in
    rw (
      ← (rows a.negative a.whole a.fraction a.start a.count a.scale first (first + 16 - first)
          (first + a.count + 1 + 16 - (first + a.count + 1)) r.whole r.within r.fraction r.places c.from-first.ensures (omega arith)).shown,
      ← c.front_of.ensures,
      ← c.front_of-2.ensures,
      ← c.copy_from_slice-2.ensures.after,
      ← c.copy_from_slice.ensures.after,
    ) c.push_front.ensures.written
