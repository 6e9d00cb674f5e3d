use Rattle.std.proofs.Common.{arith, ◌≡◌, ◌++◌, ◌+◌, ◌∷◌, [], ℕ, List, take, slice_index_or, subst, sym, ◌∙◌}
use Rattle.std.proofs.lemmas.List.{take_more}
use Rattle.ijson_json.specs.LineColumn.{Counts}
use Rattle.ijson_json.proofs.scanning.LinesAndColumns.{line_feed_passed, byte_passed, passed_within}
use Rattle.ijson_json.proofs.line_column.line_and_column.Goals.{then-byte-eq10, else-byte-eq10+then-begins_character}
use Rattle.ijson_json.proofs.line_column.line_and_column.Goals.{else-byte-eq10+else-begins_character}
use Rattle.ijson_json.proofs.line_column.line_and_column.Goals as goal

pub overflow_add-lines : goal.overflow_add-lines
overflow_add-lines c =
    let l = c.loop-byte in
    omega (arith, passed_within c.if-at-bytes.before.now l.byte-index l.lines l.characters c.loop-byte-test.true l.invariant)

pub overflow_add-characters : goal.overflow_add-characters
overflow_add-characters c =
    let l = c.loop-byte in
    omega (arith, passed_within c.if-at-bytes.before.now l.byte-index l.lines l.characters c.loop-byte-test.true l.invariant)

pub loop-byte-preserved : goal.loop-byte-preserved
loop-byte-preserved c =
    let passed : List ℕ = take c.loop-byte.byte-index c.if-at-bytes.before.now in
    let byte : ℕ = slice_index_or c.if-at-bytes.before.now c.loop-byte.byte-index 0 in
    let more : take (c.loop-byte.byte-index + 1) c.if-at-bytes.before.now
    ≡ passed ++ byte ∷ [] = take_more c.if-at-bytes.before.now c.loop-byte.byte-index 0 c.loop-byte-test.true in
    let before : Counts passed c.loop-byte.lines c.loop-byte.characters = c.loop-byte.invariant in
    subst (λ bytes. Counts bytes c.if-byte-eq10.lines c.if-byte-eq10.characters) (sym more) (elim c.if-byte-eq10.branch [
      | then-byte-eq10 w ↦
          rw (w.if-byte-eq10.true, w.lines-is, w.characters-is) (line_feed_passed passed c.loop-byte.lines c.loop-byte.characters before)
      | else-byte-eq10+then-begins_character w ↦ rw w.lines-is (byte_passed passed _ _ byte _ before w.if-byte-eq10.false
          (rw (sym w.begins_character.ensures ∙ w.if-begins_character.true) w.characters-is))
      | else-byte-eq10+else-begins_character w ↦ rw w.lines-is (byte_passed passed _ _ byte _ before w.if-byte-eq10.false
          (rw (sym w.begins_character.ensures ∙ w.if-begins_character.false) (omega (arith, w.characters-is))))
    ])
