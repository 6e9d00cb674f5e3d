use Rattle.std.proofs.Common.{◌≡◌, List, ℕ, ◌+◌, ◌<◌, ◌≤◌, ◌++◌, true, false, length, take, sym, subst, ap, ◌∙◌, arith}
use Rattle.std.specs.List.{prefix_len}
use Rattle.std.specs.String.{string_bytes}
use Rattle.std.proofs.Math.Seq.{take-append-add}
use Rattle.std.proofs.lemmas.List.{length-take-le}
use Rattle.std.proofs.lemmas.List.Sums.{prefix_len-le-length}
use Rattle.std.proofs.lemmas.Str.{IsCharBoundary-from_take, IsUtf8-append, IsUtf8-string_bytes}
use Rattle.ijson_json.specs.Print.{all_escaped}
use Rattle.ijson_json.specs.Strings.{is_unescaped}
use Rattle.ijson_json.proofs.scanning.UnescapedRuns.{run_before, run_covers}
use Rattle.ijson_json.proofs.writing.Quoting.{all_escaped-run, written_end, on_ok}
use Rattle.ijson_json.proofs.write.quote.push_text.Goals as goal
use Rattle.ijson_json.proofs.write.quote.push_text.Goals.{in_default-via-in-Some+else-begins_unescaped, in_default-via-in_default}

-- Truncating an appended `row` leaves the first `n` bytes of `row`.
cut_behind : (old row longer : List ℕ) (end n : ℕ) → longer ≡ old ++ row → end ≡ length old + n → take end longer ≡ old ++ take n row
cut_behind old row longer end n is at =
    ap (λ k. take k longer) at ∙ ap (take (length old + n)) is ∙ take-append-add old row n

pub truncate-requires : goal.truncate-requires
truncate-requires c =
    let old = string_bytes c.args.out.now in
    let end = c.len.result + c.from.result in
    let kept = cut_behind old c.in-Some.row.now (string_bytes c.push_str.new.self) end c.in-Some.count
    c.in_ok-push_str-in-Some.ensures.bytes (omega arith) in
    λ inside.
    let boundary = IsCharBoundary-from_take (string_bytes c.push_str.new.self) end (IsUtf8-string_bytes c.push_str.new.self)
    (omega (arith, inside))
    (rw kept (IsUtf8-append old (take c.in-Some.count c.in-Some.row.now) (IsUtf8-string_bytes c.args.out.now) c.in-Some.ensures.utf8)) in
    (boundary.0, λ _. boundary.1)

pub returns-in_ok-push_str-in-Some : goal.returns-in_ok-push_str-in-Some
returns-in_ok-push_str-in-Some c =
    let old = string_bytes c.args.out.now in
    let text : List ℕ = take c.in-Some.count c.in-Some.row.now in
    let kept = cut_behind old c.in-Some.row.now (string_bytes c.push_str.new.self) (c.len.result + c.from.result) c.in-Some.count
    c.in_ok-push_str-in-Some.ensures.bytes (omega arith) in
    let plain = all_escaped-run text (run_before is_unescaped c.in-Some.row.now c.in-Some.count
    (c.begins_unescaped.ensures.0 c.if-begins_unescaped.true)) in
    on_ok c.push_str-in-Some.result _ _ _ _ c.push_str-in-Some.ensures.bytes
    (written_end old (string_bytes c.truncate.new.self) c.args.text.now c.args.end.now
    (c.truncate.ensures.bytes ∙ kept ∙ ap (λ (l : List ℕ). old ++ l) (sym plain ∙ ap all_escaped c.in-Some.ensures.text)))

-- If the string is inline but not appended as a block, one of its bytes must be escaped.
pub push_slow-requires-clause-is_slow : goal.push_slow-requires-clause-is_slow
push_slow-requires-clause-is_slow c short = elim c.in_default.branch [
  | in_default-via-in_default w ↦ (
      let some : false ≡ true = rw w.in_default.is at (c.inline_padded.ensures.short short) in
      absurd cc
      )
  | in_default-via-in-Some+else-begins_unescaped w ↦ (
      let count = w.in-Some.count in
      let row = w.in-Some.row.now in
      let text : List ℕ = take count row in
      let is : text ≡ c.args.text.now = w.in-Some.ensures.text in
      let size : length text ≡ count = length-take-le count row (omega (arith, w.in-Some.ensures.size)) in
      let some : count ≤ prefix_len is_unescaped row → ⊥ = λ le.
      let yes : w.begins_unescaped.result ≡ true = w.begins_unescaped.ensures.1 le in
      let no : w.begins_unescaped.result ≡ false = w.if-begins_unescaped.false in
      cc in
      let within = prefix_len-le-length is_unescaped text in
      subst (λ (l : List ℕ). prefix_len is_unescaped l < length l) is
      (grind (arith, size, within, some, run_covers is_unescaped row count))
      )
]
