use Rattle.std.proofs.Common.{take, refl, sym, ◌∙◌}
use Rattle.std.proofs.lemmas.List.{take-append-drop}
use Rattle.std.proofs.lemmas.Str.{IsUtf8-append, IsUtf8-string_bytes, IsUtf8-take}
use Rattle.ijson_json.specs.Strings.{is_unescaped}
use Rattle.ijson_json.proofs.scanning.UnescapedRuns.{run_passes, run_stops, run_boundary}
use Rattle.ijson_json.proofs.scan.run.push_run.Goals as goal

pub split_at-requires : goal.split_at-requires
split_at-requires c = rw (c.in_ok-count.ensures.count, c.as_bytes.ensures.value) (run_boundary c.args.text.now)

pub from_utf8_unchecked-requires : goal.from_utf8_unchecked-requires
from_utf8_unchecked-requires c =
    let text = c.args.text.now in
    rw (c.in_ok-count.ensures.run, c.into_bytes-bytes.ensures.value, c.in_ok-count.ensures.count, c.as_bytes.ensures.value)
    (IsUtf8-append _ (take _ text) (IsUtf8-string_bytes c.replace.result) (IsUtf8-take text _ c.utf8.text (run_boundary text)))

pub returns : goal.returns
returns c =
    let text = c.args.text.now in
    let count = c.in_ok-count.count in (
      take count text,
      rw c.split_at.ensures.back (sym (take-append-drop count text)),
      rw (c.in_ok-count.ensures.count, c.as_bytes.ensures.value) (run_passes is_unescaped text),
      rw (c.split_at.ensures.back, c.in_ok-count.ensures.count, c.as_bytes.ensures.value) (run_stops is_unescaped text),
      rw c.from_utf8_unchecked.ensures.value (c.in_ok-count.ensures.run
          ∙ rw (c.into_bytes-bytes.ensures.value, c.replace.ensures.value, c.as_bytes.ensures.value) refl),
    )
