-- A run of unescaped bytes is written unchanged. If writing a string fails, a proper prefix of the
-- string with its escapes was written.
use Rattle.std.proofs.Common.{◌≡◌, ℕ, ◌<◌, ◌/◌, ◌%◌, false, cond, List, [], ◌∷◌, ◌++◌, Result}
use Rattle.std.proofs.Common.{Ok, Err, refl, sym, ap, ap₂, ◌∙◌, append_assoc, arith}
use Rattle.std.specs.Prelude.{IsTrue, ◌==◌, ◌≢◌, nat_lt, OnOk, OnErr, Some, is_ok, if◌then◌else◌}
use Rattle.std.specs.Char.{encode_utf8}
use Rattle.std.proofs.lemmas.Bool.Decides.{nat_tests}
use Rattle.std.proofs.lemmas.List.{append-nil}
use Rattle.std.proofs.lemmas.Str.{encode_ascii}
use Rattle.ijson_json.specs.Strings.{is_unescaped}
use Rattle.ijson_json.specs.Print.{escaped, all_escaped, hex_text}
use Rattle.ijson_json.specs.WritesBeginning.{WritesBeginning}
use Rattle.ijson_json.specs.private.Reading.{Past}
use Rattle.ijson_json.proofs.scanning.Prefixes.{Run}
use Rattle.ijson_json.proofs.scanning.UnescapedRuns.{special_ascii}

-- An unescaped byte is written unchanged.
escaped_plain : (b : ℕ) → IsTrue (is_unescaped b) → escaped b ≡ b ∷ []
unfolding escaped
escaped_plain b h = grind (arith, nat_tests)

-- Escaping a run of unescaped bytes and the text after it changes only the text after the run.
run-append : (run after : List ℕ) → Run is_unescaped run → all_escaped (run ++ after) ≡ run ++ all_escaped after
run-append [] after h = refl
run-append (b ∷ run) after h = ap₂ ◌++◌ (escaped_plain b h.0) (run-append run after h.1)

-- A run of unescaped bytes is written unchanged.
pub all_escaped-run : (run : List ℕ) → Run is_unescaped run → all_escaped run ≡ run
all_escaped-run run h = let all = run-append run [] h in simp append-nil at all

-- If `out` is `old` and the escaped text, appending `end` to `out` appends the escaped text and
-- `end` to `old`.
pub written_end : (old out text end : List ℕ) → out ≡ old ++ all_escaped text → out ++ end ≡ old ++ (all_escaped text ++ end)
written_end old out text end e = ap (λ (l : List ℕ). l ++ end) e ∙ append_assoc old (all_escaped text) end

-- If the first byte of `after` is neither unescaped nor ASCII, `after` is empty: a byte from 128 on
-- is unescaped.
pub nothing_left : (after : List ℕ) → Past is_unescaped after → Past (λ b. nat_lt b 128) after → after ≡ []
nothing_left [] p q = refl
nothing_left (b ∷ more) p q = absurd (grind (arith, nat_tests, special_ascii b p, q))

-- If a successful last append yields `want`, the clause for `Ok` holds.
pub on_ok : {A E : Type 0} (r : Result A E) (new longer same want : List ℕ) → new ≡ (if is_ok r then longer else same) → longer ≡ want
    → OnOk r (new ≡ want)
on_ok (Ok a) new longer same want e f = e ∙ f
on_ok (Err x) new longer same want e f = tt

-- ---- failed allocations

-- If a failed last append leaves the output unchanged, and `P` follows from that, the clause for
-- `Err` holds.
pub on_refused : {A E : Type 0} {P : Type 0} (r : Result A E) (new longer same : List ℕ) → new ≡ (if is_ok r then longer else same)
    → (new ≡ same → P) → OnErr r P
on_refused (Ok a) new longer same e f = tt
on_refused (Err x) new longer same e f = f e

-- If `done` was appended and `more` is not empty, a proper prefix of `done ++ more` was written.
pub begun : (old new done more text : List ℕ) → new ≡ old ++ done → more ≢ [] → text ≡ done ++ more
    → WritesBeginning (Some old) (Some new) text
begun old new done more text e some f = record {
  front = done;
  rest = more;
  is = f;
  unfinished = some;
  taken = e;
}

-- If `s` is not empty, neither is `s ++ t`.
not_empty : (s t : List ℕ) → s ≢ [] → s ++ t ≢ []
not_empty [] t some e = some refl
not_empty (b ∷ s) t some e = cc e

-- If `done` and a proper prefix of `piece` were written, a proper prefix of
-- `done ++ (piece ++ behind)` was written.
pub begun_piece : (old out new done piece behind text : List ℕ) → out ≡ old ++ done → WritesBeginning (Some out) (Some new) piece
    → text ≡ done ++ (piece ++ behind) → WritesBeginning (Some old) (Some new) text
begun_piece old out new done piece behind text e w f = record {
  front = done ++ w.front;
  rest = w.rest ++ behind;
  is = f ∙ rw w.is (simp append_assoc);
  unfinished = not_empty w.rest behind w.unfinished;
  taken = w.taken ∙ rw e (append_assoc old done w.front);
}

-- If `done` was written and a failed append wrote a proper prefix of `rest`, a proper prefix of
-- `done ++ rest` was written.
pub on_begun : {A E : Type 0} (r : Result A E) (old out new done rest text : List ℕ) → out ≡ old ++ done
    → OnErr r (WritesBeginning (Some out) (Some new) rest) → text ≡ done ++ rest → OnErr r (WritesBeginning (Some old) (Some new) text)
on_begun (Ok a) old out new done rest text e w f = tt
on_begun (Err x) old out new done rest text e w f =
    begun_piece old out new done rest [] text e w (f ∙ ap (λ (l : List ℕ). done ++ l) (sym (append-nil rest)))

-- ---- the escaped text, run by run and escape by escape

-- If `end` is not empty, neither is `s ++ end`.
end_left : (s end : List ℕ) → end ≢ [] → s ++ end ≢ []
end_left [] end some e = some e
end_left (b ∷ s) end some e = cc e

-- Holds if `out` is `old` and the escaped part of `text` before `left`.
pub record Escaping (old out text left : List ℕ) : Type 0 where
  pub done : List ℕ
  pub is : out ≡ old ++ done
  pub whole : all_escaped text ≡ done ++ all_escaped left

module _ {old out text left : List ℕ} (w : Escaping old out text left) where
  -- If `left` begins with an unescaped run, appending the run leaves the text after the run to
  -- write.
  pub escaping_run : {new : List ℕ} (run after : List ℕ) → left ≡ run ++ after → Run is_unescaped run → new ≡ out ++ run
      → Escaping old new text after
  escaping_run run after e h f = record {
    done = w.done ++ run;
    is = rw (f, w.is) (append_assoc old w.done run);
    whole = w.whole ∙ rw (e, run-append run after h) (sym (append_assoc w.done run (all_escaped after)));
  }

  -- If `left` begins with `b`, appending the escape of `b` leaves the text after `b` to write.
  pub escaping_byte : {new : List ℕ} (b : ℕ) (rest : List ℕ) → left ≡ b ∷ rest → new ≡ out ++ escaped b → Escaping old new text rest
  escaping_byte b rest e f = record {
    done = w.done ++ escaped b;
    is = rw (f, w.is) (append_assoc old w.done (escaped b));
    whole = w.whole ∙ rw e (sym (append_assoc w.done (escaped b) (all_escaped rest)));
  }

  -- If `left` is empty, appending `end` completes the escaped text and `end`.
  pub escaping_end : (end : List ℕ) → left ≡ [] → out ++ end ≡ old ++ (all_escaped text ++ end)
  escaping_end end e = rw (w.is, w.whole, e, append-nil w.done) (append_assoc old w.done end)

  -- If an append fails without writing anything, and `end` is not empty, a proper prefix of the
  -- escaped text and `end` was written.
  pub escaping_begun : {new : List ℕ} (end : List ℕ) → end ≢ [] → new ≡ out
      → WritesBeginning (Some old) (Some new) (all_escaped text ++ end)
  escaping_begun end some same = record {
    front = w.done;
    rest = all_escaped left ++ end;
    is = rw w.whole (append_assoc w.done (all_escaped left) end);
    unfinished = end_left (all_escaped left) end some;
    taken = same ∙ w.is;
  }

  -- If an append fails within the escape of `b`, a proper prefix of the escaped text and `end` was
  -- written.
  pub escaping_begun_escape : {new : List ℕ} (end : List ℕ) (b : ℕ) (rest : List ℕ) → left ≡ b ∷ rest
      → WritesBeginning (Some out) (Some new) (escaped b) → WritesBeginning (Some old) (Some new) (all_escaped text ++ end)
  escaping_begun_escape {new} end b rest e begun =
      begun_piece old out new w.done (escaped b) (all_escaped rest ++ end) (all_escaped text ++ end) w.is begun
      (rw (w.whole, e) (simp append_assoc))

-- ---- the escape of a byte

-- The letter after the backslash in the escape of a byte, or `u` if the byte does not have a
-- letter.
abbrev pub letter_of : ℕ → ℕ
letter_of b =
    cond (b == 34) 34 (cond (b == 92) 92
    (cond (b == 8) 98 (cond (b == 9) 116 (cond (b == 10) 110 (cond (b == 12) 102 (cond (b == 13) 114 117))))))

-- The letter after the backslash is ASCII.
letter_ascii : (b : ℕ) → letter_of b < 128
letter_ascii b = grind (arith, nat_tests)

-- If a byte has a letter other than `u`, its escape is a backslash and this letter.
escaped_letter : (b : ℕ) → letter_of b ≢ 117 → escaped b ≡ 92 ∷ letter_of b ∷ []
unfolding escaped
escaped_letter b h = grind (arith, nat_tests)

-- A byte that must be escaped and lacks a letter is a control character, with the escape `\u00..`.
pub escaped_control : (b : ℕ) → is_unescaped b ≡ false → letter_of b ≡ 117
    → (b < 32) × (escaped b ≡ 92 ∷ 117 ∷ 48 ∷ 48 ∷ hex_text (b / 16) ∷ hex_text (b % 16) ∷ [])
unfolding escaped
escaped_control b h k = (grind (arith, nat_tests), grind (arith, nat_tests))

module _ (old : List ℕ) (b letter : ℕ) (e : letter ≡ letter_of b) (other : letter ≢ 117) where
  escape_is : escaped b ≡ 92 ∷ letter ∷ []
  escape_is = escaped_letter b (rw e at other) ∙ ap (λ (n : ℕ). 92 ∷ n ∷ []) (sym e)

  -- Appending a backslash and the letter of `b` appends the escape of `b`.
  pub letter_written : {out : List ℕ} → out ≡ old ++ encode_utf8 92 → out ++ encode_utf8 letter ≡ old ++ escaped b
  letter_written f = rw (escape_is, f, encode_ascii 92 (omega arith), encode_ascii letter (omega (arith, letter_ascii b, e)))
      (append_assoc old (92 ∷ []) (letter ∷ []))

  -- If the backslash was written but not the letter, a proper prefix of the escape was written.
  pub letter_begun : {out new : List ℕ} → out ≡ old ++ encode_utf8 92 → new ≡ out → WritesBeginning (Some old) (Some new) (escaped b)
  letter_begun {out} {new} f same = rw escape_is (begun old new (92 ∷ []) (letter ∷ []) (92 ∷ letter ∷ [])
      (same ∙ rw (encode_ascii 92 (omega arith)) at f) (λ n. cc n) refl)

  -- If the backslash was not written, a proper prefix of the escape was written: the empty one.
  pub letter_unbegun : {new : List ℕ} → new ≡ old → WritesBeginning (Some old) (Some new) (escaped b)
  letter_unbegun {new} same = rw escape_is (begun old new [] (92 ∷ letter ∷ []) (92 ∷ letter ∷ []) (same ∙ sym (append-nil old))
      (λ n. cc n) refl)
