-- Lemmas about white space: its mask, splitting a text after it, and skipping it.
use Rattle.std.proofs.Common.{◌≡◌, ℕ, ◌<◌, ◌%◌, ◌^◌, Bool, true, false, List, [], ◌∷◌, map, length, take, drop}
use Rattle.std.proofs.Common.{refl, sym, ap, ◌∙◌, arith, eqb, replicate}
use Rattle.std.specs.Prelude.{IsTrue, not, ◌||◌}
use Rattle.std.specs.List.{prefix_len}
use Rattle.std.specs.Str.{IsUtf8, IsCharBoundary}
use Rattle.std.proofs.lemmas.Bool.Decides.{nat_tests}
use Rattle.std.proofs.lemmas.List.{take-append-drop}
use Rattle.std.proofs.lemmas.List.Sums.{prefix_len_passes, prefix_len-le-length}
use Rattle.std.proofs.lemmas.Simd.{zip2_of_maps, zip2_splat}
use lib.Bits.{bit_and}
use lib.Lanes.{mask_l, top, zip2}
use Rattle.ijson_json.specs.Grammar.{is_space}
use Rattle.ijson_json.specs.private.Reading.{Past, Skips}
use Rattle.ijson_json.proofs.scanning.CharBoundaries.{behind_ascii}
use Rattle.ijson_json.proofs.scanning.LaneMasks.{lit, lanes_mask}
use Rattle.ijson_json.proofs.scanning.UnescapedRuns.{run_passes, run_stops}

-- The lane of a byte in the intersection of the four comparisons.
abbrev lane : ℕ → ℕ
lane b = bit_and (bit_and (bit_and (lit (not (eqb b 32))) (lit (not (eqb b 10)))) (lit (not (eqb b 13)))) (lit (not (eqb b 9)))

-- The high bit of the intersection is set if and only if the byte is not white space.
four : (space feed return tab : Bool)
    → top 7 (bit_and (bit_and (bit_and (lit (not space)) (lit (not feed))) (lit (not return))) (lit (not tab)))
    ≡ not (space || (tab || (feed || return)))
four true true true true = refl
four true true false true = refl
four true false true true = refl
four true false false true = refl
four false true true true = refl
four false true false true = refl
four false false true true = refl
four false false false true = refl
four space feed return tab = refl

-- The mask of the intersection of the four vector comparisons is the mask of the bytes that are not
-- white space.
pub others_mask : (v : List ℕ) → length v ≡ 16
    → mask_l (map (top 7) (zip2 bit_and (zip2 bit_and (zip2 bit_and (zip2 (λ a b. lit (not (eqb a b))) v (replicate 16 32))
    (zip2 (λ a b. lit (not (eqb a b))) v (replicate 16 10))) (zip2 (λ a b. lit (not (eqb a b))) v (replicate 16 13)))
    (zip2 (λ a b. lit (not (eqb a b))) v (replicate 16 9)))) % 2 ^ 64
    ≡ mask_l (map (λ b. not (is_space b)) v)
others_mask v long =
    let splat = λ (k : ℕ). zip2_splat (λ a b. lit (not (eqb a b))) v 16 k long in
    lanes_mask lane (λ b. not (is_space b)) (λ b. four (eqb b 32) (eqb b 10) (eqb b 13) (eqb b 9)) v _ (omega arith)
    (zip2_of_maps bit_and _ _ v (zip2_of_maps bit_and _ _ v (zip2_of_maps bit_and _ _ v (splat 32) (splat 10)) (splat 13)) (splat 9))

-- A byte of white space is ASCII.
pub space_ascii : (b : ℕ) → is_space b ≡ true → b < 128
space_ascii b h = grind (arith, nat_tests)

-- The end of the leading white space is a character boundary.
pub space_boundary : (text : List ℕ) → IsUtf8 text → IsCharBoundary text (prefix_len is_space text)
space_boundary text u = behind_ascii text u _ (prefix_len-le-length is_space text)
    (λ k h. space_ascii _ (prefix_len_passes is_space text k 0 h))

-- If the first byte is not white space, skipping white space returns the whole text.
pub none_skipped : (text : List ℕ) → Past is_space text → Skips text text
none_skipped text p = record { space = []; passed = tt; is = refl; past = p }

-- If `rest` is `more` without its leading white space, and `b` is white space, `rest` is `b ∷ more`
-- without its leading white space.
pub one_skipped : (text more rest : List ℕ) → (b : ℕ) × IsTrue (is_space b) × (text ≡ b ∷ more) → Skips more rest → Skips text rest
one_skipped text more rest (b, w, e) s =
    record { space = b ∷ s.space; passed = (w, s.passed); is = e ∙ ap (λ (l : List ℕ). b ∷ l) s.is; past = s.past }

-- Dropping the longest run of white space skips all leading white space.
pub run_skipped : (text : List ℕ) → Skips text (drop (prefix_len is_space text) text)
run_skipped text = record {
  space = take (prefix_len is_space text) text;
  passed = run_passes is_space text;
  is = sym (take-append-drop (prefix_len is_space text) text);
  past = run_stops is_space text;
}
