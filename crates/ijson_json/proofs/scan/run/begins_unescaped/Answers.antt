use Rattle.std.proofs.Common.{◌≡◌, ℕ, suc, ◌<◌, ◌/◌, List, [], ◌∷◌, length, get_or, refl, ap, ◌∙◌, arith}
use Rattle.std.specs.List.{prefix_len}
use Rattle.std.proofs.lemmas.Bool.Decides.{nat_tests}
use Rattle.std.proofs.lemmas.List.{ext_get_or}
use lib.Count.{count_trailing_zeros}
use Rattle.ijson_json.specs.Strings.{is_unescaped}
use Rattle.ijson_json.proofs.scanning.SpecialMasks.{run_in_last}
use Rattle.ijson_json.proofs.scan.run.begins_unescaped.Goals as goal

-- The list of the first seven bytes of `row`.
abbrev bytes_of : List ℕ → List ℕ
bytes_of row = get_or row 0 0 ∷ get_or row 1 0 ∷ get_or row 2 0 ∷ get_or row 3 0 ∷ get_or row 4 0 ∷ get_or row 5 0 ∷ get_or row 6 0 ∷ []

byte_at : (row : List ℕ) (i : ℕ) → i < 7 → get_or (bytes_of row) i 0 ≡ get_or row i 0
byte_at row (suc (suc (suc (suc (suc (suc (suc i))))))) below = absurd (omega (arith, below))
byte_at row i below = refl

is_row : (row : List ℕ) → length row ≡ 7 → bytes_of row ≡ row
is_row row long = ext_get_or 0 (bytes_of row) row (omega (arith, long)) (byte_at row)

pub returns : goal.returns
returns c =
    let row = c.as_bytes.result.now in
    let run : count_trailing_zeros 64 (c.specials_and_end-found.result / 2) ≡ prefix_len is_unescaped c.args.row.now =
    run_in_last (c.args.count ∷ bytes_of row) 8 1 c.specials_and_end-found.result (omega arith) (omega arith) (omega arith) (omega arith)
    c.specials_and_end-found.ensures
    ∙ ap (prefix_len is_unescaped) (is_row row (omega arith) ∙ c.as_bytes.ensures.value) in
    grind (arith, nat_tests, run)
