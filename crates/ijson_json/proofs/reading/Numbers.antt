-- If no byte of a number follows the leading number of a text, the number is the longest prefix
-- that begins a number.
use Rattle.std.proofs.Common.{◌≡◌, ℕ, ◌<◌, ◌≤◌, true, false, List, [], ◌∷◌, ◌++◌, get_or, length, take, drop, sym, ap}
use Rattle.std.proofs.Common.{subst, ◌∙◌, arith, inl, inr}
use Rattle.std.specs.Prelude.{IsTrue}
use Rattle.std.specs.Str.{IsUtf8, IsCharBoundary}
use Rattle.std.proofs.Math.Seq.{drop-append_seam, get_or-append_seam, take-append_seam}
use Rattle.std.proofs.lemmas.Bool.{cases_lt}
use Rattle.std.proofs.lemmas.Bool.Decides.{nat_tests}
use Rattle.std.proofs.lemmas.List.{get_or-take, get_or_append_left, length-append, length-take-le, take-append-drop}
use Rattle.std.proofs.lemmas.List.Elements.{All-from_recursion}
use Rattle.ijson_number.specs.Decimal.{Decimal}
use Rattle.ijson_number.specs.Num.{is_in_range}
use Rattle.ijson_number.specs.Grammar.{Spells}
use Rattle.ijson_number.specs.NumberBytes.{is_number_byte}
use Rattle.ijson_number.specs.NumberFront.{IsNumberFront, IsPastLimit}
use Rattle.ijson_number.proofs.parsing.Denotes.{spells_one}
use Rattle.ijson_number.proofs.parsing.NumberFronts.{front_within}
use Rattle.ijson_number.proofs.parsing.SpelledBytes.{spells_bytes}
use Rattle.ijson_json.specs.private.Reading.{Stops, NumberAt, PastLimitAt}
use Rattle.ijson_json.proofs.scanning.CharBoundaries.{behind_ascii}

-- A byte of a number is ASCII.
number_ascii : (b : ℕ) → is_number_byte b ≡ true → b < 128
number_ascii b h = grind (arith, nat_tests)

-- Each byte of a text that spells a number is a byte of a number.
number_byte : (text : List ℕ) (n : Decimal) → Spells text n → (k : ℕ) → k < length text → is_number_byte (get_or text k 0) ≡ true
number_byte text n s k l = All-from_recursion (λ b. IsTrue (is_number_byte b)) text (spells_bytes text n s) k 0 l

-- The end of a leading number is a character boundary.
pub spelled_boundary : (text : List ℕ) (count : ℕ) (n : Decimal) → IsUtf8 text → count ≤ length text → Spells (take count text) n
    → IsCharBoundary text count
spelled_boundary text count n u within s = behind_ascii text u count within
    (λ k h. number_ascii _ (rw (get_or-take count text k 0 h) at (number_byte (take count text) n s k
    (let e = length-take-le count text within in omega arith))))

-- A prefix that is not followed by a byte of a number is at least as long as the longest prefix
-- that begins a number.
not_inside : (text : List ℕ) (count : ℕ) → IsNumberFront text count → (front rest : List ℕ) → text ≡ front ++ rest → Stops rest
    → length front < count → ⊥
not_inside text count f front [] is stops less = let within = f.within in omega (arith, less, within, ap length is ∙ length-append front [])
not_inside text count f front (b ∷ rest) is stops less =
    let m = f.begins in
    let k : ℕ = length front in
    let long : length (take count text) ≡ count = length-take-le count text f.within in
    let byte : is_number_byte (get_or (take count text ++ m.0) k 0) ≡ true =
    number_byte (take count text ++ m.0) m.1 m.2 k (omega (arith, less, long, length-append (take count text) m.0)) in
    let same : get_or (take count text ++ m.0) k 0 ≡ b =
    get_or_append_left (take count text) m.0 0 k (omega (arith, long, less)) ∙ get_or-take count text k 0 less
    ∙ ap (λ (t : List ℕ). get_or t k 0) is ∙ get_or-append_seam front b rest 0 in
    let clash : true ≡ false = sym (rw same at byte) ∙ stops in
    cc

-- A leading number that is not followed by a byte of a number is the longest prefix that begins a
-- number.
number_count : (text : List ℕ) (count : ℕ) → IsNumberFront text count → (n : Decimal) (rest : List ℕ) (a : NumberAt text n rest)
    → count ≡ length a.found.front
number_count text count f n rest a =
    let most = front_within text count f a.found.front rest n a.found.is a.found.holds in
    elim (cases_lt (length a.found.front) count) [
      | inl less ↦ absurd (not_inside text count f a.found.front rest a.found.is a.stops less)
      | inr least ↦ omega (arith, most, least)
    ]

number_taken : (text : List ℕ) (count : ℕ) → IsNumberFront text count → (n : Decimal) (rest : List ℕ) → NumberAt text n rest
    → Spells (take count text) n × (drop count text ≡ rest)
number_taken text count f n rest a =
    let front = a.found.front in
    let e = number_count text count f n rest a in
    let taken : take count text ≡ front = ap (λ k. take k text) e ∙ ap (take (length front)) a.found.is ∙ take-append_seam front rest in
    let left : drop count text ≡ rest = ap (λ k. drop k text) e ∙ ap (drop (length front)) a.found.is ∙ drop-append_seam front rest in
    (subst (λ b. Spells b n) (sym taken) a.found.holds, left)

-- If the longest prefix that begins a number spells a number beyond the limit, each leading number
-- is beyond the limit.
pub past_limit : (text : List ℕ) (count : ℕ) → IsNumberFront text count → IsPastLimit (take count text) → PastLimitAt text
past_limit text count f p = record {
  each = λ n rest a. subst (λ (m : Decimal). is_in_range m ≡ false)
      (spells_one (take count text) p.0 n p.1 (number_taken text count f n rest a).0) p.2;
  rest = drop count text;
  beginning = record { front = take count text; holds = p; is = sym (take-append-drop count text) };
}
