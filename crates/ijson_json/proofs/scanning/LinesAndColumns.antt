-- A line feed increases the line count by 1 and resets the character count. Any other byte keeps
-- the line count.
use Rattle.std.proofs.Common.{◌≡◌, ◌≢◌, ◌+◌, ◌++◌, ◌<◌, ◌≤◌, ℕ, suc, Bool, List, [], ◌∷◌, inr, true, false, cond}
use Rattle.std.proofs.Common.{length, take, length-take, refl, sym, ap, ◌∙◌, arith, append_assoc}
use Rattle.std.specs.Prelude.{nat_eq}
use Rattle.std.proofs.lemmas.Bool.Decides.{nat_tests}
use Rattle.std.proofs.lemmas.List.{append-nil, length-append}
use Rattle.ijson_json.specs.LineColumn.{begins, line_feeds, characters, Counts}

-- Adding 1 if `b` is true adds the number `cond b 1 0`, which is at most 1.
tally : (b : Bool) (n : ℕ) → (cond b (suc n) n ≡ cond b 1 0 + n) × (cond b 1 0 ≤ 1)
tally true n = (omega arith, omega arith)
tally false n = (omega arith, omega arith)

line_feeds-append : (xs ys : List ℕ) → line_feeds (xs ++ ys) ≡ line_feeds xs + line_feeds ys
line_feeds-append [] ys = omega arith
line_feeds-append (x ∷ xs) ys =
    omega (arith, tally (nat_eq x 10) (line_feeds (xs ++ ys)), tally (nat_eq x 10) (line_feeds xs), line_feeds-append xs ys)

characters-append : (xs ys : List ℕ) → characters (xs ++ ys) ≡ characters xs + characters ys
characters-append [] ys = omega arith
characters-append (x ∷ xs) ys =
    omega (arith, tally (begins x) (characters (xs ++ ys)), tally (begins x) (characters xs), characters-append xs ys)

-- A line feed increases the line count by 1 and resets the character count to 0.
pub line_feed_passed : (bytes : List ℕ) (lines more : ℕ) → Counts bytes lines more → Counts (bytes ++ 10 ∷ []) (lines + 1) 0
line_feed_passed bytes lines more f = (
  bytes ++ 10 ∷ [],
  [],
  sym (append-nil (bytes ++ 10 ∷ [])),
  inr (bytes, refl),
  refl,
  omega (arith, f.5, line_feeds-append bytes (10 ∷ [])),
  refl,
)

-- A byte other than a line feed keeps the line count, and increases the character count if it
-- begins a character.
pub byte_passed : (bytes : List ℕ) (lines more b now : ℕ) → Counts bytes lines more → b ≢ 10 → now ≡ more + cond (begins b) 1 0
    → Counts (bytes ++ b ∷ []) lines now
byte_passed bytes lines more b now f other counts =
    let none : line_feeds (b ∷ []) ≡ 0 = grind (arith, nat_tests, other) in (
      f.0,
      f.1 ++ b ∷ [],
      ap (λ xs. xs ++ b ∷ []) f.2 ∙ append_assoc f.0 f.1 (b ∷ []),
      f.3,
      omega (arith, line_feeds-append f.1 (b ∷ []), f.4, none),
      omega (arith, f.5, line_feeds-append bytes (b ∷ []), none),
      omega (arith, f.6, characters-append f.1 (b ∷ []), tally (begins b) 0, counts),
    )

-- The number of line feeds is at most the number of bytes.
line_feeds-within : (bytes : List ℕ) → line_feeds bytes ≤ length bytes
line_feeds-within [] = omega arith
line_feeds-within (b ∷ bytes) = omega (arith, tally (nat_eq b 10) (line_feeds bytes), line_feeds-within bytes)

characters-within : (bytes : List ℕ) → characters bytes ≤ length bytes
characters-within [] = omega arith
characters-within (b ∷ bytes) = omega (arith, tally (begins b) (characters bytes), characters-within bytes)

-- The line count and the character count of a proper prefix are less than the length of the whole
-- list.
pub passed_within : (bytes : List ℕ) (at lines more : ℕ) → at < length bytes → Counts (take at bytes) lines more
    → (lines < length bytes) × (more < length bytes)
passed_within bytes at lines more before f = (
  omega (arith, f.5, line_feeds-within (take at bytes), length-take at bytes),
  omega (arith, f.6, characters-within f.1, ap length f.2, length-append f.0 f.1, length-take at bytes),
)
