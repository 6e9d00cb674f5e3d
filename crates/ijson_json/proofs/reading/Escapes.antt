-- Lemmas about leading escapes: hexadecimal digits, codes, surrogate pairs and whole escapes.
use Rattle.std.proofs.Common.{◌≡◌, ℕ, ◌+◌, ◌*◌, ◌<◌, ◌≤◌, false, cond, List, [], ◌∷◌, ◌++◌, length, get_or, drop, Option, Some, None, refl, sym}
use Rattle.std.proofs.Common.{ap, ◌∙◌, append_assoc, arith, inl, inr}
use Rattle.std.specs.Prelude.{IsTrue, ◌||◌, ◌==◌, ◌⊎◌, ◌≢◌, nat_lt}
use Rattle.std.specs.Char.{encode_utf8, InScalarRange, OutOfScalarRange}
use Rattle.std.specs.Str.Pattern.{FindsTextPrefix, StripsPrefix}
use Rattle.std.proofs.lemmas.Bool.{lt-ltb}
use Rattle.std.proofs.lemmas.Bool.Decides.{nat_tests}
use Rattle.std.proofs.lemmas.Str.{encode_ascii}
use Rattle.ijson_json.specs.Strings.{is_unescaped, short_escape, hex_digit, Hex, is_high_surrogate, is_low_surrogate, Character}
use Rattle.ijson_json.specs.Strings.{unescaped, short, unicode, pair}
use Rattle.ijson_json.specs.private.Reading.{Past}
use Rattle.ijson_json.specs.private.StringReading.{hex_code, HexAt, CharacterAt, NoHex, NoCharacter, NoEscape, NoLow, LowAt}
use Rattle.ijson_json.proofs.scanning.Prefixes.{not_both, past_first, heads, tails}
use Rattle.ijson_json.proofs.grammar.StringBodies.{four_digits, hex_same}

-- ---- prefixes and short escapes

-- If stripping `prefix` from `text` returns `rest`, `text` is `prefix ++ rest`.
pub strips_text : (prefix text rest : List ℕ) → StripsPrefix (FindsTextPrefix prefix) text rest → text ≡ prefix ++ rest
strips_text prefix text rest (n, at, e, f) = at.1 ∙ ap (λ (l : List ℕ). prefix ++ l) (sym e)

-- The letter of a short escape is ASCII.
short_ascii : (b m : ℕ) → short_escape b ≡ Some m → b < 128
unfolding short_escape
short_ascii b m h = grind (arith, nat_tests)

-- The byte that the letter `b` denotes after a backslash, or `.` if the escape is invalid.
abbrev pub meaning_of : ℕ → ℕ
meaning_of b =
    cond ((b == 34) || ((b == 92) || (b == 47))) b
    (cond (b == 98) 8 (cond (b == 102) 12 (cond (b == 110) 10 (cond (b == 114) 13 (cond (b == 116) 9 46)))))

-- If `meaning_of b` is not `.`, the escape letter `b` denotes the byte `meaning_of b`, which is
-- ASCII.
pub meaning_found : (b : ℕ) → meaning_of b ≢ 46 → (short_escape b ≡ Some (meaning_of b)) × (meaning_of b < 128)
unfolding short_escape
meaning_found b h = (grind (arith, nat_tests), grind (arith, nat_tests))

-- If `meaning_of b` is `.`, the letter `b` is not the letter of an escape.
pub meaning_none : (b : ℕ) → meaning_of b ≡ 46 → short_escape b ≡ None
unfolding short_escape
meaning_none b h = grind (arith, nat_tests)

-- ---- four digits

-- The value of a hexadecimal digit is below 16, and the digit is ASCII.
pub digit_small : (b d : ℕ) → hex_digit b ≡ Some d → (d < 16) × (b < 128)
unfolding hex_digit
digit_small b d h = (grind (arith, nat_tests), grind (arith, nat_tests))

-- If `hex_code o` is a value `v` below 65536, `o` is `Some v`.
pub code_digit : (o : Option ℕ) (v : ℕ) → v ≡ hex_code o → v < 65536 → o ≡ Some v
code_digit (Some d) v is less = ap Some (sym is)
code_digit None v is less = absurd (omega arith)

-- If the codes of the first four bytes, as digits in base 16, have a value below 65536, the text
-- begins with four hexadecimal digits that have this value.
pub hex_at : (text bytes rest : List ℕ) (x y z w : ℕ) → bytes ≡ text → 4 ≤ length bytes → rest ≡ drop 4 text
    → x ≡ hex_code (hex_digit (get_or bytes 0 0)) → y ≡ hex_code (hex_digit (get_or bytes 1 0))
    → z ≡ hex_code (hex_digit (get_or bytes 2 0)) → w ≡ hex_code (hex_digit (get_or bytes 3 0))
    → x * 4096 + (y * 256 + (z * 16 + w)) < 65536 → HexAt text (x * 4096 + (y * 256 + (z * 16 + w))) rest
hex_at text (a ∷ b ∷ c ∷ d ∷ more) rest x y z w t l e f g h i less =
    let behind : rest ≡ more = e ∙ ap (λ (l : List ℕ). drop 4 l) (sym t) in (
      a ∷ b ∷ c ∷ d ∷ [],
      four_digits (code_digit _ x f (omega arith)) (code_digit _ y g (omega arith)) (code_digit _ z h (omega arith))
          (code_digit _ w i (omega arith)) refl,
      rw behind (sym t),
    )
hex_at text bytes rest x y z w t l e f g h i less = absurd (omega arith)

-- If the codes of the first four bytes, as digits in base 16, have a value of at least 65536, the
-- text does not begin with four hexadecimal digits.
pub no_hex : (text bytes : List ℕ) (x y z w : ℕ) → bytes ≡ text
    → x ≡ hex_code (hex_digit (get_or bytes 0 0)) → y ≡ hex_code (hex_digit (get_or bytes 1 0))
    → z ≡ hex_code (hex_digit (get_or bytes 2 0)) → w ≡ hex_code (hex_digit (get_or bytes 3 0))
    → 65536 ≤ x * 4096 + (y * 256 + (z * 16 + w)) → NoHex text
no_hex text bytes x y z w t f g i j over u rest (h, hex, e) =
    let is : bytes ≡ hex.a ∷ hex.b ∷ hex.c ∷ hex.d ∷ rest = t ∙ e ∙ ap (λ (l : List ℕ). l ++ rest) hex.text_is in
    let first : x ≡ hex.x = rw (is, hex.first) at f in
    let second : y ≡ hex.y = rw (is, hex.second) at g in
    let third : z ≡ hex.z = rw (is, hex.third) at i in
    let fourth : w ≡ hex.w = rw (is, hex.fourth) at j in
    omega (arith, digit_small _ _ hex.first, digit_small _ _ hex.second, digit_small _ _ hex.third, digit_small _ _ hex.fourth)

-- ---- after a backslash and `u`

-- `u` is not the letter of a short escape.
short_u : (c : ℕ) → short_escape 117 ≡ Some c → ⊥
unfolding short_escape
short_u c h = absurd cc

-- Holds if the code after `\u` is not a surrogate, so that the code alone is a character.
pub record Alone (text m rest : List ℕ) : Type 0 where
  pub u : ℕ
  pub hex : HexAt text u rest
  pub not_high : is_high_surrogate u ≡ false
  pub not_low : is_low_surrogate u ≡ false

pub record Both (text m rest : List ℕ) : Type 0 where
  pub u : ℕ
  pub l : List ℕ
  pub v : ℕ
  pub hex : HexAt text u (92 ∷ 117 ∷ (l ++ rest))
  pub high : IsTrue (is_high_surrogate u)
  pub other : Hex l v
  pub low : IsTrue (is_low_surrogate v)

-- The character after `\u` is one code, or the two codes of a surrogate pair.
unit_cases : (text m rest : List ℕ) → CharacterAt (92 ∷ 117 ∷ text) m rest → Alone text m rest ⊎ Both text m rest
unit_cases text m rest (w, c, e) = go c e
  where
    go : {w m : List ℕ} → Character w m → 92 ∷ 117 ∷ text ≡ w ++ rest → Alone text m rest ⊎ Both text m rest
    go (unescaped {b} h) e = absurd (not_both (is_unescaped 92) (let f : b ≡ 92 = heads _ _ _ _ (sym e) in rw f at h) refl)
    go (short {b} {c} g) e = absurd (let f : b ≡ 117 = heads _ _ _ _ (tails _ _ _ _ (sym e)) in short_u c (rw f at g))
    go (unicode {h} {u} g i j) e = inl (record { u = u; hex = (h, g, tails _ _ _ _ (tails _ _ _ _ e)); not_high = i; not_low = j })
    go (pair {h} {l} {u} {v} g i j k) e = inr (record {
      u = u;
      l = l;
      v = v;
      hex = (h, g, tails _ _ _ _ (tails _ _ _ _ e) ∙ append_assoc h (92 ∷ 117 ∷ l) rest);
      high = i;
      other = j;
      low = k;
    })

-- If four hexadecimal digits do not follow `\u`, a character does not begin at `\u`.
pub no_unicode : (text : List ℕ) → NoHex text → NoCharacter (92 ∷ 117 ∷ text)
no_unicode text n m rest a = elim (unit_cases text m rest a) [ inl o ↦ n o.u rest o.hex | inr b ↦ n b.u (92 ∷ 117 ∷ (b.l ++ rest)) b.hex ]

-- The value of four leading hexadecimal digits, and the text after them, are unique.
hex_at_same : (text : List ℕ) (u v : ℕ) (r s : List ℕ) → HexAt text u r → HexAt text v s → (u ≡ v) × (r ≡ s)
hex_at_same text u v r s (h, x, e) (l, y, f) = let same = hex_same h l u v r s x y (sym e ∙ f) in (same.0, same.1.1)

-- A high surrogate without the escape of a low surrogate after it is not a character.
pub no_low : (text : List ℕ) (u : ℕ) (rest : List ℕ) → HexAt text u rest → IsTrue (is_high_surrogate u) → NoLow rest
    → NoCharacter (92 ∷ 117 ∷ text)
no_low text u rest h i n m other a = elim (unit_cases text m other a) [
  | inl o ↦ not_both (is_high_surrogate u) i (rw (← (hex_at_same text u o.u rest other h o.hex).0) at o.not_high)
  | inr b ↦ n b.l b.v other b.other b.low (hex_at_same text u b.u rest _ h b.hex).1
]

-- A low surrogate without a high surrogate before it is not a character.
pub no_alone : (text : List ℕ) (u : ℕ) (rest : List ℕ) → HexAt text u rest → is_high_surrogate u ≡ false → IsTrue (is_low_surrogate u)
    → NoCharacter (92 ∷ 117 ∷ text)
no_alone text u rest h i j m other a = elim (unit_cases text m other a) [
  | inl o ↦ not_both (is_low_surrogate u) j (rw (← (hex_at_same text u o.u rest other h o.hex).0) at o.not_low)
  | inr b ↦ not_both (is_high_surrogate u) (rw (← (hex_at_same text u b.u rest _ h b.hex).0) at b.high) i
]

-- The escape of a code that is not a surrogate spells a character.
pub found_alone : (text : List ℕ) (u : ℕ) (rest : List ℕ) → HexAt text u rest → is_high_surrogate u ≡ false → is_low_surrogate u ≡ false
    → CharacterAt (92 ∷ 117 ∷ text) (encode_utf8 u) rest
found_alone text u rest (h, x, e) i j = (92 ∷ 117 ∷ h, unicode x i j, ap (λ (l : List ℕ). 92 ∷ 117 ∷ l) e)

-- The escapes of a high surrogate and a low surrogate spell one character.
pub found_both : (text : List ℕ) (u : ℕ) (rest m other : List ℕ) → HexAt text u rest → IsTrue (is_high_surrogate u) → LowAt u rest m other
    → CharacterAt (92 ∷ 117 ∷ text) m other
found_both text u rest m other (h, x, e) i (l, v, y, j, f, g) =
    rw g (92 ∷ 117 ∷ (h ++ 92 ∷ 117 ∷ l), pair x i y j, rw (e, f) (simp append_assoc))

-- If four hexadecimal digits do not follow `\u`, the escape of a low surrogate does not begin at
-- `\u`.
pub no_low_hex : (text behind : List ℕ) → text ≡ 92 ∷ 117 ∷ behind → NoHex behind → NoLow text
no_low_hex text behind e n l v rest h i f = n v rest (l, h, tails _ _ _ _ (tails _ _ _ _ (sym e ∙ f)))

-- A Unicode scalar value is not a low surrogate.
pub scalar_not_low : (u : ℕ) → InScalarRange u → is_low_surrogate u ≡ false
scalar_not_low u (inl h) = grind (arith, nat_tests)
scalar_not_low u (inr h) = let a : 0xE000 ≤ u = omega arith in grind (arith, nat_tests)

-- A code below 65536 that is neither a Unicode scalar value nor a high surrogate is a low
-- surrogate.
pub not_scalar_low : (u : ℕ) → OutOfScalarRange u → u < 65536 → is_high_surrogate u ≡ false → IsTrue (is_low_surrogate u)
not_scalar_low u o h i = grind (arith, nat_tests)

-- ---- an escape

-- A backslash and the letter of a short escape spell a character.
pub escape_found : (text letters rest : List ℕ) (c m : ℕ) → text ≡ 92 ∷ letters → letters ≡ c ∷ rest → short_escape c ≡ Some m → m < 128
    → CharacterAt text (encode_utf8 m) rest
escape_found text letters rest c m e f h ascii =
    rw (encode_ascii m ascii) (92 ∷ c ∷ [], short h, rw f at e)

-- If the letter after the backslash is not ASCII, the text does not begin with an escape.
pub escape_wide : (text letters : List ℕ) → text ≡ 92 ∷ letters → Past (λ b. nat_lt b 128) letters → NoEscape text
escape_wide text letters t past others g m more (w, c, e) = go c (sym t ∙ e)
  where
    go : {w m : List ℕ} → Character w m → 92 ∷ letters ≡ w ++ more → ⊥
    go (unescaped {b} h) e = not_both (is_unescaped 92) (let f : b ≡ 92 = heads _ _ _ _ (sym e) in rw f at h) refl
    go (short {b} {c} g) e = past_first _ letters b more past (tails _ _ _ _ e) (lt-ltb b 128 (short_ascii b c g))
    go (unicode {h} {u} g i j) e = past_first _ letters 117 (h ++ more) past (tails _ _ _ _ e) refl
    go (pair {h} {l} {u} {v} g i j k) e = past_first _ letters 117 ((h ++ 92 ∷ 117 ∷ l) ++ more) past (tails _ _ _ _ e) refl
