-- Lemmas about the body of a string: the string that it spells is unique, and a printed string
-- spells the original.
use Rattle.std.proofs.Common.{◌≡◌, ℕ, ◌+◌, ◌-◌, ◌*◌, ◌/◌, ◌%◌, ◌<◌, Bool, true, false, cond, List, [], ◌∷◌, ◌++◌, Some, None}
use Rattle.std.proofs.Common.{refl, sym, ap, ap₂, ◌∙◌, append_assoc, arith}
use Rattle.std.specs.Prelude.{IsTrue, ◌==◌, nat_lt}
use Rattle.std.specs.Char.{encode_utf8}
use Rattle.std.proofs.lemmas.Bool.{eqb-true}
use borrow.Author.Tests.{ltb-true}
use Rattle.std.proofs.lemmas.Bool.Decides.{nat_tests}
use Rattle.std.proofs.lemmas.Str.{encode_ascii}
use Rattle.ijson_json.specs.Strings.{is_unescaped, short_escape, hex_digit, Hex, is_high_surrogate, is_low_surrogate, Character}
use Rattle.ijson_json.specs.Strings.{unescaped, short, unicode, pair, StringBody, empty, one_more}
use Rattle.ijson_json.specs.Print.{hex_text, escaped, all_escaped}
use Rattle.ijson_json.proofs.scanning.Prefixes.{not_both, heads, tails, heads_apart}

-- ---- one character

-- Four hexadecimal digits spell their value in base 16.
pub four_digits : {a b c d x y z w u : ℕ} → hex_digit a ≡ Some x → hex_digit b ≡ Some y → hex_digit c ≡ Some z → hex_digit d ≡ Some w
    → u ≡ x * 4096 + (y * 256 + (z * 16 + w)) → Hex (a ∷ b ∷ c ∷ d ∷ []) u
four_digits {a} {b} {c} {d} {x} {y} {z} {w} {u} f g h i e =
    record { a = a; b = b; c = c; d = d; x = x; y = y; z = z; w = w; text_is = refl; first = f; second = g; third = h; fourth = i; is = e }

-- The value of four leading hexadecimal digits, and the text after the digits, are unique.
pub hex_same : (h l : List ℕ) (u v : ℕ) (x y : List ℕ) → Hex h u → Hex l v → h ++ x ≡ l ++ y → (u ≡ v) × ((h ≡ l) × (x ≡ y))
hex_same h l u v x y p q e =
    let whole : p.a ∷ p.b ∷ p.c ∷ p.d ∷ x ≡ q.a ∷ q.b ∷ q.c ∷ q.d ∷ y = ap (λ (t : List ℕ). t ++ x) (sym p.text_is) ∙ e
    ∙ ap (λ (t : List ℕ). t ++ y) q.text_is in
    let dx : p.x ≡ q.x = cc (whole, p.first, q.first) in
    let dy : p.y ≡ q.y = cc (whole, p.second, q.second) in
    let dz : p.z ≡ q.z = cc (whole, p.third, q.third) in
    let dw : p.w ≡ q.w = cc (whole, p.fourth, q.fourth) in
    (omega (arith, p.is, q.is, dx, dy, dz, dw), (cc (whole, p.text_is, q.text_is), cc whole))

-- An unescaped byte is not a backslash.
not_backslash : (b : ℕ) (x y : List ℕ) → IsTrue (is_unescaped b) → b ∷ x ≡ 92 ∷ y → ⊥
not_backslash b x y h e = let f : b ≡ 92 = heads _ _ _ _ e in not_both (is_unescaped 92) (rw f at h) refl

-- The letter of a short escape is not `u`.
not_u : (b c : ℕ) (x y : List ℕ) → short_escape b ≡ Some c → 92 ∷ b ∷ x ≡ 92 ∷ 117 ∷ y → ⊥
unfolding short_escape
not_u b c x y h e =
    let f : b ≡ 117 = heads _ _ _ _ (tails _ _ _ _ e) in
    let g : None ≡ Some c = rw f at h in
    cc

-- Holds if the two spellings, their bytes and the texts after them are equal.
abbrev pub Same : (w m x w' m' x' : List ℕ) → Type 0
Same w m x w' m' x' = (w ≡ w') × ((m ≡ m') × (x ≡ x'))

-- If two texts are equal, so are the texts after their first two bytes.
two : (x y : List ℕ) (a b c d : ℕ) → a ∷ b ∷ x ≡ c ∷ d ∷ y → x ≡ y
two x y a b c d e = tails _ _ _ _ (tails _ _ _ _ e)

-- The character at the start of a text is unique.
pub character_same : {w m w' m' : List ℕ} (x x' : List ℕ) → Character w m → Character w' m' → w ++ x ≡ w' ++ x' → Same w m x w' m' x'
character_same x x' (unescaped {b} h) (unescaped {b = b'} h') e = let f : b ∷ x ≡ b' ∷ x' = e in (cc, (cc, cc))
character_same x x' (unescaped {b} h) d e = absurd (not_backslash b _ _ h e)
character_same x x' c (unescaped {b} h) e = absurd (not_backslash b _ _ h (sym e))
character_same x x' (short {b} {c} g) (short {b = b'} {c = c'} h) e =
    let f : 92 ∷ b ∷ x ≡ 92 ∷ b' ∷ x' = e in
    let k : c ≡ c' = cc (f, g, h) in
    (cc, (cc, cc))
character_same x x' (short {b} {c} g) d e = absurd (not_u b c _ _ g e)
character_same x x' d (short {b} {c} h) e = absurd (not_u b c _ _ h (sym e))
character_same x x' (unicode {h} {u} g i j) (unicode {h = l} {u = v} k i' j') e =
    let s = hex_same h l u v x x' g k (two _ _ _ _ _ _ e) in
    (ap (λ (t : List ℕ). 92 ∷ 117 ∷ t) s.1.0, (ap encode_utf8 s.0, s.1.1))
character_same x x' (unicode {h} {u} g i j) (pair {h = l} {l = m} {u = v} {v = n} k p q r) e =
    let s = hex_same h l u v x _ g k (two _ _ _ _ _ _ e ∙ append_assoc l (92 ∷ 117 ∷ m) x') in
    absurd (not_both (is_high_surrogate v) p (rw s.0 at i))
character_same x x' (pair {h = l} {l = m} {u = v} {v = n} k p q r) (unicode {h} {u} g i j) e =
    let s = hex_same h l u v x' _ g k (two _ _ _ _ _ _ (sym e) ∙ append_assoc l (92 ∷ 117 ∷ m) x) in
    absurd (not_both (is_high_surrogate v) p (rw s.0 at i))
character_same x x' (pair {h} {l} {u} {v} g i j k) (pair {h = h'} {l = l'} {u = u'} {v = v'} g' i' j' k') e =
    let s = hex_same h h' u u' _ _ g g' (sym (append_assoc h (92 ∷ 117 ∷ l) x) ∙ two _ _ _ _ _ _ e ∙ append_assoc h' (92 ∷ 117 ∷ l') x') in
    let t = hex_same l l' v v' x x' j j' (two _ _ _ _ _ _ s.1.1) in (
      ap₂ (λ (a b : List ℕ). 92 ∷ 117 ∷ (a ++ 92 ∷ 117 ∷ b)) s.1.0 t.1.0,
      (ap₂ (λ (a b : ℕ). encode_utf8 (0x10000 + ((a - 0xd800) * 1024 + (b - 0xdc00)))) s.0 t.0, t.1.1),
    )

-- A quote does not begin a character.
pub not_quote : {w m : List ℕ} (x y : List ℕ) → Character w m → w ++ x ≡ 34 ∷ y → ⊥
not_quote x y (unescaped {b} h) e = let f : b ≡ 34 = heads _ _ _ _ e in not_both (is_unescaped 34) (rw f at h) refl
not_quote x y c e = heads_apart 92 34 _ _ e refl

-- ---- the body

-- The body of a string before the first closing quote is unique.
pub body_same : {a s b t : List ℕ} (x y : List ℕ) → StringBody a s → StringBody b t → a ++ 34 ∷ x ≡ b ++ 34 ∷ y → (s ≡ t) × (x ≡ y)
body_same x y empty empty e = (refl, tails _ _ _ _ e)
body_same x y empty (one_more {written = w} {meant = m} {body = a} {text = s} c r) e =
    absurd (not_quote (a ++ 34 ∷ y) x c (sym (append_assoc w a (34 ∷ y)) ∙ sym e))
body_same x y (one_more {written = w} {meant = m} {body = a} {text = s} c r) empty e =
    absurd (not_quote (a ++ 34 ∷ x) y c (sym (append_assoc w a (34 ∷ x)) ∙ e))
body_same x y (one_more {written = w} {meant = m} {body = a} {text = s} c r)
    (one_more {written = w'} {meant = m'} {body = a'} {text = s'} c' r') e =
    let f = character_same (a ++ 34 ∷ x) (a' ++ 34 ∷ y) c c' (sym (append_assoc w a (34 ∷ x)) ∙ e ∙ append_assoc w' a' (34 ∷ y)) in
    let g = body_same x y r r' f.1.1 in
    (ap₂ ◌++◌ f.1.0 g.0, g.1)

-- ---- printing

-- The hexadecimal digit written for `n` has the value `n`.
hex_text_digit : (n : ℕ) → n < 16 → hex_digit (hex_text n) ≡ Some n
unfolding hex_digit
hex_text_digit n h = grind (arith, nat_tests)

-- A control character is not a surrogate.
low_no_surrogate : (b : ℕ) → b < 32 → (is_high_surrogate b ≡ false) × (is_low_surrogate b ≡ false)
low_no_surrogate b h = (grind (arith, nat_tests), grind (arith, nat_tests))

-- The four hexadecimal digits that are written for a control character have its code as their
-- value.
hex_control : (b : ℕ) → b < 32 → Hex (48 ∷ 48 ∷ hex_text (b / 16) ∷ hex_text (b % 16) ∷ []) b
unfolding hex_digit
hex_control b h = four_digits refl refl (hex_text_digit (b / 16) (omega arith)) (hex_text_digit (b % 16) (omega arith)) (omega arith)

-- The escape written for a control character spells that character.
control : (b : ℕ) → nat_lt b 32 ≡ true → Character (92 ∷ 117 ∷ 48 ∷ 48 ∷ hex_text (b / 16) ∷ hex_text (b % 16) ∷ []) (b ∷ [])
control b e =
    let h : b < 32 = ltb-true b 32 e in
    rw (← encode_ascii b (omega arith)) (unicode (hex_control b h) (low_no_surrogate b h).0 (low_no_surrogate b h).1)

-- If `x` spells `b` when `t` is true, and `y` spells `b` when `t` is false, `cond t x y` spells
-- `b`.
either : (t : Bool) (x y : List ℕ) (b : ℕ) → (t ≡ true → Character x (b ∷ [])) → (t ≡ false → Character y (b ∷ []))
    → Character (cond t x y) (b ∷ [])
either true x y b f g = f refl
either false x y b f g = g refl

-- A backslash and the letter of a byte spell that byte.
letter : (b c : ℕ) (d : ℕ) → short_escape d ≡ Some c → (b == c) ≡ true → Character (92 ∷ d ∷ []) (b ∷ [])
letter b c d e h = rw (eqb-true b c h) (short e)

-- The escape written for a byte spells that byte.
pub escaped_is : (b : ℕ) → Character (escaped b) (b ∷ [])
unfolding escaped short_escape
escaped_is b =
    either (b == 34) _ _ b (letter b 34 34 refl) (λ n34.
    either (b == 92) _ _ b (letter b 92 92 refl) (λ n92.
    either (b == 8) _ _ b (letter b 8 98 refl) (λ n8.
    either (b == 9) _ _ b (letter b 9 116 refl) (λ n9.
    either (b == 10) _ _ b (letter b 10 110 refl) (λ n10.
    either (b == 12) _ _ b (letter b 12 102 refl) (λ n12.
    either (b == 13) _ _ b (letter b 13 114 refl) (λ n13.
    either (nat_lt b 32) _ _ b (control b) (λ n32. unescaped (plain b n34 n92 n32)))))))))
  where
    plain : (b : ℕ) → (b == 34) ≡ false → (b == 92) ≡ false → nat_lt b 32 ≡ false → IsTrue (is_unescaped b)
    plain b n34 n92 n32 = grind (arith, nat_tests)

-- The escaped text of a string is a body that spells the string.
pub all_escaped_is : (s : List ℕ) → StringBody (all_escaped s) s
all_escaped_is [] = empty
all_escaped_is (b ∷ s) = one_more (escaped_is b) (all_escaped_is s)
