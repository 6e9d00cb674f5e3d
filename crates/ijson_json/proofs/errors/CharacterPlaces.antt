-- If a character may begin at a position of a JSON text, the rest of a string is there: characters,
-- then the closing quote.
use Rattle.std.proofs.Common.{◌≡◌, ℕ, Bool, false, List, [], ◌∷◌, ◌++◌, refl, sym, ap, subst, ◌∙◌, append_assoc, append-nil, arith, inl, inr}
use Rattle.std.specs.Prelude.{◌⊎◌, ◌==◌, not, IsTrue, Some}
use Rattle.std.proofs.lemmas.Bool.{ne_eqb}
use Rattle.ijson_value.specs.Tree.{Tree, string}
use Rattle.ijson_value.specs.Order.{rank}
use Rattle.ijson_json.specs.Strings.{StringBody, empty, one_more, Character, unescaped, short, unicode, pair, Hex, short_escape, hex_digit}
use Rattle.ijson_json.specs.Strings.{is_unescaped}
use Rattle.ijson_json.specs.Grammar.{is_space, Spaced, IsString, IsValue}
use Rattle.ijson_json.specs.Inside.{IsOpenString, IsOpenKey, IsCharacterPlace}
use Rattle.ijson_json.specs.ErrorOf.{BadEscapeAt}
use Rattle.ijson_json.specs.private.Reading.{Pair}
use Rattle.ijson_json.specs.private.StringReading.{ContentAt}
use Rattle.ijson_json.proofs.scanning.Prefixes.{Run, all-append, not_both, run_same, heads, tails, heads_apart}
use Rattle.ijson_json.proofs.grammar.ElementShapes.{members_shape, spaced_pair_back}
use Rattle.ijson_json.proofs.grammar.FirstBytes.{kind_at, value-past_space}
use Rattle.ijson_json.proofs.grammar.OneTree.{enclosed_with}
use Rattle.ijson_json.proofs.reading.StringContent.{content_behind}
use Rattle.ijson_json.proofs.reading.ArraysAndObjects.{objects}
use Rattle.ijson_json.proofs.errors.ListParts.{Opening, in_list}
use Rattle.ijson_json.proofs.errors.Overlaps.{IsLonger, overlap, run_behind}
use Rattle.ijson_json.proofs.errors.Completions.{IsCompleted}
use Rattle.ijson_json.proofs.errors.Places.{member_pair, descends}

-- Holds if `text` begins with the rest of a string and its closing quote.
abbrev pub HasContent : List ℕ → Type 0
HasContent text = (s rest : List ℕ) × ContentAt text s rest

-- If a text begins with a JSON string, and also with a quote and `body`, the rest of a string
-- follows `body`.
string_goes : (k v z body s rest : List ℕ) → IsString k v → StringBody body s → v ++ z ≡ 34 ∷ (body ++ rest) → HasContent rest
string_goes k v z body s rest (i, h, f) b e =
    let c = content_behind rest z b h (tails 34 34 _ _ (sym e ∙ enclosed_with 34 34 v i z f)) in (c.0, z, c.1)

-- If a text begins with a value, and also with a quote and the characters `body`, the rest of a
-- string follows `body`.
value_goes : (t : Tree) (v z body s rest : List ℕ) → IsValue t v → StringBody body s → v ++ z ≡ 34 ∷ (body ++ rest) → HasContent rest
value_goes (string k) v z body s rest w b e = string_goes k v z body s rest w b e
value_goes t v z body s rest w b e = absurd
    (let k : 3 ≡ rank t = kind_at t 34 (body ++ rest) (34 ∷ (body ++ rest)) z refl (record { front = v; holds = w; is = sym e }) in
    omega (arith, k))

-- If a text begins with a value in white space, and also with an open string `p`, the rest of a
-- string follows `p`.
spaced_goes : (t : Tree) (first z p rest : List ℕ) → Spaced (λ value. IsValue t value) first → IsOpenString p → first ++ z ≡ p ++ rest
    → HasContent rest
spaced_goes t first z p rest (b, v, a, sb, w, sa, f) (gap, body, s, sg, h, e) g =
    let left : first ++ z ≡ b ++ (v ++ (a ++ z)) = rw f (simp append_assoc) in
    let right : p ++ rest ≡ gap ++ 34 ∷ (body ++ rest) = rw e (simp append_assoc) in
    let same : b ++ (v ++ (a ++ z)) ≡ gap ++ 34 ∷ (body ++ rest) = sym left ∙ g ∙ right in
    let at = run_same is_space b gap (v ++ (a ++ z)) (34 ∷ (body ++ rest)) sb sg (value-past_space t v (a ++ z) w) refl same in
    value_goes t v (a ++ z) body s rest w h at.1

-- If a text begins with a member in white space, and also with an open string `p`, the rest of a
-- string follows `p`.
key_goes : (m : List ℕ × Tree) (first z p rest : List ℕ) → Spaced (λ pair. Pair m pair) first → IsOpenString p → first ++ z ≡ p ++ rest
    → HasContent rest
key_goes m first z p rest s o g =
    let (q, v, is_key, is_value, f) = spaced_pair_back m.0 m.1 first s in
    let split : first ++ z ≡ q ++ 58 ∷ (v ++ z) = ap (λ (y : List ℕ). y ++ z) f ∙ append_assoc q (58 ∷ v) z in
    spaced_goes (string m.0) q (58 ∷ (v ++ z)) p rest is_key o (sym split ∙ g)

-- If a text begins with an open string, its first byte after white space is a quote, which differs
-- from `closing`.
string_opening : (closing : ℕ) → ((34 == closing) ≡ false) → (p rest : List ℕ) → IsOpenString p → Opening closing (p ++ rest)
string_opening closing apart p rest (gap, body, s, sg, h, e) =
    record { gap = gap; cur = 34 ∷ (body ++ rest); space = sg; past = refl; other = apart; is = rw e (simp append_assoc) }

-- If a character may begin after `before` in a JSON text `before ++ rest`, then `rest` begins with
-- the rest of a string.
pub content_at : (before rest : List ℕ) (t : Tree) → IsCharacterPlace before → Spaced (λ value. IsValue t value) (before ++ rest) → HasContent rest
content_at before rest t (opened, i) s =
    let d = descends i rest start t (before ++ rest) [] s tt (append-nil (before ++ rest)) in
    go d.value d.first d.behind d.last d.spelled d.is_last d.is
  where
    start : (last : List ℕ) → IsOpenString last ⊎ IsOpenKey last → Opening 93 (last ++ rest)
    start last (inl o) = string_opening 93 refl last rest o
    start last (inr (gap, members, key, sg, each, o, e)) = record {
      gap = gap;
      cur = 123 ∷ ((members ++ key) ++ rest);
      space = sg;
      past = refl;
      other = refl;
      is = rw e (append_assoc gap (123 ∷ (members ++ key)) rest);
    }

    go : (u : Tree) (first z last : List ℕ) → Spaced (λ value. IsValue u value) first → IsOpenString last ⊎ IsOpenKey last
        → first ++ z ≡ last ++ rest → HasContent rest
    go u first z last s (inl o) g = spaced_goes u first z last rest s o g
    go u first z last s (inr (gap, members, key, sg, each, o, e)) g =
        let whole : last ++ rest ≡ gap ++ 123 ∷ (members ++ (key ++ rest)) = rw e (simp append_assoc) in
        let l = in_list (List ℕ × Tree) members_shape objects u gap (key ++ rest) first z refl sg each member_pair
        (string_opening 125 refl key rest o) s (g ∙ whole) in
        key_goes l.element l.first l.behind key rest l.spelled o l.is

-- ---- an escape

-- If the rest of a string begins with a backslash, it begins with an escape.
pub escape_first : (letters : List ℕ) → HasContent (92 ∷ letters)
    → (written meant rest : List ℕ) × Character written meant × (92 ∷ letters ≡ written ++ rest)
escape_first letters (s, rest, (body, h, e)) = go h e
  where
    go : {body s : List ℕ} → StringBody body s → 92 ∷ letters ≡ body ++ 34 ∷ rest
        → (written meant rest : List ℕ) × Character written meant × (92 ∷ letters ≡ written ++ rest)
    go empty e = absurd (heads_apart 92 34 _ _ e refl)
    go (one_more {written} {meant} {body} c h) e = (written, meant, body ++ 34 ∷ rest, c, e ∙ append_assoc written body (34 ∷ rest))

-- A space is not the letter of a short escape.
short_apart : (c : ℕ) → short_escape 32 ≡ Some c → ⊥
unfolding short_escape
short_apart c h = absurd cc

digit_apart : (d : ℕ) → hex_digit 32 ≡ Some d → ⊥
unfolding hex_digit
digit_apart d h = absurd cc

abbrev is_other : ℕ → Bool
is_other b = not (b == 32)

other_letter : (b c : ℕ) → short_escape b ≡ Some c → IsTrue (is_other b)
other_letter b c h = rw (ne_eqb b 32 (λ e. short_apart c (rw e at h))) refl

other_digit : (b d : ℕ) → hex_digit b ≡ Some d → IsTrue (is_other b)
other_digit b d h = rw (ne_eqb b 32 (λ e. digit_apart d (rw e at h))) refl

other_digits : (h : List ℕ) (u : ℕ) → Hex h u → Run is_other h
other_digits h u x = subst (λ (l : List ℕ). Run is_other l) (sym x.text_is)
    (other_digit x.a x.x x.first, (other_digit x.b x.y x.second, (other_digit x.c x.z x.third, (other_digit x.d x.w x.fourth, tt))))

escape_others : {w m : List ℕ} (x y : List ℕ) → Character w m → 92 ∷ x ≡ w ++ y → Run is_other w
escape_others x y (unescaped {b} h) e = absurd (not_both (is_unescaped 92) (let f : b ≡ 92 = heads _ _ _ _ (sym e) in rw f at h) refl)
escape_others x y (short {b} {c} h) e = (refl, (other_letter b c h, tt))
escape_others x y (unicode {h} {u} hex i j) e = (refl, (refl, other_digits h u hex))
escape_others x y (pair {h} {l} {u} {v} hex i low j) e =
    (refl, (refl, all-append _ h (92 ∷ 117 ∷ l) (other_digits h u hex) (refl, (refl, other_digits l v low))))

-- If a space follows a backslash and `mid`, the escape at the backslash ends before the space.
escape_within : {w m : List ℕ} (mid z y : List ℕ) → Character w m → 92 ∷ (mid ++ 32 ∷ z) ≡ w ++ y → (more : List ℕ) × (92 ∷ mid ≡ w ++ more)
escape_within {w} mid z y c e =
    let others = escape_others (mid ++ 32 ∷ z) y c e in
    elim (overlap (92 ∷ mid) w (32 ∷ z) y e) [
      | inl s ↦ ([], s.0 ∙ sym (append-nil w))
      | inr o ↦ elim o [
        | inl l ↦ absurd
            (let behind = run_behind is_other (92 ∷ mid) (l.0 ∷ l.1) (subst (λ (l : List ℕ). Run is_other l) l.2 others) in
            let same : l.0 ≡ 32 = sym (heads _ _ _ _ l.3) in
            not_both (is_other 32) (rw same at behind.0) refl)
        | inr l ↦ (l.0 ∷ l.1, l.2)
      ]
    ]

-- If `before` and a space begin a JSON text, `before` does not contain an invalid escape.
pub no_escape_before : {text : List ℕ} {at : ℕ} (a : BadEscapeAt text at) (before y : List ℕ) → IsCompleted (before ++ 32 ∷ [])
    → IsLonger a.before before (92 ∷ a.letters) y → ⊥
no_escape_before a before y (closing, t, s) (c, mid, e, f) =
    let backslash : c ≡ 92 = sym (heads _ _ _ _ f) in
    let whole : (before ++ 32 ∷ []) ++ closing ≡ a.before ++ 92 ∷ (mid ++ 32 ∷ closing) = rw (e, backslash) (simp append_assoc) in
    let content = content_at a.before (92 ∷ (mid ++ 32 ∷ closing)) t a.place (subst (λ (l : List ℕ). Spaced (λ value. IsValue t value) l) whole s) in
    let (w, m, rest, character, g) = escape_first (mid ++ 32 ∷ closing) content in
    let (more, h) = escape_within mid closing rest character g in
    a.none w m (more ++ y) character
    (ap (λ (l : List ℕ). 92 ∷ l) (tails _ _ _ _ f) ∙ ap (λ (l : List ℕ). l ++ y) h ∙ append_assoc w more y)
