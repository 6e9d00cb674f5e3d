-- Reading a string run by run and escape by escape appends the bytes of each character to the
-- content.
use Rattle.std.proofs.Common.{◌≡◌, ℕ, true, false, List, [], ◌∷◌, ◌++◌, length, refl, sym, ap, ◌∙◌, append_assoc, eqb, inr}
use Rattle.std.proofs.lemmas.Bool.{eqb-true}
use Rattle.std.specs.Prelude.{◌≢◌}
use Rattle.std.proofs.lemmas.List.{append-nil}
use Rattle.ijson_json.specs.Strings.{is_unescaped, Character, unescaped, StringBody, empty, one_more}
use Rattle.ijson_json.specs.Grammar.{IsString}
use Rattle.ijson_json.specs.private.Reading.{Past, Front}
use Rattle.ijson_json.specs.private.Explains.{StringFault}
use Rattle.ijson_json.specs.private.StringReading.{CharacterAt, NoCharacter, NoEscape, ContentAt, ContentStops, ContentFault}
use Rattle.ijson_json.specs.declared.fault.Fault.{Fault}
use Rattle.ijson_json.specs.declared.fault.Fault.TheVariants as faults
use Rattle.ijson_json.proofs.scanning.Prefixes.{Run, not_both, heads, heads_apart}
use Rattle.ijson_json.proofs.grammar.StringBodies.{character_same, not_quote}

-- The concatenation of two string bodies is a string body.
body-append : {a s b t : List ℕ} → StringBody a s → StringBody b t → StringBody (a ++ b) (s ++ t)
body-append empty h = h
body-append {b} {t} (one_more {written} {meant} {body} {text} d r) h =
    rw (append_assoc written body b, append_assoc meant text t) (one_more d (body-append r h))

-- A string body followed by a character is a string body.
pub body-push : {a s w m : List ℕ} → StringBody a s → Character w m → StringBody (a ++ w) (s ++ m)
body-push {w} {m} h c = body-append h (rw (append-nil w, append-nil m) at (one_more c empty))

-- Holds if `text` begins with the rest of a string, its closing quote, and then `x`.
abbrev pub GoesOn : List ℕ → List ℕ → Type 0
GoesOn text x = (s : List ℕ) × ContentAt text s x

-- If the characters `body` begin a string, the rest of the string follows `body`.
pub content_behind : {body s i t : List ℕ} (rest x : List ℕ) → StringBody body s → StringBody i t → body ++ rest ≡ i ++ 34 ∷ x → GoesOn rest x
content_behind {i = i} {t = t} rest x empty h e = (t, (i, h, e))
content_behind rest x (one_more {written} {body = body} d r) empty e =
    absurd (not_quote (body ++ rest) x d (sym (append_assoc written body rest) ∙ e))
content_behind rest x (one_more {written} {body = body} d r) (one_more {written = other} {body = more} c h) e =
    let same = character_same (body ++ rest) (more ++ 34 ∷ x) d c (sym (append_assoc written body rest) ∙ e ∙ append_assoc other more (34 ∷ x)) in
    content_behind rest x r h same.1.1

-- Holds if the content `s` was read from `text`, and `rest` is the unread part.
--
-- Each string body at the start of `text` continues at `rest`.
pub record Reached (text s rest : List ℕ) : Type 0 where
  pub written : List ℕ
  pub body : StringBody written s
  pub is : text ≡ written ++ rest
  pub only : (t x : List ℕ) → ContentAt text t x → (t' : List ℕ) × ContentAt rest t' x

-- At the start of a text, the content read so far is empty.
pub reached_start : (text : List ℕ) → Reached text [] text
reached_start text = record { written = []; body = empty; is = refl; only = λ t x h. (t, h) }

-- A byte that must be escaped and is not a backslash does not begin a character.
no_character : (b : ℕ) (more : List ℕ) → eqb b 92 ≡ false → is_unescaped b ≡ false → NoCharacter (b ∷ more)
no_character b more n s m rest (w, c, e) = go c e
  where
    go : {w m : List ℕ} → Character w m → b ∷ more ≡ w ++ rest → ⊥
    go (unescaped {b = d} h) e = not_both (is_unescaped b) (let f : d ≡ b = heads _ _ _ _ (sym e) in rw f at h) s
    go c e = heads_apart b 92 _ _ e n

-- The spelling of a character is not empty.
pub character_bytes : {w m : List ℕ} (x : List ℕ) → Character w m → [] ≡ w ++ x → ⊥
character_bytes x (unescaped {b} h) e = cc
character_bytes x c e = cc

-- If the text after a run does not begin with an escape, it does not begin with a character.
pub after_run : (rest : List ℕ) → Past is_unescaped rest → NoEscape rest → NoCharacter rest
after_run [] p n = λ m x found. character_bytes x found.1 found.2
after_run (b ∷ more) p n =
    elim (eqb b 92) as (λ v. eqb b 92 ≡ v → NoCharacter (b ∷ more)) [
      | true ↦ λ same. n more (ap (λ (c : ℕ). c ∷ more) (eqb-true b 92 same))
      | false ↦ λ other. no_character b more other p
    ] refl

module _ {text s rest : List ℕ} (r : Reached text s rest) where
  -- Reading one more character appends its bytes to the content.
  pub reached_character : {m more : List ℕ} → CharacterAt rest m more → Reached text (s ++ m) more
  reached_character {m} {more} (w, c, e) = record {
    written = r.written ++ w;
    body = body-push r.body c;
    is = r.is ∙ rw e (sym (append_assoc r.written w more));
    only = λ t x h. let o = r.only t x h in go o.1.1 x o.1.2;
  }
    where
      go : {b t : List ℕ} → StringBody b t → (x : List ℕ) → rest ≡ b ++ 34 ∷ x → (t' : List ℕ) × ContentAt more t' x
      go empty x g = absurd (not_quote more x c (sym e ∙ g))
      go (one_more {written} {meant} {body} {text} d h) x g =
          let same = character_same more (body ++ 34 ∷ x) c d (sym e ∙ g ∙ append_assoc written body (34 ∷ x)) in
          (text, (body, h, same.1.1))

  -- A closing quote at `rest` ends the content.
  pub reached_quote : {behind : List ℕ} → rest ≡ 34 ∷ behind → ContentAt text s behind
  reached_quote e = (r.written, r.body, r.is ∙ ap (λ (l : List ℕ). r.written ++ l) e)

  -- If the content `t` and the closing quote are at `rest`, the whole content is `s ++ t`.
  pub reached_content : {t behind : List ℕ} → ContentAt rest t behind → ContentAt text (s ++ t) behind
  reached_content {t} {behind} (body, h, e) =
      (r.written ++ body, body-append r.body h, r.is ∙ rw e (sym (append_assoc r.written body (34 ∷ behind))))

  -- If neither a character nor the closing quote is at `rest`, the content of `text` stops there.
  pub reached_stop : (left : ℕ) → left ≡ length rest → ((behind : List ℕ) → rest ≢ 34 ∷ behind) → NoCharacter rest → ContentStops text left
  reached_stop left is unclosed none = record {
    body = r.written;
    meant = s;
    rest = rest;
    is_body = r.body;
    is = r.is;
    left_is = is;
    unclosed = unclosed;
    no_character = none;
  }

  -- A fault in the content at `rest` is a fault in the content of `text`.
  pub reached_fault : (fault : Fault) → ContentFault rest fault → ContentFault text fault
  reached_fault (faults.Syntax left) h = record {
    body = r.written ++ h.body;
    meant = s ++ h.meant;
    rest = h.rest;
    is_body = body-append r.body h.is_body;
    is = r.is ∙ rw h.is (sym (append_assoc r.written h.body h.rest));
    left_is = h.left_is;
    unclosed = h.unclosed;
    no_character = h.no_character;
  }
  reached_fault faults.Memory h = tt
  reached_fault fault h = absurd h

-- Reading a run of unescaped bytes appends the run to the content.
pub reached_run : {text s rest more : List ℕ} (run : List ℕ) → Reached text s rest → Run is_unescaped run → rest ≡ run ++ more
    → Reached text (s ++ run) more
reached_run {text} {s} {rest} {more} [] r h e = rw (append-nil s) (rw e at r)
reached_run {text} {s} {rest} {more} (b ∷ run) r h e =
    let longer = reached_run run (reached_character r {more = run ++ more} (b ∷ [], unescaped h.0, e)) h.1 refl in
    rw (append_assoc s (b ∷ []) run) at longer

-- Holds if `content` is `old` and the content read from `text` before `rest`.
abbrev pub Appended : List ℕ → List ℕ → List ℕ → List ℕ → Type 0
Appended text rest old content = (s : List ℕ) × Reached text s rest × (content ≡ old ++ s)

-- Reading one more character and the run after it appends both to the content.
pub appended_more : (text rest m more run after old content middle new : List ℕ) → Appended text rest old content → CharacterAt rest m more
    → middle ≡ content ++ m → more ≡ run ++ after → Run is_unescaped run → new ≡ middle ++ run → Appended text after old new
appended_more text rest m more run after old content middle new (s, r, e) c f g h i =
    ((s ++ m) ++ run, reached_run run (reached_character r c) h g, rw (i, f, e) (simp append_assoc))

-- ---- the whole string

-- A text that begins with a string begins with a quote.
pub string_first : (text s rest : List ℕ) (f : Front (λ front. IsString s front) text rest) → text ≡ 34 ∷ (f.holds.0 ++ 34 ∷ rest)
string_first text s rest f = f.is ∙ rw (f.holds.2) (simp append_assoc)

-- A quote, the content of a string and the closing quote are a string.
pub string_found : (text inside s t rest : List ℕ) → text ≡ 34 ∷ inside → ContentAt inside s rest → t ≡ s
    → Front (λ front. IsString t front) text rest
string_found text inside s t rest e (body, h, f) same =
    record { front = 34 ∷ (body ++ 34 ∷ []); holds = (body, rw same h, refl); is = rw (e, f) (simp append_assoc) }

-- A fault in the content of a string is a fault of the string.
pub no_string : (text inside : List ℕ) → text ≡ 34 ∷ inside → (fault : Fault) → ContentFault inside fault → StringFault text fault
no_string text inside e (faults.Syntax left) h = inr (inside, e, h)
no_string text inside e faults.Memory h = tt
no_string text inside e fault h = absurd h
