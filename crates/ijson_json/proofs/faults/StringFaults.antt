-- If neither a character nor the closing quote follows in a string, of a value or a key, the text
-- has a syntax error there.
use Rattle.std.proofs.Common.{◌≡◌, ℕ, true, false, List, [], ◌∷◌, ◌++◌, length, eqb, refl, sym, ap, subst, ◌∙◌, append_assoc}
use Rattle.std.specs.Prelude.{◌≢◌}
use Rattle.std.proofs.lemmas.Bool.{eqb-true}
use Rattle.ijson_json.specs.Strings.{StringBody, empty, one_more, Character, unescaped}
use Rattle.ijson_json.specs.Grammar.{Spaced, IsValue}
use Rattle.ijson_json.specs.Inside.{IsCharacterPlace}
use Rattle.ijson_json.specs.ErrorOf.{IsErrorOf}
use Rattle.ijson_json.specs.private.StringReading.{NoCharacter}
use Rattle.ijson_json.specs.declared.fault.JsonError.TheVariants as errors
use Rattle.ijson_json.proofs.scanning.Prefixes.{heads, heads_apart}
use Rattle.ijson_json.proofs.reading.StringContent.{character_bytes}
use Rattle.ijson_json.proofs.errors.CharacterPlaces.{HasContent, content_at}
use Rattle.ijson_json.proofs.faults.StuckTexts.{MayPause, stuck_error, escape_error}

-- If the rest of a string begins with `b`, then `b` is a quote, a backslash or the first byte of a
-- character.
no_content : (b : ℕ) (more next : List ℕ) → eqb b 92 ≡ false → ((behind : List ℕ) → b ∷ more ≢ 34 ∷ behind) → NoCharacter (b ∷ more)
    → HasContent (b ∷ next) → ⊥
no_content b more next other unclosed none (s, rest, (body, h, e)) = go h e
  where
    first : {w m : List ℕ} (x : List ℕ) → Character w m → b ∷ next ≡ w ++ x → ⊥
    first x (unescaped {b = d} h) e =
        let same : d ≡ b = sym (heads _ _ _ _ e) in none (d ∷ []) more (d ∷ [], unescaped h, ap (λ (c : ℕ). c ∷ more) (sym same))
    first x c e = heads_apart b 92 _ _ e other

    go : {body s : List ℕ} → StringBody body s → b ∷ next ≡ body ++ 34 ∷ rest → ⊥
    go empty e = unclosed more (ap (λ (c : ℕ). c ∷ more) (heads _ _ _ _ e))
    go (one_more {written} {body = others} c h) e = first (others ++ 34 ∷ rest) c (e ∙ append_assoc written others (34 ∷ rest))

-- The rest of a string is not empty.
no_bytes : HasContent [] → ⊥
no_bytes (s, rest, (body, h, e)) = go h e
  where
    go : {body s : List ℕ} → StringBody body s → [] ≡ body ++ 34 ∷ rest → ⊥
    go empty e = cc
    go (one_more {written} {body = others} c h) e =
        character_bytes (others ++ 34 ∷ rest) c (e ∙ append_assoc written others (34 ∷ rest))

-- If neither a character nor a quote follows `seen` in a string, the text has a syntax error there.
pub content_error : {text : List ℕ} (seen rest : List ℕ) → text ≡ seen ++ rest → IsCharacterPlace seen → MayPause seen
    → ((behind : List ℕ) → rest ≢ 34 ∷ behind) → NoCharacter rest → IsErrorOf text (errors.Syntax (length seen))
content_error seen [] is place pause unclosed none =
    stuck_error seen [] is (λ t next starts s.
    no_bytes (content_at seen [] t place (subst (λ (l : List ℕ). Spaced (λ value. IsValue t value) (seen ++ l)) starts s))) pause
content_error {text} seen (b ∷ more) is place pause unclosed none =
    elim (eqb b 92) as (λ v. eqb b 92 ≡ v → IsErrorOf text (errors.Syntax (length seen))) [
      | true ↦ λ same.
          let backslash : b ≡ 92 = eqb-true b 92 same in
          escape_error seen more (is ∙ ap (λ (c : ℕ). seen ++ c ∷ more) backslash) place pause
          (subst (λ (c : ℕ). NoCharacter (c ∷ more)) backslash none)
      | false ↦ λ other. stuck_error seen (b ∷ more) is (λ t next (others, e) s.
          no_content b more others other unclosed none
          (content_at seen (b ∷ others) t place (subst (λ (l : List ℕ). Spaced (λ value. IsValue t value) (seen ++ l)) e s))) pause
    ] refl
