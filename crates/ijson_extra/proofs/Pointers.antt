-- Lemmas about splitting a pointer into tokens and decoding their escapes.
use Rattle.std.proofs.Common.{◌≡◌, ◌≢◌, ◌⊎◌, inl, inr, ◌↔◌, IsTrue, ℕ, suc, ◌<◌, ◌≤◌, drop, is_some, Bool, true, false, List, []}
use Rattle.std.proofs.Common.{◌∷◌, ◌++◌, eqb, length, get_or, refl, sym, ap, ◌∙◌, arith, Option, Some, None, option_map}
use mathlib.Core.Bool.{true≢false}
use Rattle.std.specs.Prelude.{◌==◌, option_and_then}
use Rattle.std.proofs.lemmas.Bool.{ne_eqb}
use Rattle.std.proofs.lemmas.List.{drop_all, drop_more}
use Rattle.std.proofs.lemmas.Bool.Decides.{nat_tests}
use Rattle.ijson_value.specs.Tree.{Tree}
use Rattle.ijson_extra.specs.Pointer.{in_first, written_tokens, meant, escape_meant, all_meant, followed}
use Rattle.ijson_extra.specs.private.Walked.{first_of}

abbrev pub LacksByte : ℕ → List ℕ → Type 0
LacksByte c text = (i : ℕ) → i < length text → get_or text i 0 ≢ c

tail_lacks : (c b : ℕ) (text : List ℕ) → LacksByte c (b ∷ text) → LacksByte c text
tail_lacks c b text h i l = h (suc i) (omega (arith, l))

in_token : (b : ℕ) (text : List ℕ) → eqb b 47 ≡ false → written_tokens (b ∷ text) ≡ in_first b (written_tokens text)
in_token b text e = ap (λ (r : Bool). elim r [ true ↦ [] ∷ written_tokens text | false ↦ in_first b (written_tokens text) ]) e

pub written_split : (token rest : List ℕ) → LacksByte 47 token → written_tokens (token ++ 47 ∷ rest) ≡ token ∷ written_tokens rest
written_split [] rest h = refl
written_split (b ∷ token) rest h =
    in_token b (token ++ 47 ∷ rest) (ne_eqb b 47 (h 0 (omega arith)))
    ∙ ap (in_first b) (written_split token rest (tail_lacks 47 b token h))

pub written_last : (token : List ℕ) → LacksByte 47 token → written_tokens token ≡ token ∷ []
written_last [] h = refl
written_last (b ∷ token) h =
    in_token b token (ne_eqb b 47 (h 0 (omega arith))) ∙ ap (in_first b) (written_last token (tail_lacks 47 b token h))

-- Holds if the list of tokens is not empty.
abbrev HasFirst : List (List ℕ) → Type 0
HasFirst ws = (more : List (List ℕ)) × (ws ≡ get_or ws 0 [] ∷ more)

in_first_too : (b : ℕ) (ws : List (List ℕ)) → HasFirst ws → HasFirst (in_first b ws)
in_first_too b [] is = absurd (let e = is.1 in cc)
in_first_too b (w ∷ ws) is = (ws, refl)

pub by_tests : {X : Type 0} (P : X → Type 0) (r : Bool) (x y : X) → P x → P y → P (elim r [ true ↦ x | false ↦ y ])
by_tests P true x y p q = p
by_tests P false x y p q = q

pub first_is : (left : List ℕ) → HasFirst (written_tokens left)
first_is [] = ([], refl)
first_is (b ∷ text) =
    by_tests HasFirst (eqb b 47) _ _ (written_tokens text, refl) (in_first_too b (written_tokens text) (first_is text))

pub first_named : (text token : List ℕ) (ws : List (List ℕ)) → written_tokens text ≡ token ∷ ws
    → (token ≡ first_of text) × (written_tokens text ≡ first_of text ∷ ws)
first_named text token ws is = let first = sym (ap (λ ws. get_or ws 0 []) is) in (first, is ∙ ap (λ t. t ∷ ws) first)

-- The result of following the tokens of `left` from the value found so far, if any.
abbrev pub outcome : Option Tree → List ℕ → Option (Option Tree)
outcome found left = option_map (λ tokens. option_and_then (λ t. followed t tokens) found) (all_meant (written_tokens left))

-- If a token does not begin with `~`, its first byte means itself.
pub tilde : (b : ℕ) (text : List ℕ) → eqb b 126 ≡ false → meant (b ∷ text) ≡ option_map (λ token. b ∷ token) (meant text)
tilde b text e = ap (λ (r : Bool). elim r [ true ↦ escape_meant text | false ↦ option_map (λ token. b ∷ token) (meant text) ]) e

-- A token without `~` means itself.
pub meant_itself : (token : List ℕ) → LacksByte 126 token → meant token ≡ Some token
meant_itself [] h = refl
meant_itself (b ∷ token) h = tilde b token (ne_eqb b 126 (h 0 (omega arith)))
    ∙ ap (option_map (λ t. b ∷ t)) (meant_itself token (tail_lacks 126 b token h))

-- A key that begins with the byte `b` is not empty.
some_longer : (b : ℕ) (o : Option (List ℕ)) → option_map (λ token. b ∷ token) o ≡ Some [] → ⊥
some_longer b None e = absurd (cc)
some_longer b (Some t) e = absurd (cc)

escape_longer : (text : List ℕ) → escape_meant text ≡ Some [] → ⊥
escape_longer [] e = absurd (cc)
escape_longer (b ∷ text) e =
    by_tests (λ o. o ≡ Some [] → ⊥) (eqb b 48) _ _ (some_longer 126 (meant text))
    (by_tests (λ o. o ≡ Some [] → ⊥) (eqb b 49) _ _ (some_longer 47 (meant text)) (λ f. absurd (cc))) e

meant_longer : (b : ℕ) (text : List ℕ) → meant (b ∷ text) ≡ Some [] → ⊥
meant_longer b text e = by_tests (λ o. o ≡ Some [] → ⊥) (eqb b 126) _ _ (escape_longer text) (some_longer b (meant text)) e

pub none_zero : (n : ℕ) → false ≡ (suc n == 0)
none_zero n = grind (arith, nat_tests)

-- If `left` is empty or has an invalid escape, `left` has a meaning exactly if its length is 0.
pub none_left : (left : List ℕ) → (meant left ≡ None) ⊎ (left ≡ []) → is_some (meant left) ≡ (length left == 0)
none_left [] h = refl
none_left (b ∷ text) (inl e) = ap is_some e ∙ none_zero (length text)
none_left (b ∷ text) (inr e) = absurd (cc)

pub all_left : (left : List ℕ) (r : Bool) → r ≡ (length left == 0) → IsTrue r ↔ (meant left ≡ Some [])
all_left [] r e = (λ t. refl, λ f. e)
all_left (b ∷ text) r e = (λ t. absurd (true≢false (sym t ∙ e ∙ sym (none_zero (length text)))), λ f. absurd (meant_longer b text f))

-- If `left` is empty or has an invalid escape and `key` has a byte at `i`, `left` does not mean the
-- rest of `key`.
pub byte_none : (P : Type 0) (key left : List ℕ) (i : ℕ) → i < length key → (meant left ≡ None) ⊎ (left ≡ [])
    → P ↔ (meant left ≡ Some (drop i key)) → P → ⊥
byte_none P key left i l (inl e) both f = let g = sym e ∙ both.0 f in absurd (cc)
byte_none P key left i l (inr e) both f =
    let g = ap meant (sym e) ∙ both.0 f ∙ ap (λ x. Some x) (drop_more key i 0 l) in absurd (cc)

-- If all bytes of `key` were compared, `left` means the rest of `key` exactly if `left` is empty.
pub key_ended : (P : Type 0) (key left : List ℕ) (i : ℕ) (r : Bool) → length key ≤ i → r ≡ (length left == 0)
    → P ↔ (meant left ≡ Some (drop i key)) → IsTrue r ↔ P
key_ended P key left i r h e both =
    let tells = all_left left r e in
    let past = ap (λ (x : List ℕ). Some x) (drop_all i key h) in
    (λ t. both.1 (tells.0 t ∙ sym past), λ f. tells.1 (both.0 f ∙ past))
