-- Lemmas: further bytes and closing brackets extend a text with open containers to a JSON text.
use Rattle.std.proofs.Common.{◌≡◌, ℕ, List, [], ◌∷◌, ◌++◌, refl, sym, ap, subst, append_assoc, append-nil, inl, inr}
use Rattle.std.specs.Prelude.{◌⊎◌}
use Rattle.ijson_number.specs.Decimal.{Decimal}
use Rattle.ijson_number.specs.Grammar.{Spells}
use Rattle.ijson_value.specs.Tree.{Tree, null, number, string, array, object, no_items, no_members}
use Rattle.ijson_json.specs.Strings.{Character, unescaped}
use Rattle.ijson_json.specs.Grammar.{IsSpace, Spaced, IsString, IsValue, null_text}
use Rattle.ijson_json.specs.Inside.{EachWithComma, no_comma, comma_after, Inside, here, in_array, in_object, IsValuePlace, IsOpenString, IsOpenKey, IsCharacterPlace}
use Rattle.ijson_json.proofs.scanning.Prefixes.{all-append}
use Rattle.ijson_json.proofs.grammar.CommaLists.{IsList, Shape}
use Rattle.ijson_json.proofs.grammar.ElementShapes.{items_shape, members_shape, spaced_pair}
use Rattle.ijson_json.proofs.grammar.SpelledTrees.{spaced}
use Rattle.ijson_json.proofs.reading.Elements.{Listing}
use Rattle.ijson_json.proofs.reading.ArraysAndObjects.{arrays, objects}
use Rattle.ijson_json.proofs.reading.StringContent.{body-push}
use Rattle.ijson_json.proofs.errors.Places.{member_pair}

-- Holds if some bytes after `text` extend it to a JSON text.
abbrev pub IsCompleted : List ℕ → Type 0
IsCompleted text = (closing : List ℕ) × (t : Tree) × Spaced (λ value. IsValue t value) (text ++ closing)

module _ (E : Type 0) (S : Shape E) where
  -- Elements with a comma after each, and one more element, form a list.
  each_list : {P : List ℕ → Type 0} {pre : List ℕ} (e : E) (text : List ℕ) → EachWithComma P pre
      → ((first : List ℕ) → P first → (f : E) × Spaced (λ inside. S.Is f inside) first) → Spaced (λ inside. S.Is e inside) text
      → (f : E) × (more : List E) × IsList S.Is (f ∷ more) (pre ++ text)
  each_list e text no_comma to s = (e, [], s)
  each_list e text (comma_after {first} {more} p each) to s =
      let f = to first p in
      let r = each_list e text each to s in
      (f.0, r.0 ∷ r.1, (first, more ++ text, f.1, r.2, append_assoc first (44 ∷ more) text))

  -- An opening bracket, elements with a comma after each, one more element and the closing bracket
  -- form a container.
  each_wrapped : {P : List ℕ → Type 0} {pre : List ℕ} (L : Listing E S) (gap : List ℕ) (e : E) (text : List ℕ) → IsSpace gap
      → EachWithComma P pre → ((first : List ℕ) → P first → (f : E) × Spaced (λ inside. S.Is f inside) first)
      → Spaced (λ inside. S.Is e inside) text
      → (t : Tree) × Spaced (λ value. IsValue t value) (gap ++ L.opening ∷ ((pre ++ text) ++ S.closing ∷ []))
  each_wrapped {pre = pre} L gap e text sg each to s =
      let r = each_list e text each to s in
      let list : List ℕ = L.opening ∷ ((pre ++ text) ++ S.closing ∷ []) in (
        L.wrap (r.0 ∷ r.1),
        (gap, list, [], sg, L.builds (r.0 ∷ r.1) (pre ++ text) r.2, tt, ap (λ (l : List ℕ). gap ++ l) (sym (append-nil list))),
      )

-- If some bytes complete the part inside the innermost container, some bytes complete the whole
-- text.
pub completed : {P : List ℕ → Type 0} {opened : ℕ} {before : List ℕ} → Inside P opened before → (rest : List ℕ)
    → ((last : List ℕ) → P last → IsCompleted (last ++ rest)) → IsCompleted (before ++ rest)
completed (here {text} p) rest at = at text p
completed (in_array gap {items} {inside} sg each i) rest at =
    let (closing, t, s) = completed i rest at in
    let w = each_wrapped Tree items_shape arrays gap t ((inside ++ rest) ++ closing) sg each (λ first p. p) s in
    (closing ++ 93 ∷ [], w.0, subst (λ (l : List ℕ). Spaced (λ value. IsValue w.0 value) l) (simp append_assoc) w.1)
completed (in_object gap key {members} {inside} sg each k i) rest at =
    let (closing, t, s) = completed i rest at in
    let text : List ℕ = key ++ 58 ∷ ((inside ++ rest) ++ closing) in
    let member = spaced_pair k.0 t text (key, (inside ++ rest) ++ closing, k.1, s, refl) in
    let w = each_wrapped (List ℕ × Tree) members_shape objects gap (k.0, t) text sg each member_pair member in
    (closing ++ 125 ∷ [], w.0, subst (λ (l : List ℕ). Spaced (λ value. IsValue w.0 value) l) (simp append_assoc) w.1)

-- An open string, one more character and a quote form a string.
string_closed : (text written meant : List ℕ) → Character written meant → IsOpenString text
    → (k : List ℕ) × Spaced (λ string. IsString k string) ((text ++ written) ++ 34 ∷ [])
string_closed text written meant c (gap, body, s, sg, h, e) = (
  s ++ meant,
  (
    gap,
    34 ∷ ((body ++ written) ++ 34 ∷ []),
    [],
    sg,
    (body ++ written, body-push h c, refl),
    tt,
    rw e (simp (append_assoc, append-nil)),
  ),
)

open_completed : (written meant : List ℕ) → Character written meant → (text : List ℕ) → IsOpenString text ⊎ IsOpenKey text
    → IsCompleted (text ++ written)
open_completed written meant character text (inl o) = let c = string_closed text written meant character o in (34 ∷ [], string c.0, c.1)
open_completed written meant character text (inr (gap, members, key, sg, each, o, e)) =
    let c = string_closed key written meant character o in
    let string : List ℕ = (key ++ written) ++ 34 ∷ [] in
    let member = spaced_pair c.0 null (string ++ 58 ∷ null_text)
    (string, null_text, c.1, spaced (λ value. IsValue null value) null_text refl, refl) in
    let w = each_wrapped (List ℕ × Tree) members_shape objects gap (c.0, null) (string ++ 58 ∷ null_text) sg each member_pair member in (
      34 ∷ 58 ∷ (null_text ++ 125 ∷ []),
      w.0,
      subst (λ (l : List ℕ). Spaced (λ value. IsValue w.0 value) l) (rw e (simp append_assoc)) w.1,
    )

-- If a character of a string may begin after `before`, any character may follow `before`.
pub character_completed : (before written meant : List ℕ) → Character written meant → IsCharacterPlace before
    → IsCompleted (before ++ written)
character_completed before written meant c (opened, i) = completed i written (open_completed written meant c)

-- If a character of a string may begin after `before`, a space may follow `before`.
pub space_in_string : (before : List ℕ) → IsCharacterPlace before → IsCompleted (before ++ 32 ∷ [])
space_in_string before place = character_completed before (32 ∷ []) (32 ∷ []) (unescaped refl) place

-- If a value may begin after `before`, white space may follow `before`.
pub space_completed : {opened : ℕ} {before : List ℕ} → IsValuePlace opened before → IsCompleted (before ++ 32 ∷ [])
space_completed place = completed place (32 ∷ [])
    (λ last gap. (null_text, null, (last ++ 32 ∷ [], null_text, [], all-append _ last (32 ∷ []) gap (refl, tt), refl, tt, refl)))

-- If a value may begin after `before`, a number may follow `before`.
pub number_completed : {opened : ℕ} {before : List ℕ} (text : List ℕ) (n : Decimal) → IsValuePlace opened before → Spells text n
    → IsCompleted (before ++ text)
number_completed text n place spelled = completed place text
    (λ last gap. ([], number n, (last, text, [], gap, spelled, tt, append_assoc last text [])))

-- If a value may begin after `before`, an opening bracket may follow `before`.
pub bracket_completed : {opened : ℕ} {before : List ℕ} (bracket : ℕ) → IsValuePlace opened before → (bracket ≡ 91) ⊎ (bracket ≡ 123)
    → IsCompleted (before ++ bracket ∷ [])
bracket_completed bracket place (inl e) = rw e (completed place (91 ∷ [])
    (λ last gap. (93 ∷ [], array no_items, (last, 91 ∷ 93 ∷ [], [], gap, ([], tt, refl), tt, append_assoc last (91 ∷ []) (93 ∷ [])))))
bracket_completed bracket place (inr e) = rw e (completed place (123 ∷ [])
    (λ last gap. (125 ∷ [], object no_members, (last, 123 ∷ 125 ∷ [], [], gap, ([], tt, refl), tt, append_assoc last (123 ∷ []) (125 ∷ [])))))
