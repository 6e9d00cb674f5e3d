-- Lemmas: a value and closing brackets complete a prefix of a JSON text, without increasing the
-- maximum depth.
use Rattle.std.proofs.Common.{◌≡◌, ℕ, suc, ◌+◌, ◌-◌, ◌≤◌, true, false, max, List, [], ◌∷◌, ◌++◌, refl, sym, ap, subst, ◌∙◌, append_assoc, append-nil, arith, inl, inr}
use Rattle.std.specs.Prelude.{◌⊎◌}
use Rattle.ijson_value.specs.Tree.{Tree, depth}
use Rattle.ijson_json.specs.Ranged.{is_ranged}
use Rattle.ijson_json.specs.Grammar.{is_space, IsSpace, Spaced, IsString, IsValue, IsClosers}
use Rattle.ijson_json.specs.private.Reading.{Pair}
use Rattle.ijson_json.specs.Inside.{EachWithComma, no_comma, comma_after, Inside, here, in_array, in_object}
use Rattle.ijson_json.proofs.scanning.Prefixes.{all-append}
use Rattle.ijson_json.proofs.grammar.CommaLists.{IsList, Shape, ElementSame}
use Rattle.ijson_json.proofs.grammar.ElementShapes.{items_shape, members_shape, spaced_pair}
use Rattle.ijson_json.proofs.reading.ElementLists.{deepest, all_ranged}
use Rattle.ijson_json.proofs.reading.Elements.{Listing}
use Rattle.ijson_json.proofs.reading.ArraysAndObjects.{arrays, objects}
use Rattle.ijson_json.proofs.errors.ListParts.{Opening, and_first, and_last, after_one, listed, in_list}
use Rattle.ijson_json.proofs.errors.Places.{member_pair, key_opening, member_value}

module _ (E : Type 0) (S : Shape E) where
  -- Holds if the elements `pre` and the element `e` form a list. The depth of the list is at most
  -- the maximum of `bound` and the depth of `e`. If the list is within the exponent limit, so is
  -- `e`.
  record Filled (pre : List ℕ) (bound : ℕ) (e : E) (text : List ℕ) : Type 0 where
    first : E
    more : List E
    are : IsList S.Is (first ∷ more) (pre ++ text)
    deep : deepest E S (first ∷ more) ≤ max bound (depth (S.inner e))
    ranged : all_ranged E S (first ∷ more) ≡ true → is_ranged (S.inner e) ≡ true

  each_filled : ((e f : E) → ElementSame E S e f) → {P : List ℕ → Type 0} {pre : List ℕ} (text : List ℕ) (fs : List E) (i x : List ℕ)
      → EachWithComma P pre → ((first : List ℕ) → P first → (e : E) × Spaced (λ inside. S.Is e inside) first) → IsList S.Is fs i
      → pre ++ text ≡ i ++ S.closing ∷ x → (e : E) (other : List ℕ) → Spaced (λ inside. S.Is e inside) other
      → Filled pre (deepest E S fs) e other
  each_filled same text fs i x no_comma to l g e other s = record {
    first = e;
    more = [];
    are = s;
    deep = omega arith;
    ranged = λ r. and_first (is_ranged (S.inner e)) true r;
  }
  each_filled same text fs i x (comma_after {first} {more} p each) to l g e other s =
      let f = to first p in
      let one = after_one E S same f.0 first (more ++ text) fs i x f.1 l (sym (append_assoc first (44 ∷ more) text) ∙ g) in
      let r = each_filled same text (one.1.next ∷ one.1.more) one.1.inside x each to one.1.are one.1.is e other s in
      record {
        first = f.0;
        more = r.first ∷ r.more;
        are = (first, more ++ other, f.1, r.are, append_assoc first (44 ∷ more) other);
        deep = omega (arith, one.0, one.1.deep, r.deep);
        ranged = λ h. r.ranged (and_last (is_ranged (S.inner f.0)) (all_ranged E S (r.first ∷ r.more)) h);
      }

  -- Holds if the elements `pre` and the element `e` form a container.
  --
  -- The depth of the container is at most the maximum of `bound` and the depth of `e` plus 1. If
  -- the container is within the exponent limit, so is `e`.
  record FilledValue (L : Listing E S) (gap pre : List ℕ) (bound : ℕ) (e : E) (text : List ℕ) : Type 0 where
    tree : Tree
    spelled : Spaced (λ value. IsValue tree value) (gap ++ L.opening ∷ ((pre ++ text) ++ S.closing ∷ []))
    within : 1 ≤ bound
    deep : depth tree ≤ max bound (suc (depth (S.inner e)))
    ranged : is_ranged tree ≡ true → is_ranged (S.inner e) ≡ true

  value_filled : (L : Listing E S) {P : List ℕ → Type 0} {pre : List ℕ} (t : Tree) (gap text whole x : List ℕ)
      → is_space L.opening ≡ false → IsSpace gap → EachWithComma P pre
      → ((first : List ℕ) → P first → (e : E) × Spaced (λ inside. S.Is e inside) first)
      → Spaced (λ value. IsValue t value) whole → whole ++ x ≡ gap ++ L.opening ∷ (pre ++ text)
      → (e : E) (other : List ℕ) → Spaced (λ inside. S.Is e inside) other → FilledValue L gap pre (depth t) e other
  value_filled L {pre = pre} t gap text whole x apart sg each to s g e other h =
      let list = listed E S L t gap (pre ++ text) whole x apart sg s g in
      let f = each_filled L.same text list.elements list.inside list.behind each to list.are list.is e other h in
      let es : List E = f.first ∷ f.more in
      let value : List ℕ = L.opening ∷ ((pre ++ other) ++ S.closing ∷ []) in
      let deep = ap depth list.tree_is ∙ L.depth_is list.elements in
      record {
        tree = L.wrap es;
        spelled = (gap, value, [], sg, L.builds es (pre ++ other) f.are, tt, ap (λ (l : List ℕ). gap ++ l) (sym (append-nil value)));
        within = omega (arith, deep);
        deep = omega (arith, deep, L.depth_is es, f.deep);
        ranged = λ r. f.ranged (sym (L.ranged_is es) ∙ r);
      }

-- ---- a value inside containers

-- Holds if `text` begins with a value of depth at most `bound`, with white space around it.
abbrev pub HasValue : List ℕ → ℕ → Type 0
HasValue text bound =
    (t : Tree) × (whole x : List ℕ) × Spaced (λ value. IsValue t value) whole × (whole ++ x ≡ text) × (depth t ≤ bound)

-- Holds if the value `u` and closing brackets extend `before` to a JSON text.
--
-- The depth of the JSON text is at most the maximum of `bound` and the depth of `u` plus `opened`.
-- If the JSON text is within the exponent limit, so is `u`.
pub record Closed (opened : ℕ) (before : List ℕ) (bound : ℕ) (u : Tree) (text : List ℕ) : Type 0 where
  pub closers : List ℕ
  pub closing : IsClosers closers
  pub tree : Tree
  pub spelled : Spaced (λ value. IsValue tree value) (before ++ (text ++ closers))
  pub deep : depth tree ≤ max bound (opened + depth u)
  pub ranged : is_ranged tree ≡ true → is_ranged u ≡ true

-- The text of an array is a prefix of the array, the value `text`, then all closing brackets.
array_text : (gap items inside text closers : List ℕ) → gap ++ 91 ∷ ((items ++ (inside ++ (text ++ closers))) ++ 93 ∷ [])
    ≡ (gap ++ 91 ∷ (items ++ inside)) ++ (text ++ (closers ++ 93 ∷ []))
array_text gap items inside text closers = simp append_assoc

object_text : (gap members key inside text closers : List ℕ)
    → gap ++ 123 ∷ ((members ++ (key ++ 58 ∷ (inside ++ (text ++ closers)))) ++ 125 ∷ [])
    ≡ (gap ++ 123 ∷ (members ++ (key ++ 58 ∷ inside))) ++ (text ++ (closers ++ 125 ∷ []))
object_text gap members key inside text closers = simp append_assoc

-- If closing brackets complete the value of a member, they complete the member.
member_closed : (k key inside closers : List ℕ) (t : Tree) (text : List ℕ) → Spaced (λ string. IsString k string) key
    → Spaced (λ value. IsValue t value) (inside ++ (text ++ closers))
    → Spaced (λ pair. Pair (k, t) pair) (key ++ 58 ∷ (inside ++ (text ++ closers)))
member_closed k key inside closers t text p s =
    spaced_pair k t (key ++ 58 ∷ (inside ++ (text ++ closers))) (key, inside ++ (text ++ closers), p, s, refl)

-- If closing brackets complete the value in a container, these and the bracket of the container
-- complete the container.
closed_in : {opened : ℕ} (before inside : List ℕ) (bound d : ℕ) (bracket : ℕ) (u t : Tree) (text whole : List ℕ)
    → (bracket ≡ 93) ⊎ (bracket ≡ 125) → (c : Closed opened inside (bound - 1) u text) → Spaced (λ value. IsValue t value) whole
    → whole ≡ before ++ (text ++ (c.closers ++ bracket ∷ [])) → 1 ≤ d → d ≤ bound → depth t ≤ max d (suc (depth c.tree))
    → (is_ranged t ≡ true → is_ranged c.tree ≡ true) → Closed (suc opened) before bound u text
closed_in before inside bound d bracket u t text whole b c s e low high deep ranged = record {
  closers = c.closers ++ bracket ∷ [];
  closing = all-append _ c.closers (bracket ∷ []) c.closing (b, tt);
  tree = t;
  spelled = subst (λ (l : List ℕ). Spaced (λ value. IsValue t value) l) e s;
  deep = omega (arith, c.deep, deep, low, high);
  ranged = λ r. c.ranged (ranged r);
}

-- If a value may begin after `before`, the value `u` and closing brackets extend `before` to a JSON
-- text.
--
-- `before` must be a prefix of a value of depth at most `bound`.
pub closed : {opened : ℕ} {before : List ℕ} → Inside IsSpace opened before → (behind : List ℕ) (bound : ℕ)
    → (Opening 93 (before ++ behind) → HasValue (before ++ behind) bound) → (u : Tree) (text : List ℕ) → IsValue u text
    → Closed opened before bound u text
closed (here {text = gap} sg) behind bound has u text v = record {
  closers = [];
  closing = tt;
  tree = u;
  spelled = (gap, text, [], sg, v, tt, refl);
  deep = omega arith;
  ranged = λ r. r;
}
closed (in_array gap {items} {inside} sg each i) behind bound has u text v =
    let opening : Opening 93 ((gap ++ 91 ∷ (items ++ inside)) ++ behind) =
    record { gap = gap; cur = 91 ∷ ((items ++ inside) ++ behind); space = sg; past = refl; other = refl; is = append_assoc gap (91 ∷ (items ++ inside)) behind } in
    let (t, whole, x, s, g, deep) = has opening in
    let same : whole ++ x ≡ gap ++ 91 ∷ (items ++ (inside ++ behind)) = g ∙ simp append_assoc in
    let inner = closed i behind (bound - 1)
    (λ o. let l = in_list Tree items_shape arrays t gap (inside ++ behind) whole x refl sg each (λ first p. p) o s same in
    (l.element, l.first, l.behind, l.spelled, l.is, omega (arith, l.deep, deep))) u text v in
    let w = value_filled Tree items_shape arrays t gap (inside ++ behind) whole x refl sg each (λ first p. p) s same inner.tree
    (inside ++ (text ++ inner.closers)) inner.spelled in
    closed_in (gap ++ 91 ∷ (items ++ inside)) inside bound (depth t) 93 u w.tree text _ (inl refl) inner w.spelled
    (array_text gap items inside text inner.closers) w.within deep w.deep w.ranged
closed (in_object gap key {members} {inside} sg each k i) behind bound has u text v =
    let opening : Opening 93 ((gap ++ 123 ∷ (members ++ (key ++ 58 ∷ inside))) ++ behind) =
    record { gap = gap; cur = 123 ∷ ((members ++ (key ++ 58 ∷ inside)) ++ behind); space = sg; past = refl; other = refl; is = append_assoc gap (123 ∷ (members ++ (key ++ 58 ∷ inside))) behind } in
    let (t, whole, x, s, g, deep) = has opening in
    let same : whole ++ x ≡ gap ++ 123 ∷ (members ++ (key ++ 58 ∷ (inside ++ behind))) = g ∙ simp append_assoc in
    let l = in_list (List ℕ × Tree) members_shape objects t gap (key ++ 58 ∷ (inside ++ behind)) whole x refl sg each member_pair
    (key_opening key (58 ∷ (inside ++ behind)) k) s same in
    let m = member_value l.element l.first l.behind key (inside ++ behind) l.spelled k l.is in
    let inner = closed i behind (bound - 1) (λ o. (l.element.1, m.0, l.behind, m.1, m.2, omega (arith, l.deep, deep))) u text v in
    let member = member_closed k.0 key inside inner.closers inner.tree text k.1 inner.spelled in
    let w = value_filled (List ℕ × Tree) members_shape objects t gap (key ++ 58 ∷ (inside ++ behind)) whole x refl sg each member_pair s
    same (k.0, inner.tree) (key ++ 58 ∷ (inside ++ (text ++ inner.closers))) member in
    closed_in (gap ++ 123 ∷ (members ++ (key ++ 58 ∷ inside))) inside bound (depth t) 125 u w.tree text _ (inr refl) inner w.spelled
    (object_text gap members key inside text inner.closers) w.within deep w.deep w.ranged
