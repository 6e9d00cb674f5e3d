-- If a container begins with its bracket and elements with a comma after each, the remaining
-- elements follow.
use Rattle.std.proofs.Common.{◌≡◌, ℕ, suc, ◌≤◌, Bool, true, false, List, [], ◌∷◌, ◌++◌, refl, sym, ◌∙◌, append_assoc, arith, ap}
use Rattle.std.specs.Prelude.{◌&&◌, ◌==◌}
use Rattle.ijson_value.specs.Tree.{Tree, depth}
use Rattle.ijson_json.specs.Ranged.{is_ranged}
use Rattle.ijson_json.specs.Grammar.{is_space, IsSpace, Spaced, IsValue}
use Rattle.ijson_json.specs.Inside.{EachWithComma, no_comma, comma_after}
use Rattle.ijson_json.specs.private.Reading.{Stops, Past}
use Rattle.ijson_json.proofs.scanning.Prefixes.{run_same, past_byte, tails, heads_apart}
use Rattle.ijson_json.proofs.grammar.CommaLists.{IsList, Shape, Left, ElementSame, at_elements, first_same, space-Stops, Ends-any}
use Rattle.ijson_json.proofs.grammar.FirstBytes.{value-past_space}
use Rattle.ijson_json.proofs.reading.ElementLists.{deepest, all_ranged}
use Rattle.ijson_json.proofs.reading.Elements.{Listing}

-- If `a && b` is true, so is `a`.
pub and_first : (a b : Bool) → (a && b) ≡ true → a ≡ true
and_first true b e = refl
and_first false b e = e

pub and_last : (a b : Bool) → (a && b) ≡ true → b ≡ true
and_last true b e = e
and_last false b e = absurd cc

-- Holds if the first byte of `text` after white space is not `closing`.
pub record Opening (closing : ℕ) (text : List ℕ) : Type 0 where
  pub gap : List ℕ
  pub cur : List ℕ
  pub space : IsSpace gap
  pub past : Past is_space cur
  pub other : Past (λ b. b == closing) cur
  pub is : text ≡ gap ++ cur

module _ (E : Type 0) (S : Shape E) where
  -- Holds if `text` is the remaining elements of the list `fs`, the closing bracket, then `x`.
  --
  -- The remaining elements are no deeper than `fs`, and within the exponent limit if `fs` is.
  pub record Others (fs : List E) (text x : List ℕ) : Type 0 where
    pub next : E
    pub more : List E
    pub inside : List ℕ
    pub are : IsList S.Is (next ∷ more) inside
    pub is : text ≡ inside ++ S.closing ∷ x
    pub deep : deepest E S (next ∷ more) ≤ deepest E S fs
    pub ranged : all_ranged E S fs ≡ true → all_ranged E S (next ∷ more) ≡ true

  module _ (same : (e f : E) → ElementSame E S e f) where
    -- If a list begins with an element and a comma, the remaining elements follow the comma.
    pub after_one : (e : E) (first text : List ℕ) (fs : List E) (i x : List ℕ) → Spaced (λ inside. S.Is e inside) first → IsList S.Is fs i
        → first ++ 44 ∷ text ≡ i ++ S.closing ∷ x → (depth (S.inner e) ≤ deepest E S fs) × Others fs text x
    after_one e first text fs i x (b, v, s, sb, w, ss, f) l g = go fs l
      where
        cur : List ℕ
        cur = v ++ (s ++ 44 ∷ text)

        whole : b ++ cur ≡ i ++ S.closing ∷ x
        whole = (let p : first ++ 44 ∷ text ≡ b ++ cur = rw f (simp append_assoc) in sym p) ∙ g

        past : Past is_space cur
        past = S.past_space e v (s ++ 44 ∷ text) w

        behind : (u : E) (more : List E) (tail : List ℕ) → Left E S more tail x → tail ≡ 44 ∷ text → Others (u ∷ more) text x
        behind u [] tail left t = absurd (heads_apart S.closing 44 _ _ (sym left ∙ t) S.closing-comma)
        behind u (n ∷ ns) tail (others, are, h) t = record {
          next = n;
          more = ns;
          inside = others;
          are = are;
          is = tails 44 44 _ _ (sym t ∙ h);
          deep = omega arith;
          ranged = λ r. and_last (is_ranged (S.inner u)) (all_ranged E S (n ∷ ns)) r;
        }

        go : (fs : List E) → IsList S.Is fs i → (depth (S.inner e) ≤ deepest E S fs) × Others fs text x
        go [] l = absurd (past_byte S.closing cur x (S.past_closing e v (s ++ 44 ∷ text) w)
            (run_same is_space b i cur (S.closing ∷ x) sb l past S.closing-space whole).1)
        go (u ∷ more) l =
            let a = at_elements E S u more b cur i x sb past l whole in
            let q = first_same E S u e more cur x v (s ++ 44 ∷ text) s (44 ∷ text) (same u e) a w
            (Ends-any (S.inner e) _ (space-Stops s (44 ∷ text) ss refl)) refl refl ss refl in
            (omega (arith, ap (λ (v : E). depth (S.inner v)) q.0), behind u more a.tail a.left q.1)

    -- If a list begins with elements and a comma after each, the remaining elements follow.
    pub after_each : {P : List ℕ → Type 0} {pre : List ℕ} (text : List ℕ) (fs : List E) (i x : List ℕ) → EachWithComma P pre
        → ((first : List ℕ) → P first → (e : E) × Spaced (λ inside. S.Is e inside) first) → Opening S.closing text → IsList S.Is fs i
        → pre ++ text ≡ i ++ S.closing ∷ x → Others fs text x
    after_each text [] i x no_comma to o l g = absurd (past_byte S.closing o.cur x o.other
        (run_same is_space o.gap i o.cur (S.closing ∷ x) o.space l o.past S.closing-space (sym o.is ∙ g)).1)
    after_each text (u ∷ more) i x no_comma to o l g =
        record { next = u; more = more; inside = i; are = l; is = g; deep = omega arith; ranged = λ r. r }
    after_each text fs i x (comma_after {first} {more} p each) to o l g =
        let e = to first p in
        let one = (after_one e.0 first (more ++ text) fs i x e.1 l (sym (append_assoc first (44 ∷ more) text) ∙ g)).1 in
        let others = after_each text (one.next ∷ one.more) one.inside x each to o one.are (one.is) in
        record {
          next = others.next;
          more = others.more;
          inside = others.inside;
          are = others.are;
          is = others.is;
          deep = omega (arith, one.deep, others.deep);
          ranged = λ r. others.ranged (one.ranged r);
        }

  -- The text of a list begins with the first element, with white space around it.
  pub first_element : (e : E) (more : List E) (inside x text : List ℕ) → IsList S.Is (e ∷ more) inside → text ≡ inside ++ S.closing ∷ x
      → (first behind : List ℕ) × Spaced (λ text. S.Is e text) first × Stops behind × (first ++ behind ≡ text)
  first_element e [] inside x text l g = (inside, S.closing ∷ x, l, S.closing-number, sym g)
  first_element e (f ∷ more) inside x text (first, others, s, o, i) g =
      (first, 44 ∷ (others ++ S.closing ∷ x), s, refl, rw (g, i) (simp append_assoc))

module _ (E : Type 0) (S : Shape E) (L : Listing E S) where
  -- Holds if `text` begins with an element of the container `t`, with white space around it.
  pub record InList (t : Tree) (text : List ℕ) : Type 0 where
    pub element : E
    pub first : List ℕ
    pub behind : List ℕ
    pub spelled : Spaced (λ inside. S.Is element inside) first
    pub stops : Stops behind
    pub is : first ++ behind ≡ text
    pub deep : suc (depth (S.inner element)) ≤ depth t
    pub ranged : is_ranged t ≡ true → is_ranged (S.inner element) ≡ true

  -- Holds if `text` is the elements of the container `t`, the closing bracket, then `behind`.
  pub record Listed (t : Tree) (text : List ℕ) : Type 0 where
    pub elements : List E
    pub inside : List ℕ
    pub behind : List ℕ
    pub tree_is : t ≡ L.wrap elements
    pub are : IsList S.Is elements inside
    pub is : text ≡ inside ++ S.closing ∷ behind

  pub listed : (t : Tree) (gap text whole x : List ℕ) → is_space L.opening ≡ false → IsSpace gap → Spaced (λ value. IsValue t value) whole
      → whole ++ x ≡ gap ++ L.opening ∷ text → Listed t text
  listed t gap text whole x apart sg (b, v, a, sb, w, sa, f) g =
      let split : whole ++ x ≡ b ++ (v ++ (a ++ x)) = rw f (simp append_assoc) in
      let same : b ++ (v ++ (a ++ x)) ≡ gap ++ L.opening ∷ text = sym split ∙ g in
      let at = run_same is_space b gap (v ++ (a ++ x)) (L.opening ∷ text) sb sg (value-past_space t v (a ++ x) w) apart same in
      let list = L.only t text (a ++ x) (record { front = v; holds = w; is = sym at.1 }) in
      record { elements = list.0; inside = list.1; behind = a ++ x; tree_is = list.2; are = list.3; is = list.4 }

  -- If a container begins with its bracket and elements with a comma after each, the next element
  -- follows.
  pub in_list : {P : List ℕ → Type 0} {pre : List ℕ} (t : Tree) (gap text whole x : List ℕ) → is_space L.opening ≡ false → IsSpace gap
      → EachWithComma P pre → ((first : List ℕ) → P first → (e : E) × Spaced (λ inside. S.Is e inside) first)
      → Opening S.closing text → Spaced (λ value. IsValue t value) whole → whole ++ x ≡ gap ++ L.opening ∷ (pre ++ text) → InList t text
  in_list {pre = pre} t gap text whole x apart sg each to o s g =
      let list = listed t gap (pre ++ text) whole x apart sg s g in
      let others = after_each E S L.same text list.elements list.inside list.behind each to o list.are list.is in
      let first = first_element E S others.next others.more others.inside list.behind text others.are others.is in
      record {
        element = others.next;
        first = first.0;
        behind = first.1;
        spelled = first.2;
        stops = first.3;
        is = first.4;
        deep = omega (arith, ap depth list.tree_is, L.depth_is list.elements, others.deep);
        ranged = λ r. and_first (is_ranged (S.inner others.next)) (all_ranged E S others.more)
            (others.ranged (rw (list.tree_is, L.ranged_is list.elements) at r));
      }
