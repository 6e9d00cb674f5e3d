-- Lists of elements separated by commas: the elements of an array and the members of an object.
use Rattle.std.proofs.Common.{◌≡◌, ℕ, false, List, [], ◌∷◌, ◌++◌, eqb, refl, sym, ap, ap₂, subst, ◌∙◌, append_assoc, arith}
use Rattle.std.specs.Prelude.{IsTrue, ◌==◌, ⊤}
use Rattle.std.proofs.lemmas.Bool.Decides.{nat_tests}
use Rattle.ijson_number.specs.NumberBytes.{is_number_byte}
use Rattle.ijson_value.specs.Tree.{Tree, number}
use Rattle.ijson_json.specs.Grammar.{is_space, IsSpace, Spaced, Split}
use Rattle.ijson_json.specs.private.Reading.{Past, Stops, Ends}
use Rattle.ijson_json.proofs.scanning.Prefixes.{run_same, past_byte, tails, heads_apart}

-- Holds if the text is the elements, separated by commas and with white space around each.
abbrev pub IsList : {E : Type 0} → (E → List ℕ → Type 0) → List E → List ℕ → Type 0
IsList P [] text = IsSpace text
IsList P (e ∷ []) text = Spaced (λ inside. P e inside) text
IsList P (e ∷ f ∷ es) text = Split (λ first. Spaced (λ inside. P e inside) first) 44 (λ others. IsList P (f ∷ es) others) text

-- Describes the elements of a container: the text of an element, its value, and the closing
-- bracket.
pub record Shape (E : Type 0) : Type 1 where
  pub Is : E → List ℕ → Type 0
  pub inner : E → Tree
  pub closing : ℕ
  pub closing-space : is_space closing ≡ false
  pub closing-number : is_number_byte closing ≡ false
  pub closing-comma : eqb closing 44 ≡ false
  pub past_space : (e : E) (text x : List ℕ) → Is e text → Past is_space (text ++ x)
  pub past_closing : (e : E) (text x : List ℕ) → Is e text → Past (λ b. b == closing) (text ++ x)

-- A byte of white space is not a byte of a number.
space_stops : (b : ℕ) → IsTrue (is_space b) → is_number_byte b ≡ false
space_stops b h = grind (arith, nat_tests)

-- If `x` does not begin with a byte of a number, neither does `x` after white space.
pub space-Stops : (s x : List ℕ) → IsSpace s → Stops x → Stops (s ++ x)
space-Stops [] x h p = p
space-Stops (b ∷ s) x h p = space_stops b h.0

-- Any value may end before `x` if `x` does not begin with a byte of a number.
pub Ends-any : (t : Tree) (x : List ℕ) → Stops x → Ends t x
Ends-any (number n) x h = h
Ends-any t x h = tt

module _ (E : Type 0) (S : Shape E) where
  -- Holds if `tail` is the text after an element: any further elements, the closing bracket, then
  -- `x`.
  --
  -- A comma precedes further elements.
  abbrev pub Left : List E → List ℕ → List ℕ → Type 0
  Left [] tail x = tail ≡ S.closing ∷ x
  Left (f ∷ more) tail x = (others : List ℕ) × IsList S.Is (f ∷ more) others × (tail ≡ 44 ∷ (others ++ S.closing ∷ x))

  -- Holds if `cur` begins with the elements, without leading white space, and the closing bracket
  -- and `x` follow.
  pub record At (e : E) (more : List E) (cur x : List ℕ) : Type 0 where
    pub value : List ℕ
    pub after : List ℕ
    pub tail : List ℕ
    pub holds : S.Is e value
    pub space_after : IsSpace after
    pub left : Left more tail x
    pub is : cur ≡ value ++ (after ++ tail)

  -- The text of a list begins with white space, then the first element.
  at_first : (e : E) (more : List E) (text x : List ℕ) → IsList S.Is (e ∷ more) text
      → (before cur : List ℕ) × IsSpace before × At e more cur x × (text ++ S.closing ∷ x ≡ before ++ cur)
  at_first e [] text x (before, value, after, s, v, sa, t) = (
    before,
    value ++ (after ++ S.closing ∷ x),
    s,
    record { value = value; after = after; tail = S.closing ∷ x; holds = v; space_after = sa; left = refl; is = refl },
    ap (λ (l : List ℕ). l ++ S.closing ∷ x) t ∙ simp append_assoc,
  )
  at_first e (f ∷ more) text x (first, others, (before, value, after, s, v, sa, t), o, u) =
      let tail : List ℕ = 44 ∷ (others ++ S.closing ∷ x) in (
        before,
        value ++ (after ++ tail),
        s,
        record { value = value; after = after; tail = tail; holds = v; space_after = sa; left = (others, o, refl); is = refl },
        rw (u, t) (simp append_assoc),
      )

  -- The text after an element and its white space does not begin with a byte of a number.
  pub left-Stops : (more : List E) (tail x : List ℕ) → Left more tail x → Stops tail
  left-Stops [] tail x e = rw e (S.closing-number)
  left-Stops (f ∷ more) tail x (others, o, e) = rw e refl

  -- The text after an element and its white space does not begin with white space.
  pub left-past_space : (more : List E) (tail x : List ℕ) → Left more tail x → Past is_space tail
  left-past_space [] tail x e = rw e (S.closing-space)
  left-past_space (f ∷ more) tail x (others, o, e) = rw e refl

  -- The text right after an element does not begin with a byte of a number.
  pub at-Stops : (e : E) (more : List E) (cur x : List ℕ) (a : At e more cur x) → Stops (a.after ++ a.tail)
  at-Stops e more cur x a = space-Stops a.after a.tail a.space_after (left-Stops more a.tail x a.left)

  -- The text of an element does not begin with white space.
  pub at-past_space : (e : E) (more : List E) (cur x : List ℕ) (a : At e more cur x) → Past is_space cur
  at-past_space e more cur x a = rw (a.is) (S.past_space e a.value (a.after ++ a.tail) a.holds)

  -- The first element of a list begins after the leading white space.
  pub at_elements : (e : E) (more : List E) (s cur inside x : List ℕ) → IsSpace s → Past is_space cur → IsList S.Is (e ∷ more) inside
      → s ++ cur ≡ inside ++ S.closing ∷ x → At e more cur x
  at_elements e more s cur inside x h p v g =
      let f = at_first e more inside x v in
      let same = run_same is_space s f.0 cur f.1 h f.2 p (at-past_space e more f.1 x f.3) (g ∙ f.4) in
      subst (λ (c : List ℕ). At e more c x) (sym same.1) f.3

  -- Holds if two elements that begin equal texts are equal, and so are the texts after them.
  abbrev pub ElementSame : E → E → Type 0
  ElementSame e f = (a b x y : List ℕ) → S.Is e a → S.Is f b → Ends (S.inner e) x → Ends (S.inner f) y → a ++ x ≡ b ++ y
      → (e ≡ f) × ((a ≡ b) × (x ≡ y))

  -- The element at the start of a text, and the text after the element and its white space, are
  -- unique.
  pub first_same : (e f : E) (more : List E) (cur x front after s tail : List ℕ) → ElementSame e f → (a : At e more cur x) → S.Is f front
      → Ends (S.inner f) after → cur ≡ front ++ after → after ≡ s ++ tail → IsSpace s → Past is_space tail → (e ≡ f) × (a.tail ≡ tail)
  first_same e f more cur x front after s tail same a v n is g h p =
      let q = same a.value front (a.after ++ a.tail) after a.holds v (Ends-any (S.inner e) _ (at-Stops e more cur x a)) n (sym a.is ∙ is) in
      (q.0, (run_same is_space a.after s a.tail tail a.space_after h (left-past_space more a.tail x a.left) p (q.1.1 ∙ g)).1)

  -- Holds if each element is the only element with its text.
  abbrev pub AreAlone : List E → Type 0
  AreAlone [] = ⊤
  AreAlone (e ∷ es) = ((f : E) → ElementSame e f) × AreAlone es

  -- A text cannot spell both an empty list and a list with a first element.
  none_some : (f : E) (others : List E) (i j x y : List ℕ) → IsSpace i → IsList S.Is (f ∷ others) j
      → i ++ S.closing ∷ x ≡ j ++ S.closing ∷ y → ⊥
  none_some f others i j x y s w g =
      let (before, cur, h, b, e) = at_first f others j y w in
      let p = run_same is_space i before (S.closing ∷ x) cur s h S.closing-space (at-past_space f others cur y b) (g ∙ e) in
      past_byte S.closing _ x (S.past_closing f b.value (b.after ++ b.tail) b.holds) (sym b.is ∙ sym p.1)

  -- Holds if two lists that begin equal texts are equal, and so are the texts after them.
  abbrev pub ListsSame : List E → List E → Type 0
  ListsSame es fs = (i j x y : List ℕ) → IsList S.Is es i → IsList S.Is fs j → i ++ S.closing ∷ x ≡ j ++ S.closing ∷ y
      → (es ≡ fs) × (x ≡ y)

  -- Equal texts after an element contain the same further elements, if `ListsSame` holds for both
  -- lists.
  left_same : (es fs : List E) → ListsSame es fs → (c d x y : List ℕ) → Left es c x → Left fs d y → c ≡ d → (es ≡ fs) × (x ≡ y)
  left_same [] [] same c d x y l m g = (refl, tails _ _ _ _ (sym l ∙ g ∙ m))
  left_same [] (f ∷ others) same c d x y l m g = absurd (heads_apart S.closing 44 _ _ (sym l ∙ g ∙ m.2) S.closing-comma)
  left_same (e ∷ more) [] same c d x y l m g = absurd (heads_apart S.closing 44 _ _ (sym m ∙ sym g ∙ l.2) S.closing-comma)
  left_same (e ∷ more) (f ∷ others) same c d x y l m g = same l.0 m.0 x y l.1 m.1 (tails 44 44 _ _ (sym l.2 ∙ g ∙ m.2))

  -- If each element is the only element with its text, two lists that begin equal texts are equal.
  pub lists_same : (es fs : List E) → AreAlone es → ListsSame es fs
  lists_same [] [] alone i j x y v w g =
      (refl, tails _ _ _ _ (run_same is_space i j (S.closing ∷ x) (S.closing ∷ y) v w S.closing-space S.closing-space g).1)
  lists_same [] (f ∷ others) alone i j x y v w g = absurd (none_some f others i j x y v w g)
  lists_same (e ∷ more) [] alone i j x y v w g = absurd (none_some e more j i y x w v (sym g))
  lists_same (e ∷ more) (f ∷ others) alone i j x y v w g =
      let (before, cur, s, a, p) = at_first e more i x v in
      let (behind, next, t, b, q) = at_first f others j y w in
      let same = run_same is_space before behind cur next s t (at-past_space e more cur x a) (at-past_space f others next y b)
      (sym p ∙ g ∙ q) in
      let first = first_same e f more cur x b.value (b.after ++ b.tail) b.after b.tail (alone.0 f) a b.holds
      (Ends-any (S.inner f) _ (at-Stops f others next y b)) (same.1 ∙ b.is) refl b.space_after (left-past_space others b.tail y b.left) in
      let rest = left_same more others (lists_same more others alone.1) a.tail b.tail x y a.left b.left first.1 in
      (ap₂ ◌∷◌ first.0 rest.0, rest.1)
