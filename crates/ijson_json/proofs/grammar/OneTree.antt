-- Lemmas: a text has at most one tree.
use Rattle.std.proofs.Common.{◌≡◌, ℕ, true, false, List, [], ◌∷◌, ◌++◌, refl, sym, ap, ap₂, ◌∙◌, append_assoc, arith}
use Rattle.std.proofs.lemmas.List.{append_cancel_left, append_cancel_right, append-nil}
use Rattle.ijson_number.specs.NumberBytes.{is_number_byte}
use Rattle.ijson_value.specs.Order.{rank}
use Rattle.ijson_value.specs.Tree.{Tree, null, boolean, number, string, array, object, Items, no_items, item, items_list, Members}
use Rattle.ijson_value.specs.Tree.{no_members, member, items_of, members_list, members_of}
use Rattle.ijson_value.specs.laws.MemberTrees.{members_of-list}
use Rattle.ijson_value.specs.laws.TreeLookups.{items_of-list}
use Rattle.ijson_json.specs.Grammar.{is_space, Spaced, null_text, boolean_text, IsString, IsValue}
use Rattle.ijson_json.specs.OneTree.{OneTree}
use Rattle.ijson_json.specs.Settled.{settled}
use Rattle.ijson_number.proofs.parsing.Denotes.{spells_one}
use Rattle.ijson_number.proofs.parsing.SpelledBytes.{spells_bytes}
use Rattle.ijson_json.proofs.scanning.Prefixes.{run_same, tails, heads_apart}
use Rattle.ijson_json.proofs.grammar.StringBodies.{body_same}
use Rattle.ijson_json.proofs.grammar.FirstBytes.{value-past_space, kinds_same}
use Rattle.ijson_json.proofs.grammar.CommaLists.{ElementSame, AreAlone, lists_same, space-Stops, Ends-any}
use Rattle.ijson_json.proofs.grammar.ElementShapes.{items_shape, members_shape, items_to, members_to}

-- ---- texts between two bytes

-- If `a` is `i` between two bytes, `a ++ x` is the opening byte, `i`, the closing byte and `x`.
pub enclosed_with : (opening closing : ℕ) (a i x : List ℕ) → a ≡ opening ∷ (i ++ closing ∷ []) → a ++ x ≡ opening ∷ (i ++ closing ∷ x)
enclosed_with opening closing a i x f = rw f (simp append_assoc)

-- If two enclosed texts begin equal texts, the texts after the opening byte are equal.
pub enclosed : (opening closing : ℕ) (a b i j x y : List ℕ) → a ≡ opening ∷ (i ++ closing ∷ []) → b ≡ opening ∷ (j ++ closing ∷ [])
    → a ++ x ≡ b ++ y → i ++ closing ∷ x ≡ j ++ closing ∷ y
enclosed opening closing a b i j x y f g e =
    tails opening opening _ _ (sym (enclosed_with opening closing a i x f) ∙ e ∙ enclosed_with opening closing b j y g)

-- If two equal texts end with the same rest, the texts before the rest are equal.
same_front : (a b x y : List ℕ) → a ++ x ≡ b ++ y → x ≡ y → a ≡ b
same_front a b x y e f = append_cancel_right a b y (ap (λ (l : List ℕ). a ++ l) (sym f) ∙ e)

-- The string at the start of a text is unique.
pub string_same : (s t a b x y : List ℕ) → IsString s a → IsString t b → a ++ x ≡ b ++ y → (s ≡ t) × ((a ≡ b) × (x ≡ y))
string_same s t a b x y (i, v, f) (j, w, g) e =
    let same = body_same x y v w (enclosed 34 34 a b i j x y f g e) in
    (same.0, (same_front a b x y e same.1, same.1))

-- ---- one value

-- If the value of a member is unique in its text, so is the member.
pub pair_same : (m n : List ℕ × Tree) → ElementSame Tree items_shape m.1 n.1 → ElementSame (List ℕ × Tree) members_shape m n
pair_same m n values a b x y p q l r e =
    let left : a ++ x ≡ p.key ++ (p.gap ++ 58 ∷ (p.gap' ++ (p.value ++ x))) = rw (p.is) (simp append_assoc) in
    let right : b ++ y ≡ q.key ++ (q.gap ++ 58 ∷ (q.gap' ++ (q.value ++ y))) = rw (q.is) (simp append_assoc) in
    let k = string_same m.0 n.0 p.key q.key _ _ p.is_key q.is_key (sym left ∙ e ∙ right) in
    let g = run_same is_space p.gap q.gap (58 ∷ (p.gap' ++ (p.value ++ x)))
    (58 ∷ (q.gap' ++ (q.value ++ y))) p.space q.space refl refl k.1.1 in
    let h = run_same is_space p.gap' q.gap' (p.value ++ x) (q.value ++ y) p.space' q.space' (value-past_space m.1 p.value x p.is_value)
    (value-past_space n.1 q.value y q.is_value) (tails _ _ _ _ g.1) in
    let v = values p.value q.value x y p.is_value q.is_value l r h.1 in
    (ap₂ (λ (k : List ℕ) (t : Tree). (k, t)) k.0 v.0, (same_front a b x y e v.1.1, v.1.1))

-- If two equal texts begin with `word`, the texts after `word` are equal.
word_same : (word a b x y : List ℕ) → a ≡ word → b ≡ word → a ++ x ≡ b ++ y → (a ≡ b) × (x ≡ y)
word_same word a b x y v w e = (v ∙ sym w, append_cancel_left word x y (rw (v, w) at e))

mutual
  -- The value at the start of a text is unique.
  pub value_same : (t u : Tree) → ElementSame Tree items_shape t u
  value_same null null a b x y v w p q e = (refl, word_same null_text a b x y v w e)
  value_same (boolean true) (boolean true) a b x y v w p q e = (refl, word_same (boolean_text true) a b x y v w e)
  value_same (boolean false) (boolean false) a b x y v w p q e = (refl, word_same (boolean_text false) a b x y v w e)
  value_same (boolean true) (boolean false) a b x y v w p q e = absurd (heads_apart 116 102 _ _ (rw (v, w) at e) refl)
  value_same (boolean false) (boolean true) a b x y v w p q e = absurd (heads_apart 102 116 _ _ (rw (v, w) at e) refl)
  value_same (number m) (number n) a b x y v w p q e =
      let same = run_same is_number_byte a b x y (spells_bytes a m v) (spells_bytes b n w) p q e in
      (ap number (spells_one b m n (rw same.0 at v) w), same)
  value_same (string s) (string t) a b x y v w p q e =
      let same = string_same s t a b x y v w e in
      (ap string same.0, same.1)
  value_same (array is) (array js) a b x y (i, v, f) (j, w, g) p q e =
      let same = lists_same Tree items_shape (items_list is) (items_list js) (items_alone is) i j x y (items_to is i v) (items_to js j w)
      (enclosed 91 93 a b i j x y f g e) in
      (ap array (sym (items_of-list is) ∙ ap items_of same.0 ∙ items_of-list js), (same_front a b x y e same.1, same.1))
  value_same (object ms) (object ns) a b x y (i, v, f) (j, w, g) p q e =
      let same = lists_same (List ℕ × Tree) members_shape (members_list ms) (members_list ns) (members_alone ms) i j x y
      (members_to ms i v) (members_to ns j w) (enclosed 123 125 a b i j x y f g e) in
      (ap object (sym (members_of-list ms) ∙ ap members_of same.0 ∙ members_of-list ns), (same_front a b x y e same.1, same.1))
  value_same t u a b x y v w p q e = let k : rank t ≡ rank u = kinds_same t u a b x y v w e in absurd (omega (arith, k))

  items_alone : (is : Items) → AreAlone Tree items_shape (items_list is)
  items_alone no_items = tt
  items_alone (item t more) = (λ u. value_same t u, items_alone more)

  members_alone : (ms : Members) → AreAlone (List ℕ × Tree) members_shape (members_list ms)
  members_alone no_members = tt
  members_alone (member k t more) = (λ m. pair_same (k, t) m (value_same t m.1), members_alone more)

-- ---- a whole text

-- A text spells at most one tree, as written with duplicate keys.
pub text_same : (text : List ℕ) (t u : Tree) → Spaced (λ value. IsValue t value) text → Spaced (λ value. IsValue u value) text → t ≡ u
text_same text t u (b, v, a, s, w, sa, e) (b', v', a', s', w', sa', e') =
    let p = run_same is_space b b' (v ++ a) (v' ++ a') s s' (value-past_space t v a w) (value-past_space u v' a' w') (sym e ∙ e') in
    let q = space-Stops a [] sa tt in
    let q' = space-Stops a' [] sa' tt in
    let same = value_same t u v v' a a' w w' (Ends-any t a (rw append-nil at q)) (Ends-any u a' (rw append-nil at q')) p.1 in
    same.0

-- A text has at most one tree.
pub one_tree : OneTree
one_tree text t u d e r s a b = a.tree_is ∙ ap settled (text_same text a.written b.written a.spelled b.spelled) ∙ sym b.tree_is
