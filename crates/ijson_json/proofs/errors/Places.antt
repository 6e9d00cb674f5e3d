-- If a value may begin at a position of a JSON text, and neither white space nor `]` is there, a
-- value inside the open containers begins there.
use Rattle.std.proofs.Common.{◌≡◌, ℕ, ◌+◌, ◌≤◌, true, List, [], ◌∷◌, ◌++◌, refl, sym, ap, ◌∙◌, append_assoc, append-nil, arith}
use Rattle.std.specs.Prelude.{◌==◌}
use Rattle.ijson_value.specs.Tree.{Tree, depth}
use Rattle.ijson_value.specs.Tree.{string}
use Rattle.ijson_json.specs.Ranged.{is_ranged}
use Rattle.ijson_json.specs.Grammar.{is_space, IsSpace, Spaced, IsString, IsValue}
use Rattle.ijson_json.specs.Inside.{IsKey, IsMember, Inside, here, in_array, in_object}
use Rattle.ijson_json.specs.private.Reading.{Stops, Past, Front, Pair}
use Rattle.ijson_json.proofs.scanning.Prefixes.{run_same, tails}
use Rattle.ijson_json.proofs.grammar.CommaLists.{space-Stops}
use Rattle.ijson_json.proofs.grammar.ElementShapes.{items_shape, members_shape, spaced_pair, spaced_pair_back}
use Rattle.ijson_json.proofs.grammar.FirstBytes.{value-past_space}
use Rattle.ijson_json.proofs.grammar.OneTree.{string_same}
use Rattle.ijson_json.proofs.reading.ArraysAndObjects.{arrays, objects}
use Rattle.ijson_json.proofs.errors.ListParts.{Opening, in_list}

-- ---- a member

-- A text that satisfies `IsMember` spells some member, with white space around it.
pub member_pair : (first : List ℕ) → IsMember first → (m : List ℕ × Tree) × Spaced (λ pair. Pair m pair) first
member_pair first (a, b, (k, key), (t, value), is) = ((k, t), spaced_pair k t first (a, b, key, value, is))

-- The first byte of a key after white space is a quote, so it is not `}`.
pub key_opening : (key text : List ℕ) → IsKey key → Opening 125 (key ++ text)
key_opening key text (k, (b, q, a, sb, (i, body, is), sa, f)) = record {
  gap = b;
  cur = 34 ∷ (i ++ 34 ∷ (a ++ text));
  space = sb;
  past = refl;
  other = refl;
  is = rw (f, is) (simp append_assoc);
}

-- If two keys begin equal texts, and `:` follows each key, the texts after `:` are equal.
string_behind : (k l p q x y : List ℕ) → Spaced (λ string. IsString k string) p → Spaced (λ string. IsString l string) q
    → p ++ 58 ∷ x ≡ q ++ 58 ∷ y → x ≡ y
string_behind k l p q x y (b, v, a, sb, w, sa, f) (b', v', a', sb', w', sa', f') e =
    let left : p ++ 58 ∷ x ≡ b ++ (v ++ (a ++ 58 ∷ x)) = rw f (simp append_assoc) in
    let right : q ++ 58 ∷ y ≡ b' ++ (v' ++ (a' ++ 58 ∷ y)) = rw f' (simp append_assoc) in
    let past = value-past_space (string k) v (a ++ 58 ∷ x) w in
    let past' = value-past_space (string l) v' (a' ++ 58 ∷ y) w' in
    let at = run_same is_space b b' _ _ sb sb' past past' (sym left ∙ e ∙ right) in
    let behind = string_same k l v v' _ _ w w' at.1 in
    tails 58 58 _ _ (run_same is_space a a' (58 ∷ x) (58 ∷ y) sa sa' refl refl behind.1.1).1

-- The value of a member begins after the key and `:`.
pub member_value : (m : List ℕ × Tree) (first behind key text : List ℕ) → Spaced (λ pair. Pair m pair) first → IsKey key
    → first ++ behind ≡ key ++ 58 ∷ text → (value : List ℕ) × Spaced (λ value. IsValue m.1 value) value × (value ++ behind ≡ text)
member_value m first behind key text s (k, p) e =
    let (q, v, is_key, is_value, f) = spaced_pair_back m.0 m.1 first s in
    let split : first ++ behind ≡ q ++ 58 ∷ (v ++ behind) = ap (λ (l : List ℕ). l ++ behind) f ∙ append_assoc q (58 ∷ v) behind in
    (v, is_value, string_behind m.0 k q key (v ++ behind) text is_key p (sym split ∙ e))

-- ---- a value inside containers

-- If the part inside the innermost container does not begin with `]`, neither does the whole text.
pub inside_opening : {P : List ℕ → Type 0} {opened : ℕ} {before : List ℕ} → Inside P opened before → (rest : List ℕ)
    → ((last : List ℕ) → P last → Opening 93 (last ++ rest)) → Opening 93 (before ++ rest)
inside_opening (here {text} p) rest starts = starts text p
inside_opening (in_array gap sg each i) rest starts =
    record { gap = gap; cur = 91 ∷ (_ ++ rest); space = sg; past = refl; other = refl; is = append_assoc gap (91 ∷ _) rest }
inside_opening (in_object gap key sg each k i) rest starts =
    record { gap = gap; cur = 123 ∷ (_ ++ rest); space = sg; past = refl; other = refl; is = append_assoc gap (123 ∷ _) rest }

-- Holds if `last ++ rest` begins with a value that is inside `opened` containers of `t`, and
-- `P last` holds.
pub record Descends (P : List ℕ → Type 0) (opened : ℕ) (t : Tree) (rest : List ℕ) : Type 0 where
  pub last : List ℕ
  pub is_last : P last
  pub value : Tree
  pub first : List ℕ
  pub behind : List ℕ
  pub spelled : Spaced (λ text. IsValue value text) first
  pub stops : Stops behind
  pub is : first ++ behind ≡ last ++ rest
  pub deep : opened + depth value ≤ depth t
  pub ranged : is_ranged t ≡ true → is_ranged value ≡ true

pub descends : {P : List ℕ → Type 0} {opened : ℕ} {before : List ℕ} → Inside P opened before → (rest : List ℕ)
    → ((last : List ℕ) → P last → Opening 93 (last ++ rest)) → (t : Tree) (whole x : List ℕ) → Spaced (λ value. IsValue t value) whole
    → Stops x → whole ++ x ≡ before ++ rest → Descends P opened t rest
descends (here {text} p) rest starts t whole x s stops g = record {
  last = text;
  is_last = p;
  value = t;
  first = whole;
  behind = x;
  spelled = s;
  stops = stops;
  is = g;
  deep = omega arith;
  ranged = λ r. r;
}
descends (in_array gap {items} {inside} sg each i) rest starts t whole x s stops g =
    let l = in_list Tree items_shape arrays t gap (inside ++ rest) whole x refl sg each (λ first p. p)
    (inside_opening i rest starts) s (g ∙ simp append_assoc) in
    let d = descends i rest starts l.element l.first l.behind l.spelled l.stops l.is in
    record {
      last = d.last;
      is_last = d.is_last;
      value = d.value;
      first = d.first;
      behind = d.behind;
      spelled = d.spelled;
      stops = d.stops;
      is = d.is;
      deep = omega (arith, d.deep, l.deep);
      ranged = λ r. d.ranged (l.ranged r);
    }
descends (in_object gap key {members} {inside} sg each k i) rest starts t whole x s stops g =
    let l = in_list (List ℕ × Tree) members_shape objects t gap (key ++ 58 ∷ (inside ++ rest)) whole x refl sg each member_pair
    (key_opening key (58 ∷ (inside ++ rest)) k) s (g ∙ simp append_assoc) in
    let v = member_value l.element l.first l.behind key (inside ++ rest) l.spelled k l.is in
    let d = descends i rest starts l.element.1 v.0 l.behind v.1 l.stops v.2 in
    record {
      last = d.last;
      is_last = d.is_last;
      value = d.value;
      first = d.first;
      behind = d.behind;
      spelled = d.spelled;
      stops = d.stops;
      is = d.is;
      deep = omega (arith, d.deep, l.deep);
      ranged = λ r. d.ranged (l.ranged r);
    }

-- Holds if `rest` begins with a value that is inside `opened` containers of `t`.
pub record ValueAt (opened : ℕ) (t : Tree) (rest : List ℕ) : Type 0 where
  pub value : Tree
  pub behind : List ℕ
  pub front : Front (λ text. IsValue value text) rest behind
  pub stops : Stops behind
  pub deep : opened + depth value ≤ depth t
  pub ranged : is_ranged t ≡ true → is_ranged value ≡ true

pub value_at : (opened : ℕ) (before rest : List ℕ) (t : Tree) → Inside IsSpace opened before → Past is_space rest
    → Past (λ b. b == 93) rest → Spaced (λ value. IsValue t value) (before ++ rest) → ValueAt opened t rest
value_at opened before rest t i past other s =
    let start : (last : List ℕ) → IsSpace last → Opening 93 (last ++ rest) =
    λ last h. record { gap = last; cur = rest; space = h; past = past; other = other; is = refl } in
    let d = descends i rest start t (before ++ rest) [] s tt (simp append-nil) in
    let (b, v, a, sb, w, sa, f) = d.spelled in
    let split : d.first ++ d.behind ≡ b ++ (v ++ (a ++ d.behind)) = rw f (simp append_assoc) in
    let at = run_same is_space b d.last (v ++ (a ++ d.behind)) rest sb d.is_last (value-past_space d.value v _ w) past (sym split ∙ d.is) in
    record {
      value = d.value;
      behind = a ++ d.behind;
      front = record { front = v; holds = w; is = sym at.1 };
      stops = space-Stops a d.behind sa d.stops;
      deep = d.deep;
      ranged = d.ranged;
    }
