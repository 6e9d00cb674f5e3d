-- The elements of an array and the members of an object as lists separated by commas.
use Rattle.std.proofs.Common.{◌≡◌, ℕ, List, [], ◌∷◌, ◌++◌, refl, append_assoc}
use Rattle.ijson_value.specs.Tree.{Tree, Items, no_items, item, items_list, Members, no_members, member, members_list}
use Rattle.ijson_json.specs.Grammar.{Spaced, Split, IsString, IsValue, IsItems, IsMembers}
use Rattle.ijson_json.specs.private.Reading.{Pair}
use Rattle.ijson_json.proofs.grammar.CommaLists.{IsList, Shape}
use Rattle.ijson_json.proofs.grammar.FirstBytes.{value-past_space, value-past_kind}

-- The shape of the elements of an array, which end at `]`.
abbrev pub items_shape : Shape Tree
items_shape = record {
  Is = λ t text. IsValue t text;
  inner = λ t. t;
  closing = 93;
  closing-space = refl;
  closing-number = refl;
  closing-comma = refl;
  past_space = value-past_space;
  past_closing = value-past_kind 93 refl;
}

-- The text of a member begins with a quote.
pub pair_first : (m : List ℕ × Tree) (text x : List ℕ) → Pair m text → (more : List ℕ) × (text ++ x ≡ 34 ∷ more)
pair_first m text x p = ((p.is_key.0 ++ 34 ∷ []) ++ (p.gap ++ 58 ∷ (p.gap' ++ p.value)) ++ x, rw (p.is, p.is_key.2) (simp append_assoc))

-- The shape of the members of an object, which end at `}`.
abbrev pub members_shape : Shape (List ℕ × Tree)
members_shape = record {
  Is = λ m text. Pair m text;
  inner = λ m. m.1;
  closing = 125;
  closing-space = refl;
  closing-number = refl;
  closing-comma = refl;
  past_space = λ m text x p. rw (pair_first m text x p).1 refl;
  past_closing = λ m text x p. rw (pair_first m text x p).1 refl;
}

-- A key, `:` and a value, with white space around the key and the value, form a member with white
-- space around it.
pub spaced_pair : (k : List ℕ) (t : Tree) (text : List ℕ)
    → Split (λ key. Spaced (λ string. IsString k string) key) 58 (λ value. Spaced (λ value. IsValue t value) value) text
    → Spaced (λ pair. Pair (k, t) pair) text
spaced_pair k t text (first, second, (b, s, g, sb, h, sg, e), (g', v, a, sg', w, sa, f), i) = (
  b,
  s ++ (g ++ 58 ∷ (g' ++ v)),
  a,
  sb,
  record {
    key = s;
    gap = g;
    gap' = g';
    value = v;
    is_key = h;
    space = sg;
    space' = sg';
    is_value = w;
    is = refl;
  },
  sa,
  rw (i, e, f) (simp append_assoc),
)

-- A member with white space around it is a key, `:` and a value, with white space around both.
pub spaced_pair_back : (k : List ℕ) (t : Tree) (text : List ℕ) → Spaced (λ pair. Pair (k, t) pair) text
    → Split (λ key. Spaced (λ string. IsString k string) key) 58 (λ value. Spaced (λ value. IsValue t value) value) text
spaced_pair_back k t text (b, inside, a, sb, p, sa, e) = (
  b ++ (p.key ++ p.gap),
  p.gap' ++ (p.value ++ a),
  (b, p.key, p.gap, sb, p.is_key, p.space, refl),
  (p.gap', p.value, a, p.space', p.is_value, sa, refl),
  rw (e, p.is) (simp append_assoc),
)

-- A text that spells the `Items` spells the list of these elements.
pub items_to : (is : Items) (text : List ℕ) → IsItems is text → IsList items_shape.Is (items_list is) text
items_to no_items text h = h
items_to (item t no_items) text h = h
items_to (item t (item u more)) text (a, b, v, w, e) = (a, b, v, items_to (item u more) b w, e)

-- A text that spells the list of elements spells the `Items`.
pub items_from : (is : Items) (text : List ℕ) → IsList items_shape.Is (items_list is) text → IsItems is text
items_from no_items text h = h
items_from (item t no_items) text h = h
items_from (item t (item u more)) text (a, b, v, w, e) = (a, b, v, items_from (item u more) b w, e)

-- A text that spells the `Members` spells the list of these members.
pub members_to : (ms : Members) (text : List ℕ) → IsMembers ms text → IsList members_shape.Is (members_list ms) text
members_to no_members text h = h
members_to (member k t no_members) text h = spaced_pair k t text h
members_to (member k t (member l u more)) text (a, b, v, w, e) = (a, b, spaced_pair k t a v, members_to (member l u more) b w, e)

-- A text that spells the list of members spells the `Members`.
pub members_from : (ms : Members) (text : List ℕ) → IsList members_shape.Is (members_list ms) text → IsMembers ms text
members_from no_members text h = h
members_from (member k t no_members) text h = spaced_pair_back k t text h
members_from (member k t (member l u more)) text (a, b, v, w, e) = (a, b, spaced_pair_back k t a v, members_from (member l u more) b w, e)
