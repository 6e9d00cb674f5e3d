-- If a key, `:` and a value were read in order, a member of an object was read.
use Rattle.std.proofs.Common.{◌≡◌, ℕ, List, ◌∷◌, ◌++◌, refl, sym, ◌∙◌, append_assoc}
use Rattle.ijson_value.specs.Tree.{Tree}
use Rattle.ijson_json.specs.Grammar.{is_space, IsValue}
use Rattle.ijson_json.specs.private.Reading.{KeyRead, Past, Front, Found, Pair, IsRead}
use Rattle.ijson_json.proofs.scanning.Prefixes.{run_same, tails}
use Rattle.ijson_json.proofs.grammar.OneTree.{string_same}
use Rattle.ijson_json.proofs.grammar.FirstBytes.{value-past_space}

-- A text that begins with a member consists of a key, `:`, a value, white space around `:`, and the
-- rest.
pub pair_is : (m : List ℕ × Tree) (text rest : List ℕ) → (f : Front (λ text. Pair m text) text rest)
    → text ≡ f.holds.key ++ (f.holds.gap ++ 58 ∷ (f.holds.gap' ++ (f.holds.value ++ rest)))
pair_is m text rest f = f.is ∙ rw (f.holds.is) (simp append_assoc)

module _ {k text cur : List ℕ} (r : KeyRead k text cur) where
  -- The key that was read, `:` and a value form a member.
  pair_of : (t : Tree) (value : List ℕ) → IsValue t value → Pair (k, t) (r.key ++ (r.gap ++ 58 ∷ (r.gap' ++ value)))
  pair_of t value v = record {
    key = r.key;
    gap = r.gap;
    gap' = r.gap';
    value = value;
    is_key = r.is_key;
    space = r.space;
    space' = r.space';
    is_value = v;
    is = refl;
  }

  -- If a value was read after the key, a member was read.
  pub member_read : {opened : ℕ} {t : Tree} {rest : List ℕ} → IsRead opened cur t rest
      → Found (List ℕ × Tree) (λ m text. Pair m text) (λ m. m.1) opened text (k, t) rest
  member_read {opened} {t} {rest} v = record {
    found = record { front = _; holds = pair_of t v.found.front v.found.holds; is = r.is ∙ rw (v.found.is) (simp append_assoc) };
    ends = v.ends;
    deep = v.deep;
    ranged = v.ranged;
  }

  -- The value of a leading member begins at `cur`, after the key that was read.
  pub value_of : (m : List ℕ × Tree) (rest : List ℕ) → Front (λ text. Pair m text) text rest → Front (λ value. IsValue m.1 value) cur rest
  value_of m rest f =
      let p = f.holds in
      let s = string_same k m.0 r.key p.key _ _ r.is_key p.is_key (sym r.is ∙ pair_is m text rest f) in
      let g = run_same is_space r.gap p.gap (58 ∷ (r.gap' ++ cur)) (58 ∷ (p.gap' ++ (p.value ++ rest))) r.space p.space refl refl s.1.1 in
      let h = run_same is_space r.gap' p.gap' cur (p.value ++ rest) r.space' p.space' r.past (value-past_space m.1 p.value rest p.is_value)
      (tails _ _ _ _ g.1) in
      record { front = p.value; holds = p.is_value; is = h.1 }

  -- The text consists of the key, white space, `:`, white space, and `cur`.
  pub key_behind : text ≡ (r.key ++ (r.gap ++ 58 ∷ r.gap')) ++ cur
  key_behind = r.is ∙ simp append_assoc

-- The key `k` that was read is also read if any text `next` without leading white space follows
-- instead of `cur`.
pub key_again : {k text cur : List ℕ} (r : KeyRead k text cur) (next : List ℕ) → Past is_space next
    → KeyRead k ((r.key ++ (r.gap ++ 58 ∷ r.gap')) ++ next) next
key_again r next p = record {
  key = r.key;
  gap = r.gap;
  gap' = r.gap';
  is_key = r.is_key;
  space = r.space;
  space' = r.space';
  is = simp append_assoc;
  past = p;
}
