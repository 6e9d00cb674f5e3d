-- Reading a text adds only strings of the text to the cache, and keeps the strings in the cache.
use Rattle.std.proofs.Common.{◌≡◌, ℕ, Bool, true, false, List, [], ◌∷◌, ◌++◌, length, refl, sym, ap, ◌∙◌, append_assoc, inl}
use Rattle.std.proofs.Common.{inr}
use Rattle.std.specs.Prelude.{◌||◌, ◌&&◌, ltb, if◌then◌else◌}
use Rattle.std.specs.FinSet as set
use Rattle.std.specs.Str.{bytes_eq}
use Rattle.std.specs.Cmp.Lexicographic.{nat_list_cmp_total}
use Rattle.std.proofs.lemmas.Slice.Eq.{bytes_eq-Decides}
use Rattle.std.proofs.lemmas.Map.Text.{is_eq-slice_cmp}
use Rattle.std.proofs.lemmas.Bool.{and_parts, lt-ltb, ltb-true, or_cases, or_right}
use Rattle.ijson_string.specs.Cache.{Texts, interned}
use Rattle.ijson_table.specs.Store.{put, put_each}
use Rattle.ijson_table.proofs.pairs.PutEach.{put_each-append}
use Rattle.ijson_value.specs.Tree.{Tree, string, array, object, Items, no_items, item, Members, no_members, member}
use Rattle.ijson_value.specs.WellFormed.{WellFormed, item_trees, pair_trees}
use Rattle.ijson_json.specs.Grammar.{IsString}
use Rattle.ijson_json.specs.private.Reading.{Front, KeyRead, Skips}
use Rattle.ijson_json.proofs.reading.Members.{key_behind}
use Rattle.ijson_json.proofs.reading.StringContent.{string_first}
use Rattle.ijson_json.specs.AddsOnlyRead.{IsSpelledIn, AddsOnlyRead}
use Rattle.ijson_json.specs.AreShared.{IsShared, AreShared, ItemsAreShared, MembersAreShared}

-- `AddsOnlyRead` holds for an unchanged cache.
pub adds_none : (text : List ℕ) (cache : Texts) → AddsOnlyRead text cache cache
adds_none text cache = record { kept = λ s h. h; added = λ s h. inl h }

-- A string that a slice of `rest` spells is spelled by a slice of `head ++ rest`.
spelled_behind : (text head rest s : List ℕ) → text ≡ head ++ rest → IsSpelledIn rest s → IsSpelledIn text s
spelled_behind text head rest s e (before, body, after, b, f) =
    (head ++ before, body, after, b, e ∙ ap (λ (l : List ℕ). head ++ l) f ∙ sym (append_assoc head before (body ++ after)))

-- If the cache gains only strings of `text`, and then only strings of its end `rest`, it gains only
-- strings of `text` in total.
pub adds_more : (text head rest : List ℕ) (old middle new : Texts) → text ≡ head ++ rest → AddsOnlyRead text old middle
    → AddsOnlyRead rest middle new → AddsOnlyRead text old new
adds_more text head rest old middle new e a b = record {
  kept = λ s h. b.kept s (a.kept s h);
  added = λ s h. elim (b.added s h) [ inl m ↦ a.added s m | inr p ↦ inr (p.0, spelled_behind text head rest s e p.1) ];
}

-- If the cache gains only strings of the text after leading white space, it gains only strings of
-- the text.
pub adds_behind : {text start : List ℕ} {old new : Texts} → Skips text start → AddsOnlyRead start old new → AddsOnlyRead text old new
adds_behind {text} {start} {old} {new} s a = adds_more text s.space start old old new s.is (adds_none text old) a

-- If the cache gains only strings of `text`, and then only strings of the text after the key, it
-- gains only strings of `text` in total.
pub adds_behind_key : {k text cur : List ℕ} {old middle new : Texts} → KeyRead k text cur → AddsOnlyRead text old middle
    → AddsOnlyRead cur middle new → AddsOnlyRead text old new
adds_behind_key {k} {text} {cur} {old} {middle} {new} r a b =
    adds_more text _ cur old middle new (key_behind r) a b

-- ---- interning a string

-- The cache after interning `s` contains the old strings, and `s` if it has more than 7 bytes.
interned_contains : (cache : Texts) (s q : List ℕ)
    → set.contains (interned s cache).texts q ≡ (ltb 7 (length s) && bytes_eq q s || set.contains cache.texts q)
interned_contains cache s q = elim (ltb 7 (length s)) as (λ b. set.contains (if b then set.insert cache.texts s else cache.texts) q
    ≡ (b && bytes_eq q s || set.contains cache.texts q)) [
      | true ↦ set.contains-insert nat_list_cmp_total cache.texts s q
          ∙ ap (λ (b : Bool). b || set.contains cache.texts q) (is_eq-slice_cmp q s)
      | false ↦ refl
    ]

-- Interning a string that the text spells adds only strings of the text.
interned_adds : (text : List ℕ) (cache : Texts) (s : List ℕ) → IsSpelledIn text s → AddsOnlyRead text cache (interned s cache)
interned_adds text cache s p = record {
  kept = λ q h. interned_contains cache s q ∙ or_right _ (set.contains cache.texts q) h;
  added = λ q h. elim (or_cases (ltb 7 (length s) && bytes_eq q s) (set.contains cache.texts q) (sym (interned_contains cache s q) ∙ h)) [
    | inl same ↦ let both = and_parts _ _ same in inr (rw ((bytes_eq-Decides q s).0 both.1) (ltb-true 7 (length s) both.0, p))
    | inr old ↦ inl old
  ];
}

-- Interning the leading string adds only strings of the text.
pub string_adds : (text rest s : List ℕ) (old new : Texts) → Front (λ front. IsString s front) text rest → new ≡ interned s old
    → AddsOnlyRead text old new
string_adds text rest s old new f e =
    rw e (interned_adds text old s (34 ∷ [], f.holds.0, 34 ∷ rest, f.holds.1, string_first text s rest f))

-- After `s` was interned, the cache contains `s` or `s` has at most 7 bytes.
pub string_shared : (s : List ℕ) (old new : Texts) → new ≡ interned s old → IsShared new s
string_shared s old new e long = rw (e, interned_contains old s s, lt-ltb 7 (length s) long, (bytes_eq-Decides s s).1 refl) refl

-- ---- a cache keeps its strings

module _ {text : List ℕ} {old new : Texts} (g : AddsOnlyRead text old new) where
  -- If the old cache contains a long string, so does the new cache.
  pub shared_more : (s : List ℕ) → IsShared old s → IsShared new s
  shared_more s h long = g.kept s (h long)

  mutual
    -- If the old cache contains the long strings of a tree, so does the new cache.
    tree_more : (t : Tree) → AreShared old t → AreShared new t
    tree_more (string s) h = shared_more s h
    tree_more (array is) h = items_more is h
    tree_more (object ms) h = members_more ms h
    tree_more t h = tt

    pub items_more : (is : Items) → ItemsAreShared old is → ItemsAreShared new is
    items_more no_items h = tt
    items_more (item t more) h = (tree_more t h.0, items_more more h.1)

    pub members_more : (ms : Members) → MembersAreShared old ms → MembersAreShared new ms
    members_more no_members h = tt
    members_more (member k t more) h = (shared_more k h.0, tree_more t h.1, members_more more h.2)

-- ---- pushing an element, putting a member

-- If a cache contains the long strings of `vs` and of `v`, it contains the long strings of
-- `vs ++ v ∷ []`.
items_push : (cache : Texts) (vs : List WellFormed) (v : WellFormed) → ItemsAreShared cache (item_trees vs) → AreShared cache v.tree
    → ItemsAreShared cache (item_trees (vs ++ v ∷ []))
items_push cache [] v h g = (g, tt)
items_push cache (w ∷ vs) v h g = (h.0, items_push cache vs v h.1 g)

-- If the old cache contains the long strings of `vs`, and the new cache contains the long strings
-- of `v`, the new cache contains the long strings of `vs` and of `v`.
pub item_shared : (text : List ℕ) (old new : Texts) (vs : List WellFormed) (v : WellFormed) → AddsOnlyRead text old new
    → ItemsAreShared old (item_trees vs) → AreShared new v.tree → ItemsAreShared new (item_trees (vs ++ v ∷ []))
item_shared text old new vs v adds h g = items_push new vs v (items_more adds (item_trees vs) h) g

-- If a cache contains the long strings of `ps`, `k` and `v`, it contains the long strings of `ps`
-- after `k` is set to `v`.
members_put : (cache : Texts) (ps : List (List ℕ × WellFormed)) (k : List ℕ) (v : WellFormed) → MembersAreShared cache (pair_trees ps)
    → IsShared cache k → AreShared cache v.tree → MembersAreShared cache (pair_trees (put ps k v))
members_put cache [] k v h i g = (i, g, tt)
members_put cache (p ∷ ps) k v h i g =
    elim (bytes_eq p.0 k) as (λ b. MembersAreShared cache (pair_trees (if b then (p.0, v) ∷ ps else p ∷ put ps k v)))
    [ true ↦ (h.0, g, h.2) | false ↦ (h.0, h.1, members_put cache ps k v h.2 i g) ]

-- If the old cache contains the long strings of `ps`, and the new cache contains the long strings
-- of `p`, the new cache contains the long strings of `ps` and of `p`.
pub member_shared : (text : List ℕ) (old new : Texts) (ps : List (List ℕ × WellFormed)) (p : List ℕ × WellFormed)
    → AddsOnlyRead text old new → MembersAreShared old (pair_trees (put_each [] ps)) → IsShared new p.0 × AreShared new p.1.tree
    → MembersAreShared new (pair_trees (put_each [] (ps ++ p ∷ [])))
member_shared text old new ps p adds h (key, value) =
    let before = put_each [] ps in
    rw (put_each-append [] ps (p ∷ []))
    (members_put new before p.0 p.1 (members_more adds (pair_trees before) h) key value)
