-- Trees that are the same feed the same words, at every depth and in every order of entries.
use Rattle.std.proofs.Common.{◌≡◌, ℕ, suc, ◌+◌, ◌%◌, ◌^◌, true, false, cond, List, [], ◌∷◌, ◌++◌, inl, inr, refl, sym, ap, ◌∙◌, subst}
use Rattle.std.proofs.Common.{arith, IsTrue}
use mathlib.Core.Bool.{true≢false}
use Rattle.std.specs.Hash as fed
use Rattle.std.specs.List.{flat_map}
use Rattle.std.specs.Str.{bytes_eq}
use Rattle.std.specs.Cmp.Lexicographic.{bytes_decides}
use Rattle.ijson_number.specs.laws.Ordered.{equal_words}
use Rattle.ijson_string.specs.Words.{text_words}
use Rattle.ijson_table.specs.Fold.{fold_words}
use Rattle.ijson_table.specs.Store.{IsDistinct}
use Rattle.ijson_value.specs.Tree.{Tree, null, boolean, number, string, array, object, Items, no_items, item, Members, no_members, member}
use Rattle.ijson_value.specs.Tree.{members_len, member_keys}
use Rattle.ijson_value.specs.WellFormed.{WellFormed, IsWellFormed, AreWellFormed, HaveWellFormed}
use Rattle.ijson_value.specs.Same.{Same, SameEach, SameIn, Has}
use Rattle.ijson_value.specs.Length.{items_len}
use Rattle.ijson_value.specs.Words.{words, item_words, pair_sum}
use Rattle.ijson_value.specs.SameTest.{same}
use Rattle.ijson_value.specs.laws.SameDecided.{decides}
use Rattle.ijson_value.specs.laws.SameLaws.{without, without_len, without_in, without_distinct, without_members, member_distinct, lacks_it}

-- The fold of the words of the key `k` and the value `t`.
abbrev pair_fold : List ℕ → Tree → ℕ
pair_fold k t = fold_words (text_words k ++ words t)

swapped : (a b c s : ℕ) → s ≡ b + c → a + s ≡ b + (a + c)
swapped a b c s e = omega arith

-- Removing a member subtracts its fold from the sum of the folds.
sum_without : (qs : Members) (k : List ℕ) (u : Tree) → IsDistinct (member_keys qs) → Has k u qs
    → pair_sum qs ≡ pair_fold k u + pair_sum (without k qs)
sum_without no_members k u d h = absurd h
sum_without (member j v qs) k u d h = elim (bytes_eq k j)
    as (λ b. bytes_eq k j ≡ b → pair_fold j v + pair_sum qs
    ≡ pair_fold k u + pair_sum (cond b qs (member j v (without k qs)))) [
      | true ↦ λ e. elim h [
        | inl f ↦ λ i. pair_fold (sym f.0 i) (sym f.1 i) + pair_sum qs
        | inr m ↦ absurd (lacks_it j u qs d.0 (subst (λ a. Has a u qs) ((bytes_decides k j).0 e) m))
      ]
      | false ↦ λ e. elim h [
        | inl f ↦ absurd (true≢false (sym ((bytes_decides k j).1 f.0) ∙ e))
        | inr m ↦
            let s = sum_without qs k u d.1 m in
            swapped (pair_fold j v) (pair_fold k u) (pair_sum (without k qs)) (pair_sum qs) s
      ]
    ] refl

mutual
  -- Trees that are the same have the same words.
  pub same_words : (t u : Tree) → IsWellFormed t → IsWellFormed u → Same t u → words t ≡ words u
  same_words null null d e p = refl
  same_words (boolean a) (boolean b) d e p = ap (λ c. 1 ∷ cond c 1 0 ∷ []) p
  same_words (number m) (number n) d e p = equal_words m n d.plain e.plain p
  same_words (string r) (string s) d e p = ap text_words p
  same_words (array ts) (array us) d e p = λ i. 4 ∷ same_len ts us p i ∷ same_item_words ts us d e p i
  same_words (object ps) (object qs) d e p =
      λ i. 5 ∷ p.0 i ∷ (same_sum ps qs d.0 e.0 d.1 e.1 p.0 p.1 i % 2 ^ 64) ∷ []
  same_words _ _ d e p = absurd p

  -- Lists with the same elements have the same length.
  same_len : (ts us : Items) → SameEach ts us → items_len ts ≡ items_len us
  same_len no_items no_items p = refl
  same_len (item t ts) (item u us) p = ap suc (same_len ts us p.1)
  same_len _ _ p = absurd p

  -- Lists with the same elements have the same words.
  same_item_words : (ts us : Items) → AreWellFormed ts → AreWellFormed us → SameEach ts us
      → item_words ts ≡ item_words us
  same_item_words no_items no_items d e p = refl
  same_item_words (item t ts) (item u us) d e p =
      λ i. same_words t u d.0 e.0 p.0 i ++ same_item_words ts us d.1 e.1 p.1 i
  same_item_words _ _ d e p = absurd p

  -- If two objects are the same, the folds of their members have the same sum.
  same_sum : (ps qs : Members) → IsDistinct (member_keys ps) → IsDistinct (member_keys qs)
      → HaveWellFormed ps → HaveWellFormed qs → members_len ps ≡ members_len qs → SameIn ps qs
      → pair_sum ps ≡ pair_sum qs
  same_sum no_members no_members dp dq mp mq len s = refl
  same_sum no_members (member j v qs) dp dq mp mq len s = absurd (omega arith)
  same_sum (member j t ps) qs dp dq mp mq len s =
      let u = s.0.0 in
      let fewer : members_len ps ≡ members_len (without j qs) = let l =
      without_len qs j u s.0.1 in omega (arith, l, len) in
      let rest = same_sum ps (without j qs) dp.1 (without_distinct qs j dq) mp.1
      (without_members qs j mq) fewer (without_in ps qs j dp.0 s.1) in
      let here = same_words t u mp.0 (member_distinct qs mq j u s.0.1) s.0.2 in
      ap (λ ws. fold_words (text_words j ++ ws) + pair_sum ps) here
      ∙ ap (λ n. pair_fold j u + n) rest ∙ sym (sum_without qs j u dq s.0.1)

-- Values that are equal by `==` feed the same words, for any type whose values have well-formed
-- trees.
module _ {K : Type 0} (f : K → WellFormed) where
  pub same_feed : (x y : K) → IsTrue (same (f x).tree (f y).tree)
      → flat_map fed.u64 (words (f x).tree) ≡ flat_map fed.u64 (words (f y).tree)
  same_feed x y h =
      ap (flat_map fed.u64) (same_words (f x).tree (f y).tree (f x).well_formed (f y).well_formed
      ((decides (f x).tree (f y).tree).0 h))
