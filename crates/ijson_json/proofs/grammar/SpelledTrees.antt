-- Lemmas: the printed text of a tree spells the tree, with each number `n` replaced by `shape n`.
use Rattle.std.proofs.Common.{◌≡◌, ℕ, List, [], ◌∷◌, ◌++◌, refl, sym, ap, ap₂}
use Rattle.std.proofs.lemmas.List.{append-nil}
use Rattle.ijson_number.specs.Decimal.{Decimal}
use Rattle.ijson_number.specs.Num.{IsNum}
use Rattle.ijson_value.specs.Tree.{Tree, null, boolean, number, string, array, object, Items, no_items, item, Members, no_members, member}
use Rattle.ijson_value.specs.WellFormed.{IsWellFormed, AreWellFormed, HaveWellFormed}
use Rattle.ijson_json.specs.Grammar.{Spaced, IsString, IsValue, IsItems, IsMembers}
use Rattle.ijson_json.specs.Print.{text_by, items_by, members_by, quoted, all_escaped}
use Rattle.ijson_json.proofs.grammar.StringBodies.{all_escaped_is}

-- A text with the property `P` is spaced, with empty white space around it.
pub spaced : (P : List ℕ → Type 0) (text : List ℕ) → P text → Spaced P text
spaced P text p = ([], text, [], tt, p, tt, sym (append-nil text))

-- `quoted s` is a JSON string with the content `s`.
pub quoted_is : (s : List ℕ) → IsString s (quoted s)
quoted_is s = (all_escaped s, all_escaped_is s, refl)

-- The tree with each number `n` replaced by `shape n`.
abbrev mutual
  pub reshaped : (Decimal → Decimal) → Tree → Tree
  reshaped shape null = null
  reshaped shape (boolean b) = boolean b
  reshaped shape (number n) = number (shape n)
  reshaped shape (string s) = string s
  reshaped shape (array items) = array (reshaped_items shape items)
  reshaped shape (object members) = object (reshaped_members shape members)

  pub reshaped_items : (Decimal → Decimal) → Items → Items
  reshaped_items shape no_items = no_items
  reshaped_items shape (item t more) = item (reshaped shape t) (reshaped_items shape more)

  pub reshaped_members : (Decimal → Decimal) → Members → Members
  reshaped_members shape no_members = no_members
  reshaped_members shape (member k t more) = member k (reshaped shape t) (reshaped_members shape more)

-- Replacing each number by itself keeps the tree.
mutual
  pub kept_shapes : (t : Tree) → reshaped (λ n. n) t ≡ t
  kept_shapes (array is) = ap array (kept_item_shapes is)
  kept_shapes (object ms) = ap object (kept_member_shapes ms)
  kept_shapes t = refl

  kept_item_shapes : (is : Items) → reshaped_items (λ n. n) is ≡ is
  kept_item_shapes no_items = refl
  kept_item_shapes (item t more) = ap₂ item (kept_shapes t) (kept_item_shapes more)

  kept_member_shapes : (ms : Members) → reshaped_members (λ n. n) ms ≡ ms
  kept_member_shapes no_members = refl
  kept_member_shapes (member k t more) = ap₂ (member k) (kept_shapes t) (kept_member_shapes more)

-- If `num n` spells `shape n` for each number `n`, then `text_by num t` spells `reshaped shape t`
-- for each well-formed tree `t`.
module _ (num : Decimal → List ℕ) (shape : Decimal → Decimal)
    (number_spelled : (n : Decimal) → IsNum n → IsValue (number (shape n)) (num n)) where
  as_spaced : (t : Tree) → IsValue (reshaped shape t) (text_by num t) → Spaced (λ value. IsValue (reshaped shape t) value) (text_by num t)
  as_spaced t is = spaced (λ value. IsValue (reshaped shape t) value) (text_by num t) is

  mutual
    value_spelled : (t : Tree) → IsWellFormed t → IsValue (reshaped shape t) (text_by num t)
    value_spelled null h = refl
    value_spelled (boolean b) h = refl
    value_spelled (number n) h = number_spelled n h
    value_spelled (string s) h = quoted_is s
    value_spelled (array is) h = (items_by num is, items_spelled is h, refl)
    value_spelled (object ms) h = (members_by num ms, members_spelled ms h.1, refl)

    items_spelled : (is : Items) → AreWellFormed is → IsItems (reshaped_items shape is) (items_by num is)
    items_spelled no_items h = tt
    items_spelled (item t no_items) h = as_spaced t (value_spelled t h.0)
    items_spelled (item t (item u more)) h = (
      text_by num t,
      items_by num (item u more),
      as_spaced t (value_spelled t h.0),
      items_spelled (item u more) h.1,
      refl,
    )

    members_spelled : (ms : Members) → HaveWellFormed ms → IsMembers (reshaped_members shape ms) (members_by num ms)
    members_spelled no_members h = tt
    members_spelled (member k t no_members) h = (
      quoted k,
      text_by num t,
      spaced (λ s. IsString k s) (quoted k) (quoted_is k),
      as_spaced t (value_spelled t h.0),
      refl,
    )
    members_spelled (member k t (member l u more)) h = (
      quoted k ++ 58 ∷ text_by num t,
      members_by num (member l u more),
      (quoted k, text_by num t, spaced (λ s. IsString k s) (quoted k) (quoted_is k), as_spaced t (value_spelled t h.0), refl),
      members_spelled (member l u more) h.1,
      refl,
    )

  pub tree_spelled : (t : Tree) → IsWellFormed t → Spaced (λ value. IsValue (reshaped shape t) value) (text_by num t)
  tree_spelled t h = as_spaced t (value_spelled t h)
