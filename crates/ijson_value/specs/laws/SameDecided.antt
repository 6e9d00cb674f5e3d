-- The test `same` returns true exactly if `Same` holds, for any two trees.
use Rattle.std.proofs.Common.{◌≡◌, inl, inr, ◌==◌, ℕ, List, Bool, true, false, ◌&&◌, ◌||◌, refl, sym, subst}
use Rattle.std.specs.Bool.{Decides}
use mathlib.Core.Bool.{true≢false, beq}
use Rattle.std.proofs.lemmas.Bool.Decides.{Decides-and, Decides-eqb, Decides-or}
use Rattle.std.specs.Str.{bytes_eq}
use Rattle.std.specs.Cmp.{Equal-is}
use Rattle.std.specs.Cmp.Lexicographic.{bytes_decides}
use Rattle.ijson_number.specs.Order.{number_cmp}
use Rattle.ijson_value.specs.Tree.{Tree, null, boolean, number, string, array, object, Items, no_items, item, Members, no_members, member}
use Rattle.ijson_value.specs.Tree.{members_len}
use Rattle.ijson_value.specs.Same.{Same, SameEach, SameIn, Has}
use Rattle.ijson_value.specs.SameTest.{same, same_each, same_in, some_has}

no_way : Decides false ⊥
no_way = (λ e. absurd (true≢false (sym e)), λ e. absurd e)

yes : Decides true (Unit {0})
yes = (λ e. tt, λ e. refl)

-- If `a` decides `A`, and `A` and `B` imply each other, then `a` decides `B`.
along : {A B : Type 0} (a : Bool) → Decides a A → (A → B) → (B → A) → Decides a B
along a d f g = (λ e. f (d.0 e), λ h. d.1 (g h))

-- `beq` decides whether two Booleans are equal.
truths : (a b : Bool) → Decides (beq a b) (a ≡ b)
truths true true = (λ e. refl, λ e. refl)
truths true false = (λ e. absurd (true≢false (sym e)), λ e. absurd (true≢false e))
truths false true = (λ e. absurd (true≢false (sym e)), λ e. absurd (true≢false (sym e)))
truths false false = (λ e. refl, λ e. refl)

-- Holds if a member has the key `k` and a value that satisfies `P`.
abbrev Found : List ℕ → (Tree → Type 0) → Members → Type 0
Found k P qs = (u : Tree) × Has k u qs × P u

-- If `p` decides `P`, then `some_has` decides whether a member has the key `k` and a value that
-- satisfies `P`.
has_decides : (k : List ℕ) (p : Tree → Bool) (P : Tree → Type 0) → ((u : Tree) → Decides (p u) (P u))
    → (qs : Members) → Decides (some_has k p qs) (Found k P qs)
has_decides k p P d no_members = (λ e. absurd (true≢false (sym e)), λ h. absurd h.1)
has_decides k p P d (member j v qs) =
    along ((bytes_eq k j && p v) || some_has k p qs)
    (Decides-or (bytes_eq k j && p v) (some_has k p qs) (Decides-and (bytes_eq k j) (p v) (bytes_decides k j)
    (d v)) (has_decides k p P d qs))
    (λ h. elim h [ inl x ↦ (v, inl (x.0, refl), x.1) | inr y ↦ (y.0, inr y.1, y.2) ])
    (λ h. elim h.1 [ inl e ↦ inl (e.0, subst P e.1 h.2) | inr m ↦ inr (h.0, m, h.2) ])

mutual
  -- `same` decides `Same`.
  pub decides : (t u : Tree) → Decides (same t u) (Same t u)
  decides null null = yes
  decides (boolean a) (boolean b) = truths a b
  decides (number m) (number n) = Equal-is (number_cmp m n)
  decides (string s) (string t) = bytes_decides s t
  decides (array ts) (array us) = decides_each ts us
  decides (object ps) (object qs) =
      Decides-and (members_len ps == members_len qs) (same_in ps qs)
      (Decides-eqb (members_len ps) (members_len qs)) (decides_in ps qs)
  decides _ _ = no_way

  -- `same_each` decides `SameEach`.
  pub decides_each : (ts us : Items) → Decides (same_each ts us) (SameEach ts us)
  decides_each no_items no_items = yes
  decides_each (item t ts) (item u us) = Decides-and (same t u) (same_each ts us) (decides t u) (decides_each ts us)
  decides_each _ _ = no_way

  -- `same_in` decides `SameIn`.
  pub decides_in : (ps qs : Members) → Decides (same_in ps qs) (SameIn ps qs)
  decides_in no_members qs = yes
  decides_in (member k t ps) qs =
      Decides-and (some_has k (same t) qs) (same_in ps qs) (has_decides k (same t) (Same t) (decides t) qs)
      (decides_in ps qs)
