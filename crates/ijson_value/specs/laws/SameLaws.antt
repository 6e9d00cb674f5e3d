-- `Same` is reflexive and transitive, and symmetric if all objects have distinct keys.
use Rattle.std.proofs.Common.{◌≡◌, ◌≢◌, ℕ, List, inl, inr, suc, true, false, cond, refl, sym, ◌∙◌, ap, subst, arith}
use mathlib.Core.Bool.{true≢false}
use Rattle.std.specs.Str.{bytes_eq}
use Rattle.std.specs.Cmp.{tied_itself, tied_back}
use Rattle.std.specs.Cmp.Lexicographic.{bytes_decides}
use Rattle.ijson_number.specs.laws.Ordered.{number_cmp_total}
use Rattle.ijson_table.specs.Store.{Lacks, IsDistinct}
use Rattle.ijson_value.specs.Tree.{Tree, null, boolean, number, string, array, object, Items, no_items, item, Members, no_members, member}
use Rattle.ijson_value.specs.Tree.{members_len, member_keys}
use Rattle.ijson_value.specs.WellFormed.{IsWellFormed, AreWellFormed, HaveWellFormed}
use Rattle.ijson_value.specs.Same.{Same, SameEach, SameIn, Has}

mutual
  -- Each tree is the same as itself.
  pub same_refl : (t : Tree) → Same t t
  same_refl null = tt
  same_refl (boolean a) = refl
  same_refl (number n) = tied_itself number_cmp_total n
  same_refl (string s) = refl
  same_refl (array ts) = each_refl ts
  same_refl (object ps) = (refl, in_refl ps ps (λ k t h. h))

  each_refl : (ts : Items) → SameEach ts ts
  each_refl no_items = tt
  each_refl (item t ts) = (same_refl t, each_refl ts)

  -- If `qs` contains all members of `ps`, then `SameIn ps qs` holds.
  in_refl : (ps qs : Members) → ((k : List ℕ) (t : Tree) → Has k t ps → Has k t qs) → SameIn ps qs
  in_refl no_members qs h = tt
  in_refl (member k t ps) qs h = (
    (t, h k t (inl (refl, refl)), same_refl t),
    in_refl ps qs (λ j u m. h j u (inr m)),
  )

-- If `SameIn ps qs` holds, each entry of `ps` has an entry of `qs` with the same key and the same
-- value.
pub partner : (ps qs : Members) (k : List ℕ) (t : Tree) → Has k t ps → SameIn ps qs
    → (u : Tree) × Has k u qs × Same t u
partner no_members qs k t h s = absurd h
partner (member j v ps) qs k t h s = elim h [
  | inl e ↦ subst (λ i. (u : Tree) × Has i u qs × Same t u) (sym e.0)
      (subst (λ w. (u : Tree) × Has j u qs × Same w u) (sym e.1) s.0)
  | inr m ↦ partner ps qs k t m s.1
]

mutual
  -- `Same` is transitive.
  pub same_trans : (t u v : Tree) → Same t u → Same u v → Same t v
  same_trans null null v p q = q
  same_trans null u v p q = absurd p
  same_trans (boolean a) (boolean b) (boolean c) p q = p ∙ q
  same_trans (number l) (number m) (number n) p q = number_cmp_total.congr l m n p ∙ q
  same_trans (string r) (string s) (string t) p q = p ∙ q
  same_trans (array ts) (array us) (array vs) p q = each_trans ts us vs p q
  same_trans (object ps) (object qs) (object rs) p q = (p.0 ∙ q.0, in_trans ps qs rs p.1 q.1)
  same_trans (boolean a) (boolean b) v p q = absurd q
  same_trans (boolean a) u v p q = absurd p
  same_trans (number l) (number m) v p q = absurd q
  same_trans (number l) u v p q = absurd p
  same_trans (string r) (string s) v p q = absurd q
  same_trans (string r) u v p q = absurd p
  same_trans (array ts) (array us) v p q = absurd q
  same_trans (array ts) u v p q = absurd p
  same_trans (object ps) (object qs) v p q = absurd q
  same_trans (object ps) u v p q = absurd p

  each_trans : (ts us vs : Items) → SameEach ts us → SameEach us vs → SameEach ts vs
  each_trans no_items no_items vs p q = q
  each_trans (item t ts) (item u us) (item v vs) p q = (same_trans t u v p.0 q.0, each_trans ts us vs p.1 q.1)
  each_trans (item t ts) (item u us) no_items p q = absurd q
  each_trans _ _ vs p q = absurd p

  in_trans : (ps qs rs : Members) → SameIn ps qs → SameIn qs rs → SameIn ps rs
  in_trans no_members qs rs p q = tt
  in_trans (member k t ps) qs rs p q =
      let w = partner qs rs k p.0.0 p.0.1 q in
      ((w.0, w.1, same_trans t p.0.0 w.0 p.0.2 w.2), in_trans ps qs rs p.1 q)

-- The members without the first member that has the key `k`.
abbrev pub without : List ℕ → Members → Members
without k no_members = no_members
without k (member j v qs) = cond (bytes_eq k j) qs (member j v (without k qs))

-- Holds if a member has the key `k`.
abbrev Key : List ℕ → Members → Type 0
Key k qs = (u : Tree) × Has k u qs

-- If the keys of `qs` lack `k`, then `qs` has no value for `k`.
pub lacks_it : (k : List ℕ) (u : Tree) (qs : Members) → Lacks k (member_keys qs) → Has k u qs → ⊥
lacks_it k u no_members l h = h
lacks_it k u (member j v qs) l h = elim h [ inl e ↦ l.0 e.0 | inr m ↦ lacks_it k u qs l.1 m ]

-- Members with distinct keys have at most one value for a key.
pub one_value : (qs : Members) → IsDistinct (member_keys qs) → (k : List ℕ) (u v : Tree) → Has k u qs
    → Has k v qs → u ≡ v
one_value no_members d k u v h i = absurd h
one_value (member j w qs) d k u v h i = elim h [
  | inl e ↦ elim i [
    | inl f ↦ e.1 ∙ sym f.1
    | inr m ↦ absurd (lacks_it j v qs d.0 (subst (λ a. Has a v qs) e.0 m))
  ]
  | inr m ↦ elim i [
    | inl f ↦ absurd (lacks_it j u qs d.0 (subst (λ a. Has a u qs) f.0 m))
    | inr n ↦ one_value qs d.1 k u v m n
  ]
]

-- Removing an existing key decreases the number of members by one.
pub without_len : (qs : Members) (k : List ℕ) (u : Tree) → Has k u qs
    → members_len qs ≡ suc (members_len (without k qs))
without_len no_members k u h = absurd h
without_len (member j v qs) k u h = elim (bytes_eq k j)
    as (λ b. bytes_eq k j ≡ b → suc (members_len qs)
    ≡ suc (members_len (cond b qs (member j v (without k qs))))) [
      | true ↦ λ e. refl
      | false ↦ λ e. ap suc (elim h [
        | inl f ↦ absurd (true≢false (sym ((bytes_decides k j).1 f.0) ∙ e))
        | inr m ↦ without_len qs k u m
      ])
    ] refl

-- Removing `k` keeps the members with other keys.
pub without_has : (qs : Members) (k j : List ℕ) (u : Tree) → j ≢ k → Has j u qs → Has j u (without k qs)
without_has no_members k j u ne h = h
without_has (member i v qs) k j u ne h = elim (bytes_eq k i)
    as (λ b. bytes_eq k i ≡ b → Has j u (cond b qs (member i v (without k qs)))) [
      | true ↦ λ e. elim h [ inl f ↦ absurd (ne (f.0 ∙ sym ((bytes_decides k i).0 e))) | inr m ↦ m ]
      | false ↦ λ e. elim h [ inl f ↦ inl f | inr m ↦ inr (without_has qs k j u ne m) ]
    ] refl

-- If `ps` lacks the key `k`, then removing `k` from `qs` keeps `SameIn ps qs`.
pub without_in : (ps qs : Members) (k : List ℕ) → Lacks k (member_keys ps) → SameIn ps qs
    → SameIn ps (without k qs)
without_in no_members qs k l s = tt
without_in (member j t ps) qs k l s =
    ((s.0.0, without_has qs k j s.0.0 (λ e. l.0 (sym e)) s.0.1, s.0.2), without_in ps qs k l.1 s.1)

-- A key that the members lack is still missing after a removal.
without_lacks : (qs : Members) (k j : List ℕ) → Lacks j (member_keys qs) → Lacks j (member_keys (without k qs))
without_lacks no_members k j l = l
without_lacks (member i v qs) k j l = elim (bytes_eq k i)
    as (λ b. Lacks j (member_keys (cond b qs (member i v (without k qs))))) [
      | true ↦ l.1
      | false ↦ (l.0, without_lacks qs k j l.1)
    ]

-- Removing a key keeps the keys distinct.
pub without_distinct : (qs : Members) (k : List ℕ) → IsDistinct (member_keys qs)
    → IsDistinct (member_keys (without k qs))
without_distinct no_members k d = d
without_distinct (member i v qs) k d = elim (bytes_eq k i)
    as (λ b. IsDistinct (member_keys (cond b qs (member i v (without k qs))))) [
      | true ↦ d.1
      | false ↦ (without_lacks qs k i d.0, without_distinct qs k d.1)
    ]

-- Removing a key keeps the values well-formed.
pub without_members : (qs : Members) (k : List ℕ) → HaveWellFormed qs → HaveWellFormed (without k qs)
without_members no_members k d = d
without_members (member i v qs) k d = elim (bytes_eq k i)
    as (λ b. HaveWellFormed (cond b qs (member i v (without k qs)))) [
      | true ↦ d.1
      | false ↦ (d.0, without_members qs k d.1)
    ]

-- If all values are well-formed, the value of each key is well-formed.
pub member_distinct : (qs : Members) → HaveWellFormed qs → (k : List ℕ) (u : Tree) → Has k u qs → IsWellFormed u
member_distinct no_members d k u h = absurd h
member_distinct (member i v qs) d k u h =
    elim h [ inl e ↦ subst IsWellFormed (sym e.1) d.0 | inr m ↦ member_distinct qs d.1 k u m ]

-- If each member of `qs` has a member of `ps` with the same key and the same value, then
-- `SameIn qs ps` holds.
pub covers : (qs ps : Members) → ((k : List ℕ) (u : Tree) → Has k u qs → (t : Tree) × Has k t ps × Same u t)
    → SameIn qs ps
covers no_members ps h = tt
covers (member k u qs) ps h = (h k u (inl (refl, refl)), covers qs ps (λ j v m. h j v (inr m)))

mutual
  -- `Same` is symmetric on well-formed trees.
  pub same_symm : (t u : Tree) → IsWellFormed t → IsWellFormed u → Same t u → Same u t
  same_symm null null d e p = tt
  same_symm (boolean a) (boolean b) d e p = sym p
  same_symm (number m) (number n) d e p = tied_back number_cmp_total m n p
  same_symm (string r) (string s) d e p = sym p
  same_symm (array ts) (array us) d e p = each_symm ts us d e p
  same_symm (object ps) (object qs) d e p = (sym p.0, covers qs ps (back ps qs d.0 e.0 d.1 e.1 p.0 p.1))
  same_symm _ _ d e p = absurd p

  each_symm : (ts us : Items) → AreWellFormed ts → AreWellFormed us → SameEach ts us → SameEach us ts
  each_symm no_items no_items d e p = tt
  each_symm (item t ts) (item u us) d e p = (same_symm t u d.0 e.0 p.0, each_symm ts us d.1 e.1 p.1)
  each_symm _ _ d e p = absurd p

  -- If `ps` and `qs` have the same length and `SameIn ps qs` holds, each member of `qs` has a
  -- member of `ps` with the same key and the same value.
  back : (ps qs : Members) → IsDistinct (member_keys ps) → IsDistinct (member_keys qs)
      → HaveWellFormed ps → HaveWellFormed qs
      → members_len ps ≡ members_len qs → SameIn ps qs → (k : List ℕ) (u : Tree) → Has k u qs
      → (t : Tree) × Has k t ps × Same u t
  back no_members no_members dp dq mp mq len s k u h = absurd h
  back no_members (member j v qs) dp dq mp mq len s k u h = absurd (omega arith)
  back (member j t ps) qs dp dq mp mq len s k u h = elim (bytes_eq k j)
      as (λ b. bytes_eq k j ≡ b → (w : Tree) × Has k w (member j t ps) × Same u w) [
        | true ↦ λ e.
            let k_is : k ≡ j = (bytes_decides k j).0 e in
            let u_is : u ≡ s.0.0 = one_value qs dq j u s.0.0 (subst (λ i. Has i u qs) k_is h) s.0.1 in (
              t,
              inl (k_is, refl),
              subst (λ w. Same w t) (sym u_is)
                  (same_symm t s.0.0 mp.0 (member_distinct qs mq j s.0.0 s.0.1) s.0.2),
            )
        | false ↦ λ e.
            let ne : k ≢ j = λ f. true≢false (sym ((bytes_decides k j).1 f) ∙ e) in
            let fewer : members_len ps ≡ members_len (without j qs) = let l =
            without_len qs j s.0.0 s.0.1 in omega (arith, l, len) in
            let r = back ps (without j qs) dp.1 (without_distinct qs j dq) mp.1 (without_members qs j mq)
            fewer (without_in ps qs j dp.0 s.1) k u (without_has qs j k u ne h) in
            (r.0, inr r.1, r.2)
      ] refl
