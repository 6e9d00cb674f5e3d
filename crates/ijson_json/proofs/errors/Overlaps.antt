-- Lemmas about two prefixes of one text: they are equal, or one is a proper prefix of the other.
use Rattle.std.proofs.Common.{◌≡◌, ℕ, Bool, true, List, [], ◌∷◌, ◌++◌, refl, sym, ap₂, subst, inl, inr}
use Rattle.std.specs.Prelude.{◌⊎◌}
use Rattle.ijson_json.proofs.scanning.Prefixes.{Run, heads, tails}

-- Holds if `b` is longer than `a`, where `a ++ x` and `b ++ y` are the same text.
abbrev pub IsLonger : List ℕ → List ℕ → List ℕ → List ℕ → Type 0
IsLonger a b x y = (c : ℕ) × (more : List ℕ) × (b ≡ a ++ c ∷ more) × (x ≡ c ∷ (more ++ y))

-- If `a ++ x` equals `b ++ y`, then `a` equals `b`, `b` is longer, or `a` is longer.
pub overlap : (a b x y : List ℕ) → a ++ x ≡ b ++ y → ((a ≡ b) × (x ≡ y)) ⊎ (IsLonger a b x y ⊎ IsLonger b a y x)
overlap [] [] x y e = inl (refl, e)
overlap [] (d ∷ b) x y e = inr (inl (d, b, refl, e))
overlap (c ∷ a) [] x y e = inr (inr (c, a, refl, sym e))
overlap (c ∷ a) (d ∷ b) x y e =
    let head = heads c d _ _ e in
    elim (overlap a b x y (tails c d _ _ e)) [
      | inl s ↦ inl (ap₂ ◌∷◌ head s.0, s.1)
      | inr o ↦ inr (elim o [
        | inl l ↦ inl (l.0, l.1, ap₂ ◌∷◌ (sym head) l.2, l.3)
        | inr l ↦ inr (l.0, l.1, ap₂ ◌∷◌ head l.2, l.3)
      ])
    ]

-- If all bytes of `a ++ b` pass the test, so do all bytes of `b`.
pub run_behind : (p : ℕ → Bool) (a b : List ℕ) → Run p (a ++ b) → Run p b
run_behind p [] b h = h
run_behind p (c ∷ a) b h = run_behind p a b h.1

-- If a text ends with bytes that pass the test `p`, its last byte passes `p`.
pub last_passes : (p : ℕ → Bool) (a w : List ℕ) (c : ℕ) (front : List ℕ) (b : ℕ) → Run p (c ∷ w) → a ++ c ∷ w ≡ front ++ b ∷ []
    → p b ≡ true
last_passes p a w c front b h e = elim (overlap a front (c ∷ w) (b ∷ []) e) [
  | inl s ↦ (subst (λ (l : List ℕ). Run p l) s.1 h).0
  | inr o ↦ elim o [
    | inl l ↦ (run_behind p l.1 (b ∷ []) (subst (λ (l : List ℕ). Run p l) l.3 h).1).0
    | inr l ↦ absurd (not_last l.1 c w (tails _ _ _ _ l.3))
  ]
]
  where
    not_last : (m : List ℕ) (c : ℕ) (w : List ℕ) → [] ≡ m ++ c ∷ w → ⊥
    not_last [] c w e = cc
    not_last (d ∷ m) c w e = cc
