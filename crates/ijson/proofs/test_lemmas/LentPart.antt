-- A part of a value is lent, a call writes to the part and returns its reference, and the borrow
-- ends. Assumes `Logic`.
use mathlib.Core.List.{List, [], ◌∷◌}
use mathlib.Core.Option as maybe
use mathlib.Core.Path.{◌≡◌, refl}
use Prim.Native.Nat.{ℕ}
use seplogic.Ra.Ura.{Ura}
use base.Fml.{GName, Lft, Share, flft, fex, fres}
use base.Fraction.{full_share}
use base.Logic.{ent, sep}
use denote.Follow.{follows_so}
use denote.Ref.{MutBor, MutRef, mut_vals}
use denote.RattleType.{RattleType}
use mir.Syntax.{named}
use mir.Val.{Val}
use types.Kit.{Item, Goal, Seq, Soaks, ‵, ◌$◌, ◌∵◌, !, qed, move, keep, drop, done, fsplit3, fpick, rewrite, use1, use2}
use types.Logic.{Logic, sem}
use types.Tokens.{lft_end}
use Rattle.std.specs.Prelude.{Option, None, Some}
use Rattle.std.specs.Option.{ghost_name_of}
use Rattle.std.specs.contracts.option.Option.{the_row as OptionOf}
use Rattle.ijson_value.specs.contracts.value.IValue.{the_row as V}
use Rattle.ijson_value.proofs.lends.Called.{back, Kept}
use Rattle.ijson_value.proofs.lends.LentOn.{so_none, so_some}
use Rattle.ijson_value.proofs.lends.Variants.{Some-out}

-- The relation between the lender and the last value of its part, or `P₀` if no part is lent.
abbrev pub Left : {R : Type 0} → (V.Denot → R → Type 0) → (R → Type 0) → Option (MutBor V.Denot) → R → Type 0
Left P P₀ None n = P₀ n
Left P P₀ (Some v) n = P v.now n

module _ {M : Type 1} {𝓤 : Ura M} (𝓛 : Logic 𝓤) (R : RattleType) (P : V.Denot → R.Denot → Type 0) (P₀ : R.Denot → Type 0) where
  -- When the borrow of the part ends, the lender has a value that satisfies `Left`.
  left_so : (κ : Lft) (γ : GName) (o : Option (MutBor V.Denot)) (vs : List Val)
      → ent 𝓤 (sep 𝓤 (sem 𝓛 ((OptionOf (MutRef (named 0) κ V)).own_val o vs)) (sem 𝓛 (follows_so R V γ (ghost_name_of o) P P₀)))
      (sem 𝓛 (fex ((z : R.Denot) × Left P P₀ o z) (λ s. fres γ (R.coded.code s.0))))
  left_so κ γ None vs = qed 𝓛 (‵ ((OptionOf (MutRef (named 0) κ V)).own_val None vs) ∷ ‵ (follows_so R V γ maybe.none P P₀) ∷ []) ∵ drop ! $
      use1 𝓛 (‵ (fex ((z : R.Denot) × P₀ z) (λ s. fres γ (R.coded.code s.0)))) (so_none 𝓛 R V P P₀ γ) $ done !
  left_so κ γ (Some v) vs = qed 𝓛 (‵ ((OptionOf (MutRef (named 0) κ V)).own_val (Some v) vs)
      ∷ ‵ (follows_so R V γ (maybe.some v.ghost_name) P P₀) ∷ []) ∵
      Some-out ! (MutRef (named 0) κ V) v vs (λ us led. fsplit3 ! $ keep ! (1 ∷ 3 ∷ []) $
      use1 𝓛 (‵ (fres v.ghost_name (V.coded.code v.now))) (𝓛.names.obs-res v.ghost_name (V.coded.code v.now)) $ move ! (1 ∷ []) $
      use2 𝓛 (‵ (fex ((z : R.Denot) × P v.now z) (λ s. fres γ (R.coded.code s.0)))) (so_some 𝓛 R V P P₀ γ v.ghost_name v.now) $ done !)

  -- After the borrow ends, the proof continues with the lender's reference, whose value satisfies
  -- `Left`.
  module _ {K : Type 0} {Γ : List (Item 𝓤)} {G : Goal 𝓤 𝓛.H} (t : K) (soaks : Soaks G) (κ : Lft) (q : Share) (r : MutBor R.Denot) (α : ℕ)
      (δ : GName) where
    pub written_back : (m : maybe.Option GName) (o : Option (MutBor V.Denot)) (vs : List Val) (tokens : Item 𝓤) → m ≡ ghost_name_of o
        → ((n : R.Denot) → Left P P₀ o n
        → Seq K 𝓛 (‵ ((MutRef (named 0) κ R).own_val (record r { now = n }) (mut_vals r)) ∷ ‵ (flft κ q) ∷ tokens ∷ Γ) G)
        → Seq K 𝓛 (‵ ((OptionOf (MutRef (named 0) (α ∷ []) V)).own_val o vs) ∷ ‵ (flft (α ∷ []) full_share)
        ∷ ‵ (follows_so R V δ m P P₀) ∷ tokens ∷ ‵ (Kept R κ q r α δ) ∷ Γ) G
    written_back m o vs tokens same k =
        rewrite t 2 (λ (n : maybe.Option GName). ‵ (follows_so R V δ n P P₀)) same refl $ move t (0 ∷ 2 ∷ []) $
        use2 𝓛 (‵ (fex ((z : R.Denot) × Left P P₀ o z) (λ s. fres δ (R.coded.code s.0)))) (left_so (α ∷ []) δ o vs) $ fpick t (λ s.
        move t (1 ∷ []) $ lft_end t soaks $ move t (0 ∷ 3 ∷ 1 ∷ []) $ back 𝓛 t soaks R κ q r α δ s.0 $ k s.0 s.1)
