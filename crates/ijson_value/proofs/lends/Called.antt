-- Proof steps for a call that lends a part of a mutable reference, and for reborrowing a reference
-- during a call. The lemmas assume `Logic`.
use Prim.Native.Nat.{ℕ}
use mathlib.Core.List.{List, [], ◌∷◌}
use seplogic.Ra.Ura.{Ura}
use mir.Syntax.{named}
use mir.Val.{Val}
use base.Logic.{SProp, ent, sep, emp}
use base.Fml.{Fml, GName, Lft, Share, ftrue, flft, fdead, fres}
use base.Fraction.{full_share}
use contract.Monad.{fact, fact_i}
use types.Logic.{Logic}
use types.Kit.{Item, Goal, Seq, Step, Soaks, mean, step, ‵, raw, ◌⊛◌, some, later, ◌$◌, move, drop, split, join, use0, use1, use2, use3}
use types.Kit.{pick, await}
use types.Tokens.{lft_new}
use denote.Laws.{Is, shows}
use denote.Lend.{lends_again, comes_back, LentAgain}
use denote.Ref.{MutBor, MutRef, mut_vals}
use denote.RattleType.{RattleType}
use denote.Steps.{nothing, heard, peeks}

-- The postcondition of a callee that lends a part: the tokens, the part, the formula that the
-- lender follows, and a fact about the part.
abbrev pub Answer : {M : Type 1} {𝓤 : Ura M} (tokens : Item 𝓤) (R : RattleType) (w : Val) {W : Type 0} (L : R.Denot → W → Fml)
    (F : R.Denot → Fml) (P : R.Denot → Type 0) → Item 𝓤
Answer {M} {𝓤} tokens R w {W} L F P = later (some (λ (x : R.Denot). (tokens ⊛ ‵ (R.own_val x (w ∷ []))) ⊛
    some (λ (ws : W). ‵ (L x ws) ⊛ ‵ (F x) ⊛ raw (fact 𝓤 (P x)))))

module _ {M : Type 1} {𝓤 : Ura M} (𝓛 : Logic 𝓤) {K : Type 0} {Γ : List (Item 𝓤)} {G : Goal 𝓤 𝓛.H} (t : K) where
  -- If `P` holds, and a value, its lifetime token and the fact `P` entail the precondition `Q` of a
  -- callee, then a proof can continue with `Q`.
  pub asks : (κ : Lft) (q : Share) (own : Fml) (P : Type 0) (Q : SProp 𝓤) → P
      → ent 𝓤 (sep 𝓤 (mean 𝓛 ((‵ (flft κ q) ⊛ ‵ ftrue) ⊛ ‵ own ⊛ ‵ ftrue)) (mean 𝓛 (raw (fact 𝓤 P)))) Q
      → Step K 𝓛 (raw Q ∷ Γ) G (‵ own ∷ ‵ (flft κ q) ∷ Γ) G
  asks κ q own P Q p enough = step (λ s.
      nothing t $ move t (1 ∷ 0 ∷ []) $ join t $ nothing t $ move t (2 ∷ 0 ∷ []) $ join t $ join t $
      use0 𝓛 (raw (fact 𝓤 P)) (fact_i 𝓤 P (emp 𝓤) p) $ move t (1 ∷ 0 ∷ []) $ use2 𝓛 (raw Q) enough $ s)

  -- After a call with the postcondition `Answer`, a proof can continue with the part, the formula
  -- and the tokens.
  pub answered : Soaks G → (tokens : Item 𝓤) (R : RattleType) (w : Val) {W : Type 0} (L : R.Denot → W → Fml) (F : R.Denot → Fml)
      (P : R.Denot → Type 0) {Q : SProp 𝓤} → ent 𝓤 Q (mean 𝓛 (Answer tokens R w L F P))
      → ((x : R.Denot) → P x → Is R x (w ∷ []) → Seq K 𝓛 (‵ (R.own_val x (w ∷ [])) ∷ ‵ (F x) ∷ tokens ∷ Γ) G) → Seq K 𝓛 (raw Q ∷ Γ) G
  answered soaks tokens R w L F P gives k =
      use1 𝓛 (Answer tokens R w L F P) gives $ await t soaks $ pick t (λ x. split t $ split t $ move t (2 ∷ []) $ pick t (λ ws.
      split t $ drop t $ split t $ move t (1 ∷ []) $ heard t _ (λ says.
      move t (2 ∷ []) $ peeks t R _ (shows 𝓛 R) x (w ∷ []) (λ seen. k x says seen))))

-- The assertion that the lender keeps while the reference `r` is reborrowed for the lifetime `α`
-- under the name `δ`.
abbrev pub Kept : (R : RattleType) (κ : Lft) (q : Share) (r : MutBor R.Denot) → ℕ → GName → Fml
Kept R κ q r α δ = LentAgain R κ (α ∷ []) q r.ghost_name r.ref_ptr.0 r.ref_ptr.1 δ r.now

module _ {M : Type 1} {𝓤 : Ura M} (𝓛 : Logic 𝓤) {K : Type 0} {Γ : List (Item 𝓤)} {G : Goal 𝓤 𝓛.H} (t : K) (soaks : Soaks G) (R : RattleType)
    (κ : Lft) (q : Share) (r : MutBor R.Denot) where
  -- Reborrowing `r` for a new lifetime `α` splits the reference and its token into the loan, the
  -- assertion `Kept`, and the token of `α`.
  pub lent : ((α : ℕ) (δ : GName) → Seq K 𝓛 (‵ ((MutRef (named 0) (α ∷ []) R).own_val (record r { ghost_name = δ }) (mut_vals r))
      ∷ ‵ (Kept R κ q r α δ) ∷ ‵ (flft (α ∷ []) full_share) ∷ Γ) G)
      → Seq K 𝓛 (‵ ((MutRef (named 0) κ R).own_val r (mut_vals r)) ∷ ‵ (flft κ q) ∷ Γ) G
  lent k = lft_new t soaks (λ α. move t (1 ∷ 2 ∷ []) $
      use2 𝓛 (later (some (λ (δ : GName). ‵ ((MutRef (named 0) (α ∷ []) R).own_val (record r { ghost_name = δ }) (mut_vals r))
      ⊛ ‵ (Kept R κ q r α δ))))
      (lends_again 𝓛 R (named 0) κ (α ∷ []) q r.ghost_name r.ref_ptr.0 r.ref_ptr.1 (named 0) r.now) $
      await t soaks $ pick t (λ δ. split t $ k α δ))

  -- When the lifetime `α` has ended, the lender has its reference and its token back, at the last
  -- value `n` of the loan.
  pub back : (α : ℕ) (δ : GName) (n : R.Denot)
      → Step K 𝓛 (‵ ((MutRef (named 0) κ R).own_val (record r { now = n }) (mut_vals r)) ∷ ‵ (flft κ q) ∷ Γ) G
      (‵ (fdead (α ∷ [])) ∷ ‵ (Kept R κ q r α δ) ∷ ‵ (fres δ (R.coded.code n)) ∷ Γ) G
  back α δ n = step (λ s.
      use3 𝓛 (later (‵ ((MutRef (named 0) κ R).own_val (record r { now = n }) (mut_vals r)) ⊛ ‵ (flft κ q)))
      (comes_back 𝓛 R (named 0) κ (α ∷ []) q r.ghost_name r.ref_ptr.0 r.ref_ptr.1 δ r.now n) $ await t soaks $ split t $ s)
