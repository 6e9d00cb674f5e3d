-- Any lender can lend an empty slice. The slice covers no memory of the lender, so the lender is
-- unchanged. The lemmas assume `Logic`.
use Prim.Native.Nat.{ℕ}
use mathlib.Core.Path.{◌≡◌}
use mathlib.Core.List.{List, [], ◌∷◌}
use lib.ListN.{length}
use seplogic.Ra.Ura.{Ura}
use mir.Syntax.{Lifetime}
use mir.Val.{Val}
use base.Logic.{SProp, ent, sep, ex}
use base.Fml.{Lft, GName, Share, flft}
use types.Logic.{Logic, sem}
use types.Kit.{‵, raw, ◌$◌, ◌∵◌, !, qed, drop, move, group, fsplit3, updating, await, later, some, use1, pick, now, show, done}
use types.Mut.{open_ref}
use types.SemTy.{cells}
use denote.FollowSlice.{Elements, lends_Elements}
use denote.Memory.{mem}
use denote.RattleType.{RattleType}
use denote.Ref.{MutRef}
use denote.Slice.{Room}
use denote.Steps.{nothing}

module _ {M : Type 1} {𝓤 : Ura M} (𝓛 : Logic 𝓤) (S R : RattleType) (ℓ : Lifetime) (κ : Lft) (q : Share) (b o b' o' : ℕ) (γ : GName)
    (x : S.Denot) where
  open 𝓛 use {H, A}

  -- Taking back an empty slice leaves the lender at its value `x`.
  pub stays : (ws : List R.Denot) → length ws ≡ length {A = R.Denot} []
      → ent 𝓤 (sep 𝓤 (sem 𝓛 (cells (mem R) ws b' o')) (sem 𝓛 ((mem S).own_at x b o))) (sem 𝓛 ((mem S).own_at x b o))
  stays ws e = qed 𝓛 (‵ (cells (mem R) ws b' o') ∷ ‵ ((mem S).own_at x b o) ∷ []) ∵ drop ! $ done !

  -- The assertion of the loan: the empty slice at `(b', o')` under a new name, the token, and the
  -- fact that the lender is unchanged.
  abbrev pub Nothing : Room R 0 → GName → SProp 𝓤
  Nothing rm = Elements 𝓛 S R (λ _. x) ℓ κ q b o b' o' γ [] rm (sem 𝓛 ((mem S).own_at x b o)) stays

  -- A mutable reference and its token can lend an empty slice.
  pub lends_nothing : (rm : Room R 0) (vs : List Val)
      → ent 𝓤 (sep 𝓤 (sem 𝓛 ((MutRef ℓ κ S).own_val (record { ref_ptr = (b, o); ghost_name = γ; now = x }) vs)) (A.lft κ q))
      (H.⇛ (ex 𝓤 (Nothing rm)))
  lends_nothing rm vs = qed 𝓛 (‵ ((MutRef ℓ κ S).own_val (record { ref_ptr = (b, o); ghost_name = γ; now = x }) vs) ∷ ‵ (flft κ q) ∷ []) ∵
      updating ! $ fsplit3 ! $ drop ! $
      open_ref ! tt (mem S) {b = b} {o = o} $ nothing ! $ move ! (2 ∷ 3 ∷ 4 ∷ 0 ∷ 1 ∷ []) $ group ! 5 $
      use1 𝓛 (later (some (λ (δ : GName). raw (Nothing rm δ))))
      (lends_Elements 𝓛 S R (λ _. x) ℓ κ q b o b' o' γ [] rm (sem 𝓛 ((mem S).own_at x b o)) stays (S.coded.code x) (S.coded.code x)) $
      await ! tt $ pick ! (λ δ.
      now ! $ show ! (Nothing rm) δ $ done !)
