-- Lemmas about a lender that follows a part by a function `F`: the final value of the lender is `F`
-- of the final value of the part. The lemmas assume `Logic`.
use mathlib.Core.List.{[], ◌∷◌}
use mathlib.Core.Option.{Option, none, some}
use seplogic.Ra.Ura.{Ura}
use base.Logic.{ent, sep, emp}
use base.Fml.{GName, fex, fres}
use types.Logic.{Logic, sem}
use types.Kit.{‵, ◌$◌, ◌∵◌, !, qed, move, use0, use2, fpick, fpack, done}
use denote.RattleType.{RattleType}
use borrow.Follows.Kept.{follows_itself}
use denote.Follow.{follows, follows_if, follows_so, follows_by, such_by, followed, follows_then}

module _ {M : Type 1} {𝓤 : Ura M} (𝓛 : Logic 𝓤) (R S T : RattleType) (F : S.Denot → R.Denot) (G : T.Denot → S.Denot) (v : S.Denot)
    (P : T.Denot → R.Denot → Type 0) (P₀ : R.Denot → Type 0) (met : (w : T.Denot) → P w (F (G w))) (met₀ : P₀ (F v)) where
  -- A function and a default value that satisfy the relations `P` and `P₀`.
  abbrev Found : Type 0
  Found = (s : (T.Denot → R.Denot) × R.Denot) × ((w : T.Denot) → P w (s.0 w)) × P₀ s.1

  abbrev here : Found
  here = (((λ w. F (G w)), F v), met, met₀)

  -- If a lender follows its part by `F`, and the part follows an optional inner part by `G`, then
  -- the lender follows the inner part by the relations `P` and `P₀`.
  pub then_so : (γ δ : GName) (m : Option GName)
      → ent 𝓤 (sep 𝓤 (sem 𝓛 (follows R S γ δ F)) (sem 𝓛 (follows_if S T δ m G v))) (sem 𝓛 (follows_so R T γ m P P₀))
  unfolding such_by follows_by
  then_so γ δ none =
      qed 𝓛 (‵ (follows R S γ δ F) ∷ ‵ (fres δ (S.coded.code v)) ∷ []) ∵
      use2 𝓛 (‵ (fres γ (R.coded.code (F v)))) (followed 𝓛 R S F γ δ v) $
      fpack ! Found (λ (s : Found). follows_if R T γ none s.0.0 s.0.1) here $ done !
  then_so γ δ (some δ') =
      qed 𝓛 (‵ (follows R S γ δ F) ∷ ‵ (follows S T δ δ' G) ∷ []) ∵
      use2 𝓛 (‵ (follows R T γ δ' (λ w. F (G w)))) (follows_then 𝓛 R S T F G γ δ δ') $
      fpack ! Found (λ (s : Found). follows_if R T γ (some δ') s.0.0 s.0.1) here $ done !

-- If a lender follows its part by a relation, then its final value is related to the final value of
-- the part.
module _ {M : Type 1} {𝓤 : Ura M} (𝓛 : Logic 𝓤) (R T : RattleType) (P : T.Denot → R.Denot → Type 0) (P₀ : R.Denot → Type 0)
    (γ : GName) where
  -- If a lender follows the part `none` by a relation, then its final value satisfies `P₀`.
  pub so_none : ent 𝓤 (sem 𝓛 (follows_so R T γ none P P₀)) (sem 𝓛 (fex ((z : R.Denot) × P₀ z) (λ s. fres γ (R.coded.code s.0))))
  unfolding such_by follows_by
  so_none = qed 𝓛 (‵ (follows_so R T γ none P P₀) ∷ []) ∵
      fpick ! (λ s. fpack ! ((z : R.Denot) × P₀ z) (λ k. fres γ (R.coded.code k.0)) (s.0.1, s.2) $ done !)

  -- If a lender follows its part by the relation `P`, and the final value of the part is `w`, then
  -- `P` relates `w` to the final value of the lender.
  pub so_some : (δ : GName) (w : T.Denot) → ent 𝓤 (sep 𝓤 (sem 𝓛 (follows_so R T γ (some δ) P P₀)) (sem 𝓛 (fres δ (T.coded.code w))))
      (sem 𝓛 (fex ((z : R.Denot) × P w z) (λ s. fres γ (R.coded.code s.0))))
  unfolding such_by follows_by
  so_some δ w = qed 𝓛 (‵ (follows_so R T γ (some δ) P P₀) ∷ ‵ (fres δ (T.coded.code w)) ∷ []) ∵ fpick ! (λ s.
      use2 𝓛 (‵ (fres γ (R.coded.code (s.0.0 w)))) (followed 𝓛 R T s.0.0 γ δ w) $
      fpack ! ((z : R.Denot) × P w z) (λ k. fres γ (R.coded.code k.0)) (s.0.0 w, s.1 w) $ done !)

-- A lender follows itself. A lender that lends nothing follows the part `none`.
module _ {M : Type 1} {𝓤 : Ura M} (𝓛 : Logic 𝓤) (R : RattleType) where
  -- A lender follows itself by any reflexive relation.
  pub itself_so : (γ : GName) (v : R.Denot) (P : R.Denot → R.Denot → Type 0) (P₀ : R.Denot → Type 0) → ((w : R.Denot) → P w w) → P₀ v
      → ent 𝓤 (emp 𝓤) (sem 𝓛 (follows_so R R γ (some γ) P P₀))
  unfolding such_by follows_by
  itself_so γ v P P₀ met met₀ = qed 𝓛 [] ∵ use0 𝓛 (‵ (follows R R γ γ (λ w. w))) (follows_itself 𝓛 R γ) $
      fpack ! ((s : (R.Denot → R.Denot) × R.Denot) × ((w : R.Denot) → P w (s.0 w)) × P₀ s.1) (λ s. follows_if R R γ (some γ) s.0.0 s.0.1)
      (((λ w. w), v), met, met₀) $ done !

  -- A lender that lends nothing and has the final value `v` follows the part `none` by `P` and
  -- `P₀`, if `v` satisfies `P₀` and `P` relates each `w` to `F w`.
  pub none_so : (T : RattleType) (γ : GName) (v : R.Denot) (F : T.Denot → R.Denot) (P : T.Denot → R.Denot → Type 0) (P₀ : R.Denot → Type 0)
      → ((w : T.Denot) → P w (F w)) → P₀ v → ent 𝓤 (sem 𝓛 (fres γ (R.coded.code v))) (sem 𝓛 (follows_so R T γ none P P₀))
  unfolding such_by follows_by
  none_so T γ v F P P₀ met met₀ = qed 𝓛 (‵ (fres γ (R.coded.code v)) ∷ []) ∵
      fpack ! ((s : (T.Denot → R.Denot) × R.Denot) × ((w : T.Denot) → P w (s.0 w)) × P₀ s.1) (λ s. follows_if R T γ none s.0.0 s.0.1)
      ((F, v), met, met₀) $ done !

-- A lender follows an optional part if it follows the part, or if the part is `none` and the lender
-- is unchanged.
module _ {M : Type 1} {𝓤 : Ura M} (𝓛 : Logic 𝓤) (R T : RattleType) (F : T.Denot → R.Denot) (v : R.Denot) (γ : GName) where
  -- A lender that follows its part by `F` follows the optional part by `F`.
  pub some_if : (δ : GName) → ent 𝓤 (sem 𝓛 (follows R T γ δ F)) (sem 𝓛 (follows_if R T γ (some δ) F v))
  unfolding follows_by
  some_if δ = qed 𝓛 (‵ (follows R T γ δ F) ∷ []) ∵ done !

  -- A lender with the final value `v` follows the part `none`, with `v` as the default.
  pub none_if : ent 𝓤 (sem 𝓛 (fres γ (R.coded.code v))) (sem 𝓛 (follows_if R T γ none F v))
  unfolding follows_by
  none_if = qed 𝓛 (‵ (fres γ (R.coded.code v)) ∷ []) ∵ done !

-- If a lender follows its part by the function `F`, and the part follows an inner part by the
-- relation `Q`, then the lender follows the inner part by the relation `P`.
module _ {M : Type 1} {𝓤 : Ura M} (𝓛 : Logic 𝓤) (R S T : RattleType) (F : S.Denot → R.Denot) (Q : T.Denot → S.Denot → Type 0)
    (Q₀ : S.Denot → Type 0)
    (P : T.Denot → R.Denot → Type 0) (P₀ : R.Denot → Type 0) (met : (w : T.Denot) (y : S.Denot) → Q w y → P w (F y))
    (met₀ : (y : S.Denot) → Q₀ y → P₀ (F y)) where
  pub then_such : (γ δ : GName) (m : Option GName)
      → ent 𝓤 (sep 𝓤 (sem 𝓛 (follows R S γ δ F)) (sem 𝓛 (follows_so S T δ m Q Q₀))) (sem 𝓛 (follows_so R T γ m P P₀))
  unfolding such_by
  then_such γ δ m =
      qed 𝓛 (‵ (follows R S γ δ F) ∷ ‵ (follows_so S T δ m Q Q₀) ∷ []) ∵ move ! (1 ∷ []) $ fpick ! (λ s. move ! (1 ∷ 0 ∷ []) $
      use2 𝓛 (‵ (follows_so R T γ m P P₀)) (then_so 𝓛 R S T F s.0.0 s.0.1 P P₀ (λ w. met w (s.0.0 w) (s.1 w)) (met₀ s.0.1 s.2) γ δ m) $
      done !)

-- If a lender follows an optional part by a function, then the final value of the part determines
-- the final value of the lender.
module _ {M : Type 1} {𝓤 : Ura M} (𝓛 : Logic 𝓤) (R T : RattleType) (F : T.Denot → R.Denot) (v : R.Denot) (γ : GName) where
  -- If a lender follows the part `none`, then its final value is the default `v`.
  pub if_none : ent 𝓤 (sem 𝓛 (follows_if R T γ none F v)) (sem 𝓛 (fres γ (R.coded.code v)))
  unfolding follows_by
  if_none = qed 𝓛 (‵ (follows_if R T γ none F v) ∷ []) ∵ done !

  -- If a lender follows its part by `F`, and the final value of the part is `w`, then the final
  -- value of the lender is `F w`.
  pub if_some : (δ : GName) (w : T.Denot) → ent 𝓤 (sep 𝓤 (sem 𝓛 (follows_if R T γ (some δ) F v)) (sem 𝓛 (fres δ (T.coded.code w))))
      (sem 𝓛 (fres γ (R.coded.code (F w))))
  unfolding follows_by
  if_some δ w = qed 𝓛 (‵ (follows_if R T γ (some δ) F v) ∷ ‵ (fres δ (T.coded.code w)) ∷ []) ∵
      use2 𝓛 (‵ (fres γ (R.coded.code (F w)))) (followed 𝓛 R T F γ δ w) $ done !
