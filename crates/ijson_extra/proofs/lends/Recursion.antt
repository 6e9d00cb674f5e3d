-- A recursive function satisfies its contract if a measure of its arguments decreases in each
-- recursive call. `step_on` composes the relations of two nested lenders. Assumes `Logic`.
use Rattle.ijson_value.proofs.lends.Steps.{[], ◌∷◌, ◌$◌, ◌∵◌, !, qed, done}
use Prim.Native.Nat.{ℕ, ◌<◌}
use mathlib.Core.Option.{Option, some}
use mathlib.Core.Path.{refl, subst}
use lib.NonEmpty.{one}
use lib.WfN.{lt-wf_rel}
use seplogic.Ra.Ura.{Ura}
use mir.Syntax.{Fn, Callee}
use base.Fml.{GName}
use base.Logic.{ent, sep, via}
use contract.Lifetimes.{Lfts}
use contract.Running.{Running, MachineTables, tables, tables_of}
use prog.Model.{Model}
use prog.Wp.{WpFn, Closed}
use sound.WpLaws.{WpFn-mono}
use types.Logic.{Logic, sem}
use types.Kit.{‵, use2, fpick}
use denote.Laws.{Spells, Tellss, Ises, Are, valss}
use denote.RattleType.{RattleType, flat}
use denote.Follow.{follows, follows_so, follows_by, such_by, follows_then}
use denote.Signature.{Signature, types_at}
use denote.Triple.Clauses.{Ended, Clauses, closing}
use denote.Triple.Cycle.{Stated, measured, mutual_elim}
use denote.Triple.Entry.{on_entry}
use denote.Triple.Spec.{Meets, triple_of}
use denote.Triple.Statement.{Contract}
use denote.Triple.Walked.{Stays, AllGo, walk_of, walked_at, walk_meets_at}
use Rattle.ijson_value.proofs.lends.LentOn.{then_such}

module _ {M : Type 1} {𝓤 : Ura M} (𝓛 : Logic 𝓤) (T : Ended) (hs : Stays T.signature.params T.kept) (c : Clauses 𝓤 T) where
  open 𝓛 use {H}

  abbrev S : Signature
  S = T.signature

  abbrev W : Contract 𝓤
  W = walk_of 𝓛 T hs c

  abbrev Known : Contract 𝓤
  Known = triple_of 𝓛 S (closing 𝓛 T c)

  module _ (𝓜 : Model 𝓤 H) (𝓡 : Running 𝓤 H 𝓜) (k : Callee) (e : Fn) where
    abbrev 𝓣 : MachineTables 𝓤 H 𝓜
    𝓣 = tables 𝓤 H 𝓜 𝓡 𝓡.env

    -- Holds if a recursive call with the ghost arguments `y` satisfies the contract.
    abbrev pub Called : Known.Ghost → Type 1
    Called y = ent 𝓤 (Known.pre y) (𝓣.C k (Known.args y) (Known.post y))

    abbrev stated : Stated 𝓤
    stated = record { signature = S; run = 𝓣.C k; spec = closing 𝓛 T c }

    pub recursive : AllGo 𝓛 S.lifetimes S.params T.kept hs → Closed 𝓤 H 𝓣.C 𝓣.Λ k e → (μ : Known.Ghost → ℕ)
        → (sp : (κs : Lfts S.lifetimes) → Spells (types_at S.params κs))
        → ((κs : Lfts S.lifetimes) → Tellss (types_at S.params κs) (Ises (types_at S.params κs)) (sp κs))
        → ((y : W.Ghost) → ((y' : Known.Ghost) → μ y' < μ y → Called y')
        → Are (types_at S.params y.0.0) (Ises (types_at S.params y.0.0)) y.0.3 (valss (types_at S.params y.0.0) (sp y.0.0) y.0.3)
        → ent 𝓤 (sep 𝓤 (on_entry 𝓛 S y.0.0 y.0.1 y.0.3 (valss (types_at S.params y.0.0) (sp y.0.0) y.0.3)) ((c y.0.0 y.0.3).requires y.1))
        (WpFn 𝓤 H 𝓣.C 𝓣.Λ e (flat (types_at S.params y.0.0) (valss (types_at S.params y.0.0) (sp y.0.0) y.0.3))
        (W.post ((y.0.0, y.0.1, y.0.2, y.0.3, valss (types_at S.params y.0.0) (sp y.0.0) y.0.3), y.1))))
        → Meets 𝓛 S (𝓣.C k) (closing 𝓛 T c)
    unfolding tables_of
    recursive go closed μ sp tells walk =
        mutual_elim 𝓛 (one stated) ◌<◌ lt-wf_rel.wf (measured 𝓛 stated μ) (λ t below y is.
        via 𝓤 (WpFn 𝓤 H 𝓣.C 𝓣.Λ e (Known.args y) (Known.post y))
        (walk_meets_at 𝓛 T hs go c (WpFn 𝓤 H 𝓣.C 𝓣.Λ e) (WpFn-mono 𝓤 H 𝓛.laws (tables_of 𝓤 H 𝓜 𝓣) e) y
        (walked_at 𝓛 T hs c (WpFn 𝓤 H 𝓣.C 𝓣.Λ e) y (sp y.0.0) (tells y.0.0)
        (walk y (λ y' lt. below (μ y') (subst (λ (u : ℕ). μ y' < u) is lt) y' refl))))
        (closed (Known.args y) (Known.post y)))

-- If a lender follows a part, and the part follows an inner part, the lender follows the inner part
-- by the composed relation.
module _ {M : Type 1} {𝓤 : Ura M} (𝓛 : Logic 𝓤) (R S T U : RattleType) (O : S.Denot → R.Denot → Type 0) (O₀ : R.Denot → Type 0)
    (G : U.Denot → S.Denot) (Q : T.Denot → U.Denot → Type 0) (Q₀ : U.Denot → Type 0) (P : T.Denot → R.Denot → Type 0)
    (P₀ : R.Denot → Type 0)
    (met : (w : T.Denot) (y : U.Denot) (n : R.Denot) → Q w y → O (G y) n → P w n)
    (met₀ : (y : U.Denot) (n : R.Denot) → Q₀ y → O (G y) n → P₀ n) where
  pub step_on : (γ δ ε : GName) (m : Option GName)
      → ent 𝓤 (sep 𝓤 (sem 𝓛 (follows_so R S γ (some δ) O O₀)) (sep 𝓤 (sem 𝓛 (follows S U δ ε G)) (sem 𝓛 (follows_so U T ε m Q Q₀))))
      (sem 𝓛 (follows_so R T γ m P P₀))
  unfolding such_by follows_by
  step_on γ δ ε m =
      qed 𝓛 (‵ (follows_so R S γ (some δ) O O₀) ∷ ‵ (follows S U δ ε G) ∷ ‵ (follows_so U T ε m Q Q₀) ∷ []) ∵ fpick ! (λ s.
      use2 𝓛 (‵ (follows R U γ ε (λ y. s.0.0 (G y)))) (follows_then 𝓛 R S U s.0.0 G γ δ ε) $
      use2 𝓛 (‵ (follows_so R T γ m P P₀))
      (then_such 𝓛 R U T (λ y. s.0.0 (G y)) Q Q₀ P P₀ (λ w y h. met w y (s.0.0 (G y)) h (s.1 (G y)))
      (λ y h. met₀ y (s.0.0 (G y)) h (s.1 (G y))) γ ε m) $ done !)
