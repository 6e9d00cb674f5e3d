-- A lemma that covers each call of `destructure_mut` that lends the part of a value. The lemma
-- assumes `Logic`.
use Prim.Native.Nat.{ℕ}
use mathlib.Core.List.{List, [], ◌∷◌}
use mathlib.Core.Path.{◌≡◌}
use seplogic.Ra.Ura.{Ura}
use base.Fml.{Lft, Share, ftrue, flft, fsep}
use base.Logic.{ent, sep}
use contract.Monad.{fact}
use denote.Laws.{Is, Typed, shows}
use denote.RattleType.{RattleType}
use denote.Ref.{MutBor, MutRef, NamedLft, mut_vals}
use denote.Steps.{peeks}
use denote.Triple.Call.{calls_at}
use denote.Triple.Statement.{Contract, Triple}
use mir.Syntax.{Body, Callee, Opd as Operand, Place, named, seq, call}
use mir.Val.{Val, of_list}
use prog.Wp.{Env, Calls, Loops}
use sound.WpLaws.{FmC}
use types.Kit.{Item, Post, Seq, mean, runs, lands, ‵, raw, ◌⊛◌, ◌$◌, move, drop, split, use1}
use types.Logic.{Logic, sem}
use types.Match.{live}
use types.Run.{Opds}
use Rattle.ijson_value.specs.Kind.{kind_of}
use Rattle.ijson_value.specs.LendsParts.{LendsParts}
use Rattle.ijson_value.specs.Opened.{mut_value}
use Rattle.ijson_value.specs.contracts.value.IValue.{the_row as V}
use Rattle.ijson_value.specs.contracts.value.destructure.DestructuredMut.{the_row as PartsOf}
use Rattle.ijson_value.specs.declared.value.ValueType.{ValueType}
use Rattle.ijson_value.specs.declared.value.destructure.DestructuredMut.{DestructuredMut}
use Rattle.ijson_value.proofs.value.destructure.DestructuredMut.TheLaws.{the_row_laws as parts_laws}
use Rattle.ijson_value.proofs.lends.Called.{Answer, asks, answered}

-- The lifetime `κ` with its name in the code of the function.
abbrev at : Lft → NamedLft
at κ = record { mir = named 0; lft = κ }

module _ {M : Type 1} {𝓤 : Ura M} (𝓛 : Logic 𝓤) {K : Type 0} {Γ : List (Item 𝓤)} {E : Env 𝓤 𝓛.H} {C : Calls 𝓤 𝓛.H} {Λ : Loops 𝓤 𝓛.H}
    {f : Callee} {xs : List Operand} {d : Place} {rest : Body} {post : Post 𝓤 𝓛.H} (t : K) (κ : Lft) (q : Share) (r : MutBor V.Denot) where
  -- After a call for a value of kind `k`, the following code can use the part as a variant of
  -- `DestructuredMut`, the formula `LendsParts`, and the lifetime token.
  pub part_called : FmC 𝓤 𝓛.H 𝓛.laws C → (k : ValueType) → kind_of r.now.tree ≡ k → (R : RattleType)
      → ((part : R.Denot) (vs : List Val) → Is R part vs → Typed R.mir vs) → (variant : R.Denot → DestructuredMut) (n : ℕ)
      → ((part : R.Denot) (w : Val) → ent 𝓤 (sem 𝓛 (R.own_val part (w ∷ []))) (sem 𝓛 ((PartsOf (at κ)).own_val (variant part) (live n (of_list (w ∷ [])) ∷ []))))
      → {c : Contract 𝓤} → Triple 𝓤 (C f) c → (x : c.Ghost)
      → ent 𝓤 (sep 𝓤 (mean 𝓛 ((‵ (flft κ q) ⊛ ‵ ftrue) ⊛ ‵ ((MutRef (named 0) κ V).own_val r (mut_vals r)) ⊛ ‵ ftrue))
      (mean 𝓛 (raw (fact 𝓤 (kind_of r.now.tree ≡ k))))) (c.pre x)
      → Opds K 𝓛 (raw (c.pre x) ∷ Γ) E xs (c.args x)
      → ((w : Val) → ent 𝓤 (c.post x w) (mean 𝓛 (Answer (‵ (flft κ q) ⊛ ‵ ftrue) R w (λ part (ws : Unit {0} × Unit {0}). fsep ftrue ftrue)
      (λ part. LendsParts r (variant part)) (λ part. mut_value (variant part) ≡ r.now))))
      → ((w : Val) (part : R.Denot) → mut_value (variant part) ≡ r.now → Typed R.mir (w ∷ []) → Typed (PartsOf (at κ)).mir (live n (of_list (w ∷ [])) ∷ [])
      → Seq K 𝓛 (‵ ((PartsOf (at κ)).own_val (variant part) (live n (of_list (w ∷ [])) ∷ [])) ∷ ‵ (LendsParts r (variant part)) ∷ ‵ (flft κ q) ∷ Γ)
      (lands C Λ E d w rest post))
      → Seq K 𝓛 (‵ ((MutRef (named 0) κ V).own_val r (mut_vals r)) ∷ ‵ (flft κ q) ∷ Γ) (runs C Λ E (seq (call f xs d) rest) post)
  part_called frames k is R types variant n makes {c} met x gives reads answers go =
      asks 𝓛 t κ q ((MutRef (named 0) κ V).own_val r (mut_vals r)) (kind_of r.now.tree ≡ k) (c.pre x) is gives $
      calls_at t frames c met x reads (λ w.
      answered 𝓛 t tt (‵ (flft κ q) ⊛ ‵ ftrue) R w (λ part (ws : Unit {0} × Unit {0}). fsep ftrue ftrue) (λ part. LendsParts r (variant part))
      (λ part. mut_value (variant part) ≡ r.now) (answers w) (λ part stands seen.
      use1 𝓛 (‵ ((PartsOf (at κ)).own_val (variant part) (live n (of_list (w ∷ [])) ∷ []))) (makes part w) $
      peeks t (PartsOf (at κ)) _ (shows 𝓛 (PartsOf (at κ))) (variant part) (live n (of_list (w ∷ [])) ∷ []) (λ told.
      move t (2 ∷ []) $ split t $ move t (1 ∷ []) $ drop t $ move t (1 ∷ 1 ∷ []) $
      go w part stands (types part (w ∷ []) seen) (((parts_laws (at κ)).lawful 𝓛).typed (variant part) (live n (of_list (w ∷ [])) ∷ []) told))))
