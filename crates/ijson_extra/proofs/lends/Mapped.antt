-- Proof rules for a call that lends a part of an argument, and for a call that maps its argument to
-- a result. Assumes `Logic`.
-- Re-exports the names that the proofs of callers use.
pub use denote.Ref.{NamedLft}
pub use denote.Slice.{shr_slice_vals}
pub use denote.Text.{Str, StrRefOf, str-field, str-laws, str-copy}
pub use mir.Val.{of_list}
pub use Rattle.std.specs.Option.{ghost_name_of}
pub use Rattle.std.specs.contracts.option.Option.{the_row as OptionOf}
pub use Rattle.std.proofs.mem.Facts.{says_two}
pub use Rattle.std.proofs.option.Made.{Some-of}
pub use Rattle.ijson_value.specs.NodeValue.{node_value}
pub use Rattle.ijson_value.specs.WellFormed.{WellFormed}
pub use Rattle.ijson_value.specs.contracts.value.Destructured.{the_row as N}
pub use Rattle.ijson_value.specs.contracts.value.IValue.{the_row as V}
pub use Rattle.ijson_value.specs.declared.value.Destructured.{Destructured}
pub use Rattle.ijson_value.proofs.lends.Called.{back, lent}
pub use Rattle.ijson_value.proofs.lends.LentLaws.{value_found_laws}
pub use Rattle.ijson_value.proofs.lends.LentOn.{then_such}
pub use Rattle.ijson_extra.proofs.tokens.Options.{on_both}
use mathlib.Core.List.{List, [], ◌∷◌}
use seplogic.Ra.Ura.{Ura}
use base.Fml.{Fml, Lft, Share, ftrue, flft}
use base.Logic.{ent, sep, emp}
use denote.Laws.{Typed, shows}
use mathlib.Core.Path.{◌≡◌, refl}
use mathlib.Core.Bool.{Bool, true, false, not}
use lib.Dec.{T}
use denote.Param.Laws.{Laws, of_field, row_shared}
use denote.Builtin.{bool}
use denote.Param.Shared.{mut_ref_shared, copy_shared}
use denote.Ref.{MutRef}
use denote.RattleType.{RattleType}
use denote.Steps.{nothing, peeks}
use denote.Struct.Field.{mut_ref_field, bool-field}
use denote.Struct.Laws.{mut_ref_laws, bool-laws, bool-copy}
use denote.Triple.Call.{calls_at}
use denote.Triple.Statement.{Contract, Triple}
use mir.Syntax.{named, Body, Callee, Opd as Operand, Place, seq, call}
use mir.Val.{Val}
use prog.Wp.{Env, Calls, Loops}
use sound.WpLaws.{FmC}
use types.Kit.{Item, Post, Seq, mean, runs, lands, ‵, raw, ◌⊛◌, some, later, ◌$◌, ◌∵◌, !, qed, done, move, drop, split, join, use0, use1, use2, pick, await}
use types.Logic.{Logic}
use types.Run.{Opds}
use Rattle.ijson_value.proofs.value.Destructured.TheLaws.{the_row_laws as node_laws}

-- The laws of a mutable reference to the content of a value.
abbrev pub opened_laws : (κ : Lft) → Laws (MutRef (named 0) κ N)
opened_laws κ = let a : NamedLft = record { mir = named 0; lft = κ } in
    of_field (mut_ref_field a N tt) (mut_ref_laws a N tt) refl (mut_ref_shared a N tt (row_shared N node_laws))

-- The laws of `bool`. `truth` and `falsehood` turn a test of a Boolean into an equation.
abbrev pub bool_laws : Laws bool
bool_laws = of_field bool-field bool-laws refl (copy_shared bool-field bool-copy)

pub truth : (t : Bool) → T t → t ≡ true
truth true k = refl
truth false k = absurd k

pub falsehood : (t : Bool) → T (not t) → t ≡ false
falsehood true k = absurd k
falsehood false k = refl

-- The precondition of a call that requires nothing holds.
pub no_need : {M : Type 1} {𝓤 : Ura M} (𝓛 : Logic 𝓤) → ent 𝓤 (emp 𝓤) (mean 𝓛 (‵ ftrue))
no_need 𝓛 = qed 𝓛 [] ∵ nothing ! $ done !

module _ {M : Type 1} {𝓤 : Ura M} (𝓛 : Logic 𝓤) {K : Type 0} {Γ : List (Item 𝓤)} {E : Env 𝓤 𝓛.H} {C : Calls 𝓤 𝓛.H} {Λ : Loops 𝓤 𝓛.H}
    {f : Callee} {xs : List Operand} {d : Place} {rest : Body} {post : Post 𝓤 𝓛.H} (t : K) (κ : Lft) (q : Share)
    (frames : FmC 𝓤 𝓛.H 𝓛.laws C) (c : Contract 𝓤) (met : Triple 𝓤 (C f) c) (x : c.Ghost) (R : RattleType) (laws : Laws R) {W : Type 0} where
  -- After a call that lends a part, the proof continues with the part, the formula that the lender
  -- follows, the lifetime tokens, and the facts about the part.
  pub finds : (κ' : Lft) (q' : Share) (own own' : Fml) (i : Item 𝓤) → ent 𝓤 (emp 𝓤) (mean 𝓛 i)
      → ent 𝓤 (sep 𝓤 (mean 𝓛 ((‵ (flft κ q) ⊛ ‵ (flft κ' q') ⊛ ‵ ftrue) ⊛ ‵ own ⊛ ‵ own' ⊛ ‵ ftrue)) (mean 𝓛 i)) (c.pre x)
      → Opds K 𝓛 (raw (c.pre x) ∷ Γ) E xs (c.args x)
      → (L : W → Fml) (F : R.Denot → Fml) (J : R.Denot → Item 𝓤)
      → ((w : Val) → ent 𝓤 (c.post x w) (mean 𝓛 (later (some (λ (y : R.Denot).
      ((‵ (flft κ q) ⊛ ‵ (flft κ' q') ⊛ ‵ ftrue) ⊛ ‵ (R.own_val y (w ∷ []))) ⊛ some (λ (ws : W). ‵ (L ws) ⊛ ‵ (F y) ⊛ J y))))))
      → ((w : Val) (y : R.Denot) → Typed R.mir (w ∷ []) → Seq K 𝓛
      (J y ∷ ‵ (R.own_val y (w ∷ [])) ∷ ‵ (F y) ∷ ‵ (flft κ q) ∷ (‵ (flft κ' q') ⊛ ‵ ftrue) ∷ Γ) (lands C Λ E d w rest post))
      → Seq K 𝓛 (‵ own ∷ ‵ own' ∷ ‵ (flft κ q) ∷ ‵ (flft κ' q') ∷ Γ) (runs C Λ E (seq (call f xs d) rest) post)
  finds κ' q' own own' i shown enough reads L F J gives go =
      nothing t $ move t (2 ∷ 0 ∷ []) $ join t $ move t (1 ∷ 0 ∷ []) $ join t $ nothing t $ move t (3 ∷ 0 ∷ []) $ join t $
      move t (2 ∷ 0 ∷ []) $ join t $ join t $ use0 𝓛 i shown $ move t (1 ∷ 0 ∷ []) $ use2 𝓛 (raw (c.pre x)) enough $
      calls_at t frames c met x reads (λ w.
      use1 𝓛 (later (some (λ (y : R.Denot). ((‵ (flft κ q) ⊛ ‵ (flft κ' q') ⊛ ‵ ftrue) ⊛ ‵ (R.own_val y (w ∷ []))) ⊛
      some (λ (ws : W). ‵ (L ws) ⊛ ‵ (F y) ⊛ J y)))) (gives w) $ await t tt $ pick t (λ y. split t $ split t $ split t $ move t (2 ∷ []) $
      peeks t R _ (shows 𝓛 R) y (w ∷ []) (λ seen. move t (3 ∷ []) $
      pick t (λ ws. split t $ drop t $ split t $ move t (1 ∷ 2 ∷ 0 ∷ []) $ go w y ((laws.lawful 𝓛).typed y (w ∷ []) seen)))))

  -- After a call that maps its argument, the proof continues with the result, the lifetime token,
  -- and the facts about the result.
  pub maps : (own : Fml) → ent 𝓤 (sep 𝓤 (mean 𝓛 ((‵ (flft κ q) ⊛ ‵ ftrue) ⊛ ‵ own ⊛ ‵ ftrue)) (mean 𝓛 (‵ ftrue))) (c.pre x)
      → Opds K 𝓛 (raw (c.pre x) ∷ Γ) E xs (c.args x)
      → (L : R.Denot → W → Fml) (J : R.Denot → Item 𝓤)
      → ((w : Val) → ent 𝓤 (c.post x w) (mean 𝓛 (later (some (λ (y : R.Denot).
      ((‵ (flft κ q) ⊛ ‵ ftrue) ⊛ ‵ (R.own_val y (w ∷ []))) ⊛ some (λ (ws : W). ‵ (L y ws) ⊛ J y))))))
      → ((w : Val) (y : R.Denot) → Typed R.mir (w ∷ []) → Seq K 𝓛
      (J y ∷ ‵ (R.own_val y (w ∷ [])) ∷ ‵ (flft κ q) ∷ Γ) (lands C Λ E d w rest post))
      → Seq K 𝓛 (‵ own ∷ ‵ (flft κ q) ∷ Γ) (runs C Λ E (seq (call f xs d) rest) post)
  maps own enough reads L J gives go =
      nothing t $ move t (1 ∷ 0 ∷ []) $ join t $ nothing t $ move t (2 ∷ 0 ∷ []) $ join t $ join t $ nothing t $ move t (1 ∷ 0 ∷ []) $
      use2 𝓛 (raw (c.pre x)) enough $ calls_at t frames c met x reads (λ w.
      use1 𝓛 (later (some (λ (y : R.Denot). ((‵ (flft κ q) ⊛ ‵ ftrue) ⊛ ‵ (R.own_val y (w ∷ []))) ⊛
      some (λ (ws : W). ‵ (L y ws) ⊛ J y)))) (gives w) $ await t tt $ pick t (λ y. split t $ split t $ split t $ move t (2 ∷ []) $
      peeks t R _ (shows 𝓛 R) y (w ∷ []) (λ seen. move t (3 ∷ []) $
      pick t (λ ws. split t $ drop t $ move t (3 ∷ []) $ drop t $ go w y ((laws.lawful 𝓛).typed y (w ∷ []) seen)))))
