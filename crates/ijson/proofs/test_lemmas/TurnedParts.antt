-- Lemmas about a value that was opened by reference and then has its Boolean negated. Assumes
-- `Logic`.
use Rattle.std.proofs.Common.{◌≡◌, refl, sym, ap, subst, ◌∙◌, ℕ, List, [], ◌∷◌, MutBor}
use Rattle.std.specs.Prelude.{◌≢◌, Bool, false, not}
use seplogic.Ra.Ura.{Ura}
use base.Fml.{GName, fres}
use base.Logic.{ent, sep}
use denote.Builtin.{bool}
use denote.Follow.{follows, followed}
use denote.RattleType.{RattleType}
use denote.Ref.{MutRef, NamedLft}
use mir.Val.{Val}
use types.Kit.{‵, ◌$◌, ◌∵◌, !, qed, move, keep, drop, use1, use2, fsplit, fsplit3, fpick, feq_l, rewrite, done}
use types.Logic.{Logic, sem}
use Rattle.ijson_number.specs.contracts.repr.INumber.{the_row as NumberRow}
use Rattle.ijson_string.specs.contracts.text.IString.{the_row as StringRow}
use Rattle.ijson_value.specs.Kind.{kind_of}
use Rattle.ijson_value.specs.LendsParts.{LendsParts}
use Rattle.ijson_value.specs.Opened.{mut_value}
use Rattle.ijson_value.specs.Sequence.{Sequence}
use Rattle.ijson_value.specs.Tree.{Tree, boolean}
use Rattle.ijson_value.specs.Values.{boolean_value, number_value, string_value, array_value, object_value}
use Rattle.ijson_value.specs.WellFormed.{WellFormed}
use Rattle.ijson_value.specs.contracts.array.IArray.{the_row as ArrayRow}
use Rattle.ijson_value.specs.contracts.object.map.IObject.{the_row as ObjectRow}
use Rattle.ijson_value.specs.contracts.value.IValue.{the_row as V}
use Rattle.ijson_value.specs.contracts.value.destructure.BoolMut.{the_row as BoolRow}
use Rattle.ijson_value.specs.contracts.value.destructure.DestructuredMut.{the_row as PartsOf}
use Rattle.ijson_value.specs.declared.value.ValueType.TheVariants as kind
use Rattle.ijson_value.specs.declared.value.destructure.DestructuredMut.{DestructuredMut}
use Rattle.ijson_value.specs.declared.value.destructure.DestructuredMut.TheVariants as parts
use Rattle.ijson_value.proofs.lends.LentOn.{if_none}
use Rattle.ijson_value.proofs.lends.Variants.{Tagged, alone_out}
use Rattle.ijson.specs.tests.Turned.{IsTurned}

abbrev truth_of : Tree → Bool
truth_of (boolean b) = b
truth_of t = false

-- If `IsTurned x y` holds, `y` has the negated Boolean of `x`, or the same value if `x` is not a
-- Boolean.
pub negated : (x y : DestructuredMut) → IsTurned x y → (v : WellFormed) → mut_value x ≡ v
    → ((t : Bool) → v ≡ boolean_value t → mut_value y ≡ boolean_value (not t)) × (kind_of v.tree ≢ kind.Bool → mut_value y ≡ v)
negated parts.Null parts.Null is v e = ((λ t f. absurd (cc (ap (λ (w : WellFormed). w.tree) (e ∙ f)))), λ other. e)
negated (parts.Bool a) (parts.Bool b) is v e = (
  (λ t f. ap boolean_value is.1 ∙ ap (λ (w : WellFormed). boolean_value (not (truth_of w.tree))) (e ∙ f)),
  λ other. absurd (other (ap (λ (w : WellFormed). kind_of w.tree) (sym e))),
)
negated (parts.Number a) (parts.Number b) is v e =
    ((λ t f. absurd (cc (ap (λ (w : WellFormed). w.tree) (e ∙ f)))), λ other. ap (λ z. mut_value (parts.Number z)) (sym is) ∙ e)
negated (parts.String a) (parts.String b) is v e =
    ((λ t f. absurd (cc (ap (λ (w : WellFormed). w.tree) (e ∙ f)))), λ other. ap (λ z. mut_value (parts.String z)) (sym is) ∙ e)
negated (parts.Array a) (parts.Array b) is v e =
    ((λ t f. absurd (cc (ap (λ (w : WellFormed). w.tree) (e ∙ f)))), λ other. ap (λ z. mut_value (parts.Array z)) (sym is) ∙ e)
negated (parts.Object a) (parts.Object b) is v e =
    ((λ t f. absurd (cc (ap (λ (w : WellFormed). w.tree) (e ∙ f)))), λ other. ap (λ z. mut_value (parts.Object z)) (sym is) ∙ e)
negated x y is v e = absurd is

module _ {M : Type 1} {𝓤 : Ura M} (𝓛 : Logic 𝓤) (at : NamedLft) (r : MutBor WellFormed) where
  -- If the lent part is unchanged, the lender ends with the value of this part.
  module _ (n : ℕ) (T : RattleType) (F : T.Denot → WellFormed) where
    abbrev Leaves : MutBor T.Denot → MutBor T.Denot → List Val → Type 1
    Leaves a b vs = ent 𝓤 (sep 𝓤 (sem 𝓛 (Tagged n (MutRef at.mir at.lft T ∷ []) (b, tt) vs)) (sem 𝓛 (follows V T r.ghost_name a.ghost_name F)))
        (sem 𝓛 (fres r.ghost_name (V.coded.code (F b.now))))

    part_left : (a b : MutBor T.Denot) (vs : List Val) → a ≡ b → Leaves a b vs
    part_left a b vs is = subst (λ (z : MutBor T.Denot). Leaves a z vs) is (
        qed 𝓛 (‵ (Tagged n (MutRef at.mir at.lft T ∷ []) (a, tt) vs) ∷ ‵ (follows V T r.ghost_name a.ghost_name F) ∷ []) ∵
        alone_out ! n (MutRef at.mir at.lft T) a vs (λ us led. fsplit3 ! $ keep ! (1 ∷ 3 ∷ []) $
        use1 𝓛 (‵ (fres a.ghost_name (T.coded.code a.now))) (𝓛.names.obs-res a.ghost_name (T.coded.code a.now)) $ move ! (1 ∷ []) $
        use2 𝓛 (‵ (fres r.ghost_name (V.coded.code (F a.now)))) (followed 𝓛 V T F r.ghost_name a.ghost_name a.now) $ done !)
        )

  -- When the borrow ends, the lender has the value of the opened parts.
  pub parts_left : (x y : DestructuredMut) (vs : List Val) → IsTurned x y → mut_value x ≡ r.now
      → ent 𝓤 (sep 𝓤 (sem 𝓛 ((PartsOf at).own_val y vs)) (sem 𝓛 (LendsParts r x))) (sem 𝓛 (fres r.ghost_name (V.coded.code (mut_value y))))
  parts_left parts.Null parts.Null vs is e = subst (λ (w : WellFormed). ent 𝓤 (sep 𝓤 (sem 𝓛 ((PartsOf at).own_val parts.Null vs))
      (sem 𝓛 (LendsParts r parts.Null))) (sem 𝓛 (fres r.ghost_name (V.coded.code w)))) (sym e) (
      qed 𝓛 (‵ ((PartsOf at).own_val parts.Null vs) ∷ ‵ (LendsParts r parts.Null) ∷ []) ∵ drop ! $
      use1 𝓛 (‵ (fres r.ghost_name (V.coded.code r.now))) (if_none 𝓛 V V (λ w. w) r.now r.ghost_name) $ done !
      )
  parts_left (parts.Bool a) (parts.Bool b) vs is e =
      qed 𝓛 (‵ ((PartsOf at).own_val (parts.Bool b) vs) ∷ ‵ (LendsParts r (parts.Bool a)) ∷ []) ∵
      alone_out ! 1 (BoolRow at) b vs (λ us led. fpick ! (λ vss. fsplit ! $ feq_l ! (λ e. fsplit ! $ fsplit3 ! $ keep ! (1 ∷ 4 ∷ []) $
      use1 𝓛 (‵ (fres b.place.ghost_name (bool.coded.code b.place.now))) (𝓛.names.obs-res b.place.ghost_name (bool.coded.code b.place.now)) $
      rewrite ! 0 (λ (n : GName). ‵ (fres n (bool.coded.code b.place.now))) (sym is.0) refl $ move ! (1 ∷ []) $
      use2 𝓛 (‵ (fres r.ghost_name (V.coded.code (boolean_value b.place.now))))
      (followed 𝓛 V bool boolean_value r.ghost_name a.place.ghost_name b.place.now) $ done !)))
  parts_left (parts.Number a) (parts.Number b) vs is e = part_left 2 NumberRow number_value a b vs is
  parts_left (parts.String a) (parts.String b) vs is e = part_left 3 StringRow string_value a b vs is
  parts_left (parts.Array a) (parts.Array b) vs is e = part_left 4 ArrayRow (λ (s : Sequence). array_value s.items) a b vs is
  parts_left (parts.Object a) (parts.Object b) vs is e = part_left 5 ObjectRow object_value a b vs is
  parts_left x y vs is e = absurd is
