-- `destructure_mut` lends the part of a value by a separate call for each kind. The proof assumes
-- `Logic`.
use Rattle.ijson_value.proofs.lends.Steps.{◌≡◌, [], ◌∷◌, refl, sym, ap, subst, ◌∙◌, lit<, MutBor, proved, full_share, id⊢, Lft, ftrue}
use Rattle.ijson_value.proofs.lends.Steps.{flft, fres, named, Val, fact, tables, ‵, raw, ◌⊛◌, some, later, at_ret, ◌$◌, ◌∵◌, !, qed, done}
use Rattle.ijson_value.proofs.lends.Steps.{move, keep, use1, use2, split, join, rewrite, fsplit, fsplit3, fjoin, pick, await, suffices}
use Rattle.ijson_value.proofs.lends.Steps.{frame, enter, of_opd, lit, addr, fld, stop, no_more, and_then, first, exec, returns, alloc_all}
use Rattle.ijson_value.proofs.lends.Steps.{pass_all, free_all, look_at, get, get_tag, through, sets, sets_last, lands_as, agg, env, no}
use Rattle.ijson_value.proofs.lends.Steps.{MutRef, mut_vals, mut_Tells, plain, mut_ref_to, nothing, heard, only, whole, vrt, mut_ref_laws}
use Rattle.ijson_value.proofs.lends.Steps.{calls_at, lasts, triple_of, Stays, walk_of, says, stay_dropped, Goes-spent_ref, ends_at, framed}
use Rattle.ijson_value.proofs.lends.Steps.{lft_end, Sq, shows}
use denote.Steps.{facts}
use denote.Enum.Bare.{tag_one}
use denote.Enum.Declared.{tag_of}
use denote.Laws.{Typed}
use denote.RattleType.{RattleType}
use types.ByLocal.{forget_but, holding}
use types.Kit.{drop, post, prop}
use prog.Wp.{Wp}
use types.Match.{live, by_variants}
use mir.Val.{of_list}
use denote.Ref.{NamedLft}
use Rattle.ijson_number.specs.contracts.repr.INumber.{the_row as NumberRow}
use Rattle.ijson_string.specs.contracts.text.IString.{the_row as StringRow}
use Rattle.ijson_value.specs.Kind.{kind_of}
use Rattle.ijson_value.specs.LendsParts.{LendsParts}
use Rattle.ijson_value.specs.Opened.{mut_value}
use Rattle.ijson_value.specs.WellFormed.{WellFormed}
use Rattle.ijson_value.specs.contracts.array.IArray.{the_row as ArrayRow}
use Rattle.ijson_value.specs.contracts.object.map.IObject.{the_row as ObjectRow}
use Rattle.ijson_value.specs.contracts.value.IValue.{the_row as V}
use Rattle.ijson_value.specs.contracts.value.ValueType.{the_row as KindRow, the_type as Kinds}
use Rattle.ijson_value.specs.contracts.value.destructure.BoolMut.{the_row as BoolRow}
use Rattle.ijson_value.specs.contracts.value.destructure.DestructuredMut.{the_row as PartsOf}
use Rattle.ijson_value.specs.declared.value.ValueType.{ValueType}
use Rattle.ijson_value.specs.declared.value.ValueType.TheVariants as kind
use Rattle.ijson_value.specs.declared.value.destructure.DestructuredMut.TheVariants as parts
use Rattle.ijson_value.proofs.value.ValueType.TheLaws.{the_row_laws as kind_laws}
use Rattle.ijson_value.proofs.value.destructure.BoolMut.TheLaws.{the_row_laws as bool_laws}
use Rattle.ijson_value.proofs.lends.Called.{lent, back}
use Rattle.ijson_value.proofs.lends.PartCalled.{part_called}
use Rattle.ijson_value.proofs.lends.LentOn.{none_if}
use Rattle.ijson_value.specs.declared.value.destructure.DestructuredMut.{DestructuredMut}
use Rattle.ijson_value.proofs.lends.Kinds.{is_null}
use Rattle.ijson_value.proofs.lends.Variants.{bare_tells, variant_made, alone_made}
use Rattle.ijson_value.specs.contracts.value.IValue.destructure_mut as f
use Rattle.ijson_value.proofs.value.IValue.destructure_mut.Statement.{statement}
use Rattle.ijson_value.proofs.value.IValue.destructure_mut.Code as code
use Rattle.ijson_value.specs.contracts.value.IValue.kind_kept as g
use Rattle.ijson_value.proofs.value.IValue.kind_kept.Met as g-thm
use Rattle.ijson_value.proofs.value.IValue.bool_part.Met as bool-thm
use Rattle.ijson_value.proofs.value.IValue.number_part.Met as number-thm
use Rattle.ijson_value.proofs.value.IValue.string_part.Met as string-thm
use Rattle.ijson_value.proofs.value.IValue.array_part.Met as array-thm
use Rattle.ijson_value.proofs.value.IValue.object_part.Met as object-thm

abbrev stayed : Stays f.ended.signature.params f.ended.kept
stayed = (stay_dropped (mut_ref_to (0 ∷ []) tt (plain (λ _. V))) no, tt)

pub destructure_mut_spec : {M : Type 1} → statement M
destructure_mut_spec 𝓤 𝓛 𝓜 𝓡 wired =
    let c = f.clauses 𝓛 𝓜.mem 𝓡.returns in let W = walk_of 𝓛 f.ended stayed c in let 𝓣 = tables 𝓤 𝓛.H 𝓜 𝓡 𝓡.env in
    proved 𝓛 f.ended stayed c 𝓜 𝓡 (Goes-spent_ref 𝓛 1 (0 ∷ []) tt (plain (λ _. V)), tt)
    f.Key.name code.function (code.unfolded 𝓤 𝓛.H 𝓜 𝓡 wired)
    (λ κs. (mut_vals, tt)) (λ κs. (mut_Tells (named 0) κs.0 V, tt)) (λ κs qs bounds a gh are.
    let κ = κs.0 in let q = qs.0 in let r = a.0 in let γ = r.ghost_name in let vs = mut_vals r in
    let at : NamedLft = record { mir = named 0; lft = κ } in
    let y : W.Ghost = ((κs, qs, bounds, a, (vs, tt)), gh) in
    let Ref : RattleType → RattleType = λ R. MutRef (named 0) κ R in
    qed 𝓛 (((‵ (flft κ q) ⊛ ‵ ftrue) ⊛ ‵ ((Ref V).own_val r vs) ⊛ ‵ ftrue) ∷ ‵ ftrue ∷ []) ∵
    split ! $ split ! $ move ! (2 ∷ []) $ split ! $ keep ! (0 ∷ 2 ∷ []) $
    enter ! _ _ _ _ _ $ alloc_all ! (λ l. pass_all ! refl ((tt, tt), tt) $
    -- `leaves` proves that the function can return the `DestructuredMut` with the formula
    -- `LendsParts`.
    let leaves : (u : Val) (x : DestructuredMut) → Typed (PartsOf at).mir (u ∷ []) → mut_value x ≡ r.now
    → Sq 𝓛 (‵ ((PartsOf at).own_val x (u ∷ [])) ∷ ‵ (LendsParts r x) ∷ ‵ (flft κ q) ∷ holding 𝓛 (env code.Mir.locals l) ((4, u) ∷ []))
    (prop (Wp 𝓤 𝓛.H 𝓣.C 𝓣.Λ (env code.Mir.locals l) code.Mir.t-4 (post 𝓤 𝓛.H (at_ret (env code.Mir.locals l) (W.post y))))) =
    λ u x typed stands. exec ! 𝓣.C 𝓣.Λ (env code.Mir.locals l) code.Mir.t-4 (at_ret (env code.Mir.locals l) (W.post y)) $
    sets ! (of_opd ! (get ! refl)) refl typed.0 $
    returns ! (look_at ! 0 refl) $ free_all ! refl $ keep ! (0 ∷ 2 ∷ 1 ∷ []) $
    suffices ! _ (ends_at 𝓛 f.ended stayed c y u x (tt, tt) (tt, tt)) $ nothing ! $ nothing ! $ fjoin ! $ join ! $
    nothing ! $ move ! (2 ∷ 0 ∷ []) $ join ! $ join ! $ frame ! $ says ! stands $ done ! in
    -- The proof context is [the value; the value's token].
    sets ! (addr ! (through ! refl (stop !))) refl (tt, tt) $
    lent 𝓛 ! tt V κ q r (λ α δ. let β : Lft = α ∷ [] in
    -- The proof context is [the loan; the lender's assertion; the token of `α`].
    let r' : MutBor WellFormed = record r { ghost_name = δ } in
    let G = triple_of 𝓛 g.signature (g.spec 𝓛 𝓜.mem 𝓡.returns) in
    let z : G.Ghost = (((β, tt), (full_share, tt), tt, (r', tt), (vs, tt)), tt) in
    nothing ! $ move ! (1 ∷ 0 ∷ []) $ join ! $ nothing ! $ move ! (3 ∷ 0 ∷ []) $ join ! $ join ! $ nothing ! $ move ! (1 ∷ 0 ∷ []) $
    use2 𝓛 (raw (G.pre z)) (id⊢ 𝓤 _) $
    calls_at ! (framed 𝓤 𝓛.H 𝓜 𝓣) G (g-thm.met 𝓤 𝓛 𝓜 𝓡 (code.calls-ijson_value::value::IValue::kind_kept 𝓡.env wired)) z
    (and_then ! (get ! refl) (no_more !)) (λ v.
    use1 𝓛 (later (some (λ (x : ValueType). ((‵ (flft β full_share) ⊛ ‵ ftrue) ⊛ ‵ (KindRow.own_val x (v ∷ []))) ⊛
    some (λ (ws : WellFormed × Unit {0}). ‵ (lasts g.ended (β, tt) (r', tt) ws) ⊛ raw (fact 𝓤 (ws.0 ≡ r.now))
    ⊛ raw (fact 𝓤 (x ≡ kind_of r.now.tree)))))) (id⊢ 𝓤 _) $
    await ! tt $ pick ! (λ x. split ! $ split ! $ split ! $ lft_end ! tt $ move ! (3 ∷ []) $
    pick ! (λ ws. split ! $ move ! (1 ∷ []) $ split ! $ heard ! _ (λ kept. heard ! _ (λ told. fsplit ! $ fsplit ! $
    rewrite ! 0 (λ (n : WellFormed). ‵ (fres δ (V.coded.code n))) kept refl $
    -- The proof context is [the loan's last value; the loan's borrow; `ftrue`; the end of `α`;
    -- `ftrue`; the kind; the lender's assertion].
    move ! (3 ∷ 6 ∷ 0 ∷ []) $ back 𝓛 ! tt V κ q r α δ r.now $
    -- The proof context is [the value; the value's token; the loan's borrow; `ftrue`; `ftrue`; the
    -- kind].
    move ! (2 ∷ 3 ∷ 4 ∷ 5 ∷ []) $ drop ! $ drop ! $ drop ! $ facts ! KindRow _ (shows 𝓛 KindRow) x (v ∷ []) (λ seen.
    let at_kind : v ≡ live (tag_of Kinds x) (of_list []) = ap only (bare_tells Kinds tt x (v ∷ []) seen) in
    let is : (k : ValueType) → tag_of Kinds x ≡ tag_of Kinds k → kind_of r.now.tree ≡ k = λ k e. sym told ∙ tag_one Kinds tt x k e in
    lands_as ! at_kind refl (subst (λ (u : Val). Typed KindRow.mir (u ∷ [])) at_kind ((kind_laws.lawful 𝓛).typed x (v ∷ []) seen)).0 $
    -- The proof context is [the value; the value's token].
    first ! $ by_variants ! 26 (whole !) (get_tag ! (vrt ! refl (fld ! refl (stop !))) (whole !)) tt (
      (λ e. sets_last ! (agg ! (and_then ! (lit ! tt) (no_more !))) refl (tt, (record { fits = lit< tt }, tt)) $
          fsplit3 ! $ move ! (0 ∷ 2 ∷ []) $ drop ! $ drop ! $
          use1 𝓛 (‵ (fres γ (V.coded.code r.now))) (𝓛.names.obs-res γ (V.coded.code r.now)) $
          use1 𝓛 (‵ (LendsParts r parts.Null)) (none_if 𝓛 V V (λ w. w) r.now γ) $ nothing ! $
          use1 𝓛 (‵ ((PartsOf at).own_val parts.Null (live 0 (of_list []) ∷ []))) (variant_made 𝓛 0 [] tt tt) $
          forget_but ! (env code.Mir.locals l) (4 ∷ []) refl $
          leaves (live 0 (of_list [])) parts.Null ((tt, (record { fits = lit< tt }, tt)), tt) (is_null r.now (is kind.Null e))),
      (
        (λ e. sets ! (addr ! (through ! refl (stop !))) refl (tt, tt) $
            part_called 𝓛 ! κ q r (framed 𝓤 𝓛.H 𝓜 𝓣) kind.Bool (is kind.Bool e) (BoolRow at) ((bool_laws at).lawful 𝓛).typed parts.Bool 1
            (alone_made 𝓛 1 (BoolRow at)) (bool-thm.met 𝓤 𝓛 𝓜 𝓡 (code.calls-ijson_value::value::IValue::bool_part 𝓡.env wired))
            ((κs, qs, tt, (r, tt), (vs, tt)), tt) (id⊢ 𝓤 _) (and_then ! (get ! refl) (no_more !)) (λ w. id⊢ 𝓤 _) (λ w part stands typed built.
            lands_as ! refl refl typed.0 $ sets_last ! (agg ! (and_then ! (lit ! tt) (and_then ! (get ! refl) (no_more !)))) refl built.0 $
            forget_but ! (env code.Mir.locals l) (4 ∷ []) refl $ leaves _ (parts.Bool part) built stands)),
        (
          (λ e. sets ! (addr ! (through ! refl (stop !))) refl (tt, tt) $
              part_called 𝓛 ! κ q r (framed 𝓤 𝓛.H 𝓜 𝓣) kind.Number (is kind.Number e) (Ref NumberRow) ((mut_ref_laws at NumberRow tt).lawful 𝓛).typed parts.Number 2
              (alone_made 𝓛 2 (Ref NumberRow)) (number-thm.met 𝓤 𝓛 𝓜 𝓡 (code.calls-ijson_value::value::IValue::number_part 𝓡.env wired))
              ((κs, qs, tt, (r, tt), (vs, tt)), tt) (id⊢ 𝓤 _) (and_then ! (get ! refl) (no_more !)) (λ w. id⊢ 𝓤 _) (λ w part stands typed built.
              lands_as ! refl refl typed.0 $ sets_last ! (agg ! (and_then ! (lit ! tt) (and_then ! (get ! refl) (no_more !)))) refl built.0 $
              forget_but ! (env code.Mir.locals l) (4 ∷ []) refl $ leaves _ (parts.Number part) built stands)),
          (
            (λ e. sets ! (addr ! (through ! refl (stop !))) refl (tt, tt) $
                part_called 𝓛 ! κ q r (framed 𝓤 𝓛.H 𝓜 𝓣) kind.String (is kind.String e) (Ref StringRow) ((mut_ref_laws at StringRow tt).lawful 𝓛).typed parts.String 3
                (alone_made 𝓛 3 (Ref StringRow)) (string-thm.met 𝓤 𝓛 𝓜 𝓡 (code.calls-ijson_value::value::IValue::string_part 𝓡.env wired))
                ((κs, qs, tt, (r, tt), (vs, tt)), tt) (id⊢ 𝓤 _) (and_then ! (get ! refl) (no_more !)) (λ w. id⊢ 𝓤 _) (λ w part stands typed built.
                lands_as ! refl refl typed.0 $ sets_last ! (agg ! (and_then ! (lit ! tt) (and_then ! (get ! refl) (no_more !)))) refl built.0 $
                forget_but ! (env code.Mir.locals l) (4 ∷ []) refl $ leaves _ (parts.String part) built stands)),
            (
              (λ e. sets ! (addr ! (through ! refl (stop !))) refl (tt, tt) $
                  part_called 𝓛 ! κ q r (framed 𝓤 𝓛.H 𝓜 𝓣) kind.Array (is kind.Array e) (Ref ArrayRow) ((mut_ref_laws at ArrayRow tt).lawful 𝓛).typed parts.Array 4
                  (alone_made 𝓛 4 (Ref ArrayRow)) (array-thm.met 𝓤 𝓛 𝓜 𝓡 (code.calls-ijson_value::value::IValue::array_part 𝓡.env wired))
                  ((κs, qs, tt, (r, tt), (vs, tt)), tt) (id⊢ 𝓤 _) (and_then ! (get ! refl) (no_more !)) (λ w. id⊢ 𝓤 _) (λ w part stands typed built.
                  lands_as ! refl refl typed.0 $ sets_last ! (agg ! (and_then ! (lit ! tt) (and_then ! (get ! refl) (no_more !)))) refl built.0 $
                  forget_but ! (env code.Mir.locals l) (4 ∷ []) refl $ leaves _ (parts.Array part) built stands)),
              (
                (λ e. sets ! (addr ! (through ! refl (stop !))) refl (tt, tt) $
                    part_called 𝓛 ! κ q r (framed 𝓤 𝓛.H 𝓜 𝓣) kind.Object (is kind.Object e) (Ref ObjectRow) ((mut_ref_laws at ObjectRow tt).lawful 𝓛).typed parts.Object 5
                    (alone_made 𝓛 5 (Ref ObjectRow)) (object-thm.met 𝓤 𝓛 𝓜 𝓡 (code.calls-ijson_value::value::IValue::object_part 𝓡.env wired))
                    ((κs, qs, tt, (r, tt), (vs, tt)), tt) (id⊢ 𝓤 _) (and_then ! (get ! refl) (no_more !)) (λ w. id⊢ 𝓤 _) (λ w part stands typed built.
                    lands_as ! refl refl typed.0 $ sets_last ! (agg ! (and_then ! (lit ! tt) (and_then ! (get ! refl) (no_more !)))) refl built.0 $
                    forget_but ! (env code.Mir.locals l) (4 ∷ []) refl $ leaves _ (parts.Object part) built stands)),
                tt,
              ),
            ),
          ),
        ),
      ),
    ))))))))))
