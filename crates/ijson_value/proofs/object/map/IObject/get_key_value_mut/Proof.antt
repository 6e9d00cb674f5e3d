-- `get_key_value_mut` lends the value of a key, together with the key. The proof assumes `Logic`.
use Rattle.ijson_value.proofs.lends.Steps.{◌≡◌, ℕ, List, [], ◌∷◌, refl, sym, ap, subst, ◌∙◌, lit<, w64, MutBor, proved, full_share}
use Rattle.ijson_value.proofs.lends.Steps.{id⊢, Lft, ftrue, flft, fres, named, Val, fact, fact_i, emp, tables, ‵, raw, ◌⊛◌, some}
use Rattle.ijson_value.proofs.lends.Steps.{later, at_ret, ◌$◌, ◌∵◌, !, qed, done, move, keep, use0, use1, use2, use3, split, join}
use Rattle.ijson_value.proofs.lends.Steps.{rewrite, fsplit, fsplit3, fjoin, pick, await, suffices, frame, enter, of_opd, lit, addr, fld}
use Rattle.ijson_value.proofs.lends.Steps.{stop, no_more, and_then, first, exec, returns, alloc_all, pass_all, free_all, look_at, get}
use Rattle.ijson_value.proofs.lends.Steps.{get_in, get_tag, through, sets, sets_last, lands_as, agg, env, usize, no, shows, uint_vals}
use Rattle.ijson_value.proofs.lends.Steps.{uint_Tells, RattleType, MutRef, mut_vals, mut_Tells, plain, mut_ref_to, nothing, heard, peeks}
use Rattle.ijson_value.proofs.lends.Steps.{only, whole, vrt}
use Rattle.ijson_value.proofs.lends.Steps.{calls_at, lasts, triple_of, Stays, walk_of, stay_dropped, Goes-dropped, Goes-spent_ref, ends_at}
use Rattle.ijson_value.proofs.lends.Steps.{framed, lft_end, follows, says}
use types.Match.{in_variant, live}
use types.Run.{switches}
use mathlib.Core.List.{◌++◌}
use mir.Val.{of_list}
use native.Mathlib.Nat.{suc-ne-zero}
use Rattle.std.specs.Prelude.{Option, None, Some, IfSome, ◌<◌, length, option_and_then, slice_get}
use Rattle.std.specs.contracts.option.Option.{the_row as OptionOf}
use Rattle.std.proofs.option.Made.{Some-of, none_of}
use Rattle.ijson_value.specs.contracts.object.map.IObject.{the_row as M}
use Rattle.ijson_table.specs.Store.{at as place_of}
use Rattle.ijson_value.specs.LendsAtKey.{with_key, with_found}
use Rattle.ijson_value.specs.LendsPair.{LendsPairIf}
use Rattle.ijson_value.specs.LendsValue.{LendsValue}
use Rattle.ijson_value.specs.contracts.value.IValue.{the_row as V}
use Rattle.ijson_value.proofs.lends.LentLaws.{Pair, pair_laws}
use Rattle.ijson_value.proofs.lends.Called.{answered, lent, back}
use Rattle.ijson_value.proofs.lends.LentOn.{none_if, some_if}
use Rattle.ijson_value.proofs.lends.Variants.{and_tt, none_out, Some-out, by_option}
use Rattle.ijson_value.specs.contracts.object.map.IObject.get_key_value_mut as f
use Rattle.ijson_value.proofs.object.map.IObject.get_key_value_mut.Statement.{statement}
use Rattle.ijson_value.proofs.object.map.IObject.get_key_value_mut.Code as code
use Rattle.ijson_value.specs.contracts.object.map.IObject.position_of as g
use Rattle.ijson_value.proofs.object.map.IObject.position_of.Met as g-thm
use mir.MapTy.{inst_fn}
use mir.Syntax.{a_type, dcons, dnil}
use denote.Param.{bounded}
use denote.Param.Laws.{copied_copy, copied_laws, IsCopy}
use contract.BorrowLft.{◌⊑◌}
use Rattle.std.proofs.VecSteps.Shapes.{after}
use Rattle.ijson_value.specs.contracts.object.map.IObject.pair_mut as h
use Rattle.ijson_value.proofs.object.map.IObject.pair_mut.Met as h-thm

pub get_key_value_mut_spec : {M' : Type 1} → statement M'
get_key_value_mut_spec 𝓤 𝓛 𝓜 𝓡 wired I LI CI gx dx gs ds gc dc mx ms mc =
    let X : RattleType = f.I-row I in let CX : IsCopy X = copied_copy 0 I CI in
    let En = f.ended I gx dx gs ds gc dc in let inst = bounded (a_type ∷ []) (I, tt) (dcons dx (dcons ds (dcons dc dnil))) in
    let fn = inst_fn inst code.function in
    let c = f.clauses I gx dx gs ds gc dc 𝓛 𝓜.mem 𝓡.returns in
    let hs : Stays En.signature.params En.kept =
    (stay_dropped (mut_ref_to (0 ∷ []) tt (plain (λ _. M))) no, (stay_dropped (plain (λ _. X)) no, tt)) in
    let W = walk_of 𝓛 En hs c in let 𝓣 = tables 𝓤 𝓛.H 𝓜 𝓡 𝓡.env in
    proved 𝓛 En hs c 𝓜 𝓡 (Goes-spent_ref 𝓛 2 (0 ∷ []) tt (plain (λ _. M)), (Goes-dropped 𝓛 2 (plain (λ _. X)) no (λ κs x w. refl), tt))
    (f.Key.name inst) fn (code.unfolded 𝓤 𝓛.H 𝓜 𝓡 wired (I, tt) dx ds dc)
    (λ κs. (mut_vals, ((λ x. CX.val x ∷ []), tt))) (λ κs. (mut_Tells (named 0) κs.0 M, (CX.tells, tt))) (λ κs qs bounds a gh are.
    let κ = κs.0 in let q = qs.0 in let κ' = κs.1.0 in let q' = qs.1.0 in let r = a.0 in let k = a.1.0 in let b = r.ref_ptr.0 in
    let o = r.ref_ptr.1 in let γ = r.ghost_name in let vs = mut_vals r in let ks : List Val = CX.val k ∷ [] in
    let y : W.Ghost = ((κs, qs, bounds, a, (vs, (ks, tt))), gh) in
    let Ref = λ (β : List ℕ) (x : MutBor M.Denot). (MutRef (named 0) β M).own_val x vs in
    qed 𝓛 (((‵ (flft κ q) ⊛ ‵ (flft κ' q') ⊛ ‵ ftrue) ⊛ ‵ (Ref κ r) ⊛ ‵ (X.own_val k ks) ⊛ ‵ ftrue) ∷ raw (fact 𝓤 (κ' ⊑ I.lives)) ∷ ‵
    ftrue ∷ []) ∵
    move ! (1 ∷ []) $ heard ! _ (λ out.
    split ! $ split ! $ move ! (1 ∷ []) $ split ! $ move ! (3 ∷ []) $ split ! $ move ! (1 ∷ []) $ split ! $ keep ! (2 ∷ 5 ∷ 3 ∷ 0 ∷ []) $
    enter ! _ _ _ _ _ $ alloc_all ! (λ l. pass_all ! refl ((tt, tt), ((((copied_laws 0 I LI).lawful 𝓛).typed k ks are.1.0).0, tt)) $
    -- The proof context is [the object; the object's token; the index's token; the index].
    sets ! (addr ! (through ! refl (stop !))) refl (tt, tt) $
    lent 𝓛 ! tt M κ q r (λ α δ. let β : Lft = α ∷ [] in
    -- The proof context is [the loan; the lender's assertion; the token of `α`; the index's token;
    -- the index].
    let r' : MutBor M.Denot = record r { ghost_name = δ } in
    let G = triple_of 𝓛 (g.signature I) (g.spec I gx dx gs ds gc dc 𝓛 𝓜.mem 𝓡.returns) in
    let z : G.Ghost = (((β, (κ', tt)), (full_share, (q', tt)), tt, (r', (k, tt)), (vs, (ks, tt))), tt) in
    nothing ! $ move ! (4 ∷ 0 ∷ []) $ join ! $ move ! (3 ∷ 0 ∷ []) $ join ! $ nothing ! $ move ! (4 ∷ 0 ∷ []) $ join ! $
    move ! (2 ∷ 0 ∷ []) $ join ! $ move ! (1 ∷ 0 ∷ []) $ join ! $
    nothing ! $ use0 𝓛 (raw (fact 𝓤 (κ' ⊑ I.lives))) (fact_i 𝓤 (κ' ⊑ I.lives) (emp 𝓤) out) $ move ! (2 ∷ 0 ∷ 1 ∷ []) $
    use3 𝓛 (raw (G.pre z)) (id⊢ 𝓤 _) $
    calls_at ! (framed 𝓤 𝓛.H 𝓜 𝓣) G (g-thm.met 𝓤 𝓛 𝓜 𝓡 (code.calls-ijson_value::object::map::IObject::position_of 𝓡.env wired) I LI CI gx dx
    gs ds gc dc mx ms mc) z
    (and_then ! (get ! refl) (and_then ! (get ! refl) (no_more !))) (λ v.
    use1 𝓛 (later (some (λ (x : Option ℕ). ((‵ (flft β full_share) ⊛ ‵ (flft κ' q') ⊛ ‵ ftrue) ⊛ ‵ ((OptionOf usize).own_val x (v ∷ []))) ⊛
    some (λ (ws : M.Denot × (Unit {0} × Unit {0})). ‵ (lasts (g.ended I gx dx gs ds gc dc) (β, (κ', tt)) (r', (k, tt)) ws)
    ⊛ raw (fact 𝓤 (ws.0 ≡ r.now)) ⊛ raw (fact 𝓤 (x ≡ place_of r.now.pairs (gs.key k)))
    ⊛ raw (fact 𝓤 (IfSome x (λ i. i < length r.now.pairs))))))) (id⊢ 𝓤 _) $
    await ! tt $ pick ! (λ x. split ! $ split ! $ split ! $ lft_end ! tt $ move ! (1 ∷ []) $ split ! $ move ! (4 ∷ []) $
    pick ! (λ ws. split ! $ move ! (1 ∷ []) $ split ! $ move ! (1 ∷ []) $ split ! $
    heard ! _ (λ found. heard ! _ (λ within. heard ! _ (λ kept. fsplit ! $ fsplit ! $
    rewrite ! 0 (λ (n : M.Denot). ‵ (fres δ (M.coded.code n))) kept refl $
    -- The proof context is [the loan's last value; the loan's borrow; `ftrue`; the index's token;
    -- `ftrue`; the end of `α`; the result; the lender's assertion].
    move ! (5 ∷ 7 ∷ 0 ∷ []) $ back 𝓛 ! tt M κ q r α δ r.now $
    -- The proof context is [the object; the object's token; the borrow; `ftrue`; the index's token;
    -- `ftrue`; the result].
    by_option x
    (λ none. rewrite ! 6 (λ (x' : Option ℕ). ‵ ((OptionOf usize).own_val x' (v ∷ []))) none refl $ move ! (6 ∷ []) $
    none_out ! usize (v ∷ []) (λ at.
    lands_as ! (ap only at) refl (tt, (record { fits = lit< tt }, tt)) $
    first ! $ switches ! (get_tag ! (vrt ! refl (fld ! refl (stop !))) (whole !)) (
      (λ e. absurd (suc-ne-zero 0 (sym e))),
      (
        (λ _. sets_last ! (agg ! (and_then ! (lit ! tt) (no_more !))) refl (tt, (record { fits = lit< tt }, tt)) $
            exec ! 𝓣.C 𝓣.Λ (env fn.locals l) (after 3 fn.body) (at_ret (env fn.locals l) (W.post y)) $
            sets ! (of_opd ! (get ! refl)) refl (tt, (record { fits = lit< tt }, tt)) $ returns ! (look_at ! 0 refl) $ free_all ! refl $
            keep ! (0 ∷ 1 ∷ 4 ∷ []) $ fsplit3 ! $ keep ! (1 ∷ 3 ∷ 4 ∷ []) $
            use1 𝓛 (‵ (fres γ (M.coded.code r.now))) (𝓛.names.obs-res γ (M.coded.code r.now)) $
            use1 𝓛 (‵ (LendsPairIf r (gs.key k) None)) (none_if 𝓛 M V (with_key r.now (gs.key k)) r.now γ) $
            use0 𝓛 (‵ ((OptionOf (Pair κ)).own_val None (live 0 (of_list []) ∷ []))) (none_of 𝓛 (Pair κ)) $ move ! (0 ∷ 2 ∷ 3 ∷ 1 ∷ []) $
            suffices ! _ (ends_at 𝓛 En hs c y (live 0 (of_list [])) None (tt, (tt, tt)) (tt, (tt, tt))) $
            nothing ! $ nothing ! $ fjoin ! $ nothing ! $ fjoin ! $ join ! $ nothing ! $ move ! (3 ∷ 0 ∷ []) $ join ! $
            move ! (2 ∷ 0 ∷ []) $ join ! $ join ! $ frame ! $
            says ! (ap (λ (x' : Option ℕ). option_and_then (slice_get r.now.pairs) x') (sym none ∙ found)) $ done !),
        (λ n. absurd (n.1 refl)),
      ),
    )))
    (λ i there. rewrite ! 6 (λ (x' : Option ℕ). ‵ ((OptionOf usize).own_val x' (v ∷ []))) there refl $ move ! (6 ∷ []) $
    Some-out ! usize i (v ∷ []) (λ xs at. peeks ! usize _ (shows 𝓛 usize) i xs (λ told. let is_at = uint_Tells w64 i xs told in
    let is_within : i < length r.now.pairs = subst (λ (x' : Option ℕ). IfSome x' (λ j. j < length r.now.pairs)) there within in
    let is_found : Some i ≡ place_of r.now.pairs (gs.key k) = sym there ∙ found in
    rewrite ! 0 (λ (us : List Val). ‵ (usize.own_val i us)) is_at refl $
    lands_as ! (ap only at ∙ ap (λ (us : List Val). live 1 (of_list (us ++ []))) is_at) refl
    (tt, (record { fits = lit< tt }, (record { fits = told.1 }, tt))) $
    -- The proof context is [the index found; the object; the object's token; the borrow; `ftrue`;
    -- the index's token; `ftrue`].
    first ! $ switches ! (get_tag ! (vrt ! refl (fld ! refl (stop !))) (whole !))
    ((
      λ _. sets ! (of_opd ! (get_in ! (vrt ! refl (fld ! refl (stop !))) (in_variant ! 1 0 refl refl (whole !)))) refl
          (tt, record { fits = told.1 }) $ sets ! (addr ! (through ! refl (stop !))) refl (tt, tt) $
          let H = triple_of 𝓛 h.signature (h.spec 𝓛 𝓜.mem 𝓡.returns) in
          let z' : H.Ghost = (((κ, tt), (q, tt), tt, (r, (i, tt)), (vs, (uint_vals w64 i, tt))), tt) in
          move ! (2 ∷ 1 ∷ 0 ∷ []) $ nothing ! $ move ! (1 ∷ 0 ∷ []) $ join ! $ nothing ! $ move ! (3 ∷ 0 ∷ []) $ join ! $
          move ! (2 ∷ 0 ∷ []) $ join ! $ move ! (1 ∷ 0 ∷ []) $ join ! $
          use0 𝓛 (raw (fact 𝓤 (i < length r.now.pairs))) (fact_i 𝓤 (i < length r.now.pairs) (emp 𝓤) is_within) $ move ! (1 ∷ 0 ∷ []) $
          use2 𝓛 (raw (H.pre z')) (id⊢ 𝓤 _) $
          calls_at ! (framed 𝓤 𝓛.H 𝓜 𝓣) H (h-thm.met 𝓤 𝓛 𝓜 𝓡 (code.calls-ijson_value::object::map::IObject::pair_mut 𝓡.env wired)) z'
          (and_then ! (get ! refl) (and_then ! (get ! refl) (no_more !))) (λ w.
          answered 𝓛 ! tt (‵ (flft κ q) ⊛ ‵ ftrue) (Pair κ) w
          (λ pair (ws' : Unit {0} × (Unit {0} × Unit {0})). lasts h.ended (κ, tt) (r, (i, tt)) ws') (λ pair. LendsValue r i pair.1)
          (λ pair. slice_get r.now.pairs i ≡ Some (pair.0.now, pair.1.now)) (id⊢ 𝓤 _) (λ pair stands told'. let typed =
          -- The proof context is [the pair; the formula of the object; the object's token and
          -- `ftrue`; the borrow; `ftrue`; the index's token; `ftrue`].
          (((pair_laws κ).lawful 𝓛).typed pair (w ∷ []) told').0 in
          lands_as ! refl refl typed $
          sets_last ! (agg ! (and_then ! (lit ! tt) (and_then ! (get ! refl) (no_more !)))) refl
          (and_tt _ typed.0, (record { fits = lit< tt }, (typed.1, tt))) $
          exec ! 𝓣.C 𝓣.Λ (env fn.locals l) (after 3 fn.body) (at_ret (env fn.locals l) (W.post y)) $
          sets ! (of_opd ! (get ! refl)) refl (and_tt _ typed.0, (record { fits = lit< tt }, (typed.1, tt))) $
          returns ! (look_at ! 0 refl) $ free_all ! refl $
          use1 𝓛 (‵ ((OptionOf (Pair κ)).own_val (Some pair) (live 1 (of_list (w ∷ [])) ∷ []))) (Some-of 𝓛 (Pair κ) pair w) $
          move ! (1 ∷ []) $ rewrite ! 0 (λ (F : V.Denot → M.Denot). ‵ (follows M V γ pair.1.ghost_name F))
          (ap (λ (x' : Option ℕ). with_found r.now x') is_found) refl $
          use1 𝓛 (‵ (LendsPairIf r (gs.key k) (Some pair))) (some_if 𝓛 M V (with_key r.now (gs.key k)) r.now γ pair.1.ghost_name) $
          move ! (2 ∷ []) $ split ! $ keep ! (3 ∷ 0 ∷ 6 ∷ 2 ∷ []) $
          suffices ! _ (ends_at 𝓛 En hs c y (live 1 (of_list (w ∷ []))) (Some pair) (tt, (tt, tt)) (tt, (tt, tt))) $
          nothing ! $ nothing ! $ fjoin ! $ nothing ! $ fjoin ! $ join ! $ nothing ! $ move ! (3 ∷ 0 ∷ []) $ join ! $ move ! (2 ∷ 0 ∷ []) $
          join ! $ join ! $ frame ! $ says ! (sym stands ∙ ap (λ (x' : Option ℕ). option_and_then (slice_get r.now.pairs) x') is_found) $
          done !)),
      ((λ e. absurd (suc-ne-zero 0 e)), (λ n. absurd (n.0.1 refl))),
    )))))))))))))))
