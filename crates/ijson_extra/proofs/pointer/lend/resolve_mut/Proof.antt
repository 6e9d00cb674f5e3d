-- `resolve_mut` lends the value that the pointer refers to. Assumes `Logic`.
use Rattle.ijson_value.proofs.lends.Steps.{◌≡◌, ◌∙◌, ℕ, List, [], ◌∷◌, refl, sym, ap, lit<, MutBor, proved, id⊢, ftrue, flft, named}
use Rattle.ijson_value.proofs.lends.Steps.{Val, fact, tables, ‵, raw, ◌⊛◌, at_ret, ◌$◌, ◌∵◌, !, qed, done, move, keep}
use Rattle.ijson_value.proofs.lends.Steps.{use0, use1, split, join, fsplit3, fjoin, feq_l, suffices, frame, enter, lit, addr}
use Rattle.ijson_value.proofs.lends.Steps.{stop, no_more, and_then, first, branches, skips, exec, returns, returns_within, alloc_all, fres}
use Rattle.ijson_value.proofs.lends.Steps.{pass_all, free_all, look_at, get, through, sets, lands_as, agg, env, bool, yes, no}
use Rattle.ijson_value.proofs.lends.Steps.{RattleType, MutRef, Bor, mut_vals, mut_Tells, plain, mut_ref_to, nothing, heard, only, live}
use Rattle.ijson_value.proofs.lends.Steps.{lasts, triple_of, Stays, walk_of, stay_dropped, Goes-dropped, Goes-spent_ref, ends_at, framed}
use Rattle.std.specs.Prelude.{Option, Ok, Err, Bool, is_some}
use Rattle.std.specs.contracts.result.Result.{the_row as ResultOf}
use Rattle.std.proofs.result.Made.{Ok-of, Err-of}
use Rattle.ijson_value.proofs.lends.LentOn.{none_so}
use Rattle.ijson_value.proofs.lends.Variants.{and_tt, variant_made}
use Rattle.ijson_extra.proofs.lends.Mapped.{of_list, Str, StrRefOf, str-laws, str-copy, shr_slice_vals, NamedLft, OptionOf, WellFormed, V, says_two}
use Rattle.ijson_extra.proofs.lends.Mapped.{value_found_laws, finds, maps, no_need, bool_laws, truth, falsehood}
use Rattle.ijson_extra.proofs.tokens.Walked.{named_found, not_named_none}
use Rattle.ijson_extra.specs.LendsNamedValue.{LendsNamedValue, LendsPointed, IfLent}
use Rattle.ijson_extra.specs.Pointer.{tokens_of, resolved_with}
use Rattle.ijson_extra.specs.private.Walked.{tree_lent, found_at}
use Rattle.ijson_extra.specs.contracts.pointer.PointerError.{the_row as E}
use Rattle.ijson_extra.specs.declared.pointer.PointerError.TheVariants.{Syntax}
use Rattle.ijson_extra.specs.contracts.pointer.lend.resolve_mut as f
use Rattle.ijson_extra.proofs.pointer.lend.resolve_mut.Statement.{statement}
use Rattle.ijson_extra.proofs.pointer.lend.resolve_mut.Code as code
use Rattle.ijson_extra.specs.contracts.pointer.lend.is_pointer as g
use Rattle.ijson_extra.proofs.pointer.lend.is_pointer.Met as g-thm
use Rattle.ijson_extra.specs.contracts.pointer.IValuePointer.pointer_mut as h
use Rattle.ijson_extra.proofs.pointer.IValuePointer.pointer_mut.Met as h-thm

abbrev stayed : Stays f.ended.signature.params f.ended.kept
stayed = (stay_dropped (mut_ref_to (0 ∷ []) tt (plain (λ _. V))) no, (stay_dropped (StrRefOf (1 ∷ []) tt) yes, tt))

pub resolve_mut_spec : {M : Type 1} → statement M
resolve_mut_spec 𝓤 𝓛 𝓜 𝓡 wired =
    let c = f.clauses 𝓛 𝓜.mem 𝓡.returns in let W = walk_of 𝓛 f.ended stayed c in let 𝓣 = tables 𝓤 𝓛.H 𝓜 𝓡 𝓡.env in
    proved 𝓛 f.ended stayed c 𝓜 𝓡
    (Goes-spent_ref 𝓛 2 (0 ∷ []) tt (plain (λ _. V)), (Goes-dropped 𝓛 2 (StrRefOf (1 ∷ []) tt) yes (λ κs x w. refl), tt))
    f.Key.name code.function (code.unfolded 𝓤 𝓛.H 𝓜 𝓡 wired)
    (λ κs. (mut_vals, (shr_slice_vals, tt)))
    (λ κs. (mut_Tells (named 0) κs.0 V, ((str-laws (record { mir = named 1; lft = κs.1.0 })).tells, tt))) (λ κs qs bounds a gh are.
    let κ = κs.0 in let q = qs.0 in let κ' = κs.1.0 in let q' = qs.1.0 in let r = a.0 in let p : Bor (List ℕ) = a.1.0 in
    let vs = mut_vals r in let ps : List Val = shr_slice_vals p in
    let S : RattleType = Str (named 1) κ' in let at : NamedLft = record { mir = named 1; lft = κ' } in
    let Lent : RattleType = MutRef (named 0) κ V in
    let Out : RattleType = ResultOf (OptionOf Lent) E in
    let y : W.Ghost = ((κs, qs, bounds, a, (vs, (ps, tt))), gh) in
    qed 𝓛 (((‵ (flft κ q) ⊛ ‵ (flft κ' q') ⊛ ‵ ftrue) ⊛ ‵ (Lent.own_val r vs) ⊛ ‵ (S.own_val p ps) ⊛ ‵ ftrue) ∷ ‵ ftrue ∷ []) ∵
    split ! $ split ! $ move ! (1 ∷ []) $ split ! $ move ! (3 ∷ []) $ split ! $ move ! (1 ∷ []) $ split ! $ keep ! (2 ∷ 5 ∷ 3 ∷ 0 ∷ []) $
    enter ! _ _ _ _ _ $ alloc_all ! (λ l. pass_all ! refl ((tt, tt), ((((str-laws at).lawful 𝓛).typed p ps are.1.0).0, tt)) $
    -- The context: the value, its lifetime token, the lifetime token of the pointer, the pointer.
    move ! (3 ∷ []) $ use1 𝓛 (‵ (S.own_val p ps) ⊛ ‵ (S.own_val p ps)) (((str-copy at).copies _ 𝓤 𝓛).twice p ps) $ split ! $
    let G = triple_of 𝓛 g.signature (g.spec 𝓛 𝓜.mem 𝓡.returns) in
    let z : G.Ghost = (((κ', tt), (q', tt), tt, (p, tt), (ps, tt)), tt) in
    move ! (0 ∷ 4 ∷ []) $ maps 𝓛 ! κ' q' (framed 𝓤 𝓛.H 𝓜 𝓣) G
    (g-thm.met 𝓤 𝓛 𝓜 𝓡 (code.calls-ijson_extra::pointer::lend::is_pointer 𝓡.env wired)) z bool bool_laws (S.own_val p ps) (id⊢ 𝓤 _) (and_then ! (get ! refl) (no_more !)) (λ t (ends : Unit {0} × Unit {0}). lasts g.ended (κ', tt) (p, tt) ends)
    (λ (t : Bool). raw (fact 𝓤 (t ≡ is_some (tokens_of p.now)))) (λ v. id⊢ 𝓤 _) (λ v t _. heard ! _ (λ said. feq_l ! (λ is.
    lands_as ! (ap only is) refl (tt, tt) $
    -- The context: the lifetime token of the pointer, the pointer, the value, its lifetime token.
    first ! $ branches ! (get ! refl)
    (λ good. sets ! (addr ! (through ! refl (stop !))) refl (tt, tt) $
    let H = triple_of 𝓛 h.signature (h.spec 𝓛 𝓜.mem 𝓡.returns) in
    let z' : H.Ghost = ((κs, qs, tt, (r, (p, tt)), (vs, (ps, tt))), tt) in
    move ! (2 ∷ 1 ∷ 3 ∷ 0 ∷ []) $ finds 𝓛 ! κ q (framed 𝓤 𝓛.H 𝓜 𝓣) H
    (h-thm.met 𝓤 𝓛 𝓜 𝓡 (code.calls-ijson_extra::pointer::IValuePointer::pointer_mut 𝓡.env wired)) z' (OptionOf Lent) (value_found_laws κ)
    κ' q' (Lent.own_val r vs) (S.own_val p ps) (‵ ftrue) (no_need 𝓛) (id⊢ 𝓤 _)
    (and_then ! (get ! refl) (and_then ! (get ! refl) (no_more !)))
    (λ (ends : Unit {0} × (Unit {0} × Unit {0})). lasts h.ended κs (r, (p, tt)) ends) (LendsPointed V (λ w. w.tree) r p.now)
    (λ (o : Option (MutBor WellFormed)). raw (fact 𝓤 (tree_lent o ≡ found_at r.now.tree p.now))) (λ w. id⊢ 𝓤 _)
    (λ w o typed. heard ! _ (λ found. lands_as ! refl refl typed.0 $
    sets ! (agg ! (and_then ! (lit ! tt) (and_then ! (get ! refl) (no_more !)))) refl
    (and_tt _ typed.0.0, (record { fits = lit< tt }, (typed.0.1, tt))) $
    returns_within ! (W.post y) refl (look_at ! 0 refl) $ free_all ! refl $
    -- The context: the result, the formula of the value, its lifetime token, the lifetime token of
    -- the pointer.
    use1 𝓛 (‵ (Out.own_val (Ok o) (live 0 (of_list (w ∷ [])) ∷ []))) (Ok-of 𝓛 (OptionOf Lent) E o w) $
    move ! (3 ∷ []) $ split ! $ keep ! (2 ∷ 4 ∷ 0 ∷ 3 ∷ []) $
    suffices ! _ (ends_at 𝓛 f.ended stayed c y (live 0 (of_list (w ∷ []))) (Ok o) (tt, (tt, tt)) (tt, (tt, tt))) $
    nothing ! $ nothing ! $ fjoin ! $ nothing ! $ fjoin ! $ join ! $ nothing ! $ move ! (3 ∷ 0 ∷ []) $ join ! $ move ! (2 ∷ 0 ∷ []) $
    join ! $ join ! $ frame ! $ says_two ! (named_found r.now.tree (tokens_of p.now) (tree_lent o) (sym said ∙ truth t good) found, tt) $ done !)))
    (λ bad. skips ! $ exec ! 𝓣.C 𝓣.Λ (env code.Mir.locals l) code.Mir.t-3 (at_ret (env code.Mir.locals l) (W.post y)) $
    sets ! (agg ! (and_then ! (lit ! tt) (no_more !))) refl (tt, (record { fits = lit< tt }, tt)) $
    sets ! (agg ! (and_then ! (lit ! tt) (and_then ! (get ! refl) (no_more !)))) refl
    (tt, (record { fits = lit< tt }, ((record { fits = lit< tt }, tt), tt))) $
    returns ! (look_at ! 0 refl) $ free_all ! refl $ keep ! (2 ∷ 3 ∷ 0 ∷ []) $ fsplit3 ! $ keep ! (1 ∷ 3 ∷ 4 ∷ []) $
    let syn : Val = live 0 (of_list []) in
    use1 𝓛 (‵ (fres r.ghost_name (V.coded.code r.now))) (𝓛.names.obs-res r.ghost_name (V.coded.code r.now)) $
    use1 𝓛 (‵ (LendsNamedValue r p.now (Err Syntax)))
    (none_so 𝓛 V V r.ghost_name r.now (λ w. w) (λ w n. IfLent (Err Syntax) (n.tree ≡ resolved_with r.now.tree p.now w.tree))
    (λ n. n.tree ≡ r.now.tree) (λ w. tt) refl) $
    use0 𝓛 (‵ (E.own_val Syntax (syn ∷ []))) (variant_made 𝓛 0 [] tt tt) $
    use1 𝓛 (‵ (Out.own_val (Err Syntax) (live 1 (of_list (syn ∷ [])) ∷ []))) (Err-of 𝓛 (OptionOf Lent) E Syntax syn) $
    move ! (0 ∷ 2 ∷ 3 ∷ 1 ∷ []) $
    suffices ! _ (ends_at 𝓛 f.ended stayed c y (live 1 (of_list (syn ∷ []))) (Err Syntax) (tt, (tt, tt)) (tt, (tt, tt))) $
    nothing ! $ nothing ! $ fjoin ! $ nothing ! $ fjoin ! $ join ! $ nothing ! $ move ! (3 ∷ 0 ∷ []) $ join ! $ move ! (2 ∷ 0 ∷ []) $
    join ! $ join ! $ frame ! $ says_two ! (tt, not_named_none r.now.tree (tokens_of p.now) (sym said ∙ falsehood t bad)) $ done !))))))
