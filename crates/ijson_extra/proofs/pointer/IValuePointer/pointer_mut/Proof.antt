-- `pointer_mut` lends the value itself, or the value inside it that the pointer refers to. Assumes
-- `Logic`.
use Rattle.ijson_value.proofs.lends.Steps.{◌≡◌, ◌∙◌, ℕ, List, [], ◌∷◌, refl, sym, ap, lit<, MutBor, proved, id⊢, emp, ftrue, flft, named}
use Rattle.ijson_value.proofs.lends.Steps.{Val, vptr, fact, fact_i, tables, ‵, raw, ◌⊛◌, at_ret, ◌$◌, ◌∵◌, !, qed, done, move, keep}
use Rattle.ijson_value.proofs.lends.Steps.{use0, use1, use2, split, join, fjoin, feq_l, suffices, frame, enter, lit, addr, says}
use Rattle.ijson_value.proofs.lends.Steps.{stop, no_more, and_then, first, branches, skips, exec, returns, returns_within, alloc_all}
use Rattle.ijson_value.proofs.lends.Steps.{pass_all, free_all, look_at, get, through, sets, lands_as, agg, env, bool, yes, no}
use Rattle.ijson_value.proofs.lends.Steps.{RattleType, MutRef, Bor, mut_vals, mut_Tells, plain, mut_ref_to, nothing, heard, only, live}
use Rattle.ijson_value.proofs.lends.Steps.{lasts, triple_of, Stays, walk_of, stay_dropped, Goes-dropped, Goes-spent_ref, ends_at, framed, follows}
use mathlib.Core.Bool.{true≢false}
use Rattle.std.specs.Prelude.{Option, Some, Bool, ◌↔◌, IsTrue, OnSome}
use Rattle.ijson_value.proofs.lends.LentOn.{itself_so}
use Rattle.ijson_extra.proofs.lends.Mapped.{of_list, Str, StrRefOf, str-laws, str-copy, shr_slice_vals, NamedLft, ghost_name_of, OptionOf, Some-of}
use Rattle.ijson_extra.proofs.lends.Mapped.{node_value, WellFormed, V, N, Destructured, then_such, value_found_laws, finds, maps}
use Rattle.ijson_extra.proofs.lends.Mapped.{opened_laws, bool_laws, truth, falsehood, on_both}
use Rattle.ijson_extra.specs.LendsNamedValue.{LendsPointed}
use Rattle.ijson_extra.specs.Pointer.{resolved_with}
use Rattle.ijson_extra.specs.private.Walked.{LendsNamedInside, node_tree, tree_lent, found_at}
use Rattle.ijson_extra.specs.contracts.pointer.IValuePointer.pointer_mut as f
use Rattle.ijson_extra.proofs.pointer.IValuePointer.pointer_mut.Statement.{statement}
use Rattle.ijson_extra.proofs.pointer.IValuePointer.pointer_mut.Code as code
use Rattle.ijson_extra.specs.contracts.pointer.lend.names_itself as g
use Rattle.ijson_extra.proofs.pointer.lend.names_itself.Met as g-thm
use Rattle.ijson_extra.specs.contracts.pointer.lend.opened as o
use Rattle.ijson_extra.proofs.pointer.lend.opened.Met as o-thm
use Rattle.ijson_extra.specs.contracts.pointer.lend.inside as h
use Rattle.ijson_extra.proofs.pointer.lend.inside.Met as h-thm

abbrev stayed : Stays f.ended.signature.params f.ended.kept
stayed = (stay_dropped (mut_ref_to (0 ∷ []) tt (plain (λ _. V))) no, (stay_dropped (StrRefOf (1 ∷ []) tt) yes, tt))

pub pointer_mut_spec : {M' : Type 1} → statement M'
pointer_mut_spec 𝓤 𝓛 𝓜 𝓡 wired =
    let c = f.clauses 𝓛 𝓜.mem 𝓡.returns in let W = walk_of 𝓛 f.ended stayed c in let 𝓣 = tables 𝓤 𝓛.H 𝓜 𝓡 𝓡.env in
    proved 𝓛 f.ended stayed c 𝓜 𝓡
    (Goes-spent_ref 𝓛 2 (0 ∷ []) tt (plain (λ _. V)), (Goes-dropped 𝓛 2 (StrRefOf (1 ∷ []) tt) yes (λ κs x w. refl), tt))
    f.Key.name code.function (code.unfolded 𝓤 𝓛.H 𝓜 𝓡 wired)
    (λ κs. (mut_vals, (shr_slice_vals, tt)))
    (λ κs. (mut_Tells (named 0) κs.0 V, ((str-laws (record { mir = named 1; lft = κs.1.0 })).tells, tt))) (λ κs qs bounds a gh are.
    let κ = κs.0 in let q = qs.0 in let κ' = κs.1.0 in let q' = qs.1.0 in let r = a.0 in let p : Bor (List ℕ) = a.1.0 in
    let vs = mut_vals r in let ps : List Val = shr_slice_vals p in
    let S : RattleType = Str (named 1) κ' in let at : NamedLft = record { mir = named 1; lft = κ' } in
    let Lent : RattleType = MutRef (named 0) κ V in
    let P = λ (w n : WellFormed). n.tree ≡ resolved_with r.now.tree p.now w.tree in let P₀ = λ (n : WellFormed). n.tree ≡ r.now.tree in
    let y : W.Ghost = ((κs, qs, bounds, a, (vs, (ps, tt))), gh) in
    qed 𝓛 (((‵ (flft κ q) ⊛ ‵ (flft κ' q') ⊛ ‵ ftrue) ⊛ ‵ (Lent.own_val r vs) ⊛ ‵ (S.own_val p ps) ⊛ ‵ ftrue) ∷ ‵ ftrue ∷ []) ∵
    split ! $ split ! $ move ! (1 ∷ []) $ split ! $ move ! (3 ∷ []) $ split ! $ move ! (1 ∷ []) $ split ! $ keep ! (2 ∷ 5 ∷ 3 ∷ 0 ∷ []) $
    enter ! _ _ _ _ _ $ alloc_all ! (λ l. pass_all ! refl ((tt, tt), ((((str-laws at).lawful 𝓛).typed p ps are.1.0).0, tt)) $
    -- The context: the value, its lifetime token, the lifetime token of the pointer, the pointer.
    move ! (3 ∷ []) $ use1 𝓛 (‵ (S.own_val p ps) ⊛ ‵ (S.own_val p ps)) (((str-copy at).copies _ 𝓤 𝓛).twice p ps) $ split ! $
    let G = triple_of 𝓛 g.signature (g.spec 𝓛 𝓜.mem 𝓡.returns) in
    let z : G.Ghost = (((κ', tt), (q', tt), tt, (p, tt), (ps, tt)), tt) in
    move ! (0 ∷ 4 ∷ []) $ maps 𝓛 ! κ' q' (framed 𝓤 𝓛.H 𝓜 𝓣) G
    (g-thm.met 𝓤 𝓛 𝓜 𝓡 (code.calls-ijson_extra::pointer::lend::names_itself 𝓡.env wired)) z bool bool_laws (S.own_val p ps) (id⊢ 𝓤 _) (and_then ! (get ! refl) (no_more !)) (λ t (ends : Unit {0} × Unit {0}). lasts g.ended (κ', tt) (p, tt) ends)
    (λ (t : Bool). raw (fact 𝓤 (IsTrue t ↔ (p.now ≡ [])))) (λ v. id⊢ 𝓤 _) (λ v t _. heard ! _ (λ said. feq_l ! (λ is.
    lands_as ! (ap only is) refl (tt, tt) $
    -- The context: the lifetime token of the pointer, the pointer, the value, its lifetime token.
    first ! $ branches ! (get ! refl)
    (λ itself. let empty = sym (said.0 (truth t itself)) in let ptr : Val = vptr r.ref_ptr.0 r.ref_ptr.1 in
    sets ! (addr ! (through ! refl (stop !))) refl (tt, tt) $
    sets ! (agg ! (and_then ! (lit ! tt) (and_then ! (get ! refl) (no_more !)))) refl (tt, (record { fits = lit< tt }, (tt, tt))) $
    returns_within ! (W.post y) refl (look_at ! 0 refl) $ free_all ! refl $ keep ! (2 ∷ 3 ∷ 0 ∷ []) $
    use1 𝓛 (‵ ((OptionOf Lent).own_val (Some r) (live 1 (of_list (ptr ∷ [])) ∷ []))) (Some-of 𝓛 Lent r ptr) $
    use0 𝓛 (‵ (LendsPointed V (λ w. w.tree) r p.now (Some r)))
    (itself_so 𝓛 V r.ghost_name r.now P P₀ (λ w. ap (λ x. resolved_with r.now.tree x w.tree) empty) refl) $ move ! (1 ∷ 2 ∷ 3 ∷ 0 ∷ []) $
    suffices ! _ (ends_at 𝓛 f.ended stayed c y (live 1 (of_list (ptr ∷ []))) (Some r) (tt, (tt, tt)) (tt, (tt, tt))) $
    nothing ! $ nothing ! $ fjoin ! $ nothing ! $ fjoin ! $ join ! $ nothing ! $ move ! (3 ∷ 0 ∷ []) $ join ! $ move ! (2 ∷ 0 ∷ []) $
    join ! $ join ! $ frame ! $ says ! (ap (found_at r.now.tree) empty) $ done !)
    (λ other. skips ! $ exec ! 𝓣.C 𝓣.Λ (env code.Mir.locals l) code.Mir.t-3 (at_ret (env code.Mir.locals l) (W.post y)) $
    sets ! (addr ! (through ! refl (stop !))) refl (tt, tt) $
    let O = triple_of 𝓛 o.signature (o.spec 𝓛 𝓜.mem 𝓡.returns) in
    let z₂ : O.Ghost = (((κ, tt), (q, tt), tt, (r, tt), (vs, tt)), tt) in
    move ! (2 ∷ 3 ∷ []) $ maps 𝓛 ! κ q (framed 𝓤 𝓛.H 𝓜 𝓣) O
    (o-thm.met 𝓤 𝓛 𝓜 𝓡 (code.calls-ijson_extra::pointer::lend::opened 𝓡.env wired)) z₂ (MutRef (named 0) κ N) (opened_laws κ)
    (Lent.own_val r vs) (id⊢ 𝓤 _) (and_then ! (get ! refl) (no_more !))
    (λ u (ends : Unit {0} × Unit {0}). lasts o.ended (κ, tt) (r, tt) ends)
    (λ (u : MutBor Destructured). ‵ (follows V N r.ghost_name u.ghost_name node_value) ⊛ raw (fact 𝓤 (node_value u.now ≡ r.now)))
    (λ x. id⊢ 𝓤 _) (λ x u typed. lands_as ! refl refl typed.0 $ split ! $ move ! (1 ∷ []) $
    heard ! _ (λ e. let same = ap (λ (w : WellFormed). w.tree) e in
    -- The context: the formula of the value, its content, the lifetime token of the content, the
    -- lifetime token of the pointer, the pointer.
    let H = triple_of 𝓛 h.signature (h.spec 𝓛 𝓜.mem 𝓡.returns) in
    let z₃ : H.Ghost = ((κs, qs, tt, (u, (p, tt)), ((x ∷ []), (ps, tt))), tt) in
    move ! (1 ∷ 4 ∷ 2 ∷ 3 ∷ []) $ finds 𝓛 ! κ q (framed 𝓤 𝓛.H 𝓜 𝓣) H
    (h-thm.met 𝓤 𝓛 𝓜 𝓡 (code.calls-ijson_extra::pointer::lend::inside 𝓡.env wired)) z₃ (OptionOf Lent) (value_found_laws κ) κ' q'
    ((MutRef (named 0) κ N).own_val u (x ∷ [])) (S.own_val p ps) (raw (fact 𝓤 (p.now ≡ [] → ⊥)))
    (fact_i 𝓤 (p.now ≡ [] → ⊥) (emp 𝓤) (λ empty. true≢false (sym (said.1 empty) ∙ falsehood t other))) (id⊢ 𝓤 _)
    (and_then ! (get ! refl) (and_then ! (get ! refl) (no_more !)))
    (λ (ends : Unit {0} × (Unit {0} × Unit {0})). lasts h.ended κs (u, (p, tt)) ends) (LendsNamedInside u p.now)
    (λ (x' : Option (MutBor WellFormed)). raw (fact 𝓤 (tree_lent x' ≡ found_at (node_tree u.now) p.now))) (λ w. id⊢ 𝓤 _)
    (λ w x' typed'. heard ! _ (λ found. lands_as ! refl refl typed'.0 $ returns ! (look_at ! 0 refl) $ free_all ! refl $
    -- The context: the result, the formula of the content, its lifetime token, the lifetime token
    -- of the pointer, the formula of the value.
    move ! (4 ∷ 1 ∷ []) $ use2 𝓛 (‵ (LendsPointed V (λ w'. w'.tree) r p.now x'))
    (then_such 𝓛 V N V node_value (λ w' n. OnSome x' (node_tree n ≡ resolved_with (node_tree u.now) p.now w'.tree))
    (λ n. node_tree n ≡ node_tree u.now) (λ w' n. OnSome x' (P w' n)) P₀
    (λ w' n k. on_both x' (λ put. put ∙ ap (λ t'. resolved_with t' p.now w'.tree) same) k) (λ n k. k ∙ same) r.ghost_name
    u.ghost_name (ghost_name_of x')) $
    move ! (3 ∷ []) $ split ! $ keep ! (3 ∷ 4 ∷ 0 ∷ 2 ∷ []) $
    suffices ! _ (ends_at 𝓛 f.ended stayed c y w x' (tt, (tt, tt)) (tt, (tt, tt))) $
    nothing ! $ nothing ! $ fjoin ! $ nothing ! $ fjoin ! $ join ! $ nothing ! $ move ! (3 ∷ 0 ∷ []) $ join ! $ move ! (2 ∷ 0 ∷ []) $
    join ! $ join ! $ frame ! $ says ! (found ∙ ap (λ t'. found_at t' p.now) same) $ done !))))))))))
