-- `index_into_mut` derefs the value to its content and returns the result of `get_mut` on the
-- content. The proof assumes `Logic`.
use Rattle.ijson_value.proofs.lends.Steps.{◌≡◌, List, [], ◌∷◌, refl, sym, ap, ◌∙◌, MutBor, proved, id⊢, ftrue, flft, named, Val, fact}
use Rattle.ijson_value.proofs.lends.Steps.{fact_i, emp, tables, ‵, raw, ◌⊛◌, ◌$◌, ◌∵◌, !, qed, done, move, keep, use0}
use Rattle.ijson_value.proofs.lends.Steps.{use2, use3, split, join, rewrite, fjoin, suffices, frame, enter, addr, stop}
use Rattle.ijson_value.proofs.lends.Steps.{no_more, and_then, returns, alloc_all, pass_all, free_all, look_at, get, through, sets, lands_as}
use Rattle.ijson_value.proofs.lends.Steps.{no, RattleType, MutRef, mut_vals, mut_Tells, plain, mut_ref_to, nothing, heard}
use Rattle.ijson_value.proofs.lends.Steps.{only, calls_at}
use Rattle.ijson_value.proofs.lends.Steps.{lasts, triple_of, Stays, walk_of, says, stay_dropped, Goes-dropped, Goes-spent_ref, ends_at}
use Rattle.ijson_value.proofs.lends.Steps.{framed, follows}
use mir.MapTy.{inst_fn}
use mir.Syntax.{a_type, dcons, dnil}
use contract.BorrowLft.{◌⊑◌}
use denote.Param.{bounded}
use denote.Param.Laws.{copied_copy, copied_laws, IsCopy}
use Rattle.std.specs.Prelude.{Option, Some, None, OnSome, is_some, option_map}
use Rattle.std.specs.Option.{ghost_name_of}
use Rattle.std.specs.contracts.option.Option.{the_row as OptionOf}
use Rattle.ijson_value.specs.Kind.{kind_of}
use Rattle.ijson_value.specs.LendsInside.{LendsInsideIf}
use Rattle.ijson_value.specs.LendsStep.{LendsStepIf, with_step}
use Rattle.ijson_value.specs.NodeValue.{node_value}
use Rattle.ijson_value.specs.Step.{Step, kind_for, tree_at, tree_with}
use Rattle.ijson_value.specs.Tree.{Tree}
use Rattle.ijson_value.specs.WellFormed.{WellFormed}
use Rattle.ijson_value.specs.laws.Steps.{tree_with_step}
use Rattle.ijson_value.specs.contracts.value.IValue.{the_row as V}
use Rattle.ijson_value.specs.contracts.value.Destructured.{the_row as N}
use Rattle.ijson_value.specs.declared.value.Destructured.{Destructured}
use Rattle.ijson_value.proofs.lends.LentLaws.{value_found_laws}
use Rattle.ijson_value.proofs.lends.Called.{answered}
use Rattle.ijson_value.proofs.lends.LentOn.{then_so}
use Rattle.ijson_value.specs.contracts.value.index.ValueIndex.index_into_mut as f
use Rattle.ijson_value.proofs.value.index.ValueIndex.index_into_mut.Statement.{statement}
use Rattle.ijson_value.proofs.value.index.ValueIndex.index_into_mut.Code as code
use Rattle.ijson_value.specs.contracts.value.index.IValueDerefMut.deref_mut as g
use Rattle.ijson_value.proofs.value.index.IValueDerefMut.deref_mut.Met as g-thm
use Rattle.ijson_value.specs.contracts.value.IValue.get_mut as h
use Rattle.ijson_value.proofs.value.IValue.get_mut.Met as h-thm

-- If the content of the value `r` is `n`, then writing the value at `step` of `n` changes the tree
-- of `r` to `tree_with`.
module _ (r : WellFormed) (n : Destructured) (step : Step) (same : node_value n ≡ r) where
  tree_put : (x : Option (MutBor WellFormed)) → option_map (λ found. found.now.tree) x ≡ tree_at (node_value n).tree step → (w : WellFormed)
      → OnSome x ((node_value (with_step n step w)).tree ≡ tree_with r.tree step w.tree)
  tree_put None is w = tt
  tree_put (Some v) is w =
      tree_with_step n step w (ap (λ (o : Option Tree). is_some o) (sym is)) ∙ ap (λ (v' : WellFormed). tree_with v'.tree step w.tree) same

pub index_into_mut_spec : {M' : Type 1} → statement M'
index_into_mut_spec 𝓤 𝓛 𝓜 𝓡 wired I LI CI gx dx gs ds gc dc mx ms mc =
    let X : RattleType = f.Self-row I in let CX : IsCopy X = copied_copy 0 I CI in
    let En = f.ended I gx dx gs ds gc dc in let inst = bounded (a_type ∷ []) (I, tt) (dcons dx (dcons ds (dcons dc dnil))) in
    let fn = inst_fn inst code.function in
    let c = f.clauses I gx dx gs ds gc dc 𝓛 𝓜.mem 𝓡.returns in
    let hs : Stays En.signature.params En.kept =
    (stay_dropped (plain (λ _. X)) no, (stay_dropped (mut_ref_to (0 ∷ []) tt (plain (λ _. V))) no, tt)) in
    let W = walk_of 𝓛 En hs c in let 𝓣 = tables 𝓤 𝓛.H 𝓜 𝓡 𝓡.env in
    proved 𝓛 En hs c 𝓜 𝓡 (Goes-dropped 𝓛 2 (plain (λ _. X)) no (λ κs x w. refl), (Goes-spent_ref 𝓛 2 (0 ∷ []) tt (plain (λ _. V)), tt))
    (f.Key.name inst) fn (code.unfolded 𝓤 𝓛.H 𝓜 𝓡 wired (I, tt) dx ds dc)
    (λ κs. ((λ x. CX.val x ∷ []), (mut_vals, tt))) (λ κs. (CX.tells, (mut_Tells (named 0) κs.0 V, tt))) (λ κs qs bounds a gh are.
    let κ = κs.0 in let q = qs.0 in let κ' = κs.1.0 in let q' = qs.1.0 in let k = a.0 in let r = a.1.0 in let vs = mut_vals r in
    let ks : List Val = CX.val k ∷ [] in
    let step = gs.step k in let Lent : RattleType = MutRef (named 0) κ V in
    let y : W.Ghost = ((κs, qs, bounds, a, (ks, (vs, tt))), gh) in
    qed 𝓛 (((‵ (flft κ q) ⊛ ‵ (flft κ' q') ⊛ ‵ ftrue) ⊛ ‵ (X.own_val k ks) ⊛ ‵ (Lent.own_val r vs) ⊛ ‵ ftrue) ∷ raw
    (fact 𝓤 (κ' ⊑ I.lives)) ∷ raw (fact 𝓤 (kind_of r.now.tree ≡ kind_for step)) ∷ []) ∵
    move ! (1 ∷ []) $ heard ! _ (λ out. move ! (1 ∷ []) $ heard ! _ (λ kind.
    split ! $ move ! (1 ∷ []) $ split ! $ move ! (1 ∷ []) $ split ! $ keep ! (3 ∷ 2 ∷ 0 ∷ []) $
    -- The proof context is [the tokens; the index; the value].
    enter ! _ _ _ _ _ $ alloc_all ! (λ l. pass_all ! refl ((((copied_laws 0 I LI).lawful 𝓛).typed k ks are.0).0, ((tt, tt), tt)) $
    sets ! (addr ! (through ! refl (stop !))) refl (tt, tt) $
    split ! $ move ! (3 ∷ 0 ∷ []) $
    -- The proof context is [the value; the value's token; the index's token; the index].
    let G = triple_of 𝓛 g.signature (g.spec 𝓛 𝓜.mem 𝓡.returns) in
    let z : G.Ghost = (((κ, tt), (q, tt), tt, (r, tt), (vs, tt)), tt) in
    nothing ! $ move ! (1 ∷ 0 ∷ []) $ join ! $ nothing ! $ move ! (2 ∷ 0 ∷ []) $ join ! $ join ! $ nothing ! $ move ! (1 ∷ 0 ∷ []) $
    use2 𝓛 (raw (G.pre z)) (id⊢ 𝓤 _) $
    calls_at ! (framed 𝓤 𝓛.H 𝓜 𝓣) G (g-thm.met 𝓤 𝓛 𝓜 𝓡 (code.calls-ijson_value::value::index::IValueDerefMut::deref_mut 𝓡.env wired)) z
    (and_then ! (get ! refl) (no_more !)) (λ x.
    answered 𝓛 ! tt (‵ (flft κ q) ⊛ ‵ ftrue) (MutRef (named 0) κ N) x (λ u (ws : Unit {0} × Unit {0}). lasts g.ended (κ, tt) (r, tt) ws)
    (λ u. follows V N r.ghost_name u.ghost_name node_value) (λ u. node_value u.now ≡ r.now) (id⊢ 𝓤 _) (λ u same told. let opened_at =
    mut_Tells (named 0) κ N u (x ∷ []) told in
    lands_as ! (ap only opened_at) refl (tt, tt) $
    rewrite ! 0 (λ (us : List Val). ‵ ((MutRef (named 0) κ N).own_val u us)) opened_at refl $
    move ! (2 ∷ []) $ split ! $ move ! (2 ∷ 2 ∷ []) $
    -- The proof context is [the content; the formula of the value; the content's token; `ftrue`;
    -- the index's token; the index].
    let H = triple_of 𝓛 (h.signature I) (h.spec I gx dx gs ds gc dc 𝓛 𝓜.mem 𝓡.returns) in
    let z' : H.Ghost = ((κs, qs, tt, (u, (k, tt)), (mut_vals u, (ks, tt))), tt) in
    move ! (5 ∷ []) $ nothing ! $ move ! (1 ∷ 0 ∷ []) $ join ! $ move ! (1 ∷ 0 ∷ []) $ join ! $ move ! (2 ∷ 4 ∷ []) $ join ! $ join ! $
    use0 𝓛 (raw (fact 𝓤 (kind_of (node_value u.now).tree ≡ kind_for step)))
    (fact_i 𝓤 (kind_of (node_value u.now).tree ≡ kind_for step) (emp 𝓤) (ap (λ (v : WellFormed). kind_of v.tree) same ∙ kind)) $
    use0 𝓛 (raw (fact 𝓤 (κ' ⊑ I.lives))) (fact_i 𝓤 (κ' ⊑ I.lives) (emp 𝓤) out) $ move ! (2 ∷ 0 ∷ 1 ∷ []) $
    use3 𝓛 (raw (H.pre z')) (id⊢ 𝓤 _) $
    calls_at ! (framed 𝓤 𝓛.H 𝓜 𝓣) H (h-thm.met 𝓤 𝓛 𝓜 𝓡 (code.calls-ijson_value::value::IValue::get_mut 𝓡.env wired) I LI CI gx dx gs ds gc
    dc mx ms mc) z'
    (and_then ! (get ! refl) (and_then ! (get ! refl) (no_more !))) (λ w.
    answered 𝓛 ! tt (‵ (flft κ q) ⊛ ‵ (flft κ' q') ⊛ ‵ ftrue) (OptionOf Lent) w
    (λ o (ws : Unit {0} × (Unit {0} × Unit {0})). lasts (h.ended I gx dx gs ds gc dc) κs (u, (k, tt)) ws) (LendsStepIf u step)
    (λ o. option_map (λ found. found.now.tree) o ≡ tree_at (node_value u.now).tree step) (id⊢ 𝓤 _) (λ o is told'.
    -- The proof context is [the result; the formula of the content; the tokens; the formula of the
    -- value; `ftrue`].
    lands_as ! refl refl (((value_found_laws κ).lawful 𝓛).typed o (w ∷ []) told').0 $
    move ! (3 ∷ 1 ∷ []) $ use2 𝓛 (‵ (LendsInsideIf r step o))
    (then_so 𝓛 V N V node_value (with_step u.now step) u.now (λ w' n. OnSome o (n.tree ≡ tree_with r.now.tree step w'.tree))
    (λ n. n ≡ r.now) (tree_put r.now u.now step same o is) same r.ghost_name u.ghost_name (ghost_name_of o)) $
    returns ! (look_at ! 0 refl) $ free_all ! refl $ keep ! (1 ∷ 2 ∷ 0 ∷ []) $
    suffices ! _ (ends_at 𝓛 En hs c y w o (tt, (tt, tt)) (tt, (tt, tt))) $
    nothing ! $ nothing ! $ fjoin ! $ nothing ! $ fjoin ! $ join ! $ move ! (1 ∷ 0 ∷ []) $ join ! $ frame ! $
    says ! (is ∙ ap (λ (v : WellFormed). tree_at v.tree step) same) $ done !))))))))
