-- A caller that writes to the part at one step inside a value. Assumes `Logic`.
use Rattle.ijson_value.proofs.lends.Steps.{◌≡◌, ℕ, List, [], ◌∷◌, refl, ap, ◌∙◌, MutBor, proved, full_share, id⊢, Lft, ftrue, flft}
use Rattle.ijson_value.proofs.lends.Steps.{named, Val, vunit, emp, fact, fact_i, tables, ‵, raw, ◌⊛◌, ◌$◌, ◌∵◌, !, qed, done, move, keep}
use Rattle.ijson_value.proofs.lends.Steps.{use0, split, join, feq_i, suffices, frame, enter, of_opd, addr, unit_lit, stop, no_more}
use Rattle.ijson_value.proofs.lends.Steps.{and_then, returns, alloc_all, pass_all, free_all, look_at, get, through, sets, lands_as, env, no}
use Rattle.ijson_value.proofs.lends.Steps.{RattleType, MutRef, mut_vals, mut_Tells, plain, nothing, heard, lasts, triple_of, Stays, walk_of}
use Rattle.ijson_value.proofs.lends.Steps.{stay_dropped, stay_ref, Goes-dropped, Goes-ref, ends_at, framed}
use mir.MapTy.{inst_fn}
use mir.Syntax.{a_type, dcons, dnil}
use contract.BorrowLft.{◌⊑◌}
use denote.Param.{bounded}
use denote.Param.Laws.{copied_copy, copied_laws, IsCopy}
use Rattle.std.specs.Prelude.{Option, None, Some, true, IsSome, IfSome, OnSome, option_map}
use Rattle.ijson_value.specs.Kind.{kind_of}
use Rattle.ijson_value.specs.LendsInside.{LendsInsideIf}
use Rattle.ijson_value.specs.Step.{Step, kind_for, tree_at, tree_with}
use Rattle.ijson_value.specs.Tree.{boolean}
use Rattle.ijson_value.specs.Values.{boolean_value}
use Rattle.ijson_extra.proofs.lends.Mapped.{ghost_name_of, OptionOf, says_two, WellFormed, V, lent, value_found_laws, finds, maps}
use Rattle.ijson.proofs.test_lemmas.LentPart.{Left, written_back}
use Rattle.ijson.specs.contracts.tests.pointer.lent.set_inside as f
use Rattle.ijson.proofs.tests.pointer.lent.set_inside.Statement.{statement}
use Rattle.ijson.proofs.tests.pointer.lent.set_inside.Code as code
use Rattle.ijson_value.specs.contracts.value.index.ValueIndex.index_into_mut as g
use Rattle.ijson_value.proofs.value.index.ValueIndex.index_into_mut.Met as g-thm
use Rattle.ijson.specs.contracts.tests.pointer.lent.put_found as h
use Rattle.ijson.proofs.tests.pointer.lent.put_found.Met as h-thm

abbrev P : WellFormed → Step → Option (MutBor WellFormed) → WellFormed → WellFormed → Type 0
P v step x w n = OnSome x (n.tree ≡ tree_with v.tree step w.tree)

-- The part at `step` is `true`, or the value is unchanged if the part does not exist.
there : (v n : WellFormed) (step : Step) (x o : Option (MutBor WellFormed)) → option_map (λ found. found.now.tree) x ≡ tree_at v.tree step
    → ghost_name_of x ≡ ghost_name_of o → IfSome o (λ place. place.now ≡ boolean_value true) → Left (P v step x) (λ u. u ≡ v) o n
    → (IsSome (tree_at v.tree step) → n.tree ≡ tree_with v.tree step (boolean true)) × (tree_at v.tree step ≡ None → n ≡ v)
there v n step None None at same put is = ((λ found. absurd (cc)), λ none. is)
there v n step None (Some o) at same put is = absurd (cc)
there v n step (Some x) None at same put is = absurd (cc)
there v n step (Some x) (Some o) at same put is =
    ((λ found. is ∙ ap (λ (u : WellFormed). tree_with v.tree step u.tree) put), λ none. absurd (cc))

pub set_inside_spec : {M' : Type 1} → statement M'
set_inside_spec 𝓤 𝓛 𝓜 𝓡 wired I LI CI gx dx gs ds gc dc mx ms mc =
    let X : RattleType = f.I-row I in let CX : IsCopy X = copied_copy 0 I CI in
    let En = f.ended I gx dx gs ds gc dc in let inst = bounded (a_type ∷ []) (I, tt) (dcons dx (dcons ds (dcons dc dnil))) in
    let fn = inst_fn inst code.function in let c = f.clauses I gx dx gs ds gc dc 𝓛 𝓜.mem 𝓡.returns in
    let hs : Stays En.signature.params En.kept = (stay_ref (0 ∷ []) tt (plain (λ _. V)), (stay_dropped (plain (λ _. X)) no, tt)) in
    let W = walk_of 𝓛 En hs c in let 𝓣 = tables 𝓤 𝓛.H 𝓜 𝓡 𝓡.env in
    proved 𝓛 En hs c 𝓜 𝓡 (Goes-ref 𝓛 2 0 tt (plain (λ _. V)), (Goes-dropped 𝓛 2 (plain (λ _. X)) no (λ κs x w. refl), tt))
    (f.Key.name inst) fn (code.unfolded 𝓤 𝓛.H 𝓜 𝓡 wired (I, tt) dx ds dc)
    (λ κs. (mut_vals, ((λ x. CX.val x ∷ []), tt))) (λ κs. (mut_Tells (named 0) κs.0 V, (CX.tells, tt))) (λ κs qs bounds a gh are.
    let κ = κs.0 in let q = qs.0 in let κ' = κs.1.0 in let q' = qs.1.0 in let r = a.0 in let k = a.1.0 in
    let vs = mut_vals r in let ks : List Val = CX.val k ∷ [] in let step = gs.step k in
    let y : W.Ghost = ((κs, qs, bounds, a, (vs, (ks, tt))), gh) in
    let Ref = λ (β : List ℕ) (x : MutBor WellFormed). (MutRef (named 0) β V).own_val x vs in
    qed 𝓛 (((‵ (flft κ q) ⊛ ‵ (flft κ' q') ⊛ ‵ ftrue) ⊛ ‵ (Ref κ r) ⊛ ‵ (X.own_val k ks) ⊛ ‵ ftrue) ∷ raw (fact 𝓤 (κ' ⊑ I.lives)) ∷ raw
    (fact 𝓤 (kind_of r.now.tree ≡ kind_for step)) ∷ []) ∵
    move ! (1 ∷ []) $ heard ! _ (λ out. move ! (1 ∷ []) $ heard ! _ (λ kind.
    split ! $ split ! $ move ! (1 ∷ []) $ split ! $ move ! (3 ∷ []) $ split ! $ move ! (1 ∷ []) $ split ! $ keep ! (2 ∷ 5 ∷ 3 ∷ 0 ∷ []) $
    enter ! _ _ _ _ _ $ alloc_all ! (λ l. pass_all ! refl ((tt, tt), ((((copied_laws 0 I LI).lawful 𝓛).typed k ks are.1.0).0, tt)) $
    -- The context: the value, its lifetime token, the lifetime token of the index, the index.
    sets ! (addr ! (through ! refl (stop !))) refl (tt, tt) $
    lent 𝓛 ! tt V κ q r (λ α δ. let β : Lft = α ∷ [] in
    -- The context: the loan, what the lender keeps, the lifetime token of `α`, the lifetime token
    -- of the index, the index.
    let r' : MutBor WellFormed = record r { ghost_name = δ } in let Found = OptionOf (MutRef (named 0) β V) in
    let G = triple_of 𝓛 (g.signature I) (g.spec I gx dx gs ds gc dc 𝓛 𝓜.mem 𝓡.returns) in
    let z : G.Ghost = (((β, (κ', tt)), (full_share, (q', tt)), tt, (k, (r', tt)), (ks, (vs, tt))), tt) in
    move ! (4 ∷ 0 ∷ 2 ∷ 3 ∷ []) $ finds 𝓛 ! β full_share (framed 𝓤 𝓛.H 𝓜 𝓣) G
    (g-thm.met 𝓤 𝓛 𝓜 𝓡 (code.calls-ijson_value::value::index::ValueIndex::index_into_mut 𝓡.env wired) I LI CI gx dx gs ds gc dc mx ms mc) z
    Found (value_found_laws β) κ' q' (X.own_val k ks) (Ref β r')
    (raw (fact 𝓤 (κ' ⊑ I.lives)) ⊛ raw (fact 𝓤 (kind_of r.now.tree ≡ kind_for step)))
    (qed 𝓛 [] ∵ use0 𝓛 (raw (fact 𝓤 (kind_of r.now.tree ≡ kind_for step))) (fact_i 𝓤 _ (emp 𝓤) kind) $
    use0 𝓛 (raw (fact 𝓤 (κ' ⊑ I.lives))) (fact_i 𝓤 _ (emp 𝓤) out) $ join ! $ done !) (id⊢ 𝓤 _)
    (and_then ! (get ! refl) (and_then ! (get ! refl) (no_more !)))
    (λ (ws : Unit {0} × (Unit {0} × Unit {0})). lasts (g.ended I gx dx gs ds gc dc) (β, (κ', tt)) (k, (r', tt)) ws) (LendsInsideIf r' step)
    (λ (x : Option (MutBor WellFormed)). raw (fact 𝓤 (option_map (λ found. found.now.tree) x ≡ tree_at r.now.tree step))) (λ v. id⊢ 𝓤 _)
    (λ v x typed. lands_as ! refl refl typed.0 $ heard ! _ (λ at.
    -- The context: the part, the formula of the loan, the lifetime token of `α`, the lifetime token
    -- of the index, what the lender keeps.
    let H = triple_of 𝓛 h.signature (h.spec 𝓛 𝓜.mem 𝓡.returns) in
    let z' : H.Ghost = (((β, tt), (full_share, tt), tt, (x, tt), ((v ∷ []), tt)), tt) in
    move ! (0 ∷ 2 ∷ []) $ maps 𝓛 ! β full_share (framed 𝓤 𝓛.H 𝓜 𝓣) H
    (h-thm.met 𝓤 𝓛 𝓜 𝓡 (code.calls-ijson::tests::pointer::lent::put_found 𝓡.env wired)) z' Found (value_found_laws β)
    (Found.own_val x (v ∷ [])) (id⊢ 𝓤 _) (and_then ! (get ! refl) (no_more !)) (λ o ws. lasts h.ended (β, tt) (x, tt) ws)
    (λ o. raw (fact 𝓤 (ghost_name_of x ≡ ghost_name_of o)) ⊛ raw (fact 𝓤 (IfSome o (λ place. place.now ≡ boolean_value true)))) (λ w. id⊢ 𝓤 _)
    (λ w o typed. split ! $ heard ! _ (λ same. heard ! _ (λ put. lands_as ! refl refl typed.0 $
    written_back 𝓛 V (P r.now step x) (λ n. n ≡ r.now) ! tt κ q r α δ (ghost_name_of x) o (w ∷ []) (‵ (flft κ' q') ⊛ ‵ ftrue) same (λ n is.
    sets ! (of_opd ! (unit_lit !)) refl (tt, tt) $ returns ! (look_at ! 0 refl) $ free_all ! refl $
    suffices ! _ (ends_at 𝓛 En hs c y vunit tt (n, (tt, tt)) (tt, (tt, tt))) $ says_two ! (there r.now n step x o at same put is) $
    nothing ! $ nothing ! $ join ! $ move ! (1 ∷ 0 ∷ []) $ join ! $ move ! (1 ∷ 2 ∷ []) $ join ! $ frame ! $ frame ! $
    feq_i ! _ (vunit ∷ []) _ refl $ done !)))))))))))
