-- `index_into_mut` returns the result of `get_key_value_mut`. The proof assumes `Logic`.
use Rattle.ijson_value.proofs.lends.Steps.{◌≡◌, List, [], ◌∷◌, refl, proved, id⊢, ftrue, flft, named, Val, fact, fact_i}
use Rattle.ijson_value.proofs.lends.Steps.{emp, tables, ‵, raw, ◌⊛◌, ◌$◌, ◌∵◌, !, qed, done, move, keep, use0}
use Rattle.ijson_value.proofs.lends.Steps.{use3, split, join, fjoin, suffices, frame, enter, addr, stop, no_more, and_then}
use Rattle.ijson_value.proofs.lends.Steps.{returns, alloc_all, pass_all, free_all, look_at, get, through, sets, lands_as, no}
use Rattle.ijson_value.proofs.lends.Steps.{RattleType, MutRef, mut_vals, mut_Tells, plain, mut_ref_to, nothing, heard}
use Rattle.ijson_value.proofs.lends.Steps.{calls_at, lasts, triple_of}
use Rattle.ijson_value.proofs.lends.Steps.{Stays, walk_of, says, stay_dropped, Goes-dropped, Goes-spent_ref, ends_at, framed}
use mir.MapTy.{inst_fn}
use mir.Syntax.{a_type, dcons, dnil}
use contract.BorrowLft.{◌⊑◌}
use denote.Param.{bounded}
use denote.Param.Laws.{copied_copy, copied_laws, IsCopy}
use Rattle.std.specs.Prelude.{option_map}
use Rattle.std.specs.Map.Iter.{deref_pair_mut}
use Rattle.std.specs.contracts.option.Option.{the_row as OptionOf}
use Rattle.ijson_value.specs.AtKey.{pair_at_key}
use Rattle.ijson_value.specs.LendsPair.{LendsPairIf}
use Rattle.ijson_value.specs.contracts.object.map.IObject.{the_row as M}
use Rattle.ijson_value.proofs.lends.Called.{answered}
use Rattle.ijson_value.proofs.lends.LentLaws.{Pair, pair_found_laws}
use Rattle.ijson_value.specs.contracts.object.index.ObjectIndex.index_into_mut as f
use Rattle.ijson_value.proofs.object.index.ObjectIndex.index_into_mut.Statement.{statement}
use Rattle.ijson_value.proofs.object.index.ObjectIndex.index_into_mut.Code as code
use Rattle.ijson_value.specs.contracts.object.map.IObject.get_key_value_mut as g
use Rattle.ijson_value.proofs.object.map.IObject.get_key_value_mut.Met as g-thm

pub index_into_mut_spec : {M' : Type 1} → statement M'
index_into_mut_spec 𝓤 𝓛 𝓜 𝓡 wired I LI CI gx dx gs ds gc dc mx ms mc =
    let X : RattleType = f.Self-row I in let CX : IsCopy X = copied_copy 0 I CI in
    let En = f.ended I gx dx gs ds gc dc in let inst = bounded (a_type ∷ []) (I, tt) (dcons dx (dcons ds (dcons dc dnil))) in
    let fn = inst_fn inst code.function in
    let c = f.clauses I gx dx gs ds gc dc 𝓛 𝓜.mem 𝓡.returns in
    let hs : Stays En.signature.params En.kept =
    (stay_dropped (plain (λ _. X)) no, (stay_dropped (mut_ref_to (0 ∷ []) tt (plain (λ _. M))) no, tt)) in
    let W = walk_of 𝓛 En hs c in let 𝓣 = tables 𝓤 𝓛.H 𝓜 𝓡 𝓡.env in
    proved 𝓛 En hs c 𝓜 𝓡 (Goes-dropped 𝓛 2 (plain (λ _. X)) no (λ κs x w. refl), (Goes-spent_ref 𝓛 2 (0 ∷ []) tt (plain (λ _. M)), tt))
    (f.Key.name inst) fn (code.unfolded 𝓤 𝓛.H 𝓜 𝓡 wired (I, tt) dx ds dc)
    (λ κs. ((λ x. CX.val x ∷ []), (mut_vals, tt))) (λ κs. (CX.tells, (mut_Tells (named 0) κs.0 M, tt))) (λ κs qs bounds a gh are.
    let κ = κs.0 in let q = qs.0 in let κ' = κs.1.0 in let q' = qs.1.0 in let k = a.0 in let r = a.1.0 in let vs = mut_vals r in
    let ks : List Val = CX.val k ∷ [] in
    let y : W.Ghost = ((κs, qs, bounds, a, (ks, (vs, tt))), gh) in
    qed 𝓛 (((‵ (flft κ q) ⊛ ‵ (flft κ' q') ⊛ ‵ ftrue) ⊛ ‵ (X.own_val k ks) ⊛ ‵ ((MutRef (named 0) κ M).own_val r vs) ⊛ ‵ ftrue) ∷ raw
    (fact 𝓤 (κ' ⊑ I.lives)) ∷ ‵ ftrue ∷ []) ∵
    move ! (1 ∷ []) $ heard ! _ (λ out.
    split ! $ move ! (1 ∷ []) $ split ! $ move ! (1 ∷ []) $ split ! $ keep ! (3 ∷ 2 ∷ 0 ∷ []) $
    -- The proof context is [the tokens; the index; the object].
    enter ! _ _ _ _ _ $ alloc_all ! (λ l. pass_all ! refl ((((copied_laws 0 I LI).lawful 𝓛).typed k ks are.0).0, ((tt, tt), tt)) $
    sets ! (addr ! (through ! refl (stop !))) refl (tt, tt) $
    let G = triple_of 𝓛 (g.signature I) (g.spec I gx dx gs ds gc dc 𝓛 𝓜.mem 𝓡.returns) in
    let z : G.Ghost = ((κs, qs, tt, (r, (k, tt)), (vs, (ks, tt))), tt) in
    nothing ! $ move ! (2 ∷ 0 ∷ []) $ join ! $ move ! (2 ∷ 0 ∷ []) $ join ! $ move ! (1 ∷ 0 ∷ []) $ join ! $
    nothing ! $ use0 𝓛 (raw (fact 𝓤 (κ' ⊑ I.lives))) (fact_i 𝓤 (κ' ⊑ I.lives) (emp 𝓤) out) $ move ! (2 ∷ 0 ∷ 1 ∷ []) $
    use3 𝓛 (raw (G.pre z)) (id⊢ 𝓤 _) $
    calls_at ! (framed 𝓤 𝓛.H 𝓜 𝓣) G (g-thm.met 𝓤 𝓛 𝓜 𝓡 (code.calls-ijson_value::object::map::IObject::get_key_value_mut 𝓡.env wired) I LI CI
    gx dx gs ds gc dc mx ms mc) z
    (and_then ! (get ! refl) (and_then ! (get ! refl) (no_more !))) (λ v.
    answered 𝓛 ! tt (‵ (flft κ q) ⊛ ‵ (flft κ' q') ⊛ ‵ ftrue) (OptionOf (Pair κ)) v
    (λ x (ws : Unit {0} × (Unit {0} × Unit {0})). lasts (g.ended I gx dx gs ds gc dc) κs (r, (k, tt)) ws) (LendsPairIf r (gs.key k))
    (λ x. option_map deref_pair_mut x ≡ pair_at_key (gs.key k) r.now.pairs) (id⊢ 𝓤 _) (λ x is told.
    -- The proof context is [the result; the formula of the object; the tokens].
    lands_as ! refl refl (((pair_found_laws κ).lawful 𝓛).typed x (v ∷ []) told).0 $
    returns ! (look_at ! 0 refl) $ free_all ! refl $ keep ! (0 ∷ 2 ∷ 1 ∷ []) $
    suffices ! _ (ends_at 𝓛 En hs c y v x (tt, (tt, tt)) (tt, (tt, tt))) $
    nothing ! $ nothing ! $ fjoin ! $ nothing ! $ fjoin ! $ join ! $ move ! (1 ∷ 0 ∷ []) $ join ! $ frame ! $ says ! is $ done !)))))
