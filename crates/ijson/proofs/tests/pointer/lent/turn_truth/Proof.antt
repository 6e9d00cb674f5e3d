-- A caller that negates the Boolean of a value. Assumes `Logic`.
use Rattle.ijson_value.proofs.lends.Steps.{◌≡◌, ℕ, List, [], ◌∷◌, refl, MutBor, proved, full_share, id⊢, Lft, ftrue, flft, fres, named}
use Rattle.ijson_value.proofs.lends.Steps.{vunit, fact, tables, ‵, raw, ◌⊛◌, ◌$◌, ◌∵◌, !, qed, move, keep, use2, split, join, feq_i, done}
use Rattle.ijson_value.proofs.lends.Steps.{suffices, frame, enter, of_opd, addr, unit_lit, stop, no_more, and_then, returns, alloc_all}
use Rattle.ijson_value.proofs.lends.Steps.{pass_all, free_all, look_at, get, through, sets, lands_as, MutRef, mut_vals, mut_Tells, plain}
use Rattle.ijson_value.proofs.lends.Steps.{nothing, heard, lasts, triple_of, Stays, walk_of, stay_ref, Goes-ref, ends_at, framed, lft_end}
use Rattle.ijson_value.specs.LendsParts.{LendsParts}
use Rattle.ijson_value.specs.Opened.{mut_value}
use Rattle.ijson_value.specs.contracts.value.destructure.DestructuredMut.{the_row as PartsOf}
use Rattle.ijson_value.proofs.value.destructure.DestructuredMut.TheLaws.{the_row_laws as parts_laws}
use Rattle.ijson_value.specs.declared.value.destructure.DestructuredMut.{DestructuredMut}
use Rattle.ijson_extra.proofs.lends.Mapped.{NamedLft, says_two, WellFormed, V, back, lent, maps}
use Rattle.ijson.proofs.test_lemmas.TurnedParts.{negated, parts_left}
use Rattle.ijson.specs.tests.Turned.{IsTurned}
use Rattle.ijson.specs.contracts.tests.pointer.lent.turn_truth as f
use Rattle.ijson.proofs.tests.pointer.lent.turn_truth.Statement.{statement}
use Rattle.ijson.proofs.tests.pointer.lent.turn_truth.Code as code
use Rattle.ijson_value.specs.contracts.value.IValue.destructure_mut as g
use Rattle.ijson_value.proofs.value.IValue.destructure_mut.Met as g-thm
use Rattle.ijson.specs.contracts.tests.pointer.lent.turned_parts as h
use Rattle.ijson.proofs.tests.pointer.lent.turned_parts.Met as h-thm

abbrev stayed : Stays f.ended.signature.params f.ended.kept
stayed = (stay_ref (0 ∷ []) tt (plain (λ _. V)), tt)

pub turn_truth_spec : {M : Type 1} → statement M
turn_truth_spec 𝓤 𝓛 𝓜 𝓡 wired =
    let c = f.clauses 𝓛 𝓜.mem 𝓡.returns in let W = walk_of 𝓛 f.ended stayed c in let 𝓣 = tables 𝓤 𝓛.H 𝓜 𝓡 𝓡.env in
    proved 𝓛 f.ended stayed c 𝓜 𝓡 (Goes-ref 𝓛 1 0 tt (plain (λ _. V)), tt)
    f.Key.name code.function (code.unfolded 𝓤 𝓛.H 𝓜 𝓡 wired)
    (λ κs. (mut_vals, tt)) (λ κs. (mut_Tells (named 0) κs.0 V, tt)) (λ κs qs bounds a gh are.
    let κ = κs.0 in let q = qs.0 in let r = a.0 in let vs = mut_vals r in
    let y : W.Ghost = ((κs, qs, bounds, a, (vs, tt)), gh) in
    let Ref = λ (β : List ℕ) (x : MutBor WellFormed). (MutRef (named 0) β V).own_val x vs in
    qed 𝓛 (((‵ (flft κ q) ⊛ ‵ ftrue) ⊛ ‵ (Ref κ r) ⊛ ‵ ftrue) ∷ ‵ ftrue ∷ []) ∵
    split ! $ split ! $ move ! (2 ∷ []) $ split ! $ keep ! (0 ∷ 2 ∷ []) $
    enter ! _ _ _ _ _ $ alloc_all ! (λ l. pass_all ! refl ((tt, tt), tt) $
    -- The context: the value, its lifetime token.
    sets ! (addr ! (through ! refl (stop !))) refl (tt, tt) $
    lent 𝓛 ! tt V κ q r (λ α δ. let β : Lft = α ∷ [] in let at : NamedLft = record { mir = named 0; lft = β } in
    -- The context: the loan, what the lender keeps, the lifetime token of `α`.
    let r' : MutBor WellFormed = record r { ghost_name = δ } in
    let G = triple_of 𝓛 g.signature (g.spec 𝓛 𝓜.mem 𝓡.returns) in
    let z : G.Ghost = (((β, tt), (full_share, tt), tt, (r', tt), (vs, tt)), tt) in
    move ! (0 ∷ 2 ∷ []) $ maps 𝓛 ! β full_share (framed 𝓤 𝓛.H 𝓜 𝓣) G
    (g-thm.met 𝓤 𝓛 𝓜 𝓡 (code.calls-ijson_value::value::IValue::destructure_mut 𝓡.env wired)) z (PartsOf at) (parts_laws at) (Ref β r')
    (id⊢ 𝓤 _) (and_then ! (get ! refl) (no_more !)) (λ x (ws : Unit {0} × Unit {0}). lasts g.ended (β, tt) (r', tt) ws)
    (λ (x : DestructuredMut). ‵ (LendsParts r' x) ⊛ raw (fact 𝓤 (mut_value x ≡ r.now))) (λ v. id⊢ 𝓤 _) (λ v x typed.
    split ! $ move ! (1 ∷ []) $ heard ! _ (λ seen. lands_as ! refl refl typed.0 $
    -- The context: the formula of the loan, the parts, the lifetime token of `α`, what the lender
    -- keeps.
    let H = triple_of 𝓛 h.signature (h.spec 𝓛 𝓜.mem 𝓡.returns) in
    let z' : H.Ghost = (((β, tt), (full_share, tt), tt, (x, tt), ((v ∷ []), tt)), tt) in
    move ! (1 ∷ 2 ∷ []) $ maps 𝓛 ! β full_share (framed 𝓤 𝓛.H 𝓜 𝓣) H
    (h-thm.met 𝓤 𝓛 𝓜 𝓡 (code.calls-ijson::tests::pointer::lent::turned_parts 𝓡.env wired)) z' (PartsOf at) (parts_laws at)
    ((PartsOf at).own_val x (v ∷ [])) (id⊢ 𝓤 _) (and_then ! (get ! refl) (no_more !)) (λ o ws. lasts h.ended (β, tt) (x, tt) ws)
    (λ o. raw (fact 𝓤 (IsTurned x o))) (λ w. id⊢ 𝓤 _) (λ w o typed. heard ! _ (λ is. lands_as ! refl refl typed.0 $
    -- The context: the parts, the lifetime token of `α`, the formula of the loan, what the lender
    -- keeps.
    move ! (0 ∷ 2 ∷ []) $
    use2 𝓛 (‵ (fres δ (V.coded.code (mut_value o)))) (parts_left 𝓛 at r' x o (w ∷ []) is seen) $ move ! (1 ∷ []) $ lft_end ! tt $
    move ! (0 ∷ 2 ∷ 1 ∷ []) $ back 𝓛 ! tt V κ q r α δ (mut_value o) $
    sets ! (of_opd ! (unit_lit !)) refl (tt, tt) $ returns ! (look_at ! 0 refl) $ free_all ! refl $ keep ! (0 ∷ 1 ∷ []) $
    suffices ! _ (ends_at 𝓛 f.ended stayed c y vunit tt (mut_value o, tt) (tt, tt)) $ says_two ! (negated x o is r.now seen) $
    nothing ! $ move ! (1 ∷ 0 ∷ []) $ join ! $ nothing ! $ move ! (2 ∷ 0 ∷ []) $ join ! $ frame ! $ frame ! $
    feq_i ! _ (vunit ∷ []) _ refl $ done !)))))))
