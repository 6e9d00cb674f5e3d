-- A caller that writes to the value of a key. Assumes `Logic`.
use Rattle.ijson_value.proofs.lends.Steps.{◌≡◌, ℕ, List, [], ◌∷◌, refl, ap, ◌∙◌, MutBor, proved, full_share, id⊢, Lft, ftrue, flft}
use Rattle.ijson_value.proofs.lends.Steps.{named, Val, vunit, emp, fact, fact_i, tables, ‵, raw, ◌⊛◌, ◌$◌, ◌∵◌, !, qed, done, move, keep}
use Rattle.ijson_value.proofs.lends.Steps.{use0, use2, split, join, feq_i, suffices, frame, enter, of_opd, addr, unit_lit, stop, no_more}
use Rattle.ijson_value.proofs.lends.Steps.{and_then, returns, alloc_all, pass_all, free_all, look_at, get, through, sets, lands_as, env, no}
use Rattle.ijson_value.proofs.lends.Steps.{RattleType, MutRef, mut_vals, mut_Tells, plain, nothing, heard, lasts, triple_of, Stays, walk_of}
use Rattle.ijson_value.proofs.lends.Steps.{stay_dropped, stay_ref, Goes-dropped, Goes-ref, ends_at, framed, follows, says}
use mir.MapTy.{inst_fn}
use mir.Syntax.{a_type, dcons, dnil}
use denote.Follow.{follows_so}
use contract.BorrowLft.{◌⊑◌}
use denote.Param.{bounded}
use denote.Param.Laws.{copied_copy, copied_laws, IsCopy}
use Rattle.std.specs.Prelude.{Option, None, Some, true, IfSome, option_map, option_and_then, slice_get}
use Rattle.std.proofs.lemmas.Option.{slice_get-get_or}
use Rattle.ijson_table.proofs.pairs.PairsByKey.{position_within}
use Rattle.std.specs.Map.Iter.{deref_pair_mut}
use borrow.Follows.Kept.{follows_itself}
use denote.Ref.{Bor}
use Rattle.ijson_table.specs.Store.{Store, at as place_of}
use Rattle.ijson_value.specs.AtKey.{pair_at_key}
use Rattle.ijson_value.specs.LendsAtKey.{with_found, with_key}
use Rattle.ijson_value.specs.LendsPair.{LendsPairIf, pair_name}
use Rattle.ijson_value.specs.Values.{boolean_value, null_value}
use Rattle.ijson_value.specs.contracts.object.map.IObject.{the_row as N}
use Rattle.ijson_value.proofs.lends.LentLaws.{Pair, pair_found_laws}
use Rattle.ijson_value.proofs.lends.LentOn.{then_so}
use Rattle.ijson_extra.proofs.lends.Mapped.{ghost_name_of, OptionOf, WellFormed, V, lent, value_found_laws, finds, maps}
use Rattle.ijson.proofs.test_lemmas.LentPart.{Left, written_back}
use Rattle.ijson.specs.contracts.tests.pointer.lent.set_pair as f
use Rattle.ijson.proofs.tests.pointer.lent.set_pair.Statement.{statement}
use Rattle.ijson.proofs.tests.pointer.lent.set_pair.Code as code
use Rattle.ijson_value.specs.contracts.object.index.ObjectIndex.index_into_mut as g
use Rattle.ijson_value.proofs.object.index.ObjectIndex.index_into_mut.Met as g-thm
use Rattle.ijson.specs.contracts.tests.pointer.lent.put_entry as h
use Rattle.ijson.proofs.tests.pointer.lent.put_entry.Met as h-thm

-- If an object lacks a key, writing to this key does not change the object.
is_missing : (o : Store WellFormed) (key : List ℕ) (w : WellFormed) (m : Option ℕ) → place_of o.pairs key ≡ m
    → None ≡ option_and_then (slice_get o.pairs) m → o ≡ with_found o m w
is_missing o key w None e none = refl
is_missing o key w (Some i) e none = absurd (no_pair (none ∙ slice_get-get_or o.pairs i ([], null_value) (position_within o.pairs key i e)))
  where
    no_pair : {x : List ℕ × WellFormed} → None ≡ Some x → ⊥
    no_pair e = cc

abbrev Entry : Type 0
Entry = Option (Bor (List ℕ) × MutBor WellFormed)

abbrev P : Store WellFormed → List ℕ → WellFormed → Store WellFormed → Type 0
P s key w n = n ≡ with_key s key w

-- The value of the key is `true`, or the object is unchanged if it lacks the key.
there : (s n : Store WellFormed) (key : List ℕ) (x : Entry) (o : Option (MutBor WellFormed))
    → option_map deref_pair_mut x ≡ pair_at_key key s.pairs → pair_name x ≡ ghost_name_of o
    → IfSome o (λ place. place.now ≡ boolean_value true) → Left (P s key) (λ u. u ≡ s) o n → n ≡ with_key s key (boolean_value true)
there s n key None None at same put is = is ∙ is_missing s key (boolean_value true) (place_of s.pairs key) refl at
there s n key None (Some o) at same put is = absurd (cc)
there s n key (Some x) None at same put is = absurd (cc)
there s n key (Some x) (Some o) at same put is = is ∙ ap (with_key s key) put

pub set_pair_spec : {M' : Type 1} → statement M'
set_pair_spec 𝓤 𝓛 𝓜 𝓡 wired I LI CI gx dx gs ds gc dc mx ms mc =
    let X : RattleType = f.I-row I in let CX : IsCopy X = copied_copy 0 I CI in
    let En = f.ended I gx dx gs ds gc dc in let inst = bounded (a_type ∷ []) (I, tt) (dcons dx (dcons ds (dcons dc dnil))) in
    let fn = inst_fn inst code.function in let c = f.clauses I gx dx gs ds gc dc 𝓛 𝓜.mem 𝓡.returns in
    let hs : Stays En.signature.params En.kept = (stay_ref (0 ∷ []) tt (plain (λ _. N)), (stay_dropped (plain (λ _. X)) no, tt)) in
    let W = walk_of 𝓛 En hs c in let 𝓣 = tables 𝓤 𝓛.H 𝓜 𝓡 𝓡.env in
    proved 𝓛 En hs c 𝓜 𝓡 (Goes-ref 𝓛 2 0 tt (plain (λ _. N)), (Goes-dropped 𝓛 2 (plain (λ _. X)) no (λ κs x w. refl), tt))
    (f.Key.name inst) fn (code.unfolded 𝓤 𝓛.H 𝓜 𝓡 wired (I, tt) dx ds dc)
    (λ κs. (mut_vals, ((λ x. CX.val x ∷ []), tt))) (λ κs. (mut_Tells (named 0) κs.0 N, (CX.tells, tt))) (λ κs qs bounds a gh are.
    let κ = κs.0 in let q = qs.0 in let κ' = κs.1.0 in let q' = qs.1.0 in let r = a.0 in let k = a.1.0 in
    let vs = mut_vals r in let ks : List Val = CX.val k ∷ [] in let key = gs.key k in
    let y : W.Ghost = ((κs, qs, bounds, a, (vs, (ks, tt))), gh) in
    let Ref = λ (β : List ℕ) (x : MutBor (Store WellFormed)). (MutRef (named 0) β N).own_val x vs in
    qed 𝓛 (((‵ (flft κ q) ⊛ ‵ (flft κ' q') ⊛ ‵ ftrue) ⊛ ‵ (Ref κ r) ⊛ ‵ (X.own_val k ks) ⊛ ‵ ftrue) ∷ raw (fact 𝓤 (κ' ⊑ I.lives)) ∷ ‵ ftrue ∷ []) ∵
    move ! (1 ∷ []) $ heard ! _ (λ out.
    split ! $ split ! $ move ! (1 ∷ []) $ split ! $ move ! (3 ∷ []) $ split ! $ move ! (1 ∷ []) $ split ! $ keep ! (2 ∷ 5 ∷ 3 ∷ 0 ∷ []) $
    enter ! _ _ _ _ _ $ alloc_all ! (λ l. pass_all ! refl ((tt, tt), ((((copied_laws 0 I LI).lawful 𝓛).typed k ks are.1.0).0, tt)) $
    -- The context: the value, its lifetime token, the lifetime token of the index, the index.
    sets ! (addr ! (through ! refl (stop !))) refl (tt, tt) $
    lent 𝓛 ! tt N κ q r (λ α δ. let β : Lft = α ∷ [] in
    -- The context: the loan, what the lender keeps, the lifetime token of `α`, the lifetime token
    -- of the index, the index.
    let r' : MutBor (Store WellFormed) = record r { ghost_name = δ } in let Found = OptionOf (Pair β) in
    let Out = OptionOf (MutRef (named 0) β V) in
    let G = triple_of 𝓛 (g.signature I) (g.spec I gx dx gs ds gc dc 𝓛 𝓜.mem 𝓡.returns) in
    let z : G.Ghost = (((β, (κ', tt)), (full_share, (q', tt)), tt, (k, (r', tt)), (ks, (vs, tt))), tt) in
    move ! (4 ∷ 0 ∷ 2 ∷ 3 ∷ []) $ finds 𝓛 ! β full_share (framed 𝓤 𝓛.H 𝓜 𝓣) G
    (g-thm.met 𝓤 𝓛 𝓜 𝓡 (code.calls-ijson_value::object::index::ObjectIndex::index_into_mut 𝓡.env wired) I LI CI gx dx gs ds gc dc mx ms mc) z
    Found (pair_found_laws β) κ' q' (X.own_val k ks) (Ref β r')
    (raw (fact 𝓤 (κ' ⊑ I.lives)) ⊛ ‵ ftrue)
    (qed 𝓛 [] ∵ nothing ! $ use0 𝓛 (raw (fact 𝓤 (κ' ⊑ I.lives))) (fact_i 𝓤 _ (emp 𝓤) out) $ join ! $ done !) (id⊢ 𝓤 _)
    (and_then ! (get ! refl) (and_then ! (get ! refl) (no_more !)))
    (λ (ws : Unit {0} × (Unit {0} × Unit {0})). lasts (g.ended I gx dx gs ds gc dc) (β, (κ', tt)) (k, (r', tt)) ws) (LendsPairIf r' key)
    (λ (x : Entry). raw (fact 𝓤 (option_map deref_pair_mut x ≡ pair_at_key key r.now.pairs))) (λ v. id⊢ 𝓤 _)
    (λ v x typed. lands_as ! refl refl typed.0 $ heard ! _ (λ at.
    -- The context: the part, the formula of the loan, the lifetime token of `α`, the lifetime token
    -- of the index, what the lender keeps.
    let H = triple_of 𝓛 h.signature (h.spec 𝓛 𝓜.mem 𝓡.returns) in
    let z' : H.Ghost = (((β, tt), (full_share, tt), tt, (x, tt), ((v ∷ []), tt)), tt) in
    move ! (0 ∷ 2 ∷ []) $ maps 𝓛 ! β full_share (framed 𝓤 𝓛.H 𝓜 𝓣) H
    (h-thm.met 𝓤 𝓛 𝓜 𝓡 (code.calls-ijson::tests::pointer::lent::put_entry 𝓡.env wired)) z' Out (value_found_laws β)
    (Found.own_val x (v ∷ [])) (id⊢ 𝓤 _) (and_then ! (get ! refl) (no_more !)) (λ o ws. lasts h.ended (β, tt) (x, tt) ws)
    (λ o. raw (fact 𝓤 (pair_name x ≡ ghost_name_of o)) ⊛ raw (fact 𝓤 (IfSome o (λ place. place.now ≡ boolean_value true)))) (λ w. id⊢ 𝓤 _)
    (λ w o typed. split ! $ heard ! _ (λ same. heard ! _ (λ put. lands_as ! refl refl typed.0 $
    move ! (2 ∷ []) $ use0 𝓛 (‵ (follows N N δ δ (λ w. w))) (follows_itself 𝓛 N δ) $
    use2 𝓛 (‵ (follows_so N V δ (pair_name x) (P r.now key) (λ n. n ≡ r.now)))
    (then_so 𝓛 N N V (λ w. w) (with_key r.now key) r.now (P r.now key) (λ n. n ≡ r.now) (λ w. refl) refl δ δ (pair_name x)) $
    move ! (1 ∷ 2 ∷ 0 ∷ []) $
    written_back 𝓛 N (P r.now key) (λ n. n ≡ r.now) ! tt κ q r α δ (pair_name x) o (w ∷ []) (‵ (flft κ' q') ⊛ ‵ ftrue) same (λ n is.
    sets ! (of_opd ! (unit_lit !)) refl (tt, tt) $ returns ! (look_at ! 0 refl) $ free_all ! refl $
    suffices ! _ (ends_at 𝓛 En hs c y vunit tt (n, (tt, tt)) (tt, (tt, tt))) $ says ! (there r.now n key x o at same put is) $
    nothing ! $ nothing ! $ join ! $ move ! (1 ∷ 0 ∷ []) $ join ! $ move ! (1 ∷ 2 ∷ []) $ join ! $ frame ! $ frame ! $
    feq_i ! _ (vunit ∷ []) _ refl $ done !))))))))))
