-- `walk` lends the value that its tokens lead to, by recursion. Assumes `Logic`.
use Rattle.ijson_value.proofs.lends.Steps.{◌≡◌, ◌∙◌, subst, says, fpick, ℕ, List, [], ◌∷◌, refl, sym, ap, lit<, MutBor, id⊢}
use Rattle.ijson_value.proofs.lends.Steps.{ftrue, flft, fres, named, Val, vptr, fact, tables, ‵, raw, ◌⊛◌, at_ret, ◌$◌}
use Rattle.ijson_value.proofs.lends.Steps.{◌∵◌, !, qed, done, move, keep, use0, use1, use2, use3, split, join, rewrite, fjoin}
use Rattle.ijson_value.proofs.lends.Steps.{suffices, frame, enter, of_opd, lit, addr, fld, stop, no_more, and_then, first}
use Rattle.ijson_value.proofs.lends.Steps.{exec, returns, returns_within, alloc_all, pass_all, free_all, look_at, get}
use Rattle.ijson_value.proofs.lends.Steps.{get_in, get_tag, through, sets, sets_last, lands_as, agg, env, yes, no, shows}
use Rattle.ijson_value.proofs.lends.Steps.{RattleType, MutRef, Bor, mut_vals, mut_Tells, plain, mut_ref_to, nothing, heard}
use Rattle.ijson_value.proofs.lends.Steps.{peeks, only, whole, vrt, live, of_field, lasts, triple_of, Stays, walk_of, stay_dropped}
use Rattle.ijson_value.proofs.lends.Steps.{Goes-dropped, Goes-spent_ref, ends_at, framed, follows}
use Rattle.ijson_extra.proofs.lends.Recursion.{recursive, step_on}
use denote.Triple.Statement.{Contract}
use borrow.Follows.Kept.{follows_itself}
use types.Run.{switches}
use types.Match.{in_variant}
use native.Mathlib.Nat.{suc-ne-zero}
use Rattle.std.proofs.Common.{◌<◌}
use mathlib.Core.Option as maybe
use mathlib.Core.List.{◌++◌}
use base.Fml.{fex}
use denote.Param.Shared.{copy_shared}
use denote.Laws.{Is}
use Rattle.std.specs.Prelude.{Option, Some, None, length, OnSome, IfSome, IfNone}
use Rattle.std.proofs.option.Made.{none_of}
use Rattle.std.proofs.option.Option.TheLaws.{the_row_laws as option_laws}
use Rattle.ijson_value.specs.Tree.{Tree}
use Rattle.ijson_extra.specs.Pointer.{written_tokens, resolved_with}
use Rattle.ijson_extra.specs.private.Walked.{LendsNamed, LendsNamedInside, tree_lent, node_tree, first_of, found_at, written_at, written_with}
use Rattle.ijson_extra.proofs.tokens.Walked.{none_first, next_found, next_with, next_left}
use Rattle.ijson_value.proofs.lends.LentOn.{so_none, none_so}
use Rattle.ijson_value.proofs.lends.Variants.{by_option, none_out, Some-out}
use Rattle.ijson_extra.proofs.lends.Mapped.{of_list, Str, StrRefOf, str-field, str-laws, str-copy, shr_slice_vals, NamedLft, ghost_name_of, OptionOf}
use Rattle.ijson_extra.proofs.lends.Mapped.{Some-of, node_value, WellFormed, on_both, value_found_laws, then_such, V, N, finds, maps, no_need}
use Rattle.ijson_extra.proofs.lends.Mapped.{opened_laws, Destructured}
use Rattle.ijson_extra.proofs.pointer.lend.+walk.{statement}
use Rattle.ijson_extra.proofs.pointer.lend.+walk.Code as codes
use Rattle.ijson_extra.proofs.pointer.lend.+walk.Code.+walk as code
use Rattle.ijson_extra.specs.contracts.pointer.lend.walk as f
use Rattle.ijson_extra.specs.contracts.pointer.lend.first_mut as g
use Rattle.ijson_extra.proofs.pointer.lend.first_mut.Met as g-thm
use Rattle.ijson_extra.specs.contracts.pointer.lend.opened as h
use Rattle.ijson_extra.proofs.pointer.lend.opened.Met as h-thm
use Rattle.ijson_extra.specs.contracts.pointer.lend.behind_first as b
use Rattle.ijson_extra.proofs.pointer.lend.behind_first.Met as b-thm

abbrev stayed : Stays f.ended.signature.params f.ended.kept
stayed = (stay_dropped (mut_ref_to (0 ∷ []) tt (plain (λ _. N))) no, (stay_dropped (StrRefOf (1 ∷ []) tt) yes, tt))

-- The result of a call: the value that is lent, if any.
abbrev Found : Type 0
Found = Option (MutBor V.Denot)

-- The text after the first token, if any.
abbrev Rest : Type 0
Rest = Option (Bor (List ℕ))

pub +walk_spec : {M : Type 1} → statement M
+walk_spec 𝓤 𝓛 𝓜 𝓡 wired =
    let c = f.clauses 𝓛 𝓜.mem 𝓡.returns in let W = walk_of 𝓛 f.ended stayed c in let 𝓣 = tables 𝓤 𝓛.H 𝓜 𝓡 𝓡.env in
    recursive 𝓛 f.ended stayed c 𝓜 𝓡 f.Key.name codes.walk-function
    (Goes-spent_ref 𝓛 2 (0 ∷ []) tt (plain (λ _. N)), (Goes-dropped 𝓛 2 (StrRefOf (1 ∷ []) tt) yes (λ κs x w. refl), tt))
    (codes.walk-unfolded 𝓤 𝓛.H 𝓜 𝓡 wired) (λ y. length y.0.3.1.0.now)
    (λ κs. (mut_vals, (shr_slice_vals, tt)))
    (λ κs. (mut_Tells (named 0) κs.0 N, ((str-laws (record { mir = named 1; lft = κs.1.0 })).tells, tt)))
    (λ y' smaller are.
    let κs = y'.0.0 in let qs = y'.0.1 in let a = y'.0.3 in
    let κ = κs.0 in let q = qs.0 in let κ' = κs.1.0 in let q' = qs.1.0 in let r = a.0 in let p : Bor (List ℕ) = a.1.0 in
    let vs = mut_vals r in let ps : List Val = shr_slice_vals p in let γ = r.ghost_name in
    let S : RattleType = Str (named 1) κ' in let at : NamedLft = record { mir = named 1; lft = κ' } in
    let Lent : RattleType = MutRef (named 0) κ V in
    let old : Tree = node_tree r.now in let token = first_of p.now in let whole_text : List ℕ = 47 ∷ p.now in
    let O = λ (x : Found) (w : WellFormed) (n : Destructured). OnSome x (node_tree n ≡ written_with old token w.tree) in
    let P = λ (x : Found) (w : WellFormed) (n : Destructured). OnSome x (node_tree n ≡ resolved_with old whole_text w.tree) in
    let P₀ = λ (n : Destructured). node_tree n ≡ old in
    let y : W.Ghost = ((κs, qs, y'.0.2, a, (vs, (ps, tt))), y'.1) in
    qed 𝓛 (((‵ (flft κ q) ⊛ ‵ (flft κ' q') ⊛ ‵ ftrue) ⊛ ‵ ((MutRef (named 0) κ N).own_val r vs) ⊛ ‵ (S.own_val p ps) ⊛ ‵ ftrue)
    ∷ ‵ ftrue ∷ []) ∵
    split ! $ split ! $ move ! (1 ∷ []) $ split ! $ move ! (3 ∷ []) $ split ! $ move ! (1 ∷ []) $ split ! $ keep ! (2 ∷ 5 ∷ 3 ∷ 0 ∷ []) $
    enter ! _ _ _ _ _ $ alloc_all ! (λ l. pass_all ! refl ((tt, tt), ((((str-laws at).lawful 𝓛).typed p ps are.1.0).0, tt)) $
    -- The context: the content, its lifetime token, the lifetime token of the text, the text.
    sets ! (addr ! (through ! refl (stop !))) refl (tt, tt) $
    move ! (3 ∷ []) $ use1 𝓛 (‵ (S.own_val p ps) ⊛ ‵ (S.own_val p ps)) (((str-copy at).copies _ 𝓤 𝓛).twice p ps) $ split ! $
    let G = triple_of 𝓛 g.signature (g.spec 𝓛 𝓜.mem 𝓡.returns) in
    let z : G.Ghost = (((κ, (κ', tt)), (q, (q', tt)), tt, (r, (p, tt)), (vs, (ps, tt))), tt) in
    move ! (2 ∷ 0 ∷ 3 ∷ 4 ∷ []) $ finds 𝓛 ! κ q (framed 𝓤 𝓛.H 𝓜 𝓣) G
    (g-thm.met 𝓤 𝓛 𝓜 𝓡 (codes.calls-ijson_extra::pointer::lend::first_mut 𝓡.env wired)) z (OptionOf Lent) (value_found_laws κ) κ' q'
    ((MutRef (named 0) κ N).own_val r vs) (S.own_val p ps) (‵ ftrue) (no_need 𝓛) (id⊢ 𝓤 _)
    (and_then ! (get ! refl) (and_then ! (get ! refl) (no_more !)))
    (λ (ends : Unit {0} × (Unit {0} × Unit {0})). lasts g.ended (κ, (κ', tt)) (r, (p, tt)) ends) (LendsNamed r token)
    (λ (x : Found). raw (fact 𝓤 (tree_lent x ≡ written_at old token))) (λ v. id⊢ 𝓤 _) (λ v x _. heard ! _
    (λ found. move ! (3 ∷ []) $ split ! $ move ! (3 ∷ 0 ∷ 1 ∷ 4 ∷ 2 ∷ []) $
    -- The context: the formula of the content, the lifetime token of the text, `ftrue`, the
    -- lifetime token of the content, the result, the text.
    by_option x
    (λ none. rewrite ! 0 (λ (x' : Found). ‵ (LendsNamed r token x')) none refl $
    rewrite ! 4 (λ (x' : Found). ‵ ((OptionOf Lent).own_val x' (v ∷ []))) none refl $
    move ! (4 ∷ []) $ none_out ! Lent (v ∷ []) (λ led.
    lands_as ! (ap only led) refl (tt, (record { fits = lit< tt }, tt)) $
    first ! $ switches ! (get_tag ! (vrt ! refl (fld ! refl (stop !))) (whole !)) (
      (λ e. absurd (suc-ne-zero 0 (sym e))),
      (
        (λ _. sets ! (agg ! (and_then ! (lit ! tt) (no_more !))) refl (tt, (record { fits = lit< tt }, tt)) $
            returns_within ! (W.post y) refl (look_at ! 0 refl) $ free_all ! refl $
            use1 𝓛 (‵ (fex ((n : N.Denot) × P₀ n) (λ s. fres γ (N.coded.code s.0)))) (so_none 𝓛 N V (O None) P₀ γ) $ fpick ! (λ s.
            use1 𝓛 (‵ (LendsNamedInside r whole_text None)) (none_so 𝓛 N V γ s.0 (λ w. s.0) (P None) P₀ (λ w. tt) s.1) $
            use0 𝓛 (‵ ((OptionOf Lent).own_val None (live 0 (of_list []) ∷ []))) (none_of 𝓛 Lent) $ keep ! (0 ∷ 4 ∷ 2 ∷ 1 ∷ []) $
            suffices ! _ (ends_at 𝓛 f.ended stayed c y (live 0 (of_list [])) None (tt, (tt, tt)) (tt, (tt, tt))) $
            nothing ! $ nothing ! $ fjoin ! $ nothing ! $ fjoin ! $ join ! $ nothing ! $ move ! (3 ∷ 0 ∷ []) $ join ! $
            move ! (2 ∷ 0 ∷ []) $ join ! $ join ! $ frame ! $
            says ! (none_first old p.now (subst (λ (x' : Found). tree_lent x' ≡ written_at old token) none found)) $ done !)),
        (λ n. absurd (n.1 refl)),
      ),
    )))
    (λ value there. let found' = subst (λ (x' : Found). tree_lent x' ≡ written_at old token) there found in
    rewrite ! 0 (λ (x' : Found). ‵ (LendsNamed r token x')) there refl $
    rewrite ! 4 (λ (x' : Found). ‵ ((OptionOf Lent).own_val x' (v ∷ []))) there refl $
    move ! (4 ∷ []) $ Some-out ! Lent value (v ∷ [])
    (λ xs led. peeks ! Lent _ (shows 𝓛 Lent) value xs (λ told. let is_at = mut_Tells (named 0) κ V value xs told in
    rewrite ! 0 (λ (us : List Val). ‵ (Lent.own_val value us)) is_at refl $
    lands_as ! (ap only led ∙ ap (λ (us : List Val). live 1 (of_list (us ++ []))) is_at) refl (tt, (record { fits = lit< tt }, (tt, tt))) $
    -- The context: the value, the formula of the content, the lifetime token of the text, `ftrue`,
    -- the lifetime token of the content, the text.
    first ! $ switches ! (get_tag ! (vrt ! refl (fld ! refl (stop !))) (whole !)) (
      (λ _. sets_last ! (of_opd ! (get_in ! (vrt ! refl (fld ! refl (stop !))) (in_variant ! 1 0 refl refl (whole !)))) refl (tt, tt) $
          exec ! 𝓣.C 𝓣.Λ (env code.locals l) code.t-4 (at_ret (env code.locals l) (W.post y)) $
          let G₃ = triple_of 𝓛 b.signature (b.spec 𝓛 𝓜.mem 𝓡.returns) in
          let z₃ : G₃.Ghost = (((κ', tt), (q', tt), tt, (p, tt), (ps, tt)), tt) in
          move ! (5 ∷ 2 ∷ []) $ maps 𝓛 ! κ' q' (framed 𝓤 𝓛.H 𝓜 𝓣) G₃
          (b-thm.met 𝓤 𝓛 𝓜 𝓡 (codes.calls-ijson_extra::pointer::lend::behind_first 𝓡.env wired)) z₃ (OptionOf S)
          (option_laws S (of_field (str-field at) (str-laws at) refl (copy_shared (str-field at) (str-copy at)))) (S.own_val p ps)
          (id⊢ 𝓤 _)
          (and_then ! (get ! refl) (no_more !)) (λ left (ends : Unit {0} × Unit {0}). lasts b.ended (κ', tt) (p, tt) ends)
          (λ (o : Option (Bor (List ℕ))). raw (fact 𝓤 (IfSome o (λ left. (length left.now < length p.now)
          × (written_tokens p.now ≡ token ∷ written_tokens left.now))))
          ⊛ raw (fact 𝓤 (IfNone o (written_tokens p.now ≡ token ∷ [])))) (λ v₃. id⊢ 𝓤 _)
          (λ v₃ o _. split ! $ heard ! _ (λ more_left. heard ! _ (λ none_left.
          -- The context: the rest of the text, the lifetime token of the text, the value, the
          -- formula of the content, `ftrue`, the lifetime token of the content.
          by_option o
          (λ alone. let last = subst (λ (o' : Rest). IfNone o' (written_tokens p.now ≡ token ∷ [])) alone none_left in
          rewrite ! 0 (λ (o' : Rest). ‵ ((OptionOf S).own_val o' (v₃ ∷ []))) alone refl $ none_out ! S (v₃ ∷ []) (λ led₃.
          lands_as ! (ap only led₃) refl (tt, (record { fits = lit< tt }, tt)) $
          first ! $ switches ! (get_tag ! (vrt ! refl (fld ! refl (stop !))) (whole !)) (
            (λ e. absurd (suc-ne-zero 0 (sym e))),
            (
              (λ _. sets ! (addr ! (through ! refl (stop !))) refl (tt, tt) $
                  sets ! (agg ! (and_then ! (lit ! tt) (and_then ! (get ! refl) (no_more !)))) refl
                  (tt, (record { fits = lit< tt }, (tt, tt))) $
                  returns_within ! (W.post y) refl (look_at ! 0 refl) $ free_all ! refl $
                  let ptr : Val = vptr value.ref_ptr.0 value.ref_ptr.1 in
                  move ! (1 ∷ []) $
                  use1 𝓛 (‵ ((OptionOf Lent).own_val (Some value) (live 1 (of_list (ptr ∷ [])) ∷ []))) (Some-of 𝓛 Lent value ptr) $
                  use0 𝓛 (‵ (follows N N γ γ (λ w. w))) (follows_itself 𝓛 N γ) $ move ! (0 ∷ 3 ∷ []) $
                  use2 𝓛 (‵ (LendsNamedInside r whole_text (Some value)))
                  (then_such 𝓛 N N V (λ w. w) (O (Some value)) P₀ (P (Some value)) P₀
                  (λ w n h. next_with old p.now [] last value.now.tree found' w.tree w.tree (node_tree n) h refl) (λ n h. h) γ γ
                  (maybe.some value.ghost_name)) $ keep ! (1 ∷ 4 ∷ 2 ∷ 0 ∷ []) $
                  suffices ! _ (ends_at 𝓛 f.ended stayed c y (live 1 (of_list (ptr ∷ []))) (Some value) (tt, (tt, tt)) (tt, (tt, tt))) $
                  nothing ! $ nothing ! $ fjoin ! $ nothing ! $ fjoin ! $ join ! $ nothing ! $ move ! (3 ∷ 0 ∷ []) $ join ! $
                  move ! (2 ∷ 0 ∷ []) $ join ! $ join ! $ frame ! $
                  says ! (next_found old p.now [] last value.now.tree found' (Some value.now.tree) refl) $ done !),
              (λ n. absurd (n.1 refl)),
            ),
          )))
          (λ left further. let is = subst (λ (o' : Rest). IfSome o' (λ left'. (length left'.now < length p.now)
          × (written_tokens p.now ≡ token ∷ written_tokens left'.now))) further more_left in
          let ls : List Val = shr_slice_vals left in
          rewrite ! 0 (λ (o' : Rest). ‵ ((OptionOf S).own_val o' (v₃ ∷ []))) further refl $ Some-out ! S left (v₃ ∷ [])
          (λ us led₃. peeks ! S _ (shows 𝓛 S) left us (λ told₃. let is_at₃ = (str-laws at).tells left us told₃ in
          rewrite ! 0 (λ (us' : List Val). ‵ (S.own_val left us')) is_at₃ refl $
          let typed₃ = (((str-laws at).lawful 𝓛).typed left ls (subst (λ (us' : List Val). Is S left us') is_at₃ told₃)).0 in
          lands_as ! (ap only led₃ ∙ ap (λ (us' : List Val). live 1 (of_list (us' ++ []))) is_at₃) refl
          (tt, (record { fits = lit< tt }, (typed₃.1, tt))) $
          first ! $ switches ! (get_tag ! (vrt ! refl (fld ! refl (stop !))) (whole !)) (
            (λ _. sets_last ! (of_opd ! (get_in ! (vrt ! refl (fld ! refl (stop !))) (in_variant ! 1 0 refl refl (whole !)))) refl typed₃ $
                exec ! 𝓣.C 𝓣.Λ (env code.locals l) code.t-6 (at_ret (env code.locals l) (W.post y)) $
                sets ! (addr ! (through ! refl (stop !))) refl (tt, tt) $
                let G₂ = triple_of 𝓛 h.signature (h.spec 𝓛 𝓜.mem 𝓡.returns) in
                let z₂ : G₂.Ghost = (((κ, tt), (q, tt), tt, (value, tt), (mut_vals value, tt)), tt) in
                move ! (2 ∷ 5 ∷ []) $ maps 𝓛 ! κ q (framed 𝓤 𝓛.H 𝓜 𝓣) G₂
                (h-thm.met 𝓤 𝓛 𝓜 𝓡 (codes.calls-ijson_extra::pointer::lend::opened 𝓡.env wired)) z₂ (MutRef (named 0) κ N) (opened_laws κ)
                (Lent.own_val value (mut_vals value)) (id⊢ 𝓤 _) (and_then ! (get ! refl) (no_more !))
                (λ u (ends : Unit {0} × Unit {0}). lasts h.ended (κ, tt) (value, tt) ends)
                (λ (u : MutBor Destructured). ‵ (follows V N value.ghost_name u.ghost_name node_value)
                ⊛ raw (fact 𝓤 (node_value u.now ≡ value.now)))
                (λ v₂. id⊢ 𝓤 _) (λ v₂ u typed₂. lands_as ! refl refl typed₂.0 $ split ! $ move ! (1 ∷ []) $
                heard ! _ (λ same. let same' = ap (λ (w : WellFormed). w.tree) same in
                -- The context: the formula of the value, its content, the lifetime token of this
                -- content, the rest of the text, the lifetime token of the text, the formula of the
                -- outer content, `ftrue`.
                let G₄ = triple_of 𝓛 f.signature (f.spec 𝓛 𝓜.mem 𝓡.returns) in
                let z₄ : G₄.Ghost = ((κs, qs, y'.0.2, (u, (left, tt)), ((v₂ ∷ []), (ls, tt))), tt) in
                let once : Contract 𝓤 = record {
                  Ghost = Unit {0};
                  args = λ _. G₄.args z₄;
                  pre = λ _. G₄.pre z₄;
                  post = λ _. G₄.post z₄;
                } in
                move ! (1 ∷ 3 ∷ 2 ∷ 4 ∷ []) $ finds 𝓛 ! κ q (framed 𝓤 𝓛.H 𝓜 𝓣) once (λ _. smaller z₄ is.0) tt (OptionOf Lent)
                (value_found_laws κ) κ' q' ((MutRef (named 0) κ N).own_val u (v₂ ∷ [])) (S.own_val left ls) (‵ ftrue) (no_need 𝓛) (id⊢ 𝓤 _)
                (and_then ! (get ! refl) (and_then ! (get ! refl) (no_more !)))
                (λ (ends : Unit {0} × (Unit {0} × Unit {0})). lasts f.ended κs (u, (left, tt)) ends) (LendsNamedInside u (47 ∷ left.now))
                (λ (o' : Found). raw (fact 𝓤 (tree_lent o' ≡ found_at (node_tree u.now) (47 ∷ left.now)))) (λ v₄. id⊢ 𝓤 _)
                (λ v₄ o' typed₄. heard ! _ (λ deeper. lands_as ! refl refl typed₄.0 $ returns ! (look_at ! 0 refl) $ free_all ! refl $
                -- The context: the result, the formula of the value's content, its lifetime token,
                -- the lifetime token of the text, the formula of the value, the formula of the
                -- outer content, and more.
                move ! (5 ∷ 4 ∷ 1 ∷ []) $ use3 𝓛 (‵ (LendsNamedInside r whole_text o'))
                (step_on 𝓛 N V V N (O (Some value)) P₀ node_value
                (λ w n. OnSome o' (node_tree n ≡ resolved_with (node_tree u.now) (47 ∷ left.now) w.tree)) (λ n. node_tree n ≡ node_tree u.now)
                (P o') P₀
                (λ w n n' h k. on_both o' (λ e. next_with old p.now (written_tokens left.now) is.1 value.now.tree found' w.tree (node_tree n)
                (node_tree n') k (e ∙ ap (λ (t : Tree). resolved_with t (47 ∷ left.now) w.tree) same')) h)
                (λ n n' h k. next_left old p.now (written_tokens left.now) is.1 value.now.tree found' (node_tree n) (node_tree n') k
                (h ∙ same')) γ value.ghost_name u.ghost_name (ghost_name_of o')) $
                move ! (3 ∷ []) $ split ! $ keep ! (3 ∷ 4 ∷ 0 ∷ 2 ∷ []) $
                suffices ! _ (ends_at 𝓛 f.ended stayed c y v₄ o' (tt, (tt, tt)) (tt, (tt, tt))) $
                nothing ! $ nothing ! $ fjoin ! $ nothing ! $ fjoin ! $ join ! $ nothing ! $ move ! (3 ∷ 0 ∷ []) $ join ! $
                move ! (2 ∷ 0 ∷ []) $ join ! $ join ! $ frame ! $
                says ! (next_found old p.now (written_tokens left.now) is.1 value.now.tree found' (tree_lent o')
                (deeper ∙ ap (λ (t : Tree). found_at t (47 ∷ left.now)) same')) $ done !))))),
            ((λ e. absurd (suc-ne-zero 0 e)), (λ n. absurd (n.0.1 refl))),
          )))))))),
      ((λ e. absurd (suc-ne-zero 0 e)), (λ n. absurd (n.0.1 refl))),
    ))))))))
