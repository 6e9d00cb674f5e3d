use Rattle.std.proofs.Common.{◌++◌, List, [], ◌∷◌, ◌∙◌, ap, sym, subst, refl}
use Rattle.std.specs.Prelude.{Option, Some}
use Rattle.std.specs.Iterator.{Yields}
use Rattle.std.proofs.Math.Nat.{le_refl, le_trans}
use Rattle.std.proofs.lemmas.List.{append_assoc, append-nil}
use Rattle.std.proofs.lemmas.Result.{err_from_is_err_and}
use Rattle.ijson_value.proofs.array.IArray.extend.Goals as goal

-- If an iterator yields the elements `xs` and then `x`, it yields the elements `xs ++ x ∷ []`.
yields_more : {S A : Type 0} (steps : S → Option A → S → Type 0) (s t u : S) (xs : List A) (x : A)
    → Yields steps s xs t → steps t (Some x) u → Yields steps s (xs ++ x ∷ []) u
yields_more steps s t u [] x e h = (u, subst (λ r. steps r (Some x) u) (sym e) h, refl)
yields_more steps s t u (y ∷ ys) x y' h = (y'.0, y'.1, yields_more steps y'.0 t u ys x y'.2 h)

pub items-init : goal.items-init
items-init g c = (
  c.requires c.into_iter-rest.result c.into_iter-rest.ensures.into_iter_gives,
  le_refl c.args.self.now.capacity,
  (c.into_iter-rest.result, [], c.into_iter-rest.ensures.into_iter_gives, refl, sym (append-nil c.args.self.now.items)),
)

pub items-preserved : goal.items-preserved
items-preserved g c =
    let inv = c.items.invariant in
    let run = inv.2 in
    let x = c.in-Some.item in
    let step = c.in-Some.ensures.gives in (
      c.in-Some.ensures.goes,
      le_trans inv.1 c.push.ensures.capacity,
      (
        run.0,
        run.1 ++ x ∷ [],
        run.2,
        yields_more g.I.IntoIter.Iterator.next_gives run.0 c.items.rest c.next_of.new.rest run.1 x run.3 step,
        c.in_ok-push-in-Some.ensures.ok ∙ ap (λ l. l ++ x ∷ []) run.4 ∙ append_assoc c.args.self.now.items run.1 (x ∷ []),
      ),
    )

pub returns-in-None-clause-items : goal.returns-in-None-clause-items
returns-in-None-clause-items g c =
    let run = c.items.invariant.2 in
    (run.1, run.4, (run.0, run.2, (c.next_of.new.rest, (c.items.rest, run.3, c.in-None.ensures.gives))))

pub returns-in_err-push-in-Some-clause-items : goal.returns-in_err-push-in-Some-clause-items
returns-in_err-push-in-Some-clause-items g c =
    let run = c.items.invariant.2 in
    let refused = c.in_err-push-in-Some.ensures.refused in
    let p = err_from_is_err_and c.from_residual.result c.from_residual.ensures.1 in (
      run.1,
      refused.1 ∙ run.4,
      rw (p.1, p.2, refused.0) (run.0, c.next_of.new.rest, run.2, (c.items.rest, run.3, c.in-Some.ensures.gives)),
    )
