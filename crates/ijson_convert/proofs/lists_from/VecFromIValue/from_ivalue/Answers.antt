use Rattle.std.proofs.Common.{◌≡◌, ◌+◌, ◌∷◌, [], ◌++◌, take, map, length, length-append, ap, sym, subst, ◌∙◌, arith}
use Rattle.std.proofs.Math.Logic.{⊎_map}
use Rattle.std.proofs.lemmas.List.{map_more, map_push}
use Rattle.std.proofs.lemmas.List.Elements.{All-push}
use Rattle.ijson_convert.proofs.Refusals.{passed_on}
use Rattle.std.specs.Prelude.{All}
use Rattle.ijson_value.specs.Opened.{ref_value}
use Rattle.ijson_value.specs.Same.{SameEach}
use Rattle.ijson_value.specs.Tree.{items_of}
use Rattle.ijson_value.specs.WellFormed.{tree_of}
use Rattle.ijson_convert.specs.Refused.{ListRefused, FirstRefused}
use Rattle.ijson_convert.proofs.reading.ItemsRead.{AllRead, each_pushed, read_pushed, first_refused}
use Rattle.ijson_convert.proofs.lists_from.VecFromIValue.from_ivalue.Goals as goal

pub returns-in_err-from_ivalue-clause-refused : goal.returns-in_err-from_ivalue-clause-refused
returns-in_err-from_ivalue-clause-refused g c =
    let refused = g.T.FromIValue.refused in
    let xs = c.as_slice-item-items.result.now in
    let i = c.loop-item.item-index in
    let e = c.in_err-from_ivalue.field-0.0 in
    let is = ap (λ v. v.tree) (sym c.destructure_ref.ensures ∙ ap ref_value c.in-Array.is) in
    let items = ap (λ vs. items_of (map tree_of vs)) c.as_slice-item-items.ensures in
    passed_on _ _ c.from_residual-in_err-from_ivalue.ensures.1 (⊎_map (λ memory. memory) (λ r.
    subst (λ t. ListRefused refused t e) (sym is) (subst (λ ts. FirstRefused refused ts e) items
    (first_refused refused xs i c.item-item.result e (omega (arith, c.loop-item-test.true)) c.loop-item.invariant.read
    (subst (λ v. refused (tree_of v) e) c.item-item.is r)))) c.in_err-from_ivalue.ensures.refused)

pub loop-item-preserved : goal.loop-item-preserved
loop-item-preserved g c =
    let tree = g.T.FromIValue.tree in
    let refused = g.T.FromIValue.refused in
    let none = g.T.FromIValue.null_is_none in
    let xs = c.as_slice-item-items.result.now in
    let x = c.in_ok-from_ivalue.field-0 in
    let i = c.loop-item.item-index in
    let us = map tree_of (take i xs) in
    let u = c.item-item.result.tree in
    let ts = map tree c.loop-item.list.items in
    let more : map tree_of (take (i + 1) xs) ≡ us ++ u ∷ [] =
    map_more tree_of xs i c.item-item.result (omega (arith, c.loop-item-test.true)) ∙ ap (λ v. us ++ tree_of v ∷ []) (sym c.item-item.is) in
    let items_are : c.push_reserved.new.self.items ≡ c.loop-item.list.items ++ x ∷ [] =
    c.push_reserved.ensures.items in
    let pushed : map tree c.push_reserved.new.self.items ≡ ts ++ tree x ∷ [] =
    ap (map tree) items_are ∙ map_push tree c.loop-item.list.items x in
    let same = each_pushed ts us (tree x) u c.loop-item.invariant.same c.in_ok-from_ivalue.ensures.same in
    let read = read_pushed refused us u c.loop-item.invariant.read c.in_ok-from_ivalue.ensures.read in
    record {
      same = subst (λ l. SameEach (items_of l) (items_of (map tree_of (take (i + 1) xs)))) (sym pushed)
          (subst (λ l. SameEach (items_of (ts ++ tree x ∷ [])) (items_of l)) (sym more) same);
      read = subst (AllRead refused) (sym more) read;
      none = subst (All none) (sym items_are)
          (All-push none c.loop-item.list.items x c.loop-item.invariant.none c.in_ok-from_ivalue.ensures.none);
      full = ap length items_are ∙ omega (arith, length-append c.loop-item.list.items (x ∷ []), c.loop-item.invariant.full);
      room = omega (arith, c.push_reserved.ensures.capacity, c.loop-item.invariant.room);
    }
