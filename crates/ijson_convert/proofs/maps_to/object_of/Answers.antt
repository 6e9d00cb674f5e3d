use Rattle.std.proofs.Common.{◌≡◌, refl, ◌∷◌, ◌++◌, ◌+◌, suc, List, String, map, length, ap, sym, subst, ◌∙◌, arith, rules}
use Rattle.std.specs.Prelude.{string_bytes}
use Rattle.std.specs.declared.alloc.Global.{Global}
use Rattle.std.specs.Iterator.{AlwaysYields}
use Rattle.std.specs.Map.Iter.{deref_pair}
use Rattle.std.proofs.lemmas.List.{length-append, map-append}
use Rattle.ijson_convert.proofs.Refusals.{passed_on}
use Rattle.ijson_table.specs.Store.{IsDistinct}
use Rattle.ijson_value.specs.WellFormed.{tree_of}
use Rattle.ijson_convert.specs.MapTree.{pair_tree, map_tree}
use Rattle.ijson_convert.specs.TextsOf.{texts_of}
use Rattle.ijson_convert.proofs.Interning.{none_interned, wholly_interned}
use Rattle.ijson_convert.proofs.pairs.PairsPut.{SoFar, as_many, one_more, one_refused, all_put}
use Rattle.ijson_convert.proofs.pairs.Shown.{shown_next, shown_all}
use Rattle.ijson_convert.proofs.maps_to.object_of.Goals.{In-Some, In-None}
use Rattle.ijson_convert.proofs.maps_to.object_of.Goals as goal

-- The entry that the iterator yields is the first entry of `all` after the entries already yielded.
next : (g : _) (c : In-Some g) (all : List (String Global × g.row.T.Denot))
    → AlwaysYields g.I.Iterator.next_gives deref_pair c.args.entries all
    → (rest : List (String Global × g.row.T.Denot))
    × (all ≡ map deref_pair c.loop-key.yielded ++ (c.in-Some.key.now, c.in-Some.x.now) ∷ rest)
next g c all a =
    shown_next g.I.Iterator.next_gives deref_pair c.into_iter-key-iterator.ensures.into_iter_gives c.loop-key.yielded all
    c.loop-key.key-iterator c.next.new.self a c.loop-key.yielded_by (c.in-Some.key, c.in-Some.x) c.in-Some.ensures.steps

-- If the iterator yields `None`, all entries have been yielded.
all_came : (g : _) (c : In-None g) (all : List (String Global × g.row.T.Denot))
    → AlwaysYields g.I.Iterator.next_gives deref_pair c.args.entries all → all ≡ map deref_pair c.loop-key.yielded
all_came g c all a =
    shown_all g.I.Iterator.next_gives deref_pair c.into_iter-key-iterator.ensures.into_iter_gives c.loop-key.yielded all
    c.loop-key.key-iterator c.next.new.self a c.loop-key.yielded_by c.in-None.ensures.steps

-- If the iterator yields `None`, `SoFar` holds for all entries.
whole : (g : _) (c : In-None g) (all : List (String Global × g.row.T.Denot))
    → AlwaysYields g.I.Iterator.next_gives deref_pair c.args.entries all
    → SoFar (pair_tree g.T.ToIValue.tree) c.args.cache.now c.loop-key.pairs.items all c.loop-key.cache
whole g c all a =
    subst (λ es. SoFar (pair_tree g.T.ToIValue.tree) c.args.cache.now c.loop-key.pairs.items es c.loop-key.cache) (sym (all_came g c all a))
    c.loop-key.invariant.so_far

pub push_reserved-requires : goal.push_reserved-requires
push_reserved-requires g c =
    let given = c.requires.given in
    let more = next g (goal.at.push_reserved-requires g c).In-Some given.0 given.1 in
    let yielded = c.loop-key.yielded in
    let size : length given.0 ≡ length (map deref_pair yielded) + suc (length more.0) = ap length more.1 ∙ length-append _ _ in
    omega (arith, c.loop-key.invariant.room, as_many c.loop-key.invariant.so_far, given.2, size, c.loop-key.pairs.ok.0)

pub loop-key-preserved : goal.loop-key-preserved
loop-key-preserved g c =
    let pair = c.in_ok-pair_of.ensures.pair in
    let key = c.in-Some.key.now in
    record {
      ready = search rules;
      finite = search rules;
      so_far = one_more c.loop-key.invariant.so_far (key, c.in-Some.x.now) c.as_str.ensures.value c.in_ok-pair_of.field-0 pair.0 pair.1
          c.push_reserved.ensures.items (map-append deref_pair c.loop-key.yielded _) c.in_ok-pair_of.ensures.cache;
      room = search rules;
    }

pub returns-in_err-pairs-clause-refused : goal.returns-in_err-pairs-clause-refused
returns-in_err-pairs-clause-refused g c = λ all a.
    passed_on _ _ c.from_residual.ensures.1 (refl, none_interned (texts_of (map_tree g.T.ToIValue.tree all)) c.args.cache.now)

pub returns-in_err-pair_of-clause-refused : goal.returns-in_err-pair_of-clause-refused
returns-in_err-pair_of-clause-refused g c = λ all a.
    let more = next g (goal.at.returns-in_err-pair_of-clause-refused g c).In-Some all a in
    let refused = c.in_err-pair_of.ensures.refused in
    let key = c.in-Some.key.now in
    passed_on _ _ c.from_residual-in_err-pair_of.ensures.1
    (refused.0, one_refused c.loop-key.invariant.so_far (key, c.in-Some.x.now) c.as_str.ensures.value more.0 more.1 refused.1)

pub returns-in_err-object-clause-refused : goal.returns-in_err-object-clause-refused
returns-in_err-object-clause-refused g c = λ all a.
    let texts = (whole g (goal.at.returns-in_err-object-clause-refused g c).In-None all a).texts in
    passed_on _ _ c.from_residual-in_err-object.ensures.1 (refl, wholly_interned (texts_of (map_tree g.T.ToIValue.tree all)) c.args.cache.now c.loop-key.cache texts)

pub returns-clause-cache : goal.returns-clause-cache
returns-clause-cache g c = λ all a. (whole g (goal.at.returns-clause-cache g c).In-None all a).texts

pub returns-clause-tree : goal.returns-clause-tree
returns-clause-tree g c = λ all a.
    let here = (goal.at.returns-clause-tree g c).In-None in
    let given = c.requires.given in
    let same = all_came g here given.0 given.1 ∙ sym (all_came g here all a) in
    let distinct = subst (λ es. IsDistinct (map (λ e. string_bytes e.0) es)) same given.3 in
    ap tree_of c.from.ensures ∙ all_put (whole g here all a) distinct c.in_ok-object.ensures.pairs
