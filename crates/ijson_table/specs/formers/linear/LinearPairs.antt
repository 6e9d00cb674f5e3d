-- The former of `LinearPairs`. With it, a recursive type can contain a `LinearPairs` of itself.
--     entry, on_value      an entry, and a function applied to the value of an entry
--     holding, mapped, got and their lemmas      a store of other entries with the same keys
use Rattle.std.specs.Prelude.{◌≡◌, ℕ, suc, length, max, List, [], ◌∷◌, map, vec_capacity}
use mathlib.Core.Path.{PathP, refl, sym, ap, subst, ◌∙◌}
use mathlib.Core.HLevel.{is_prop→PathP}
use mathlib.Core.Former.{Former, Count, Row, over, this, const, pair, list, list_count, list_put, list_get, such, via, children}
use base.Stored.{code_map, coded×, coded_list, coded_ℕ, gcons}
use denote.RattleType.{RattleType}
use denote.Struct.Tuple.{tuple_type, Tuple}
use denote.HoleLaws.{Alike}
use denote.HolePlaces.{Recodes, struct_places, laid}
use denote.Hole.Carrier.{listed}
use denote.Hole.Fix.{over as within}
use denote.Param.Nested.{deepest}
use denote.Param.Weighed.{Weighed, most, none_max, List-puts, w_pair, w_const}
use denote.Model.Placed.{view_places}
use Rattle.std.specs.formers.vec.Vec as vec
use Rattle.std.specs.declared.vec.Vec.{Vec}
use Rattle.std.specs.declared.alloc.Global.{Global}
use Rattle.std.specs.contracts.alloc.Global as heap
use Rattle.std.specs.contracts.impls.GlobalAllocator.TheImpl.{ghosts}
use Rattle.ijson_string.specs.contracts.text.IString as text
use Rattle.ijson_table.specs.Store.{Store, IsDistinct, keys_of}
use Rattle.ijson_table.specs.laws.Store.{IsDistinct-prop}
use Rattle.ijson_table.specs.private.Room.{HasRoom}
use Rattle.ijson_table.specs.laws.Room.{HasRoom-prop}
use Rattle.ijson_table.specs.declared.linear.LinearPairs.TheInside.{Inside}
use Rattle.ijson_table.specs.declared.linear.LinearPairs.TheView.{view, invariant}
use Rattle.ijson_table.specs.contracts.linear.LinearPairs as C
use Rattle.ijson_table.specs.contracts.linear.LinearPairs.TheInside as I

-- The former of an entry: a key with a value of the former `g`.
abbrev pub entry : Former {0} → Former {0}
entry g = pair (const (List ℕ)) g

-- The entry `p` with `h` applied to its value.
abbrev pub on_value : {X Y : Type 0} → (X → Y) → List ℕ × X → List ℕ × Y
on_value h p = (p.0, h p.1)

abbrev pub values_of : {X : Type 0} → List (List ℕ × X) → List X
values_of [] = []
values_of (p ∷ ps) = p.1 ∷ values_of ps

pub keys_on_values : {X Y : Type 0} (h : X → Y) (ps : List (List ℕ × X)) → keys_of (map (on_value h) ps) ≡ keys_of ps
keys_on_values h [] = refl
keys_on_values h (p ∷ ps) = ap (λ l. p.0 ∷ l) (keys_on_values h ps)

pub length_on_values : {X Y : Type 0} (h : X → Y) (ps : List (List ℕ × X)) → length (map (on_value h) ps) ≡ length ps
length_on_values h [] = refl
length_on_values h (p ∷ ps) = ap suc (length_on_values h ps)

most_values : {Y : Type 0} (f : Y → ℕ) (ps : List (List ℕ × Y)) → most (λ p. max 0 (f p.1)) ps ≡ most f (values_of ps)
most_values f [] = refl
most_values f (p ∷ ps) = λ i. max (sym (none_max (f p.1)) i) (most_values f ps i)

pub pairs_put : {g : Former {0}} (w : Weighed g) (X : Type 0) (μ : X → ℕ) (ps : List (List ℕ × g.Of X)) (n : Count) (t : Row X n)
    → deepest μ (list_count (entry g) (map ((entry g).shape X) ps) n) (list_put (entry g) X ps n t)
    ≡ max (most (w.weight X μ) (values_of ps)) (deepest μ n t)
pairs_put w X μ ps n t = List-puts (w_pair (w_const (List ℕ)) w) X μ ps n t
    ∙ ap (λ a. max a (deepest μ n t)) (most_values (w.weight X μ) ps)

-- Stores with the capacity of `d` and other entries.
module _ {X Y : Type 0} (d : Store X) where
  abbrev pub holding : (ps : List (List ℕ × Y)) → IsDistinct (keys_of ps) → Store Y
  holding ps ok = record { pairs = ps; capacity = d.capacity; distinct = ok }

  pub same_keys : (ps : List (List ℕ × Y)) → keys_of ps ≡ keys_of d.pairs → IsDistinct (keys_of ps)
  same_keys ps e = subst IsDistinct (sym e) d.distinct

  pub Distinct-along : (ps qs : List (List ℕ × Y)) (e : ps ≡ qs) (p : IsDistinct (keys_of ps)) (q : IsDistinct (keys_of qs))
      → PathP (λ i. IsDistinct (keys_of (e i))) p q
  Distinct-along ps qs e = is_prop→PathP (λ i. IsDistinct (keys_of (e i))) (λ i. IsDistinct-prop (keys_of (e i)))

  abbrev pub holding_along : (ps qs : List (List ℕ × Y)) (e : ps ≡ qs) (p : IsDistinct (keys_of ps)) (q : IsDistinct (keys_of qs))
      → holding ps p ≡ holding qs q
  holding_along ps qs e p q = λ i. holding (e i) (Distinct-along ps qs e p q i)

abbrev pub mapped : {X Y : Type 0} → (X → Y) → Store X → Store Y
mapped h d = holding d (map (on_value h) d.pairs) (same_keys d (map (on_value h) d.pairs) (keys_on_values h d.pairs))

module _ (g : Former {0}) where
  pub keys_got : (X : Type 0) (a : List (List ℕ × g.Shape)) (n : Count) (v : Row X (list_count (entry g) a n))
      → keys_of (list_get (entry g) X a n v).0 ≡ keys_of a
  keys_got X [] n v = refl
  keys_got X (a ∷ rest) n v = ap (λ l. a.0 ∷ l) (keys_got X rest n (g.get X a.1 (list_count (entry g) rest n) v).1)

  abbrev pub got : (X : Type 0) (a : Store g.Shape) (n : Count) → Row X (list_count (entry g) a.pairs n) → Store (g.Of X) × Row X n
  got X a n v =
      let r : List (List ℕ × g.Of X) × Row X n = list_get (entry g) X a.pairs n v in
      (holding a r.0 (same_keys a r.0 (keys_got X a.pairs n v)), r.1)

  pub got-put : (X : Type 0) (d : Store (g.Of X)) (n : Count) (t : Row X n)
      → got X (mapped (g.shape X) d) n ((list (entry g)).put X d.pairs n t) ≡ (d, t)
  got-put X d n t = λ i. (
    holding_along d _ _ (λ j. ((list (entry g)).get-put X d.pairs n t j).0)
        (got X (mapped (g.shape X) d) n ((list (entry g)).put X d.pairs n t)).0.distinct d.distinct i,
    ((list (entry g)).get-put X d.pairs n t i).1,
  )

  pub put-got : (X : Type 0) (a : Store g.Shape) (n : Count) (v : Row X (list_count (entry g) a.pairs n))
      → ◌≡◌ {A = (b : Store g.Shape) × Row X (list_count (entry g) b.pairs n)}
      (mapped (g.shape X) (got X a n v).0, (list (entry g)).put X (got X a n v).0.pairs n (got X a n v).1) (a, v)
  put-got X a n v = λ i. (
    holding_along a _ _ (λ j. ((list (entry g)).put-get X a.pairs n v j).0)
        (mapped (g.shape X) (got X a n v).0).distinct a.distinct i,
    ((list (entry g)).put-get X a.pairs n v i).1,
  )

  pub got-map : (X Y : Type 0) (h : X → Y) (a : Store g.Shape) (n : Count) (v : Row X (list_count (entry g) a.pairs n))
      → got Y a n (over h (list_count (entry g) a.pairs n) v) ≡ (mapped (g.map X Y h) (got X a n v).0, over h n (got X a n v).1)
  got-map X Y h a n v = λ i. (
    holding_along a _ _ (λ j. ((list (entry g)).get-map X Y h a.pairs n v j).0)
        (got Y a n (over h (list_count (entry g) a.pairs n) v)).0.distinct (mapped (g.map X Y h) (got X a n v).0).distinct i,
    ((list (entry g)).get-map X Y h a.pairs n v i).1,
  )

  abbrev pub the_former : Former {0}
  the_former = record {
    Of = λ X. Store (g.Of X);
    Shape = Store g.Shape;
    count = λ a. list_count (entry g) a.pairs;
    shape = λ X. mapped (g.shape X);
    put = λ X d. (list (entry g)).put X d.pairs;
    get = got;
    map = λ X Y h. mapped (g.map X Y h);
    get-put = got-put;
    put-get = put-got;
    get-map = got-map;
  }

abbrev pub the_weighed : {g : Former {0}} → Weighed g → Weighed (the_former g)
the_weighed w = record { weight = λ X μ d. most (w.weight X μ) (values_of d.pairs); puts = λ X μ d. pairs_put w X μ d.pairs }

pub the_empty : Store ⊥
the_empty = record { pairs = []; capacity = 0; distinct = tt }

abbrev pub the_items : (X : Type 0) → Store X → List X
the_items X d = values_of d.pairs

values_listed : (X : Type 0) (ps : List (List ℕ × X)) → listed _ (children (list (entry this)) X ps) ≡ values_of ps
values_listed X [] = refl
values_listed X (p ∷ ps) = ap (λ l. p.1 ∷ l) (values_listed X ps)

pub the_items_listed : (X : Type 0) (d : Store X) → listed _ (children (the_former this) X d) ≡ the_items X d
the_items_listed X d = values_listed X d.pairs

-- The field of `LinearPairs`: a `Vec` of entries. `fields` adds that the keys are distinct.
abbrev columns : Former {0}
columns = vec.the_former (entry this) Global

keys_in_shape : (X : Type 0) (c : Vec (List ℕ × X) Global) → keys_of (columns.shape X c).items ≡ keys_of c.items
keys_in_shape X c = keys_on_values _ c.items

abbrev fields : Former {0}
fields = via (such columns (λ X c. IsDistinct (keys_of c.items)) (λ a. IsDistinct (keys_of a.items))
    (λ X c. IsDistinct-prop (keys_of c.items)) (λ a. IsDistinct-prop (keys_of a.items))
    (λ X c p. subst IsDistinct (sym (keys_in_shape X c)) p) (λ X c q. subst IsDistinct (keys_in_shape X c) q))
    (λ X. Inside X) (λ X u. (u.pairs, u.distinct)) (λ X v. record { pairs = v.0; distinct = v.1 })
    (λ X u. refl) (λ X v. refl)

natural : (X Y : Type 0) (h : X → Y) (u : Inside X) → view Y (fields.map X Y h u) ≡ (the_former this).map X Y h (view X u)
natural X Y h u = λ i. record {
  pairs = map (on_value h) u.pairs.items;
  capacity = vec_capacity u.pairs;
  distinct = IsDistinct-prop (keys_of (map (on_value h) u.pairs.items)) (view Y (fields.map X Y h u)).distinct
      ((the_former this).map X Y h (view X u)).distinct i;
}

abbrev pub pair_of : RattleType → RattleType
pair_of R = Tuple (text.the_row ∷ R ∷ [])

module _ (R S : RattleType) (h : R.Denot → S.Denot) where
  pub pair_places : Alike R S h → Alike (pair_of R) (pair_of S) (on_value h)
  pair_places a = struct_places (tuple_type (text.the_row ∷ R ∷ [])) (tuple_type (text.the_row ∷ S ∷ [])) (λ n. n, (h, tt))
      (on_value h) (λ d. refl) refl
      ((refl, (λ n. refl, λ n. refl)), (laid R S h a, tt))

  pub the_places : Alike R S h → Alike (C.the_row R) (C.the_row S) ((the_former this).map R.Denot S.Denot h)
  the_places a = view_places fields (the_former this) (λ X. view X) natural (λ X u. refl) R.Denot S.Denot h (C.the_row R).coded
      (C.the_row S).coded
      (invariant R.Denot) (invariant S.Denot) (λ u. HasRoom-prop (length u.pairs.items) (vec_capacity u.pairs))
      (λ u. HasRoom-prop (length u.pairs.items) (vec_capacity u.pairs))
      (λ u e. subst (λ n. HasRoom n (vec_capacity u.pairs)) (sym (length_on_values h u.pairs.items)) e)
      (λ u e. subst (λ n. HasRoom n (vec_capacity u.pairs)) (length_on_values h u.pairs.items) e)
      (within (I.the_row R)) (within (I.the_row S))
      (struct_places (I.the_type R) (I.the_type S) (vec.mapped (on_value h), tt) _ (λ d. refl) refl (
        laid _ _ _ (vec.the_places heap.the_row ghosts (pair_of R) (pair_of S) (on_value h) (pair_places a)),
        tt,
      ))

  pub the_codes_placed : Recodes R S h → Recodes (C.the_row R) (C.the_row S) ((the_former this).map R.Denot S.Denot h)
  the_codes_placed e d = ap (λ x. gcons x (coded_ℕ.code d.capacity))
      (sym (code_map (coded× (coded_list coded_ℕ) R.coded).code (coded× (coded_list coded_ℕ) S.coded).code (on_value h)
      (λ p i. gcons ((coded_list coded_ℕ).code p.0) (sym (e p.1) i)) d.pairs))
