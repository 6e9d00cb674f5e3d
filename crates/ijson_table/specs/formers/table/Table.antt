-- The former of `Table`: the former of `LinearPairs` with the slots. With it, a recursive type can
-- contain a `Table` of itself.
use Rattle.std.specs.Prelude.{◌≡◌, ℕ, List, [], map, Option, vec_capacity}
use Rattle.std.specs.Coded.{coded_option}
use mathlib.Core.Path.{refl, sym, ap, subst}
use mathlib.Core.Former.{Former, this, const, pair, such, via, children}
use base.Stored.{code_map, coded×, coded_list, coded_ℕ, gcons}
use denote.RattleType.{RattleType}
use denote.HoleLaws.{Alike}
use denote.HolePlaces.{Recodes, struct_places, laid}
use denote.Hole.Carrier.{listed}
use denote.Hole.Fix.{over as within}
use denote.Param.Weighed.{Weighed, most}
use denote.Model.Placed.{view_places}
use Rattle.std.specs.formers.vec.Vec as vec
use Rattle.std.specs.declared.alloc.Global.{Global}
use Rattle.std.specs.declared.marker.PhantomData.{PhantomData}
use Rattle.std.specs.contracts.alloc.Global as heap
use Rattle.std.specs.contracts.impls.GlobalAllocator.TheImpl.{ghosts}
use Rattle.ijson_table.specs.Store.{IsDistinct, keys_of}
use Rattle.ijson_table.specs.laws.Store.{IsDistinct-prop}
use Rattle.ijson_table.specs.Placed.{Placed}
use Rattle.ijson_table.specs.laws.Placed.{IsPlaced-prop, placed_along}
use Rattle.ijson_table.specs.declared.slot.Slot.{Slot}
use Rattle.ijson_table.specs.private.SlotHashes.{positions}
use Rattle.ijson_table.specs.declared.hash.KeyHash as hashing
use Rattle.ijson_table.specs.formers.linear.LinearPairs as linear
use Rattle.ijson_table.specs.declared.table.Table.TheInside.{Inside}
use Rattle.ijson_table.specs.declared.table.Table.TheView.{view, invariant}
use Rattle.ijson_table.specs.contracts.table.Table as C
use Rattle.ijson_table.specs.contracts.table.Table.TheInside as I

abbrev pub the_former : Former {0} → Type 0 → Former {0}
the_former g H = via (pair (linear.the_former g) (const (List (Option ℕ)))) (λ X. Placed (g.Of X)) (λ X t. (t.store, t.slots))
    (λ X v. record { store = v.0; slots = v.1 }) (λ X t. refl) (λ X v. refl)

abbrev pub the_weighed : {g : Former {0}} → Weighed g → (H : Type 0) → Weighed (the_former g H)
the_weighed w H = record {
  weight = λ X μ t. most (w.weight X μ) (linear.values_of t.store.pairs);
  puts = λ X μ t. linear.pairs_put w X μ t.store.pairs;
}

pub the_empty : (H : Type 0) → H → Placed ⊥
the_empty H h = record { store = linear.the_empty; slots = [] }

abbrev pub the_items : (H X : Type 0) → Placed X → List X
the_items H X t = linear.the_items X t.store

pub the_items_listed : (H X : Type 0) (t : Placed X) → listed _ (children (the_former this H) X t) ≡ the_items H X t
the_items_listed H X t = linear.the_items_listed X t.store

-- The fields of `Table`: a `Vec` of entries, and the fields without values. `fields` adds that the
-- keys are distinct.
abbrev columns : Type 0 → Former {0}
columns H = pair (vec.the_former (linear.entry this) Global) (const (List Slot × (Global × PhantomData H)))

keys_in_shape : (H X : Type 0) (c : (columns H).Of X) → keys_of ((columns H).shape X c).0.items ≡ keys_of c.0.items
keys_in_shape H X c = linear.keys_on_values _ c.0.items

abbrev fields : (H : Type 0) → hashing.Ghosts H → Former {0}
fields H K = via (such (columns H) (λ X c. IsDistinct (keys_of c.0.items)) (λ a. IsDistinct (keys_of a.0.items))
    (λ X c. IsDistinct-prop (keys_of c.0.items)) (λ a. IsDistinct-prop (keys_of a.0.items))
    (λ X c p. subst IsDistinct (sym (keys_in_shape H X c)) p) (λ X c q. subst IsDistinct (keys_in_shape H X c) q))
    (λ X. Inside X H K) (λ X u. ((u.pairs, (u.slots, (u.alloc, u.hash))), u.distinct))
    (λ X v. record { pairs = v.0.0; slots = v.0.1.0; alloc = v.0.1.1.0; hash = v.0.1.1.1; distinct = v.1 })
    (λ X u. refl) (λ X v. refl)

module _ (H : RattleType) (K : hashing.Ghosts H.Denot) where
  natural : (X Y : Type 0) (h : X → Y) (u : Inside X H.Denot K)
      → view Y H.Denot K ((fields H.Denot K).map X Y h u) ≡ (the_former this H.Denot).map X Y h (view X H.Denot K u)
  natural X Y h u = λ i. record {
    store = record {
      pairs = map (linear.on_value h) u.pairs.items;
      capacity = vec_capacity u.pairs;
      distinct = IsDistinct-prop (keys_of (map (linear.on_value h) u.pairs.items))
          (view Y H.Denot K ((fields H.Denot K).map X Y h u)).store.distinct
          ((the_former this H.Denot).map X Y h (view X H.Denot K u)).store.distinct i;
    };
    slots = positions u.slots;
  }

  module _ (R S : RattleType) (h : R.Denot → S.Denot) where
    pub the_places : Alike R S h → Alike (C.the_row R H K) (C.the_row S H K) ((the_former this H.Denot).map R.Denot S.Denot h)
    the_places a = view_places (fields H.Denot K) (the_former this H.Denot) (λ X. view X H.Denot K) natural
        (λ X u. refl) R.Denot S.Denot h (C.the_row R H K).coded (C.the_row S H K).coded
        (invariant R.Denot H.Denot K) (invariant S.Denot H.Denot K)
        (λ u. IsPlaced-prop K.hash_of u.pairs.items (vec_capacity u.pairs) u.slots)
        (λ u. IsPlaced-prop K.hash_of u.pairs.items (vec_capacity u.pairs) u.slots)
        (λ u. placed_along K.hash_of u.pairs.items (map (linear.on_value h) u.pairs.items) (vec_capacity u.pairs) u.slots
        (sym (linear.keys_on_values h u.pairs.items)) (sym (linear.length_on_values h u.pairs.items)))
        (λ u. placed_along K.hash_of (map (linear.on_value h) u.pairs.items) u.pairs.items (vec_capacity u.pairs) u.slots
        (linear.keys_on_values h u.pairs.items) (linear.length_on_values h u.pairs.items))
        (within (I.the_row R H K)) (within (I.the_row S H K))
        (struct_places (I.the_type R H K) (I.the_type S H K)
        (vec.mapped (linear.on_value h), (λ n. n, (λ n. n, (λ n. n, tt)))) _ (λ d. refl) refl (
          laid _ _ _ (vec.the_places heap.the_row ghosts (linear.pair_of R) (linear.pair_of S) (linear.on_value h)
              (linear.pair_places R S h a)),
          (
            (refl, (λ n. refl, λ n. refl)),
            ((refl, (λ n. refl, λ n. refl)), ((refl, (λ n. refl, λ n. refl)), tt)),
          ),
        ))

    pub the_codes_placed : Recodes R S h → Recodes (C.the_row R H K) (C.the_row S H K) ((the_former this H.Denot).map R.Denot S.Denot h)
    the_codes_placed e d = ap (λ x. gcons (gcons x (coded_ℕ.code d.store.capacity)) ((coded_list (coded_option coded_ℕ)).code d.slots))
        (sym (code_map (coded× (coded_list coded_ℕ) R.coded).code (coded× (coded_list coded_ℕ) S.coded).code (linear.on_value h)
        (λ p i. gcons ((coded_list coded_ℕ).code p.0) (sym (e p.1) i)) d.store.pairs))
