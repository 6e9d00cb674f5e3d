-- A lookup that returns a reference finds the same tree as a lookup that returns the value.
use Rattle.std.proofs.Common.{◌≡◌, ℕ, List, Option, Some, None, Bor, MutBor, refl, sym, ap, ◌<◌, length}
use Rattle.std.proofs.lemmas.Option.{slice_get_past, slice_get_read}
use Rattle.std.specs.List.{HoldsAt}
use Rattle.std.specs.Option.{option_copied, option_copied_mut}
use Rattle.std.specs.Prelude.{IfSome, MatchOption, get_or, ◌≤◌, option_map, slice_get}
use Rattle.ijson_value.specs.WellFormed.{WellFormed, tree_of}

-- Reading the tree through an optional shared reference equals copying the value and taking its
-- tree.
pub found_tree : (r : Option (Bor WellFormed)) → option_map (λ v. v.now.tree) r ≡ option_map tree_of (option_copied r)
found_tree None = refl
found_tree (Some v) = refl

-- Reading the tree through an optional mutable reference equals copying the value and taking its
-- tree.
pub lent_tree : (r : Option (MutBor WellFormed)) → option_map (λ v. v.now.tree) r ≡ option_map tree_of (option_copied_mut r)
lent_tree None = refl
lent_tree (Some v) = refl

-- If `r` is the result of a lookup of index `i` in a slice, then the tree read through `r` is the
-- tree of the element at index `i`.
pub item_tree : (r : Option (Bor WellFormed)) (xs : List WellFormed) (i : ℕ)
    → MatchOption r (length xs ≤ i) (λ x. (i < length xs) × HoldsAt (λ y. x.now ≡ y) xs i)
    → IfSome r (λ x. x.now ≡ get_or xs i x.now) → option_map (λ v. v.now.tree) r ≡ option_map tree_of (slice_get xs i)
item_tree None xs i m s = sym (ap (option_map tree_of) (slice_get_past xs i m))
item_tree (Some x) xs i m s = sym (ap (option_map tree_of) (slice_get_read xs (length xs) i x.now refl m.0 s))
