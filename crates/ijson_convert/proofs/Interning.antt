-- Interning `xs ++ ys` is interning `xs` and then `ys`, also if only some leading strings are
-- interned.
use Rattle.std.proofs.Common.{◌≡◌, ℕ, List, [], ◌∷◌, ◌++◌, map, refl, ap, sym, subst, ◌∙◌}
use Rattle.std.proofs.lemmas.List.{append_assoc, append-nil}
use Rattle.ijson_string.specs.Cache.{Texts, interned}
use Rattle.ijson_value.specs.Tree.{Tree, items_of, members_of}
use Rattle.ijson_convert.specs.Interned.{all_interned, SomeInterned}
use Rattle.ijson_convert.specs.TextsOf.{texts_of, items_texts, members_texts}

-- Interning `xs ++ ys` leaves the same cache as interning `xs` and then `ys`.
pub both_interned : (xs ys : List (List ℕ)) (cache : Texts)
    → all_interned (xs ++ ys) cache ≡ all_interned ys (all_interned xs cache)
both_interned [] ys cache = refl
both_interned (x ∷ xs) ys cache = both_interned xs ys (interned x cache)

-- `SomeInterned` holds if the cache is unchanged, because zero strings were interned.
pub none_interned : (texts : List (List ℕ)) (cache : Texts) → SomeInterned texts cache cache
none_interned texts cache = record { done = []; left = texts; parts = refl; cache = refl }

-- `SomeInterned` holds if all of the strings were interned.
pub wholly_interned : (texts : List (List ℕ)) (old new : Texts) → new ≡ all_interned texts old → SomeInterned texts old new
wholly_interned texts old new e = record { done = texts; left = []; parts = sym (append-nil texts); cache = e }

-- If some leading strings of `xs` were interned, so were some leading strings of `xs ++ ys`.
pub some_before : (xs ys : List (List ℕ)) (old new : Texts) → SomeInterned xs old new → SomeInterned (xs ++ ys) old new
some_before xs ys old new s = record {
  done = s.done;
  left = s.left ++ ys;
  parts = ap (λ l. l ++ ys) s.parts ∙ append_assoc s.done s.left ys;
  cache = s.cache;
}

-- If `xs` and then some leading strings of `ys` were interned, so were some leading strings of
-- `xs ++ ys`.
pub some_behind : (xs ys : List (List ℕ)) (old new : Texts) → SomeInterned ys (all_interned xs old) new
    → SomeInterned (xs ++ ys) old new
some_behind xs ys old new s = record {
  done = xs ++ s.done;
  left = s.left;
  parts = ap (λ l. xs ++ l) s.parts ∙ sym (append_assoc xs s.done s.left);
  cache = s.cache ∙ sym (both_interned xs s.done old);
}

-- For elements of type `X`, the strings of one element (`each`) and of a list (`all`), in order.
pub record Strings (X : Type 0) : Type 0 where
  pub each : X → List (List ℕ)
  pub all : List X → List (List ℕ)
  pub none : all [] ≡ []
  pub first : (x : X) (xs : List X) → all (x ∷ xs) ≡ each x ++ all xs

-- The strings of elements whose trees are given by `tree`.
abbrev pub element_strings : {X : Type 0} → (X → Tree) → Strings X
element_strings tree = record {
  each = λ x. texts_of (tree x);
  all = λ xs. items_texts (items_of (map tree xs));
  none = refl;
  first = λ _ _. refl;
}

-- The keys and strings of entries whose keys and trees are given by `pair`.
abbrev pub entry_strings : {X : Type 0} → (X → List ℕ × Tree) → Strings X
entry_strings pair = record {
  each = λ x. (pair x).0 ∷ texts_of (pair x).1;
  all = λ xs. members_texts (members_of (map pair xs));
  none = refl;
  first = λ _ _. refl;
}

module _ {X : Type 0} (s : Strings X) where
  pub strings_joined : (xs ys : List X) → s.all (xs ++ ys) ≡ s.all xs ++ s.all ys
  strings_joined [] ys = ap (λ l. l ++ s.all ys) (sym s.none)
  strings_joined (x ∷ xs) ys =
      s.first x (xs ++ ys) ∙ ap (λ l. s.each x ++ l) (strings_joined xs ys)
      ∙ sym (append_assoc (s.each x) (s.all xs) (s.all ys)) ∙ ap (λ l. l ++ s.all ys) (sym (s.first x xs))

  module _ (done : List X) (x : X) (old middle new : Texts) (so_far : middle ≡ all_interned (s.all done) old) where
    -- If the strings of `done` and then of `x` were interned, so were the strings of
    -- `done ++ x ∷ []`.
    pub one_interned : new ≡ all_interned (s.each x) middle → new ≡ all_interned (s.all (done ++ x ∷ [])) old
    one_interned n =
        n ∙ ap (all_interned (s.each x)) so_far ∙ sym (both_interned (s.all done) (s.each x) old)
        ∙ ap (λ l. all_interned (s.all done ++ l) old) (sym (s.first x [] ∙ ap (λ l. s.each x ++ l) s.none ∙ append-nil (s.each x)))
        ∙ ap (λ l. all_interned l old) (sym (strings_joined done (x ∷ [])))

    -- If all strings of `done` and some leading strings of `x` were interned, so were some leading
    -- strings of `xs`, where `xs` begins with `done` and `x`.
    pub one_begun : (left xs : List X) → done ++ x ∷ left ≡ xs → SomeInterned (s.each x) middle new → SomeInterned (s.all xs) old new
    one_begun left xs parts some =
        subst (λ l. SomeInterned l old new) (sym (strings_joined done (x ∷ left) ∙ ap (λ l. s.all done ++ l) (s.first x left))
        ∙ ap s.all parts)
        (some_behind (s.all done) (s.each x ++ s.all left) old new
        (some_before (s.each x) (s.all left) (all_interned (s.all done) old) new
        (subst (λ m. SomeInterned (s.each x) m new) so_far some)))
