-- Appending the elements `ts ++ us` to an array appends `ts` and then `us`, and stops at the first
-- failure.
use Rattle.std.proofs.Common.{◌≡◌, ◌<◌, ◌+◌, ℕ, suc, List, [], ◌∷◌, ◌++◌, length, map, get_or, take, drop, refl, ap, ap₂, sym, subst, ◌∙◌, append_assoc}
use Rattle.std.proofs.lemmas.List.{map-append, take_more, take-append-drop}
use Rattle.std.proofs.Math.Seq.{drop-cons}
use Rattle.std.specs.Prelude.{Result, Ok, Err}
use Rattle.ijson_string.specs.Cache.{Texts}
use Rattle.ijson_value.specs.Tree.{Tree, items_of}
use Rattle.ijson_value.specs.WellFormed.{WellFormed, tree_of}
use Rattle.ijson_convert.specs.Interned.{all_interned, SomeInterned}
use Rattle.ijson_convert.specs.TextsOf.{texts_of, items_texts}
use Rattle.ijson_convert.specs.private.Pushes.{Pushes}
use Rattle.ijson_convert.specs.declared.convert_error.ConvertError.{ConvertError}
use Rattle.ijson_convert.proofs.Interning.{both_interned, some_before, some_behind, strings_joined, element_strings, one_interned, one_begun}

-- The strings of an array with the trees `ts`.
abbrev texts : List Tree → List (List ℕ)
texts ts = items_texts (items_of ts)

joined : (ts us : List Tree) → texts (ts ++ us) ≡ texts ts ++ texts us
joined = strings_joined (record { each = texts_of; all = texts; none = refl; first = λ _ _. refl })

module _ {X : Type 0} {ts : List Tree} {old : List WellFormed} {before : Texts} where
  -- If pushing `ts` fails, pushing `ts ++ us` fails with the same error.
  pub first_fails : (us : List Tree) {new : List WellFormed} {after : Texts} {e : ConvertError}
      → Pushes {X = X} ts old new before after (Err e) → Pushes {X = X} (ts ++ us) old new before after (Err e)
  first_fails us {after = after} p = record {
    ok = tt;
    refused = (
      p.refused.0,
      subst (λ l. SomeInterned l before after) (sym (joined ts us))
          (some_before (texts ts) (texts us) before after p.refused.1),
    );
  }

  module _ {us : List Tree} {mid new : List WellFormed} {between after : Texts} {x : X}
      (first : Pushes ts old mid before between (Ok x)) where
    -- If pushing `ts` succeeds, pushing `ts ++ us` has the result of pushing `us` afterwards.
    pub then_pushed : {result : Result X ConvertError} → Pushes us mid new between after result
        → Pushes (ts ++ us) old new before after result
    then_pushed {result = Ok y} p = record {
      ok = (
        p.ok.0 ∙ ap (λ l. l ++ us) first.ok.0 ∙ append_assoc (map tree_of old) ts us,
        p.ok.1 ∙ ap (all_interned (texts us)) first.ok.1 ∙ sym (both_interned (texts ts) (texts us) before)
            ∙ ap (λ l. all_interned l before) (sym (joined ts us)),
      );
      refused = tt;
    }
    then_pushed {result = Err e} p = record {
      ok = tt;
      refused = (
        p.refused.0,
        subst (λ l. SomeInterned l before after) (sym (joined ts us))
            (some_behind (texts ts) (texts us) before after
            (subst (λ m. SomeInterned (texts us) m after) first.ok.1 p.refused.1)),
      );
    }

-- A list consists of its first `i` elements, element `i` and all later elements.
pub split_at : {X : Type 0} (xs : List X) (i : ℕ) (x : X) → i < length xs → x ≡ get_or xs i x
    → take i xs ++ x ∷ drop (suc i) xs ≡ xs
split_at xs i x h is =
    ap (λ y. take i xs ++ y ∷ drop (suc i) xs) is ∙ ap (λ l. take i xs ++ l) (sym (drop-cons xs i x h))
    ∙ take-append-drop i xs

module _ {X : Type 0} (tree : X → Tree) (xs : List X) (i : ℕ) (x : X) (within : i < length xs) (is : x ≡ get_or xs i x)
    (old middle new : Texts) (so_far : middle ≡ all_interned (items_texts (items_of (map tree (take i xs)))) old) where
  -- If the first `i` elements are appended and element `i` is pushed, the first `i + 1` elements
  -- are appended.
  pub item_pushed : (vs vs' : List WellFormed) (v : WellFormed) → map tree_of vs ≡ map tree (take i xs) → vs' ≡ vs ++ v ∷ []
      → v.tree ≡ tree x → new ≡ all_interned (texts_of (tree x)) middle
      → (map tree_of vs' ≡ map tree (take (i + 1) xs))
      × (new ≡ all_interned (items_texts (items_of (map tree (take (i + 1) xs)))) old)
  item_pushed vs vs' v trees pushed tree_is n =
      let more : take (i + 1) xs ≡ take i xs ++ x ∷ [] = take_more xs i x within ∙ ap (λ y. take i xs ++ y ∷ []) (sym is) in (
        ap (map tree_of) pushed ∙ map-append tree_of vs (v ∷ []) ∙ ap₂ (λ l t. l ++ t ∷ []) trees tree_is
            ∙ sym (ap (map tree) more ∙ map-append tree (take i xs) (x ∷ [])),
        one_interned (element_strings tree) (take i xs) x old middle new so_far n
            ∙ ap (λ ys. all_interned (items_texts (items_of (map tree ys))) old) (sym more),
      )

  -- If some leading strings of element `i` were interned, so were some leading strings of the list.
  pub item_begun : SomeInterned (texts_of (tree x)) middle new → SomeInterned (items_texts (items_of (map tree xs))) old new
  item_begun = one_begun (element_strings tree) (take i xs) x old middle new so_far (drop (suc i) xs) xs (split_at xs i x within is)
