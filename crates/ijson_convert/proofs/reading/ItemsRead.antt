-- A list of trees is accepted if each tree is accepted, and otherwise rejected with the error of
-- the first rejected tree.
use Rattle.std.proofs.Common.{◌≡◌, ◌<◌, ◌+◌, ℕ, List, [], ◌∷◌, ◌++◌, length, take, drop, map, get_or, ap, sym, subst, ◌∙◌, inl, inr}
use Rattle.std.proofs.lemmas.List.{append_assoc, map-append, map_more, take-append-drop}
use Rattle.ijson_value.specs.Same.{Same, SameEach}
use Rattle.ijson_value.specs.Tree.{Tree, items_of}
use Rattle.ijson_value.specs.WellFormed.{WellFormed, tree_of}
use Rattle.ijson_convert.specs.IsRead.{IsRead}
use Rattle.ijson_convert.specs.Refused.{FirstRefused}
use Rattle.ijson_convert.specs.declared.convert_error.ConvertError.{ConvertError}

-- If two lists of trees mean the same and `t` means the same as `u`, the lists with `t` and `u`
-- appended mean the same.
pub each_pushed : (ts us : List Tree) (t u : Tree) → SameEach (items_of ts) (items_of us) → Same t u
    → SameEach (items_of (ts ++ t ∷ [])) (items_of (us ++ u ∷ []))
each_pushed [] [] t u h s = (s, tt)
each_pushed [] (v ∷ us) t u h s = absurd h
each_pushed (w ∷ ts) [] t u h s = absurd h
each_pushed (w ∷ ts) (v ∷ us) t u h s = (h.0, each_pushed ts us t u h.1 s)

module _ (Refused : Tree → ConvertError → Type 0) where
  -- Holds if every tree of the list is accepted.
  abbrev pub AllRead : List Tree → Type 0
  AllRead ts = (e : ConvertError) → FirstRefused Refused (items_of ts) e → ⊥

  -- If all trees of `ts` and the tree `t` are accepted, so are all trees of `ts ++ t ∷ []`.
  pub read_pushed : (ts : List Tree) (t : Tree) → AllRead ts → IsRead Refused t → AllRead (ts ++ t ∷ [])
  read_pushed [] t h r = λ e f. elim f [ inl here ↦ r e here | inr later ↦ later.1 ]
  read_pushed (u ∷ ts) t h r = λ e f. elim f [
    | inl here ↦ h e (inl here)
    | inr later ↦ read_pushed ts t (λ d g. h d (inr (later.0, g))) r e later.1
  ]

  -- If all trees of `ts` are accepted and `t` is rejected, a list that begins with `ts` and `t` is
  -- rejected with the error of `t`.
  pub refused_behind : (ts : List Tree) (t : Tree) (more : List Tree) (e : ConvertError) → AllRead ts → Refused t e
      → FirstRefused Refused (items_of (ts ++ t ∷ more)) e
  refused_behind [] t more e a r = inl r
  refused_behind (u ∷ ts) t more e a r =
      let read : IsRead Refused u = λ c x. a c (inl x) in
      inr (read, refused_behind ts t more e (λ c f. a c (inr (read, f))) r)

  -- If the first `i` elements are accepted and element `i` is rejected, the list is rejected with
  -- the error of element `i`.
  pub first_refused : (vs : List WellFormed) (i : ℕ) (d : WellFormed) (e : ConvertError) → i < length vs
      → AllRead (map tree_of (take i vs)) → Refused (tree_of (get_or vs i d)) e
      → FirstRefused Refused (items_of (map tree_of vs)) e
  first_refused vs i d e h a r =
      let parts : map tree_of vs ≡ map tree_of (take i vs) ++ tree_of (get_or vs i d) ∷ map tree_of (drop (i + 1) vs) =
      ap (map tree_of) (sym (take-append-drop (i + 1) vs)) ∙ map-append tree_of (take (i + 1) vs) (drop (i + 1) vs)
      ∙ ap (λ l. l ++ map tree_of (drop (i + 1) vs)) (map_more tree_of vs i d h)
      ∙ append_assoc (map tree_of (take i vs)) (tree_of (get_or vs i d) ∷ []) (map tree_of (drop (i + 1) vs)) in
      subst (λ ts. FirstRefused Refused (items_of ts) e) (sym parts)
      (refused_behind (map tree_of (take i vs)) (tree_of (get_or vs i d)) (map tree_of (drop (i + 1) vs)) e a r)
