-- The ownership of a variant of an enum can be split into its fields and built from them. The
-- lemmas assume `Logic`, but no laws of the field types.
use mathlib.Core.Bool.{Bool, true, false, ◌&&◌}
use mathlib.Core.Logic.{inl, inr}
use mathlib.Core.Path.{◌≡◌, refl, ap, ◌∙◌}
use Prim.Native.Nat.{ℕ}
use mathlib.Core.List.{List, [], ◌∷◌, ◌++◌}
use lib.Dec.{T}
use seplogic.Ra.Ura.{Ura}
use mir.Val.{Val, of_list}
use base.Fml.{Fml, feq, fex, fsep}
use base.Logic.{ent}
use types.Logic.{Logic, sem}
use types.Kit.{Item, Goal, Seq, ‵, ◌$◌, ◌∵◌, !, qed, move, drop, use1, fsplit, fjoin, fpick, fpack, feq_l, feq_i, done}
use types.Match.{live}
use denote.Laws.{Is, Tells}
use denote.RattleType.{RattleType, Denots, Valss, flat, owns}
use denote.Shadow.{shadow, pure_l}
use denote.Steps.{nothing}
use denote.Struct.Field.{Field}
use denote.Enum.Bare.{Bare}
use denote.Enum.Enum.{Sum, in_a_row, payload}
use denote.Enum.Declared.{Declared, rowss, row, tag_of}
use Rattle.std.specs.Prelude.{Option, None, Some}
use Rattle.std.specs.contracts.option.Option.{the_row}

-- If `b` is true, then `b && true` is true.
pub and_tt : (b : Bool) → T b → T (b && true)
and_tt true t = tt
and_tt false t = absurd t

-- If both cases of an option imply `X`, then the option implies `X`.
pub by_option : {X : Type 1} {Y : Type 0} (o : Option Y) → (o ≡ None → X) → ((y : Y) → o ≡ Some y → X) → X
by_option None none more = none refl
by_option (Some y) none more = more y refl

-- The ownership of a variant with the tag `n`, the fields `parts`, and the machine values `us` of
-- the fields.
abbrev Tagged_with : ℕ → (Rs : List RattleType) → Denots Rs → List Val → List Val → Fml
Tagged_with n Rs parts vs us = fsep (feq (List Val) vs (live n (of_list us) ∷ [])) (fex (Valss Rs) (in_a_row Rs (owns Rs parts) us))

-- The ownership of a variant with the tag `n` and the fields `parts`. The ownership of any enum
-- computes to `Tagged` at a concrete variant.
abbrev pub Tagged : ℕ → (Rs : List RattleType) → Denots Rs → List Val → Fml
Tagged n Rs parts vs = fex (List Val) (Tagged_with n Rs parts vs)

module _ {M : Type 1} {𝓤 : Ura M} {𝓛 : Logic 𝓤} {K : Type 0} {Γ : List (Item 𝓤)} {G : Goal 𝓤 𝓛.H} (t : K) where
  -- The ownership of a variant without fields implies that its machine value is the tag.
  pub bare_out : (n : ℕ) (vs : List Val) → (vs ≡ live n (of_list []) ∷ [] → Seq K 𝓛 Γ G) → Seq K 𝓛 (‵ (Tagged n [] tt vs) ∷ Γ) G
  bare_out n vs k = pure_l t (Tagged n [] tt vs) (λ seen. k (seen.1.0 ∙ ap (λ (us : List Val). live n (of_list us) ∷ []) seen.1.1.1.0))

  -- The ownership of a variant with one field can be replaced by the ownership of the field.
  pub alone_out : (n : ℕ) (R : RattleType) (x : R.Denot) (vs : List Val)
      → ((xs : List Val) → vs ≡ live n (of_list (xs ++ [])) ∷ [] → Seq K 𝓛 (‵ (R.own_val x xs) ∷ Γ) G)
      → Seq K 𝓛 (‵ (Tagged n (R ∷ []) (x, tt) vs) ∷ Γ) G
  alone_out n R x vs k = fpick t (λ us. fsplit t $ feq_l t (λ e. fpick t (λ vss. fsplit t $ feq_l t (λ e'.
      fsplit t $ move t (1 ∷ []) $ drop t $
      k vss.0 (e ∙ ap (λ (us : List Val). live n (of_list us) ∷ []) e')))))

  -- The ownership of an `Option` can be split into its tag and the ownership of its content, for
  -- any content type `R`.
  module _ (R : RattleType) where
    -- The ownership of `None` implies that its machine value is the tag 0.
    pub none_out : (vs : List Val) → (vs ≡ live 0 (of_list []) ∷ [] → Seq K 𝓛 Γ G) → Seq K 𝓛 (‵ ((the_row R).own_val None vs) ∷ Γ) G
    none_out vs k = bare_out 0 vs k

    -- The ownership of `Some x` can be replaced by the ownership of `x`.
    pub Some-out : (x : R.Denot) (vs : List Val)
        → ((xs : List Val) → vs ≡ live 1 (of_list (xs ++ [])) ∷ [] → Seq K 𝓛 (‵ (R.own_val x xs) ∷ Γ) G)
        → Seq K 𝓛 (‵ ((the_row R).own_val (Some x) vs) ∷ Γ) G
    Some-out x vs k = alone_out 1 R x vs k

-- The ownership of a variant with the tag `n` can be built from its fields.
module _ {M : Type 1} {𝓤 : Ura M} (𝓛 : Logic 𝓤) (n : ℕ) where
  -- The ownership of all fields implies the ownership of the variant.
  pub variant_made : (Rs : List RattleType) (parts : Denots Rs) (vss : Valss Rs)
      → ent 𝓤 (sem 𝓛 (owns Rs parts vss)) (sem 𝓛 (Tagged n Rs parts (live n (of_list (flat Rs vss)) ∷ [])))
  variant_made Rs parts vss = let us = flat Rs vss in let v : Val = live n (of_list us) in
      qed 𝓛 (‵ (owns Rs parts vss) ∷ []) ∵ feq_i ! (List Val) us us refl $ fjoin ! $
      fpack ! (Valss Rs) (in_a_row Rs (owns Rs parts) us) vss $ feq_i ! (List Val) (v ∷ []) (v ∷ []) refl $ fjoin ! $
      fpack ! (List Val) (Tagged_with n Rs parts (v ∷ [])) us $ done !

  -- The ownership of a field implies the ownership of the variant with only this field.
  pub alone_made : (R : RattleType) (x : R.Denot) (v : Val)
      → ent 𝓤 (sem 𝓛 (R.own_val x (v ∷ []))) (sem 𝓛 (Tagged n (R ∷ []) (x, tt) (live n (of_list (v ∷ [])) ∷ [])))
  alone_made R x v =
      qed 𝓛 (‵ (R.own_val x (v ∷ [])) ∷ []) ∵ nothing ! $ move ! (1 ∷ 0 ∷ []) $ fjoin ! $
      use1 𝓛 (‵ (Tagged n (R ∷ []) (x, tt) (live n (of_list (v ∷ [])) ∷ []))) (variant_made (R ∷ []) (x, tt) (v ∷ [], tt)) $ done !

-- If no variant of an enum has fields, then a value of the enum has no machine values of fields.
bare_fields : (Fss : List (List Field)) → Bare Fss → (x : Sum (rowss Fss)) (us : List Val) → shadow (payload (rowss Fss) x us) → us ≡ []
bare_fields [] bare x us seen = absurd x
bare_fields ([] ∷ Fss) bare (inl x) us seen = seen.1.0
bare_fields ([] ∷ Fss) bare (inr x) us seen = bare_fields Fss bare x us seen
bare_fields ((F ∷ Fs) ∷ Fss) bare x us seen = absurd bare

-- If no variant of an enum has fields, then the machine value of the enum is its tag.
pub bare_tells : (E : Declared) → Bare E.parts → Tells (row E) (Is (row E)) (λ x. live (tag_of E x) (of_list []) ∷ [])
bare_tells E bare x vs seen =
    seen.1.0 ∙ ap (λ (us : List Val). live (tag_of E x) (of_list us) ∷ []) (bare_fields E.parts bare (E.to x) seen.0 seen.1.1)
