-- `no_items` lends an empty slice and leaves the pointer of the array unchanged. The proof is
-- written by hand, because the slice is not a part of the pointer.
use Rattle.std.proofs.Common.{List, [], ◌∷◌, refl, lit<, MutBor, arith}
use Rattle.std.proofs.raw_atomic.Walks.{proved}
use mir.Syntax.{named}
use base.Fml.{GName, ftrue, flft}
use base.Logic.{id⊢}
use types.Kit.{‵, ◌⊛◌, raw, some, later, ◌$◌, ◌∵◌, !, qed, move, keep, split, split3, join, fjoin, use1, use2, await, pick, suffices, frame}
use types.Kit.{done}
use types.Run.{stop, from, addr, lit, and_then, no_more, returns, enter}
use types.Part.{agg}
use types.ByLocal.{alloc_all, pass_all, free_all, look_at, get, sets}
use denote.Exit.{no}
use denote.Follow.{follows}
use denote.Array.{Array}
use denote.Ref.{MutRef, mut_vals, mut_Tells}
use denote.Signature.{plain, mut_ref_to}
use denote.Slice.{MutSlice, slice_val}
use denote.Steps.{nothing}
use denote.Triple.Walked.{Stays, says, stay_dropped, ends_at, Goes-spent_ref}
use Rattle.ijson_value.specs.WellFormed.{WellFormed}
use Rattle.ijson_value.specs.private.LendsList.{place_row}
use Rattle.ijson_value.specs.contracts.value.IValue as value
use Rattle.ijson_value.specs.contracts.array.index.no_items as f
use Rattle.ijson_value.proofs.lends.EmptySlice.{Nothing, lends_nothing}
use Rattle.ijson_value.proofs.array.index.no_items.Statement.{statement}
use Rattle.ijson_value.proofs.array.index.no_items.Code as code

abbrev stayed : Stays f.ended.signature.params f.ended.kept
stayed = (stay_dropped (mut_ref_to (0 ∷ []) tt (plain (λ _. place_row))) no, tt)

pub no_items_spec : {M : Type 1} → statement M
no_items_spec 𝓤 𝓛 𝓜 𝓡 wired =
    let c = f.clauses 𝓛 𝓜.mem 𝓡.returns in
    proved 𝓛 f.ended stayed c 𝓜 𝓡 (Goes-spent_ref 𝓛 1 (0 ∷ []) tt (plain (λ _. place_row)), tt)
    f.Key.name code.function (code.unfolded 𝓤 𝓛.H 𝓜 𝓡 wired)
    (λ κs. (mut_vals, tt)) (λ κs. (mut_Tells (named 0) κs.0 place_row, tt)) (λ κs qs bounds a g are.
    let κ = κs.0 in let q = qs.0 in let r = a.0 in let b = r.ref_ptr.0 in let o = r.ref_ptr.1 in
    qed 𝓛 (((‵ (flft κ q) ⊛ ‵ ftrue) ⊛ ‵ ((MutRef (named 0) κ place_row).own_val r (mut_vals r)) ⊛ ‵ ftrue) ∷ ‵ ftrue ∷ []) ∵
    split ! $ split ! $ move ! (2 ∷ []) $ split ! $ keep ! (0 ∷ 2 ∷ []) $
    -- The proof context is [the reference; its token].
    enter ! _ _ _ _ _ $ alloc_all ! (λ l. pass_all ! refl ((tt, tt), tt) $
    sets ! (agg ! (no_more !)) refl (tt, tt) $
    sets ! (addr ! (from ! (stop !))) refl (tt, tt) $
    sets ! (agg ! (and_then ! (get ! refl) (and_then ! (lit ! tt) (no_more !)))) refl (tt, (tt, (record { fits = lit< tt }, tt))) $
    use2 𝓛 (later
    (some (λ (δ : GName). raw (Nothing 𝓛 place_row value.the_row (named 0) κ q b o (l 2) 0 r.ghost_name r.now (lit< tt, omega arith) δ))))
    (lends_nothing 𝓛 place_row value.the_row (named 0) κ q b o (l 2) 0 r.ghost_name r.now (lit< tt, omega arith) (mut_vals r)) $
    await ! tt $ pick ! (λ δ.
    let slice : MutBor (List WellFormed) = record { ref_ptr = (l 2, 0); ghost_name = δ; now = [] } in
    returns ! (look_at ! 0 refl) $ free_all ! refl $ keep ! (0 ∷ []) $
    use1 𝓛 (‵ ((MutSlice (named 0) κ value.the_row).own_val slice (slice_val (l 2, 0) 0 ∷ [])) ⊛ ‵ (flft κ q)
    ⊛ ‵ (follows place_row (Array value.the_row 0) r.ghost_name δ (λ _. r.now))) (id⊢ 𝓤 _) $ split3 ! $
    -- The proof context is [the slice; the token; the formula of the pointer].
    suffices ! _ (ends_at 𝓛 f.ended stayed c ((κs, qs, bounds, a, (mut_vals r, tt)), g) (slice_val (l 2, 0) 0) slice (tt, tt) (tt, tt)) $
    nothing ! $ nothing ! $ fjoin ! $ join ! $ nothing ! $ move ! (2 ∷ 0 ∷ []) $ join ! $ join ! $ frame ! $ says ! refl $ done !)))
