-- If a closure can always be called, `retain` may call the closure on each entry that it visits.
use Rattle.std.specs.Prelude.{ℕ, zero, suc, ◌+◌, Bool, List, [], ◌∷◌, if◌then◌else◌}
use Rattle.std.proofs.Common.{refl, sym, subst}
use Rattle.std.specs.Map.Calls.{CalledAtPair, TakesPair}
use denote.Param.Always.{always_mut, mut_next}
use denote.Param.Members.{Mut}
use denote.Ref.{Bor, MutBor}
use Rattle.ijson_table.specs.Store.{with_value, swap_out}
use Rattle.ijson_value.specs.MayAsk.{AskedFrom, MayAskFrom}

module _ {F V : Type 0} (g : Mut F (Bor (List ℕ) × (MutBor V × Unit {0})) (Bool × (MutBor V × Unit {0}))) where
  -- If a closure can always be called, then so can the closure that it becomes after `n` calls.
  still_asks : (n : ℕ) (f : F) (i : ℕ) (ps : List (List ℕ × V)) (h : F) (j : ℕ) (left : List (List ℕ × V))
      → AskedFrom (CalledAtPair g) n f i ps h j left → always_mut g f → always_mut g h
  still_asks zero f i ps h j left run always = subst (always_mut g) (sym run.0) always
  still_asks (suc n) f i ps h j left run always =
      still_asks n run.4 (if run.2 then i + 1 else i) (if run.2 then with_value ps i run.3 else swap_out ps i) h j left run.7
      (mut_next g _ _ _ _ _ run.6.called refl always)

  -- A closure that can always be called may be called on each entry from index `i` on.
  pub may_ask_always : (f : F) (i : ℕ) (ps : List (List ℕ × V)) → always_mut g f
      → MayAskFrom (CalledAtPair g) (TakesPair g) f i ps
  may_ask_always f i ps always = record {
    at = λ n h j left key v run got p q is_key is_value. ((still_asks n f i ps h j left run always).at ((p, (q, tt)) ∷ [])).0;
  }
