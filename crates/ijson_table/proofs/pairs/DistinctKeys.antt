-- Keys are distinct exactly if equal keys have equal indices.
use Rattle.std.proofs.Common.{◌≡◌, ◌≢◌, ℕ, zero, suc, ◌<◌, List, [], ◌∷◌, length, get_or, refl, sym, ap, arith}
use Rattle.ijson_table.specs.Store.{Lacks, IsDistinct}

-- Holds if equal keys have equal indices.
abbrev pub AreApart : List (List ℕ) → Type 0
AreApart keys = (i j : ℕ) → i < length keys → j < length keys → get_or keys i [] ≡ get_or keys j [] → i ≡ j

-- If a list lacks `key`, each key of the list differs from `key`.
lacks_at : (key : List ℕ) (ks : List (List ℕ)) → Lacks key ks → (j : ℕ) → j < length ks → key ≢ get_or ks j []
lacks_at key [] l j lj e = absurd (omega arith)
lacks_at key (k ∷ ks) l zero lj e = l.0 e
lacks_at key (k ∷ ks) l (suc j) lj e = lacks_at key ks l.1 j (omega arith) e

-- If each key of a list differs from `key`, the list lacks `key`.
pub lacks_from : (key : List ℕ) (ks : List (List ℕ)) → ((j : ℕ) → j < length ks → key ≢ get_or ks j []) → Lacks key ks
lacks_from key [] other = tt
lacks_from key (k ∷ ks) other = (other 0 (omega arith), lacks_from key ks (λ j lj. other (suc j) (omega arith)))

-- If keys are distinct, equal keys have equal indices.
pub apart : (keys : List (List ℕ)) → IsDistinct keys → AreApart keys
apart [] d i j li lj e = absurd (omega arith)
apart (k ∷ ks) d zero zero li lj e = refl
apart (k ∷ ks) d zero (suc j) li lj e = absurd (lacks_at k ks d.0 j (omega arith) e)
apart (k ∷ ks) d (suc i) zero li lj e = absurd (lacks_at k ks d.0 i (omega arith) (sym e))
apart (k ∷ ks) d (suc i) (suc j) li lj e = ap suc (apart ks d.1 i j (omega arith) (omega arith) e)

-- If equal keys have equal indices, the keys are distinct.
pub distinct : (keys : List (List ℕ)) → AreApart keys → IsDistinct keys
distinct [] a = tt
distinct (k ∷ ks) a = (
  lacks_from k ks (λ j lj e. let bad : 0 ≡ suc j = a 0 (suc j) (omega arith) (omega arith) e in omega arith),
  distinct ks (λ i j li lj e. let it : suc i ≡ suc j = a (suc i) (suc j) (omega arith) (omega arith) e in omega arith),
)
