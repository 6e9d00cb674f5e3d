-- Laws of pair stores. `IsDistinct` is a proposition. A store has a code. Writing a value keeps the
-- keys.
use Rattle.std.specs.Prelude.{◌≡◌, ℕ, zero, suc, List, [], ◌∷◌, refl}
use Rattle.std.specs.Coded.{Coded, code_by, coded_list, coded_ℕ, coded×, →_prop, ×_prop, Unit-prop}
use Rattle.std.proofs.Common.{ap}
use base.Stored.{coded_sub}
use Rattle.ijson_table.specs.Store.{Store, Lacks, IsDistinct, keys_of, with_value}

pub Lacks-prop : (key : List ℕ) (ks : List (List ℕ)) → IsProp (Lacks key ks)
Lacks-prop key [] = Unit-prop
Lacks-prop key (k ∷ ks) = ×_prop (→_prop (λ x y. absurd x)) (Lacks-prop key ks)

pub IsDistinct-prop : (ks : List (List ℕ)) → IsProp (IsDistinct ks)
IsDistinct-prop [] = Unit-prop
IsDistinct-prop (k ∷ ks) = ×_prop (Lacks-prop k ks) (IsDistinct-prop ks)

abbrev Parts : Type 0 → Type 0
Parts V = ((pairs : List (List ℕ × V)) × IsDistinct (keys_of pairs)) × ℕ

abbrev pub store_code : {V : Type 0} → Coded V → Coded (Store V)
store_code {V} c =
    code_by (Parts V) (coded× (coded_sub (coded_list (coded× (coded_list coded_ℕ) c)) (λ pairs. IsDistinct (keys_of pairs))
    (λ pairs. IsDistinct-prop (keys_of pairs))) coded_ℕ)
    (λ s. ((s.pairs, s.distinct), s.capacity)) (λ p. record { pairs = p.0.0; capacity = p.1; distinct = p.0.1 }) (λ _. refl)

pub keys-with_value : {V : Type 0} (pairs : List (List ℕ × V)) (i : ℕ) (value : V) → keys_of (with_value pairs i value) ≡ keys_of pairs
keys-with_value [] i value = refl
keys-with_value (pair ∷ pairs) zero value = refl
keys-with_value (pair ∷ pairs) (suc i) value = ap (λ ks. pair.0 ∷ ks) (keys-with_value pairs i value)
