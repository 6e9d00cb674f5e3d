-- An injective code for arrays, by which a proof distinguishes them.
use Rattle.std.specs.Prelude.{ℕ, List}
use Rattle.std.proofs.Common.{refl}
use Rattle.std.specs.Coded.{Coded, code_by, coded×, coded_list, coded_ℕ}
use Rattle.ijson_value.specs.Sequence.{Sequence}
use Rattle.ijson_value.specs.WellFormed.{WellFormed}
use Rattle.ijson_value.specs.laws.WellFormedCode.{well_formed_code}

abbrev pub sequence_code : Coded Sequence
sequence_code =
    code_by (List WellFormed × ℕ) (coded× (coded_list well_formed_code) coded_ℕ)
    (λ a. (a.items, a.capacity)) (λ p. record { items = p.0; capacity = p.1 }) (λ _. refl)
