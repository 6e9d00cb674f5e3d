-- Encodes the state of a device as its reader or writer and the number of failed calls.
use Rattle.std.specs.Prelude.{ℕ, refl}
use Rattle.std.specs.Coded.{Coded, code_by, coded×, coded_ℕ}
use Rattle.ijson_json.specs.StreamState.{StreamState}

abbrev pub stream_state_code : {D : Type 0} → Coded D → Coded (StreamState D)
stream_state_code {D} c =
    code_by (D × ℕ) (coded× c coded_ℕ)
    (λ s. (s.inner, s.failed)) (λ p. record { inner = p.0; failed = p.1 }) (λ _. refl)
