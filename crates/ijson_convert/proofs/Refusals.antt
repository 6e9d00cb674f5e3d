-- Lemmas about the error that a failed conversion returns.
use Rattle.std.proofs.Common.{◌≡◌, ◌⊎◌, subst, sym}
use Rattle.std.proofs.Math.Logic.{⊎_map}
use Rattle.std.specs.Prelude.{Result, Ok, Err, IfErr, IsErrAnd}

-- If the operator `?` returns the error `e`, every property of `e` holds for the result's error.
pub passed_on : {X E : Type 0} (P : E → Type 0) (r : Result X E) {e : E} → IsErrAnd r (λ y. y ≡ e) → P e → IfErr r P
passed_on P (Ok x) is p = tt
passed_on P (Err y) is p = subst P (sym is) p

-- If `P` or `Q × R` holds, and `R` implies `S`, then `P` or `Q × S` holds.
pub refused_too : {P Q R S : Type 0} → (R → S) → P ⊎ (Q × R) → P ⊎ (Q × S)
refused_too f refused = ⊎_map (λ memory. memory) (λ number. (number.0, f number.1)) refused
