use Rattle.std.proofs.Common.{◌≡◌, ◌⊎◌, inl, inr, ◌+◌, ◌<◌, ℕ, List, Option, Err, ap, refl, ◌∙◌, arith}
use Rattle.std.specs.Prelude.{◌↔◌, Result, IfOk, IfErr, IfSome, IsUtf8}
use Rattle.std.proofs.lemmas.Result.{err_from_is_err_and}
use Rattle.ijson_json.specs.private.CompactErrorOfReadFault.{compact_error_of_read_fault}
use Rattle.ijson_json.specs.declared.compacting.CompactError.{CompactError}
use Rattle.ijson_json.specs.declared.compacting.CompactError.TheVariants as errors
use Rattle.ijson_json.specs.declared.device.transfer.ReadFault.{ReadFault}
use Rattle.ijson_json.specs.declared.device.transfer.ReadFault.TheVariants as faults
use Rattle.ijson_json.proofs.compacting.remaining_text.Goals as goal

-- The clauses of `remaining_text` hold if reading the source fails.
read_fault : {S T : Type 0} (P : T → Type 0) (r : Result T CompactError) (left : Option (List ℕ)) (before after : ℕ) (fault : ReadFault)
    → r ≡ Err (compact_error_of_read_fault fault)
    → (◌≡◌ {A = Result S ReadFault} (Err fault) (Err faults.Device) → after ≡ before + 1)
    → (◌≡◌ {A = Result S ReadFault} (Err fault) (Err faults.Memory) → after ≡ before)
    → record {
      text : IfOk r P;
      read : (r ≡ Err errors.Read) ↔ (before < after);
      refused : r ≡ Err errors.NotUtf8 → IfSome left (λ bytes. ¬ (IsUtf8 bytes));
      error : IfErr r (λ e. (e ≡ errors.Read) ⊎ (e ≡ errors.NotUtf8) ⊎ (e ≡ errors.Memory));
    }
read_fault P r left before after faults.Device is device memory = rw is (record {
  text = tt;
  read = ((λ _. omega (arith, device refl)), (λ _. refl));
  refused = λ q. cc;
  error = inl refl;
})
read_fault P r left before after faults.Memory is device memory = rw is (record {
  text = tt;
  read = ((λ q. cc), (λ l. absurd (omega (arith, l, memory refl))));
  refused = λ q. cc;
  error = inr (inr refl);
})

pub returns-in_err-bytes : goal.returns-in_err-bytes
returns-in_err-bytes g c =
    let p = err_from_is_err_and c.from_residual.result c.from_residual.ensures.1 in
    let found = c.in_err-bytes.ensures in
    read_fault _ c.from_residual.result (g.R.Source.left c.args.input.now) (g.R.Source.failed c.args.input.now)
    (g.R.Source.failed c.read_all.new.input) c.in_err-bytes.field-0.0 (p.1 ∙ ap Err p.2) found.device found.memory
