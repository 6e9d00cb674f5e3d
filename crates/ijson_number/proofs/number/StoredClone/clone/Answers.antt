use Rattle.ijson_number.proofs.Common.{ap, short_form}
use Rattle.ijson_number.proofs.number.StoredClone.clone.Goals as goal

pub returns-in_ok-number-in-Short : goal.returns-in_ok-number-in-Short
returns-in_ok-number-in-Short c = rw c.in-Short.is (record {
  cases = record { form = ap short_form c.in_ok-number-in-Short.ensures.cases; short = (λ _. tt, λ _. tt) };
})

pub returns-in_ok-number-in-Long : goal.returns-in_ok-number-in-Long
returns-in_ok-number-in-Long c = rw c.in-Long.is (record {
  cases = record { form = c.in_ok-number-in-Long.ensures.cases; short = (λ h. h, λ h. h) };
})
