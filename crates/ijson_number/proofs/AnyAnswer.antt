-- Lemmas about propositions that hold if a result is `Err` or an option is `None`.
use Rattle.ijson_number.proofs.Common.{Option, Some, None, IfNone, Result, Ok, Err, OnErr}

-- If `P` holds, then `OnErr r P` holds.
pub where_refused : {T E P : Type 0} (r : Result T E) → P → OnErr r P
where_refused (Ok _) p = tt
where_refused (Err _) p = p

-- If `P` holds when `found` is `None`, and `P` implies `Q`, then `Q` holds when `found` is `None`.
pub none_with : {T P Q : Type 0} (found : Option T) → IfNone found P → (P → Q) → IfNone found Q
none_with (Some _) h f = tt
none_with None h f = f h
