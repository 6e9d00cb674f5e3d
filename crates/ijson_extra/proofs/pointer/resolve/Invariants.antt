use Rattle.std.proofs.Common.{◌≡◌, length, option_map}
use denote.Text.{Utf8}
use denote.Shadow.{shadow}
use Rattle.ijson_extra.specs.Pointer.{resolved}
use Rattle.ijson_extra.proofs.Pointers.{outcome}
use Rattle.ijson_extra.proofs.pointer.resolve.Given as goal

-- Following the remaining tokens from the value found so far has the same result as following all
-- tokens from the outer value.
abbrev pub invariant-loop-found : goal.invariant-loop-found
invariant-loop-found l = record {
  utf8 : shadow (Utf8 l.left);
  same : resolved l.fn.value.tree l.fn.pointer ≡ outcome (option_map (λ v. v.now.tree) l.found) l.left;
}

abbrev pub decreases-loop-found : goal.decreases-loop-found
decreases-loop-found l = length l.left
