use Rattle.std.proofs.Common.{◌≡◌, Some, arith, sym}
use mathlib.Core.Bool.{true≢false}
use Rattle.ijson_extra.specs.Pointer.{meant}
use Rattle.ijson_extra.proofs.Pointers.{byte_none, key_ended}
use Rattle.ijson_extra.proofs.pointer.means.Goals as goal

pub returns-in_default : goal.returns-in_default
returns-in_default c = (
  λ t. absurd (true≢false (sym t)),
  λ f. absurd (byte_none (meant c.args.token.now ≡ Some c.args.key.now) c.as_bytes-byte-items.result.now c.loop-byte.left.now
      c.loop-byte.byte-index c.loop-byte-test.true c.in_default.ensures.none c.loop-byte.invariant f),
)

pub returns : goal.returns
returns c =
    key_ended (meant c.args.token.now ≡ Some c.args.key.now) c.as_bytes-byte-items.result.now c.loop-byte.left.now c.loop-byte.byte-index
    c.is_empty.result (let end = c.loop-byte-test.false in omega (arith, end)) c.is_empty.ensures c.loop-byte.invariant
