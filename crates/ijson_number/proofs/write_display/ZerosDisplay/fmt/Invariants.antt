use Rattle.ijson_number.proofs.Common.{HasWritten, IsPlainFormatter, zeros_text}
use Rattle.ijson_number.proofs.write_display.ZerosDisplay.fmt.Given as goal

abbrev pub invariant-loop-i : goal.invariant-loop-i
invariant-loop-i g l = IsPlainFormatter l.initial.f → HasWritten g.W.Write.write_str_gives l.initial.f (zeros_text l._i) l.f
