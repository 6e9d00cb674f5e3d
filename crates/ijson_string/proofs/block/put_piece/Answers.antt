use Rattle.std.proofs.Common.{◌≡◌, ◌+◌, ◌-◌, ◌∙◌, ◌++◌, ap, ap₂, sym, length, take, drop, arith}
use Rattle.std.proofs.Math.Seq.{take-add}
use Rattle.std.proofs.lemmas.List.{length-drop, length-take-le}
use Rattle.std.proofs.lemmas.Slice.{take-put_mid, drop-put_mid}
use Rattle.ijson_string.proofs.block.put_piece.Goals as goal

pub returns-clause-put : goal.returns-clause-put
returns-clause-put c =
    let start = c.args.start in
    let size = c.args.size in
    let bytes = c.args.bytes.now in
    let text = c.args.text.now in
    let back : start + size - start ≡ size = omega arith in
    let piece : c.copy_from_slice.new.self ≡ take size (drop start text) =
    c.copy_from_slice.ensures.after ∙ ap (λ n. take n (drop start text)) back in
    let left = length-drop start text in
    let whole : length c.copy_from_slice.new.self ≡ size = ap length piece ∙ length-take-le size (drop start text) (omega arith) in
    take-put_mid start (start + size - start) bytes c.copy_from_slice.new.self (start + size) (omega arith) (omega arith)
    ∙ ap₂ ◌++◌ c.requires.begun piece ∙ sym (take-add start size text)

pub returns-clause-rest : goal.returns-clause-rest
returns-clause-rest c =
    let start = c.args.start in
    let size = c.args.size in
    let text = c.args.text.now in
    let left = length-drop start text in
    let whole : length c.copy_from_slice.new.self ≡ start + size - start =
    ap length c.copy_from_slice.ensures.after ∙ length-take-le (start + size - start) (drop start text) (omega arith) in
    drop-put_mid start (start + size - start) c.args.bytes.now c.copy_from_slice.new.self (length text) (omega arith) (omega arith) whole
