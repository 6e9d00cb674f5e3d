-- The index after ASCII bytes is a character boundary, at which a text can be split.
use Rattle.std.proofs.Common.{◌≡◌, ℕ, zero, suc, ◌+◌, ◌<◌, ◌≤◌, List, ◌∷◌, ◌++◌, length, length-append, length-drop, get_or, drop, sym, ap}
use Rattle.std.proofs.Common.{◌∙◌, arith, add-zero}
use Rattle.std.specs.Str.{IsUtf8, IsCharBoundary}
use Rattle.std.proofs.lemmas.List.{get_or-append-add, get_or-drop}
use Rattle.std.proofs.lemmas.Str.{IsCharBoundary-after_ascii, IsCharBoundary-start}

-- If the first `n` bytes are ASCII, `n` is a character boundary.
pub behind_ascii : (text : List ℕ) → IsUtf8 text → (n : ℕ) → n ≤ length text → ((k : ℕ) → k < n → get_or text k 0 < 128)
    → IsCharBoundary text n
behind_ascii text u zero h p = IsCharBoundary-start text u
behind_ascii text u (suc k) h p = let e : suc k ≡ k + 1 = omega arith in
    rw e (IsCharBoundary-after_ascii text k u (omega arith) (p k (omega arith)))

-- If the first byte is ASCII, 1 is a character boundary.
pub after_first : (text bytes : List ℕ) (b : ℕ) (more : List ℕ) → IsUtf8 text → bytes ≡ text → bytes ≡ b ∷ more → b < 128
    → IsCharBoundary text 1
after_first text bytes b more u e f h =
    let whole : text ≡ b ∷ more = sym e ∙ f in
    let some : 0 < length text = omega (arith, ap length whole) in
    let first : get_or text 0 0 ≡ b = ap (λ (l : List ℕ). get_or l 0 0) whole in
    IsCharBoundary-after_ascii text 0 u some (omega (arith, first, h))

-- The index after an ASCII byte is a character boundary.
pub behind_byte : (text run after rest : List ℕ) (b start : ℕ) → IsUtf8 text → drop start text ≡ run ++ after → after ≡ b ∷ rest → b < 128
    → IsCharBoundary text (start + (length run + 1))
behind_byte text run after rest b start u e f h =
    let left : drop start text ≡ run ++ b ∷ rest = e ∙ ap (λ l. run ++ l) f in
    let inside : start + length run < length text = omega (arith, length-drop start text, ap length left, length-append run (b ∷ rest)) in
    let byte : get_or text (start + length run) 0 ≡ b =
    sym (get_or-drop start text (length run) 0) ∙ ap (λ l. get_or l (length run) 0) left
    ∙ ap (λ n. get_or (run ++ b ∷ rest) n 0) (sym (add-zero (length run))) ∙ get_or-append-add run (b ∷ rest) 0 0 in
    let end : start + (length run + 1) ≡ start + length run + 1 = omega arith in
    rw end (IsCharBoundary-after_ascii text (start + length run) u inside (omega (arith, byte, h)))
