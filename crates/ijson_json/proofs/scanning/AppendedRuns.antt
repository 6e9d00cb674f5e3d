-- Appending a run in blocks of 16 bytes, and truncating the last block, appends exactly the bytes
-- of the run.
use Rattle.std.proofs.Common.{◌≡◌, ℕ, ◌+◌, ◌-◌, ◌≤◌, List, ◌++◌, length, length-append, take, drop, sym, ap, ◌∙◌, arith, append_assoc}
use Rattle.std.proofs.Math.Seq.{take-add, take-append-add}
use Rattle.std.proofs.lemmas.List.{length-take-le, take_at}
use Rattle.std.proofs.lemmas.Simd.{chunk-drop, length-chunk}
use lib.Lanes.{chunk}

module _ (old bytes : List ℕ) (at : ℕ) where
  -- Appending `n` more bytes after the first `at` bytes appends the first `at + n` bytes.
  pub appended : (n : ℕ) → (old ++ take at bytes) ++ take n (drop at bytes) ≡ old ++ take (at + n) bytes
  appended n = append_assoc old (take at bytes) (take n (drop at bytes)) ∙ ap (λ l. old ++ l) (sym (take-add at n bytes))

  module _ (room : at + 16 ≤ length bytes) where
    -- The 16-byte chunk at `at` consists of the 16 bytes from `at` on.
    row_is : chunk at 16 bytes ≡ take 16 (drop at bytes)
    row_is = sym (ap (take 16) (chunk-drop at 16 bytes)
        ∙ take_at (chunk at 16 bytes) (drop (at + 16) bytes) 16 (length-chunk at 16 bytes room))

    -- Appending the 16-byte chunk at `at` after the first `at` bytes appends the first `at + 16`
    -- bytes.
    pub appended_row : (content longer : List ℕ) → content ≡ old ++ take at bytes → longer ≡ content ++ chunk at 16 bytes
        → longer ≡ old ++ take (at + 16) bytes
    appended_row content longer was is = is ∙ ap (λ l. l ++ chunk at 16 bytes) was ∙ ap (λ l. (old ++ take at bytes) ++ l) row_is
        ∙ appended 16

    -- If the last 16 bytes were appended as a block, truncating the block to `count` bytes leaves
    -- the first `at + count` bytes.
    pub cut_row : (longer : List ℕ) (count end : ℕ) → count ≤ 16 → longer ≡ old ++ take (at + 16) bytes
        → end ≡ length longer - (16 - count) → take end longer ≡ old ++ take (at + count) bytes
    cut_row longer count end few is cut =
        let long : length longer ≡ length old + (at + 16) = ap (λ (l : List ℕ). length l) is ∙ length-append old (take (at + 16) bytes)
        ∙ ap (λ n. length old + n) (length-take-le (at + 16) bytes room) in
        let stays : end ≡ length old + (at + count) = omega arith in
        let parts : at + 16 ≡ at + count + (16 - count) = omega arith in
        let front : take (at + count) (take (at + 16) bytes) ≡ take (at + count) bytes =
        ap (λ n. take (at + count) (take n bytes)) parts
        ∙ ap (take (at + count)) (take-add (at + count) (16 - count) bytes)
        ∙ take_at (take (at + count) bytes) (take (16 - count) (drop (at + count) bytes)) (at + count)
        (length-take-le (at + count) bytes (omega arith)) in
        ap (λ n. take n longer) stays ∙ ap (take (length old + (at + count))) is ∙ take-append-add old (take (at + 16) bytes) (at + count)
        ∙ ap (λ l. old ++ l) front
