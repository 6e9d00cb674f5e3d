-- A buffer that begins with UTF-8 and ends with zeros is UTF-8.
use Rattle.std.proofs.Common.{◌≡◌, ◌-◌, ◌<◌, ◌≤◌, ◌∙◌, ℕ, zero, suc, List, ap, subst, sym, length, take, drop, replicate, get_or}
use Rattle.std.proofs.Common.{take-append-drop, arith}
use Rattle.std.specs.Str.{IsUtf8}
use Rattle.std.proofs.lemmas.List.{take-take, drop-replicate}
use Rattle.std.proofs.lemmas.Str.{IsUtf8-append, IsUtf8-from_ascii}

-- If two lists have the same first `n` elements and `m` is at most `n`, they have the same first
-- `m` elements.
pub alike_before : (m n : ℕ) (xs ys : List ℕ) → m ≤ n → take n xs ≡ take n ys → take m xs ≡ take m ys
alike_before m n xs ys less same = sym (take-take m n xs less) ∙ ap (take m) same ∙ take-take m n ys less

-- If `bytes` equals a list of zeros from index `len` on, all its bytes from `len` on are 0.
pub zeros_behind : (bytes : List ℕ) (len n : ℕ) → length bytes ≡ n → drop len bytes ≡ drop len (replicate n 0)
    → drop len bytes ≡ replicate (length bytes - len) 0
zeros_behind bytes len n long same = same ∙ drop-replicate len n 0 ∙ ap (λ k. replicate (k - len) 0) (sym long)

zeros_low : (n i : ℕ) → get_or (replicate n 0) i 0 < 128
zeros_low zero i = omega arith
zeros_low (suc n) zero = omega arith
zeros_low (suc n) (suc i) = zeros_low n i

-- UTF-8 padded with zeros is UTF-8.
pub utf8_with_zeros : (bytes : List ℕ) (len : ℕ) → IsUtf8 (take len bytes) → drop len bytes ≡ replicate (length bytes - len) 0
    → IsUtf8 bytes
utf8_with_zeros bytes len text zeros =
    subst IsUtf8 (take-append-drop len bytes) (IsUtf8-append (take len bytes) (drop len bytes) text
    (rw zeros (IsUtf8-from_ascii (replicate (length bytes - len) 0) (zeros_low (length bytes - len)))))
