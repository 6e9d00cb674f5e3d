-- A list of numbers after a number is removed and replaced by the last number.
use Rattle.std.proofs.Common.{◌≡◌, ◌≢◌, ℕ, suc, ◌+◌, ◌-◌, ◌<◌, arith, List, ◌++◌, length, get_or, set, take, ap, sym, ◌∙◌}
use Rattle.std.proofs.Common.{append-nil, get_or-set_other, get_or-set_same, length-take}
use Rattle.std.specs.List.{remove, swap_remove}
use Rattle.std.proofs.lemmas.List.{drop_all, get_or-take, length-set, take-set}

-- `swap_remove` decreases the length by one.
pub length-swap_remove : (xs : List ℕ) (i : ℕ) → i < length xs → length (swap_remove xs i 0) + 1 ≡ length xs
length-swap_remove xs i li =
    omega (arith, length-take (length xs - 1) (set xs i (get_or xs (length xs - 1) 0)), length-set xs i (get_or xs (length xs - 1) 0))

-- If `i` is not the last index, the number at index `i` after `swap_remove` is the old last number.
pub swap_remove-same : (xs : List ℕ) (i : ℕ) → i + 1 < length xs → get_or (swap_remove xs i 0) i 0 ≡ get_or xs (length xs - 1) 0
swap_remove-same xs i li =
    get_or-take (length xs - 1) (set xs i (get_or xs (length xs - 1) 0)) i 0 (omega arith)
    ∙ get_or-set_same xs i (get_or xs (length xs - 1) 0) 0 (omega arith)

-- `swap_remove` keeps each number except the number at index `i` and the last number.
pub swap_remove-other : (xs : List ℕ) (i j : ℕ) → i < length xs → j + 1 < length xs → j ≢ i
    → get_or (swap_remove xs i 0) j 0 ≡ get_or xs j 0
swap_remove-other xs i j li lj ne =
    get_or-take (length xs - 1) (set xs i (get_or xs (length xs - 1) 0)) j 0 (omega arith)
    ∙ get_or-set_other xs i j (get_or xs (length xs - 1) 0) 0 ne

-- If `i` is the last index, `swap_remove` equals `remove`.
pub swap_remove-last : (xs : List ℕ) (i : ℕ) → i + 1 ≡ length xs → swap_remove xs i 0 ≡ remove xs i
swap_remove-last xs i e =
    let v : ℕ = get_or xs (length xs - 1) 0 in
    let same : length xs - 1 ≡ i = omega (arith, e) in
    ap (λ n. take n (set xs i v)) same
    ∙ (take-set xs i v ∙ (sym (append-nil (take i xs)) ∙ ap (λ ys. take i xs ++ ys) (sym (drop_all (suc i) xs (omega (arith, e))))))
