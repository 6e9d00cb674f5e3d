-- The bound on the number of inspections when a table is built.
use Rattle.std.specs.Prelude.{ℕ, ◌+◌, ◌*◌, ◌^◌, ◌≤◌}

-- The maximum number of inspections per pair, not counting the inspections of sorting.
abbrev pub looks_a_pair : ℕ
looks_a_pair = 36

-- Holds if `looks` is within the bound on the inspections of building a table of `n` pairs:
-- `n * (looks_a_pair + 2 * k)` for every `k` with `n ≤ 2 ^ k`. The bound is O(n log n).
-- e.g. for 2,048 entries, k = 11, at most 118,784; for one entry, k = 0, at most 36.
abbrev pub IsBuildBounded : ℕ → ℕ → Type 0
IsBuildBounded n looks = (k : ℕ) → n ≤ 2 ^ k → looks ≤ n * (looks_a_pair + 2 * k)
