-- Holds if `count` is the number of leading `'0'` lanes among the first 15 of 16 lanes.
use Rattle.std.specs.Prelude.{◌≡◌, ◌≢◌, ℕ, ◌<◌, ◌≤◌, List, get_or, replicate, take}

pub record IsZerosInFront (lanes : List ℕ) (count : ℕ) : Type 0 where
  pub few : count ≤ 15
  pub zeros : take count lanes ≡ replicate count 48
  pub stops : count < 15 → get_or lanes count 0 ≢ 48
