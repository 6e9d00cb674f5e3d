-- `MatchOption o P Q` still holds if `P` and `Q` are weakened.
use Rattle.std.specs.Prelude.{Option, Some, None, MatchOption}

-- If `P` implies `P'` and `Q` implies `Q'`, `MatchOption o P Q` implies `MatchOption o P' Q'`.
pub weaken : {A : Type 0} (o : Option A) (P P' : Type 0) (Q Q' : A → Type 0) → MatchOption o P Q → (P → P') → ((a : A) → Q a → Q' a)
    → MatchOption o P' Q'
weaken None P P' Q Q' h f g = f h
weaken (Some a) P P' Q Q' h f g = g a h
