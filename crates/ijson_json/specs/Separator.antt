-- The text before an element or a member (RFC 8259, sections 4 and 5): a comma, except before the
-- first element or member.
use Rattle.std.specs.Prelude.{ℕ, Bool, true, false, List, [], ◌∷◌}

-- e.g. in `[1,2]` nothing comes before 1, and a comma before 2.
abbrev pub separator : Bool → List ℕ
separator true = []
separator false = 44 ∷ []
