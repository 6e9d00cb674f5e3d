-- A run of commands followed by one more possible command is a run.
use Rattle.std.proofs.Common.{◌≡◌, ℕ, List, [], ◌∷◌, ◌++◌, ap, subst, refl, map}
use Rattle.ijson_table.specs.declared.commands.Command.{Command}
use Rattle.ijson_table.specs.declared.commands.Reply.{Reply}
use Rattle.ijson_table.specs.Steps.{Step, Run}

-- If the commands of a run are followed by one more command with a possible reply, the result is a
-- run.
pub Run-more : {V : Type 0} (pairs : List (List ℕ × V)) (c : ℕ) (commands : List (Command V)) (replies : List (Reply V))
    (mid : List (List ℕ × V)) (d : ℕ) (command : Command V) (reply : Reply V) (pairs' : List (List ℕ × V)) (c' : ℕ)
    → Run pairs c commands replies mid d → Step mid d command reply pairs' c'
    → Run pairs c (commands ++ command ∷ []) (replies ++ reply ∷ []) pairs' c'
Run-more pairs c [] [] mid d command reply pairs' c' r s =
    (pairs', c', subst (λ ps. Step ps c command reply pairs' c') r.0 (subst (λ n. Step mid n command reply pairs' c') r.1 s), (refl, refl))
Run-more pairs c (x ∷ xs) (y ∷ ys) mid d command reply pairs' c' r s =
    (r.0, r.1, r.2, Run-more r.0 r.1 xs ys mid d command reply pairs' c' r.3 s)
Run-more pairs c [] (y ∷ ys) mid d command reply pairs' c' r s = absurd r
Run-more pairs c (x ∷ xs) [] mid d command reply pairs' c' r s = absurd r

-- Mapping the identity over a list returns the list.
pub map-same : {X : Type 0} (xs : List X) → map (λ x. x) xs ≡ xs
map-same [] = refl
map-same (x ∷ xs) = ap (λ ys. x ∷ ys) (map-same xs)
