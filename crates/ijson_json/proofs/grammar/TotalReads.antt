-- Lemmas: a function that satisfies `ReadsAs` for a text also satisfies `IsTotal`.
use Rattle.std.specs.Prelude.{◌≡◌, ℕ, List, Result, Ok, Err, true}
use Rattle.std.proofs.Common.{refl, subst, arith}
use Rattle.ijson_value.specs.Tree.{Tree}
use Rattle.ijson_json.specs.Grammar.{Accepted}
use Rattle.ijson_json.specs.ReadsAs.{ReadsAs, IsTotal}
use Rattle.ijson_json.specs.Refuses.{Refuses}
use Rattle.ijson_json.specs.declared.fault.JsonError.{JsonError}
use Rattle.ijson_json.specs.declared.fault.JsonError.TheVariants.{Syntax, TooDeep, NumberRange, Memory}
use Rattle.ijson_json.proofs.grammar.OneTree.{one_tree}

-- The only error that an accepted text allows is `Memory`.
pub only_memory : (text : List ℕ) (error : JsonError) (t : Tree) → Refuses text error → Accepted text t → error ≡ Memory
only_memory text (Syntax at) t r a = absurd (r.1 t a.0 true a.2)
only_memory text (TooDeep at) t r a = let past = r.1.each t a.0 true a.2 in absurd (omega (arith, past, a.1))
only_memory text (NumberRange at) t r a = let past = r.1.each t a.0 true a.2 in cc
only_memory text Memory t r a = refl

pub total : {X : Type 0} (text : List ℕ) (Gives : Tree → X → Type 0) (result : Result X JsonError) → ReadsAs text Gives result
    → IsTotal text Gives result
total text Gives (Ok x) r = record {
  read = λ t a. subst (λ u. Gives u x) (one_tree text r.0 t r.1.0 a.0 true true r.1.2 a.2) r.2;
  refused = tt;
}
total text Gives (Err e) r = record { read = λ t a. only_memory text e t r a; refused = r }
