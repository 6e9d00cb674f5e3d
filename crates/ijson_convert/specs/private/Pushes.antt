-- Holds if a call appended elements with the given trees to an array, or ran out of memory.
use Rattle.std.specs.Prelude.{◌≡◌, List, ◌++◌, map, Result, OnOk, IfErr}
use Rattle.ijson_string.specs.Cache.{Texts}
use Rattle.ijson_value.specs.Tree.{Tree, items_of}
use Rattle.ijson_value.specs.WellFormed.{WellFormed, tree_of}
use Rattle.ijson_convert.specs.Interned.{all_interned, SomeInterned}
use Rattle.ijson_convert.specs.TextsOf.{items_texts}
use Rattle.ijson_convert.specs.declared.convert_error.ConvertError.{ConvertError}
use Rattle.ijson_convert.specs.declared.convert_error.ConvertError.TheVariants.{Memory}

-- Holds if `trees` were appended and their strings interned, or the call failed with `Memory` after
-- some leading strings were interned.
pub record Pushes {X : Type 0} (trees : List Tree) (old new : List WellFormed) (before after : Texts) (result : Result X ConvertError) : Type 0 where
  pub ok : OnOk result ((map tree_of new ≡ map tree_of old ++ trees) × (after ≡ all_interned (items_texts (items_of trees)) before))
  pub refused : IfErr result (λ e. (e ≡ Memory) × SomeInterned (items_texts (items_of trees)) before after)
