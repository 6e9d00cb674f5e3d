-- The elements that a source yields. `becomes` relates a source to the iterator that `into_iter`
-- returns, and `steps` relates an iterator to the result of `next` and to the iterator after it.
use Rattle.std.specs.Prelude.{◌≡◌, List, Option, Some}
use Rattle.std.specs.Iterator.{Drains, YieldsThen}

module _ {U T A : Type 0} (becomes : U → T → Type 0) (steps : T → Option A → T → Type 0) (source : U) where
  -- Holds if an iterator of the source yields exactly the elements `xs` and then ends.
  abbrev pub GivesAll : List A → Type 0
  GivesAll xs = (it : T) × becomes source it × Drains steps it xs

  -- Holds if an iterator of the source yields the elements `xs` and then the element `x`.
  -- e.g. an iterator over 1 and 2 gives 1, 2 and its end; it gives 1, and then 2.
  abbrev pub GivesThen : List A → A → Type 0
  GivesThen xs x = (it : T) × (rest : T) × becomes source it × YieldsThen steps it xs (Some x) rest

  -- Holds if `all` is the only list of elements that the source can yield until the end.
  -- e.g. the iterator of a list of 1 and 2 yielded 1 and 2 when it ended.
  abbrev pub GivesList : List A → Type 0
  GivesList all = (xs : List A) → GivesAll xs → xs ≡ all
