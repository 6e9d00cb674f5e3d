-- The sum of the numbers in a tree.
use Rattle.std.specs.Prelude.{◌≡◌, ◌+◌, ℕ, pos}
use Rattle.ijson_number.specs.Integers.{HasValue}
use Rattle.ijson_value.specs.Tree.{Tree, number, array, object, Items, no_items, item, Members, no_members, member}

abbrev mutual
  -- Holds if every number in the tree, at any depth, is an integer that is not negative, and `sum`
  -- is their sum.
  pub SumsTo : Tree → ℕ → Type 0
  SumsTo (number n) sum = HasValue n (pos sum)
  SumsTo (array ts) sum = EachSumsTo ts sum
  SumsTo (object ps) sum = ValuesSumTo ps sum
  SumsTo _ sum = sum ≡ 0

  pub EachSumsTo : Items → ℕ → Type 0
  EachSumsTo no_items sum = sum ≡ 0
  EachSumsTo (item t ts) sum = (x y : ℕ) × SumsTo t x × EachSumsTo ts y × (sum ≡ x + y)

  -- e.g. `{"a":[1,2.0],"b":"7"}` sums to 3.
  pub ValuesSumTo : Members → ℕ → Type 0
  ValuesSumTo no_members sum = sum ≡ 0
  ValuesSumTo (member k t ps) sum = (x y : ℕ) × SumsTo t x × ValuesSumTo ps y × (sum ≡ x + y)
