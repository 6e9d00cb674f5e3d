-- `SerdeTree` relates a `serde_json` value to its JSON tree.
--
-- An integer in the range of `i64` or `u64` has a tree without a decimal point. A value that
-- contains any other number does not have a tree. Entries are in the order of the `serde_json` map,
-- which is sorted by key.
use Rattle.std.specs.Prelude.{◌≡◌, ◌<◌, ◌^◌, pos, ⊤, FitsSigned}
use Rattle.std.specs.Int.{w64}
use Rattle.serde_json.specs.Data as serde
use Rattle.serde_json.specs.Data.{Num, Data}
use Rattle.ijson_number.specs.Decimal.{Decimal}
use Rattle.ijson_value.specs.Same.{Same}
use Rattle.ijson_value.specs.Tree.{Tree, null, boolean, number, string, array, object, Items, no_items, item, Members, no_members, member}
use Rattle.ijson_value.specs.WellFormed.{IsWellFormed}
use Rattle.ijson_convert.specs.IntegerTree.{integer_number}

-- Holds if `n` is the JSON number of the `serde_json` integer. A float does not have a JSON number.
-- e.g. 2 of `serde_json` is the number 2; the float 2.0 is none.
abbrev pub SerdeNumber : Num → Decimal → Type 0
SerdeNumber (serde.unsigned m) n = (m < 2 ^ 64) × (n ≡ integer_number (pos m))
SerdeNumber (serde.negative z) n = FitsSigned w64 z × (n ≡ integer_number z)
SerdeNumber (serde.float x) n = ⊥

abbrev mutual
  pub SerdeTree : Data → Tree → Type 0
  SerdeTree serde.null null = ⊤
  SerdeTree (serde.boolean a) (boolean b) = a ≡ b
  SerdeTree (serde.number m) (number n) = SerdeNumber m n
  SerdeTree (serde.string s) (string t) = s ≡ t
  SerdeTree (serde.array ds) (array ts) = SerdeItems ds ts
  SerdeTree (serde.object ms) (object ps) = SerdeMembers ms ps
  SerdeTree _ _ = ⊥

  pub SerdeItems : serde.Items → Items → Type 0
  SerdeItems serde.no_items no_items = ⊤
  SerdeItems (serde.item d ds) (item t ts) = SerdeTree d t × SerdeItems ds ts
  SerdeItems _ _ = ⊥

  -- e.g. its object of b:1 and a:2 is `{"a":2,"b":1}`.
  pub SerdeMembers : serde.Members → Members → Type 0
  SerdeMembers serde.no_members no_members = ⊤
  SerdeMembers (serde.member k d ms) (member j t ps) = (k ≡ j) × SerdeTree d t × SerdeMembers ms ps
  SerdeMembers _ _ = ⊥

-- Holds if the `serde_json` value does not have a JSON tree.
-- e.g. a list of the float 0.5 has none.
abbrev pub HasNoTree : Data → Type 0
HasNoTree d = (t : Tree) → SerdeTree d t → ⊥

-- Holds if the JSON tree of the value exists, is well-formed and means the same as `u`.
abbrev pub SerdeMeans : Data → Tree → Type 0
SerdeMeans d u = (t : Tree) × IsWellFormed t × SerdeTree d t × Same t u

-- Holds if no `serde_json` value has a JSON tree that means the same as `u`.
-- e.g. its 2 means the same as `2.0`; no value means `1e400`.
abbrev pub NoSerdeMeans : Tree → Type 0
NoSerdeMeans u = (d : Data) → SerdeMeans d u → ⊥
