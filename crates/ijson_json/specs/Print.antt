-- The JSON text of a tree, without white space. RFC 8259 allows several texts; this choice is the
-- project's own.
use Rattle.std.specs.Prelude.{ℕ, ◌+◌, ◌/◌, ◌%◌, cond, ◌==◌, nat_lt, List, [], ◌∷◌, ◌++◌}
use Rattle.ijson_number.specs.Decimal.{Decimal}
use Rattle.ijson_number.specs.Text.{num_text}
use Rattle.ijson_value.specs.Tree.{Tree, null, boolean, number, string, array, object, Items, no_items, item, Members, no_members, member}
use Rattle.ijson_json.specs.Grammar.{null_text, boolean_text}

-- The lower-case hexadecimal digit of `n`, which is below 16.
abbrev pub hex_text : ℕ → ℕ
hex_text n = cond (nat_lt n 10) (48 + n) (87 + n)

-- The bytes that spell the byte `b` in a string. `"`, a backslash and bytes below 32 are escaped:
-- with a letter if RFC 8259 has a letter for the byte, otherwise like `\u001f`.
unfoldable pub escaped : ℕ → List ℕ
escaped b =
    cond (b == 34) (92 ∷ 34 ∷ [])
    (cond (b == 92) (92 ∷ 92 ∷ [])
    (cond (b == 8) (92 ∷ 98 ∷ [])
    (cond (b == 9) (92 ∷ 116 ∷ [])
    (cond (b == 10) (92 ∷ 110 ∷ [])
    (cond (b == 12) (92 ∷ 102 ∷ [])
    (cond (b == 13) (92 ∷ 114 ∷ [])
    (cond (nat_lt b 32) (92 ∷ 117 ∷ 48 ∷ 48 ∷ hex_text (b / 16) ∷ hex_text (b % 16) ∷ [])
    (b ∷ []))))))))

abbrev pub all_escaped : List ℕ → List ℕ
all_escaped [] = []
all_escaped (b ∷ bs) = escaped b ++ all_escaped bs

-- The string `s` in quotes, with its escapes.
-- e.g. the byte 1f is written `\u001f`, a line feed `\n`, and `/` and 7f as themselves.
abbrev pub quoted : List ℕ → List ℕ
quoted s = 34 ∷ (all_escaped s ++ 34 ∷ [])

-- The JSON text of a tree, in which `num` writes the numbers.
abbrev mutual
  pub text_by : (Decimal → List ℕ) → Tree → List ℕ
  text_by num null = null_text
  text_by num (boolean b) = boolean_text b
  text_by num (number n) = num n
  text_by num (string s) = quoted s
  text_by num (array items) = 91 ∷ (items_by num items ++ 93 ∷ [])
  text_by num (object members) = 123 ∷ (members_by num members ++ 125 ∷ [])

  pub items_by : (Decimal → List ℕ) → Items → List ℕ
  items_by num no_items = []
  items_by num (item t no_items) = text_by num t
  items_by num (item t (item u more)) = text_by num t ++ 44 ∷ items_by num (item u more)

  pub members_by : (Decimal → List ℕ) → Members → List ℕ
  members_by num no_members = []
  members_by num (member k t no_members) = quoted k ++ 58 ∷ text_by num t
  members_by num (member k t (member l u more)) =
      (quoted k ++ 58 ∷ text_by num t) ++ 44 ∷ members_by num (member l u more)

-- The JSON text of a tree, in which `num_text` writes the numbers.
abbrev pub print : Tree → List ℕ
print t = text_by num_text t

abbrev pub print_items : Items → List ℕ
print_items items = items_by num_text items

-- e.g. `{"a":1,"b":[2,3],"c":{"d":0.5}}` is written so.
abbrev pub print_members : Members → List ℕ
print_members members = members_by num_text members
