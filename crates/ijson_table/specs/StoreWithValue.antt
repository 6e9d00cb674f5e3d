-- A pair store after the value at an index is replaced.
use Rattle.std.specs.Prelude.{ℕ}
use Rattle.std.proofs.Common.{sym, subst}
use Rattle.ijson_table.specs.Store.{Store, IsDistinct, with_value}
use Rattle.ijson_table.specs.laws.Store.{keys-with_value}

-- The store `s` with `value` at index `i`. The keys and the capacity are unchanged.
-- e.g. 5 at index 1 of a:1, b:2 at capacity 4 leaves a:1, b:5 at capacity 4.
abbrev pub store_with_value : {V : Type 0} → Store V → ℕ → V → Store V
store_with_value s i value = record {
  pairs = with_value s.pairs i value;
  capacity = s.capacity;
  distinct = subst IsDistinct (sym (keys-with_value s.pairs i value)) s.distinct;
}
