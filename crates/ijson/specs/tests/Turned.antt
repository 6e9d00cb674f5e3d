-- Holds if the opened value `y` is `x` with its Boolean negated. A value of another kind is
-- unchanged.
use Rattle.std.specs.Prelude.{◌≡◌, not, ⊤}
use Rattle.ijson_value.specs.declared.value.destructure.DestructuredMut.{DestructuredMut}
use Rattle.ijson_value.specs.declared.value.destructure.DestructuredMut.TheVariants.{Null, Bool, Number, String, Array, Object}

-- e.g. `true` and `false` behind one reference.
abbrev pub IsTurned : DestructuredMut → DestructuredMut → Type 0
IsTurned Null Null = ⊤
IsTurned (Bool a) (Bool b) = (a.place.ghost_name ≡ b.place.ghost_name) × (b.place.now ≡ not a.place.now)
IsTurned (Number a) (Number b) = a ≡ b
IsTurned (String a) (String b) = a ≡ b
IsTurned (Array a) (Array b) = a ≡ b
IsTurned (Object a) (Object b) = a ≡ b
IsTurned x y = ⊥
