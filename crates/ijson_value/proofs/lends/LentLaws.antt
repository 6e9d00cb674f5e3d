-- The laws of the types that lookups return: an optional mutable reference to a value, alone or
-- together with a key.
use Rattle.ijson_value.proofs.lends.Steps.{[], ◌∷◌, refl, Lft, named, RattleType, MutRef, Laws, of_field, row_shared, mut_ref_shared}
use Rattle.ijson_value.proofs.lends.Steps.{mut_ref_laws, mut_ref_field}
use denote.Param.Shared.{copy_shared}
use denote.Ref.{ShrRef, NamedLft}
use denote.Struct.Field.{shr_ref_field}
use denote.Struct.Laws.{shr_ref_laws, shr_ref_copy}
use denote.Struct.Tuple.{Tuple, tuple_laws}
use Rattle.std.specs.contracts.option.Option.{the_row as OptionOf}
use Rattle.std.proofs.option.Option.TheLaws.{the_row_laws as option_laws}
use Rattle.ijson_string.specs.contracts.text.IString.{the_row as S}
use Rattle.ijson_string.proofs.text.IString.TheLaws.{the_row_laws as string_laws}
use Rattle.ijson_value.specs.contracts.value.IValue.{the_row as V}
use Rattle.ijson_value.proofs.value.IValue.TheLaws.{the_row_laws as value_laws}

-- The laws of an optional mutable reference to a value.
abbrev pub value_found_laws : (κ : Lft) → Laws (OptionOf (MutRef (named 0) κ V))
value_found_laws κ = let a : NamedLft = record { mir = named 0; lft = κ } in
    option_laws (MutRef (named 0) κ V) (of_field (mut_ref_field a V tt) (mut_ref_laws a V tt) refl
    (mut_ref_shared a V tt (row_shared V value_laws)))

-- The type of a shared reference to a key with a mutable reference to its value.
abbrev pub Pair : Lft → RattleType
Pair κ = Tuple (ShrRef (named 0) κ S ∷ MutRef (named 0) κ V ∷ [])

-- The laws of a shared reference to a key with a mutable reference to its value.
abbrev pub pair_laws : (κ : Lft) → Laws (Pair κ)
pair_laws κ = let a : NamedLft = record { mir = named 0; lft = κ } in
    tuple_laws (ShrRef (named 0) κ S ∷ MutRef (named 0) κ V ∷ []) (
      of_field (shr_ref_field a S tt) (shr_ref_laws a S tt) refl
          (copy_shared (shr_ref_field a S tt) (shr_ref_copy a S tt string_laws.shr_laws)),
      (of_field (mut_ref_field a V tt) (mut_ref_laws a V tt) refl (mut_ref_shared a V tt (row_shared V value_laws)), tt),
    )

-- The laws of an optional pair of a reference to a key and a mutable reference to its value.
abbrev pub pair_found_laws : (κ : Lft) → Laws (OptionOf (Pair κ))
pair_found_laws κ = option_laws (Pair κ) (pair_laws κ)
