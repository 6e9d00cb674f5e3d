use Rattle.std.proofs.Common.{refl}
use Rattle.std.specs.Prelude.{string_bytes}
use Rattle.ijson_value.proofs.FromMaps.{unique_keys}
use Rattle.ijson_convert.proofs.pairs.Shown.{entries_given, entries_shown, of_shown}
use Rattle.ijson_convert.proofs.maps_to.IndexMapStringToIValue.to_ivalue.Goals as goal

pub object_of-requires : goal.object_of-requires
object_of-requires g c κs =
    ((refl, tt), ((tt, tt), entries_given c.iter.ensures.rest c.len.ensures.len (unique_keys string_bytes _ c.iter.ensures.unique)))

pub returns : goal.returns
returns g c = of_shown c.object_of.ensures {es = c.args.self.now.entries} (entries_shown c.iter.ensures.rest)
