use Rattle.ijson_convert.proofs.reading.MembersRead.{ReadSoFar}
use Rattle.ijson_convert.proofs.maps_from.BTreeMapStringFromIValue.from_ivalue.Given as goal

-- The entries so far are accepted, and the map means the same as these entries.
abbrev pub invariant-loop-key : goal.invariant-loop-key
invariant-loop-key g l =
    ReadSoFar g.T.FromIValue.tree g.T.FromIValue.refused g.T.FromIValue.null_is_none l.value l.key-iterator l.map.entries
