use Rattle.std.proofs.Common.{◌≡◌, [], ◌∷◌, subst, rules}
use Rattle.ijson_string.specs.Cache.{interned}
use Rattle.ijson_convert.specs.Interned.{SomeInterned}
use Rattle.ijson_convert.specs.TextsOf.{texts_of}
use Rattle.ijson_convert.proofs.Interning.{some_behind}
use Rattle.ijson_convert.proofs.maps_to.pair_of.Goals as goal

pub returns-in-Err-clause-refused : goal.returns-in-Err-clause-refused
returns-in-Err-clause-refused g c =
    let texts = texts_of (g.T.ToIValue.tree c.args.x.now) in
    let cached : c.intern.new.cache ≡ interned c.args.key.now c.args.cache.now = search rules in
    let behind = subst (λ m. SomeInterned texts m c.to_ivalue.new.cache) cached c.in-Err.ensures.refused.1 in
    (c.in-Err.ensures.refused.0, some_behind (c.args.key.now ∷ []) texts c.args.cache.now c.to_ivalue.new.cache behind)
