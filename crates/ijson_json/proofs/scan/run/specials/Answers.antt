use Rattle.ijson_json.proofs.scanning.SpecialMasks.{specials_mask}
use Rattle.ijson_json.proofs.scan.run.specials.Goals as goal

pub returns : goal.returns
returns g c = specials_mask c.args.bytes g.row.N c.fits-bytes.0 c.requires
