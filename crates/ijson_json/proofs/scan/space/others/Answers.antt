use Rattle.ijson_json.proofs.scanning.WhiteSpace.{others_mask}
use Rattle.ijson_json.proofs.scan.space.others.Goals as goal

pub returns : goal.returns
returns c = others_mask c.args.bytes c.fits-bytes.0
