use Rattle.client_script.proofs.HexLanes.{places_in_table, digits_of}
use Rattle.client_script.proofs.hex_lanes.lane_digits.Goals as goal

pub swizzle : goal.swizzle
swizzle c = places_in_table c.args.values c.fits-values.0 c.requires

pub returns : goal.returns
returns c = digits_of c.args.values c.fits-values.0 c.requires
