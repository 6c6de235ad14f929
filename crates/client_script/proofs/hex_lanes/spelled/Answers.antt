use Rattle.std.proofs.Common.{List, ℕ, map, ◌∙◌, ap}
use Rattle.client_script.specs.Lines.{hex_digit}
use Rattle.client_script.proofs.HexLanes.{upper, upper_low, lower, lower_low, text_of_woven}
use Rattle.client_script.proofs.hex_lanes.spelled.Goals as goal

pub lane_digits-high-requires : goal.lane_digits-high-requires
lane_digits-high-requires c = upper_low c.args.bytes c.fits-bytes.0 c.fits-bytes.1

pub lane_digits-low-requires : goal.lane_digits-low-requires
lane_digits-low-requires c = lower_low c.args.bytes c.fits-bytes.0

pub returns-clause-both : goal.returns-clause-both
returns-clause-both c =
    text_of_woven c.args.bytes c.lane_digits-high.result c.lane_digits-low.result c.fits-bytes.0
    (c.lane_digits-high.ensures ∙ ap (λ (l : List ℕ). map hex_digit l) (upper c.args.bytes c.fits-bytes.0))
    (c.lane_digits-low.ensures ∙ ap (λ (l : List ℕ). map hex_digit l) (lower c.args.bytes c.fits-bytes.0))
