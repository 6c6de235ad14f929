use Rattle.std.proofs.Common.{◌*◌}
use Rattle.client_script.proofs.HexLanes.{stored_both}
use Rattle.client_script.proofs.hex_lanes.spell_lanes.Goals as goal

pub returns-clause-spelled : goal.returns-clause-spelled
returns-clause-spelled c =
    stored_both c.args.digits.now c.spelled.result.0 c.spelled.result.1 _ (2 * c.args.place) c.spelled.ensures.front c.spelled.ensures.back c.requires.digits c.spelled.ensures.both
