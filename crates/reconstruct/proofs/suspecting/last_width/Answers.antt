use Rattle.std.proofs.Common.{◌∙◌, ap}
use Rattle.width_map.specs.Births.{last_width}
use Rattle.reconstruct.proofs.Pairs.{last_of}
use Rattle.reconstruct.proofs.suspecting.last_width.Goals as goal

pub returns : goal.returns
returns c = last_of c.as_slice-births.result.now _ (rw c.as_slice-births.ensures.value c.as_slice-births.ensures.some)
    ∙ ap last_width c.as_slice-births.ensures.value
