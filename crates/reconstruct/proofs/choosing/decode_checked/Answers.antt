use Rattle.reconstruct.proofs.Choices.{decoded_by_none, some_at}
use Rattle.reconstruct.proofs.choosing.decode_checked.Goals as goal

pub returns-in-Some-clause-ok : goal.returns-in-Some-clause-ok
returns-in-Some-clause-ok c =
    decoded_by_none c.args.layout.now c.args.rows.now c.args.lost.now c.args.len c.args.digest.now c.args.suspects.now
    c.in-Some.bytes.items c.in_ok-bytes.ensures.within.is
    (some_at _ c.in_ok-bytes.field-0 c.in-Some.bytes c.in-Some.is c.in_ok-bytes.ensures.some)
    (some_at _ c.in_ok-bytes.field-0 c.in-Some.bytes c.in-Some.is c.in_ok-bytes.ensures.alone)
