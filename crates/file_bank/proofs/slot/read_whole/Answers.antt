use Rattle.file_bank.proofs.Pieces.{all_there, by_number}
use Rattle.file_bank.proofs.slot.read_whole.Goals as goal

pub returns-then-filled-eq512-clause-bytes : goal.returns-then-filled-eq512-clause-bytes
returns-then-filled-eq512-clause-bytes g c = λ bytes is.
    all_there _ _ _ c.if-filled-eq512.true c.read_more.array_long
    ((g.met.F.BlockFile.lawful c.args.file.now).whole _ bytes is)
    (c.in_ok-filled.ensures.front bytes
    (by_number (g.F.BlockFile.contents c.loop-turn.file) (g.F.BlockFile.contents c.args.file.now)
    _ _ _ c.loop-turn.invariant.same c.in_ok-start.ensures.begins is)
    (c.loop-turn.invariant.front bytes is))
