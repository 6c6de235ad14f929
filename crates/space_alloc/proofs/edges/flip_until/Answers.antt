use Rattle.std.proofs.Common.{◌+◌, sym, ◌∙◌, subst}
use Rattle.space_alloc.specs.Edges.{HasReleased}
use Rattle.space_alloc.proofs.Releasing.{released, release_passes, release_frees}
use Rattle.space_alloc.proofs.edges.flip_until.Goals as goal
use Rattle.space_alloc.proofs.edges.flip_until.Goals.{then-not-is_left, else-not-is_left}

pub loop-run-preserved : goal.loop-run-preserved
loop-run-preserved c = elim c.if-not-is_left.branch [
  | then-not-is_left w ↦ subst (HasReleased c.args.held.now (released c.args.group c.args.held.now (c.loop-run.run-index + 1)) c.args.edges.now) (sym w.edges-is)
      (release_frees _ _ _ _ _ _ c.loop-run-test.true c.loop-run.invariant _ _ (sym c.is_left.ensures ∙ w.if-not-is_left.true) w.end.ensures
      w.flip_run.ensures.rising w.flip_run.ensures.flipped w.flip_run.ensures.len w.flip_run.ensures.capacity)
  | else-not-is_left w ↦ subst (HasReleased c.args.held.now (released c.args.group c.args.held.now (c.loop-run.run-index + 1)) c.args.edges.now) (sym w.edges-is)
      (release_passes _ _ _ _ _ _ c.loop-run-test.true c.loop-run.invariant (sym c.is_left.ensures ∙ w.if-not-is_left.false))
]
