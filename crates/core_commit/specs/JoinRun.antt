-- A commit that a new device may join.
use Rattle.std.specs.Prelude.{◌≡◌, ◌<◌}
use Rattle.core_commit.specs.declared.commit_run.Stage.TheVariants.{Lays}
use Rattle.core_commit.specs.CommitTurns.{CommitRun}
use Rattle.core_commit.specs.declared.guest.Guest.{Guest}

-- the pool's commit, and how far the device behind the pool's has come
pub record JoinRun : Type 0 where
  pub run : CommitRun
  pub guest : Guest

-- The commit is in its first half, and its group is at rest and leaves room for one device more.
pub record IsJoinRun (join : JoinRun) : Type 0 where
  pub rest : join.run.uber.reflow.to ≡ join.run.uber.reflow.from
  pub room : join.run.uber.reflow.to < 16
  pub lays : join.run.stage ≡ Lays
