-- A commit's calls are to places that are there, and its uberblock may list devices as out.
use Rattle.std.proofs.Common.{◌≡◌, ℕ, ◌^◌, ◌<◌, ◌≤◌, List, sym, subst}
use Rattle.std.specs.Prelude.{All}
use Rattle.uberblock_ring.specs.Devices.{count_below}
use Rattle.uberblock_ring.specs.Uberblock.{Uber}
use Rattle.uberblock_ring.specs.Valid.{IsRightUber}
use Rattle.commit_job.specs.declared.call.CommitCall.{CommitCall}
use Rattle.commit_job.specs.Stages.{plan_of}
use Rattle.core_commit.specs.Ran.{IsCallInPool}
use Rattle.core_commit.proofs.Order.{plan_ordered}
use Rattle.core_commit.proofs.Going.{ordered_inside, all_inside}

pub plan_inside : (uber : Uber) (plan : List CommitCall) → plan ≡ plan_of uber.reflow.to uber.count
    → All (IsCallInPool uber) plan
plan_inside uber plan is = subst (All (IsCallInPool uber)) (sym is)
    (all_inside uber (plan_of uber.reflow.to uber.count)
    (ordered_inside uber (plan_of uber.reflow.to uber.count) (plan_ordered uber.reflow.to uber.count)))

-- An uberblock may list devices of its pool as out, as many as there are parities.
pub right_listing : (uber other : Uber) (out : ℕ) → IsRightUber uber → other ≡ record uber { out = out }
    → out < 2 ^ uber.reflow.to → count_below out uber.reflow.to ≤ uber.parity
    → IsRightUber other
right_listing uber other out right is below few = subst IsRightUber (sym is) (record {
  pool = right.pool;
  group = right.group;
  parity = right.parity;
  widths = right.widths;
  rows = right.rows;
  reflow = right.reflow;
  area = right.area;
  out = (below, few);
  count = right.count;
  digest = right.digest;
  births = right.births;
})
