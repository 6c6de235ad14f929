-- Turns that call no device, and leave all of the core but blocks and holds.
use Rattle.schedule.proofs.Words.{◌≡◌, ℕ, List, ap, arith, Disk, Hold, Gains, IsWithin, Blocks, CommitRun, AttachRun}
use Rattle.schedule.proofs.Words.{CopyRun, IsAttachRunOf, Core, IsCore, at_disk, HasTooManyOut, IsCommitOf, BeginsJobSo}
use Rattle.schedule.proofs.Words.{DropsJob, EndsJob, IsJobOf, AreCallsOf, Copying, HoldingCall, TurnGoesOn, count_grows}
use Rattle.schedule.proofs.Words.{attach_kept, attach_still, turn_still, OnlyOut, LeavesCommit, commit_still}
use Rattle.schedule.proofs.Words.{out_leaves, KeepsAlone, keeps_same, job_ends_commit, job_begins_alone}
use Rattle.schedule.proofs.Words.{job_drops_alone, Option}

-- A turn leaves the devices that are out, the uberblock, and the commit and the attach that are under way.
pub record LeavesPool (old new : Core) : Type 0 where
  pub out : new.pool.out ≡ old.pool.out
  pub attaching : new.attaching ≡ old.attaching
  pub commit : LeavesCommit old new

-- So it is where only blocks, holds and who copies changed, and what a commit holds is held still,
leaves_rest : {old new : Core} {blocks : Blocks} {holds : List Hold} {copying : Option ℕ}
    → new ≡ record old { pool = record old.pool { blocks = blocks }; holds = holds; copying = copying }
    → KeepsAlone old.pool.done old.holds new.holds → LeavesPool old new
leaves_rest {old} {new} {blocks} {holds} {copying} core alone = grind arith

pub leaves_pool : (old new : Core) (blocks : Blocks) (holds : List Hold)
    → new ≡ record old { pool = record old.pool { blocks = blocks }; holds = holds }
    → KeepsAlone old.pool.done old.holds new.holds → LeavesPool old new
leaves_pool old new blocks holds core alone = leaves_rest core alone

-- where only blocks did,
pub holds_left : {old new : Core} {blocks : Blocks} → new ≡ record old { pool = record old.pool { blocks = blocks } }
    → LeavesPool old new
holds_left core = search (leaves_pool, keeps_same, arith)

-- and where a job begins, or is given up.
pub job_begun_leaves : {old new : Core} {run : CopyRun} {actor : ℕ} → BeginsJobSo old new actor run → LeavesPool old new
job_begun_leaves begins = leaves_rest begins.rest (job_begins_alone begins)

pub job_dropped_leaves : {old new : Core} {run : CopyRun} → IsCore old → IsJobOf old run → DropsJob old new run
    → LeavesPool old new
job_dropped_leaves is of drops = leaves_rest drops.rest (job_drops_alone is drops of)

-- What a turn leaves of the commit and of the attach that are under way.
pub record KeepsCommit (old new : Core) : Type 0 where
  pub committing : new.committing ≡ old.committing
  pub attaching : new.attaching ≡ old.attaching
  pub commits : (run : CommitRun) → IsCommitOf old run → IsCommitOf new run
  pub attaches : (run : AttachRun) → IsAttachRunOf old run → IsAttachRunOf new run
  pub many : HasTooManyOut old → HasTooManyOut new

-- They are kept where they are left,
keeps_left : {old new : Core} → LeavesCommit old new → new.attaching ≡ old.attaching → KeepsCommit old new
keeps_left {old} {new} leaves attaching = search (commit_still, attach_still, count_grows, arith)

-- as by a turn that leaves the pool,
pub leaves_commit : {old new : Core} → LeavesPool old new → KeepsCommit old new
leaves_commit leaves = keeps_left leaves.commit leaves.attaching

-- and where only devices go out.
pub out_keeps : {old new : Core} → OnlyOut old new → IsWithin old.pool.out new.pool.out → KeepsCommit old new
out_keeps {old} {new} rest within = keeps_left (out_leaves old new rest within) (cc)

-- A turn goes on so where only blocks and holds changed.
pub pool_goes : {old new : Core} {blocks : Blocks} {holds : List Hold} {disk : Disk}
    → new ≡ record old { pool = record old.pool { blocks = blocks }; holds = holds }
    → TurnGoesOn (at_disk old disk) (at_disk new disk)
pool_goes {old = old} {new = new} {disk = disk} core = search (turn_still, core, arith)

-- They are kept where a job ends: the front goes on, and what a commit holds is below it.
pub job_ended_keeps : (old new : Core) {run : CopyRun} {left calls : List HoldingCall} → IsCore old
    → EndsJob old new run → Gains left calls (Copying run) → AreCallsOf old calls → KeepsCommit old new
job_ended_keeps old new is ends gains are =
    let uber = ap (λ (c : Core). c.pool.uber) ends.rest in
    let commits = job_ends_commit is ends gains are in record {
      committing = cc;
      attaching = cc;
      commits = commits;
      attaches = λ attach. attach_kept old new attach uber (cc) (cc) (cc) commits;
      many = rw ends.rest (λ many. many);
    }

-- They are kept where nothing changed.
pub same_keeps : (old : Core) {now : Core} → now ≡ old → KeepsCommit old now
same_keeps old same = rw same (search)
