-- What a call under way does: the sectors that it holds, and the commit that it makes.
use Rattle.std.specs.Prelude.{ℕ, List, ◌∷◌, [], Option, Some, None, IsSome}
use Rattle.core_commit.specs.CommitTurns.{CommitRun}
use Rattle.core_turns.specs.declared.attaching.AttachRun.TheVariants.{Signs}
use Rattle.core_turns.specs.Attaching.{attach_commit}
use Rattle.core_turns.specs.declared.rounds.CopyRound.TheVariants.{Rests, Copies, Commits}
use Rattle.core_turns.specs.UnderWay.{HoldingCall, Copying, Putting, Reading}
use Rattle.schedule.specs.declared.client.Work.{Work}
use Rattle.schedule.specs.declared.client.Work.TheVariants as work

-- the call of a work that holds sectors, if it is one
abbrev pub held_by : Work → List HoldingCall
held_by (work.Put run) = Putting run ∷ []
held_by (work.Read run) = Reading run ∷ []
held_by (work.Sync run) = []
held_by (work.Attach run) = []
held_by (work.Copy (Copies run)) = Copying run ∷ []
held_by (work.Copy round) = []

-- the commit that a work makes, if it makes one
abbrev pub commit_in : Work → Option CommitRun
commit_in (work.Put run) = None
commit_in (work.Read run) = None
commit_in (work.Sync run) = Some run
commit_in (work.Attach run) = attach_commit run
commit_in (work.Copy (Commits run)) = Some run
commit_in (work.Copy round) = None

-- The work makes a commit.
abbrev pub MakesCommit : Work → Type 0
MakesCommit does = IsSome (commit_in does)

-- the group of an attach's commit, once its uberblocks are being written
abbrev pub made_by : Work → Option ℕ
made_by (work.Attach (Signs run because)) = Some run.uber.group
made_by other = None

-- the group that a commit of a copy made in the turn before, where it did; the copy goes on
abbrev pub made_in : Work → Option ℕ
made_in (work.Copy (Rests actor made)) = made
made_in other = None

-- how many items the journal had when a call's group began: as many as it has now, where the call's commit begins in
-- this turn, and else as many as were told before
abbrev pub begun_at : Option CommitRun → Option CommitRun → ℕ → ℕ → ℕ
begun_at None was at now = at
begun_at (Some run) None at now = now
begun_at (Some run) (Some was) at now = at
