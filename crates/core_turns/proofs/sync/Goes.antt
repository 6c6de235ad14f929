-- Commits, turn by turn: what a step leaves, and what each turn does to the bank and the devices.
use Rattle.core_turns.proofs.Words.{◌≡◌, ◌⊎◌, ℕ, ◌^◌, ◌<◌, length, ap, arith, true≢false, Disk, Lawful, TouchesOnly}
use Rattle.core_turns.proofs.Words.{later_refl, touches_none, IsWithin, Uber, IsRightUber, Point, point_of}
use Rattle.core_turns.proofs.Words.{OnlyFailedGoOut, outs_none, CommitStep, Called, Ended, CommitRun, CommitSteps}
use Rattle.core_turns.proofs.Words.{FitsBank, IsOnInUse, ready_keeps, steps_same, steps_went, touched_none}
use Rattle.core_turns.proofs.Words.{touched_more, bank_later, Turn, More, Done, Core, CoreState, IsCore, HasBankOf}
use Rattle.core_turns.proofs.Words.{IsCommitOf, IsHeldAlone, hold_for, StepsCommit, TurnGoesOn}
use Rattle.core_state.specs.declared.answer.Answer.TheVariants as answer
use Rattle.core_turns.proofs.state.Cores.{core_out}
use Rattle.core_turns.proofs.sync.Begins.{core_rows}

-- The devices that go out in a step failed.
pub step_outs : (before after : Point) (run stepped : CommitRun) (result : CommitStep)
    → CommitSteps run before stepped after result → OnlyFailedGoOut before after
step_outs before after run stepped result did = search (steps_went, stepped, did, true≢false, arith)

-- A commit stays one of the core over a step: its group is right, and what that lists as out is out still.
pub commit_stays : (core : Core) (run stepped : CommitRun) (out : ℕ) (old new : Disk) (result : CommitStep)
    → IsCommitOf core run → CommitSteps run (point_of core.pool.out old) stepped (point_of out new) result
    → IsWithin core.pool.out out → IsCommitOf (record core { pool = record core.pool { out = out } }) stepped
commit_stays core run stepped out old new result of did still =
    let same = (steps_same result run stepped (point_of core.pool.out old) (point_of out new) did).0 in
    let widths = ap (λ (u : Uber). u.reflow) same in
    let right : IsRightUber stepped.uber = grind arith in
    let lists : IsWithin stepped.uber.out out = grind arith in
    let held : IsHeldAlone core.pool.done core.holds (hold_for core.pool.uber.reflow stepped.uber.reflow of.actor) =
    rw widths of.holds in
    search (same, held, arith)

-- The bank has what the commit's calls ask for.
pub commit_fits : (core : Core) (run : CommitRun) (disk : Disk) → IsCore core → IsCommitOf core run
    → length run.entries ≡ run.uber.count → HasBankOf core disk → FitsBank run.uber run.entries core.pool.out disk
commit_fits core run disk is of counted bank = search (core_rows, arith)

-- The devices that are out stay those of the pool over a call.
pub step_core : (core : Core) (run stepped : CommitRun) (old new : Disk) (out : ℕ) (result : CommitStep) → IsCore core
    → IsCommitOf core run → CommitSteps run (point_of core.pool.out old) stepped (point_of out new) result
    → out < 2 ^ stepped.uber.reflow.to → IsCore (record core { pool = record core.pool { out = out } })
step_core core run stepped old new out result is of did below =
    search (steps_same, stepped, did, core_out, step_outs, arith)

-- The devices that a step touches are in use.
pub step_touches : (core : Core) (run stepped : CommitRun) (out : ℕ) (old new : Disk) (result : CommitStep)
    → IsCore core → Lawful old → IsCommitOf core run → CommitSteps run (point_of core.pool.out old) stepped
    (point_of out new) result → TouchesOnly (IsOnInUse core.reach core.pool.out) old new
step_touches core run stepped out old new Called is lawful of did =
    let widths : did.ready.uber.reflow.to ≡ core.reach = search (ready_keeps, of.reach, did.is_ready, arith) in
    let before = point_of core.pool.out old in
    rw widths at (touched_more did.ready.uber did.ready.entries did.call before before (point_of out new) lawful
    did.inside (touched_none did.ready.uber before) did.made).only
step_touches core run stepped out old new Ended is lawful of did =
    rw (ap (λ (p : Point). p.disk) did.same) (touches_none (IsOnInUse core.reach core.pool.out) old)

-- No turn was made.
pub turn_nowhere : (state : CoreState) → TurnGoesOn state state
turn_nowhere state = search (later_refl, outs_none, touches_none)

-- Where the disk is as it was, no device was called.
pub turn_still : (before after : CoreState) → after.core.pool.uber ≡ before.core.pool.uber
    → after.core.reach ≡ before.core.reach → after.core.pool.out ≡ before.core.pool.out → after.disk ≡ before.disk
    → TurnGoesOn before after
turn_still before after uber reach outs disk = search (turn_nowhere before, uber, reach, arith)

-- What a turn of a commit does, whether its group is answered or not.
pub turn_steps : (before after : CoreState) (run stepped : CommitRun) (result : CommitStep) → IsCore before.core
    → Lawful before.disk → IsCommitOf before.core run
    → CommitSteps run (point_of before.core.pool.out before.disk) stepped
    (point_of after.core.pool.out after.disk) result
    → (after.core.pool.uber ≡ before.core.pool.uber) ⊎ (after.core.pool.uber ≡ stepped.uber)
    → after.core.reach ≡ before.core.reach → TurnGoesOn before after
turn_steps before after run stepped result is lawful of did uber reach =
    search (steps_same, core_rows, uber, steps_went, step_outs, step_touches, stepped, did, arith)

-- What a turn of a commit does to the bank and the devices: nothing, or what a step of it does.
pub commit_goes : (before after : CoreState) (run : CommitRun) (result : Turn CommitRun) → IsCore before.core
    → Lawful before.disk → IsCommitOf before.core run → StepsCommit before run after result → TurnGoesOn before after
commit_goes before after run (More next) is lawful of steps =
    turn_steps before after run next Called is lawful of steps.1 (search arith) (cc)
commit_goes before after run (Done (answer.Synced group)) is lawful of answers =
    turn_steps before after run answers.ended Ended is lawful of answers.ends (search arith) (cc)
commit_goes before after run (Done (answer.TooManyFailed out)) is lawful of many = rw many.2 (turn_nowhere before)
commit_goes before after run result is lawful of none = absurd none

-- The bank goes on having what is in use over any turn.
pub turn_bank : (before after : CoreState) → TurnGoesOn before after → HasBankOf before.core before.disk
    → HasBankOf after.core after.disk
turn_bank before after goes bank = search (bank_later, goes.reach, goes.rows, arith)
