-- What each turn of an attach does to the bank and the devices.
use Rattle.core_turns.proofs.Words.{◌≡◌, ◌⊎◌, inl, inr, ℕ, ◌+◌, ◌<◌, Some, None, arith, true≢false, cases_lt, Disk}
use Rattle.core_turns.proofs.Words.{Lawful, Unchanged, touches_widen, IsOnInUse, read_touches, unchanged_none}
use Rattle.core_turns.proofs.Words.{bank_later, JoinStep, JoinRun, join_spares, AttachRun, Reads, Checked, Joins, Signs}
use Rattle.core_turns.proofs.Words.{Turn, More, Done, Core, CoreState, HasBankOf, IsCore, at_disk, HasTooManyOut}
use Rattle.core_turns.proofs.Words.{TurnGoesOn, AttachGoesOn, HasNewDevice, IsAttachCommit, IsAttachRunOf, MayReachOn}
use Rattle.core_turns.proofs.Words.{StepsAttach, StepsJoin, StopsAttach}
use Rattle.core_state.specs.declared.answer.Answer.TheVariants as answer
use Rattle.core_commit.specs.declared.join_run.JoinStep.TheVariants as step
use Rattle.core_turns.proofs.attach.Turns.{join_outs, join_touches}
use Rattle.core_turns.proofs.sync.Goes.{commit_goes}

-- As others' turns do.
pub as_attach : (before after : CoreState) → TurnGoesOn before after → AttachGoesOn before after
as_attach before after goes =
    let only = touches_widen (IsOnInUse before.core.reach before.core.pool.out)
    (IsOnInUse (before.core.reach + 1) before.core.pool.out) (search arith) goes.only in search arith

-- Devices were read at most, and the pool is as it was.
looked : (before after : CoreState) → after.core.pool ≡ before.core.pool → after.core.reach ≡ before.core.reach
    → Unchanged before.disk after.disk → AttachGoesOn before after
looked before after pool reach unchanged = record {
  parity = cc;
  reach = inl reach;
  rows = cc;
  later = unchanged.goes_on.later;
  out = search (true≢false, arith);
  only = search read_touches;
}

-- No device was called.
none_called : (before after : CoreState) → after.core.pool ≡ before.core.pool → after.core.reach ≡ before.core.reach
    → after.disk ≡ before.disk → AttachGoesOn before after
none_called before after pool reach disk = search (looked, unchanged_none, disk, arith)

stopped : (before after : CoreState) → StopsAttach before after → AttachGoesOn before after
stopped before after stops = looked before after (cc) (cc) stops.unchanged

-- A step of the first half, or the decision.
joining : (before after : CoreState) (join : JoinRun) (result : JoinStep) → IsCore before.core → Lawful before.disk
    → IsAttachCommit before.core join.run → MayReachOn before.core → StepsJoin before join after result
    → after.core.pool.uber ≡ before.core.pool.uber
    → (after.core.reach ≡ before.core.reach) ⊎ (after.core.reach ≡ before.core.reach + 1) → AttachGoesOn before after
joining before after join result is lawful commit may did uber reach =
    search (join_spares, join_outs, join_touches, arith)

-- What a turn does, whatever it comes to.
pub attach_goes : (before after : CoreState) (run : AttachRun) (turn : Turn AttachRun) → IsCore before.core
    → Lawful before.disk → IsAttachRunOf before.core run → StepsAttach before run after turn → AttachGoesOn before after
attach_goes before after (Reads ring) (More (Reads next)) is lawful of steps =
    looked before after (rw steps.core) (rw steps.core) steps.unchanged
attach_goes before after (Reads ring) (More (Checked next)) is lawful of steps =
    looked before after (rw steps.core) (rw steps.core) steps.unchanged
attach_goes before after (Checked found) (More (Checked next)) is lawful of steps =
    none_called before after (cc) (cc) (cc)
attach_goes before after (Checked found) (More (Joins join)) is lawful of steps =
    none_called before after (cc) (cc) steps.disk
attach_goes before after (Joins join) (More (Joins next)) is lawful of steps =
    joining before after join (step.GoesOn next) is lawful of.0 of.1 steps.0 (rw steps.1) (inl (rw steps.1))
attach_goes before after (Joins join) (More (Signs run None)) is lawful of steps =
    joining before after join (step.Joined run) is lawful of.0 of.1 steps.0 (rw steps.1) (inr (rw steps.1))
attach_goes before after (Joins join) (More (Signs run (Some because))) is lawful of steps =
    joining before after join (step.Dropped run because) is lawful of.0 of.1 steps.0 (rw steps.1) (inl (rw steps.1))
attach_goes before after (Signs run because) (More (Signs next same)) is lawful of steps =
    as_attach before after (commit_goes before after run (More next) is lawful of.0.of steps.1)
attach_goes before after (Signs run because) (Done given) is lawful of (inl stops) = stopped before after stops.0
attach_goes before after (Signs run because) (Done given) is lawful of (inr ends) =
    let goes : TurnGoesOn before ends.answered = commit_goes before ends.answered run
    (Done (answer.Synced before.core.begun)) is lawful of.0.of ends.answers in
    search (as_attach before ends.answered goes, arith)
attach_goes before after run (Done given) is lawful of steps = stopped before after steps.0
attach_goes before after run turn is lawful of steps = absurd steps

-- The bank goes on having what is in use, and a device that joined.
pub attach_bank : (before after : CoreState) → AttachGoesOn before after → HasBankOf before.core before.disk
    → ((after.core.reach ≡ before.core.reach + 1) → before.core.reach < before.disk.devices)
    → HasBankOf after.core after.disk
attach_bank before after goes bank there = search (bank_later, cases_lt, arith)

-- One that joins was there.
pub attach_there : (before after : CoreState) (run : AttachRun) (turn : Turn AttachRun) → IsAttachRunOf before.core run
    → HasNewDevice before.disk run → StepsAttach before run after turn → after.core.reach ≡ before.core.reach + 1
    → before.core.reach < before.disk.devices
attach_there before after run turn of there steps more = grind arith

pub stops_attach : (old new : Core) (disk : Disk) → new ≡ record old { attaching = None }
    → StopsAttach (at_disk old disk) (at_disk new disk)
stops_attach old new disk core = search unchanged_none

-- Where too many devices are out, each turn says so.
pub attach_too_many : (before after : CoreState) (run : AttachRun) (out : ℕ) → StopsAttach before after
    → HasTooManyOut before.core → out ≡ before.core.pool.out
    → StepsAttach before run after (Done (answer.TooManyFailed out))
attach_too_many before after run out stops many same = grind arith
