-- What each turn of a copy does to the bank and the devices.
use Rattle.core_turns.proofs.Words.{◌≡◌, ⊎_elim, ℕ, Lawful, CopyRound, Rests, Copies, Commits, Turn, More, Done, Core}
use Rattle.core_turns.proofs.Words.{CoreState, IsCore, BeginsRound, IsRoundOf, StepsCopy, TurnGoesOn}
use Rattle.core_state.specs.declared.answer.Answer.TheVariants as answer
use Rattle.core_turns.proofs.sync.Goes.{commit_goes, turn_nowhere, turn_still}
use Rattle.core_turns.proofs.copy.Turns.{job_turn}

module _ (before after : CoreState) where
  abbrev old : Core
  old = before.core

  abbrev new : Core
  new = after.core

  -- A round begins without a call of a device.
  round_goes : (actor : ℕ) (turn : Turn CopyRound) → BeginsRound old new actor turn → after.disk ≡ before.disk
      → TurnGoesOn before after
  round_goes actor (More (Rests whose made)) begins disk = absurd begins
  round_goes actor (Done given) begins disk = let same = begins.1 in turn_still before after (cc) (cc) (cc) disk
  round_goes actor other begins disk = turn_still before after (cc) (cc) (cc) disk

  -- So does each turn of a copy what each turn does.
  pub copy_goes : (round : CopyRound) (turn : Turn CopyRound) → IsCore old → Lawful before.disk
      → IsRoundOf old round → StepsCopy before round after turn → TurnGoesOn before after
  copy_goes (Rests was made) (More (Rests actor next)) is lawful of steps = rw steps.2 (turn_nowhere before)
  copy_goes (Rests actor made) (More begun) is lawful of steps = round_goes actor (More begun) steps.0 steps.1
  copy_goes (Rests actor made) (Done given) is lawful of steps = rw steps.1 (turn_nowhere before)
  copy_goes (Copies run) (More (Copies next)) is lawful of steps = search job_turn
  copy_goes (Copies run) (More (Rests actor next)) is lawful of steps = ⊎_elim
      (λ ended. turn_still before after (rw ended.2.rest) (cc) (rw ended.2.rest) steps.1)
      (λ dropped. turn_still before after (cc) (cc) (cc) steps.1) steps.2
  copy_goes (Copies run) (Done given) is lawful of steps = turn_still before after (cc) (cc) (cc) steps.0
  copy_goes (Commits run) (More (Commits next)) is lawful of steps =
      commit_goes before after run (More next) is lawful of steps
  copy_goes (Commits run) (More (Rests actor made)) is lawful of steps =
      commit_goes before after run (Done (answer.Synced steps.1.0)) is lawful of steps.1.2
  copy_goes (Commits run) (Done given) is lawful of steps = rw steps.2 (turn_nowhere before)
  copy_goes round turn is lawful of steps = absurd steps
