-- What the later turns of a copy leave.
use Rattle.schedule.proofs.Words.{Answer, Commits, Copies, CopyRound, CopyRun, Core, CoreState, Done, EndsHold}
use Rattle.schedule.proofs.Words.{GoesOnBy, IsCore, IsJobRefused, IsRoundOf, IsRoundRefused, LacksRoom, More, None}
use Rattle.schedule.proofs.Words.{Rests, ScriptCall, Some, StepsCopy, [], ap, arith, made_in, ℕ, ⊎_elim, ◌≡◌}
use Rattle.core_state.specs.declared.answer.Answer.TheVariants as answer
use Rattle.schedule.specs.declared.client.Work.TheVariants as work
use Rattle.schedule.proofs.turn.UsingEnds.{EndsAs, EndsPlainly, commit_plain, ends_plainly, group_ends, plain_ends}
use Rattle.schedule.proofs.turn.UsingTurns.{GoesAs, commit_goes, core_goes, frees_none, goes_as, goes_nowhere, job_goes}
use Rattle.schedule.proofs.turn.UsingTurns.{job_in, shares_ended, shares_same}

-- ---- its answers

-- They come with no group, and tell of no want of space: where a job is refused,
job_plain : (core : Core) (given : Answer) → IsJobRefused core given → EndsPlainly given None
job_plain core given refused = grind (arith, plain_ends)

-- so where a round is refused,
pub round_plain : {core : Core} {given : Answer} → IsRoundRefused core given → EndsPlainly given None
round_plain {core} {given} refused = grind (arith, job_plain, commit_plain)

-- or too many devices are out,
too_many_plain : {given : Answer} {out : ℕ} → given ≡ answer.TooManyFailed out → EndsPlainly given None
too_many_plain is = rw is (plain_ends tt)

-- in a later turn that is the last,
steps_plain : (before after : CoreState) (round : CopyRound) (given : Answer)
    → StepsCopy before round after (Done given) → EndsPlainly given None
steps_plain before after round given steps = grind (arith, round_plain, too_many_plain)

-- or there is no room for the next group.
lacking_plain : (before after : CoreState) (round : CopyRound) (given : Answer) → LacksRoom round before after given
    → EndsPlainly given None
lacking_plain before after round given lacks = grind (arith, plain_ends)

-- So it is however a copy ends.
pub copy_plain : (before after : CoreState) (call : ScriptCall) (round : CopyRound) (given : Answer)
    → GoesOnBy before after call (work.Copy round) (Done given) → EndsPlainly given None
copy_plain before after call round given goes = grind (arith, steps_plain, lacking_plain)

-- ---- its turns

module _ (before after : CoreState) where
  abbrev old : Core
  old = before.core

  abbrev new : Core
  new = after.core

  -- A job ends, and holds its sectors no longer. Nobody copies then.
  job_ended : {run : CopyRun} → new.pool.uber ≡ old.pool.uber → new.copying ≡ None
      → new.pool.blocks.space ≡ old.pool.blocks.space → EndsHold old.holds new.holds run.hold
      → GoesAs old new [] None (Some run) None 0 0
  job_ended uber none space ends = goes_as uber none (frees_none space) (shares_ended ends) (omega arith)

  -- A later turn: one after which the copy goes on,
  pub copy_goes : (round next : CopyRound) → IsCore old → IsRoundOf old round
      → StepsCopy before round after (More next) → IsRoundOf new next
      → GoesAs old new [] (made_in (work.Copy next)) (job_in (work.Copy round)) (job_in (work.Copy next)) 0 0
  copy_goes (Rests was made) (Rests actor next) is was_of goes of = rw goes.0.1 (goes_nowhere (cc))
  copy_goes (Rests actor made) (Copies run) is was_of goes of = job_goes run goes.0
  copy_goes (Rests actor made) (Commits run) is was_of goes of = commit_goes goes.0.2
  copy_goes (Copies run) (Copies next) is was_of goes of = grind (arith, goes_as, frees_none, shares_same)
  copy_goes (Copies run) (Rests actor next) is was_of goes of = rw goes.0.1 (⊎_elim
      (λ ended. job_ended (ap (λ (c : Core). c.pool.uber) ended.2.rest) (cc) (search arith) ended.2.ends)
      (λ dropped. job_ended (cc) (cc) (cc) dropped.1.ends) goes.2)
  copy_goes (Copies run) (Commits next) is was_of goes of = absurd goes
  copy_goes (Commits run) (Commits next) is was_of goes of = core_goes goes.2
  copy_goes (Commits run) (Rests actor made) is was_of goes of =
      rw goes.1.1 (group_ends before after is was_of goes.1.2)
  copy_goes (Commits run) (Copies next) is was_of goes of = absurd goes

  -- and its last, where room was made for the next group,
  steps_end : (round : CopyRound) (given : Answer) → StepsCopy before round after (Done given)
      → GoesAs old new [] None (job_in (work.Copy round)) None 0 0
  steps_end (Rests actor made) given steps = goes_nowhere (cc)
  steps_end (Copies run) given steps = job_ended (cc) (cc) (cc) steps.1.ends
  steps_end (Commits run) given steps = goes_nowhere (cc)

  -- or there was none.
  lacking_ends : (round : CopyRound) (given : Answer) → LacksRoom round before after given
      → GoesAs old new [] None (job_in (work.Copy round)) None 0 0
  lacking_ends round given lacks = grind (arith, goes_nowhere)

  -- So its end lists no group, and nobody copies where it was a job's.
  pub copy_ends : (call : ScriptCall) (round : CopyRound) (given : Answer)
      → GoesOnBy before after call (work.Copy round) (Done given)
      → EndsAs old new given None (job_in (work.Copy round)) 0
  copy_ends call round given goes = grind (arith, ends_plainly, copy_plain, steps_end, lacking_ends)
