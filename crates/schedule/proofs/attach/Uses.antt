-- What the later turns of an attach leave.
use Rattle.schedule.proofs.Words.{Answer, AttachRun, Checked, CommitRun, Core, CoreState, Done, EndsAttach}
use Rattle.schedule.proofs.Words.{IsAttachRunOf, IsCommitOf, IsCore, IsDeviceRefused, IsSyncRefused, IsTooMany, Joins}
use Rattle.schedule.proofs.Words.{More, None, Option, Reads, RingRead, Signs, Some, StepsAttach, StopsAttach}
use Rattle.schedule.proofs.Words.{WhyDropped, [], ap, arith, attach_answer, group_by, made_by, ℕ, ⊎_elim, ◌∙◌, ◌≡◌}
use Rattle.schedule.specs.declared.client.Work.TheVariants as work
use Rattle.schedule.proofs.turn.UsingEnds.{EndsAs, EndsPlainly, commit_plain, ends_grouped, ends_plainly, group_ends}
use Rattle.schedule.proofs.turn.UsingEnds.{plain_ends}
use Rattle.schedule.proofs.turn.UsingTurns.{GoesAs, GoesOn, commit_goes, core_goes, goes_nowhere, goes_still}

-- Who attaches is not told of in what a turn leaves.
attaching_goes : {old now : Core} {number : ℕ} {by : Option ℕ} → GoesAs old now [] (Some number) None None 0 0
    → GoesAs old (record now { attaching = by }) [] (Some number) None None 0 0
attaching_goes goes = grind arith

module _ (before after : CoreState) (is : IsCore before.core) where
  abbrev old : Core
  old = before.core

  abbrev new : Core
  new = after.core

  -- An attach stops.
  stops_goes : StopsAttach before after → GoesOn old new
  stops_goes stops = goes_still (cc) (cc) (cc) (cc)

  -- A later turn: one after which the attach goes on,
  pub attach_goes : (run next : AttachRun) → StepsAttach before run after (More next) → GoesOn old new
  attach_goes (Reads ring) (Reads next) goes = goes_nowhere goes.core
  attach_goes (Reads ring) (Checked next) goes = goes_nowhere goes.core
  attach_goes (Checked found) (Checked next) goes = goes_nowhere (cc)
  attach_goes (Checked found) (Joins join) goes = commit_goes goes.begins
  attach_goes (Joins join) (Joins next) goes = core_goes goes.1
  attach_goes (Joins join) (Signs run None) goes = search (goes_still, arith)
  attach_goes (Joins join) (Signs run (Some because)) goes = core_goes goes.1
  attach_goes (Signs run because) (Signs next same) goes = core_goes goes.1.2
  attach_goes run next goes = absurd goes

  -- and its last. It is answered without a group,
  too_many_plain : (given : Answer) {made : Option ℕ} → IsTooMany old given → EndsPlainly given made
  too_many_plain given many = grind (arith, plain_ends)

  pub refused_plain : (ring : RingRead) (given : Answer) → IsDeviceRefused before ring after given
      → EndsPlainly given None
  refused_plain ring given refused = grind (arith, plain_ends)

  pub sync_plain : (given : Answer) → IsSyncRefused old given → EndsPlainly given None
  sync_plain given refused = commit_plain old given refused

  -- or with the group of its commit.
  pub answered_by : (because : Option WhyDropped) (width : ℕ) {group number : ℕ} → group ≡ number
      → group_by (attach_answer because width number) (Some group) ≡ Some number
  answered_by because width same = grind arith

  attach_answered : (run : CommitRun) (because : Option WhyDropped) (given : Answer) → IsCommitOf old run
      → EndsAttach before run because after given → EndsAs old new given (Some run.uber.group) None 0
  attach_answered run because given of ends = ends_grouped
      (ap (λ (a : Answer). group_by a (Some run.uber.group)) ends.given_is
      ∙ answered_by because new.pool.uber.reflow.to of.number)
      (rw ends.core (attaching_goes (group_ends before ends.answered is of ends.answers)))

  pub attach_ends : (run : AttachRun) (given : Answer) → IsAttachRunOf old run
      → StepsAttach before run after (Done given) → EndsAs old new given (made_by (work.Attach run)) None 0
  attach_ends (Reads ring) given of goes = ends_plainly (refused_plain ring given goes.1) (stops_goes goes.0)
  attach_ends (Checked found) given of goes = ends_plainly (sync_plain given goes.1) (stops_goes goes.0)
  attach_ends (Joins join) given of goes = ends_plainly (too_many_plain given goes.1) (stops_goes goes.0)
  attach_ends (Signs run because) given of goes = ⊎_elim
      (search (ends_plainly, too_many_plain, stops_goes, arith)) (attach_answered run because given of.0.of) goes
