-- Why an attach that a turn left under way brings the pool no device: it came so in this turn, or was known before.
use Rattle.schedule.proofs.Words.{◌≡◌, ◌⊎◌, ⊎_elim, ℕ, List, Option, Some, ◌∙◌, ap, OnErr, Result, slice_get, cases_eq}
use Rattle.schedule.proofs.Words.{Failed, FaultCounted, IsWithin, Kind, Point, steps_same, Guest, Lost, WhyDropped}
use Rattle.schedule.proofs.Words.{JoinRun, JoinSteps, guest_after, ScriptCall, AttachRun, More, StepsAttach, Core}
use Rattle.schedule.proofs.Words.{CoreState, Client, UnderWay, Work, Changes, HasDropCause, IsDropCause, IsToBeTold}
use Rattle.schedule.proofs.Words.{WillTell, BeginsWork, GoesOnBy, TurnState, Turned, WorkGoesOn, turns_of, arith}
use Rattle.core_commit.specs.declared.join_run.JoinStep.TheVariants as step
use Rattle.schedule.specs.declared.client.Work.TheVariants as work
use Rattle.schedule.proofs.turn.Theirs.{none_some, same_attach, some_is}

-- ---- one turn of an attach

-- A call that lost the new device failed,
lost_in : (before after : Point) {device called : ℕ} (result : Result (Unit {0}) Failed) {guest : Guest}
    → OnErr result (FaultCounted (before.disk.faults called) (after.disk.faults called)) → called ≡ device
    → (guest ≡ Lost → ⊥) → guest_after result guest ≡ Lost
    → FaultCounted (before.disk.faults device) (after.disk.faults device)
lost_in before after result failed same apart lost = grind (arith, apart)

-- and only such a call loses it.
goes_lost : (join : JoinRun) {next : JoinRun} {before after : Point} (device : ℕ)
    → JoinSteps join before (step.GoesOn next) after → next.guest ≡ Lost → next.run.uber.reflow.to ≡ device
    → FaultCounted (before.disk.faults device) (after.disk.faults device)
    ⊎ ((join.guest ≡ Lost) × (join.run.uber.reflow.to ≡ device))
goes_lost join device goes lost its = grind (arith, steps_same, lost_in)

module _ (before after : CoreState) (still : IsWithin before.core.pool.out after.core.pool.out) where
  abbrev IsCause : WhyDropped → Type 0
  IsCause = IsDropCause before.disk after.disk after.core.pool.out

  attach_tells : (run next : AttachRun) (cause : WhyDropped) → StepsAttach before run after (More next)
      → WillTell next cause → IsCause cause ⊎ WillTell run cause
  attach_tells run next cause steps tells = grind (arith, goes_lost, some_is)

-- One that begins has nothing to tell.
begun_untold : (old new : Core) (devices actor : ℕ) (call : ScriptCall) (asked : Kind) (id : Option ℕ) (run : AttachRun)
    (cause : WhyDropped) → BeginsWork old new devices actor call asked id (work.Attach run) → WillTell run cause → ⊥
begun_untold old new devices actor call asked id run cause did tells = grind arith

-- ---- a turn of a client

module _ (calls : List ScriptCall) (actor : ℕ) (before after : TurnState) {clients news : List Client}
    (was : slice_get clients actor ≡ Some before.client) (changes : Changes clients news actor after.client)
    (cause : WhyDropped) where
  abbrev Since : Type 0
  Since = HasDropCause (turns_of before.state before.items clients) (turns_of after.state after.items news) cause

  known : (under : UnderWay) (run : AttachRun) → before.client.under_way ≡ Some under → under.work ≡ work.Attach run
      → WillTell run cause → Since
  known under run going attaches tells = grind arith

  went_told : {under : UnderWay} (call : ScriptCall) (does now : Work) (next : AttachRun)
      → before.client.under_way ≡ Some under → under.work ≡ does → WorkGoesOn does before.state after.state
      → GoesOnBy before.state after.state call does (More now) → now ≡ work.Attach next → WillTell next cause → Since
  went_told call does now next going does_is goes did same tells = grind (arith, known, attach_tells, same_attach)

  -- What its client has under way then.
  own : {under : UnderWay} {run : AttachRun} → after.client.under_way ≡ Some under → under.work ≡ work.Attach run
      → WillTell run cause → Turned calls actor before after → Since
  own going attaches tells turned = grind (arith, known, begun_untold, went_told, none_some)

  -- Whatever an attach goes on to tell after a turn has its cause.
  pub turn_drops : Turned calls actor before after → IsToBeTold news cause → Since
  turn_drops turned told = ⊎_elim
      (λ (here : told.index ≡ actor).
      let mine : after.client ≡ told.client = some_is (cc) in
      own (ap (λ (c : Client). c.under_way) mine ∙ told.going.under_way) told.attaches told.tells turned)
      (λ apart. grind (arith, apart)) (cases_eq told.index actor)
