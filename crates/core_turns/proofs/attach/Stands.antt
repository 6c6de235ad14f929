-- What stands between two turns stands over each turn of an attach, and so does what is known of the attach.
use Rattle.core_turns.proofs.Words.{◌≡◌, inr, ℕ, ◌<◌, ◌≤◌, List, Option, Some, refl, arith, Contains, true≢false}
use Rattle.core_turns.proofs.Words.{cases_lt, Disk, Lawful, Unchanged, Reflow, IsWithin, Layout, Map, Kept, Setting}
use Rattle.core_turns.proofs.Words.{Point, point_of, Nowhere, OnlyFailedGoOut, CommitRun, JoinStep, JoinRun, IsJoining}
use Rattle.core_turns.proofs.Words.{joining_goes_on, join_gone, join_spares, Joins, Core, CoreState, IsCore, at_disk}
use Rattle.core_turns.proofs.Words.{HoldsAttach, MayReachOn, OnlyGoOut, StepsJoin, StopsAttach, IsCommitOf, HoldingCall}
use Rattle.core_turns.proofs.Words.{Damage, AreCallsOf, Stands, ap, ⊎_elim}
use Rattle.core_commit.specs.declared.join_run.JoinStep.TheVariants as step
use Rattle.core_turns.proofs.attach.Turns.{join_goes_commit}
use Rattle.core_turns.proofs.state.Frames.{IsCallOff, IsOff, Leaves, OnlyOut, call_off_nowhere, calls_beside}
use Rattle.core_turns.proofs.state.Frames.{leaves_read, off_nowhere}
use Rattle.core_turns.proofs.state.StandFrames.{group_still, groups_read, stands_frame}
use Rattle.core_turns.proofs.read.Stands.{stands_held}
use Rattle.core_turns.proofs.state.Holds.{keeps_same}

-- ---- turns that write nothing

-- Whose attach is under way is nothing to the others.
pub attaching_calls : (core : Core) (by : Option ℕ) (calls : List HoldingCall) → AreCallsOf core calls
    → AreCallsOf (record core { attaching = by }) calls
attaching_calls core by calls are =
    calls_beside core core.holds core.begun core.reach core.committing by calls (omega arith) (search) are

module _ {setting : Setting} {last : Kept} {begun : List Kept} {map : Map} {damage : Damage} {contents : ℕ → List ℕ}
    {calls : List HoldingCall} {commit : Option CommitRun} where
  pub attaching_stands : (core : Core) (by : Option ℕ) (disk : Disk) → IsCore core
      → Stands setting last begun map damage contents calls commit (at_disk core disk)
      → Stands setting last begun map damage contents calls commit (at_disk (record core { attaching = by }) disk)
  attaching_stands core by disk is stands = stands_held core (record core { attaching = by }) disk is refl
      (search keeps_same) (search) (λ of. of) (λ call listed. inr (stands.each call listed)) stands

  -- A device was read.
  pub look_stands : (before after : CoreState) → IsCore before.core → after.core ≡ before.core
      → Unchanged before.disk after.disk → Lawful after.disk
      → Stands setting last begun map damage contents calls commit before
      → Stands setting last begun map damage contents calls commit after
  look_stands before after is core unchanged lawful stands =
      let only : OnlyOut before.core after.core = search arith in
      let outs : OnlyFailedGoOut (point_of before.core.pool.out before.disk) (point_of after.core.pool.out after.disk) =
      search (true≢false, arith) in
      stands_frame Nowhere before after (search leaves_read) (search call_off_nowhere) (search off_nowhere) only
      unchanged.goes_on.later (search groups_read) stands

  -- An attach ends before its commit.
  pub stops_stands : (before after : CoreState) → IsCore before.core → StopsAttach before after → Lawful after.disk
      → Stands setting last begun map damage contents calls commit before
      → Stands setting last begun map damage contents calls commit after
  stops_stands before after is stops lawful stands = rw stops.core (search (attaching_stands, look_stands, arith))

-- ---- the first half of its commit

-- The devices from the new one on.
abbrev pub IsBeyond : ℕ → ℕ → ℕ → Type 0
IsBeyond width device device_sector = width ≤ device

-- No place that is required is on one of these.
off_beyond : (reflow : Reflow) (done : ℕ) (layout : Layout) → 0 < reflow.from → reflow.from ≤ reflow.to
    → IsOff (IsBeyond reflow.to) reflow done layout
off_beyond reflow done layout some wide = grind arith

module _ {setting : Setting} {last : Kept} {begun : List Kept} {map : Map} {damage : Damage} {contents : ℕ → List ℕ}
    {calls : List HoldingCall} {before : CoreState} (join : JoinRun) (is : IsCore before.core)
    (are : AreCallsOf before.core calls) (may : MayReachOn before.core)
    (stands : Stands setting last begun map damage contents calls (Some join.run) before)
    (holds : HoldsAttach setting last begun before.disk (Joins join)) where
  abbrev old : Point
  old = point_of before.core.pool.out before.disk

  abbrev reflow : Reflow
  reflow = before.core.pool.uber.reflow

  -- The group that is made is the one that what is known of the attach tells of.
  pub is_joining : IsJoining setting last stands.groups.next join old
  is_joining = let same : stands.groups.next ≡ holds.0 = cc (stands.groups.begun_is, holds.1) in search same

  -- No job is under way in a pool at rest.
  call_off : (call : HoldingCall) → Contains calls call → IsCallOff
      (IsBeyond reflow.to) reflow before.core.pool.done call
  call_off call listed = grind (arith, off_beyond)

  -- The pool's devices that are in use read what they read, outside of rings and index areas.
  join_leaves : (after : CoreState) (result : JoinStep) → StepsJoin before join after result → OnlyGoOut before after
      → Leaves (IsBeyond reflow.to) before after
  join_leaves after result did core =
      let new = point_of after.core.pool.out after.disk in
      let spares = join_spares join old result new did.steps in
      let wide : reflow.to ≤ join.run.uber.reflow.to = search arith in
      record {
        parity = ap (λ (c : Core). c.pool.uber.parity) core;
        births = ap (λ (c : Core). c.pool.uber.births) core;
        reflow = ap (λ (c : Core). c.pool.uber.reflow) core;
        done = ap (λ (c : Core). c.pool.done) core;
        front = is.is.front;
        within = (join_gone join old result new did.steps).stay;
        reads = λ device device_sector used region near. spares.reads device device_sector
            (⊎_elim (λ low. omega (arith, low, wide)) (λ high. absurd (near high)) (cases_lt device reflow.to)) used region;
      }

  -- It goes on.
  pub join_goes_stands : (after : CoreState) (next : JoinRun) → StepsJoin before join after (step.GoesOn next)
      → OnlyGoOut before after → IsWithin before.core.pool.out setting.failed → Lawful after.disk
      → Stands setting last begun map damage contents calls (Some next.run) after
      × HoldsAttach setting last begun after.disk (Joins next)
  join_goes_stands after next did core within lawful =
      let new = point_of after.core.pool.out after.disk in
      let goes : IsJoining setting last stands.groups.next next new = search (joining_goes_on, is_joining) in
      let of : IsCommitOf after.core next.run = rw core (search join_goes_commit) in (
        stands_frame (IsBeyond reflow.to) before after (join_leaves after (step.GoesOn next) did core) call_off
            (search (off_beyond, arith)) core (join_spares join old (step.GoesOn next) new did.steps).later
            (group_still before after stands.groups core of goes.commits) stands,
        search,
      )
