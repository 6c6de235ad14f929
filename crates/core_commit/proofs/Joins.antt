-- What a commit that a device may join keeps, step by step, to the decision.
use Rattle.std.proofs.Common.{◌≡◌, inl, inr, ℕ, ◌+◌, ◌<◌, List, [], ◌∷◌, false, sym, ◌∙◌, ap, subst, arith}
use Rattle.std.specs.Prelude.{IsSome}
use Rattle.bank_trait.specs.Disk.{Lawful, Synced, Wrote}
use Rattle.block_record.specs.Page.{page_sectors}
use Rattle.uberblock_ring.specs.Devices.{IsWithin, has_device}
use Rattle.uberblock_ring.specs.Uberblock.{Uber, area_sector}
use Rattle.uberblock_ring.proofs.DeviceSets.{none_in}
use Rattle.core_state.specs.Keeps.{Kept, Setting}
use Rattle.core_state.specs.Committing.{Point, point_of}
use Rattle.core_state.specs.Moment.{IsRowOf, KeepsSince}
use Rattle.core_state.proofs.Calls.{true_false}
use Rattle.core_state.specs.Rings.{ReadsNoUber}
use Rattle.core_state.proofs.Laying.{IsPaged}
use Rattle.core_state.proofs.Places.{page_place}
use Rattle.core_state.proofs.Since.{since_now}
use Rattle.core_commit.specs.declared.commit_run.Stage.{Stage}
use Rattle.core_commit.specs.declared.commit_run.Stage.TheVariants.{Lays}
use Rattle.core_commit.specs.declared.commit_run.CommitStep.TheVariants.{Called}
use Rattle.core_commit.specs.Ran.{index_part}
use Rattle.core_commit.specs.CommitTurns.{CommitRun, CommitsSoFar, IsCommitting, LaysSoFar}
use Rattle.core_commit.specs.Widening.{HasCalledOutside, IsWidenable, widened_kept, widened_run}
use Rattle.core_commit.proofs.Beside.{committing_cut, committing_knows}
use Rattle.core_commit.proofs.CommitTurns.{committing_since, committing_steps}
use Rattle.core_commit.proofs.Going.{inside_device}
use Rattle.core_commit.proofs.Halves.{sound_paged}
use Rattle.core_commit.proofs.Outside.{committing_beyond, since_beyond}
use Rattle.core_commit.proofs.Widening.{commit_widened}
use Rattle.core_commit.specs.declared.guest.Guest.{Guest}
use Rattle.core_commit.specs.declared.guest.Guest.TheVariants.{Laid, Settled}
use Rattle.core_commit.specs.declared.join_run.JoinStep.TheVariants.{GoesOn, Joined, Dropped}
use Rattle.core_commit.specs.declared.join_run.WhyDropped.{WhyDropped}
use Rattle.core_commit.specs.JoinRun.{JoinRun}
use Rattle.core_commit.specs.JoinTurns.{HasCalledPool, HasLaidGuest, HasSyncedGuest, JoinSteps, guest_after}
use Rattle.core_commit.specs.Joining.{GuestSoFar, IsJoining, LeavesHead}
use Rattle.core_commit.proofs.Guests.{guest_beside, guest_settled, guest_written, made_leaves}
use Rattle.core_commit.proofs.JoinTurns.{HasLaidOn, laid_on, still_lays}

none_within : (out failed : ℕ) → out ≡ 0 → IsWithin out failed
none_within out failed none device has =
    absurd (true_false (sym has ∙ subst (λ (o : ℕ). has_device o device ≡ false) (sym none) (none_in device)))

module _ (setting : Setting) (first next : Kept) where
  -- Law: A device may join a commit whose group can have one device more, where its ring shows no uberblock.
  pub joining_begins : (run : CommitRun) (point : Point) → IsCommitting setting first next run point → run.stage ≡ Lays
      → IsWidenable setting first next → ReadsNoUber point.disk setting.reach
      → ((device_sector : ℕ) → device_sector < 192 → IsSome (point.disk.reads setting.reach device_sector))
      → IsJoining setting first next (record { run = run; guest = Laid 0 }) point
  joining_begins run point commits lays pool blank told = record {
    pool = pool;
    lays = lays;
    commits = commits;
    guest = record {
      blank = blank;
      told = told;
      page = λ part below low. absurd (omega (arith, below));
    };
  }

  module _ (old : JoinRun) (before after : Point) (is : IsJoining setting first next old before) where
    paged : IsPaged next
    paged = sound_paged setting next is.commits.sound

    come : LaysSoFar setting first next old.run.calls before
    come = subst (λ (stage : Stage). CommitsSoFar setting first next stage old.run.uber old.run.calls before) is.lays
        is.commits.so_far

    -- The device is the one behind the pool's.
    reach_is : old.run.uber.reflow.to ≡ setting.reach
    reach_is = ap (λ (u : Uber). u.reflow.to) is.commits.alike ∙ is.pool.width

    area_is : old.run.uber.area ≡ next.uber.area
    area_is = ap (λ (u : Uber). u.area) is.commits.alike

    count_is : old.run.uber.count ≡ next.uber.count
    count_is = ap (λ (u : Uber). u.count) is.commits.alike

    module _ (new : JoinRun) where
      -- The pool's next call.
      pool_called : HasCalledPool old before new after → HasLaidOn old.run before new.run after
      pool_called did = laid_on Called old.run new.run before after did.turn.0 did.turn.1 did.turn.2 did.called

      pool_leaves : HasCalledPool old before new after → LeavesHead setting.reach before.disk after.disk
      pool_leaves did =
          let ready : did.called.ready ≡ old.run =
          still_lays before.out old.run did.called.ready did.turn.0 did.turn.1 did.turn.2 did.called.is_ready in
          let below = inside_device did.called.ready.uber did.called.call did.called.inside in
          let width : did.called.ready.uber.reflow.to ≡ old.run.uber.reflow.to =
          ap (λ (r : CommitRun). r.uber.reflow.to) ready in
          made_leaves did.called.ready.uber did.called.ready.entries setting.reach did.called.call before after
          (λ same. omega (arith, same, below, width, reach_is)) did.called.made

      pool_joins : IsWithin before.out setting.failed → HasCalledPool old before new after
          → IsJoining setting first next new after
      pool_joins within did = record {
        pool = is.pool;
        lays = ap (λ (r : CommitRun). r.stage) (pool_called did).left ∙ is.lays;
        commits = committing_steps setting first next Called old.run new.run before after within did.called is.commits;
        guest = subst (GuestSoFar after.disk next setting.reach) (sym did.same)
            (guest_beside next paged setting.reach before.disk after.disk old.guest (pool_leaves did) is.guest);
      }

      -- A call on the device.
      part_low : HasLaidGuest old before new after → (part : ℕ) → part < page_sectors old.run.uber.count
          → part < page_sectors next.uber.count
      part_low did part low = let same = ap page_sectors count_is in omega (arith, low, same)

      laid_outside : HasLaidGuest old before new after → HasCalledOutside setting.reach before.disk after.disk
      laid_outside did =
          let place = page_place next.uber did.part paged.area paged.count (part_low did did.part did.turn.1) in
          record {
            device = old.run.uber.reflow.to;
            outside = omega (arith, reach_is);
            result = did.result;
            made = inr (
              area_sector old.run.uber.area + did.part,
              index_part old.run.entries did.part,
              omega (arith, place.0, area_is),
              omega (arith, place.2, area_is),
              did.wrote,
            );
          }

      synced_outside : HasSyncedGuest old before new after → HasCalledOutside setting.reach before.disk after.disk
      synced_outside did = record {
        device = old.run.uber.reflow.to;
        outside = omega (arith, reach_is);
        result = did.result;
        made = inl did.synced;
      }

      -- The pool's commit is as it was, and the device has come so far.
      guest_joins : (guest : Guest) → Lawful after.disk → HasCalledOutside setting.reach before.disk after.disk
          → after.out ≡ before.out → new ≡ record { run = old.run; guest = guest }
          → GuestSoFar after.disk next setting.reach guest
          → IsJoining setting first next new after
      guest_joins guest lawful called out new_is come_to =
          subst (λ (join : JoinRun). IsJoining setting first next join after) (sym new_is) (record {
            pool = is.pool;
            lays = is.lays;
            commits = subst (λ (o : ℕ). IsCommitting setting first next old.run (point_of o after.disk)) (sym out)
                (committing_beyond setting first next old.run before.out before.disk after.disk
                come.unsigned.lawful lawful called is.commits);
            guest = come_to;
          })

      laid_joins : Lawful after.disk → HasLaidGuest old before new after → IsJoining setting first next new after
      laid_joins lawful did =
          guest_joins (guest_after did.result (Laid (did.part + 1))) lawful (laid_outside did) did.out did.new_is
          (guest_written next paged setting.reach before.disk after.disk did.part old.run.entries did.result
          (part_low did did.part did.turn.1) is.commits.entries_are
          (subst (λ (area : ℕ). Wrote before.disk after.disk setting.reach (area_sector area + did.part)
          (index_part old.run.entries did.part) did.result) area_is
          (subst (λ (device : ℕ). Wrote before.disk after.disk device (area_sector old.run.uber.area + did.part)
          (index_part old.run.entries did.part) did.result) reach_is did.wrote))
          (subst (GuestSoFar before.disk next setting.reach) did.turn.0 is.guest))

      synced_joins : Lawful after.disk → HasSyncedGuest old before new after → IsJoining setting first next new after
      synced_joins lawful did =
          guest_joins (guest_after did.result Settled) lawful (synced_outside did) did.out did.new_is
          (guest_settled next paged setting.reach before.disk after.disk did.turn.0 did.result
          (let all = did.turn.2 in let same = ap page_sectors count_is in omega (arith, all, same))
          (subst (λ (device : ℕ). Synced before.disk after.disk device did.result) reach_is did.synced)
          (subst (GuestSoFar before.disk next setting.reach) did.turn.1 is.guest))

      -- Law: Each step before the device joins or is dropped keeps what is known.
      pub joining_goes_on : IsWithin before.out setting.failed → Lawful after.disk
          → JoinSteps old before (GoesOn new) after
          → IsJoining setting first next new after
      joining_goes_on within lawful (inl pool) = pool_joins within pool
      joining_goes_on within lawful (inr (inl laid)) = laid_joins lawful laid
      joining_goes_on within lawful (inr (inr synced)) = synced_joins lawful synced

      -- What each image since a moment keeps, over a step of the first half.
      outside_since : (groups : List Kept) (time : ℕ) → HasCalledOutside setting.reach before.disk after.disk
          → IsRowOf groups first (next ∷ []) → KeepsSince setting groups time before.disk
          → KeepsSince setting groups time after.disk
      outside_since groups time called row = since_beyond setting groups time first (next ∷ []) before.disk after.disk
          come.unsigned.lawful called row (committing_cut setting first next old.run before is.commits)

      -- Law: Each such step keeps what each image since a moment keeps.
      pub joining_since : (groups : List Kept) (time : ℕ) → IsWithin before.out setting.failed
          → IsRowOf groups first (next ∷ []) → JoinSteps old before (GoesOn new) after
          → KeepsSince setting groups time before.disk
          → KeepsSince setting groups time after.disk
      joining_since groups time within row (inl pool) = committing_since setting first next Called old.run new.run
          before after groups time row within pool.called is.commits
      joining_since groups time within row (inr (inl laid)) = outside_since groups time (laid_outside laid) row
      joining_since groups time within row (inr (inr synced)) = outside_since groups time (synced_outside synced) row

    -- The device has joined.
    module _ (run : CommitRun) (did : JoinSteps old before (Joined run) after) where
      abbrev wider : Setting
      wider = record setting { reach = setting.reach + 1 }

      abbrev widened : Kept
      widened = widened_kept next

      has_widened : IsCommitting wider first widened (widened_run old.run) before
      has_widened = commit_widened setting first next old.run before is.commits (is.lays, did.turn.1) (record {
        whole = did.whole;
        pool = is.pool;
        joins = subst (GuestSoFar before.disk next setting.reach) did.synced is.guest;
      })

      within : IsWithin before.out setting.failed
      within = none_within before.out setting.failed did.whole

      -- Law: Once the device has joined, the commit is one of the group with it, and the pool reaches to it.
      pub joined_commits : IsCommitting wider first widened run after
      joined_commits = committing_steps wider first widened did.result (widened_run old.run) run before after
          within did.steps has_widened

      -- Law: From before the first uberblock write on, each image keeps the group before, or this one too.
      pub joined_since : (groups : List Kept) → IsRowOf groups first (widened ∷ [])
          → KeepsSince wider groups before.disk.clock after.disk
      joined_since groups row = committing_since wider first widened did.result (widened_run old.run) run before after
          groups before.disk.clock row within did.steps has_widened
          (since_now wider groups first (widened ∷ []) before.disk row
          (committing_knows wider first widened (widened_run old.run) before has_widened))

    -- Law: Where the device has not joined, the commit goes on as it was begun.
    pub dropped_commits : (run : CommitRun) (why : WhyDropped) → IsWithin before.out setting.failed
        → JoinSteps old before (Dropped run why) after
        → IsCommitting setting first next run after
    dropped_commits run why within did = committing_steps setting first next did.result old.run run before after within
        did.steps is.commits

    -- Law: Where the device has not joined, each image since a moment keeps what it kept.
    pub dropped_since : (run : CommitRun) (why : WhyDropped) (groups : List Kept) (time : ℕ)
        → IsWithin before.out setting.failed → IsRowOf groups first (next ∷ [])
        → JoinSteps old before (Dropped run why) after → KeepsSince setting groups time before.disk
        → KeepsSince setting groups time after.disk
    dropped_since run why groups time within row did = committing_since setting first next did.result old.run run
        before after groups time row within did.steps is.commits

    -- Law: A call of another between two steps keeps what is known, where it leaves the commit and the device's head.
    pub joining_beside : IsCommitting setting first next old.run after → LeavesHead setting.reach before.disk after.disk
        → IsJoining setting first next old after
    joining_beside commits leaves = record {
      pool = is.pool;
      lays = is.lays;
      commits = commits;
      guest = guest_beside next paged setting.reach before.disk after.disk old.guest leaves is.guest;
    }
