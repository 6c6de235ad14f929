-- What a call of `create` promises follows from how it ends.
use Rattle.std.proofs.Common.{◌^◌, ◌≡◌, ◌≢◌, ◌⊎◌, inl, inr, ⊎_elim, ℕ, ◌<◌, ◌≤◌, [], Some, refl, sym, ◌∙◌, ap, subst}
use Rattle.std.proofs.Common.{arith}
use Rattle.std.specs.Prelude.{true, false}
use Rattle.std.proofs.lemmas.Bool.{cases_lt, cases_eq}
use Rattle.bank_trait.specs.Causes.{FaultCounted}
use Rattle.bank_trait.specs.Disk.{Image, Disk, Later}
use Rattle.bank_trait.specs.Regions.{Tells, TouchesOnly}
use Rattle.bank_trait.proofs.Touches.{touches_none}
use Rattle.core_open.specs.Regions.{IsOnBelow}
use Rattle.uberblock_ring.specs.Devices.{has_device, with_device}
use Rattle.uberblock_ring.proofs.DeviceSets.{has_with, others_with}
use Rattle.core_state.proofs.Fresh.{IsSized, none_in}
use Rattle.core_state.proofs.Created.{created_keeps}
use Rattle.core_state.specs.Create.{IsCreated, first_kept, rows_for}
use Rattle.core_state.specs.Collision.{BankKeeps, MightStand}
use Rattle.core_state.specs.Keeps.{Setting, HasDevices}
use Rattle.core_state.specs.Shown.{Shape, Shows}
use Rattle.uberblock_ring.specs.Uberblock.{first_uber}
use Rattle.raidzx_top.specs.declared.order.Order.{Order}
use Rattle.raidzx_top.specs.declared.order.Order.TheVariants.{AsTheyCome, AsListed}
use Rattle.raidzx_top.specs.declared.status.Status.{Status}
use Rattle.raidzx_top.specs.declared.status.Status.TheVariants as status
use Rattle.command_words.specs.declared.command.NewPool.{NewPool}
use Rattle.command_words.specs.declared.command.ServedCommand.{ServedCommand}
use Rattle.command_words.specs.declared.command.ServedCommand.TheVariants as served
use Rattle.raidzx_top.specs.Words.{Command, Create, IsSize}
use Rattle.raidzx_top.specs.Served.{IsServedAs, command_of}
use Rattle.raidzx_top.specs.Call.{IsCarriedOut, IsQuiet, ReadsScript, TopCall}
use Rattle.raidzx_top.specs.Order.{served_by}
use Rattle.raidzx_top.specs.Causes.{NoneRose, IsCaused, IsCause, HaveFailedInCall, IsTooSmall, IsFoundImage, ComesWhere}
use Rattle.raidzx_top.specs.Causes.{IsOrNoMemory}
use Rattle.raidzx_top.specs.RunText.{IsLineFor, TextIsRight, create_text, status_line}
use Rattle.raidzx_top.specs.Promises.{CreatePromises, IsNewSetting, NoneShowsFrom, RunIsKept, RunCompletes}
use Rattle.raidzx_top.specs.Promises.{CallPromises, PoolIsKept}
use Rattle.raidzx_top.specs.StatusCall.{StatusIsTold}
use Rattle.raidzx_top.specs.Making.{IsSmallFor, HasFailedOn, Makes, IsSaid, EndsCreate}
use Rattle.raidzx_top.proofs.NewPools.{new_begins}
use Rattle.raidzx_top.proofs.NoStatus.{not_told}
use Rattle.raidzx_top.proofs.Spelling.{one_create, create_no_script, create_no_status}
use Rattle.raidzx_top.proofs.Texts.{part_right, whole_right}
use Rattle.raidzx_top.proofs.Refusing.{said_right}
use Rattle.raidzx_top.proofs.Growing.{bank_may_grow}

-- A set of one device has no other.
only_one : (device other : ℕ) → has_device (with_device 0 device) other ≡ true → other ≡ device
only_one device other has = ⊎_elim (λ same. same)
    (λ apart. absurd (clash (sym has ∙ others_with 0 device other apart ∙ none_in other)))
    (cases_eq other device)
  where
    clash : true ≡ false → ⊥
    clash same = cc

some_has : (device : ℕ) → with_device 0 device ≡ 0 → ⊥
some_has device none = clash (sym (has_with 0 device) ∙ ap (λ (n : ℕ). has_device n device) none ∙ none_in device)
  where
    clash : true ≡ false → ⊥
    clash same = cc

-- The device that stopped a `create` is listed, and has failed.
risen : (call : TopCall) (out : ℕ) → HasFailedOn out call.old call.new → HaveFailedInCall call out
risen call out is = record {
  some = λ none. some_has is.device (sym is.named ∙ none);
  each = λ device has.
      let it : device ≡ is.device = only_one is.device device
      (subst (λ (n : ℕ). has_device n device ≡ true) is.named has) in
      subst (λ (d : ℕ). FaultCounted (call.old.faults d) (call.new.faults d)) (sym it) is.rose;
}

-- How a call that made a pool, or tried to, is kept by its promises.
module _ (call : TopCall) (made : NewPool) (served_as : IsServedAs call.words (served.Create made))
    (quiet_call : IsQuiet call) where
  -- what the words ask for is this pool
  same : (given : NewPool) → IsServedAs call.words (served.Create given) → made ≡ given
  same given is = one_create call.words made given served_as is

  -- no script is asked for
  no_script : {A : Type 0} → (order : Order) → IsServedAs call.words (served_by order) → A
  no_script order is = absurd (create_no_script call.words made order served_as is)

  -- and no status
  no_status : {A : Type 0} → IsServedAs call.words served.Status → A
  no_status is = absurd (create_no_status call.words made served_as is)

  no_told : StatusIsTold call
  no_told = not_told call (create_no_status call.words made served_as)

  no_run : (order : Order) → RunIsKept order call
  no_run order = record {
    opened = λ is. no_script order is;
    unopened = λ is. no_script order is;
    carried_out = λ is. no_script order is;
  }

  no_smooth : (order : Order) → RunCompletes order call
  no_smooth order smooth = no_script order smooth.served

  too_small : IsSmallFor made call.old
      → IsTooSmall call (Create made.parity made.width made.id)
  too_small small = ((made.parity, made.width), refl, small)

  is_small : IsTooSmall call (Create made.parity made.width made.id) → IsSmallFor made call.old
  is_small small = subst (λ (s : ℕ × ℕ). (call.old.devices < s.1) ⊎ (call.old.sectors < 256))
      (sym (some_same small.1)) small.2
    where
      some_same : {one two : ℕ × ℕ} → Some one ≡ Some two → one ≡ two
      some_same is = cc

  -- no status but its own, so no cause but its own
  caused : (given : Status) → call.status ≡ given → given ≢ status.Usage
      → IsCause call (Create made.parity made.width made.id) given
      → IsCaused call
  caused given is other cause = record {
    usage = λ usage. absurd (other (sym is ∙ usage));
    others = each;
  }
    where
      each : (command : ServedCommand) → IsServedAs call.words command
          → IsCause call (command_of command) call.status
      each (served.Run attaches) served_run = no_script (AsTheyCome attaches) served_run
      each served.Replay served_replay = no_script AsListed served_replay
      each served.Status served_status = no_status served_status
      each (served.Create m) served_m =
          subst (λ (n : NewPool). IsCause call (Create n.parity n.width n.id) call.status)
          (same m served_m)
          (subst (λ (s : Status). IsCause call (Create made.parity made.width made.id) s) (sym is)
          cause)

  comes : (IsSmallFor made call.old → IsOrNoMemory call status.TooSmall) → ComesWhere call
  comes small = record {
    usage = λ none. absurd (none (served.Create made, served_as));
    refused = λ command is. record {
      limit = λ bytes read over. reads_none command is read.0;
      fault = λ bytes line read at. reads_none command is read.0;
      too_small = where_small command is;
    };
    no_pool = λ command finds. absurd (finds_none finds.shown.image command finds.given finds.served finds.command_is
        finds.shown.found);
  }
    where
      reads_none : {A : Type 0} → (command : ServedCommand) → IsServedAs call.words command
          → ReadsScript (command_of command) → A
      reads_none (served.Create m) is reads = absurd reads
      reads_none (served.Run attaches) is reads = no_script (AsTheyCome attaches) is
      reads_none served.Replay is reads = no_script AsListed is
      reads_none served.Status is reads = absurd reads

      finds_none : (image : Image) (command : Command) (given : ServedCommand) → IsServedAs call.words given
          → command_of given ≡ command → IsFoundImage call command image → ⊥
      finds_none image command (served.Create m) is it found =
          (subst (λ (c : Command). IsFoundImage call c image) (sym it) found).is
      finds_none image command (served.Run attaches) is it found = no_script (AsTheyCome attaches) is
      finds_none image command served.Replay is it found = no_script AsListed is
      finds_none image command served.Status is it found = no_status is

      where_small : (command : ServedCommand) → IsServedAs call.words command
          → IsTooSmall call (command_of command)
          → IsOrNoMemory call status.TooSmall
      where_small (served.Run attaches) is less = no_script (AsTheyCome attaches) is
      where_small served.Replay is less = no_script AsListed is
      where_small served.Status is less = no_status is
      where_small (served.Create m) is less = small (is_small
          (subst (λ (n : NewPool). IsTooSmall call (Create n.parity n.width n.id))
          (sym (same m is)) less))

  -- A pool that fits and was made is kept,
  bank_keeps : (IsSmallFor made call.old → ⊥)
      → IsCreated (first_uber made.id made.parity made.width (rows_for call.old.sectors)) call.new
      → (setting : Setting) → IsNewSetting call made.parity made.width made.id setting → NoneShowsFrom call made.width
      → BankKeeps setting (first_kept made.id made.parity made.width call.old.sectors) [] call.new
  bank_keeps fits created setting new others =
      subst (λ (n : ℕ). BankKeeps setting (first_kept n made.parity made.width call.old.sectors) [] call.new)
      new.pool
      (subst (λ (s : Shape). BankKeeps setting (first_kept setting.pool made.parity made.width s.sectors) [] call.new)
      new.shape
      (created_keeps setting made.parity made.width call.new (sized setting new)
      (let base = new.base in omega (arith, base, size.2)) (let base = new.base in omega (arith, base))
      (let reach = new.reach in omega (arith, reach)) (inside setting new) new.few
      (subst (λ (s : Shape). IsCreated (first_uber setting.pool made.parity made.width (rows_for s.sectors)) call.new) (sym new.shape)
      (subst (λ (n : ℕ). IsCreated (first_uber n made.parity made.width (rows_for call.old.sectors)) call.new) (sym new.pool)
      created))
      (λ image device uber above might shows. others image device uber above
      (subst (λ (s : Shape). MightStand s call.new call.new.clock image) new.shape might)
      (subst (λ (s : Shape). Shows s image device uber) new.shape shows))))
    where
      size : IsSize made.parity made.width
      size = served_as.in_range.0

      devices : made.width ≤ call.old.devices
      devices = ⊎_elim (λ less. absurd (fits (inl less))) (λ enough. enough)
          (cases_lt call.old.devices made.width)

      sectors : 256 ≤ call.old.sectors
      sectors = ⊎_elim (λ less. absurd (fits (inr less))) (λ enough. enough)
          (cases_lt call.old.sectors 256)

      inside : (setting : Setting) → IsNewSetting call made.parity made.width made.id setting → HasDevices setting
      inside setting new device below works =
          let reach = new.reach in
          let most : setting.shape.devices ≡ call.old.devices = ap (λ (s : Shape). s.devices) new.shape in
          omega (arith, below, reach, most, devices, size.3)

      sized : (setting : Setting) → IsNewSetting call made.parity made.width made.id setting
          → IsSized setting.shape setting.pool made.parity made.width
      sized setting new = record {
        pool_fits = subst (λ (n : ℕ). n < 2 ^ 64) (sym new.pool) served_as.in_range.1;
        parity_in = (size.0, size.1);
        width_in = (size.2, size.3);
        devices = subst (λ (s : Shape). made.width ≤ s.devices) (sym new.shape) devices;
        sectors = subst (λ (s : Shape). 256 ≤ s.sectors) (sym new.shape) sectors;
      }

  -- and a run may begin with it.
  kept : (IsSmallFor made call.old → ⊥)
      → IsCreated (first_uber made.id made.parity made.width (rows_for call.old.sectors)) call.new
      → Later call.old call.new → Tells call.old
      → CreatePromises call made.parity made.width made.id
  kept fits created later tells = record {
    made = created;
    keeps = bank_keeps fits created;
    begins = λ setting new others. new_begins call made.parity made.width made.id later tells setting new
        (bank_keeps fits created setting new others);
  }

  -- A pool that was made: its line was written, or a front of it.
  carried_out : (given : Status) → call.status ≡ given
      → (given ≡ status.Done) ⊎ ((given ≡ status.SinkFault) × FaultCounted call.sink.faults call.sink_after.faults)
      → Makes made call.old call.new status.Done
      → TextIsRight call (create_text made.parity made.width made.id (rows_for call.old.sectors))
      → CallPromises call
  carried_out given is done makes text = record {
    explains = record {
      cause = caused given is (λ usage. neither usage done) (cause done);
      comes = comes (λ small. absurd (makes.0 small));
    };
    refuses = record {
      refused = λ none not. absurd (not (⊎_elim (λ d. inl (is ∙ d)) (λ f. inr (is ∙ f.0)) done));
      quiet = λ none. absurd (none (served.Create made, served_as));
      turns = λ none. quiet_call.turns;
    };
    commands = record {
      create = record {
        created = λ m served_m. subst (λ (n : NewPool). PoolIsKept call n) (same m served_m) (record {
          keeps = λ carried tells. kept makes.0 (makes.2 tells) makes.1.later tells;
          text = λ carried. text;
          others = makes.1;
          quiet = quiet_call;
        });
        untouched = λ refusal. absurd (⊎_elim
            (λ usage. neither (sym is ∙ usage) done) (λ small. neither_small (sym is ∙ small) done) refusal);
      };
      run = λ attaches. no_run (AsTheyCome attaches);
      replay = no_run AsListed;
      told = no_told;
    };
    may_be_added = bank_may_grow call.new;
    unhindered = record {
      complete = record {
        done = λ m served_m fits quiet sink. ⊎_elim (λ d. is ∙ d) (λ f. absurd (sink f.1)) done;
      };
      completes = no_smooth;
    };
  }
    where
      neither : given ≡ status.Usage
          → (given ≡ status.Done) ⊎ ((given ≡ status.SinkFault) × FaultCounted call.sink.faults call.sink_after.faults)
          → ⊥
      neither usage (inl d) = clash (sym usage ∙ d)
        where
          clash : status.Usage ≡ status.Done → ⊥
          clash equal = cc
      neither usage (inr f) = clash (sym usage ∙ f.0)
        where
          clash : status.Usage ≡ status.SinkFault → ⊥
          clash equal = cc

      neither_small : given ≡ status.TooSmall
          → (given ≡ status.Done) ⊎ ((given ≡ status.SinkFault) × FaultCounted call.sink.faults call.sink_after.faults)
          → ⊥
      neither_small small (inl d) = clash (sym small ∙ d)
        where
          clash : status.TooSmall ≡ status.Done → ⊥
          clash equal = cc
      neither_small small (inr f) = clash (sym small ∙ f.0)
        where
          clash : status.TooSmall ≡ status.SinkFault → ⊥
          clash equal = cc

      cause : (given ≡ status.Done) ⊎ ((given ≡ status.SinkFault) × FaultCounted call.sink.faults call.sink_after.faults)
          → IsCause call (Create made.parity made.width made.id) given
      cause (inl d) = subst (λ (s : Status). IsCause call (Create made.parity made.width made.id) s) (sym d) tt
      cause (inr f) = subst (λ (s : Status). IsCause call (Create made.parity made.width made.id) s) (sym f.0) f.1

  -- One that was not made.
  refused : (given : Status) → call.status ≡ given → given ≢ status.Usage → given ≢ status.Done
      → given ≢ status.SinkFault
      → IsCause call (Create made.parity made.width made.id) given
      → (IsSmallFor made call.old → given ≡ status.TooSmall)
      → (given ≡ status.TooSmall → call.new ≡ call.old)
      → (NoneRose call → given ≡ status.TooSmall)
      → (given ≡ status.TooSmall → IsSmallFor made call.old)
      → TouchesOnly (IsOnBelow made.width) call.old call.new
      → IsLineFor given given
      → IsSaid call.sink.bytes call.sink_after.bytes call.sink.faults call.sink_after.faults
      (status_line given)
      → CallPromises call
  refused given is no_usage no_done no_fault cause small untouched quiet_small is_small_for only line said = record {
    explains = record { cause = caused given is no_usage cause; comes = comes (λ less. inl (is ∙ small less)) };
    refuses = record {
      refused = λ none not. said_right call given
          (subst (λ (s : Status). IsLineFor s given) (sym is) line)
          (λ done. no_done (sym is ∙ done)) said;
      quiet = λ none. absurd (none (served.Create made, served_as));
      turns = λ none. quiet_call.turns;
    };
    commands = record {
      create = record {
        created = λ m served_m. subst (λ (n : NewPool). PoolIsKept call n) (same m served_m) (record {
          keeps = λ carried tells. absurd (not_carried carried);
          text = λ carried. absurd (not_carried carried);
          others = only;
          quiet = quiet_call;
        });
        untouched = λ refusal. ⊎_elim
            (λ usage. absurd (no_usage (sym is ∙ usage))) (λ less. untouched (sym is ∙ less)) refusal;
      };
      run = λ attaches. no_run (AsTheyCome attaches);
      replay = no_run AsListed;
      told = no_told;
    };
    may_be_added = bank_may_grow call.new;
    unhindered = record {
      complete = record {
        done = λ m served_m fits quiet sink. absurd (fits
            (subst (λ (n : NewPool). IsTooSmall call (Create n.parity n.width n.id)) (same m served_m)
            (too_small (is_small_for (quiet_small quiet)))));
      };
      completes = no_smooth;
    };
  }
    where
      not_carried : IsCarriedOut call → ⊥
      not_carried carried = ⊎_elim (λ d. no_done (sym is ∙ d)) (λ f. no_fault (sym is ∙ f)) carried

  pub created : (given : Status) → call.status ≡ given
      → EndsCreate made call.old call.new call.sink.bytes call.sink_after.bytes
      call.sink.faults call.sink_after.faults given
      → CallPromises call
  created status.Done is ends =
      carried_out status.Done is (inl refl) ends.0 (whole_right call _ is ends.1)
  created status.SinkFault is ends =
      carried_out status.SinkFault is (inr (refl, ends.1)) ends.0
      (part_right call _ is ends.1 ends.2)
  created (status.TooManyFailed out) is ends =
      refused (status.TooManyFailed out) is (λ equal. cc) (λ equal. cc) (λ equal. cc)
      (inr (inl ((made.parity, made.width), refl, quiet_call.journal, risen call out ends.0.2)))
      (λ less. absurd (ends.0.0 less)) (λ equal. absurd (no_small equal))
      (λ quiet. absurd (quiet ends.0.2.device ends.0.2.rose)) (λ equal. absurd (no_small equal)) ends.0.1 refl ends.1
    where
      no_small : status.TooManyFailed out ≡ status.TooSmall → ⊥
      no_small equal = cc
  created status.TooSmall is ends =
      refused status.TooSmall is (λ equal. cc) (λ equal. cc) (λ equal. cc)
      (too_small ends.0.0) (λ less. refl) (λ same. ends.0.1) (λ quiet. refl) (λ same. ends.0.0)
      (subst (λ (disk : Disk). TouchesOnly (IsOnBelow made.width) call.old disk) (sym ends.0.1)
      (touches_none (IsOnBelow made.width) call.old)) refl ends.1
  created status.Usage is ends = absurd ends
  created (status.ScriptFault line why) is ends = absurd ends
  created status.NotPool is ends = absurd ends
  created status.SourceFault is ends = absurd ends
  created status.NoMemory is ends = absurd ends
  created status.Limit is ends = absurd ends
