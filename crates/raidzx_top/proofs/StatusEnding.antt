-- What a call of `status` promises follows from how it ends.
use Rattle.std.proofs.Common.{◌≡◌, ◌≢◌, ◌⊎◌, inl, inr, ⊎_elim, ℕ, ◌<◌, [], Some, None, refl, sym, ◌∙◌, ap, subst, arith}
use Rattle.bank_trait.specs.Disk.{Disk, Image}
use Rattle.uberblock_ring.specs.Devices.{count_of}
use Rattle.core_state.specs.Choosing.{IsChosen, IsNotPool, IsOutAtOpening}
use Rattle.core_open.specs.Causes.{AreOutFor, AreTooMany, IsChoiceWithout, IsOpenCause, IsShownChoice}
use Rattle.core_open.specs.Holds.{HoldsImage, shape_of}
use Rattle.core_open.specs.Looking.{IsSeenIn}
use Rattle.core_open.specs.declared.sight.Look.{Look}
use Rattle.core_open.specs.declared.why.OpenWhy.{OpenWhy}
use Rattle.core_open.specs.declared.why.OpenWhy.TheVariants as reason
use Rattle.raidzx_top.specs.declared.order.Order.{Order}
use Rattle.raidzx_top.specs.declared.order.Order.TheVariants.{AsTheyCome, AsListed}
use Rattle.raidzx_top.specs.declared.status.Status.{Status}
use Rattle.raidzx_top.specs.declared.status.Status.TheVariants as status
use Rattle.command_words.specs.declared.command.NewPool.{NewPool}
use Rattle.command_words.specs.declared.command.ServedCommand.{ServedCommand}
use Rattle.command_words.specs.declared.command.ServedCommand.TheVariants as served
use Rattle.raidzx_top.specs.Call.{TopCall, IsCarriedOut, IsQuiet}
use Rattle.raidzx_top.specs.Causes.{FindsNoPool, IsCause, IsFoundImage, IsOrNoMemory, IsRefusedWhere, IsTooSmall}
use Rattle.raidzx_top.specs.Causes.{NoneRose}
use Rattle.raidzx_top.specs.Exit.{why_status}
use Rattle.raidzx_top.specs.Looking.{EndsStatus, IsLookAt, WasSeen, WasUnseen}
use Rattle.raidzx_top.specs.Order.{served_by}
use Rattle.raidzx_top.specs.Promises.{CallPromises, RunIsKept}
use Rattle.raidzx_top.specs.RunText.{TextIsRight}
use Rattle.raidzx_top.specs.Served.{IsServedAs, command_of}
use Rattle.raidzx_top.specs.StatusCall.{LooksUnhindered, TellsLook}
use Rattle.raidzx_top.specs.Words.{Command}
use Rattle.raidzx_top.proofs.Refusing.{said_right}
use Rattle.raidzx_top.proofs.RunParts.{none_silent}
use Rattle.raidzx_top.proofs.RunRefused.{IsRefusal, refuses_open}
use Rattle.raidzx_top.proofs.Spelling.{create_no_status, script_no_status}
use Rattle.raidzx_top.proofs.Texts.{part_right, whole_right}
use Rattle.raidzx_top.proofs.Growing.{bank_may_grow}

abbrev asked : Command
asked = command_of served.Status

-- What has to be shown of a `status`, however it ended.
record IsStatusEnd (call : TopCall) : Type 0 where
  cause : IsCause call asked call.status
  no_usage : call.status ≢ status.Usage
  no_small : call.status ≢ status.TooSmall
  no_pool : FindsNoPool call asked → IsOrNoMemory call status.NotPool
  refused : (IsCarriedOut call → ⊥) → TextIsRight call []
  look : IsCarriedOut call → TellsLook call
  complete : LooksUnhindered call → IsOrNoMemory call status.Done

-- What it finds is what the bank holds at entry.
held : (call : TopCall) (image : Image) → IsFoundImage call asked image → HoldsImage call.old image
held call image found = subst (λ (disk : Disk). HoldsImage disk image) found.is found.holds

-- A choice contradicts that there is nothing to choose.
choice_there : (call : TopCall) (image : Image) → NoneRose call → IsShownChoice call.old call.new image
    → IsNotPool (shape_of call.old) 0 image → ⊥
choice_there call image works shown nothing =
    let none : IsNotPool (shape_of call.old) shown.silent image =
    subst (λ (n : ℕ). IsNotPool (shape_of call.old) n image)
    (sym (none_silent call.old call.new shown.silent shown.failed works)) nothing in
    let choice = shown.choice in
    none.none choice.uber.pool choice.device choice.uber choice.entries choice.chosen.pool choice.chosen.reads
    choice.chosen.candidate

-- Where few enough are out, not too many are.
few_enough : (call : TopCall) (unhindered : LooksUnhindered call) (out : ℕ)
    → AreTooMany call.old call.new unhindered.image out → ⊥
few_enough call unhindered out many = by many.shown many.many many.each
  where
    with_all : (silent : ℕ) → silent ≡ 0 → IsChoiceWithout (shape_of call.old) silent unhindered.image
        → IsChoiceWithout (shape_of call.old) 0 unhindered.image
    with_all silent none choice = record {
      device = choice.device;
      uber = choice.uber;
      entries = choice.entries;
      chosen = subst (λ (n : ℕ). IsChosen (shape_of call.old) n unhindered.image choice.device choice.uber choice.entries)
          none choice.chosen;
    }

    by : (shown : IsShownChoice call.old call.new unhindered.image) → shown.choice.uber.parity < count_of out
        → AreOutFor call.old call.new shown.choice out → ⊥
    by shown more each =
        let none = none_silent call.old call.new shown.silent shown.failed unhindered.works in
        let few = unhindered.few (with_all shown.silent none shown.choice) out (λ device has. ⊎_elim
        (λ gone. subst (λ (n : ℕ). IsOutAtOpening (shape_of call.old) n unhindered.image shown.choice.uber device)
        none gone)
        (λ rose. absurd (unhindered.works device rose)) (each device has)) in
        omega (arith, more, few)

-- What it saw was there to choose.
seen_there : (call : TopCall) (look : Look) → IsLookAt call.old call.new look → (image : Image)
    → HoldsImage call.old image → NoneRose call → IsNotPool (shape_of call.old) 0 image → ⊥
seen_there call look is image holds works nothing =
    let sight : IsSeenIn (shape_of call.old) image look = is.seen image holds in
    choice_there call image works (record {
      silent = look.silent;
      failed = is.silent;
      choice = record { device = sight.device; uber = look.uber; entries = sight.entries; chosen = sight.chosen };
    }) nothing

-- It told what it saw.
module _ (call : TopCall) (was : WasSeen call.old call.new call.sink call.sink_after call.status) where
  was_seen : IsStatusEnd call
  was_seen = record {
    cause = ⊎_elim (λ done. subst (λ (s : Status). IsCause call asked s) (sym done.0) tt)
        (λ fault. subst (λ (s : Status). IsCause call asked s) (sym fault.0) fault.1) was.told;
    no_usage = λ usage. ⊎_elim (λ done. done_no_usage (sym done.0 ∙ usage))
        (λ fault. fault_no_usage (sym fault.0 ∙ usage)) was.told;
    no_small = λ small. ⊎_elim (λ done. done_no_small (sym done.0 ∙ small))
        (λ fault. fault_no_small (sym fault.0 ∙ small)) was.told;
    no_pool = λ finds. absurd (seen_there call was.look was.is finds.shown.image (held call finds.shown.image finds.shown.found)
        finds.quiet finds.shown.none);
    refused = λ undone. absurd (undone (⊎_elim (λ done. inl done.0) (λ fault. inr fault.0) was.told));
    look = λ carried. record {
      look = was.look;
      is = was.is;
      text = ⊎_elim (λ done. whole_right call _ done.0 done.1)
          (λ fault. part_right call _ fault.0 fault.1 fault.2) was.told;
    };
    complete = λ unhindered. ⊎_elim (λ done. inl done.0) (λ fault. absurd (unhindered.sink fault.1)) was.told;
  }
    where
      done_no_usage : status.Done ≡ status.Usage → ⊥
      done_no_usage same = cc

      fault_no_usage : status.SinkFault ≡ status.Usage → ⊥
      fault_no_usage same = cc

      done_no_small : status.Done ≡ status.TooSmall → ⊥
      done_no_small same = cc

      fault_no_small : status.SinkFault ≡ status.TooSmall → ⊥
      fault_no_small same = cc

-- It saw no pool, or one of which too many devices are out.
module _ (call : TopCall) (was : WasUnseen call.old call.new call.sink call.sink_after call.status) where
  caused : (why : OpenWhy) → IsOpenCause call.old call.new why → ((group : ℕ) → why ≢ reason.Limit group)
      → IsCause call asked (why_status why)
  caused reason.NotPool cause unlimited = (tt, λ image found. cause image (held call image found))
  caused (reason.TooManyFailed out) cause unlimited = ⊎_elim
      (λ failed. inr (inr (
        tt,
        record { some = failed.0; each = λ device has. (failed.1 device has).1 },
        λ image found. failed.2 image (held call image found),
      )))
      (λ many. inl (tt, λ image found. many image (held call image found))) cause
  caused (reason.Limit group) cause unlimited = absurd (unlimited group refl)
  caused reason.NoMemory cause unlimited = tt

  -- Where no device failed and there is nothing to choose, that is why.
  says : (why : OpenWhy) → IsOpenCause call.old call.new why → ((group : ℕ) → why ≢ reason.Limit group)
      → FindsNoPool call asked
      → (why ≡ reason.NotPool) ⊎ (why ≡ reason.NoMemory)
  says reason.NotPool cause unlimited finds = inl refl
  says (reason.TooManyFailed out) cause unlimited finds = absurd (⊎_elim
      (λ failed. failed.0 (none_silent call.old call.new out failed.1 finds.quiet))
      (λ many. choice_there call finds.shown.image finds.quiet
      (many finds.shown.image (held call finds.shown.image finds.shown.found)).shown finds.shown.none) cause)
  says (reason.Limit group) cause unlimited finds = absurd (unlimited group refl)
  says reason.NoMemory cause unlimited finds = inr refl

  -- Where nothing is in the way, there was no memory.
  for_memory : (why : OpenWhy) → IsOpenCause call.old call.new why → ((group : ℕ) → why ≢ reason.Limit group)
      → LooksUnhindered call → why ≡ reason.NoMemory
  for_memory reason.NotPool cause unlimited unhindered =
      absurd (unhindered.shown (cause unhindered.image unhindered.holds))
  for_memory (reason.TooManyFailed out) cause unlimited unhindered = absurd (⊎_elim
      (λ failed. failed.0 (none_silent call.old call.new out failed.1 unhindered.works))
      (λ many. few_enough call unhindered out (many unhindered.image unhindered.holds)) cause)
  for_memory (reason.Limit group) cause unlimited unhindered = absurd (unlimited group refl)
  for_memory reason.NoMemory cause unlimited unhindered = refl

  refusal : IsRefusal call.status
  refusal = subst (λ (s : Status). IsRefusal s) (sym was.status_is) (refuses_open was.why)

  was_unseen : IsStatusEnd call
  was_unseen = record {
    cause = subst (λ (s : Status). IsCause call asked s) (sym was.status_is) (caused was.why was.cause was.no_limit);
    no_usage = refusal.no_usage;
    no_small = refusal.no_small;
    no_pool = λ finds. ⊎_elim (λ none. inl (was.status_is ∙ ap why_status none))
        (λ memory. inr (was.status_is ∙ ap why_status memory)) (says was.why was.cause was.no_limit finds);
    refused = λ undone. said_right call call.status refusal.line refusal.no_done was.said;
    look = λ carried. absurd (⊎_elim refusal.no_done refusal.no_fault carried);
    complete = λ unhindered. inr (was.status_is
        ∙ ap why_status (for_memory was.why was.cause was.no_limit unhindered));
  }

-- It has no size that may be too small.
no_size : (call : TopCall) → IsTooSmall call asked → ⊥
no_size call less = apart less.0 less.1
  where
    apart : (size : ℕ × ℕ) → None ≡ Some size → ⊥
    apart size same = cc

module _ (call : TopCall) (served_as : IsServedAs call.words served.Status) (quiet : IsQuiet call)
    (ends : EndsStatus call.old call.new call.sink call.sink_after call.status) where
  status_end : IsStatusEnd call
  status_end = ⊎_elim (λ was. was_seen call was) (λ was. was_unseen call was) ends.ends

  no_create : {A : Type 0} → (made : NewPool) → IsServedAs call.words (served.Create made) → A
  no_create made is = absurd (create_no_status call.words made is served_as)

  no_script : {A : Type 0} → (order : Order) → IsServedAs call.words (served_by order) → A
  no_script order is = absurd (script_no_status call.words order is served_as)

  -- The words ask for this, and for nothing else.
  for_status : (P : Command → Type 0) → P asked → (given : ServedCommand) → IsServedAs call.words given
      → P (command_of given)
  for_status P right (served.Create made) is = no_create made is
  for_status P right (served.Run attaches) is = no_script (AsTheyCome attaches) is
  for_status P right served.Replay is = no_script AsListed is
  for_status P right served.Status is = right

  no_run : (order : Order) → RunIsKept order call
  no_run order = record {
    opened = λ is. no_script order is;
    unopened = λ is. no_script order is;
    carried_out = λ is. no_script order is;
  }

  pub status_promises : CallPromises call
  status_promises = record {
    explains = record {
      cause = record {
        usage = λ usage. absurd (status_end.no_usage usage);
        others = for_status (λ (c : Command). IsCause call c call.status) status_end.cause;
      };
      comes = record {
        usage = λ none. absurd (none (served.Status, served_as));
        refused = for_status (λ (c : Command). IsRefusedWhere call c) (record {
          limit = λ bytes whole over. absurd whole.0;
          fault = λ bytes line whole at. absurd whole.0;
          too_small = λ less. absurd (no_size call less);
        });
        no_pool = λ command finds. for_status
            (λ (c : Command). FindsNoPool call c → IsOrNoMemory call status.NotPool)
            status_end.no_pool finds.given finds.served
            (subst (λ (c : Command). FindsNoPool call c) (sym finds.command_is) finds);
      };
    };
    refuses = record {
      refused = λ none undone. status_end.refused undone;
      quiet = λ none. absurd (none (served.Status, served_as));
      turns = λ none. quiet.turns;
    };
    commands = record {
      create = record {
        created = λ made is. no_create made is;
        untouched = λ refusal. ⊎_elim (λ usage. absurd (status_end.no_usage usage))
            (λ small. absurd (status_end.no_small small)) refusal;
      };
      run = λ attaches. no_run (AsTheyCome attaches);
      replay = no_run AsListed;
      told = record {
        unchanged = λ is. ends.unchanged;
        quiet = λ is. quiet;
        look = λ is carried. status_end.look carried;
        complete = status_end.complete;
      };
    };
    may_be_added = bank_may_grow call.new;
    unhindered = record {
      complete = record { done = λ made is fits works sink. no_create made is };
      completes = λ order smooth. no_script order smooth.served;
    };
  }
