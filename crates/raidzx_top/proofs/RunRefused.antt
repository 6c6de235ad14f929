-- What a run or a replay promises that was refused before its pool was open.
use Rattle.std.proofs.Common.{◌≡◌, ◌≢◌, ◌⊎◌, inl, inr, ⊎_elim, ℕ, List, [], refl, sym, ◌∙◌, ap, subst}
use Rattle.bank_trait.specs.Disk.{Disk, Unchanged}
use Rattle.core_open.specs.Causes.{IsShownChoice}
use Rattle.core_open.proofs.Unchanged.{unchanged_none}
use Rattle.core_open.specs.declared.why.OpenWhy.{OpenWhy}
use Rattle.core_open.specs.declared.why.OpenWhy.TheVariants as reason
use Rattle.core_state.specs.Choosing.{IsNotPool}
use Rattle.core_state.specs.Legal.{CallAt}
use Rattle.core_state.specs.declared.item.Entry.{Entry}
use Rattle.core_state.specs.declared.item.Item.{Item}
use Rattle.client_script.specs.Script.{Script, IsOverLimit, IsFaultAt}
use Rattle.client_script.specs.declared.refused.ReadRefused.{ReadRefused}
use Rattle.client_script.specs.declared.refused.ReadRefused.TheVariants as read
use Rattle.raidzx_top.specs.declared.order.Order.{Order}
use Rattle.raidzx_top.specs.declared.status.Status.{Status}
use Rattle.raidzx_top.specs.declared.status.Status.TheVariants as status
use Rattle.raidzx_top.specs.Call.{TopCall, shape_of}
use Rattle.raidzx_top.specs.Causes.{IsCause, IsReadWhole, IsOrNoMemory, IsFaultOrNoMemory, FindsNoPool}
use Rattle.raidzx_top.specs.Exit.{read_status, why_status}
use Rattle.raidzx_top.specs.Promises.{LeavesNone, RunsUnhindered}
use Rattle.raidzx_top.specs.Running.{IsWell, IsUnread, IsUnopened, HasRead, IsRefused, Unread, Roomless, Unopened}
use Rattle.raidzx_top.specs.Running.{WasRefused}
use Rattle.raidzx_top.specs.RunText.{IsLineFor}
use Rattle.raidzx_top.proofs.Reopening.{survives_opening}
use Rattle.raidzx_top.proofs.Refusing.{said_right}
use Rattle.raidzx_top.proofs.RunParts.{IsRunEnd, command_in, reads, opens, makes_groups, held_at_entry, none_silent}

-- A status of a refusal, where no pool is opened.
pub record IsRefusal (given : Status) : Type 0 where
  pub no_usage : given ≢ status.Usage
  pub no_small : given ≢ status.TooSmall
  pub no_done : given ≢ status.Done
  pub no_fault : given ≢ status.SinkFault
  pub line : IsLineFor given given

refuses_read : (why : ReadRefused) → IsRefusal (read_status why)
refuses_read read.SourceFault =
    record { no_usage = λ same. cc; no_small = λ same. cc; no_done = λ same. cc; no_fault = λ same. cc; line = refl }
refuses_read (read.ScriptFault line why) =
    record { no_usage = λ same. cc; no_small = λ same. cc; no_done = λ same. cc; no_fault = λ same. cc; line = refl }
refuses_read (read.Limit reached) =
    record { no_usage = λ same. cc; no_small = λ same. cc; no_done = λ same. cc; no_fault = λ same. cc; line = refl }
refuses_read read.NoMemory =
    record { no_usage = λ same. cc; no_small = λ same. cc; no_done = λ same. cc; no_fault = λ same. cc; line = refl }

pub refuses_open : (why : OpenWhy) → IsRefusal (why_status why)
refuses_open reason.NotPool =
    record { no_usage = λ same. cc; no_small = λ same. cc; no_done = λ same. cc; no_fault = λ same. cc; line = refl }
refuses_open (reason.TooManyFailed out) =
    record { no_usage = λ same. cc; no_small = λ same. cc; no_done = λ same. cc; no_fault = λ same. cc; line = refl }
refuses_open (reason.Limit group) =
    record { no_usage = λ same. cc; no_small = λ same. cc; no_done = λ same. cc; no_fault = λ same. cc; line = refl }
refuses_open reason.NoMemory =
    record { no_usage = λ same. cc; no_small = λ same. cc; no_done = λ same. cc; no_fault = λ same. cc; line = refl }

-- What has to be shown of a refusal beside what every one has.
record IsOwn (order : Order) (call : TopCall) : Type 0 where
  cause : IsCause call (command_in order) call.status
  refusal : IsRefusal call.status
  limit : (bytes : List ℕ) → IsWell call.source call.source_after bytes → IsOverLimit bytes
      → IsOrNoMemory call status.Limit
  fault : (bytes : List ℕ) (line : ℕ) → IsWell call.source call.source_after bytes → IsFaultAt bytes line
      → IsFaultOrNoMemory call line
  no_pool : FindsNoPool call (command_in order) → IsOrNoMemory call status.NotPool
  leaves : LeavesNone call
  smooth : RunsUnhindered order call → call.status ≡ status.NoMemory

well_read : (order : Order) (call : TopCall) (bytes : List ℕ) → IsReadWhole call (command_in order) bytes
    → IsWell call.source call.source_after bytes
well_read order call bytes whole = record { told = whole.1; well = whole.2 }

smooth_well : (order : Order) (call : TopCall) (smooth : RunsUnhindered order call)
    → IsWell call.source call.source_after smooth.read.bytes
smooth_well order call smooth = record { told = smooth.read.told; well = smooth.read.source }

left_alone : (old new : Disk) → new ≡ old → Unchanged old new
left_alone old new same = subst (λ (disk : Disk). Unchanged old disk) (sym same) (unchanged_none old)

-- There was no script.
unread : (order : Order) (call : TopCall) → call.turns ≡ 0 → (why : ReadRefused)
    → IsUnread call.source call.source_after why → call.new ≡ call.old
    → call.status ≡ read_status why → IsOwn order call
unread order call no_turns why is same status_is = record {
  cause = subst (λ (s : Status). IsCause call (command_in order) s) (sym status_is) (caused why is);
  refusal = subst (λ (s : Status). IsRefusal s) (sym status_is) (refuses_read why);
  limit = λ bytes well over. ⊎_elim
      (λ told. inl (status_is ∙ ap read_status told.1))
      (λ memory. inr (status_is ∙ ap read_status memory)) (is.limit bytes well over);
  fault = λ bytes line well at. ⊎_elim
      (λ told. inl (told.0, status_is ∙ ap read_status told.1))
      (λ memory. inr (status_is ∙ ap read_status memory)) (is.fault bytes line well at);
  no_pool = λ finds. inr (status_is ∙ ap read_status (for_memory why is finds));
  leaves = record {
    untouched = λ memory many. left_alone call.old call.new same;
    cut = inl (left_alone call.old call.new same);
    survives = λ setting first later may bears.
        survives_opening setting first later call.old may call.new (inl (left_alone call.old call.new same)) bears;
    others = inl same;
    turns = no_turns;
  };
  smooth = λ smooth. status_is
      ∙ ap read_status (is.script smooth.read.bytes smooth.read.script (smooth_well order call smooth) smooth.read.script_is);
}
  where
    caused : (why : ReadRefused) → IsUnread call.source call.source_after why
        → IsCause call (command_in order) (read_status why)
    caused read.SourceFault is = (reads order, is.cause)
    caused (read.ScriptFault line reason) is = (reads order, is.cause)
    caused (read.Limit reached) is = inl (reads order, λ bytes told. (is.cause bytes told).0)
    caused read.NoMemory is = opens order

    for_memory : (why : ReadRefused) → IsUnread call.source call.source_after why
        → FindsNoPool call (command_in order) → why ≡ read.NoMemory
    for_memory read.SourceFault is finds = absurd ((finds.script (reads order)).1.2 is.cause)
    for_memory (read.ScriptFault line reason) is finds =
        let whole = finds.script (reads order) in
        absurd (whole.3 line (is.cause whole.0 whole.1.1).0)
    for_memory (read.Limit reached) is finds =
        let whole = finds.script (reads order) in
        absurd (whole.2 (is.cause whole.0 whole.1.1).0)
    for_memory read.NoMemory is finds = refl

-- There was no room for the journal.
roomless : (order : Order) (call : TopCall) → call.turns ≡ 0 → (script : Script)
    → HasRead call.source call.source_after script → call.new ≡ call.old
    → call.status ≡ status.NoMemory → IsOwn order call
roomless order call no_turns script was_read same status_is = record {
  cause = subst (λ (s : Status). IsCause call (command_in order) s) (sym status_is) (opens order);
  refusal = subst (λ (s : Status). IsRefusal s) (sym status_is) (refuses_read read.NoMemory);
  limit = λ bytes well over. inr status_is;
  fault = λ bytes line well at. inr status_is;
  no_pool = λ finds. inr status_is;
  leaves = record {
    untouched = λ memory many. absurd (memory status_is);
    cut = inl (left_alone call.old call.new same);
    survives = λ setting first later may bears.
        survives_opening setting first later call.old may call.new (inl (left_alone call.old call.new same)) bears;
    others = inl same;
    turns = no_turns;
  };
  smooth = λ smooth. status_is;
}

-- No pool was opened.
unopened : (order : Order) (call : TopCall) → call.journal ≡ [] → call.turns ≡ 0 → (script : Script)
    → HasRead call.source call.source_after script → (why : OpenWhy)
    → IsUnopened call.old call.new why → call.status ≡ why_status why → IsOwn order call
unopened order call none_yet no_turns script was_read why is status_is = record {
  cause = subst (λ (s : Status). IsCause call (command_in order) s) (sym status_is) (caused why is);
  refusal = subst (λ (s : Status). IsRefusal s) (sym status_is) (refuses_open why);
  limit = λ bytes well over. absurd (was_read.few bytes well over);
  fault = λ bytes line well at. absurd (was_read.right bytes line well at);
  no_pool = λ finds. ⊎_elim (λ none. inl (status_is ∙ ap why_status none))
      (λ memory. inr (status_is ∙ ap why_status memory)) (says why is finds);
  leaves = record {
    untouched = λ memory many. left why is
        (λ no_memory. memory (status_is ∙ ap why_status no_memory))
        (λ out too_many. many out (status_is ∙ ap why_status too_many));
    cut = is.cut;
    survives = λ setting first later may bears.
        survives_opening setting first later call.old may call.new is.cut bears;
    others = inr is.others;
    turns = no_turns;
  };
  smooth = λ smooth. status_is
      ∙ ap why_status (is.opens smooth.bank.setting smooth.bank.first smooth.bank.later smooth.bank.unhindered);
}
  where
    caused : (why : OpenWhy) → IsUnopened call.old call.new why → IsCause call (command_in order) (why_status why)
    caused reason.NotPool is = (opens order, λ image found. is.cause image (held_at_entry call order image found))
    caused (reason.TooManyFailed out) is = ⊎_elim
        (λ failed. inr (inr (
          opens order,
          record { some = failed.0; each = λ device has. (failed.1 device has).1 },
          λ image found. failed.2 image (held_at_entry call order image found),
        )))
        (λ many. inl (opens order, λ image found. many image (held_at_entry call order image found))) is.cause
    caused (reason.Limit group) is =
        inr (inl (makes_groups order, none_yet, λ image found. is.cause image (held_at_entry call order image found)))
    caused reason.NoMemory is = opens order

    -- A choice contradicts that there is nothing to choose.
    no_choice : (finds : FindsNoPool call (command_in order)) → IsShownChoice call.old call.new finds.shown.image → ⊥
    no_choice finds shown =
        let none : IsNotPool (shape_of call.old) shown.silent finds.shown.image =
        subst (λ (n : ℕ). IsNotPool (shape_of call.old) n finds.shown.image)
        (sym (none_silent call.old call.new shown.silent shown.failed finds.quiet)) finds.shown.none in
        let choice = shown.choice in
        none.none choice.uber.pool choice.device choice.uber choice.entries choice.chosen.pool choice.chosen.reads
        choice.chosen.candidate

    says : (why : OpenWhy) → IsUnopened call.old call.new why → FindsNoPool call (command_in order)
        → (why ≡ reason.NotPool) ⊎ (why ≡ reason.NoMemory)
    says reason.NotPool is finds = inl refl
    says (reason.TooManyFailed out) is finds = absurd (⊎_elim
        (λ failed. failed.0 (none_silent call.old call.new out failed.1 finds.quiet))
        (λ many. no_choice finds (many finds.shown.image (held_at_entry call order finds.shown.image finds.shown.found)).shown) is.cause)
    says (reason.Limit group) is finds =
        absurd (no_choice finds (is.cause finds.shown.image (held_at_entry call order finds.shown.image finds.shown.found)).0)
    says reason.NoMemory is finds = inr refl

    left : (why : OpenWhy) → IsUnopened call.old call.new why → (why ≡ reason.NoMemory → ⊥)
        → ((out : ℕ) → why ≡ reason.TooManyFailed out → ⊥)
        → Unchanged call.old call.new
    left reason.NotPool is memory many = is.untouched
    left (reason.TooManyFailed out) is memory many = absurd (many out refl)
    left (reason.Limit group) is memory many = is.untouched
    left reason.NoMemory is memory many = absurd (memory refl)

-- Each refusal has what is its own.
own : (order : Order) (call : TopCall) → call.journal ≡ [] → call.turns ≡ 0
    → IsRefused call.source call.source_after call.old call.new call.status → IsOwn order call
own order call none no_turns refused = elim refused [
  | Unread why is same status_is ↦ unread order call no_turns why is same status_is
  | Roomless script was_read same status_is ↦ roomless order call no_turns script was_read same status_is
  | Unopened script was_read why is status_is ↦ unopened order call none no_turns script was_read why is status_is
]

pub refused_run : (order : Order) (call : TopCall)
    → WasRefused call.source call.source_after call.sink call.sink_after call.old call.new call.journal call.status
    call.turns
    → IsRunEnd order call
refused_run order call was =
    let mine = own order call was.none was.no_turns was.refused in
    record {
      cause = mine.cause;
      no_usage = mine.refusal.no_usage;
      no_small = mine.refusal.no_small;
      limit = λ bytes whole over. mine.limit bytes (well_read order call bytes whole) over;
      fault = λ bytes line whole at. mine.fault bytes line (well_read order call bytes whole) at;
      no_pool = mine.no_pool;
      refused = λ none not. said_right call call.status mine.refusal.line mine.refusal.no_done was.said;
      opened = λ some. absurd (some was.none);
      unopened = λ none. mine.leaves;
      carried_out = λ carried none. ⊎_elim mine.refusal.no_done mine.refusal.no_fault carried;
      completes = λ smooth. record {
        status_is = inr (inl (mine.smooth smooth));
        answers = λ index entry there. absurd (no_call index entry
            (subst (λ (items : List Item). CallAt items index entry) was.none there));
        widens = λ done. let clash : status.NoMemory ≡ status.Done = sym (mine.smooth smooth) ∙ done in cc;
      };
    }
  where
    no_call : (index : ℕ) (entry : Entry) → CallAt [] index entry → ⊥
    no_call index entry there = cc
