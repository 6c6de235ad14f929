-- What a run or a replay promises that opened its pool.
use Rattle.std.proofs.Common.{◌≡◌, ◌≢◌, ◌⊎◌, inl, inr, ⊎_elim, ℕ, ◌≤◌, List, [], Some, true, refl, sym, ◌∙◌, subst}
use Rattle.std.proofs.Common.{arith}
use Rattle.std.specs.Prelude.{All, slice_get}
use Rattle.bank_trait.specs.Causes.{FaultCounted}
use Rattle.bank_trait.specs.Disk.{Image, Lawful}
use Rattle.uberblock_ring.specs.Devices.{has_device}
use Rattle.core_state.specs.declared.answer.Answer.{Answer}
use Rattle.core_state.specs.declared.answer.Answer.TheVariants as answer
use Rattle.core_state.specs.declared.item.Entry.{Entry}
use Rattle.core_state.specs.declared.item.Item.{Item}
use Rattle.core_state.specs.declared.item.Item.TheVariants.{Group}
use Rattle.core_state.specs.Choosing.{IsChosen, IsNotPool, IsOutAtOpening}
use Rattle.core_state.specs.declared.answer.Kind.{Kind}
use Rattle.core_state.specs.declared.answer.Kind.TheVariants as kind
use Rattle.core_state.specs.Legal.{CallAt, IsAnswerOf}
use Rattle.core_state.proofs.Knowing.{present}
use Rattle.core_open.specs.Causes.{IsShownChoice, AreTooMany}
use Rattle.core_open.specs.Failing.{HaveFailed}
use Rattle.core_open.specs.Holds.{HoldsImage, shape_of}
use Rattle.core_open.specs.declared.why.OpenWhy.TheVariants as reason
use Rattle.core_open.proofs.Present.{present_held}
use Rattle.core_open.proofs.Unhindered.{caused}
use Rattle.core_open.proofs.Banks.{count_grows}
use Rattle.client_script.specs.Script.{IsAllowed, handed_by}
use Rattle.client_script.specs.Texts.{journal_text}
use Rattle.raidzx_top.specs.declared.running.Trouble.TheVariants as trouble
use Rattle.raidzx_top.specs.declared.status.Status.{Status}
use Rattle.raidzx_top.specs.declared.status.Status.TheVariants as status
use Rattle.schedule.specs.Dropping.{IsDropCause}
use Rattle.schedule.specs.Fitting.{IsDeviceCause}
use Rattle.schedule.specs.WholeRun.{HasRun, RunKeeps, banks_of}
use Rattle.schedule.specs.declared.whole_run.Ran.{Ran}
use Rattle.raidzx_top.specs.declared.order.Order.{Order}
use Rattle.raidzx_top.specs.Bearing.{setting_with}
use Rattle.raidzx_top.specs.Call.{TopCall}
use Rattle.raidzx_top.specs.Causes.{IsCause, FindsNoPool, MeetsLimit, most_turns}
use Rattle.raidzx_top.specs.Promises.{RunPromises, RunsUnhindered, IsDone, IsSmoothAnswer, CompletesAll, WidensWholly}
use Rattle.raidzx_top.specs.Running.{IsStatusOf, HasMet, StoppedFor, after_fault, EndsTelling, WasCarriedOut}
use Rattle.raidzx_top.specs.RunText.{IsLineFor, TextIsRight}
use Rattle.raidzx_top.proofs.Carrying.{carried_actors_in, carried_allowed}
use Rattle.raidzx_top.proofs.Bearing.{may_bear}
use Rattle.raidzx_top.proofs.Reopening.{survives_stops}
use Rattle.raidzx_top.proofs.RunParts.{IsRunEnd, command_in, opens, held_at_entry, none_silent}
use Rattle.raidzx_top.proofs.RunAnswers.{IsClients, answers_client}
use Rattle.raidzx_top.proofs.Widened.{carried_with, copied_behind, copy_done}

-- The line of a run's status, and the status itself.
record IsEnd (line given : Status) : Type 0 where
  no_usage : given ≢ status.Usage
  no_small : given ≢ status.TooSmall
  for : IsLineFor given line

-- the status is that of the line, or the one after a fault
whole_end : (ran : Ran) (items : List Item) (line : Status) → IsStatusOf ran items line → IsEnd line line
whole_end ran items status.NoMemory is = record { no_usage = λ same. cc; no_small = λ same. cc; for = refl }
whole_end ran items status.Limit is = record { no_usage = λ same. cc; no_small = λ same. cc; for = refl }
whole_end ran items (status.TooManyFailed listed) is = record { no_usage = λ same. cc; no_small = λ same. cc; for = refl }
whole_end ran items status.Done is = record { no_usage = λ same. cc; no_small = λ same. cc; for = refl }
whole_end ran items other is = absurd is

part_end : (ran : Ran) (items : List Item) (line : Status) → IsStatusOf ran items line
    → IsEnd line (after_fault line) × (after_fault line ≢ status.Done)
part_end ran items status.NoMemory is =
    (record { no_usage = λ same. cc; no_small = λ same. cc; for = refl }, λ same. cc)
part_end ran items status.Limit is =
    (record { no_usage = λ same. cc; no_small = λ same. cc; for = refl }, λ same. cc)
part_end ran items (status.TooManyFailed listed) is =
    (record { no_usage = λ same. cc; no_small = λ same. cc; for = inr (listed, refl) }, λ same. cc)
part_end ran items status.Done is =
    (record { no_usage = λ same. cc; no_small = λ same. cc; for = inl refl }, λ same. cc)
part_end ran items other is = absurd is

module _ (order : Order) (call : TopCall) (lawful : Lawful call.old)
    (was : WasCarriedOut order call.source call.source_after call.sink call.sink_after call.old call.new call.journal
    call.status call.turns) where
  abbrev out : ℕ
  out = was.ran.out

  run : HasRun was.done.calls.carried call.old call.new call.journal out
  run = was.done.calls.run

  -- Each call that was carried out is allowed.
  allowed : All (λ placed. IsAllowed placed.call) was.done.calls.carried.calls
  allowed = carried_allowed order was.script was.done.calls.carried was.done.calls.run.opened was.done.calls.carried_is
      was.read.allowed

  -- The silent devices have failed.
  failed : HaveFailed call.old call.new run.silent
  failed device has =
      let early = run.opening.failed device has in
      let rose = early.1 in
      let more = run.turns.onward.faults device in
      (early.0, omega (arith, rose, more))

  -- What holds of the line's status and of the one after a fault holds of the status.
  by_line : (P : Status → Type 0) → P was.line
      → (FaultCounted call.sink.faults call.sink_after.faults → P (after_fault was.line))
      → P call.status
  by_line P whole part = ⊎_elim
      (λ told. subst P (sym told.0) whole)
      (λ told. subst P (sym told.0) (part told.1)) was.told

  -- what the devices chose but for the silent ones, each of which failed
  abbrev shown_by : (image : Image) → HoldsImage call.old image → IsShownChoice call.old call.new image
  shown_by image holds = record { silent = run.silent; failed = failed; choice = (run.devices.each image holds).choice }

  -- the devices that a call lists which tells of too many
  many_listed : (index listed : ℕ) (entry : Entry) → CallAt call.journal index entry
      → entry.answer ≡ answer.TooManyFailed listed
      → (image : Image) → HoldsImage call.old image → AreTooMany call.old call.new image listed
  many_listed index listed entry there is image holds =
      let each = run.devices.each image holds in
      let told = (run.answers.fits index entry there).too_many listed is in
      let same = each.parity_is in
      record {
        shown = shown_by image holds;
        many = (let many = told.0 in omega (arith, many, same));
        each = λ device has. each.each device (told.1 device has);
      }

  -- and those that are out in the end, where some call tells so
  many_out : HasMet was.ran call.journal trouble.TooManyFailed
      → (image : Image) → HoldsImage call.old image → AreTooMany call.old call.new image out
  many_out (inl stopped) image holds = absurd stopped
  many_out (inr tells) image holds =
      let each = run.devices.each image holds in
      let told = (run.answers.fits tells.0 tells.1 tells.2).too_many tells.3.0 tells.3.1 in
      let same = each.parity_is in
      let more = count_grows tells.3.0 out told.1 in
      record {
        shown = shown_by image holds;
        many = (let many = told.0 in omega (arith, many, more, same));
        each = each.each;
      }

  -- no more turns could be counted
  used_up : StoppedFor was.ran trouble.Limit → most_turns ≤ call.turns
  used_up stopped = subst (λ (n : ℕ). most_turns ≤ n) (sym was.turns_are) (was.done.used_up stopped)

  limit_met : HasMet was.ran call.journal trouble.Limit → MeetsLimit call (command_in order)
  limit_met (inl stopped) = inr (inr (used_up stopped))
  limit_met (inr tells) = inr (inl (tells.0, tells.1, tells.3.0, tells.2, tells.3.1))

  caused_line : (line : Status) → IsStatusOf was.ran call.journal line → IsCause call (command_in order) line
  caused_line status.NoMemory is = opens order
  caused_line status.Limit is = inr (limit_met is.1)
  caused_line (status.TooManyFailed listed) is = inl (
    opens order,
    λ image found.
        subst (λ (devices : ℕ). AreTooMany call.old call.new image devices) (sym is.0)
        (many_out is.3 image (held_at_entry call order image found)),
  )
  caused_line status.Done is = tt
  caused_line other is = absurd is

  caused_fault : (line : Status) → IsStatusOf was.ran call.journal line
      → FaultCounted call.sink.faults call.sink_after.faults → IsCause call (command_in order) (after_fault line)
  caused_fault status.NoMemory is rose = opens order
  caused_fault status.Limit is rose = caused_line status.Limit is
  caused_fault (status.TooManyFailed listed) is rose = rose
  caused_fault status.Done is rose = rose
  caused_fault other is rose = absurd is

  -- Nothing to choose contradicts a choice.
  no_pool : FindsNoPool call (command_in order) → ⊥
  no_pool finds =
      let holds : HoldsImage call.old finds.shown.image = held_at_entry call order finds.shown.image finds.shown.found in
      let choice = (run.devices.each finds.shown.image holds).choice in
      let none : IsNotPool (shape_of call.old) run.silent finds.shown.image =
      subst (λ (n : ℕ). IsNotPool (shape_of call.old) n finds.shown.image)
      (sym (none_silent call.old call.new run.silent failed finds.quiet)) finds.shown.none in
      none.none choice.uber.pool choice.device choice.uber choice.entries choice.chosen.pool choice.chosen.reads
      choice.chosen.candidate

  -- Where the status isn't want of memory, no call met it.
  had_memory : call.status ≢ status.NoMemory → HasMet was.ran call.journal trouble.NoMemory → ⊥
  had_memory other = by was.line was.line_is was.told
    where
      by : (line : Status) → IsStatusOf was.ran call.journal line
          → EndsTelling call.sink call.sink_after call.journal line call.status
          → HasMet was.ran call.journal trouble.NoMemory → ⊥
      by status.NoMemory is told = absurd (other (⊎_elim (λ t. t.0) (λ t. t.0) told))
      by status.Limit is told = is.0
      by (status.TooManyFailed listed) is told = is.1
      by status.Done is told = is.0
      by line is told = absurd is

  text : TextIsRight call (journal_text call.journal)
  text = record {
    written = λ held bytes. ⊎_elim
        (λ told. (
          was.line,
          subst (λ (s : Status). IsLineFor s was.line) (sym told.0)
              (whole_end was.ran call.journal was.line was.line_is).for,
          inl (told.1.whole held bytes),
        ))
        (λ told.
        let ends = part_end was.ran call.journal was.line was.line_is in (
          was.line,
          subst (λ (s : Status). IsLineFor s was.line) (sym told.0) ends.0.for,
          inr (told.1, (λ done. ends.1 (sym told.0 ∙ done)), told.2.front held bytes),
        )) was.told;
  }

  not_done : after_fault was.line ≢ status.Done
  not_done = (part_end was.ran call.journal was.line was.line_is).1

  promises : RunPromises order call
  promises = record {
    did = record { script = was.script; script_is = was.read.is; ran = was.ran; calls = was.done.calls };
    in_turn = record {
      turns = was.turns_are;
      are_told = was.done.turns;
      lines = λ one. was.done.calls.run.answers.lines one (carried_actors_in order was.script was.done.calls.carried
          was.done.calls.run.opened was.done.calls.carried_is was.read.clients was.read.actors);
    };
    keeps = record {
      binds = λ setting first later failed may bears. was.done.calls.run.keeps (setting_with setting failed) first later
          (may_bear setting first later call.old was.done.calls.run.silent was.done.calls.run.borne failed may bears)
          bears.missed bears.now;
      survives = survives_stops was.done.calls.carried call.old call.new call.journal was.ran.out was.done.calls.run allowed;
    };
    answers = record {
      complete = λ other counted. was.done.complete (λ stopped. had_memory other (inl stopped)) counted;
      memory = λ other index entry there is. had_memory other (inr (index, entry, there, is));
      used_up = used_up;
      too_many = many_listed;
    };
    text = text;
    status_is = record {
      line = was.line;
      line_is = was.line_is;
      given = ⊎_elim (λ told. inl told.0) (λ told. inr (told.0, told.1)) was.told;
      written = λ held bytes. ⊎_elim
          (λ told. inl (told.1.whole held bytes))
          (λ told. inr (told.1, (λ done. not_done (sym told.0 ∙ done)), told.2.front held bytes)) was.told;
    };
  }

  -- A journal that has an item isn't empty.
  some_items : call.journal ≡ [] → ⊥
  some_items none = apart (subst (λ (items : List Item). slice_get items 0 ≡ Some (Group run.opened)) none run.opens.there)
    where
      apart : {item : Item} → slice_get [] 0 ≡ Some item → ⊥
      apart same = cc

  module _ (smooth : RunsUnhindered order call) where
    -- No call tells of too many failed devices.
    few : (listed : ℕ) → ((image : Image) → HoldsImage call.old image → AreTooMany call.old call.new image listed) → ⊥
    few listed many = apart (caused call.old call.new (reason.TooManyFailed listed) lawful (inr many)
        smooth.bank.setting smooth.bank.first smooth.bank.later smooth.bank.unhindered)
      where
        apart : reason.TooManyFailed listed ≡ reason.NoMemory → ⊥
        apart same = cc

    none_rose : (device : ℕ) → FaultCounted (call.old.faults device) (call.new.faults device) → ⊥
    none_rose = smooth.bank.unhindered.works

    -- No device is out in the end.
    none_out : (device : ℕ) → has_device out device ≡ true → ⊥
    none_out device has =
        let holds : HoldsImage call.old (present call.old) = present_held call.old smooth.bank.may.may.tells in
        let each = run.devices.each (present call.old) holds in
        let choice = each.choice in
        let silent = none_silent call.old call.new run.silent failed none_rose in
        ⊎_elim
        (λ missed. smooth.bank.unhindered.in_use (present call.old) choice.device choice.uber choice.entries device holds
        (subst (λ (n : ℕ). IsChosen (shape_of call.old) n (present call.old) choice.device choice.uber choice.entries)
        silent choice.chosen)
        (subst (λ (n : ℕ). IsOutAtOpening (shape_of call.old) n (present call.old) choice.uber device) silent missed))
        (λ rose. none_rose device rose) (each.each device has)

    keeps : RunKeeps was.done.calls.carried smooth.bank.setting smooth.bank.first smooth.bank.later call.old call.new call.journal run.parity run.silent (banks_of run)
    keeps = run.keeps smooth.bank.setting smooth.bank.first smooth.bank.later smooth.bank.may
        (λ device below has. absurd (none_rose device (failed device has).1))
        (λ device has. absurd (none_out device (run.bears.within device has)))

    -- Each answer is one for a client's call.
    of_client : (index : ℕ) (entry : Entry) → CallAt call.journal index entry → (asked : Kind) → entry.kind ≡ asked
        → IsClients asked
    of_client index entry there asked is = subst (λ (k : Kind). IsClients k) is
        (answers_client was.done.calls.carried (handed_by was.done.calls.carried) keeps.chosen.map call.journal allowed keeps.journal.legal index
        entry there).0

    answers : (index : ℕ) (entry : Entry) → CallAt call.journal index entry → (given : Answer) → entry.answer ≡ given
        → IsAnswerOf entry.kind given
    answers index entry there given is = subst (λ (a : Answer). IsAnswerOf entry.kind a) is
        (answers_client was.done.calls.carried (handed_by was.done.calls.carried) keeps.chosen.map call.journal allowed keeps.journal.legal index
        entry there).1

    is_smooth : (index : ℕ) (entry : Entry) → CallAt call.journal index entry → (given : Answer) → entry.answer ≡ given
        → IsSmoothAnswer given
    is_smooth index entry there answer.Damaged is = keeps.journal.sound index entry there is
    is_smooth index entry there (answer.TooManyFailed listed) is =
        few listed (λ image holds. many_listed index listed entry there is image holds)
    is_smooth index entry there (answer.DeviceOut device) is =
        none_out device (subst (IsDeviceCause call.old.devices (IsDropCause call.old call.new out)) is
        (run.answers.fits index entry there).device)
    is_smooth index entry there (answer.NewDeviceFailed device) is =
        none_rose device (subst (IsDeviceCause call.old.devices (IsDropCause call.old call.new out)) is
        (run.answers.fits index entry there).device)
    is_smooth index entry there (answer.Paused device) is =
        none_out device (subst (IsDeviceCause call.old.devices (IsDropCause call.old call.new out)) is
        (run.answers.fits index entry there).device)
    is_smooth index entry there other is = tt

    -- Where the status is Done, nothing was exhausted.
    none_exhausted : call.status ≡ status.Done
        → (HasMet was.ran call.journal trouble.NoMemory → ⊥) × (HasMet was.ran call.journal trouble.Limit → ⊥)
    none_exhausted done = by was.line was.line_is was.told
      where
        by : (line : Status) → IsStatusOf was.ran call.journal line
            → EndsTelling call.sink call.sink_after call.journal line call.status
            → (HasMet was.ran call.journal trouble.NoMemory → ⊥) × (HasMet was.ran call.journal trouble.Limit → ⊥)
        by status.NoMemory is told =
            let clash : status.NoMemory ≡ status.Done = ⊎_elim (λ t. sym t.0 ∙ done) (λ t. sym t.0 ∙ done) told in cc
        by status.Limit is told =
            let clash : status.Limit ≡ status.Done = ⊎_elim (λ t. sym t.0 ∙ done) (λ t. sym t.0 ∙ done) told in cc
        by (status.TooManyFailed listed) is told = (is.1, is.2)
        by status.Done is told = (is.0, is.1)
        by line is told = absurd is

    widens : call.status ≡ status.Done → WidensWholly order call.journal
    widens done = record {
      copies = λ index entry there copies. each_done index entry there copies;
      attached = λ is index to group attach there own answered. copied_behind
          was.script (carried_with was.script was.done.calls.carried was.done.calls.run.opened
          (rw is at was.done.calls.carried_is)) was.read.clients was.read.actors was.done.calls.run.answers.calls
          (was.done.complete (λ stopped. none.0 (inl stopped)) (λ stopped. none.1 (inl stopped))) index attach there own
          (answers index attach there (answer.Attached to group) answered) each_done;
    }
      where
        none : (HasMet was.ran call.journal trouble.NoMemory → ⊥) × (HasMet was.ran call.journal trouble.Limit → ⊥)
        none = none_exhausted done

        each_done : (index : ℕ) (entry : Entry) → CallAt call.journal index entry → entry.kind ≡ kind.Copy
            → IsDone call.journal index entry.answer
        each_done = copy_done keeps.journal.legal (record {
          fits = λ index entry there. answers index entry there entry.answer refl;
          smooth = λ index entry there. is_smooth index entry there entry.answer refl;
        }) (record {
          memory = λ index entry there is. none.0 (inr (index, entry, there, is));
          limit = λ index reached entry there is. none.1 (inr (index, entry, there, (reached, is)));
        })

    completes : CompletesAll order call
    completes = record {
      status_is = by was.line was.line_is was.told;
      answers = λ index entry there. is_smooth index entry there entry.answer refl;
      widens = widens;
    }
      where
        by : (line : Status) → IsStatusOf was.ran call.journal line
            → EndsTelling call.sink call.sink_after call.journal line call.status
            → (call.status ≡ status.Done) ⊎ ((call.status ≡ status.NoMemory)
            ⊎ ((call.status ≡ status.Limit) × MeetsLimit call (command_in order)))
        by status.NoMemory is told = inr (inl (⊎_elim (λ t. t.0) (λ t. t.0) told))
        by status.Limit is told = inr (inr (⊎_elim (λ t. t.0) (λ t. t.0) told, limit_met is.1))
        by (status.TooManyFailed listed) is told = absurd (few out (many_out is.3))
        by status.Done is told = ⊎_elim (λ t. inl t.0) (λ t. absurd (smooth.sink t.1)) told
        by line is told = absurd is

  pub carried_run : IsRunEnd order call
  carried_run = record {
    cause = by_line (λ (s : Status). IsCause call (command_in order) s) (caused_line was.line was.line_is)
        (caused_fault was.line was.line_is);
    no_usage = by_line (λ (s : Status). s ≢ status.Usage)
        (whole_end was.ran call.journal was.line was.line_is).no_usage
        (λ rose. (part_end was.ran call.journal was.line was.line_is).0.no_usage);
    no_small = by_line (λ (s : Status). s ≢ status.TooSmall)
        (whole_end was.ran call.journal was.line was.line_is).no_small
        (λ rose. (part_end was.ran call.journal was.line was.line_is).0.no_small);
    limit = λ bytes read over. absurd (was.read.few bytes (record { told = read.1; well = read.2 }) over);
    fault = λ bytes line read at. absurd (was.read.right bytes line (record { told = read.1; well = read.2 }) at);
    no_pool = λ finds. absurd (no_pool finds);
    refused = λ none not. absurd (some_items none);
    opened = λ some. promises;
    unopened = λ none. absurd (some_items none);
    carried_out = λ carried. some_items;
    completes = completes;
  }
