-- What the turns of an attach come to that make no commit, among the other clients' calls: the reads of the new device,
-- and an attach that ends with them.
use Rattle.schedule.proofs.Words.{◌≡◌, arith, call_of_client, MakesCommit, ◌≢◌, inl, ℕ, ◌-◌, List, Some, None, refl}
use Rattle.schedule.proofs.Words.{sym, ◌∙◌, ap, subst, slice_get, Disk, Lawful, Unchanged, later_refl, Uber, ReadsSlot}
use Rattle.schedule.proofs.Words.{RingRead, one_more_read, IsOnInUse, read_touches, unchanged_none, Answer, Entry, Item}
use Rattle.schedule.proofs.Words.{Map, PutBytes, map_after_answer, map_of, World, ScriptCall, Script, calls_of}
use Rattle.schedule.proofs.Words.{FreeDevice, AttachRun, Reads, Checked, Signs, More, Done, AttachGoesOn, FindsFree}
use Rattle.schedule.proofs.Words.{HoldsAttach}
use Rattle.schedule.proofs.Words.{IsAttachRunOf, IsDeviceRefused, ReadsNext, StopsAttach, WaitsForCommit, attach_commit}
use Rattle.schedule.proofs.Words.{IsSyncRefused, Core, CoreState, HasBankOf, IsCore, at_disk, HasTooManyOut, Stands}
use Rattle.schedule.proofs.Words.{attaching_calls, attaching_stands, look_stands, attaching_commit, rests, since_read}
use Rattle.schedule.proofs.Words.{Client, UnderWay, TakesTurn, IsGroupKind, Past, IsRightNext, AreGoing, Runs}
use Rattle.schedule.proofs.Words.{calls_under_way, commit_in, held_under, setting_now, made_by, LeavesGoing, TurnState}
use Rattle.schedule.proofs.Words.{WorkGoesOn, entry_for, undamaged}
use Rattle.core_state.specs.declared.answer.Answer.TheVariants as answer
use Rattle.schedule.specs.declared.client.Work.TheVariants as work
use Rattle.schedule.proofs.attach.Uses.{refused_plain, sync_plain}
use Rattle.schedule.proofs.turn.Fitting.{attach_fits}
use Rattle.schedule.proofs.turn.Going.{attach_goes as going_goes, attach_stops as going_stops}
use Rattle.schedule.proofs.turn.LeavesPool.{same_keeps}
use Rattle.schedule.proofs.turn.Recording.{recorded_goes}
use Rattle.schedule.proofs.attach.Refused.{IsRefusal, device_cause, device_caused, device_refusal, device_tells}
use Rattle.schedule.proofs.attach.Refused.{refusal_answers, refusal_map, refusal_right, sync_cause}
use Rattle.schedule.proofs.turn.Ends.{answers_call as runs_answer}
use Rattle.schedule.proofs.turn.GoesOn.{beside, goes_on as runs_goes_on, still_known}
use Rattle.schedule.proofs.sync.Syncs.{refused_answers as sync_answers, refused_map as sync_map}
use Rattle.schedule.proofs.sync.Syncs.{refused_right as sync_refused_right, refused_tells as sync_tells}
use Rattle.schedule.proofs.turn.Theirs.{none_there, same_attach, work_no_commit}
use Rattle.schedule.proofs.turn.UsingEnds.{EndsPlainly}
use Rattle.schedule.proofs.turn.UsingWorks.{plain_listed}
use Rattle.schedule.proofs.turn.Comes.{Dropped, FitsNow, GoesFrom, ItComes, OfRuns, attach_calls, attach_on}
use Rattle.schedule.proofs.turn.Comes.{comes_further, comes_last, idle_now, its_asked, its_attach, its_known}
use Rattle.schedule.proofs.turn.Comes.{last_entry}

-- A device was read: all stands that stood.
abbrev pub looked : {world : World} {script : Script} {past : Past} {before : CoreState} {items : List Item}
    {clients : List Client} (after : Disk) → AreGoing script before.core clients → IsCore before.core → Lawful after
    → Unchanged before.disk after → Runs world script past before items clients
    → Runs world script past (at_disk before.core after) items clients
looked {before = before} after going is lawful unchanged runs = record {
  last = runs.last;
  begun = runs.begun;
  contents = runs.contents;
  commit = runs.commit;
  item = runs.item;
  reach = runs.reach;
  recorded = recorded_goes runs.recorded unchanged.goes_on.later
      (λ groups time row. since_read (setting_now runs) groups time before.disk after unchanged);
  stands = look_stands before (at_disk before.core after) is refl unchanged lawful runs.stands;
  theirs = runs.theirs;
  each = runs.each;
  attaches = beside after runs going (read_touches (IsOnInUse before.core.reach before.core.pool.out) unchanged);
}

-- One that makes no commit made no group.
made_none : (run : AttachRun) → attach_commit run ≡ None → made_by (work.Attach run) ≡ None
made_none (Signs commit because) none = cc
made_none other none = refl

module _ {script : Script} {actor : ℕ} {before after : TurnState} {clients news : List Client} {call : ScriptCall}
    {under : UnderWay} {run : AttachRun}
    (from : GoesFrom script actor before after clients news call under (work.Attach run))
    (goes : WorkGoesOn (work.Attach run) before.state after.state) (none : attach_commit run ≡ None) where
  open from use {takes, does_is, under_is, is}
  open before.state use {core as old}
  open after.state use {core as now}

  no_commit : MakesCommit under.work → ⊥
  no_commit = none_there (ap commit_in does_is ∙ none)

  -- It goes on, and makes no commit yet.
  pub attach_looks : (next : AttachRun) → now ≡ old → Unchanged before.state.disk after.state.disk
      → attach_commit next ≡ None → IsAttachRunOf now next
      → ((world : World) (past : Past) (runs : Runs world script past
      (at_disk old after.state.disk) before.items clients)
      → HoldsAttach (setting_now runs) runs.last runs.begun after.state.disk next)
      → LeavesGoing actor call before after under (More (work.Attach next)) → ItComes takes
  attach_looks next core unchanged next_early of holds further = comes_further from (work.Attach next)
      (attach_on from goes) further refl
      (going_goes takes.was takes.changes takes.schedule.going (rw (core, same) takes.schedule.going.are)
      (same_keeps old core) (work_no_commit under_is no_commit) next (ap (λ (c : Client). c.under_way) client_is) refl
      attaching (record {
        hold = tt;
        call = call;
        there = cc;
        asked = its_asked from;
        commit = λ commit its. cc;
        attach = λ its its_is. (rw (← same_attach its_is) of, attaching);
      }))
      (λ world past handed within listed was.
      let runs = looked after.state.disk takes.schedule.going takes.is takes.still_lawful unchanged was in
      runs_goes_on takes runs under (λ its its_is. rw (← same_attach its_is) (holds world past runs))
      (search still_known) (later_refl after.state.disk) (λ groups time row kept. kept) under_is client_is
      (work_no_commit under_is no_commit) (λ makes. none_there next_early makes) (λ asked asked_is. tt)
      (subst (λ (s : CoreState). Stands (setting_now runs) runs.last runs.begun
      (map_of world.handed world.opening before.items) undamaged runs.contents (calls_under_way news) runs.commit s)
      (λ i. at_disk (sym core i) after.state.disk) (rw same runs.stands)))
    where
      client_is : after.client
          ≡ record { begun = before.client.begun; under_way = Some (record { at = under.at; work = work.Attach next }) }
      client_is = cc

      attaching : now.attaching ≡ Some actor
      attaching = ap (λ (c : Core). c.attaching) core ∙ (its_attach from).1

      same : calls_under_way news ≡ calls_under_way clients
      same = attach_calls from (ap call_of_client client_is)

  -- It ends, and no device is attached.
  pub attach_stops : (given : Answer) → FitsNow takes call.kind given → given ≢ answer.Full
      → ((handed : PutBytes) (map : Map) (entry : Entry) → map_after_answer handed map entry given ≡ map)
      → OfRuns takes (λ world past runs. IsRightNext world before.items
      (entry_for call actor before.client.begun under.at given) after.state.disk)
      → StopsAttach before.state after.state → EndsPlainly given None
      → LeavesGoing actor call before after under (Done given) → ItComes takes
  attach_stops given fits no_full no_block right stops plain leaves = comes_last from given leaves (attach_on from goes)
      (leaves.0 ∙ plain_listed now before.items under.at entry
      (rw (← ap made_by does_is ∙ made_none run none) at plain)) fits no_full
      (going_stops takes.was takes.changes takes.schedule.going (rw (same, stops.core)
      (attaching_calls old None (calls_under_way clients) takes.schedule.going.are)) (its_attach from).1 (cc) (cc)
      (λ commit of. rw stops.core (attaching_commit old None of))
      (λ many. subst HasTooManyOut (sym stops.core) many) (work_no_commit under_is no_commit) idle)
      (λ world past handed within with was.
      let runs = looked after.state.disk takes.schedule.going takes.is takes.still_lawful stops.unchanged was in
      let map : Map = map_of world.handed world.opening before.items in
      runs_answer takes runs runs.commit runs.recorded refl idle refl (right world past was) fits.of_kind with
      runs.theirs (work_no_commit under_is no_commit)
      (rw (no_block world.handed map entry)
      (subst (λ (s : CoreState). Stands (setting_now runs) runs.last runs.begun map undamaged runs.contents (calls_under_way news)
      runs.commit s)
      (λ i. at_disk (sym stops.core i) after.state.disk)
      (rw same (attaching_stands old None after.state.disk takes.is runs.stands)))))
    where
      entry : Entry
      entry = last_entry from given leaves

      idle : after.client.under_way ≡ None
      idle = idle_now from given leaves

      same : calls_under_way news ≡ calls_under_way clients
      same = attach_calls from (ap held_under idle)

-- ---- turn by turn

-- A slot was read of what the device shows still.
reads_still : {before after : Disk} (ring : RingRead) {next : RingRead} → Unchanged before after
    → ReadsSlot before ring next → ReadsSlot after ring next
reads_still ring unchanged reads = grind arith

module _ {script : Script} {actor : ℕ} {before after : TurnState} {clients news : List Client} {call : ScriptCall}
    (takes : TakesTurn script actor before after clients news) {under : UnderWay}
    (under_is : before.client.under_way ≡ Some under)
    (is : slice_get (calls_of script actor) (before.client.begun - 1) ≡ Some call)
    (goes : (AttachGoesOn before.state after.state)
    × (HasBankOf before.state.core before.state.disk → HasBankOf after.state.core after.state.disk)) where
  abbrev from : {run : AttachRun} → under.work ≡ work.Attach run
      → GoesFrom script actor before after clients news call under (work.Attach run)
  from does_is = record { takes = takes; does_is = does_is; under_is = under_is; is = is }

  -- One more slot of the ring is read,
  pub reads_next : (ring next : RingRead) → under.work ≡ work.Attach (Reads ring)
      → ReadsNext before.state ring after.state next → IsAttachRunOf after.state.core (Reads next)
      → LeavesGoing actor call before after under (More (work.Attach (Reads next))) → ItComes takes
  reads_next ring next does_is did of leaves = attach_looks (from does_is) goes refl (Reads next) did.core did.unchanged refl
      of (λ world past runs. one_more_read after.state.disk ring next (reads_still ring did.unchanged did.reads)
      (its_known (from does_is) runs)) leaves

  -- it is found free,
  pub finds_free : (ring : RingRead) (found : FreeDevice) → under.work ≡ work.Attach (Reads ring)
      → FindsFree before.state ring after.state found → IsAttachRunOf after.state.core (Checked found)
      → LeavesGoing actor call before after under (More (work.Attach (Checked found))) → ItComes takes
  finds_free ring found does_is did of leaves = attach_looks (from does_is) goes refl (Checked found) did.core
      did.unchanged refl of (λ world past runs. rw did.same (its_known (from does_is) runs)) leaves

  -- or the attach waits for another's commit.
  pub waits_on : (found next : FreeDevice) → under.work ≡ work.Attach (Checked found)
      → WaitsForCommit before.state found after.state next → IsAttachRunOf after.state.core (Checked next)
      → LeavesGoing actor call before after under (More (work.Attach (Checked next))) → ItComes takes
  waits_on found next does_is did of leaves = attach_looks (from does_is) goes refl (Checked next) (cc)
      (rw (ap (λ (s : CoreState). s.disk) did.state) (unchanged_none before.state.disk)) refl of
      (λ world past runs. rw did.same (its_known (from does_is) runs)) leaves

  -- It ends without a device: that one is not to be had,
  pub device_refused : (ring : RingRead) (given : Answer) → under.work ≡ work.Attach (Reads ring)
      → StopsAttach before.state after.state → IsDeviceRefused before.state ring after.state given
      → LeavesGoing actor call before after under (Done given) → ItComes takes
  device_refused ring given does_is stops refused leaves =
      let asked = (its_asked (from does_is)).0 in
      attach_stops (from does_is) goes refl given
      (attach_fits asked (refusal_answers given refusal) (device_tells before.state ring after.state given refused)
      (λ reached told. absurd (subst IsRefusal told refusal)) (device_cause before.state.disk.devices (Dropped takes)
      before.state ring after.state given refused (λ device rose. inl rose)))
      (λ full. subst IsRefusal full refusal) (λ handed map entry. refusal_map handed map entry given refusal)
      (λ world past runs. refusal_right asked refusal
      (device_caused before.state ring after.state given runs.recorded.latest (its_attach (from does_is)).0.behind
      (ap (λ (u : Uber). u.reflow.to) runs.stands.alike ∙ runs.recorded.item_is.widths.1) (its_known (from does_is)
      (looked after.state.disk takes.schedule.going takes.is takes.still_lawful stops.unchanged runs)) refused))
      stops (search refused_plain) leaves
    where
      refusal : IsRefusal given
      refusal = search device_refusal

  -- or its commit is not begun, as that of a sync.
  pub commit_refused : (found : FreeDevice) (given : Answer) → under.work ≡ work.Attach (Checked found)
      → StopsAttach before.state after.state → IsSyncRefused before.state.core given
      → LeavesGoing actor call before after under (Done given) → ItComes takes
  commit_refused found given does_is stops refused leaves =
      let asked = (its_asked (from does_is)).0 in
      attach_stops (from does_is) goes refl given
      (attach_fits asked (search sync_answers) (sync_tells before.state.core given refused)
      (λ reached told. (rw told at refused).2) (search sync_cause)) (λ full. rw full at refused)
      (λ handed map entry. sync_map handed entry before.state.core given refused)
      (λ world past runs. sync_refused_right world before.state.core given (subst IsGroupKind (sym asked) tt) refl
      runs.recorded.latest (λ none. rests before.state.core takes.is none
      ∙ ap (λ (u : Uber). u.group) runs.stands.alike ∙ runs.recorded.item_is.number) refused)
      stops (search sync_plain) leaves
