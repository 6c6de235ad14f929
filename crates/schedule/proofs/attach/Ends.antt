-- What the last turn of an attach comes to that answers its group, among the other clients' calls.
use Rattle.schedule.proofs.Words.{◌≡◌, held_under, inl, inr, ℕ, ◌+◌, ◌-◌, List, [], ◌∷◌, ◌++◌, length, Option, Some}
use Rattle.schedule.proofs.Words.{None, refl, sym, ◌∙◌, ap, subst, arith, append_assoc, slice_get, IsWithin, Uber}
use Rattle.schedule.proofs.Words.{CommitRun, Answer, Entry, Item, Group, IsAttachOf, IsWidthStep, Kept, Map, map_of}
use Rattle.schedule.proofs.Words.{AwaitsAttach, item_of, World, last_there, width_step_where, WhyDropped, ScriptCall}
use Rattle.schedule.proofs.Words.{Script, calls_of, Signs, Done, EndsAttach, IsAttachRunOf, IsMadeAt, attach_answer}
use Rattle.schedule.proofs.Words.{IsCore, Stands, attach_ends_stands, attaching_calls, commit_ends_calls, few_out}
use Rattle.schedule.proofs.Words.{Client, UnderWay, TakesTurn, Past, IsBegunAt, IsRightNext, Runs, calls_under_way}
use Rattle.schedule.proofs.Words.{setting_now, LeavesGoing, TurnState, WorkGoesOn, group_for, IsListedWith, undamaged}
use Rattle.core_state.specs.declared.answer.Answer.TheVariants as answer
use Rattle.core_state.specs.declared.answer.Kind.TheVariants as kind
use Rattle.core_state.specs.declared.item.Group.{Group as GroupItem}
use Rattle.core_state.specs.declared.item.Item.TheVariants.{Call as CallItem}
use Rattle.schedule.specs.declared.client.Work.TheVariants as work
use Rattle.schedule.proofs.turn.Answered.{answers_group}
use Rattle.schedule.proofs.attach.Answered.{IsAttachEnd, attach_ended, end_answers, end_cause, end_map, end_told}
use Rattle.schedule.proofs.attach.Commits.{its_group}
use Rattle.schedule.proofs.attach.Uses.{answered_by}
use Rattle.schedule.proofs.turn.Fitting.{attach_fits, fit_both}
use Rattle.schedule.proofs.put.Full.{full_synced}
use Rattle.schedule.proofs.turn.Going.{attach_ends as going_ends}
use Rattle.schedule.proofs.attach.Refused.{refusal_right}
use Rattle.schedule.proofs.turn.RightNext.{attached_right}
use Rattle.schedule.proofs.turn.Running.{head_is}
use Rattle.schedule.proofs.turn.Ends.{commit_ends}
use Rattle.schedule.proofs.turn.Comes.{Dropped, GoesFrom, ItComes, alone, attach_calls, attach_on, comes, idle_now}
use Rattle.schedule.proofs.turn.Comes.{its_answered, its_asked, its_attach, its_going, its_stands, last_entry, only}
use Rattle.schedule.proofs.turn.Comes.{turns_left, turns_was, whole_recorded}
use Rattle.schedule.proofs.turn.UsingWorks.{group_listed}

-- A group of the width before it has its widths, or ends an expansion, and needs no attach for that.
same_widths : {attached told : Type 0} (before next : GroupItem) → next.to ≡ before.to
    → IsWidthStep attached before next → IsWidthStep told before next
same_widths before next same (inl kept) = inl kept
same_widths before next same (inr (inl ended)) = inr (inl ended)
same_widths before next same (inr (inr began)) = absurd (omega (arith, same, began.1, began.3))

module _ {script : Script} {actor : ℕ} {before after : TurnState} {clients news : List Client} {call : ScriptCall}
    (takes : TakesTurn script actor before after clients news) {under : UnderWay} {run : CommitRun}
    {because : Option WhyDropped} (does_is : under.work ≡ work.Attach (Signs run because))
    (under_is : before.client.under_way ≡ Some under)
    (is : slice_get (calls_of script actor) (before.client.begun - 1) ≡ Some call)
    (goes : WorkGoesOn (work.Attach (Signs run because)) before.state after.state) (still : IsCore after.state.core)
    {given : Answer} (ends : EndsAttach before.state run because after.state given)
    (leaves : LeavesGoing actor call before after under (Done given)) where
  open before.state use {core as old}
  open after.state use {core as now}

  abbrev from : GoesFrom script actor before after clients news call under (work.Attach (Signs run because))
  from = record { takes = takes; does_is = does_is; under_is = under_is; is = is }

  -- the attach is the core's,
  of : IsAttachRunOf old (Signs run because)
  of = (its_attach from).0

  -- and what the script asks for.
  asked : (call.kind ≡ kind.Attach) × (call.id ≡ None)
  asked = its_asked from

  ended : IsAttachEnd given
  ended = search (attach_ended, arith)

  abbrev entry : Entry
  entry = last_entry from given leaves

  abbrev group : GroupItem
  group = group_for now under.at old.begun

  abbrev with_group : List Item
  with_group = before.items ++ Group group ∷ []

  abbrev with_both : List Item
  with_both = with_group ++ CallItem entry ∷ []

  -- Its group is listed before it.
  listed : after.items ≡ with_both
  listed = search (group_listed, answered_by, arith)

  idle : after.client.under_way ≡ None
  idle = idle_now from given leaves

  same : calls_under_way news ≡ calls_under_way clients
  same = attach_calls from (ap held_under idle)

  -- ---- the journal with both

  module _ {world : World} {past : Past} (within : IsWithin old.pool.out world.setting.failed)
      (runs : Runs world script past before.state before.items clients) where
    abbrev map : Map
    map = map_of world.handed world.opening before.items

    stands : Stands (setting_now runs) runs.last runs.begun map undamaged runs.contents (calls_under_way clients) (Some run)
        before.state
    stands = its_stands from refl runs

    abbrev next : Kept
    next = stands.groups.next

    stood : Stands (setting_now runs) next [] map undamaged runs.contents (calls_under_way clients) None after.state
    stood = attach_ends_stands takes.is still of.0.of ends takes.schedule.going.are within
        (rw stands.groups.begun_is at stands)

    number_is : old.begun ≡ next.uber.group
    number_is = sym stands.groups.of.number ∙ ap (λ (u : Uber). u.group) stands.groups.come.alike

    -- The widths of the group are those that its commit recorded,
    reflow_is : now.pool.uber.reflow ≡ next.uber.reflow
    reflow_is = ap (λ (u : Uber). u.reflow) stood.alike

    made_is : now.pool.uber.reflow ≡ run.uber.reflow
    made_is = search (reflow_is, arith)

    -- and those of the last one listed the pool's.
    last_from : old.pool.uber.reflow.from ≡ runs.item.from
    last_from = search arith

    last_to : old.pool.uber.reflow.to ≡ runs.item.to
    last_to = search arith

    abbrev Awaited : Type 0
    Awaited = AwaitsAttach world.calls before.items under.at

    -- The group was begun where an attach was to be answered.
    begun_is : IsBegunAt world before.items runs.item under.at Awaited next
    begun_is =
        let begun = its_group from refl runs in
        rw (← head_is (sym begun.1 ∙ stands.groups.begun_is)) begun.2

    -- Where the answer tells of a wider pool it names the group, and else the group has the widths before it.
    closes : (why : Option WhyDropped) → IsMadeAt old.pool.uber.reflow why run.uber.reflow
        → given ≡ attach_answer why now.pool.uber.reflow.to old.begun
        → (IsWidthStep Awaited runs.item (item_of next under.at)
        → IsWidthStep (IsAttachOf with_both (runs.item.from + 1) group.group) runs.item (item_of next under.at))
        × IsRightNext world with_group entry after.state.disk
    closes None made given_is = let its = runs.each actor before.client under (its_going from) in (
      width_step_where runs.item (item_of next under.at) (λ awaits. (
        length with_group,
        entry,
        last_there with_group (CallItem entry),
        search arith,
      )),
      attached_right world before.items group entry after.state.disk asked.0
          (given_is ∙ ap (λ (width : ℕ). answer.Attached width old.begun) wider.1) its.at.0 its.after
          runs.recorded.latest (refl, sym last_to ∙ made.rest ∙ last_from)
          (ap (λ (n : ℕ). n + 1) (wider.0 ∙ last_from), wider.1),
    )
      where
        wider : (now.pool.uber.reflow.from ≡ old.pool.uber.reflow.from) × (now.pool.uber.reflow.to ≡ runs.item.from + 1)
        wider = search (made_is, last_from)
    closes (Some cause) made given_is =
        let told = end_told with_group (length with_group) after.state.disk cause now.pool.uber.reflow.to old.begun in (
          search (same_widths, reflow_is, made_is, last_to, arith),
          refusal_right asked.0 (rw given_is told.0) (rw given_is told.1),
        )

    ends_with : IsListedWith past.banks before.items with_both after.state.disk
        → Runs world script past after.state with_both news
    ends_with with =
        let closed = closes because of.1 ends.given_is in
        commit_ends takes runs under (
          next,
          stands.groups.begun_is,
          record {
            number = begun_is.number;
            listed = begun_is.listed;
            map = begun_is.map;
            excepted = begun_is.excepted;
            widths = closed.0 begun_is.widths;
          },
        ) (whole_recorded from refl runs (its_group from refl runs) (λ awaits. awaits)) stands.groups.begun_is
        (only from refl) (search arith) (search (number_is, reflow_is)) (rw same stood) refl idle
        (λ told. told) closed.1 (rw asked.0 (end_answers given ended)) (end_map world.handed entry given ended) with

  -- ---- what it comes to

  pub attach_ends : ItComes takes
  attach_ends = comes takes (Group group ∷ CallItem entry ∷ []) (search append_assoc) (attach_on from goes) listed
      (fit_both (turns_was takes) (turns_left takes) entry
      (attach_fits asked.0 (end_answers given ended) (search (ended, arith)) (search (ended, arith))
      (rw ends.given_is (end_cause before.state.disk.devices (Dropped takes) because now.pool.uber.reflow.to old.begun
      (search (its_going, arith))))) goes.0.out.still group listed) (search (ends_with, few_out, arith))
      (full_synced script (turns_was takes) (turns_left takes) group entry listed
      (λ full. subst IsAttachEnd full ended))
      (going_ends takes.was takes.changes takes.schedule.going (rw (same, ends.core)
      (attaching_calls ends.answered.core None (calls_under_way clients)
      (commit_ends_calls takes.is of.0.of ends.answers (calls_under_way clients) takes.schedule.going.are)))
      (alone from) (cc) idle (only from refl)
      (λ its is_committing. cc)) (its_answered from given leaves (answers_group group takes.schedule.answered))
