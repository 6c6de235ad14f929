-- What a commit of a sync or of a copy comes to that goes on or ends, among the other clients' calls.
use Rattle.schedule.proofs.Words.{◌≡◌, inr, IsWithin, HasTooManyOut, held_by, group_with, ℕ, ◌-◌, List, [], ◌∷◌, length}
use Rattle.schedule.proofs.Words.{Some, None, refl, sym, ◌∙◌, ap, subst, arith, append_assoc, slice_get, false≢true}
use Rattle.schedule.proofs.Words.{Uber, Answer, Kind, Entry, Group, Map, map_of, Kept, Point, World, CommitRun}
use Rattle.schedule.proofs.Words.{ScriptCall, Script, calls_of, Rests, More, Done, Core, CoreState, IsCommitOf}
use Rattle.schedule.proofs.Words.{StepsCommit, AnswersGroup, Stands, TurnGoesOn, AreCallsOf, attach_at_answer, few_out}
use Rattle.schedule.proofs.Words.{commit_ends_calls, commit_ends_stands, commit_steps_calls, commit_steps_stands}
use Rattle.schedule.proofs.Words.{commit_steps_since, Client, UnderWay, Work, Recorded, HasBegun, IsWorkOf, AreGoing}
use Rattle.schedule.proofs.Words.{Runs, call_of_client, calls_under_way, commit_in, held_under, setting_now, begun_at}
use Rattle.schedule.proofs.Words.{TurnState, LeavesGoing, group_for, TakesTurn, Past, undamaged}
use Rattle.core_state.specs.declared.answer.Answer.TheVariants as answer
use Rattle.core_state.specs.declared.answer.Kind.TheVariants as kind
use Rattle.core_state.specs.declared.item.Group.{Group as GroupItem}
use Rattle.core_state.specs.declared.item.Item.TheVariants.{Call as CallItem}
use Rattle.core_turns.proofs.sync.Stands.{commit_is_cut as cut_stands}
use Rattle.schedule.specs.declared.client.Work.TheVariants as work
use Rattle.schedule.proofs.run.Coming.{goes_for}
use Rattle.schedule.proofs.turn.RightNext.{group_cut_right, sync_right, same_out}
use Rattle.schedule.proofs.sync.Works.{MakesGroups}
use Rattle.schedule.proofs.turn.Theirs.{IsNoAttach, OnlyIt, none_some, calls_stay, no_one, other_no_attach, some_is}
use Rattle.schedule.proofs.turn.Theirs.{the_one}
use Rattle.schedule.proofs.turn.Answered.{answers_group, answers_same}
use Rattle.schedule.proofs.turn.Fitting.{IsPlainKind, fit_both, fit_group, fits, group_fits}
use Rattle.schedule.proofs.put.Full.{full_made, full_synced}
use Rattle.schedule.proofs.turn.Going.{KeepsAttach, commits_on, commit_ends, keeps_attach}
use Rattle.schedule.proofs.turn.GoesOn.{beside_known, commit_runs}
use Rattle.schedule.proofs.turn.Ends.{commit_ends as runs_ends, commit_is_cut, commit_makes}
use Rattle.schedule.proofs.turn.Recording.{recorded_goes}
use Rattle.schedule.proofs.sync.Syncs.{halves_go}
use Rattle.schedule.proofs.turn.Comes.{GoesFrom, ItComes, comes, comes_further, comes_last, halves_recorded, idle_now}
use Rattle.schedule.proofs.turn.Comes.{its_answered, its_asked, its_commit, its_going, its_stands, last_entry, only}
use Rattle.schedule.proofs.turn.Comes.{turns_left, turns_was, whole_recorded}

module _ {script : Script} {actor : ℕ} {before after : TurnState} {clients news : List Client} {asked : Kind}
    {does : CommitRun → Work} (makes : MakesGroups asked does) {call : ScriptCall}
    (takes : TakesTurn script actor before after clients news) {under : UnderWay} {run : CommitRun}
    (does_is : under.work ≡ does run) (under_is : before.client.under_way ≡ Some under)
    (is : slice_get (calls_of script actor) (before.client.begun - 1) ≡ Some call)
    (goes : TurnGoesOn before.state after.state) where
  open before.state use {core as old}
  open after.state use {core as now}

  abbrev from : GoesFrom script actor before after clients news call under (does run)
  from = record { takes = takes; does_is = does_is; under_is = under_is; is = is }

  -- The commit is the core's,
  of_core : IsCommitOf old run × (old.committing ≡ Some actor)
  of_core = its_commit from (makes.commit run)

  -- and what the script asks for.
  for_call : (call.kind ≡ asked) × (call.id ≡ None)
  for_call = makes.is call run (its_asked from)

  only_it : OnlyIt clients actor
  only_it = only from (makes.commit run)

  -- The calls that hold sectors are the same.
  same_calls : call_of_client after.client ≡ [] → calls_under_way news ≡ calls_under_way clients
  same_calls = calls_stay takes.was takes.changes (ap held_under under_is ∙ ap held_by does_is ∙ makes.holds run)

  -- The group begun is the call's.
  its_group : {world : World} {past : Past} (runs : Runs world script past before.state before.items clients)
      → HasBegun world before.items runs.item runs.begun under.at ⊥
  its_group {world = world} runs = makes.begun world before.items runs.item runs.begun under.at run
      (rw does_is at (runs.each actor before.client under (its_going from)).group)

  was_no_attach : IsNoAttach before.client.under_way
  was_no_attach = other_no_attach under_is does_is (makes.no_attach run)

  -- It goes on.
  pub commit_goes_further : (next : CommitRun) → StepsCommit before.state run after.state (More next)
      → LeavesGoing actor call before after under (More (does next)) → ItComes takes
  commit_goes_further next steps further = comes_further from (does next)
      (goes_for goes) further (makes.made next) (commits_on takes.was takes.changes takes.schedule.going
      (search (same_calls, none, commit_steps_calls)) next call (search (keeps_attach, arith))
      only_it was_no_attach (makes.no_attach next)
      (ap (λ (c : Client). c.under_way) client_is) (makes.commit next) (makes.its actor next)
      (cc) (makes.for call next for_call) steps.3 (ap (λ (c : Core). c.committing) steps.2 ∙ of_core.1))
      (λ world past handed within listed runs.
      let stands = its_stands from (makes.commit run) runs in
      let borne = within (few_out old steps.0) in
      commit_runs takes runs runs.reach next
      (recorded_goes (halves_recorded from (makes.commit run) runs (its_group runs) (λ attached. absurd attached)
      next.stage (halves_go steps.1)) goes.later (commit_steps_since takes.is steps borne stands))
      (makes.commit next) client_is (inr (under, under_is, refl))
      (makes.begins world before.items runs.item runs.begun under.at next (its_group runs))
      (λ asked. makes.content world before.items asked under.at (runs.contents actor) next)
      (λ attach attaches. absurd (makes.no_attach next attach attaches)) (search beside_known)
      (rw (same_calls none) (commit_steps_stands takes.is steps borne stands)))
    where
      -- The group of its commit was begun when it was told before.
      at_is : begun_at (commit_in (does next)) (commit_in under.work) under.at (length before.items) ≡ under.at
      at_is = search arith

      client_is : after.client
          ≡ record { begun = before.client.begun; under_way = Some (record { at = under.at; work = does next }) }
      client_is = search at_is

      none : call_of_client after.client ≡ []
      none = ap call_of_client client_is ∙ makes.holds next

  -- Its group is answered: what the core and the journal say of that.
  module _ {number : ℕ} (answers : AnswersGroup before.state run after.state number) where
    abbrev group : GroupItem
    group = group_for now under.at number

    disk_is : after.state.disk ≡ before.state.disk
    disk_is = ap (λ (p : Point). p.disk) answers.ends.same

    keeps : KeepsAttach old now
    keeps = record {
      attaching = ap (λ (c : Core). c.attaching) answers.answers.rest;
      early = λ its before_it.
          attach_at_answer before.state after.state run number its before_it takes.is of_core.0 answers;
    }

    none_now : {by : ℕ} → now.committing ≡ Some by → HasTooManyOut now
    none_now its = grind (arith, none_some)

    ended_are : call_of_client after.client ≡ [] → AreCallsOf now (calls_under_way news)
    ended_are none = rw (same_calls none)
        (commit_ends_calls takes.is of_core.0 answers (calls_under_way clients) takes.schedule.going.are)

    module _ {world : World} {past : Past} (runs : Runs world script past before.state before.items clients)
        (within : IsWithin old.pool.out world.setting.failed) where
      abbrev map : Map
      map = map_of world.handed world.opening before.items

      stands : Stands (setting_now runs) runs.last runs.begun map undamaged runs.contents (calls_under_way clients) (Some run)
          before.state
      stands = its_stands from (makes.commit run) runs

      abbrev next : Kept
      next = stands.groups.next

      stood : Stands (setting_now runs) next [] map undamaged runs.contents (calls_under_way clients) None after.state
      stood = commit_ends_stands takes.is of_core.0 answers takes.schedule.going.are within
          (rw stands.groups.begun_is at stands)

      group_is : group ≡ record {
        group = next.uber.group;
        after = under.at;
        from = next.uber.reflow.from;
        to = next.uber.reflow.to;
      }
      group_is =
          let number_is = answers.group_is ∙ sym stands.groups.of.number
          ∙ ap (λ (u : Uber). u.group) stands.groups.come.alike in
          let reflow_is = ap (λ (u : Uber). u.reflow) stood.alike in
          λ i. group_with (reflow_is i) under.at (number_is i)

      whole : Recorded world past before.items runs.item runs.last runs.begun before.state.disk
      whole = whole_recorded from (makes.commit run) runs (its_group runs) (λ attached. absurd attached)

  -- A copy goes on behind its group, which is listed alone.
  pub group_made : asked ≡ kind.Copy → (whose number : ℕ) → old.committing ≡ Some whose
      → AnswersGroup before.state run after.state number
      → LeavesGoing actor call before after under (More (work.Copy (Rests whose (Some number)))) → ItComes takes
  group_made copy whose number committing answers further = comes takes (Group (group answers) ∷ []) refl
      (goes_for goes) further.0 (fit_group (turns_was takes) (turns_left takes) (group answers) further.0)
      (λ world past handed within listed runs.
      let failed = within (few_out old answers.few) in
      commit_makes takes runs under (its_group runs) (whole answers runs failed)
      (stands answers runs failed).groups.begun_is only_it (disk_is answers) (group_is answers runs failed)
      (rw (same_calls none) (stood answers runs failed)) (λ attached. attached) further.1 under_is false≢true
      (λ run same. cc) (λ asked_call asked_is. tt) listed)
      (full_made script (turns_was takes) (turns_left takes) (group answers) further.0)
      (commit_ends takes.was takes.changes takes.schedule.going (ended_are answers none) (keeps answers) only_it
      was_no_attach (the_one (λ its. IsWorkOf script now actor after.client its.work)
      (ap (λ (c : Client). c.under_way) further.1) (record {
        hold = some_is (sym committing ∙ of_core.1);
        call = call;
        there = cc;
        asked = (for_call.0 ∙ copy, for_call.1);
        commit = λ other its. cc;
        attach = λ other its. cc;
      })) (λ by. none_now answers)) (answers_same takes.changes takes.was (search (begun_is, arith))
      (λ its_under its_is. omega (
        arith,
        takes.schedule.answered.some actor before.client under takes.was under_is,
        begun_is,
      )) (answers_group (group answers) takes.schedule.answered) (cc))
    where
      none : call_of_client after.client ≡ []
      none = ap call_of_client further.1

      begun_is : after.client.begun ≡ before.client.begun
      begun_is = ap (λ (c : Client). c.begun) further.1

  -- Its group is answered, and listed before the entry of its call.
  synced : asked ≡ kind.Sync → (number : ℕ) → AnswersGroup before.state run after.state number
      → LeavesGoing actor call before after under (Done (answer.Synced number)) → ItComes takes
  synced sync number answers leaves = comes takes (Group (group answers) ∷ CallItem entry ∷ [])
      (append_assoc before.items (Group (group answers) ∷ []) (CallItem entry ∷ [])) (goes_for goes) leaves.0
      (fit_both (turns_was takes) (turns_left takes) entry (fits (for_call.0 ∙ sync) (λ listed told. cc)
      (λ reached told. cc) (subst IsPlainKind (sym (for_call.0 ∙ sync)) tt)) goes.out.still (group answers) leaves.0)
      (λ world past handed within listed runs.
      let failed = within (few_out old answers.few) in
      let mine = runs.each actor before.client under (its_going from) in
      runs_ends takes runs under (its_group runs) (whole answers runs failed)
      (stands answers runs failed).groups.begun_is only_it (disk_is answers) (group_is answers runs failed)
      (rw (same_calls none) (stood answers runs failed)) refl (idle_now from (answer.Synced number) leaves)
      (λ attached. absurd attached)
      (sync_right world before.items (group answers) entry after.state.disk (for_call.0 ∙ sync) refl mine.at.0
      mine.after) (for_call.0 ∙ sync) refl listed)
      (full_synced script (turns_was takes) (turns_left takes) (group answers) entry leaves.0 (λ full. cc))
      (commit_ends takes.was takes.changes takes.schedule.going (ended_are answers none) (keeps answers) only_it
      was_no_attach (no_one (λ its. IsWorkOf script now actor after.client its.work)
      (idle_now from (answer.Synced number) leaves)) (λ by. none_now answers))
      (its_answered from (answer.Synced number) leaves (answers_group (group answers) takes.schedule.answered))
    where
      entry : Entry
      entry = last_entry from (answer.Synced number) leaves

      none : call_of_client after.client ≡ []
      none = ap held_under (idle_now from (answer.Synced number) leaves)

  -- It is cut short.
  pub cut : (out : ℕ) → StepsCommit before.state run after.state (Done (answer.TooManyFailed out))
      → LeavesGoing actor call before after under (Done (answer.TooManyFailed out)) → ItComes takes
  cut out steps leaves = comes_last from given leaves (goes_for goes) leaves.0
      (group_fits old call.kind given (rw for_call.0 makes.kind) tt (λ listed told. (steps.0, same_out (cc)))
      (λ reached told. cc) tt) (λ full. cc) (subst (λ (s : CoreState). AreGoing script s.core news) (sym steps.2)
      (commit_ends takes.was takes.changes takes.schedule.going (rw same takes.schedule.going.are)
      (keeps_attach refl refl refl) only_it was_no_attach
      (no_one (λ its. IsWorkOf script old actor after.client its.work) (idle_now from given leaves))
      (λ its is. steps.0)))
      (λ world past handed within listed runs.
      let map : Map = map_of world.handed world.opening before.items in
      let stood = cut_stands steps.0 (its_stands from (makes.commit run) runs) in
      commit_is_cut takes runs None
      (whole_recorded from (makes.commit run) runs (its_group runs) (λ attached. absurd attached)) refl
      (idle_now from given leaves) (cc) (search (group_cut_right, last_entry, given, arith)) tt listed
      refl only_it (rw same (subst (Stands (setting_now runs) runs.last runs.begun map undamaged runs.contents
      (calls_under_way clients) None) (sym steps.2) stood)))
    where
      given : Answer
      given = answer.TooManyFailed out

      same : calls_under_way news ≡ calls_under_way clients
      same = same_calls (ap held_under (idle_now from given leaves))

  pub sync_ends : asked ≡ kind.Sync → (given : Answer) → StepsCommit before.state run after.state (Done given)
      → LeavesGoing actor call before after under (Done given) → ItComes takes
  sync_ends sync given = grind (arith, synced, cut)
