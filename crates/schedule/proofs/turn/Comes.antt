-- What a turn comes to, once it is known what it did to the calls under way and to what stood.
use Rattle.schedule.proofs.Words.{◌≡◌, WhyDropped, CoreState, false≢true, ⊤, at_disk, Recorded, HasBegun, AwaitsAttach}
use Rattle.schedule.proofs.Words.{Stage, CommitRun, IsCommitOf, shown_in, WorkGoesOn, IsAttachRunOf, HoldsAttach}
use Rattle.schedule.proofs.Words.{PutBytes, commit_in, Commits, ◌≢◌, ℕ, ◌+◌, ◌-◌, ◌≤◌, List, [], ◌∷◌, ◌++◌, length}
use Rattle.schedule.proofs.Words.{Some, None, refl, sym, ◌∙◌, ap, subst, arith, slice_get, cases_eq, append-nil}
use Rattle.schedule.proofs.Words.{slice_get_within, Gains, count_of, IsWithin, Answer, Kind, Entry, Item, Map, map_of}
use Rattle.schedule.proofs.Words.{map_after_answer, World, ScriptCall, Script, calls_of, AttachRun, HoldingCall}
use Rattle.schedule.proofs.Words.{AreCallsOf, Stands, TurnGoesOn, shown_of, More, Done, turn_still, Client, UnderWay}
use Rattle.schedule.proofs.Words.{Work, ClientsAreAnswered, GoesOnFor, IsWorldOf, turns_of, Turns, IsListedWith}
use Rattle.schedule.proofs.Words.{AreGoing, HasContent, IsGoing, IsHoldOf, IsWorkFor, IsWorkOf, MakesCommit, Runs}
use Rattle.schedule.proofs.Words.{call_of_client, calls_under_way, held_by, setting_now, HasDropCause, IsRightNext}
use Rattle.schedule.proofs.Words.{TurnState, LeavesBegun, LeavesGoing, entry_for, made_in, TakesTurn, Comes, Past}
use Rattle.schedule.proofs.Words.{undamaged}
use Rattle.core_state.specs.declared.answer.Answer.TheVariants as answer
use Rattle.core_state.specs.declared.item.Item.TheVariants.{Call as CallItem}
use Rattle.schedule.specs.declared.client.Work.TheVariants as work
use Rattle.schedule.proofs.turn.Theirs.{IsNoCommit, OnlyIt, IsNoAttach, begun_before, call_begins, call_ends, call_goes}
use Rattle.schedule.proofs.turn.Theirs.{calls_stay, held_no_attach, idle_no_attach, idle_no_commit, makes_commit}
use Rattle.schedule.proofs.turn.Theirs.{no_one, other_no_attach, same_list, some_is, the_one, work_no_commit}
use Rattle.schedule.proofs.turn.Answered.{answered, answers_same, answers_call, answered_going, answered_idle}
use Rattle.schedule.proofs.turn.Going.{goes as going_goes, one_commit}
use Rattle.schedule.proofs.attach.NewDevices.{devices_there}
use Rattle.schedule.proofs.turn.Running.{with_content}
use Rattle.schedule.proofs.turn.Ends.{answers_call as runs_answer}
use Rattle.schedule.proofs.turn.Recording.{GoesOnSince, HalvesGoOn, recorded_halves, recorded_whole}
use Rattle.schedule.proofs.turn.GoesOn.{IsAlone, beside_known, begins as runs_begins, goes_on as runs_goes_on}
use Rattle.schedule.proofs.turn.GoesOn.{waits as runs_waits}
use Rattle.schedule.proofs.put.Full.{full_same, HasManyAt, full_answer, FullStays}
use Rattle.schedule.proofs.run.Coming.{came, came_nowhere, goes_for, goes_for_attach}
use Rattle.schedule.proofs.turn.Fitting.{Fits, FitSince, fit_same, fit_entry}
use Rattle.schedule.proofs.sync.Syncs.{begun_parity, its_commit as commit_of}
use Rattle.schedule.proofs.turn.LeavesPool.{KeepsCommit, LeavesPool, leaves_commit}

-- What stood between two turns stands after this one with these items.
abbrev pub RunsOn : Script → TurnState → TurnState → List Client → List Client → List Item → Type 0
RunsOn script before after clients news items = (world : World) (past : Past) → IsWorldOf script world
    → (count_of before.state.core.pool.out ≤ before.state.core.pool.uber.parity
    → IsWithin before.state.core.pool.out world.setting.failed)
    → IsListedWith past.banks before.items items after.state.disk
    → Runs world script past before.state before.items clients
    → Runs world script past after.state items news

-- the entry of a call that is answered in its first turn
abbrev pub first_entry : ScriptCall → ℕ → TurnState → Answer → Entry
first_entry call actor before given = entry_for call actor (before.client.begun + 1) (length before.items) given

-- The work makes no commit, and is no attach.
abbrev pub IsPlainWork : Work → Type 0
IsPlainWork (work.Sync run) = ⊥
IsPlainWork (work.Attach run) = ⊥
IsPlainWork (work.Copy (Commits run)) = ⊥
IsPlainWork other = ⊤

plain_no_commit : (does : Work) → IsPlainWork does → MakesCommit does → ⊥
plain_no_commit does plain makes = grind (arith, false≢true)

module _ {script : Script} {actor : ℕ} {before after : TurnState} {clients news : List Client}
    (takes : TakesTurn script actor before after clients news) where
  open before.state use {core as old}
  open after.state use {core as now}

  abbrev pub turns_was : Turns
  turns_was = turns_of before.state before.items clients

  abbrev pub turns_left : Turns
  turns_left = turns_of after.state after.items news

  abbrev pub ItComes : Type 0
  ItComes = Comes script actor before after clients news

  -- why no device is brought, as it is known after the turn
  abbrev pub Dropped : WhyDropped → Type 0
  Dropped = HasDropCause turns_was turns_left

  abbrev pub FitsNow : Kind → Answer → Type 0
  FitsNow = Fits old before.state.disk.devices Dropped

  -- what is said of all that may stand before the turn
  abbrev pub OfRuns : ((world : World) (past : Past) → Runs world script past before.state before.items clients
      → Type 0) → Type 0
  OfRuns Holds = (world : World) (past : Past) (runs : Runs world script past before.state before.items clients)
      → Holds world past runs

  -- what stands with these bytes, this map and these calls
  abbrev pub StandsNow : {world : World} {past : Past} → Runs world script past before.state before.items clients
      → (ℕ → List ℕ) → Map → List HoldingCall → Type 0
  StandsNow runs contents map calls =
      Stands (setting_now runs) runs.last runs.begun map undamaged contents calls runs.commit after.state

  -- This entry is right where it is listed, and with it this stands.
  abbrev pub IsListedNow : List HoldingCall → Entry → {world : World} {past : Past}
      → Runs world script past before.state before.items clients → Type 0
  IsListedNow calls entry {world} runs = IsRightNext world before.items entry after.state.disk
      × StandsNow runs runs.contents
      (map_after_answer world.handed (map_of world.handed world.opening before.items) entry entry.answer) calls

  -- A turn that does nothing.
  pub comes_nowhere : after ≡ before → ItComes
  comes_nowhere same =
      let at : (index : ℕ) → slice_get clients index ≡ slice_get news index = search (cases_eq, arith) in
      rw same (subst (Comes script actor before before clients) (same_list clients news at)
      (record { come = came_nowhere refl; schedule = takes.schedule }))

  -- A turn that lists these items.
  pub comes : {items : List Item} (more : List Item) → items ≡ before.items ++ more
      → GoesOnFor script before.state after.state → after.items ≡ items → FitSince turns_was turns_left
      → RunsOn script before after clients news items → FullStays script turns_was turns_left → AreGoing script now news
      → ClientsAreAnswered script news items → ItComes
  comes more grown goes items_are fit runs full going answered = record {
    come = came refl goes takes.space takes.numbers takes.dropped more (items_are ∙ grown) fit
        (λ world past handed within listed stood.
        rw items_are (runs world past handed within (rw items_are at listed.0) stood)) full;
    schedule = record {
      going = going;
      answered = rw items_are answered;
      bank = goes.bank takes.schedule.bank;
      there = search devices_there;
    };
  }

  -- A turn that lists nothing.
  comes_on : GoesOnFor script before.state after.state → after.items ≡ before.items
      → answered after.client ≡ answered before.client → after.client.begun ≤ length (calls_of script actor)
      → ((under : UnderWay) → after.client.under_way ≡ Some under → 1 ≤ after.client.begun)
      → AreGoing script now news → RunsOn script before after clients news before.items → ItComes
  comes_on goes items same few some going runs = comes [] (sym (append-nil before.items)) goes items
      (fit_same turns_was turns_left items) runs (full_same script turns_was turns_left items) going
      (search (answers_same, few, arith))

  -- One after which the client's next call is under way.
  pub comes_under : {number at : ℕ} {does : Work} → GoesOnFor script before.state after.state
      → after.items ≡ before.items
      → after.client ≡ record { begun = number; under_way = Some (record { at = at; work = does }) }
      → number ≡ answered before.client + 1 → number ≤ length (calls_of script actor) → AreGoing script now news
      → RunsOn script before after clients news before.items → ItComes
  comes_under goes items client_is number_is low = search (answered, comes_on, client_is, arith)

  -- A turn that lists the answer of the client's next call; where the table is full for it, there are too many ids.
  pub comes_answered : {call : ScriptCall} {number : ℕ} (at : ℕ) {given : Answer} → number ≡ answered before.client + 1
      → slice_get (calls_of script actor) (answered before.client) ≡ Some call
      → GoesOnFor script before.state after.state
      → after.items ≡ before.items ++ CallItem (entry_for call actor number at given) ∷ []
      → after.client ≡ record { begun = number; under_way = None }
      → FitsNow call.kind given → (given ≡ answer.Full → HasManyAt script turns_was) → AreGoing script now news
      → RunsOn script before after clients news (before.items ++ CallItem (entry_for call actor number at given) ∷ [])
      → ItComes
  comes_answered {call = call} {number = number} at {given = given} number_is next goes items client_is fit full going
      runs = comes (CallItem its_entry ∷ []) refl goes items (search (its_entry, fit_entry)) runs
      (search (its_entry, full_answer)) going
      (answers_call takes.changes takes.was few (search (no_one, client_is, arith)) takes.schedule.answered its_entry
      (cc) next refl number_is refl refl)
    where
      its_entry : Entry
      its_entry = entry_for call actor number at given

      few : after.client.begun ≤ length (calls_of script actor)
      few = search (slice_get_within, answered, client_is, arith)

  -- ---- first turns

  module _ (idle : before.client.under_way ≡ None) (leaves : LeavesPool old now)
      (disk : after.state.disk ≡ before.state.disk) where
    still : GoesOnFor script before.state after.state
    still = goes_for (search turn_still)

    -- The client has no call under way still.
    module _ (rests : after.client.under_way ≡ None) (are : AreCallsOf now (calls_under_way clients)) where
      same_calls : calls_under_way news ≡ calls_under_way clients
      same_calls = calls_stay takes.was takes.changes (cc) (cc)

      still_going : AreGoing script now news
      still_going = going_goes takes.was takes.changes takes.schedule.going
          (rw same_calls are) (leaves_commit leaves) (idle_no_commit idle) (idle_no_attach idle) (search no_one)

    -- A call that waits.
    pub comes_waiting : after.client ≡ before.client → after.items ≡ before.items
        → AreCallsOf now (calls_under_way clients) → OfRuns (λ world past runs.
        StandsNow runs runs.contents (map_of world.handed world.opening before.items) (calls_under_way clients))
        → ItComes
    comes_waiting client_is items are stands =
        let rests : after.client.under_way ≡ None = ap (λ (c : Client). c.under_way) client_is ∙ idle in
        let few = takes.schedule.answered.few actor before.client takes.was in
        let begun_is = ap (λ (c : Client). c.begun) client_is in
        comes_on still items (cc) (omega arith) (search no_one) (still_going rests are)
        (λ world past handed within listed runs.
        runs_waits takes runs idle disk rests (search same_calls))

    module _ {call : ScriptCall} (next : slice_get (calls_of script actor) before.client.begun ≡ Some call) where
      -- A call that is answered in its first turn.
      pub comes_at_once : {given : Answer} → LeavesBegun actor call before after (Done given)
          → FitsNow call.kind given → (given ≡ answer.Full → HasManyAt script turns_was)
          → AreCallsOf now (calls_under_way clients)
          → OfRuns (λ world past. IsListedNow (calls_under_way clients) (first_entry call actor before given)) → ItComes
      comes_at_once listed fit full are stands =
          let rests : after.client.under_way ≡ None = cc in
          comes_answered (length before.items) (cc) (ap (slice_get (calls_of script actor)) (answered_idle idle) ∙ next)
          still listed.0 listed.1 fit full (still_going rests are)
          (λ world past handed within with runs.
          let now = stands world past runs in
          search (runs_answer, idle_no_commit, same_calls))

      -- One that is refused so: the core and the map are left.
      pub comes_refused : {given : Answer} → now ≡ old → LeavesBegun actor call before after (Done given)
          → FitsNow call.kind given → given ≢ answer.Full
          → ((handed : PutBytes) (map : Map) (entry : Entry) → map_after_answer handed map entry given ≡ map)
          → OfRuns (λ world past runs.
          IsRightNext world before.items (first_entry call actor before given) after.state.disk) → ItComes
      comes_refused {given = given} core listed fit other no_block right =
          comes_at_once listed fit (λ full. absurd (other full)) (rw core takes.schedule.going.are)
          (λ world past runs.
          let map = map_of world.handed world.opening before.items in (
            right world past runs,
            rw (no_block world.handed map (first_entry call actor before given)) (subst (Stands (setting_now runs)
                runs.last runs.begun map undamaged runs.contents (calls_under_way clients) runs.commit)
                (λ i. at_disk (sym core i) (sym disk i)) runs.stands),
          ))

      -- A call that holds sectors begins.
      module _ {held : HoldingCall} {does : Work} (begins : LeavesBegun actor call before after (More does))
          (holds : held_by does ≡ held ∷ []) where
        one_less : after.client.begun - 1 ≡ before.client.begun
        one_less = omega (arith, ap (λ (c : Client). c.begun) begins.1)

        -- It comes to the others' calls.
        pub held_gains : Gains (calls_under_way clients) (calls_under_way news) held
        held_gains = call_begins takes.was takes.changes (cc) (cc)

        pub comes_begun : IsPlainWork does → IsHoldOf actor does → IsWorkFor call does
            → AreCallsOf now (calls_under_way news) → OfRuns (λ world past runs. (content : List ℕ)
            × HasContent world before.items call (length before.items) content does
            × StandsNow runs (with_content runs.contents actor content)
            (map_of world.handed world.opening before.items) (calls_under_way news)) → ItComes
        comes_begun plain its asked are stands =
            let no_commit = plain_no_commit does plain in
            comes_under still begins.0 begins.1 (ap (λ (n : ℕ). n + 1) (sym (answered_idle idle)))
            (search (slice_get_within, arith))
            (going_goes takes.was takes.changes takes.schedule.going are (leaves_commit leaves) (idle_no_commit idle)
            (idle_no_attach idle) (the_one (λ its_under. IsWorkOf script now actor after.client its_under.work)
            (ap (λ (c : Client). c.under_way) begins.1)
            (search (one_less, no_commit, makes_commit, held_no_attach, arith))))
            (λ world past handed within listed runs.
            let now = stands world past runs in
            runs_begins takes runs now.0 does (λ run is. absurd (subst IsPlainWork is plain)) idle disk begins.1
            no_commit (search (some_is, arith)) now.2)

-- ---- later turns

-- A client takes a turn with this call under way, whose work is this.
pub record GoesFrom (script : Script) (actor : ℕ) (before after : TurnState) (clients news : List Client)
    (call : ScriptCall) (under : UnderWay) (does : Work) : Type 0
  where
    pub takes : TakesTurn script actor before after clients news
    pub does_is : under.work ≡ does
    pub under_is : before.client.under_way ≡ Some under
    pub is : slice_get (calls_of script actor) (before.client.begun - 1) ≡ Some call

module _ {script : Script} {actor : ℕ} {before after : TurnState} {clients news : List Client} {call : ScriptCall}
    {under : UnderWay} {does : Work} (from : GoesFrom script actor before after clients news call under does) where
  open from use {takes, does_is, under_is, is}

  pub its_going : IsGoing clients actor before.client under
  its_going = search under_is

  -- The client's work is what the script asks for,
  pub its_work : IsWorkOf script before.state.core actor before.client does
  its_work = rw does_is at (takes.schedule.going.each actor before.client under its_going)

  pub its_asked : IsWorkFor call does
  its_asked = rw (← some_is (sym its_work.there ∙ is)) its_work.asked

  -- with the bytes that are known,
  pub its_content : {world : World} {past : Past} (runs : Runs world script past before.state before.items clients)
      → HasContent world before.items call under.at (runs.contents actor) does
  its_content runs = rw does_is at ((runs.each actor before.client under its_going).content call is)

  -- and the call after those answered.
  pub its_number : before.client.begun ≡ answered before.client + 1
  its_number = search (under_is, answered_going, arith)

  pub its_place : slice_get (calls_of script actor) (answered before.client) ≡ Some call
  its_place = cc

  -- The turn lists nothing, and the call goes on.
  pub comes_further : (next : Work) → GoesOnFor script before.state after.state
      → LeavesGoing actor call before after under (More next) → made_in next ≡ None
      → AreGoing script after.state.core news → RunsOn script before after clients news before.items → ItComes takes
  comes_further next goes further none = comes_under takes goes (cc) further.1 its_number
      (takes.schedule.answered.few actor before.client takes.was)

  -- It makes no commit, and is no attach.
  module _ (plain : IsPlainWork does) where
    was_none : IsNoCommit before.client.under_way
    was_none = work_no_commit under_is (λ makes. plain_no_commit does plain (rw does_is at makes))

    was_no_attach : IsNoAttach before.client.under_way
    was_no_attach = other_no_attach under_is does_is (λ run is. subst IsPlainWork is plain)

    -- It goes on as such a call.
    module _ (next : Work) (further : LeavesGoing actor call before after under (More next))
        (next_plain : IsPlainWork next) where
      client_is : after.client
          ≡ record { begun = before.client.begun; under_way = Some (record { at = under.at; work = next }) }
      client_is = further.1 ∙ ap (λ (at : ℕ). record {
        begun = before.client.begun;
        under_way = Some (record { at = at; work = next });
      }) (begun_before next under.work (length before.items) (plain_no_commit next next_plain))

      pub next_held : call_of_client after.client ≡ held_by next
      next_held = cc

      -- Where it holds sectors, another stands in its place.
      pub held_moves : {held held_next : HoldingCall} → held_by does ≡ held ∷ [] → held_by next ≡ held_next ∷ []
          → (rest : List HoldingCall) × Gains rest (calls_under_way clients) held
          × Gains rest (calls_under_way news) held_next
      held_moves holds next_holds = call_goes takes.was takes.changes (cc) (cc)

      pub comes_working : TurnGoesOn before.state after.state → made_in next ≡ None
          → KeepsCommit before.state.core after.state.core → IsHoldOf actor next → IsWorkFor call next
          → AreCallsOf after.state.core (calls_under_way news)
          → OfRuns takes (λ world past runs. GoesOnSince (setting_now runs) runs.last (shown_of runs.begun runs.commit)
          before.state.disk after.state.disk × (HasContent world before.items call under.at (runs.contents actor) does
          → HasContent world before.items call under.at (runs.contents actor) next)
          × StandsNow takes runs runs.contents (map_of world.handed world.opening before.items)
          (calls_under_way news)) → ItComes takes
      comes_working goes none_made keeps its asked are stands =
          let no_commit = plain_no_commit next next_plain in
          comes_further next (goes_for goes) further none_made
          (going_goes takes.was takes.changes takes.schedule.going are keeps was_none was_no_attach
          (the_one (λ its_under. IsWorkOf script after.state.core actor after.client its_under.work)
          (ap (λ (c : Client). c.under_way) client_is) (search (makes_commit, no_commit, arith))))
          (λ world past handed within listed runs.
          let now = stands world past runs in
          runs_goes_on takes runs under (λ run is. absurd (subst IsPlainWork is next_plain)) (search beside_known)
          goes.later now.0 under_is client_is
          was_none no_commit (λ other other_is. rw (← some_is (sym is ∙ other_is)) (now.1 (its_content runs))) now.2)

  -- It is answered.
  module _ (given : Answer) (ended : LeavesGoing actor call before after under (Done given)) where
    abbrev pub last_entry : Entry
    last_entry = entry_for call actor before.client.begun under.at given

    pub idle_now : after.client.under_way ≡ None
    idle_now = cc

    -- With its entry the journal answers one call more.
    pub its_answered : {items : List Item} → ClientsAreAnswered script clients items
        → ClientsAreAnswered script news (items ++ CallItem last_entry ∷ [])
    its_answered were = answers_call takes.changes takes.was (search arith)
        (no_one (λ its. 1 ≤ after.client.begun) idle_now) were last_entry (ap answered ended.1 ∙ its_number) its_place
        refl its_number refl refl

    -- Its entry alone is listed.
    pub comes_last : GoesOnFor script before.state after.state → after.items ≡ before.items ++ CallItem last_entry ∷ []
        → FitsNow takes call.kind given → given ≢ answer.Full → AreGoing script after.state.core news
        → RunsOn script before after clients news (before.items ++ CallItem last_entry ∷ []) → ItComes takes
    comes_last goes listed fit other = comes_answered takes under.at its_number its_place goes listed ended.1 fit
        (λ full. absurd (other full))

    -- If it held sectors, the others' calls are left.
    pub held_gone : {held : HoldingCall} → held_by does ≡ held ∷ []
        → Gains (calls_under_way news) (calls_under_way clients) held
    held_gone holds = call_ends takes.was takes.changes (cc) (cc)

    pub comes_finished : IsPlainWork does → TurnGoesOn before.state after.state
        → after.items ≡ before.items ++ CallItem last_entry ∷ [] → LeavesPool before.state.core after.state.core
        → after.state.disk ≡ before.state.disk → FitsNow takes call.kind given → given ≢ answer.Full
        → AreCallsOf after.state.core (calls_under_way news) → ((world : World) (past : Past) → IsWorldOf script world
        → (runs : Runs world script past before.state before.items clients)
        → IsListedNow takes (calls_under_way news) last_entry runs) → ItComes takes
    comes_finished plain goes listed leaves disk fit other are stands = comes_last (goes_for goes) listed fit other
        (going_goes takes.was takes.changes takes.schedule.going are (leaves_commit leaves) (was_none plain)
        (was_no_attach plain) (no_one (λ its. IsWorkOf script after.state.core actor after.client its.work) idle_now))
        (λ world past handed within with runs.
        let now = stands world past handed runs in
        runs_answer takes runs runs.commit runs.recorded refl idle_now disk now.0 fit.of_kind with runs.theirs
        (was_none plain) now.1)

  -- It makes a commit.
  module _ {commit : CommitRun} (makes : commit_in does ≡ Some commit) where
    commit_is : commit_in under.work ≡ Some commit
    commit_is = ap commit_in does_is ∙ makes

    -- No other client makes one,
    pub only : OnlyIt clients actor
    only = one_commit takes.schedule.going its_going commit_is

    -- and it is the core's,
    pub its_commit : IsCommitOf before.state.core commit × (before.state.core.committing ≡ Some actor)
    its_commit = its_work.commit commit makes

    module _ {world : World} {past : Past} (runs : Runs world script past before.state before.items clients) where
      -- the one that stands.
      pub its_stands : Stands (setting_now runs) runs.last runs.begun (map_of world.handed world.opening before.items) undamaged
          runs.contents (calls_under_way clients) (Some commit) before.state
      its_stands = rw (← commit_of runs.commit its_going commit_is only runs.theirs) runs.stands

      -- What the journal tells is of the groups that images can show,
      pub its_recorded : Recorded world past before.items runs.item runs.last (shown_in runs.begun commit.stage)
          before.state.disk
      its_recorded = rw (commit_of runs.commit its_going commit_is only runs.theirs) at runs.recorded

      module _ {attached : Type 0} (begun : HasBegun world before.items runs.item runs.begun under.at attached)
          (awaits : attached → AwaitsAttach world.calls before.items under.at) where
        -- in a turn in which it goes on,
        pub halves_recorded : (to : Stage) → HalvesGoOn commit.stage to
            → Recorded world past before.items runs.item runs.last (shown_in runs.begun to) before.state.disk
        halves_recorded to goes = search (recorded_halves, begun_parity, its_stands, its_recorded, arith)

        -- and as it ends or is cut short.
        pub whole_recorded : Recorded world past before.items runs.item runs.last runs.begun before.state.disk
        whole_recorded = recorded_whole begun awaits (begun_parity its_stands) commit.stage its_recorded

-- An attach goes on.
module _ {script : Script} {actor : ℕ} {before after : TurnState} {clients news : List Client} {call : ScriptCall}
    {under : UnderWay} {run : AttachRun}
    (from : GoesFrom script actor before after clients news call under (work.Attach run)) where
  -- It is the one under way,
  pub its_attach : IsAttachRunOf before.state.core run × (before.state.core.attaching ≡ Some actor)
  its_attach = (its_work from).attach run refl

  pub its_known : {world : World} {past : Past} {state : CoreState}
      (runs : Runs world script past state before.items clients)
      → HoldsAttach (setting_now runs) runs.last runs.begun state.disk run
  its_known runs = runs.attaches actor before.client under run (its_going from) from.does_is

  -- and no other is.
  pub alone : IsAlone clients actor
  alone other its its_under its_run apart going attach = apart (some_is (sym
      ((from.takes.schedule.going.each other its its_under going).attach its_run attach).1 ∙ its_attach.1))

  -- It holds no sectors.
  pub attach_calls : call_of_client after.client ≡ [] → calls_under_way news ≡ calls_under_way clients
  attach_calls = calls_stay from.takes.was from.takes.changes (cc)

  pub attach_on : WorkGoesOn (work.Attach run) before.state after.state → GoesOnFor script before.state after.state
  attach_on = goes_for_attach actor (before.client.begun - 1) from.is (its_asked from).0
