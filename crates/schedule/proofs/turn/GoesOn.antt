-- What stood before a turn of one client stands after it, where nothing is listed.
use Rattle.schedule.proofs.Words.{◌≡◌, TurnState, TakesTurn, inr, Core, ◌≢◌, ℕ, ◌+◌, ◌-◌, List, [], ◌∷◌, length, Some}
use Rattle.schedule.proofs.Words.{None, refl, sym, ◌∙◌, ap, subst, arith, slice_get, slice_get_within, Disk, Later}
use Rattle.schedule.proofs.Words.{TouchesOnly, Item, Map, map_of, Option, ⊎_elim, ◌⊎◌, inl, Kept, Setting, World, Lays}
use Rattle.schedule.proofs.Words.{CommitRun, IsOnInUse, ScriptCall, Script, calls_of, AttachRun, HoldsAttach}
use Rattle.schedule.proofs.Words.{attach_commit, CoreState, Stands, shown_in, shown_of, IsBeforeCommit, attach_beside}
use Rattle.schedule.proofs.Words.{Client, UnderWay, Work, Past, Recorded, AreGoing, HasBegunBy, HasContent, IsClient}
use Rattle.schedule.proofs.Words.{IsGoing, MakesCommit, Runs, calls_under_way, commit_in, setting_now, IsTheirs}
use Rattle.schedule.proofs.Words.{undamaged}
use Rattle.core_state.specs.declared.item.Group.{Group as GroupItem}
use Rattle.schedule.specs.declared.client.Work.TheVariants as work
use Rattle.schedule.proofs.turn.Going.{one_commit}
use Rattle.schedule.proofs.sync.Syncs.{its_commit, no_commit}
use Rattle.schedule.proofs.turn.Recording.{GoesOnSince, recorded_goes}
use Rattle.schedule.proofs.turn.Running.{group_free, with_content, with_other, with_own}
use Rattle.schedule.proofs.turn.Theirs.{IsNoCommit, none_some, run_of, OnlyIt, before_commit, each_going}
use Rattle.schedule.proofs.turn.Theirs.{idle_no_commit, no_one, commit_stays, the_one, work_no_commit}

-- Of an attach that makes no commit it is known on the devices alone.
pub early_known : (setting now : Setting) (last next : Kept) (begun onward : List Kept) (disk : Disk) (run : AttachRun)
    → IsBeforeCommit run → HoldsAttach setting last begun disk run → HoldsAttach now next onward disk run
early_known setting now last next begun onward disk run before holds = grind arith

-- Where the core has no commit under way, none stands,
pub stands_idle : {world : World} {script : Script} {past : Past} {before : CoreState} {items : List Item}
    {clients : List Client} (runs : Runs world script past before items clients) → before.core.committing ≡ None
    → (runs.commit ≡ None) × Stands (setting_now runs) runs.last runs.begun (map_of world.handed world.opening items) undamaged
    runs.contents (calls_under_way clients) None before
stands_idle runs idle = search (no_commit, arith)

-- and no client makes one.
pub nobody_commits : {script : Script} {core : Core} {clients : List Client} (index : ℕ) → AreGoing script core clients
    → core.committing ≡ None → OnlyIt clients index
nobody_commits index going idle other its under is makes =
    let found = run_of under.work makes in
    absurd (none_some (sym idle ∙ ((going.each other its under is).commit found.0 found.1).1))

-- It is known of others' attaches still where devices of the pool alone were called.
pub beside : {world : World} {script : Script} {past : Past} {before : CoreState} {items : List Item}
    {clients : List Client} (after : Disk) (runs : Runs world script past before items clients)
    → AreGoing script before.core clients
    → TouchesOnly (IsOnInUse before.core.reach before.core.pool.out) before.disk after → (other : ℕ) (its : Client)
    (under : UnderWay) (run : AttachRun) → IsGoing clients other its under → under.work ≡ work.Attach run
    → HoldsAttach (setting_now runs) runs.last runs.begun after run
beside {before = before} after runs going touched other its under run is does = attach_beside before after run
    ((going.each other its under is).attach run does).0
    (λ join is_join.
    let makes : commit_in under.work ≡ Some join.run = ap commit_in does ∙ ap attach_commit is_join in
    its_commit runs.commit is makes (one_commit going is makes) runs.theirs)
    touched runs.stands (runs.attaches other its under run is does)

-- What is known of a client's call under way, after these items: since when it is, and what its attach has come to.
abbrev pub IsKnown : World → Script → List Item → GroupItem → ℕ → Kept → List Kept → Disk → List ℕ → ℕ → Client
    → UnderWay → Type 0
IsKnown world script items item reach last begun disk bytes index client under =
    IsClient world script items item begun bytes index client under × ((run : AttachRun) → under.work ≡ work.Attach run
    → HoldsAttach (record world.setting { reach = reach }) last begun disk run)

-- No other client attaches.
abbrev pub IsAlone : List Client → ℕ → Type 0
IsAlone clients index = (other : ℕ) (its : Client) (under : UnderWay) (run : AttachRun) → other ≢ index
    → IsGoing clients other its under → under.work ≡ work.Attach run → ⊥

module _ {world : World} {script : Script} {past : Past} {index : ℕ} {start left : TurnState} {clients news : List Client}
    {before : CoreState} {items : List Item} (takes : TakesTurn script index start left clients news)
    (runs : Runs world script past before items clients) where
  open start use {client as old}
  open left use {client, state as after}
  open takes use {was, changes}

  -- What stands after the turn, with what is known of the client's call under way and of the others'.
  pub runs_with : {listed : List Item} {item : GroupItem} {reach : ℕ} {last : Kept} {begun : List Kept}
      {contents : ℕ → List ℕ} {commit : Option CommitRun}
      → Recorded world past listed item last (shown_of begun commit) after.disk
      → Stands (record world.setting { reach = reach }) last begun (map_of world.handed world.opening listed) undamaged contents
      (calls_under_way news) commit after → IsTheirs news commit → ((under : UnderWay) → client.under_way ≡ Some under
      → IsKnown world script listed item reach last begun after.disk (contents index) index client under)
      → ((other : ℕ) (its : Client) (under : UnderWay) → other ≢ index → IsGoing clients other its under
      → IsKnown world script listed item reach last begun after.disk (contents other) other its under)
      → Runs world script past after listed news
  runs_with {listed} {item} {reach} {last} {begun} {contents} {commit} recorded stands theirs mine others =
      let each = each_going was changes {T = λ other its under.
      IsKnown world script listed item reach last begun after.disk (contents other) other its under} mine others in
      record {
        last = last;
        begun = begun;
        contents = contents;
        commit = commit;
        item = item;
        reach = reach;
        recorded = recorded;
        stands = stands;
        theirs = theirs;
        each = λ other its under is. (each other its under is).0;
        attaches = λ other its under run is. (each other its under is).1 run;
      }

  abbrev map : Map
  map = map_of world.handed world.opening items

  -- what the journal tells, with this bank
  abbrev IsRecorded : List Kept → Disk → Type 0
  IsRecorded begun now = Recorded world past items runs.item runs.last begun now

  -- what is known of others' calls, and of this one's attach, where the pool reaches so far and this group is begun
  abbrev OthersKnown : ℕ → List Kept → Type 0
  OthersKnown reach begun = (other : ℕ) (its : Client) (under : UnderWay) → other ≢ index
      → IsGoing clients other its under
      → IsKnown world script items runs.item reach runs.last begun after.disk (runs.contents other) other its under

  abbrev IsAttached : ℕ → List Kept → Work → Type 0
  IsAttached reach begun does = (run : AttachRun) → does ≡ work.Attach run
      → HoldsAttach (record world.setting { reach = reach }) runs.last begun after.disk run

  -- Others' are known still where no device was called,
  pub still_known : after.disk ≡ before.disk → OthersKnown runs.reach runs.begun
  still_known disk other its under apart is =
      (runs.each other its under is, λ run does. rw disk (runs.attaches other its under run is does))

  -- or devices of the pool alone.
  pub beside_known : AreGoing script before.core clients
      → TouchesOnly (IsOnInUse before.core.reach before.core.pool.out) before.disk after.disk
      → OthersKnown runs.reach runs.begun
  beside_known going touched other its under apart is =
      (runs.each other its under is, λ run. beside after.disk runs going touched other its under run is)

  -- Whatever group is begun, they make no commit and are no attaches,
  pub only_known : (reach : ℕ) (begun : List Kept) → OnlyIt clients index → IsAlone clients index
      → OthersKnown reach begun
  only_known reach begun only alone other its under apart is =
      let was = runs.each other its under is in
      (search group_free, λ run does. absurd (alone other its under run apart is does))

  -- or are attaches before their commits, where no device was called.
  early_others : (reach : ℕ) (begun : List Kept) → after.disk ≡ before.disk → runs.commit ≡ None
      → OthersKnown reach begun
  early_others reach begun disk no_commit other its under apart is =
      let was = runs.each other its under is in
      let none = (rw no_commit at runs.theirs) other its under is in (
        search group_free,
        λ run does. early_known (setting_now runs) (record world.setting { reach = reach }) runs.last runs.last
            runs.begun begun after.disk run (before_commit run (λ makes. none (subst MakesCommit (sym does) makes)))
            (rw disk (runs.attaches other its under run is does)),
      )

  -- A call is under way since then: since it was before, or since now.
  abbrev IsSince : ℕ → Type 0
  IsSince at = (at ≡ length items) ⊎ ((under : UnderWay) × (old.under_way ≡ Some under) × (at ≡ under.at))

  -- The client has a call under way, with these bytes of its block.
  has_under : {number at : ℕ} {does : Work} {begun : List Kept} {commit : Option CommitRun} (reach : ℕ)
      (nows : ℕ → List ℕ) → IsRecorded (shown_of begun commit) after.disk → IsTheirs news commit
      → client ≡ record { begun = number; under_way = Some (record { at = at; work = does }) } → IsSince at
      → HasBegunBy world items runs.item begun at does
      → ((asked : ScriptCall) → slice_get (calls_of script index) (number - 1) ≡ Some asked
      → HasContent world items asked at (nows index) does) → IsAttached reach begun does
      → ((other : ℕ) → other ≢ index → nows other ≡ runs.contents other) → OthersKnown reach begun
      → Stands (record world.setting { reach = reach }) runs.last begun map undamaged nows (calls_under_way news) commit after
      → Runs world script past after items news
  has_under {number} {at} {does} {begun} reach nows recorded theirs client_is since group content attached same others
      stands = runs_with recorded stands theirs
      (the_one (IsKnown world script items runs.item reach runs.last begun after.disk (nows index) index client)
      (ap (λ (c : Client). c.under_way) client_is) (mine, attached))
      (λ other its under apart is. rw (same other apart) (others other its under apart is))
    where
      mine : IsClient world script items runs.item begun (nows index) index client (record { at = at; work = does })
      mine = ⊎_elim
          (λ new. record {
            at = (search arith, omega arith);
            after = λ place entry there caller. search (slice_get_within, arith);
            group = group;
            content = search arith;
          })
          (λ before. let known = runs.each index old before.0 (record { there = was; under_way = before.1 }) in record {
            at = rw before.2 known.at;
            after = rw before.2 known.after;
            group = group;
            content = search arith;
          }) since

  -- A call goes on that makes no commit.
  pub goes_on : (under : UnderWay) {does : Work} → IsAttached runs.reach runs.begun does
      → OthersKnown runs.reach runs.begun → Later before.disk after.disk
      → GoesOnSince (setting_now runs) runs.last (shown_of runs.begun runs.commit) before.disk after.disk
      → old.under_way ≡ Some under
      → client ≡ record { begun = old.begun; under_way = Some (record { at = under.at; work = does }) }
      → IsNoCommit old.under_way → (MakesCommit does → ⊥)
      → ((asked : ScriptCall) → slice_get (calls_of script index) (old.begun - 1) ≡ Some asked
      → HasContent world items asked under.at (runs.contents index) does)
      → Stands (setting_now runs) runs.last runs.begun map undamaged runs.contents (calls_under_way news) runs.commit after
      → Runs world script past after items news
  goes_on under attached others later since old_is client_is was_none no_commit has = has_under runs.reach
      runs.contents (recorded_goes runs.recorded later since) (commit_stays was changes runs.commit
      was_none (work_no_commit (ap (λ (c : Client). c.under_way) client_is) no_commit)
      runs.theirs) client_is (inr (under, old_is, refl)) (search (group_free, no_commit)) has attached
      (λ other apart. refl) others

  -- A commit is under way by now, of this group: it is its client's work. What images can show is recorded.
  pub commit_runs : {number at : ℕ} {does : Work} {begun : List Kept} (reach : ℕ) (commit : CommitRun)
      → IsRecorded (shown_in begun commit.stage) after.disk → commit_in does ≡ Some commit
      → client ≡ record { begun = number; under_way = Some (record { at = at; work = does }) } → IsSince at
      → HasBegunBy world items runs.item begun at does
      → ((asked : ScriptCall) → HasContent world items asked at (runs.contents index) does)
      → IsAttached reach begun does → OthersKnown reach begun
      → Stands (record world.setting { reach = reach }) runs.last begun map undamaged runs.contents (calls_under_way news)
      (Some commit) after → Runs world script past after items news
  commit_runs {at = at} {does} reach commit recorded does_is client_is since group content attached =
      has_under reach runs.contents recorded (
        index,
        client,
        record { at = at; work = does },
        record { there = changes.there; under_way = ap (λ (c : Client). c.under_way) client_is },
        does_is,
      ) client_is since group (λ asked is. content asked) attached (λ other apart. refl)

  -- It begins in a turn which calls no device. No image shows its group.
  pub commit_begins : {number : ℕ} {does : Work} (reach : ℕ) (run : CommitRun) {next : Kept} → runs.begun ≡ []
      → runs.commit ≡ None → commit_in does ≡ Some run → run.stage ≡ Lays → after.disk ≡ before.disk
      → client ≡ record { begun = number; under_way = Some (record { at = length items; work = does }) }
      → HasBegunBy world items runs.item (next ∷ []) (length items) does
      → ((asked : ScriptCall) → HasContent world items asked (length items) (runs.contents index) does)
      → IsAttached reach (next ∷ []) does
      → Stands (record world.setting { reach = reach }) runs.last (next ∷ []) map undamaged runs.contents (calls_under_way news)
      (Some run) after → Runs world script past after items news
  commit_begins reach run {next = next} none_begun no_commit does_is stage disk client_is group content attached =
      commit_runs reach run (search (no_commit, arith)) does_is client_is (inl refl) group content attached
      (early_others reach (next ∷ []) disk no_commit)

  -- ---- first turns, which call no device

  -- A call that makes no commit begins, with these bytes of its block.
  pub begins : (content : List ℕ) (does : Work) → IsAttached runs.reach runs.begun does → old.under_way ≡ None
      → after.disk ≡ before.disk
      → client ≡ record { begun = old.begun + 1; under_way = Some (record { at = length items; work = does }) }
      → (MakesCommit does → ⊥) → ((asked : ScriptCall) → slice_get (calls_of script index) old.begun ≡ Some asked
      → HasContent world items asked (length items) content does)
      → Stands (setting_now runs) runs.last runs.begun map undamaged (with_content runs.contents index content)
      (calls_under_way news) runs.commit after → Runs world script past after items news
  begins content does attached idle disk client_is no_commit has = has_under runs.reach
      (with_content runs.contents index content) (search arith) (commit_stays was changes runs.commit
      (idle_no_commit idle) (work_no_commit (ap (λ (c : Client). c.under_way) client_is) no_commit) runs.theirs)
      client_is (inl refl) (search (group_free, no_commit))
      (λ asked is. rw (with_own runs.contents index content) (has asked (search arith))) attached
      (with_other runs.contents index content) (still_known disk)

  -- A call waits.
  pub waits : old.under_way ≡ None → after.disk ≡ before.disk → client.under_way ≡ None
      → Stands (setting_now runs) runs.last runs.begun map undamaged runs.contents (calls_under_way news) runs.commit after
      → Runs world script past after items news
  waits idle disk still stands = runs_with {reach = runs.reach} (search arith) stands
      (commit_stays was changes runs.commit (idle_no_commit idle) (idle_no_commit still) runs.theirs) (search no_one)
      (still_known disk)
