-- What stood before a turn of one client stands after it, where its call is answered.
use Rattle.schedule.proofs.Words.{◌≡◌, TurnState, TakesTurn, ◌≢◌, ℕ, List, [], ◌∷◌, ◌++◌, Some, None, sym, subst}
use Rattle.schedule.proofs.Words.{length}
use Rattle.schedule.proofs.Words.{◌+◌, ◌-◌, ◌<◌, arith, ◌≤◌, length-append, Option, slice_get, Entry, Item, Group, Map}
use Rattle.schedule.proofs.Words.{map_of, map_after_answer, IsAnswerOf, IsAttachOf, Kept, Knows, World, CommitRun}
use Rattle.schedule.proofs.Words.{ScriptCall, Script, calls_of, map_grown_call, map_grown_group, AttachRun, CoreState}
use Rattle.schedule.proofs.Words.{Stands, shown_of, Client, UnderWay, Work, Recorded, IsRightNext, IsBegunAt, HasBegun}
use Rattle.schedule.proofs.Words.{HasContent, IsGoing, IsTheirs, MakesCommit, Runs, calls_under_way, setting_now, Past}
use Rattle.schedule.proofs.Words.{IsListedWith, undamaged}
use Rattle.core_state.specs.declared.item.Group.{Group as GroupItem}
use Rattle.core_state.specs.declared.item.Item.TheVariants.{Call as CallItem}
use Rattle.schedule.specs.declared.client.Work.TheVariants as work
use Rattle.schedule.proofs.turn.Theirs.{IsNoCommit, OnlyIt, before_commit, idle_no_commit, no_one, commit_gone}
use Rattle.schedule.proofs.turn.Theirs.{commit_stays, the_one, work_no_commit}
use Rattle.schedule.proofs.turn.Running.{head_is, client_grown, entry_apart, group_apart, group_grown, group_free}
use Rattle.schedule.proofs.turn.Recording.{recorded_answers, recorded_ends, recorded_makes}
use Rattle.schedule.proofs.sync.Syncs.{stands_know}
use Rattle.schedule.proofs.turn.GoesOn.{IsKnown, early_known, runs_with}

module _ {world : World} {script : Script} {past : Past} {index : ℕ} {start left : TurnState} {clients news : List Client}
    {before : CoreState} {items : List Item} (takes : TakesTurn script index start left clients news)
    (runs : Runs world script past before items clients) where
  open start use {client as old}
  open left use {client, state as after}
  open takes use {was, changes}

  abbrev map : Map
  map = map_of world.handed world.opening items

  -- A call is answered, and its entry listed: the client has nothing under way then, and this commit is under way.
  module _ (commit : Option CommitRun)
      (so_far : Recorded world past items runs.item runs.last (shown_of runs.begun commit) before.disk) {entry : Entry}
      (caller : entry.caller ≡ index) (ended : client.under_way ≡ None) (disk : after.disk ≡ before.disk)
      (right : IsRightNext world items entry after.disk) (answers : IsAnswerOf entry.kind entry.answer)
      (with : IsListedWith past.banks items (items ++ CallItem entry ∷ []) after.disk) where
    abbrev grown : List Item
    grown = items ++ CallItem entry ∷ []

    abbrev StandsNow : Type 0
    StandsNow = Stands (setting_now runs) runs.last runs.begun (map_after_answer world.handed map entry entry.answer) undamaged
        runs.contents (calls_under_way news) commit after

    answered_with : IsTheirs news commit → StandsNow → Runs world script past after grown news
    answered_with theirs stands = runs_with takes runs {reach = runs.reach}
        (subst (Recorded world past grown runs.item runs.last (shown_of runs.begun commit)) (sym disk)
        (recorded_answers so_far runs.reach entry (search (length-append, arith)) (rw disk at (stands_know stands))
        (search arith) answers)) (search map_grown_call) theirs (search no_one)
        (λ other its under apart is. (
          client_grown (CallItem entry ∷ []) (search group_grown)
              (entry_apart items entry other (λ same. apart (cc))) (runs.each other its under is),
          λ run does. rw disk (runs.attaches other its under run is does),
        ))

    -- A put or a read ends, or a call is answered in its first turn.
    pub answers_call : IsTheirs clients commit → IsNoCommit old.under_way → StandsNow
        → Runs world script past after grown news
    answers_call theirs was_none = search (answered_with, commit_stays, idle_no_commit)

    -- A commit is cut short, and none is under way.
    pub commit_is_cut : commit ≡ None → OnlyIt clients index → StandsNow → Runs world script past after grown news
    commit_is_cut none only = answered_with (rw none (commit_gone was changes (idle_no_commit ended) only))

  -- A commit ends its group.
  module _ {attached : Type 0} (under : UnderWay) {next : Kept} {group : GroupItem}
      (has_begun : HasBegun world items runs.item runs.begun under.at attached)
      (so_far : Recorded world past items runs.item runs.last runs.begun before.disk)
      (begun_is : runs.begun ≡ next ∷ []) (only : OnlyIt clients index) (disk : after.disk ≡ before.disk)
      (group_is : group ≡ record {
        group = next.uber.group;
        after = under.at;
        from = next.uber.reflow.from;
        to = next.uber.reflow.to;
      })
      (stands : Stands (setting_now runs) next [] map undamaged runs.contents (calls_under_way news) None after) where
    abbrev with_one : List Item
    with_one = items ++ Group group ∷ []

    is_next : IsBegunAt world items runs.item under.at attached next
    is_next = search (head_is, arith)

    knows : Knows (setting_now runs) next [] before.disk
    knows = rw disk at stands.groups.knows

    -- The others' calls make no commit.
    others_left : (other : ℕ) (its : Client) (its_under : UnderWay) → other ≢ index
        → IsGoing clients other its its_under
        → IsKnown world script with_one group runs.reach next [] after.disk (runs.contents other) other its its_under
    others_left other its its_under apart is =
        let none : MakesCommit its_under.work → ⊥ = λ makes. apart (only other its its_under is makes) in (
          client_grown (Group group ∷ []) (λ was. group_free world with_one group [] its_under.at its_under.work none)
              (search group_apart) (runs.each other its its_under is),
          λ run does. rw disk (early_known (setting_now runs) (setting_now runs) runs.last next runs.begun []
              before.disk run (before_commit run (λ makes. none (subst MakesCommit (sym does) makes)))
              (runs.attaches other its its_under run is does)),
        )

    -- Its item is listed alone: the call that made it goes on, with this work.
    pub commit_makes : {does : Work} → (attached → ⊥)
        → client ≡ record { begun = old.begun; under_way = Some (record { at = under.at; work = does }) }
        → old.under_way ≡ Some under → (MakesCommit does → ⊥) → ((run : AttachRun) → does ≡ work.Attach run → ⊥)
        → ((asked : ScriptCall) → slice_get (calls_of script index) (client.begun - 1) ≡ Some asked
        → HasContent world with_one asked under.at (runs.contents index) does)
        → IsListedWith past.banks items with_one after.disk → Runs world script past after with_one news
    commit_makes {does = does} none client_is old_is no_commit no_attach has with =
        let mine = runs.each index old under (record { there = was; under_way = old_is }) in
        runs_with takes runs {reach = runs.reach} {commit = None}
        (subst (Recorded world past with_one group next []) (sym disk) (recorded_makes (rw begun_is at so_far) is_next
        knows (cc) (cc) (cc) (cc) none (search (length-append, arith))))
        (search map_grown_group) (commit_gone was changes (work_no_commit going no_commit) only)
        (the_one (IsKnown world script with_one group runs.reach next [] after.disk (runs.contents index) index client)
        going (
          record {
            at = (mine.at.0, search (length-append, arith));
            after = λ place entry there caller. mine.after place entry (group_apart items group place there) caller;
            group = search group_free;
            content = has;
          },
          λ run is. absurd (no_attach run is),
        )) others_left
      where
        going : client.under_way ≡ Some (record { at = under.at; work = does })
        going = cc

    -- It is listed before the entry of its call, which is answered.
    pub commit_ends : {entry : Entry} → entry.caller ≡ index → client.under_way ≡ None
        → (attached → IsAttachOf (with_one ++ CallItem entry ∷ []) (runs.item.from + 1) group.group)
        → IsRightNext world with_one entry after.disk → IsAnswerOf entry.kind entry.answer
        → map_after_answer world.handed map entry entry.answer ≡ map
        → IsListedWith past.banks items (with_one ++ CallItem entry ∷ []) after.disk
        → Runs world script past after (with_one ++ CallItem entry ∷ []) news
    commit_ends {entry = entry} caller ended told right answers no_block with = runs_with takes runs
        {reach = runs.reach} {commit = None}
        (subst (Recorded world past (with_one ++ CallItem entry ∷ []) group next []) (sym disk)
        (recorded_ends (rw begun_is at so_far) is_next knows (cc) (cc) (cc) (cc) entry told (search arith) answers
        (both_with (omega arith) (omega arith)) (search (both_with, length-append, arith))))
        (search (map_grown_call, map_grown_group, no_block)) (commit_gone was changes (idle_no_commit ended) only)
        (search no_one)
        (λ other its its_under apart is.
        let known = others_left other its its_under apart is in (
          client_grown (CallItem entry ∷ []) (search group_grown)
              (entry_apart with_one entry other (λ same. apart (cc))) known.0,
          known.1,
        ))
      where
        -- Both were listed with this bank.
        both_with : {count : ℕ} → length items < count → count ≤ length items + 1 + 1 → past.banks count ≡ before.disk
        both_with from until = search (length-append, arith)
