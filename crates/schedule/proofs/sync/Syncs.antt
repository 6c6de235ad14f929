-- A sync among the calls under way: its commit is the core's, and what it may be answered in its first turn.
use Rattle.schedule.proofs.Words.{◌≡◌, ℕ, List, length, Option, Some, None, arith, Disk, Answer, Kind, Entry, Item, Map}
use Rattle.schedule.proofs.Words.{PutBytes, map_after_answer, IsGroupBefore, IsAnswerOf, Kept, Setting, Knows, World}
use Rattle.schedule.proofs.Words.{Point, CommitRun, HasCalled, committing_knows, Core, CoreState, HasTooManyOut}
use Rattle.schedule.proofs.Words.{IsSyncRefused, HoldingCall, GroupsStand, Stands, shown_of, shown_one, Client}
use Rattle.schedule.proofs.Words.{UnderWay, IsGroupKind, IsRightNext, IsGoing, IsTheirs, commit_in, undamaged}
use Rattle.core_state.specs.declared.answer.Answer.TheVariants as answer
use Rattle.core_state.specs.declared.item.Group.{Group as GroupItem}
use Rattle.schedule.proofs.turn.Recording.{HalvesGoOn, HasParityOf}
use Rattle.schedule.proofs.turn.RightNext.{group_cut_right, group_limit_right}
use Rattle.schedule.proofs.turn.Theirs.{OnlyIt, makes_commit, some_is}

-- ---- the core's commit

module _ {setting : Setting} {last : Kept} {begun : List Kept} {map : Map} {contents : ℕ → List ℕ}
    {calls : List HoldingCall} {state : CoreState} where
  -- What is certain of the last group and of those that images can show, whether a commit is under way or not.
  pub stands_know : {commit : Option CommitRun} → Stands setting last begun map undamaged contents calls commit state
      → Knows setting last (shown_of begun commit) state.disk
  stands_know {commit} stands = search (shown_one, committing_knows, arith)

  -- The group of a commit has the parity of the last one.
  pub begun_parity : {run : CommitRun} → Stands setting last begun map undamaged contents calls (Some run) state
      → HasParityOf last begun
  begun_parity stands kept is = cc

-- A call of a commit is in the half that it is in, or in the second one.
pub halves_go : {run next : CommitRun} {before after : Point} → HasCalled run before next after
    → HalvesGoOn run.stage next.stage
halves_go {run} {next} {before} did = grind arith

-- Where the core has no commit under way, none stands;
pub no_commit : (setting : Setting) (last : Kept) (begun : List Kept) (calls : List HoldingCall)
    (commit : Option CommitRun) (state : CoreState) → state.core.committing ≡ None
    → GroupsStand setting last begun calls commit state → commit ≡ None
no_commit setting last begun calls commit state none groups = grind arith

-- and the one that stands is that of the client whose work makes one.
pub its_commit : {clients : List Client} {index : ℕ} {client : Client} {under : UnderWay} {run : CommitRun}
    (commit : Option CommitRun) → IsGoing clients index client under → commit_in under.work ≡ Some run
    → OnlyIt clients index → IsTheirs clients commit → commit ≡ Some run
its_commit commit going does_is only none = search (makes_commit, some_is, arith)

-- ---- answers of the first turn

-- It tells of too many devices where they are out,
pub refused_tells : (core : Core) (given : Answer) → IsSyncRefused core given → (listed : ℕ)
    → given ≡ answer.TooManyFailed listed → HasTooManyOut core × (listed ≡ core.pool.out)
refused_tells core given refused listed is = grind arith

-- changes no block,
pub refused_map : (handed : PutBytes) {map : Map} (entry : Entry) (core : Core) (given : Answer)
    → IsSyncRefused core given → map_after_answer handed map entry given ≡ map
refused_map handed {map = map} entry core given refused = grind arith

-- answers any call,
pub refused_answers : (asked : Kind) (core : Core) (given : Answer) → IsSyncRefused core given → IsAnswerOf asked given
refused_answers asked core given refused = grind arith

-- and is right where the last group listed is the last one begun, if none is under way.
pub refused_right : (world : World) {items : List Item} {item : GroupItem} {entry : Entry} {disk : Disk} (core : Core)
    (given : Answer) → IsGroupKind entry.kind → entry.answer ≡ given → IsGroupBefore items (length items) item
    → (core.committing ≡ None → core.begun ≡ item.group) → IsSyncRefused core given → IsRightNext world items entry disk
refused_right world {items} {item} {entry} {disk} core given asked is latest last refused =
    grind (arith, group_cut_right, group_limit_right)
