-- What a turn of a client leaves, whatever it was a turn of: of the runs of sectors that were taken, of the pool's
-- group and of who holds sectors; and what it lists.
use Rattle.schedule.proofs.Words.{Answer, AnswersAtOnce, Began, Busy, CopyRun, Core, CoreState, Done, Entry, GoesOnBy}
use Rattle.schedule.proofs.Words.{Group, HasNoFreeRun, IsCore, IsOpenSince, Item, Kind, List, MayGoOn, More, None}
use Rattle.schedule.proofs.Words.{Option, Run, ScriptCall, Some, TurnState, Turned, Uber, UnderWay, Went, Work}
use Rattle.schedule.proofs.Words.{[], arith, begun_at, commit_in, entry_for, fill_bytes, group_by, group_for, inl}
use Rattle.schedule.proofs.Words.{length, length_put, listed_for, listed_on, made_by, made_in, sectors_taken}
use Rattle.schedule.proofs.Words.{sharing_in, sharing_under, slice_get, ℕ, ◌++◌, ◌+◌, ◌-◌, ◌∷◌, ◌≡◌, ◌⊎◌}
use Rattle.core_state.specs.declared.answer.Answer.TheVariants as answer
use Rattle.core_state.specs.declared.item.Item.TheVariants.{Call as CallItem}
use Rattle.schedule.specs.declared.client.Work.TheVariants as work
use Rattle.schedule.specs.Turned.{listed_of}
use Rattle.schedule.proofs.attach.Uses.{attach_ends, attach_goes}
use Rattle.schedule.proofs.copy.Uses.{copy_ends, copy_goes, round_plain}
use Rattle.schedule.proofs.turn.UsingEnds.{EndsAs, EndsPlainly, ends_plainly, plain_ends, put_ends, read_ends}
use Rattle.schedule.proofs.turn.UsingEnds.{sync_ends}
use Rattle.schedule.proofs.turn.UsingTurns.{BeginsOn, FitsPut, GoesAs, GoesOn, answers_with, core_goes}
use Rattle.schedule.proofs.turn.UsingTurns.{job_in, on_none, waits_with, works_begin}

-- ---- what is listed

-- An end without a group lists its entry alone,
pub plain_listed : (core : Core) (items : List Item) (at : ℕ) (entry : Entry) {made : Option ℕ} {given : Answer}
    → EndsPlainly given made → listed_for core items at entry made given ≡ items ++ CallItem entry ∷ []
plain_listed core items at entry plain = cc

-- and one with a group both.
pub group_listed : (core : Core) (items : List Item) (at : ℕ) (entry : Entry) (made : Option ℕ) (given : Answer)
    {number : ℕ} → group_by given made ≡ Some number
    → listed_for core items at entry made given ≡ (items ++ Group (group_for core at number) ∷ []) ++ CallItem entry
    ∷ []
group_listed core items at entry made given is = cc

-- Either way the entry comes behind the group.
entry_listed : (core : Core) (items : List Item) (at : ℕ) (entry : Entry) (made : Option ℕ)
    → listed_of core.pool.uber.reflow items at entry made
    ≡ listed_on core.pool.uber.reflow items at made ++ CallItem entry ∷ []
entry_listed core items at entry made = grind arith

-- ---- later turns

module _ (before after : CoreState) (is : IsCore before.core) where
  abbrev old : Core
  old = before.core

  abbrev new : Core
  new = after.core

  -- One after which the call goes on,
  pub works_go : (call : ScriptCall) (does next : Work) → MayGoOn old call does
      → GoesOnBy before after call does (More next)
      → GoesAs old new [] (made_in next) (job_in does) (job_in next) (sharing_in does) (sharing_in next)
  works_go call (work.Put run) (work.Put next) may goes = core_goes goes.writes.rest
  works_go call (work.Read run) (work.Read next) may goes = core_goes goes.reads.2
  works_go call (work.Sync run) (work.Sync next) may goes = core_goes goes.2
  works_go call (work.Attach run) (work.Attach next) may goes = attach_goes before after is run next goes.0
  works_go call (work.Copy round) (work.Copy next) may goes = search copy_goes
  works_go call does next may goes = absurd goes

  -- and the last.
  pub works_end : (call : ScriptCall) (does : Work) (given : Answer) → MayGoOn old call does
      → GoesOnBy before after call does (Done given)
      → EndsAs old new given (made_by does) (job_in does) (sharing_in does)
  works_end call (work.Put run) given may goes =
      let ends = put_ends before after run given may.0 goes in ends_plainly (plain_ends ends.0) ends.1
  works_end call (work.Read run) given may goes =
      let ends = read_ends before after run given may.1 goes in ends_plainly (plain_ends ends.0) ends.1
  works_end call (work.Sync run) given may goes = sync_ends before after given is may goes
  works_end call (work.Attach run) given may goes = attach_ends before after is run given may goes
  works_end call (work.Copy round) given may goes = copy_ends before after call round given goes

-- ---- a turn of a client

-- the job of a call under way, if it is one
abbrev pub job_under : Option UnderWay → Option CopyRun
job_under None = None
job_under (Some under) = job_in under.work

-- The client's next call, a put, finds no space for its bytes, and is answered so.
pub record FindsNone (calls : List ScriptCall) (actor : ℕ) (before : TurnState) (entry : Entry) (size : ℕ) : Type 0 where
  pub call : ScriptCall
  pub next : slice_get calls before.client.begun ≡ Some call
  pub entry_is : entry ≡ entry_for call actor (before.client.begun + 1) (length before.items) entry.answer
  pub size_is : size ≡ sectors_taken before.state.core.pool.uber.parity before.state.core.pool.uber.births
      (length (fill_bytes call.fill)) (before.state.core.begun + 1)
  pub none : HasNoFreeRun before.state.core.pool.blocks.space before.state.core.holds size

-- The client began no call, and no run was taken; or its next one, of which these runs are.
abbrev pub BeginsAtMost : List ScriptCall → TurnState → TurnState → List Run → Type 0
BeginsAtMost calls before after more = ((after.client.begun ≡ before.client.begun) × (more ≡ []))
    ⊎ ((after.client.begun ≡ before.client.begun + 1) × (before.client.under_way ≡ None) × (call : ScriptCall)
    × (slice_get calls before.client.begun ≡ Some call) × ((uber : Uber) → IsOpenSince uber before.state.core
    → FitsPut uber more (length_put call.kind (fill_bytes call.fill))))

-- Behind some items an answer is listed, or none. It tells of no space only where these are the items from before the
-- turn, and the next call finds none.
abbrev pub AnswersBehind : List ScriptCall → ℕ → TurnState → List Item → List Item → Type 0
AnswersBehind calls actor before items now = (now ≡ items)
    ⊎ ((entry : Entry) × (now ≡ items ++ CallItem entry ∷ []) × ((size : ℕ) → entry.answer ≡ answer.NoSpace size
    → (items ≡ before.items) × FindsNone calls actor before entry size))

-- What a turn of a client leaves: it may take runs, for a call that begins, and lists a group, if it answers one, and
-- then an answer, if it gives one.
pub record TurnLeaves (calls : List ScriptCall) (actor : ℕ) (before after : TurnState) : Type 0 where
  pub more : List Run
  pub made : Option ℕ
  pub at : ℕ
  pub goes : GoesAs before.state.core after.state.core more made
      (job_under before.client.under_way) (job_under after.client.under_way)
      (sharing_under before.client.under_way) (sharing_under after.client.under_way)
  pub begins : BeginsAtMost calls before after more
  pub lists : AnswersBehind calls actor before (listed_on after.state.core.pool.uber.reflow before.items at made)
      after.items

-- Only a put tells of no space in its first turn.
first_none : (old new : Core) (devices actor : ℕ) (call : ScriptCall) (asked : Kind) (id : Option ℕ) {size : ℕ}
    → AnswersAtOnce old new devices actor call asked id (answer.NoSpace size)
    → (size ≡ sectors_taken old.pool.uber.parity old.pool.uber.births (length (fill_bytes call.fill)) (old.begun + 1))
    × HasNoFreeRun old.pool.blocks.space old.holds size
first_none old new devices actor call asked id answers = grind (arith, call, round_plain)

module _ {calls : List ScriptCall} {actor : ℕ} {before after : TurnState} (is : IsCore before.state.core)
    (may : (under : UnderWay) (call : ScriptCall) → before.client.under_way ≡ Some under
    → slice_get calls (before.client.begun - 1) ≡ Some call → MayGoOn before.state.core call under.work) where
  -- So it is where no call begins, goes on or ends,
  leaves_idle : GoesOn before.state.core after.state.core → before.client.under_way ≡ None
      → after.client ≡ before.client → after.items ≡ before.items → TurnLeaves calls actor before after
  leaves_idle goes idle same items = record {
    more = [];
    made = None;
    at = 0;
    goes = rw (same, idle) goes;
    begins = search arith;
    lists = inl items;
  }

  -- where one begins,
  leaves_begun : (call : ScriptCall) (now : Option UnderWay) → before.client.under_way ≡ None
      → slice_get calls before.client.begun ≡ Some call
      → BeginsOn before.state.core after.state.core (length_put call.kind (fill_bytes call.fill)) (job_under now)
      (sharing_under now) → after.client ≡ record { begun = before.client.begun + 1; under_way = now }
      → AnswersBehind calls actor before before.items after.items → TurnLeaves calls actor before after
  leaves_begun call now idle next on client lists = record {
    more = on.more;
    made = None;
    at = 0;
    goes = rw (idle, client) on.goes;
    begins = search arith;
    lists = lists;
  }

  -- or where one goes on or ends,
  leaves_going : (under : UnderWay) (now : Option UnderWay) (made : Option ℕ) (at : ℕ)
      → before.client.under_way ≡ Some under
      → GoesAs before.state.core after.state.core [] made (job_in under.work) (job_under now) (sharing_in under.work)
      (sharing_under now) → after.client ≡ record { begun = before.client.begun; under_way = now }
      → AnswersBehind calls actor before (listed_on after.state.core.pool.uber.reflow before.items at made) after.items
      → TurnLeaves calls actor before after
  leaves_going under now made at going goes client lists = record {
    more = [];
    made = made;
    at = at;
    goes = rw (going, client) goes;
    begins = search arith;
    lists = lists;
  }

  -- so with each turn.
  pub turn_leaves : Turned calls actor before after → TurnLeaves calls actor before after
  turn_leaves (Began (More does) begins leaves) = grind (arith, leaves_begun, works_begin)
  turn_leaves (Began (Busy by) begins leaves) = grind (arith, leaves_idle, waits_with)
  turn_leaves (Began (Done given) begins leaves) = leaves_begun begins.call None begins.idle begins.next
      (grind (arith, on_none, answers_with)) leaves.1 (grind (arith, first_none))
  turn_leaves (Went under (More does) goes leaves) = leaves_going under _ (made_in does)
      (begun_at (commit_in does) (commit_in under.work) under.at (length before.items)) goes.going
      (search works_go) leaves.1 (inl leaves.0)
  turn_leaves (Went under (Busy by) goes leaves) = absurd leaves
  turn_leaves (Went under (Done given) goes leaves) =
      let ends = works_end before.state after.state is goes.call under.work given
      (may under goes.call goes.going goes.is) goes.did in
      leaves_going under None (group_by given (made_by under.work)) under.at goes.going ends.goes leaves.1
      (grind (arith, entry_listed))
