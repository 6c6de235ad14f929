-- What a turn of one client comes to, whatever it did.
use Rattle.schedule.proofs.Words.{◌≡◌, ⊎_elim, ℕ, ◌-◌, List, Option, Some, None, refl, sym, subst, arith, slice_get}
use Rattle.schedule.proofs.Words.{cases_lt, get_or_past, AreBytes, Answer, Kind, ScriptCall, Script, MayHave, IsAllowed}
use Rattle.schedule.proofs.Words.{calls_of, Turn, More, Busy, Done, Reads, Checked, Joins, Signs, Rests, Copies}
use Rattle.schedule.proofs.Words.{Commits, GetRun, IsCore, IsReadKind, BeginsGet, Client, UnderWay, Work, TakesTurn}
use Rattle.schedule.proofs.Words.{Comes, TurnState, BeginsWork, Waits, AnswersAtOnce, BeginsCall, GoesOnBy, LeavesBegun}
use Rattle.schedule.proofs.Words.{LeavesGoing, HasTableOf, Turned, WorkGoesOn, Began, Went}
use Rattle.core_state.specs.declared.answer.Kind.TheVariants as kind
use Rattle.schedule.specs.declared.client.Work.TheVariants as work
use Rattle.schedule.proofs.attach.Comes.{attach_at_once, attach_begins, attach_waits}
use Rattle.schedule.proofs.attach.Commits.{join_drops, join_goes, signs_on}
use Rattle.schedule.proofs.attach.Cut.{attach_cut}
use Rattle.schedule.proofs.attach.Ends.{attach_ends}
use Rattle.schedule.proofs.attach.Joins.{attach_joins}
use Rattle.schedule.proofs.attach.Widens.{join_joins}
use Rattle.schedule.proofs.attach.Reads.{commit_refused, device_refused, finds_free, reads_next, waits_on}
use Rattle.schedule.proofs.free.Comes.{free_at_once}
use Rattle.schedule.proofs.put.Comes.{put_begins, put_waits, put_at_once}
use Rattle.schedule.proofs.put.Goes.{put_goes_on, put_ends}
use Rattle.schedule.proofs.read.Comes.{read_begins, read_waits, read_at_once, read_goes_on, read_ends}
use Rattle.schedule.proofs.sync.Comes.{sync_begins, sync_waits, sync_at_once}
use Rattle.schedule.proofs.sync.Works.{copy_makes, sync_makes}
use Rattle.schedule.proofs.copy.Comes.{copy_at_once, copy_begins, copy_commits, copy_waits}
use Rattle.schedule.proofs.copy.Goes.{commits_cut, commits_make, copies_cut, copies_end, copies_on, rests_commits}
use Rattle.schedule.proofs.copy.Goes.{rests_copies, rests_ends, rests_lacks, rests_on}
use Rattle.schedule.proofs.sync.Goes.{commit_goes_further, sync_ends}

-- What a put may have are bytes.
put_bytes : (id : Option ℕ) {bytes : List ℕ} → MayHave kind.Put id bytes → AreBytes bytes
put_bytes id may at = search (get_or_past, cases_lt, arith)

module _ {script : Script} {actor : ℕ} {before after : TurnState} {clients news : List Client}
    (takes : TakesTurn script actor before after clients news) where
  abbrev ItComes : Type 0
  ItComes = Comes script actor before after clients news

  -- A first turn:
  module _ {call : ScriptCall} (allowed : IsAllowed call) (idle : before.client.under_way ≡ None)
      (next : slice_get (calls_of script actor) before.client.begun ≡ Some call)
      (disk : after.state.disk ≡ before.state.disk) where
    -- as the core says it of a read of this kind
    as_read : {asked : Kind} (id : ℕ) (turn : Turn GetRun) → call.kind ≡ asked
        → BeginsGet before.state.core after.state.core actor asked id turn
        → BeginsGet before.state.core after.state.core actor call.kind id turn
    as_read id turn is = search arith

    is_read : {asked : Kind} → call.kind ≡ asked → IsReadKind asked → IsReadKind call.kind
    is_read is = subst IsReadKind (sym is)

    -- one that goes on,
    begins_by : (asked : Kind) (id : Option ℕ) (does : Work) → call.kind ≡ asked → call.id ≡ id
        → BeginsWork before.state.core after.state.core before.state.disk.devices actor call asked id does
        → HasTableOf before.state.core (More does) → LeavesBegun actor call before after (More does) → ItComes
    begins_by kind.Put (Some id) (work.Put run) asked id_is did table leaves =
        put_begins takes asked id_is idle next disk run (put_bytes call.id (search arith)) did leaves
    begins_by kind.Get (Some id) (work.Read run) asked id_is did table leaves = search (read_begins, is_read, as_read)
    begins_by kind.Sum (Some id) (work.Read run) asked id_is did table leaves =
        search (read_begins, is_read, as_read, arith)
    begins_by kind.Sync None (work.Sync run) asked id_is did table leaves = search sync_begins
    begins_by kind.Attach None (work.Attach run) asked id_is did table leaves = search attach_begins
    begins_by kind.Copy None (work.Copy (Copies run)) asked id_is did table leaves = search copy_begins
    begins_by kind.Copy None (work.Copy (Commits run)) asked id_is did table leaves = search copy_commits
    begins_by asked id does asked_is id_is did table leaves = absurd did

    -- one that waits,
    waits_by : (asked : Kind) (id : Option ℕ) (by : ℕ) → call.kind ≡ asked → call.id ≡ id
        → Waits before.state.core after.state.core before.state.disk.devices actor call asked id by
        → LeavesBegun actor call before after (Busy by) → ItComes
    waits_by kind.Put (Some id) by asked id_is did leaves = search put_waits
    waits_by kind.Get (Some id) by asked id_is did leaves =
        read_waits takes call (is_read asked tt) id_is idle next disk (as_read id (Busy by) asked did) leaves
    waits_by kind.Sum (Some id) by asked id_is did leaves =
        read_waits takes call (is_read asked tt) id_is idle next disk (as_read id (Busy by) asked did) leaves
    waits_by kind.Sync None by asked id_is did leaves = search sync_waits
    waits_by kind.Attach None by asked id_is did leaves = search attach_waits
    waits_by kind.Copy None by asked id_is did leaves = search copy_waits
    waits_by asked id by asked_is id_is did leaves = absurd did

    -- and one that is answered at once.
    answers_by : (asked : Kind) (id : Option ℕ) (given : Answer) → call.kind ≡ asked → call.id ≡ id
        → AnswersAtOnce before.state.core after.state.core before.state.disk.devices actor call asked id given
        → LeavesBegun actor call before after (Done given) → ItComes
    answers_by kind.Put (Some id) given asked id_is did leaves = search put_at_once
    answers_by kind.Get (Some id) given asked id_is did leaves = search (read_at_once, is_read)
    answers_by kind.Sum (Some id) given asked id_is did leaves = search (read_at_once, is_read, arith)
    answers_by kind.Free (Some id) given asked id_is did leaves = search free_at_once
    answers_by kind.Sync None given asked id_is did leaves = search sync_at_once
    answers_by kind.Attach None given asked id_is did leaves = search attach_at_once
    answers_by kind.Copy None given asked id_is did leaves = search copy_at_once
    answers_by asked id given asked_is id_is did leaves = absurd did

    began_by : (turn : Turn Work) → BeginsCall before.state.core after.state.core before.state.disk.devices actor call
        turn → HasTableOf before.state.core turn → LeavesBegun actor call before after turn → ItComes
    began_by turn did table leaves = grind (arith, begins_by, waits_by, answers_by)

  -- A later turn.
  module _ {under : UnderWay} {call : ScriptCall} (going : before.client.under_way ≡ Some under)
      (is : slice_get (calls_of script actor) (before.client.begun - 1) ≡ Some call)
      (still : IsCore after.state.core) where
    went_by : (does : Work) (turn : Turn Work) → under.work ≡ does → WorkGoesOn does before.state after.state
        → GoesOnBy before.state after.state call does turn → LeavesGoing actor call before after under turn → ItComes
    went_by (work.Put run) (More (work.Put next)) does_is goes did leaves = search put_goes_on
    went_by (work.Put run) (Done given) does_is goes did leaves = search put_ends
    went_by (work.Read run) (More (work.Read next)) does_is goes did leaves = search read_goes_on
    went_by (work.Read run) (Done given) does_is goes did leaves = search read_ends
    went_by (work.Sync run) (More (work.Sync next)) does_is goes did leaves = search (commit_goes_further, sync_makes)
    went_by (work.Sync run) (Done given) does_is goes did leaves = search (sync_ends, sync_makes)
    went_by (work.Attach (Reads ring)) (More (work.Attach (Reads next))) does_is goes did leaves = search reads_next
    went_by (work.Attach (Reads ring)) (More (work.Attach (Checked found))) does_is goes did leaves = search finds_free
    went_by (work.Attach (Reads ring)) (Done given) does_is goes did leaves = search device_refused
    went_by (work.Attach (Checked found)) (More (work.Attach (Checked next))) does_is goes did leaves = search waits_on
    went_by (work.Attach (Checked found)) (More (work.Attach (Joins join))) does_is goes did leaves = search attach_joins
    went_by (work.Attach (Checked found)) (Done given) does_is goes did leaves = search commit_refused
    went_by (work.Attach (Joins join)) (More (work.Attach (Joins next))) does_is goes did leaves = search join_goes
    went_by (work.Attach (Joins join)) (More (work.Attach (Signs made None))) does_is goes did leaves =
        search join_joins
    went_by (work.Attach (Joins join)) (More (work.Attach (Signs made (Some because)))) does_is goes did leaves =
        search join_drops
    went_by (work.Attach (Signs commit because)) (More (work.Attach (Signs next same))) does_is goes did leaves =
        search signs_on
    went_by (work.Attach (Joins join)) (Done given) does_is goes did leaves =
        attach_cut takes refl does_is going is goes did.0 given did.1 leaves
    went_by (work.Attach (Signs commit because)) (Done given) does_is goes did leaves = ⊎_elim
        (λ stops. attach_cut takes refl does_is going is goes stops.0 given stops.1 leaves) (search attach_ends) did
    went_by (work.Attach run) (More (work.Attach next)) does_is goes did leaves = absurd did.0
    went_by (work.Copy (Rests whose made)) (More (work.Copy (Rests next now_made))) does_is goes did leaves =
        search rests_on
    went_by (work.Copy (Rests whose made)) (More (work.Copy (Copies run))) does_is goes did leaves = search rests_copies
    went_by (work.Copy (Rests whose made)) (More (work.Copy (Commits run))) does_is goes did leaves =
        search rests_commits
    went_by (work.Copy (Rests whose None)) (Done given) does_is goes did leaves = ⊎_elim
        (search rests_ends)
        (λ lacks. absurd lacks) did
    went_by (work.Copy (Rests whose (Some made))) (Done given) does_is goes did leaves = ⊎_elim
        (search (rests_ends, arith))
        (λ lacks. search rests_lacks) did
    went_by (work.Copy (Copies run)) (More (work.Copy (Copies next))) does_is goes did leaves = search copies_on
    went_by (work.Copy (Copies run)) (More (work.Copy (Rests whose made))) does_is goes did leaves = search copies_end
    went_by (work.Copy (Copies run)) (Done given) does_is goes did leaves = ⊎_elim
        (search copies_cut)
        (λ lacks. absurd lacks) did
    went_by (work.Copy (Commits run)) (More (work.Copy (Commits next))) does_is goes did leaves =
        search (commit_goes_further, copy_makes)
    went_by (work.Copy (Commits run)) (More (work.Copy (Rests whose made))) does_is goes did leaves =
        search commits_make
    went_by (work.Copy (Commits run)) (Done given) does_is goes did leaves = ⊎_elim
        (search commits_cut)
        (λ lacks. absurd lacks) did
    went_by (work.Copy round) (More (work.Copy next)) does_is goes did leaves = absurd did.0
    went_by does turn does_is goes did leaves = absurd did

  -- **A turn of a client comes to a state in which the next turn may be taken, and what stood between two turns
  -- stands.**
  pub turned_comes : ((number : ℕ) (call : ScriptCall) → slice_get (calls_of script actor) number ≡ Some call
      → IsAllowed call)
      → Turned (calls_of script actor) actor before after → Comes script actor before after clients news
  turned_comes allowed (Began turn begins leaves) = search (began_by, arith)
  turned_comes allowed (Went under turn goes leaves) = search (went_by, arith)
