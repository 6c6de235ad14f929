-- What the first turn of a client's put comes to.
use Rattle.schedule.proofs.Words.{◌≡◌, ◌≢◌, ℕ, List, length, Some, None, refl, sym, subst, Contains, slice_get}
use Rattle.schedule.proofs.Words.{AreBytes, Answer, Entry, map_of, ScriptCall, fill_bytes, Script, calls_of, PutRun}
use Rattle.schedule.proofs.Words.{More, Busy, Done, BeginsPutTurn, LeavesBlocks, HoldingCall, actor_of, keeps_gained}
use Rattle.schedule.proofs.Words.{begins_rearranges, put_begins_calls, put_refused_calls, put_begins_stands}
use Rattle.schedule.proofs.Words.{put_refused_stands, Client, calls_under_way, TurnState, LeavesBegun, TakesTurn}
use Rattle.core_state.specs.declared.answer.Kind.TheVariants as kind
use Rattle.schedule.specs.declared.client.Work.TheVariants as work
use Rattle.schedule.proofs.turn.Fitting.{IsPlainKind, fits, plain_no_limit}
use Rattle.schedule.proofs.turn.RightNext.{put_right}
use Rattle.schedule.proofs.turn.Theirs.{calls_of_others}
use Rattle.schedule.proofs.put.Full.{full_put}
use Rattle.schedule.proofs.turn.Running.{sets_content}
use Rattle.schedule.proofs.turn.Comes.{ItComes, OfRuns, StandsNow, comes_at_once, comes_begun, comes_waiting}
use Rattle.schedule.proofs.turn.Comes.{first_entry, held_gains}
use Rattle.schedule.proofs.put.Puts.{Refuses, put_refused, unstored_plain, unstored_answers, unstored_map}
use Rattle.schedule.proofs.put.Puts.{rearranged_leaves, refused_leaves}
use Rattle.schedule.proofs.turn.LeavesPool.{LeavesPool}

module _ {script : Script} {actor : ℕ} {before after : TurnState} {clients news : List Client}
    (takes : TakesTurn script actor before after clients news) {call : ScriptCall} {id : ℕ}
    (asked : call.kind ≡ kind.Put) (id_is : call.id ≡ Some id) (idle : before.client.under_way ≡ None)
    (next : slice_get (calls_of script actor) before.client.begun ≡ Some call)
    (disk : after.state.disk ≡ before.state.disk) where
  abbrev content : List ℕ
  content = fill_bytes call.fill

  open before.state use {core as old}
  open after.state use {core as now}

  -- It begins on sectors that no other call has.
  pub put_begins : (run : PutRun) → AreBytes content → BeginsPutTurn old now actor id (length content) (More run)
      → LeavesBegun actor call before after (More (work.Put run)) → ItComes takes
  put_begins run are begins begun =
      let gains = held_gains takes idle change disk next begun refl in
      comes_begun takes idle change disk next begun refl tt (cc) (asked, cc, cc) (search (put_begins_calls, others))
      (λ world past runs. (
        content,
        refl,
        rw disk (put_begins_stands begins refl are others (sets_content runs.contents actor content) gains runs.stands),
      ))
    where
      change : LeavesPool old now
      change = rearranged_leaves old now (search begins_rearranges)
          (keeps_gained old.pool.done old.holds now.holds run.hold (cc) (rw begins.hold_is begins.begins.first.clear)
          begins.holds)

      others : (other : HoldingCall) → Contains (calls_under_way clients) other → actor_of other ≢ actor
      others = search calls_of_others

  -- A refusal leaves what stands.
  refused_stands : LeavesBlocks old now → OfRuns takes (λ world past runs.
      StandsNow takes runs runs.contents (map_of world.handed world.opening before.items) (calls_under_way clients))
  refused_stands leaves world past runs = rw disk (put_refused_stands leaves runs.stands)

  -- One that finds another's sectors in its way waits.
  pub put_waits : {by : ℕ} → BeginsPutTurn old now actor id (length content) (Busy by)
      → LeavesBegun actor call before after (Busy by) → ItComes takes
  put_waits waits leaves = search (comes_waiting, refused_leaves, put_refused_calls, refused_stands)

  -- One is refused: too many devices are out, the table is full, no run of free sectors fits, or memory is exhausted.
  pub put_at_once : (given : Answer) → BeginsPutTurn old now actor id (length content) (Done given)
      → LeavesBegun actor call before after (Done given) → ItComes takes
  put_at_once given is leaves =
      let refuses : Refuses old now given = put_refused id (length content) given is in
      let entry : Entry = first_entry call actor before given in
      comes_at_once takes idle (refused_leaves old now refuses.leaves) disk next leaves (fits
      (rw asked (unstored_answers given refuses.unstored)) refuses.tells
      (plain_no_limit (unstored_plain given refuses.unstored)) (subst IsPlainKind (sym asked) tt))
      (λ full.
      full_put script takes.schedule actor before.client.begun call id next asked id_is (rw full at is).1)
      (search put_refused_calls) (search (put_right, unstored_plain, unstored_map, refused_stands))
