-- What the turns of reads come to.
use Rattle.schedule.proofs.Words.{◌≡◌, ◌≢◌, ℕ, ◌-◌, List, [], Some, None, refl, sym, ◌∙◌, ap, subst, arith, Contains}
use Rattle.schedule.proofs.Words.{slice_get, option_and_then, Hold, Gains, Answer, Kind, Entry, Map, map_of, map_after}
use Rattle.schedule.proofs.Words.{IsAnswerOf, found_id, gains_item, IsReadRight, ScriptCall, Script, calls_of}
use Rattle.schedule.proofs.Words.{map_at_end, GetRun, More, Busy, Done, IsReadKind, BeginsGet, HoldingCall, Reading}
use Rattle.schedule.proofs.Words.{TurnGoesOn, actor_of, since_read, get_finds, keeps_gained, get_begins_stands}
use Rattle.schedule.proofs.Words.{get_reads_stands, get_begins_calls, get_reads_calls, Client, UnderWay, IsWorkFor}
use Rattle.schedule.proofs.Words.{calls_under_way, TurnState, GoesOnReading, EndsReading, LeavesBegun, LeavesGoing}
use Rattle.schedule.proofs.Words.{entry_for, TakesTurn}
use Rattle.core_state.specs.declared.answer.Answer.TheVariants as answer
use Rattle.schedule.specs.declared.client.Work.TheVariants as work
use Rattle.schedule.proofs.turn.Fitting.{fits, read_plain_kind}
use Rattle.schedule.proofs.turn.Below.{below_end}
use Rattle.schedule.proofs.turn.Theirs.{calls_of_others}
use Rattle.schedule.proofs.put.Full.{put_alone, read_no_put}
use Rattle.schedule.proofs.turn.Running.{sets_content, with_content}
use Rattle.schedule.proofs.read.Answered.{EndsRead, listed_read, map_read, right_read, refused_of, refused_right}
use Rattle.schedule.proofs.read.Answered.{read_ends_so}
use Rattle.schedule.proofs.turn.LeavesPool.{LeavesPool, holds_left, leaves_pool, out_keeps}
use Rattle.schedule.proofs.turn.Comes.{GoesFrom, ItComes, comes_begun, comes_finished, comes_nowhere, comes_refused}
use Rattle.schedule.proofs.turn.Comes.{comes_working, held_gains, held_gone, held_moves, its_asked, its_content}
use Rattle.schedule.proofs.turn.Comes.{its_going, its_work}

module _ {script : Script} {actor : ℕ} {before after : TurnState} {clients news : List Client}
    (takes : TakesTurn script actor before after clients news) (call : ScriptCall) where
  open before.state use {core as old}
  open after.state use {core as now}

  -- ---- a read in its first turn

  module _ {id : ℕ} (is : IsReadKind call.kind) (id_is : call.id ≡ Some id) (idle : before.client.under_way ≡ None)
      (next : slice_get (calls_of script actor) before.client.begun ≡ Some call)
      (disk : after.state.disk ≡ before.state.disk) where
    -- A read begins.
    pub read_begins : (run : GetRun) → BeginsGet old now actor call.kind id (More run)
        → LeavesBegun actor call before after (More (work.Read run)) → ItComes takes
    read_begins run begins begun =
        let gains = held_gains takes idle leaves disk next begun refl in
        comes_begun takes idle leaves disk next begun refl tt
        (ap (λ (h : Hold). h.actor) begins.4) (sym begins.2, id_is ∙ ap Some (sym entry_id))
        (get_begins_calls actor id call.kind is takes.is begins others gains takes.schedule.going.are)
        (λ world past runs.
        let map = map_of world.handed world.opening before.items in
        let found = get_begins_stands actor id call.kind takes.is begins others runs.stands in (
          found.0,
          ap (λ (m : Map). m run.entry.id) (map_at_end world.handed world.opening before.items) ∙ ap map entry_id
              ∙ found.1,
          rw disk (found.2 (with_content runs.contents actor found.0) (calls_under_way news)
              (sets_content runs.contents actor found.0) gains),
        ))
      where
        entry_id : run.entry.id ≡ id
        entry_id = found_id old.pool.blocks.table.entries id run.entry begins.1

        leaves : LeavesPool old now
        leaves = leaves_pool old now old.pool.blocks now.holds begins.6
            (keeps_gained old.pool.done old.holds now.holds run.hold
            (ap (λ (h : Hold). h.kind) begins.4) begins.8 begins.9)

        others : (other : HoldingCall) → Contains (calls_under_way clients) other → actor_of other ≢ actor
        others = calls_of_others takes.was idle takes.schedule.going

    -- It waits, and nothing changes.
    pub read_waits : {by : ℕ} → BeginsGet old now actor call.kind id (Busy by)
        → LeavesBegun actor call before after (Busy by) → ItComes takes
    read_waits begins left = comes_nowhere takes (search arith)

    -- It is answered at once.
    pub read_at_once : (given : Answer) → BeginsGet old now actor call.kind id (Done given)
        → LeavesBegun actor call before after (Done given) → ItComes takes
    read_at_once given begins left =
        let of = refused_of old id call.kind given is begins.1 in
        comes_refused takes idle (holds_left begins.0) disk next begins.0 left (search (fits, read_plain_kind, arith))
        (put_alone (read_no_put is) of) (λ handed map entry. map_read handed entry call.kind given is of)
        (λ world past runs.
        let map = map_of world.handed world.opening before.items in
        let none : given ≡ answer.Absent → map id ≡ None = get_finds [] map old now before.state.disk actor id call.kind
        (Done given) runs.stands.holds begins in
        right_read world call actor given is (search arith) (omega arith) (below_end before.items actor)
        (search (refused_right, map_at_end, arith)))

  -- ---- a read in its later turns

  module _ {under : UnderWay} {run : GetRun} (does_is : under.work ≡ work.Read run)
      (under_is : before.client.under_way ≡ Some under)
      (is : slice_get (calls_of script actor) (before.client.begun - 1) ≡ Some call)
      (goes : TurnGoesOn before.state after.state) where
    abbrev from : GoesFrom script actor before after clients news call under (work.Read run)
    from = record { takes = takes; does_is = does_is; under_is = under_is; is = is }

    -- The script asks for it, and it has the client's hold.
    asked_for : IsWorkFor call (work.Read run)
    asked_for = its_asked from

    its : run.hold.actor ≡ actor
    its = (its_work from).hold

    -- A read goes on.
    pub read_goes_on : (next : GetRun) → GoesOnReading before.state after.state run next
        → LeavesGoing actor call before after under (More (work.Read next)) → ItComes takes
    read_goes_on next reads further = comes_working from tt (work.Read next) further tt goes refl
        (out_keeps reads.reads.2 goes.out.still) (ap (λ (r : GetRun). r.hold.actor) same ∙ its) (
          asked_for.0 ∙ sym (ap (λ (r : GetRun). r.kind) same),
          asked_for.1 ∙ sym (ap (λ (r : GetRun). Some r.entry.id) same),
        ) (get_reads_calls reads.reads moves.1 moves.2 takes.schedule.going.are)
        (λ world past runs. (
          search since_read,
          search same,
          get_reads_stands takes.is reads.place reads.left reads.reads reads.unchanged goes.out takes.still_lawful
              moves.1 moves.2 takes.schedule.going.are runs.stands,
        ))
      where
        same : next ≡ record run { read = next.read }
        same = reads.reads.1

        moves : (left : List HoldingCall) × Gains left (calls_under_way clients) (Reading run)
            × Gains left (calls_under_way news) (Reading next)
        moves = held_moves from tt (work.Read next) further tt refl refl

    -- A read ends.
    pub read_ends : (given : Answer) → EndsReading before.state after.state run given
        → LeavesGoing actor call before after under (Done given) → ItComes takes
    read_ends given ending ended = comes_finished from given ended tt goes
        (search (listed_read, entry, call_read, given_is, arith)) ends.leaves ending.disk
        (search (fits, given_is, read_plain_kind, call_read, arith))
        (λ full. put_alone (read_no_put call_read) given_is full) ends.calls_are
        (λ world past handed runs.
        let map = map_of world.handed world.opening before.items in
        let mine = runs.each actor before.client under (its_going from) in
        let content = its_content from runs in
        let done = ends.stands _ _ _ _ _ _ runs.stands in (
          right_read world call actor given call_read mine.at.0 mine.at.1 mine.after
              (rw (ap (option_and_then (map_after world.handed world.opening before.items under.at)) asked_for.1
              ∙ content) (subst (λ (k : Kind). IsReadRight (Some (runs.contents actor)) k given) (sym asked_for.0)
              (subst (λ (index : ℕ). IsReadRight (Some (runs.contents index)) run.kind given) its done.1))),
          rw (map_read world.handed entry call.kind given call_read given_is) done.0,
        ))
      where
        entry : Entry
        entry = entry_for call actor before.client.begun under.at given

        gone : Gains (calls_under_way news) (calls_under_way clients) (Reading run)
        gone = held_gone from given ended refl

        is_read : IsReadKind run.kind
        is_read = (takes.schedule.going.are.each (Reading run) (search (gains_item, gone))).0

        call_read : IsReadKind call.kind
        call_read = subst IsReadKind (sym asked_for.0) is_read

        ends : EndsRead before.state after.state run given (calls_under_way news) (calls_under_way clients)
        ends = search (read_ends_so, is_read, gone)

        given_is : IsAnswerOf call.kind given
        given_is = rw asked_for.0 ends.answer_is
