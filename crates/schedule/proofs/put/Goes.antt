-- What each later turn of a client's put comes to.
use Rattle.schedule.proofs.Words.{◌≡◌, ◌≢◌, ⊎_elim, ℕ, ◌-◌, List, [], ◌∷◌, ◌++◌, Option, Some, refl, sym, ◌∙◌, ap}
use Rattle.schedule.proofs.Words.{subst, option_map, slice_get, unwrap_or, EndsHold, Gains, gains_item, Answer, Entry}
use Rattle.schedule.proofs.Words.{PutBytes, map_of, map_after_answer, with_block, IsAnswerOf, World, ScriptCall}
use Rattle.schedule.proofs.Words.{fill_bytes, Script, calls_of, PutRun, More, Done, at_disk, StoresBlock, HoldingCall}
use Rattle.schedule.proofs.Words.{Putting, AreCallsOf, Stands, TurnGoesOn, keeps_ended, Rearranges, ends_rearranges}
use Rattle.schedule.proofs.Words.{gives_up_rearranges, put_ends_calls, put_gives_up_calls, put_writes_calls}
use Rattle.schedule.proofs.Words.{put_ends_stands, put_gives_up_stands, put_shared, put_writes_stands, put_writes_since}
use Rattle.schedule.proofs.Words.{Client, UnderWay, IsWorkFor, Runs, calls_under_way, setting_now, TurnState}
use Rattle.schedule.proofs.Words.{EndsPutting, GoesOnPutting, IsFilledIn, LeavesGoing, entry_for, made_by, IsWorldOf}
use Rattle.schedule.proofs.Words.{TakesTurn, Past, undamaged}
use Rattle.core_state.specs.declared.answer.Answer.TheVariants as answer
use Rattle.core_state.specs.declared.answer.Kind.TheVariants as kind
use Rattle.core_state.specs.declared.item.Item.TheVariants.{Call as CallItem}
use Rattle.schedule.specs.declared.client.Work.TheVariants as work
use Rattle.schedule.proofs.turn.Fitting.{IsPlainKind, TellsOut, fits, plain_no_limit}
use Rattle.schedule.proofs.turn.RightNext.{IsPlain, put_right}
use Rattle.schedule.proofs.turn.Comes.{GoesFrom, ItComes, comes_finished, comes_working, held_gone, held_moves}
use Rattle.schedule.proofs.turn.Comes.{its_asked, its_content, its_work}
use Rattle.schedule.proofs.put.Puts.{unstored_plain, unstored_answers, unstored_listed, unstored_map, rearranged_leaves}
use Rattle.schedule.proofs.turn.LeavesPool.{out_keeps}
use Rattle.schedule.proofs.put.Ends.{FilledAmong, IsGivenUp, IsWhole, fills_among, fills_same, put_ended}

module _ {script : Script} {actor : ℕ} {before after : TurnState} {clients news : List Client}
    (takes : TakesTurn script actor before after clients news) {call : ScriptCall} {under : UnderWay} {run : PutRun}
    (does_is : under.work ≡ work.Put run) (under_is : before.client.under_way ≡ Some under)
    (is : slice_get (calls_of script actor) (before.client.begun - 1) ≡ Some call)
    (goes : TurnGoesOn before.state after.state) where
  open before.state use {core as old}
  open after.state use {core as now}

  abbrev from : GoesFrom script actor before after clients news call under (work.Put run)
  from = record { takes = takes; does_is = does_is; under_is = under_is; is = is }

  -- The script asks for it, and it has the client's hold.
  asked_for : IsWorkFor call (work.Put run)
  asked_for = its_asked from

  its : run.hold.actor ≡ actor
  its = (its_work from).hold

  content_is : {world : World} {past : Past} (runs : Runs world script past before.state before.items clients)
      → runs.contents run.hold.actor ≡ fill_bytes call.fill
  content_is runs = ap runs.contents its ∙ its_content from runs

  -- It goes on by one write.
  pub put_goes_on : (next : PutRun) → GoesOnPutting before.state after.state call run next
      → LeavesGoing actor call before after under (More (work.Put next)) → ItComes takes
  put_goes_on next puts further = comes_working from tt (work.Put next) further tt goes refl
      (out_keeps puts.writes.rest goes.out.still) (ap (λ (r : PutRun). r.hold.actor) same ∙ its) (
        asked_for.0,
        asked_for.1 ∙ ap (λ (r : PutRun). Some r.range.id) (sym same),
        asked_for.2 ∙ ap (λ (r : PutRun). r.len) (sym same),
      ) (put_writes_calls puts.writes filled.gains moves.2 filled.are)
      (λ world past runs.
      let stood = filled.stands _ _ _ _ _ _ (content_is runs) runs.stands in (
        put_writes_since takes.is takes.lawful puts.writes filled.gains filled.are stood,
        (λ has. has),
        put_writes_stands takes.is takes.lawful puts.writes filled.gains filled.are stood takes.still_lawful moves.2,
      ))
    where
      -- It has its range, its length and its hold still.
      same : next ≡ record run { filled = next.filled }
      same =
          let fills = fills_same call run puts.filled puts.fills in
          puts.writes.writes.next_is ∙ (λ i. record (fills i) { filled = (sym puts.writes.writes.next_is i).filled })

      moves : (left : List HoldingCall) × Gains left (calls_under_way clients) (Putting run)
          × Gains left (calls_under_way news) (Putting next)
      moves = held_moves from tt (work.Put next) further tt refl refl

      filled : FilledAmong before.state (fill_bytes call.fill) moves.0 (calls_under_way clients) run puts.filled
      filled = fills_among call puts.fills asked_for.2 moves.1 takes.schedule.going.are

  module _ (given : Answer) (ended : LeavesGoing actor call before after under (Done given))
      (disk : after.state.disk ≡ before.state.disk) {filled : PutRun} (fills : IsFilledIn call run filled) where
    -- the entry of its answer
    abbrev entry : Entry
    entry = entry_for call actor before.client.begun under.at given

    among : FilledAmong before.state (fill_bytes call.fill) (calls_under_way news) (calls_under_way clients) run filled
    among = fills_among call fills asked_for.2 (held_gone from given ended refl) takes.schedule.going.are

    -- It ends, and its entry alone is listed.
    ends_with : after.items ≡ before.items ++ CallItem entry ∷ [] → Rearranges old now
        → EndsHold old.holds now.holds filled.hold → IsPlain given → IsAnswerOf kind.Put given → TellsOut old given
        → given ≢ answer.Full → AreCallsOf now (calls_under_way news)
        → ((world : World) (past : Past) → IsWorldOf script world
        → (runs : Runs world script past before.state before.items clients)
        → Stands (setting_now runs) runs.last runs.begun (map_of world.handed world.opening before.items) undamaged runs.contents
        among.nexts runs.commit before.state → Stands (setting_now runs) runs.last runs.begun
        (map_after_answer world.handed (map_of world.handed world.opening before.items) entry given) undamaged runs.contents
        (calls_under_way news) runs.commit (at_disk now before.state.disk)) → ItComes takes
    ends_with listed change ends plain answers tells other are stands =
        let of_filled = among.are.each (Putting filled) (gains_item (calls_under_way news) among.nexts (Putting filled)
        among.gains) in
        comes_finished from given ended tt goes listed
        (search (rearranged_leaves, keeps_ended, put_shared, filled, of_filled)) disk
        (fits (rw asked_for.0 answers) tells (plain_no_limit plain) (subst IsPlainKind (sym asked_for.0) tt)) other are
        (λ world past handed runs. (
          put_right world before.items entry after.state.disk asked_for.0 plain,
          rw disk (stands world past handed runs (among.stands _ _ _ _ _ _ (content_is runs) runs.stands)),
        ))

    -- Its block is stored: the map has the bytes that the script hands it.
    put_stored : given ≡ answer.Stored → StoresBlock old now filled → IsWhole filled → ItComes takes
    put_stored given_is stores whole = ends_with (cc)
        (ends_rearranges old now filled stores) stores.ends (subst IsPlain (sym given_is) tt)
        (rw given_is refl) (λ listed told. cc) (λ full. cc) (put_ends_calls stores among.gains among.are)
        (λ world past handed runs stood.
        let map = map_of world.handed world.opening before.items in
        let content = runs.contents filled.hold.actor in
        let bytes_are = ap (λ (h : PutBytes). h actor before.client.begun) handed.handed
        ∙ ap (λ (asked : Option ScriptCall). unwrap_or (option_map (λ asked. fill_bytes asked.fill) asked) []) is
        ∙ sym (ap (λ (r : PutRun). runs.contents r.hold.actor) same ∙ content_is runs) in
        let map_is : map_after_answer world.handed map entry given ≡ with_block map (Some filled.range.id)
        (Some content) = ap (map_after_answer world.handed map entry) given_is
        ∙ (λ i. with_block map (id_is i) (Some (bytes_are i))) in
        rw map_is (put_ends_stands takes.is stores whole among.gains among.are stood))
      where
        same : filled ≡ record run { filled = filled.filled }
        same = fills_same call run filled fills

        id_is : call.id ≡ Some filled.range.id
        id_is = asked_for.1 ∙ ap (λ (r : PutRun). Some r.range.id) (sym same)

    -- It is given up: too many devices are out, or memory is exhausted.
    put_given_up : IsGivenUp old now filled given → ItComes takes
    put_given_up given_up = ends_with
        (ended.0 ∙ unstored_listed now before.items under.at entry (made_by under.work) given given_up.unstored)
        (gives_up_rearranges old now filled given_up.gives_up) given_up.gives_up.ends
        (unstored_plain given given_up.unstored) (unstored_answers given given_up.unstored) given_up.tells
        given_up.other (put_gives_up_calls given_up.gives_up among.gains among.are)
        (λ world past handed runs stood.
        rw (unstored_map world.handed entry given given_up.unstored)
        (put_gives_up_stands given_up.gives_up among.gains among.are stood))

  -- It ends: its block is stored, or it is given up.
  pub put_ends : (given : Answer) → EndsPutting before.state after.state call run given
      → LeavesGoing actor call before after under (Done given) → ItComes takes
  put_ends given ends ended = ⊎_elim
      (λ stored. search put_stored) (search put_given_up) (put_ended before.state after.state call run given ends)
