-- Turns of a script, one after the other.
use Rattle.schedule.proofs.Words.{◌≡◌, ℕ, ◌+◌, ◌<◌, ◌≤◌, List, [], ◌∷◌, length, drop, Some, None, refl, arith, ◌++◌}
use Rattle.schedule.proofs.Words.{ap, true, Result, Ok, Err, OnErr, drop_more, Disk}
use Rattle.schedule.proofs.Words.{Script, Journal, Core, Progress, most_turns, Turns, taken_by, Cursor, InOrder, InRest}
use Rattle.schedule.proofs.Words.{InRound, IsCallOfScript, Replay, after_round, cursor_after, has_left_at, is_any_busy}
use Rattle.schedule.proofs.Words.{is_busy_at, replay_at, replay_by, turn_at, turns_by, has_turn_at, HasPlayed}
use Rattle.schedule.proofs.Words.{HasRunOutOfTurns, IsReady, AreIdle, HasTurn, HaveBegun, lt-ltb, le-ltb}
use Rattle.std.proofs.Common.{get_or}
use Rattle.std.specs.Prelude.{false}
use Rattle.schedule.proofs.run.Coming.{came_nowhere, came_on}
use Rattle.schedule.proofs.order.InTurn.{begun_none_left, gone_more, gone_none, gone_then, idle_not_busy}
use Rattle.schedule.proofs.order.InTurn.{past_not_busy, round_next}
use Rattle.schedule.proofs.order.CallTaken.{given_own}

-- What holds follows where an answer is `Err`.
pub at_err : {V E : Type 0} (P : Type 0) (result : Result V E) → P → OnErr result P
at_err P (Ok value) holds = tt
at_err P (Err error) holds = holds

-- No turn was taken yet.
pub played_none : {script : Script} {room : ℕ} (now : Replay) → IsReady script now.turns room
    → HasPlayed script now now room
played_none {script} now ready =
    record { passed = []; come = came_nowhere refl; gone = gone_none script now; ready = ready }

module _ {script : Script} {start : Replay} where
  -- Turns go on after turns,
  pub played_then : {middle now : Replay} {before after : ℕ} → HasPlayed script start middle before
      → HasPlayed script middle now after → HasPlayed script start now after
  played_then {middle} {now} first second = record {
    passed = first.passed ++ second.passed;
    come = search came_on;
    gone = search gone_then;
    ready = second.ready;
  }

  -- or no more can be counted.
  pub stopped_then : {middle : Replay} {turns : Turns} {taken before after : ℕ} → HasPlayed script start middle before
      → HasRunOutOfTurns script middle turns taken after → HasRunOutOfTurns script start turns taken after
  stopped_then first second =
      record { most = second.most; cursor = second.cursor; played = played_then first second.played }

  -- The client whose turn it is had it,
  pub played_turn : {before after : Turns} {taken counted room left actor : ℕ} {from : Cursor} (to : Cursor)
      → HasPlayed script start (replay_at before taken from) room → turn_at script before.clients from ≡ Some actor
      → cursor_after script before.clients from ≡ to → HasTurn script actor before after → counted ≡ taken + 1
      → IsReady script after left → HasPlayed script start (replay_at after counted to) left
  played_turn {before} {after} {taken} {counted} {actor = actor} {from = from} to played whose goes turn one ready =
      record {
        passed = played.passed ++ taken_by actor after ∷ [];
        come = search came_on;
        gone = search (gone_more, arith);
        ready = ready;
      }

  -- or it is nobody's turn there.
  pub played_past : {turns : Turns} {taken room : ℕ} {from to : Cursor}
      → HasPlayed script start (replay_at turns taken from) room → turn_at script turns.clients from ≡ None
      → cursor_after script turns.clients from ≡ to → HasPlayed script start (replay_at turns taken to) room
  played_past {turns} {taken} {from = from} {to = to} played whose goes = search (gone_more, arith)

  -- The same place said otherwise.
  pub played_at : {turns : Turns} {taken room : ℕ} {from to : Cursor} → from ≡ to
      → HasPlayed script start (replay_at turns taken from) room
      → HasPlayed script start (replay_at turns taken to) room
  played_at same played = rw same at played

  -- After a round, where another one began, it is over too.
  pub round_over : {middle now : Turns} {taken counted room left : ℕ}
      → HasPlayed script start (replay_at middle taken (after_round middle.clients)) room
      → is_any_busy middle.clients ≡ true
      → HasPlayed script (replay_at middle taken (InRound 0)) (replay_at now counted (InRound script.clients)) left
      → HasPlayed script start (replay_at now counted (after_round now.clients)) left
  round_over {middle} {now} so_far busy round =
      let free = past_not_busy now.clients {actor = script.clients} (omega arith) in
      played_past (played_then (played_at (round_next middle.clients busy) so_far) round) (cc) (search (le-ltb, arith))

  -- A call of the rest had a turn,
  pub played_later : {before after : Turns} {taken counted room left given actor number : ℕ}
      → IsCallOfScript script given actor number → HasPlayed script start (replay_at before taken (InRest given)) room
      → is_busy_at before.clients actor ≡ true → HasTurn script actor before after → counted ≡ taken + 1
      → IsReady script after left → HasPlayed script start (replay_at after counted (InRest given)) left
  played_later {before = before} {given = given} is played busy turn one ready =
      played_turn (InRest given) played (cc) (cc) turn one ready

  -- or has ended, and the next one is looked at.
  pub rest_goes : {now : Turns} {taken room given next actor number : ℕ}
      → next ≡ given + 1 → IsCallOfScript script given actor number → AreIdle now.clients
      → HaveBegun script next now.clients → HasPlayed script start (replay_at now taken (InRest given)) room
      → HasPlayed script start (replay_at now taken (InRest next)) room
  rest_goes {now = now} {given = given} {actor = actor} {number} one is idle begun played =
      search (idle_not_busy, begun_none_left, given_own, played_past, arith)

-- The letter that is next in a list stands before the rest of it.
next_letter : (index : ℕ) (letters : List ℕ) (other : ℕ) → index < length letters
    → drop index letters ≡ get_or letters index other ∷ drop (index + 1) letters
next_letter index letters other low = search (drop_more, arith)

-- No more turns can be counted from the start on.
pub stopped_same : {script : Script} {core : Core} {disk : Disk} (journal : Journal) (before after : Progress)
    (cursor : Cursor) {room : ℕ} → after.clients.items ≡ before.clients.items → after.turns ≡ before.turns
    → most_turns ≤ after.turns → IsReady script (turns_by core disk journal before) room
    → HasRunOutOfTurns script (replay_by core disk journal before cursor)
    (turns_by core disk journal after) after.turns room
stopped_same {script} {core} {disk} journal before after cursor {room} clients turns most ready = rw (clients, turns)
    (record {
      most = rw turns at most;
      cursor = cursor;
      played = played_none (replay_by core disk journal before cursor) ready;
    })

-- The next letter of a list was gone through,
pub listed_more : {script : Script} {start : Replay} {before after : Turns} {taken counted room left : ℕ}
    (index : ℕ) (letters : List ℕ) (other : ℕ) → index < length letters
    → HasPlayed script start (replay_at before taken (InOrder (drop index letters))) room
    → HasPlayed script (replay_at before taken (InOrder (get_or letters index other ∷ drop (index + 1) letters)))
    (replay_at after counted (InOrder (drop (index + 1) letters))) left
    → HasPlayed script start (replay_at after counted (InOrder (drop (index + 1) letters))) left
listed_more index letters other low played letter =
    played_then (played_at (ap InOrder (next_letter index letters other low)) played) letter

-- or no more turns could be counted there.
pub stopped_listed : {script : Script} {start : Replay} {before turns : Turns} {taken counted room left : ℕ}
    (index : ℕ) (letters : List ℕ) (other : ℕ) → index < length letters
    → HasPlayed script start (replay_at before taken (InOrder (drop index letters))) room
    → HasRunOutOfTurns script (replay_at before taken (InOrder (get_or letters index other ∷ drop (index + 1) letters)))
    turns counted left
    → HasRunOutOfTurns script start turns counted left
stopped_listed index letters other low played stopped =
    stopped_then (played_at (ap InOrder (next_letter index letters other low)) played) stopped

module _ {script : Script} {taken : ℕ} where
  -- A client had its turn in a round,
  pub played_in_round : {before after : Turns} {room left actor counted : ℕ} → IsReady script before room
      → actor < script.clients → is_busy_at before.clients actor ≡ true → HasTurn script actor before after
      → counted ≡ taken + 1 → IsReady script after left
      → HasPlayed script (replay_at before taken (InRound actor)) (replay_at after counted (InRound (actor + 1))) left
  played_in_round {before} {actor = actor} was low busy turn one ready = played_turn (InRound (actor + 1))
      (played_none (replay_at before taken (InRound actor)) was) (cc) (search lt-ltb) turn one ready

  -- or had none.
  pub passed_in_round : {now : Turns} {room actor : ℕ} → IsReady script now room → actor < script.clients
      → is_busy_at now.clients actor ≡ false
      → HasPlayed script (replay_at now taken (InRound actor)) (replay_at now taken (InRound (actor + 1))) room
  passed_in_round {now} {actor = actor} ready low free =
      played_past (played_none (replay_at now taken (InRound actor)) ready) (cc) (search lt-ltb)

  -- The client of a letter of the order had its turn,
  pub played_letter : {before after : Turns} {counted room left actor : ℕ} (letters : List ℕ) → IsReady script before room
      → has_turn_at script before.clients actor ≡ true → HasTurn script actor before after → counted ≡ taken + 1
      → IsReady script after left
      → HasPlayed script (replay_at before taken (InOrder (actor ∷ letters))) (replay_at after counted (InOrder letters)) left
  played_letter {before} {actor = actor} letters was left turn one ready = played_turn (InOrder letters)
      (played_none (replay_at before taken (InOrder (actor ∷ letters))) was) (cc) refl turn one ready

  -- or had none.
  pub passed_letter : {now : Turns} {room actor : ℕ} (letters : List ℕ) → IsReady script now room
      → has_turn_at script now.clients actor ≡ false
      → HasPlayed script (replay_at now taken (InOrder (actor ∷ letters))) (replay_at now taken (InOrder letters)) room
  passed_letter {now} {actor = actor} letters ready none =
      played_past (played_none (replay_at now taken (InOrder (actor ∷ letters))) ready) (cc) refl

  -- The order is over.
  pub order_over : {now : Turns} {room : ℕ} → IsReady script now room
      → HasPlayed script (replay_at now taken (InOrder [])) (replay_at now taken (after_round now.clients)) room
  order_over {now} ready = played_past (played_none (replay_at now taken (InOrder [])) ready) refl refl

  -- A call of the rest had its first turn.
  pub played_first : {before after : Turns} {counted room left given actor number : ℕ} → IsReady script before room
      → IsCallOfScript script given actor number → is_busy_at before.clients actor ≡ false
      → has_left_at before.clients actor number ≡ true → HasTurn script actor before after → counted ≡ taken + 1
      → IsReady script after left
      → HasPlayed script (replay_at before taken (InRest given)) (replay_at after counted (InRest given)) left
  played_first {before} {given = given} was is free more turn one ready = played_turn (InRest given)
      (played_none (replay_at before taken (InRest given)) was) (cc) (cc) turn one ready
