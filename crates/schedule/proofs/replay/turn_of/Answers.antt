use Rattle.schedule.proofs.Words.{◌≡◌, ◌<◌, Some, length, refl, arith, slice_set, length-set, slice_get, calls_of}
use Rattle.schedule.proofs.Words.{TakesTurn, Turned, turn_state}
use Rattle.schedule.proofs.order.TurnTaken.{allowed_of, client_there, going_may, turn_few, takes_turn}
use Rattle.schedule.proofs.order.TurnTaken.{turn_ready, turn_taken}
use Rattle.schedule.proofs.order.InTurn.{turn_left, turn_there}
use Rattle.schedule.proofs.run.Rooms.{room_after, room_left, taken_few}
use Rattle.schedule.proofs.replay.turn_of.Goals as goal

pub take_turn-requires : goal.take_turn-requires
take_turn-requires g c =
    let client = c.index_mut-client.result.now in
    let clients = c.args.live.now.progress.clients.items in
    let low : c.from.result < length clients =
    omega (arith, turn_there c.args.script.now clients c.args.actor c.requires.left, c.from.ensures) in
    let there : slice_get clients c.args.actor ≡ Some client =
    client_there clients c.from.ensures low c.index_mut-client.ensures.value in
    let schedule = c.requires.ready.schedule in
    rw c.calls.ensures (record {
      allowed = λ number call is. allowed_of c.args.script.now c.args.actor c.requires.allowed number call is;
      computed = c.requires.computed;
      left = λ idle. turn_left c.args.script.now clients c.args.actor c.requires.left there idle;
      room = room_left c.args.actor c.requires.ready.enough there;
      bank = schedule.bank;
      few = schedule.answered.few c.args.actor client there;
      begun = λ under going. schedule.answered.some c.args.actor client under there going;
      may = λ under call going is. going_may schedule.going (record { there = there; under_way = going }) is;
      there = schedule.there c.args.actor client there;
    })

pub returns : goal.returns
returns g c =
    let clients = c.args.live.now.progress.clients.items in
    let client = c.index_mut-client.result.now in
    let before = turn_state c.args.live.now.core (g.B.Bank.disk c.args.live.now.bank) c.args.live.now.journal.items
    c.index_mut-client.result.now in
    let after = turn_state c.take_turn.new.core (g.B.Bank.disk c.take_turn.new.bank) c.take_turn.new.journal.items
    c.take_turn.new.client in
    let low : c.from.result < length clients =
    omega (arith, turn_there c.args.script.now clients c.args.actor c.requires.left, c.from.ensures) in
    let there : slice_get clients c.args.actor ≡ Some client =
    client_there clients c.from.ensures low c.index_mut-client.ensures.value in
    let turned : Turned (calls_of c.args.script.now c.args.actor) c.args.actor before after =
    rw c.calls.ensures at c.take_turn.ensures.turned in
    let takes : TakesTurn c.args.script.now c.args.actor before after clients
    (slice_set clients c.from.result c.take_turn.new.client) =
    takes_turn after c.requires.ready.schedule there
    c.from.ensures low c.take_turn.ensures.is c.take_turn.ensures.lawful c.take_turn.ensures.there turned in
    record {
      turn = turn_taken clients takes c.requires.allowed c.requires.ready.copying c.requires.ready.sharing turned;
      ready = turn_ready clients takes c.requires.allowed
          c.requires.ready.copying c.requires.ready.sharing turned c.requires.ready.counted
          (length-set clients c.from.result c.take_turn.new.client)
          (room_after clients client c.take_turn.new.client c.from.ensures c.requires.ready.enough there
          (taken_few (c.requires.ready.schedule.answered.few c.args.actor client there)
          (λ under going. c.requires.ready.schedule.answered.some c.args.actor client under there going))
          (turn_few clients takes c.requires.allowed c.requires.ready.copying c.requires.ready.sharing turned)
          c.take_turn.ensures.room);
      turns = refl;
    }
