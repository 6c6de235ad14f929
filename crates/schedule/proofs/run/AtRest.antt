-- Where a run begins, and where it ends with all calls answered.
use Rattle.schedule.proofs.Words.{◌≡◌, ◌≢◌, ⊎_elim, ℕ, ◌*◌, ◌<◌, ◌≤◌, List, [], ◌∷◌, length, suc, sym, ◌∙◌, ap, arith}
use Rattle.schedule.proofs.Words.{ne_eqb, slice_index_or, All, filter, ◌==◌, cases_eq, length-map, length-replicate}
use Rattle.schedule.proofs.Words.{take_all, slice_get-get_or, Disk, Entry, Item, CallAt, Asked, IsComplete, Journal}
use Rattle.schedule.proofs.Words.{ScriptCall, Placed, Script, asked_by, calls_of, Core, at_disk, HasBankOf, Client}
use Rattle.schedule.proofs.Words.{Progress, ClientsAreAnswered, answered_of, IsSchedule, turns_of, Cursor, replay_at}
use Rattle.schedule.proofs.Words.{replay_by, turns_by, shared_count, IsReady, AreIdle, HaveBegun, IsAtRest}
use Rattle.schedule.proofs.Words.{blank_client, blank_clients}
use Rattle.schedule.proofs.run.Rooms.{room_at_first}
use Rattle.schedule.proofs.turn.Theirs.{none_some}
use Rattle.schedule.proofs.run.Opened.{blank_is, calls_none, none_held, none_of_blank}

-- A core at rest, clients that have begun no call, and a journal that answers none are a schedule.
pub schedule_at_rest : (script : Script) {core : Core} {disk : Disk} {items : List Item} (count : ℕ) → IsAtRest core
    → HasBankOf core disk → ((index : ℕ) (entry : Entry) → CallAt items index entry → ⊥)
    → IsSchedule script (turns_of (at_disk core disk) items (blank_clients count))
schedule_at_rest script {core = core} {disk = disk} {items = items} count rest bank none =
    search (none_held, calls_none, none_of_blank, blank_is, none, arith)

-- Before the first turn: clients that have begun no call, and room for all answers.
pub ready_at_rest : {script : Script} {core : Core} {disk : Disk} {items : List Item} {journal : Journal}
    (progress : Progress) → IsAtRest core → HasBankOf core disk
    → ((index : ℕ) (entry : Entry) → CallAt items index entry → ⊥)
    → journal.items ≡ items → progress.clients.items ≡ blank_clients script.clients
    → 2 * length script.calls ≤ journal.room → IsReady script (turns_by core disk journal progress) journal.room
ready_at_rest {script} {core} {disk} {items} {journal} progress rest bank none same blank room = rw (same, blank)
    (record {
      schedule = schedule_at_rest script script.clients rest bank none;
      copying = λ actor copies. absurd (none_some (sym rest.copying ∙ copies));
      sharing = let none = ap shared_count rest.holds in omega (arith, none);
      counted = length-replicate script.clients blank_client;
      enough = room_at_first script script.clients room;
    })

pub first_is : (script : Script) {core : Core} {disk : Disk} {items : List Item} (journal : Journal)
    (progress : Progress) {cursor : Cursor}
    → journal.items ≡ items → progress.clients.items ≡ blank_clients script.clients → progress.turns ≡ 0
    → replay_by core disk journal progress cursor
    ≡ replay_at (turns_of (at_disk core disk) items (blank_clients script.clients)) 0 cursor
first_is script journal progress same blank none = search

-- A client that has calls is one of the script's.
callers_few : (calls : List Placed) (caller clients : ℕ) → All (λ placed. placed.actor < clients) calls
    → 1 ≤ length (filter (λ placed. placed.actor == caller) calls) → caller < clients
callers_few [] caller clients all some = absurd (omega arith)
callers_few (first ∷ calls) caller clients all some = ⊎_elim
    (λ (same : first.actor ≡ caller). omega (arith, all 0 first (omega arith), same))
    (λ (apart : first.actor ≢ caller).
    callers_few calls caller clients (λ k d within. all (suc k) d (omega arith)) (rw ne_eqb at some))
    (cases_eq first.actor caller)

-- Where each client has begun all its calls, and none is under way, no answer is missing.
pub complete_at_rest : {script : Script} {items : List Item} {clients : List Client}
    → All (λ placed. placed.actor < script.clients) script.calls → length clients ≡ script.clients
    → ClientsAreAnswered script clients items → HaveBegun script (length script.calls) clients → AreIdle clients
    → IsComplete (asked_by script) items
complete_at_rest {script = script} {items = items} {clients = clients} actors counted answered begun idle = record {
  each = λ caller number low.
      let its = filter (λ (placed : Placed). placed.actor == caller) script.calls in
      let asked = length-map {B = Asked} (calls_of script caller)
      (λ (call : ScriptCall). record { kind = call.kind; id = call.id }) in
      let of = length-map its (λ (placed : Placed). placed.call) in
      let few = callers_few script.calls caller script.clients actors (omega arith) in
      let there = slice_get-get_or clients caller blank_client (omega arith) in
      let client = slice_index_or clients caller blank_client in
      let enough = begun.each caller client there in
      let all = ap (λ (calls : List Placed). length (filter (λ (placed : Placed). placed.actor == caller) calls))
      (take_all (length script.calls) script.calls (omega arith)) in
      let count = ap (answered_of client.begun) (idle.each caller client there) in
      answered.every caller number client there (omega arith);
}
