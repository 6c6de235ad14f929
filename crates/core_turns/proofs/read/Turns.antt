-- Gets and sums, turn by turn: what each turn comes to, and what it keeps.
use Rattle.core_turns.proofs.Words.{pool_widths}
use Rattle.core_client.specs.declared.widths.Widths.{Widths}
use Rattle.core_turns.proofs.Words.{◌≡◌, ℕ, ◌+◌, List, Some, refl, ◌∙◌, arith, Result, Contains, OnOk, OnErr, Hold}
use Rattle.core_turns.proofs.Words.{Shared, EndsHold, IsClear, Layout, allocated_of, Gains, IndexEntry, entry_of}
use Rattle.core_turns.proofs.Words.{layout_of, Kind, AreInStep, gains_item, gains_old, found_listed, BlockRead}
use Rattle.core_turns.proofs.Words.{IsReadBegun, listed_in_pool, GetRun, OutOfMemory, NotYet, Turn, More, Core}
use Rattle.core_turns.proofs.Words.{CoreState, IsCore, as_begun, reaching, HasTooManyOut, IsGetOf, IsMoreOf, BeginsGet}
use Rattle.core_turns.proofs.Words.{ReadsTurn, SolvesGet}
use Rattle.core_turns.proofs.state.Cores.{core_held}
use Rattle.core_turns.proofs.state.Holds.{shared_ended, shared_gained}

-- A read begins.
pub get_begins : {core : Core} {actor : ℕ} (id : ℕ) {asked : Kind} {entry : IndexEntry} {layout : Layout} {size : ℕ}
    {hold : Hold} {read : BlockRead} {widths : Widths} {holds : List Hold} → IsCore core → AreInStep core.pool.blocks
    → (HasTooManyOut core → ⊥) → entry_of core.pool.blocks.table.entries id ≡ Some entry
    → layout ≡ layout_of core.pool.uber.parity core.pool.uber.births entry → size ≡ allocated_of layout
    → hold ≡ record { lo = entry.start; hi = entry.start + size; actor = actor; kind = Shared }
    → IsReadBegun layout read → Gains core.holds holds hold → IsClear core.holds entry.start (entry.start + size) Shared
    → widths ≡ pool_widths core.pool.uber → BeginsGet core (record core { holds = holds }) actor asked id
    (More (record { kind = asked; hold = hold; entry = entry; read = read; widths = widths; solved = NotYet }))
get_begins {core} {actor} id {entry = entry} {hold = hold} {holds = holds} is step few found layout_is size_is hold_is
    begun held clear widths_are =
    let listed = found_listed core.pool.blocks.table.entries id entry found in (
      few,
      found,
      refl,
      refl,
      cc,
      search arith,
      refl,
      record {
        layout_is = cc;
        pool = rw (begun.layout_is ∙ layout_is) (listed_in_pool (as_begun core) entry is.is step listed);
        born = is.is.born entry listed;
        holds = gains_item core.holds holds hold held;
        actor = actor;
        hold_is = cc;
      },
      rw hold_is clear,
      held,
      widths_are,
    )

-- A read is one of a block of the pool still where the uberblock and its hold are there, and no other group was begun.
pub get_of : {old new : Core} {run : GetRun} → new.pool.uber ≡ old.pool.uber → new.begun ≡ old.begun
    → Contains new.holds run.hold → IsGetOf old run → IsGetOf new run
get_of uber begun listed of = search arith

-- Its hold is shared,
pub get_shared : (core : Core) (run : GetRun) → IsGetOf core run → run.hold.kind ≡ Shared
get_shared core run of = cc

-- so a core stays one when it begins,
pub read_held : {core : Core} {holds : List Hold} {hold : Hold} → IsCore core → hold.kind ≡ Shared
    → Gains core.holds holds hold → IsCore (record core { holds = holds })
read_held {core} {holds} {hold} is shared gains = core_held is (shared_gained core.holds holds hold shared gains)

-- and when it ends.
pub read_ended : {core : Core} {run : GetRun} {holds : List Hold} → IsCore core → IsGetOf core run
    → EndsHold core.holds holds run.hold → IsCore (record core { holds = holds })
read_ended is of ends = search (core_held, shared_ended, get_shared)

-- One that has one column more is so too.
pub get_of_more : (before after : CoreState) {run : GetRun} (result : Turn GetRun) → IsGetOf before.core run
    → ReadsTurn before run after result → IsMoreOf after.core result
get_of_more before after other of reads = grind arith

-- The uberblock stays in a turn that reads.
pub reads_reaching : (before after : CoreState) (run : GetRun) (result : Turn GetRun)
    → ReadsTurn before run after result → reaching after.core ≡ reaching before.core
reads_reaching before after run result reads = grind arith

-- Another read that begins leaves all but the holds, and the holds of those under way.
pub begins_rest : (old new : Core) (actor id : ℕ) (asked : Kind) (result : Turn GetRun)
    → BeginsGet old new actor asked id result → new ≡ record old { holds = new.holds }
begins_rest old new actor id asked other begins = grind arith

pub begins_holds : (old new : Core) (actor id : ℕ) (asked : Kind) (result : Turn GetRun) (hold : Hold)
    → BeginsGet old new actor asked id result → Contains old.holds hold → Contains new.holds hold
begins_holds old new actor id asked (More run) hold begins has = search gains_old
begins_holds old new actor id asked other hold begins has = search arith

-- Solving changes no more than what was solved.
pub solved_of : (core : Core) (old new : GetRun) → SolvesGet old new → IsGetOf core old → IsGetOf core new
solved_of core old new solves of = search arith

pub went_of : {old new : GetRun} (result : Result (Unit {0}) OutOfMemory) → OnOk result (SolvesGet old new)
    → OnErr result (new ≡ old) → (core : Core) → IsGetOf core old → IsGetOf core new
went_of result solves same core of = grind (arith, solved_of)
