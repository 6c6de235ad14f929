-- What a read keeps of its block, turn by turn.
use Rattle.core_turns.proofs.Words.{◌≡◌, ℕ, ◌<◌, List, [], false, Option, Some, None, Result, Ok, Err, sym, ◌∙◌, ap}
use Rattle.core_turns.proofs.Words.{arith, IsLayout, Layout, damaged_alike, decoded_alike, left_decoded, left_undamaged}
use Rattle.core_turns.proofs.Words.{Excepted, IsAmong, read_with_more, OnOk, cases_lt, Disk, Unchanged, rows_of}
use Rattle.core_turns.proofs.Words.{IsRequiredPlace, IsFrontOf, entry_of, IsLeftOver, has_device, IsWithin, Kind, Map}
use Rattle.core_turns.proofs.Words.{Cell, IsCell, found_id, found_listed, HasLostFew, OnlyFailedGoOut, point_of}
use Rattle.core_turns.proofs.Words.{IsAtColumn, read_begun, read_stays, read_more, read_left_over, read_lost_few}
use Rattle.core_turns.proofs.Words.{IsReadRight, HoldsMap, block_stays, GetRun, OutOfMemory, Solved, NotYet, Bytes}
use Rattle.core_turns.proofs.Words.{Damaged, Turn, More, Busy, Done, Core, CoreState, at_disk, pool_at, IsReadKind}
use Rattle.core_turns.proofs.Words.{HasTooManyOut, IsGetOf, BeginsGet, ReadsTurn, IsSolved, SolvesGet, AnswersSolved}
use Rattle.core_turns.proofs.Words.{EndsGet, IsSolvedAs, HoldsGet, FindsGet, KeepsGet, TellsGet, answer_of, to_solve_of}
use Rattle.core_turns.proofs.Words.{Answer, refl, turn_with}
use Rattle.core_turns.proofs.state.Damage.{none_among}
use Rattle.reconstruct.specs.Rows.{sectors_for}
use Rattle.core_turns.specs.declared.solving.ToSolve.{ToSolve}
use Rattle.core_turns.specs.Getting.{IsAlike}
use Rattle.core_client.proofs.Decoded.{AreAlike}
use Rattle.core_state.specs.declared.answer.Kind.TheVariants as kind

-- A read that begins holds the block that the map has at its id.
pub get_finds : (wrong : Excepted) (map : Map) (old new : Core) (disk : Disk) (actor id : ℕ) (asked : Kind) (result : Turn GetRun)
    → HoldsMap wrong map (pool_at (at_disk old disk)) → BeginsGet old new actor asked id result
    → FindsGet wrong map (at_disk new disk) id result
get_finds wrong map old new disk actor id asked (More run) holds begins =
    let listed = found_listed old.pool.blocks.table.entries id run.entry begins.1 in
    let told = holds.table.listed run.entry listed in
    rw begins.6 (
      told.0,
      ap map (sym (found_id old.pool.blocks.table.entries id run.entry begins.1)) ∙ told.1,
      search (read_begun, arith),
    )
get_finds wrong map old new disk actor id asked (Busy by) holds begins = tt
get_finds wrong map old new disk actor id asked (Done given) holds begins = search (by, arith)
  where
    by : entry_of old.pool.blocks.table.entries id ≡ None → (value : Option (List ℕ)) → map id ≡ value → map id ≡ None
    by none None is = is
    by none (Some content) is = search arith

-- A read that has one column more is of its block still.
pub get_reads : {wrong : Excepted} {content : List ℕ} (before after : CoreState) {run : GetRun} (result : Turn GetRun)
    → IsFrontOf before.core.pool.uber.reflow before.core.pool.done → IsGetOf before.core run → IsAtColumn run.read
    → run.read.row < rows_of run.read.layout → Unchanged before.disk after.disk
    → OnlyFailedGoOut (point_of before.core.pool.out before.disk) (point_of after.core.pool.out after.disk)
    → HoldsGet wrong content before run → ReadsTurn before run after result → KeepsGet wrong content after result
get_reads {wrong} {content} before after {run} (More next) front of place left unchanged outs holds reads =
    let reflow = before.core.pool.uber.reflow in
    let done = before.core.pool.done in
    rw (reads.2, reads.1) (record {
      right = rw reads.3.on.layout_is (block_stays run.read.layout content reflow done before.disk.reads
          after.disk.reads before.core.pool.out after.core.pool.out wrong outs.still
          (λ cell device device_sector is required used told. unchanged.reads device device_sector ∙ told) holds.right);
      len_is = holds.len_is;
      are_bytes = holds.are_bytes;
      digest_is = holds.digest_is;
      so_far = read_more content reflow done wrong run.read next.read (point_of before.core.pool.out before.disk)
          (point_of after.core.pool.out after.disk) place left of.pool front.front holds.right reads.3 holds.so_far;
      solved = λ none few. holds.solved none reads.0;
    })
get_reads before after other front of place left unchanged outs holds reads = tt

-- So is one that was given an answer in its place.
pub get_reads_or_ends : {wrong : Excepted} {content : List ℕ} (before after : CoreState) {run : GetRun} (next : GetRun)
    (answer : Option Answer) → IsFrontOf before.core.pool.uber.reflow before.core.pool.done → IsGetOf before.core run
    → (answer ≡ None → IsAtColumn run.read) → run.read.row < rows_of run.read.layout
    → Unchanged before.disk after.disk
    → OnlyFailedGoOut (point_of before.core.pool.out before.disk) (point_of after.core.pool.out after.disk)
    → HoldsGet wrong content before run → ReadsTurn before run after (turn_with next answer)
    → KeepsGet wrong content after (turn_with next answer)
get_reads_or_ends before after next None front of place left unchanged outs holds reads =
    get_reads before after (More next) front of (place refl) left unchanged outs holds reads
get_reads_or_ends before after next (Some given) front of place left unchanged outs holds reads = tt

-- What is solved of a block that was read whole, and of which nothing may be wrong, is the block.
pub get_solves : (wrong : Excepted) (content : List ℕ) (state : CoreState) (run next : GetRun)
    → run.read.row ≡ rows_of run.read.layout → IsGetOf state.core run → HoldsGet wrong content state run
    → SolvesGet run next → HoldsGet wrong content state next
get_solves wrong content state run next whole of holds solves = search (by, arith)
  where
    sectors : sectors_for run.entry.len ≡ run.read.layout.sectors
    sectors = sym (ap (λ (l : Layout). l.sectors) of.layout_is)

    left_over : wrong ≡ [] → IsLeftOver run.read.layout content run.read.read.rows run.read.read.lost.items
    left_over none =
        let so_far = rw none at holds.so_far in search read_left_over

    lost_few : (HasTooManyOut state.core → ⊥) → HasLostFew run.read.layout run.read.read
    lost_few few = search (read_lost_few, cases_lt, arith)

    by : wrong ≡ [] → (HasTooManyOut state.core → ⊥) → (solved : Solved) → IsSolved (to_solve_of run) solved
        → IsSolvedAs content solved
    by none few NotYet is = tt
    by none few (Bytes bytes) is = left_decoded run.read.layout run.read.read run.entry.len run.entry.digest run.widths
        sectors content of.pool.within.is (left_over none) (lost_few few) holds.len_is holds.are_bytes holds.digest_is
        bytes is.1
    by none few Damaged is = left_undamaged run.read.layout run.read.read run.entry.len run.entry.digest run.widths
        sectors content of.pool.within.is (left_over none) (lost_few few) holds.len_is holds.are_bytes holds.digest_is
        is

-- A read is answered by its block, or was cut short.
pub get_tells : (content : List ℕ) (old new : Core) (disk : Disk) (run : GetRun) (result : Turn GetRun)
    → IsReadKind run.kind → HoldsGet [] content (at_disk old disk) run → EndsGet old run new result
    → TellsGet content run result
get_tells content old new disk run (Done given) asked holds ends = search (by, cases_lt, arith)
  where
    told : (bytes : List ℕ) (asked : Kind) → IsReadKind asked → bytes ≡ content
        → IsReadRight (Some content) asked (answer_of asked run.entry bytes)
    told bytes kind.Get is same = same
    told bytes kind.Sum is same = (cc, cc)
    told bytes other is same = absurd is

    by : (solved : Solved) → IsSolvedAs content solved → AnswersSolved run solved given
        → IsReadRight (Some content) run.kind given
    by NotYet is answers = search arith
    by (Bytes bytes) is answers = search (told, arith)
    by Damaged is answers = absurd is
get_tells content old new disk run other asked holds ends = absurd ends

-- A read stays with its block while others' turns leave what is read at the block's places, on devices that
-- are in use still.
pub get_stays : (wrong : Excepted) (content : List ℕ) (before after : CoreState) (run : GetRun)
    → after.core.pool.uber.reflow ≡ before.core.pool.uber.reflow → after.core.pool.done ≡ before.core.pool.done
    → IsWithin before.core.pool.out after.core.pool.out
    → ((HasTooManyOut after.core → ⊥) → HasTooManyOut before.core → ⊥)
    → ((cell : Cell) (device device_sector : ℕ) → IsCell run.read.layout content cell
    → IsRequiredPlace before.core.pool.uber.reflow before.core.pool.done cell.row_end cell.sector device device_sector
    → has_device after.core.pool.out device ≡ false → before.disk.reads device device_sector ≡ Some cell.bytes
    → after.disk.reads device device_sector ≡ Some cell.bytes)
    → HoldsGet wrong content before run → HoldsGet wrong content after run
get_stays wrong content before after run widths front within few same holds = record {
  right = rw (widths, front) (search block_stays);
  len_is = holds.len_is;
  are_bytes = holds.are_bytes;
  digest_is = holds.digest_is;
  so_far = search (read_stays, arith);
  solved = λ none few_after. holds.solved none (few few_after);
}

-- Where more may be wrong no less is held.
pub get_with_more : (wrong more : Excepted) (content : List ℕ) (state : CoreState) (run : GetRun) → IsAmong wrong more
    → HoldsGet wrong content state run → HoldsGet more content state run
get_with_more wrong more content state run among holds = record {
  right = record {
    each = λ cell its. record {
      at = λ device device_sector place used right_there. (holds.right.each cell its).at device device_sector place used
          (λ listed. right_there (among _ listed));
    };
  };
  len_is = holds.len_is;
  are_bytes = holds.are_bytes;
  digest_is = holds.digest_is;
  so_far = read_with_more content state.core.pool.uber.reflow state.core.pool.out wrong more run.read among holds.so_far;
  solved = λ none. holds.solved (none_among wrong more among none);
}

-- So it is where solving went well.
pub went_solves : (run next : GetRun) (result : Result (Unit {0}) OutOfMemory) → OnOk result (SolvesGet run next)
    → OnOk result ((wrong : Excepted) (content : List ℕ) (state : CoreState) → run.read.row ≡ rows_of run.read.layout
    → IsGetOf state.core run → HoldsGet wrong content state run → HoldsGet wrong content state next)
went_solves run next (Ok value) solves = search get_solves
went_solves run next (Err why) solves = tt

-- What was solved of one reading is solved of one that is alike.
pub solved_alike : (one other : ToSolve) (solved : Solved) → IsLayout other.layout → IsAlike one other
    → IsSolved one solved → IsSolved other solved
solved_alike one other solved is alike its = by solved
    (rw (alike.block.layout, alike.block.len, alike.block.digest, alike.widths) at its)
  where
    same : AreAlike other.layout one.read other.read
    same = record {
      lost = alike.columns.lost;
      columns = record { at = λ row column row_in low. alike.columns.rows row row_in column low };
    }

    by : (solved : Solved) → IsSolved (record other { read = one.read }) solved → IsSolved other solved
    by NotYet none = none
    by (Bytes bytes) (long, decoded) = (
      long,
      decoded_alike other.layout one.read other.read other.len other.digest other.widths is same bytes decoded,
    )
    by Damaged damaged =
        damaged_alike other.layout one.read other.read other.len other.digest other.widths is same damaged
