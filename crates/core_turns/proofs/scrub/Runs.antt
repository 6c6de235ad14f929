-- A scrub is the one that is under way over each of its turns, which do what each turn does to the bank and the
-- devices.
use Rattle.core_turns.proofs.Words.{◌≡◌, ⊎_elim, Option, Some, None, refl, sym, ◌∙◌, ap, OnlyFailedGoOut, Unchanged}
use Rattle.core_turns.proofs.Words.{point_of, IsOnInUse, BlockScrub, GetRun, PutRun, Solved, Bytes, Turn, More, Busy}
use Rattle.core_turns.proofs.Words.{Done, Core, CoreState, IsCore, at_disk, FindsBlock, IsPutOf, IsScrubOf, IsSolved}
use Rattle.core_turns.proofs.Words.{LeavesBlock, Answer, Disk, TurnGoesOn, to_solve_of}
use Rattle.core_turns.proofs.put.Goes.{outs_by_write}
use Rattle.core_turns.specs.Scrubbing.{FillsMend}
use Rattle.core_turns.specs.ScrubRun.{DropsOn, EndsScrub, FindsOn, GoesOn, IsMoreScrubRun, IsScrubRunOf, LeavesOn}
use Rattle.core_turns.specs.ScrubRun.{LooksOn, MendsOn, PassesOver, ReadsOn, ScrubRun, StepsToEnd, TakesUp}
use Rattle.core_turns.specs.ScrubRun.{WaitsForBlock, without_scrub}
use Rattle.core_state.proofs.SpotReads.{outs_by_step, unchanged_by_step}
use Rattle.core_open.proofs.Others.{read_touches}
use Rattle.core_client.specs.Writing.{spot_written}
use Rattle.core_turns.proofs.put.Goes.{put_goes_on}
use Rattle.core_turns.proofs.put.Turns.{fills_of}
use Rattle.core_turns.proofs.read.Turns.{solved_of}
use Rattle.core_turns.proofs.scrub.Turns.{IsSamePut, block_looks_of, block_mends_of, block_reads_of, scrub_goes}
use Rattle.core_turns.proofs.sync.Goes.{turn_nowhere, turn_still}

-- ---- a block that is found

-- What is made up for its places is a put of the same sectors,
fills_same : (old new : PutRun) (solved : Solved) → FillsMend old new solved → IsSamePut old new
fills_same old new (Bytes bytes) fills = rw fills.rest (record { hold = refl; range = refl; len = refl })
fills_same old new other fills = rw fills (record { hold = refl; range = refl; len = refl })

fills_put : {core : Core} {run : BlockScrub} (next : BlockScrub) (solved : Solved) → IsSolved (to_solve_of run.read) solved
    → FillsMend run.mend next.mend solved → IsScrubOf core run → IsPutOf core next.mend
fills_put {core} {run} next (Bytes bytes) is fills of =
    fills_of core run.mend next.mend bytes fills (is.0 ∙ sym of.len) of.mend
fills_put {core} {run} next other is fills of = rw fills of.mend

-- so it is under its scrub still.
pub block_finds_of : {core : Core} {run next : BlockScrub} → FindsBlock run next → IsScrubOf core run
    → IsScrubOf core next
block_finds_of {core} {run} {next} finds of =
    let get = finds.solved.rest in
    let same = fills_same run.mend next.mend next.read.solved finds.fills in
    scrub_goes (solved_of core run.read next.read finds.solved of.read)
    (fills_put next next.read.solved finds.solved.solved finds.fills of)
    (ap (λ (r : GetRun). r.hold) get) (ap (λ (r : GetRun). r.kind) get) (ap (λ (r : GetRun). r.entry) get)
    (ap (λ (r : GetRun). r.read.layout) get) same.hold same.range same.len of

-- The block in hand is of the core.
pub block_in_hand : {core : Core} {run : ScrubRun} → IsScrubRunOf core run → (block : BlockScrub)
    → run.block ≡ Some block → IsScrubOf core block
block_in_hand of block same = rw same at of.block

-- ---- which devices a turn puts out

module _ {before after : CoreState} {run : ScrubRun} {block : BlockScrub} {next : ScrubRun} where
  reads_outs : (reads : ReadsOn before run block after next)
      → OnlyFailedGoOut (point_of before.core.pool.out before.disk) (point_of after.core.pool.out after.disk)
  reads_outs reads = outs_by_step _ reads.reads.1.3.column.given (point_of before.core.pool.out before.disk)
      (point_of after.core.pool.out after.disk) reads.reads.1.3.column.read

  reads_unchanged : (reads : ReadsOn before run block after next) → Unchanged before.disk after.disk
  reads_unchanged reads = unchanged_by_step _ reads.reads.1.3.column.given (point_of before.core.pool.out before.disk)
      (point_of after.core.pool.out after.disk) reads.reads.1.3.column.read

  looks_outs : (looks : LooksOn before run block after next)
      → OnlyFailedGoOut (point_of before.core.pool.out before.disk) (point_of after.core.pool.out after.disk)
  looks_outs looks = outs_by_step (spot_written looks.looks.checks.write) looks.looks.checks.checks.given
      (point_of before.core.pool.out before.disk) (point_of after.core.pool.out after.disk)
      looks.looks.checks.checks.read

  looks_unchanged : (looks : LooksOn before run block after next) → Unchanged before.disk after.disk
  looks_unchanged looks = unchanged_by_step (spot_written looks.looks.checks.write) looks.looks.checks.checks.given
      (point_of before.core.pool.out before.disk) (point_of after.core.pool.out after.disk)
      looks.looks.checks.checks.read

-- ---- what a turn does to the bank and the devices

-- One that reads goes on,
reads_go_on : (before after : CoreState)
    → after.core ≡ record before.core { pool = record before.core.pool { out = after.core.pool.out } }
    → Unchanged before.disk after.disk
    → OnlyFailedGoOut (point_of before.core.pool.out before.disk) (point_of after.core.pool.out after.disk)
    → TurnGoesOn before after
reads_go_on before after core unchanged outs = record {
  parity = ap (λ (c : Core). c.pool.uber.parity) core;
  reach = ap (λ (c : Core). c.reach) core;
  rows = ap (λ (c : Core). c.pool.uber.reflow.rows) core;
  later = unchanged.goes_on.later;
  out = outs;
  only = read_touches (IsOnInUse before.core.reach before.core.pool.out) unchanged;
}

-- and so does one in which a block is left.
leaves_go_on : (before after : CoreState) (block : BlockScrub) → LeavesBlock before.core after.core block
    → after.disk ≡ before.disk → TurnGoesOn before after
leaves_go_on before after block leaves disk = turn_still before after (ap (λ (c : Core). c.pool.uber) leaves.rest)
    (ap (λ (c : Core). c.reach) leaves.rest) (ap (λ (c : Core). c.pool.out) leaves.rest) disk

module _ (before after : CoreState) (run : ScrubRun) where
  -- Each turn of a scrub that goes on does what each turn does,
  goes_on : (next : ScrubRun) (block : Option BlockScrub) → IsCore before.core
      → ((one : BlockScrub) → block ≡ Some one → IsScrubOf before.core one) → GoesOn before run block after next
      → TurnGoesOn before after
  goes_on next None is of goes = ⊎_elim
      (λ (takes : TakesUp before run after next). still takes.begins.0.6 takes.disk)
      (⊎_elim (λ (waits : WaitsForBlock before run after next). same waits.begins.1 waits.disk)
      (λ (passes : PassesOver before run after next). same passes.begins.0 passes.disk)) goes
    where
      still : after.core ≡ record before.core { holds = after.core.holds } → after.disk ≡ before.disk
          → TurnGoesOn before after
      still core = turn_still before after (ap (λ (c : Core). c.pool.uber) core) (ap (λ (c : Core). c.reach) core)
          (ap (λ (c : Core). c.pool.out) core)

      same : after.core ≡ before.core → after.disk ≡ before.disk → TurnGoesOn before after
      same core = turn_still before after (ap (λ (c : Core). c.pool.uber) core) (ap (λ (c : Core). c.reach) core)
          (ap (λ (c : Core). c.pool.out) core)
  goes_on next (Some block) is of goes = ⊎_elim
      (λ (reads : ReadsOn before run block after next).
      reads_go_on before after reads.reads.1.2 (reads_unchanged reads) (reads_outs reads))
      (⊎_elim (λ (finds : FindsOn before run block after next). rw finds.rest (turn_nowhere before))
      (⊎_elim
      (λ (looks : LooksOn before run block after next).
      reads_go_on before after looks.looks.rest (looks_unchanged looks) (looks_outs looks))
      (⊎_elim
      (λ (mends : MendsOn before run block after next).
      put_goes_on (More mends.more.mend) is (of block refl).mend mends.mends.writes)
      (⊎_elim
      (λ (leaves : LeavesOn before run block after next).
      leaves_go_on before after block leaves.leaves leaves.disk)
      (λ (drops : DropsOn before run block after next).
      leaves_go_on before after block drops.drops.leaves drops.drops.disk))))) goes

  -- and so does its last one,
  ends_on : (block : Option BlockScrub) (given : Answer) → EndsScrub before run block after given
      → TurnGoesOn before after
  ends_on None given ends = rw ends.1 (turn_nowhere before)
  ends_on (Some block) given ends = leaves_go_on before after block ends.1 ends.2

  pub scrub_goes_on : (turn : Turn ScrubRun) → IsCore before.core → IsScrubRunOf before.core run
      → StepsToEnd before run after turn → TurnGoesOn before after
  scrub_goes_on (More next) is of goes = goes_on next run.block is (block_in_hand of) goes
  scrub_goes_on (Busy by) is of steps = absurd steps
  scrub_goes_on (Done given) is of ends = ends_on run.block given ends

-- behind which nothing of it is under way.
pub scrub_ended : (before : CoreState) (left : Core) (disk : Disk) → TurnGoesOn before (at_disk left disk)
    → TurnGoesOn before (at_disk (without_scrub left) disk)
scrub_ended before left disk goes = record {
  parity = goes.parity;
  reach = goes.reach;
  rows = goes.rows;
  later = goes.later;
  out = goes.out;
  only = goes.only;
}

-- ---- a scrub that goes on

-- What goes on is the scrub that is under way still.
pub scrub_run_of : (before after : CoreState) {run next : ScrubRun} (block : Option BlockScrub) → run.block ≡ block
    → IsScrubRunOf before.core run → GoesOn before run block after next → IsScrubRunOf after.core next
scrub_run_of before after {run} {next} None same of goes = ⊎_elim
    (λ (takes : TakesUp before run after next). record {
      under_way = rw takes.next_is (ap (λ (c : Core). c.scrubbing) takes.begins.0.6 ∙ of.under_way);
      block = rw takes.next_is takes.begins.3;
    })
    (⊎_elim
    (λ (waits : WaitsForBlock before run after next). rw (waits.next_is, waits.begins.1) of)
    (λ (passes : PassesOver before run after next). rw (passes.next_is, passes.begins.0) (record {
      under_way = of.under_way;
      block = of.block;
    }))) goes
scrub_run_of before after {run} {next} (Some block) same of goes =
    let its = block_in_hand of block same in
    ⊎_elim
    (λ (reads : ReadsOn before run block after next). record {
      under_way = rw reads.next_is (ap (λ (c : Core). c.scrubbing) reads.reads.1.2 ∙ of.under_way);
      block = rw (reads.next_is, reads.reads.0)
          (block_reads_of before after reads.more.read (reads_outs reads).still its reads.reads.1);
    })
    (⊎_elim
    (λ (finds : FindsOn before run block after next). record {
      under_way = rw (finds.found.next_is, finds.rest) of.under_way;
      block = rw (finds.found.next_is, finds.rest) (block_finds_of finds.found.finds its);
    })
    (⊎_elim
    (λ (looks : LooksOn before run block after next). record {
      under_way = rw looks.next_is (ap (λ (c : Core). c.scrubbing) looks.looks.rest ∙ of.under_way);
      block = rw looks.next_is (block_looks_of before after (looks_outs looks).still its looks.looks);
    })
    (⊎_elim
    (λ (mends : MendsOn before run block after next). record {
      under_way = rw mends.next_is (ap (λ (c : Core). c.scrubbing) mends.mends.writes.rest ∙ of.under_way);
      block = rw mends.next_is
          (block_mends_of before after (outs_by_write mends.mends.writes.writes.made).still its mends.mends);
    })
    (⊎_elim
    (λ (leaves : LeavesOn before run block after next). record {
      under_way = rw leaves.next_is (ap (λ (c : Core). c.scrubbing) leaves.leaves.rest ∙ of.under_way);
      block = rw leaves.next_is tt;
    })
    (λ (drops : DropsOn before run block after next). record {
      under_way = rw drops.next_is (ap (λ (c : Core). c.scrubbing) drops.drops.leaves.rest ∙ of.under_way);
      block = rw drops.next_is tt;
    }))))) goes

pub scrub_more : (before after : CoreState) (run : ScrubRun) (turn : Turn ScrubRun) → IsScrubRunOf before.core run
    → StepsToEnd before run after turn → IsMoreScrubRun after.core turn
scrub_more before after run (More next) of goes = scrub_run_of before after run.block refl of goes
scrub_more before after run other of steps = tt
