-- A block under a scrub is one of its pool over each turn.
use Rattle.core_turns.proofs.Words.{◌≡◌, ℕ, false, Some, refl, sym, ◌∙◌, ap, arith, IsWithin, found_listed, BlockScrub}
use Rattle.core_turns.proofs.Words.{GetRun, PutRun, More, Core, CoreState, IsCore, BeginsGet, IsGetOf, IsPutOf}
use Rattle.core_turns.proofs.Words.{IsScrubOf, Answer, ReadsTurn, Scrubbing, Hold, PutRange, IndexEntry, IsMoreScrub}
use Rattle.core_turns.proofs.Words.{None, Option, Bool, Filled, LooksOne, MendsOne, Write, looked_at, mend_at}
use Rattle.core_turns.proofs.Words.{slice_get, true, turn_with}
use Rattle.core_turns.proofs.put.Turns.{written_of}
use Rattle.core_state.specs.declared.answer.Kind.TheVariants as kind
use Rattle.block_record.specs.Page.{IsRightEntry}
use Rattle.core_turns.proofs.state.Frames.{OnlyOut, call_of_stays, widths_out}
use Rattle.core_turns.proofs.read.Turns.{get_of_more}

-- One scrub is under way at a time.
pub one_scrub : {core : Core} {run other : BlockScrub} → IsScrubOf core run → IsScrubOf core other
    → run.read.hold.actor ≡ other.read.hold.actor
one_scrub of its = some_same (sym of.under_way ∙ its.under_way)
  where
    some_same : {one other : ℕ} → Some one ≡ Some other → one ≡ other
    some_same same = cc

-- A block that goes on in the same sectors is under the same scrub.
pub scrub_goes : {core : Core} {run next : BlockScrub} → IsGetOf core next.read → IsPutOf core next.mend
    → next.read.hold ≡ run.read.hold → next.read.kind ≡ run.read.kind → next.read.entry ≡ run.read.entry
    → next.read.read.layout ≡ run.read.read.layout → next.mend.hold ≡ run.mend.hold
    → next.mend.range ≡ run.mend.range → next.mend.len ≡ run.mend.len → IsScrubOf core run → IsScrubOf core next
scrub_goes read mend hold kind entry layout held range len of = record {
  read = read;
  mend = mend;
  under_way = rw hold of.under_way;
  kind = kind ∙ of.kind;
  hold = held ∙ of.hold ∙ sym hold;
  layout = ap (λ (r : PutRange). r.layout) range ∙ of.layout ∙ sym layout;
  len = len ∙ of.len ∙ ap (λ (e : IndexEntry). e.len) (sym entry);
}

-- A scrub begins at a block.
pub block_begins_of : {old new : Core} {actor : ℕ} (id : ℕ) {read : GetRun} → IsCore new
    → BeginsGet old new actor kind.Sum id (More read) → old.scrubbing ≡ Some actor
    → IsScrubOf new (record {
      read = read;
      mend = mend_at read old.pool.uber.reflow old.pool.done;
      differs = false;
    })
block_begins_of {old} {new} {actor} id {read} now begins scrubs = record {
  read = begins.7;
  mend = rw begins.6 put;
  under_way = ap (λ (c : Core). c.scrubbing) begins.6 ∙ scrubs
      ∙ ap (λ (h : Hold). Some h.actor) (sym begins.4);
  kind = begins.2;
  hold = refl;
  layout = refl;
  len = refl;
}
  where
    is : IsCore (record old { holds = new.holds })
    is = rw begins.6 at now

    of : IsGetOf (record old { holds = new.holds }) read
    of = rw begins.6 at begins.7

    right : IsRightEntry read.entry
    right = (is.step.each read.entry (found_listed old.pool.blocks.table.entries id read.entry begins.1)).right

    put : IsPutOf (record old { holds = new.holds }) (mend_at read old.pool.uber.reflow old.pool.done)
    put = record {
      pool = of.pool;
      front = is.is.front;
      begun_pool = of.pool;
      begun_front = is.is.front;
      places = search arith;
      range = record {
        id_is = refl;
        birth_is = refl;
        layout_is = rw (of.layout_is, is.is.parity, is.is.births) refl;
      };
      born = (right.birth.0, of.born);
      len = right.len;
      holds = of.holds;
      hold_is = search arith;
      filled = λ filled some. cc;
    }

-- Where only devices went out it is under its scrub still,
pub scrub_out : (old new : Core) {run : BlockScrub} → OnlyOut old new → IsWithin old.pool.out new.pool.out
    → IsScrubOf old run → IsScrubOf new run
scrub_out old new {run} core within of = call_of_stays old new (Scrubbing run)
    (record { widths = widths_out old new core; copying = cc; scrubbing = cc; within = within })
    (rw core of.read.holds) of

-- with one column more too.
pub block_reads_of : (before after : CoreState) {run : BlockScrub} (read : GetRun)
    → IsWithin before.core.pool.out after.core.pool.out → IsScrubOf before.core run
    → ReadsTurn before run.read after (More read) → IsScrubOf after.core (record run { read = read })
block_reads_of before after read within of reads =
    let now = scrub_out before.core after.core reads.2 within of in
    scrub_goes (get_of_more before after (More read) of.read reads) now.mend (cc) (cc) (cc) reads.3.on.layout_is
    refl refl refl now

-- So it is where the turn may have an answer in its place.
pub block_reads_or_ends : (before after : CoreState) {run : BlockScrub} (read : GetRun) (answer : Option Answer)
    → IsWithin before.core.pool.out after.core.pool.out → IsScrubOf before.core run
    → ReadsTurn before run.read after (turn_with read answer)
    → IsMoreScrub after.core (turn_with (record run { read = read }) answer)
block_reads_or_ends before after read None within of reads = block_reads_of before after read within of reads
block_reads_or_ends before after read (Some given) within of reads = tt

-- ---- places

-- A look and a write leave what the block's own put is of.
pub record IsSamePut (run next : PutRun) : Type 0 where
  pub hold : next.hold ≡ run.hold
  pub range : next.range ≡ run.range
  pub len : next.len ≡ run.len

pub looked_same : (run : PutRun) (filled : Filled) (otherwise : Bool) → IsSamePut run (looked_at run filled otherwise)
looked_same run filled true = record { hold = refl; range = refl; len = refl }
looked_same run filled false = record { hold = refl; range = refl; len = refl }

looked_put : {core : Core} {run : PutRun} {filled : Filled} {write : Write} (otherwise : Bool)
    → run.filled ≡ Some filled → slice_get filled.write.writes filled.write.next ≡ Some write → IsPutOf core run
    → IsPutOf core (looked_at run filled otherwise)
looked_put true some there of = of
looked_put {core} {run} {filled} {write} false some there of = written_of core run filled write some there of

-- It is under its scrub still when a place was looked at,
pub block_looks_of : (before after : CoreState) {run next : BlockScrub}
    → IsWithin before.core.pool.out after.core.pool.out → IsScrubOf before.core run → LooksOne before run after next
    → IsScrubOf after.core next
block_looks_of before after {run} {next} within of looks =
    let now = scrub_out before.core after.core looks.rest within of in
    let same = looked_same run.mend looks.checks.filled looks.otherwise in
    let is = looks.checks.next_is in
    scrub_goes (rw looks.next_is now.read)
    (rw is (looked_put looks.otherwise looks.checks.filled_is looks.checks.write_is now.mend))
    (rw looks.next_is refl) (rw looks.next_is refl) (rw looks.next_is refl) (rw looks.next_is refl)
    (ap (λ (r : PutRun). r.hold) is ∙ same.hold) (ap (λ (r : PutRun). r.range) is ∙ same.range)
    (ap (λ (r : PutRun). r.len) is ∙ same.len) now

-- and when one was mended.
pub block_mends_of : (before after : CoreState) {run next : BlockScrub}
    → IsWithin before.core.pool.out after.core.pool.out → IsScrubOf before.core run → MendsOne before run after next
    → IsScrubOf after.core next
block_mends_of before after {run} {next} within of mends =
    let now = scrub_out before.core after.core mends.writes.rest within of in
    let writes = mends.writes.writes in
    let is = writes.next_is in
    scrub_goes (rw mends.next_is now.read)
    (rw is (written_of after.core run.mend writes.filled writes.write writes.filled_is writes.write_is now.mend))
    (rw mends.next_is refl) (rw mends.next_is refl) (rw mends.next_is refl) (rw mends.next_is refl)
    (ap (λ (r : PutRun). r.hold) is) (ap (λ (r : PutRun). r.range) is) (ap (λ (r : PutRun). r.len) is) now
