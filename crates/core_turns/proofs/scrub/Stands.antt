-- What stands between two turns, over the turns of a block under a scrub that write nothing.
use Rattle.core_turns.proofs.Words.{◌≡◌, ◌≢◌, inl, inr, ⊎_elim, ℕ, ◌<◌, List, Option, Some, refl, sym, ◌∙◌, ap, subst}
use Rattle.core_turns.proofs.Words.{arith, true≢false, Contains, Disk, Lawful, Unchanged, Hold, rows_of, Gains, Map}
use Rattle.core_turns.proofs.Words.{Kept, Setting, Nowhere, gains_old, gains_item, gains_cases, found_id}
use Rattle.core_turns.proofs.Words.{OnlyFailedGoOut, point_of, IsAtColumn, CommitRun, BlockScrub, More, Core, IsCore}
use Rattle.core_turns.proofs.Words.{CoreState, at_disk, BeginsBlock, FindsBlock, HoldsPut, HoldsScrub, IsPutOf}
use Rattle.core_turns.proofs.Words.{IsSolvedAs, LeavesBlock, MayMend, ReadsTurn, HoldingCall, Putting, Scrubbing}
use Rattle.core_turns.proofs.Words.{Damage, SetsContent, actor_of, AreCallsOf, Stands, Solved, Bytes, GetRun}
use Rattle.core_turns.proofs.Words.{IndexEntry}
use Rattle.core_turns.specs.Scrubbing.{FillsMend}
use Rattle.core_state.specs.declared.answer.Kind.TheVariants as kind
use Rattle.core_turns.proofs.free.TakenBack.{each_gained}
use Rattle.core_turns.proofs.state.Frames.{OnlyOut, call_off_nowhere, off_nowhere, leaves_read}
use Rattle.core_turns.proofs.state.StandFrames.{groups_read, stands_frame}
use Rattle.core_turns.proofs.state.Holds.{keeps_ended, keeps_gained}
use Rattle.core_turns.proofs.state.Reads.{of_map_begun, of_map_fewer, reads_less, reads_on}
use Rattle.core_turns.proofs.read.Laws.{get_finds, get_reads, get_solves, get_with_more}
use Rattle.core_turns.proofs.read.Stands.{AddsNoPut, call_loses, stands_held}
use Rattle.core_turns.proofs.read.Turns.{get_shared}
use Rattle.core_turns.proofs.put.Stands.{fills_holds, stands_with}

-- A block under a scrub that comes adds no put.
pub scrub_adds : {left calls : List HoldingCall} {run : BlockScrub} → Gains left calls (Scrubbing run)
    → AddsNoPut left calls
scrub_adds {left} {calls} {run} gains put listed = ⊎_elim
    (λ (same : Scrubbing run ≡ Putting put). cc)
    (λ was. was) (gains_cases left calls (Scrubbing run) (Putting put) gains listed)

module _ {setting : Setting} {last : Kept} {begun : List Kept} {map : Map} {damage : Damage} {contents : ℕ → List ℕ}
    {commit : Option CommitRun} where
  -- A scrub begins at the block that the map has at an id.
  pub block_begins_stands : {old new : Core} {disk : Disk} {run : BlockScrub} {left : List HoldingCall} (actor id : ℕ)
      → IsCore old → BeginsBlock old new actor id (More run)
      → ((call : HoldingCall) → Contains left call → actor_of call ≢ actor)
      → Stands setting last begun map damage contents left commit (at_disk old disk)
      → (content : List ℕ) × (map id ≡ Some content)
      × ((nows : ℕ → List ℕ) (calls : List HoldingCall) → SetsContent contents nows actor content
      → Gains left calls (Scrubbing run) → Stands setting last begun map damage nows calls commit (at_disk new disk))
  block_begins_stands {old} {new} {disk} {run} actor id is (begins, mend, same, of) apart stands =
      let found = get_finds damage.left map old new disk actor id kind.Sum (More run.read) stands.holds begins in
      let held = get_with_more damage.left damage.listed found.0 (at_disk new disk) run.read stands.damage_is.within
      found.2 in
      let block : HoldsScrub damage found.0 (at_disk new disk) run = record {
        read = held;
        mend = rw mend (record { len_is = held.len_is; are_bytes = held.are_bytes; so_far = λ filled some. cc });
        listed = λ differs. absurd (true≢false (sym differs ∙ same));
      } in (
        found.0,
        found.1,
        λ nows calls sets gains. stands_held old new disk is (cc)
            (keeps_gained old.pool.done old.holds new.holds run.read.hold (cc) begins.8 begins.9) (scrub_adds gains)
            (of_map_begun old.pool.blocks.table.entries map gains refl
            (ap map (found_id old.pool.blocks.table.entries id run.read.entry begins.1) ∙ found.1
            ∙ ap (λ (c : List ℕ). Some c) (sym (ap nows (ap (λ (h : Hold). h.actor) begins.4) ∙ sets.own)))
            (λ call was. sets.others (actor_of call) (apart call was)))
            (each_gained gains (inl (rw (ap nows (ap (λ (h : Hold). h.actor) begins.4) ∙ sets.own) block))
            (λ call was. inr (rw (sets.others (actor_of call) (apart call was)) (stands.each call was)))) stands,
      )

  -- A turn that writes nothing and puts devices out at most leaves all, and the block where it goes on.
  pub block_looked : {before after : CoreState} {run next : BlockScrub} {left calls nexts : List HoldingCall}
      → IsCore before.core → OnlyOut before.core after.core → Unchanged before.disk after.disk
      → OnlyFailedGoOut (point_of before.core.pool.out before.disk) (point_of after.core.pool.out after.disk)
      → Lawful after.disk → Gains left calls (Scrubbing run) → Gains left nexts (Scrubbing next)
      → next.read.entry ≡ run.read.entry → next.read.hold ≡ run.read.hold
      → (HoldsScrub damage (contents run.read.hold.actor) after run
      → HoldsScrub damage (contents run.read.hold.actor) after next)
      → Stands setting last begun map damage contents calls commit before
      → Stands setting last begun map damage contents nexts commit after
  block_looked {before} {after} {run} {next} {left} {calls} is core unchanged outs lawful gains again entry hold goes
      stands =
      let leaves = leaves_read before after is.is.front core outs.still unchanged in
      let still = stands_frame Nowhere before after leaves (search call_off_nowhere) (search off_nowhere) core
      unchanged.goes_on.later (search groups_read) stands in
      stands_with (search (call_loses, scrub_adds, arith))
      (reads_on (ap (λ (e : IndexEntry). Some e) entry) (ap (λ (h : Hold). h.actor) hold) gains again)
      (each_gained again (subst (λ (actor : ℕ). HoldsScrub damage (contents actor) after next)
      (sym (ap (λ (h : Hold). h.actor) hold))
      (goes (still.each (Scrubbing run) (gains_item left calls (Scrubbing run) gains))))
      (search (gains_old, still.each, arith))) still

  -- It reads a column more,
  pub block_reads_stands : {before after : CoreState} {run next : BlockScrub} {left calls nexts : List HoldingCall}
      → IsCore before.core → IsAtColumn run.read.read → run.read.read.row < rows_of run.read.read.layout
      → next ≡ record run { read = next.read } → ReadsTurn before run.read after (More next.read)
      → Unchanged before.disk after.disk
      → OnlyFailedGoOut (point_of before.core.pool.out before.disk) (point_of after.core.pool.out after.disk)
      → Lawful after.disk → Gains left calls (Scrubbing run) → Gains left nexts (Scrubbing next)
      → AreCallsOf before.core calls → Stands setting last begun map damage contents calls commit before
      → Stands setting last begun map damage contents nexts commit after
  block_reads_stands {before} {after} {run} {next} {left} {calls} is place low same reads unchanged outs lawful gains
      again are stands =
      let listed = gains_item left calls (Scrubbing run) gains in
      let held = stands.each (Scrubbing run) listed in
      let read = get_reads before after (More next.read) is.is.front (are.each (Scrubbing run) listed).read place low
      unchanged outs held.read reads in
      block_looked is reads.2 unchanged outs lawful gains again (cc) (cc) (λ now. record {
        read = read;
        mend = rw same now.mend;
        listed = rw same now.listed;
      }) stands

  -- is found, where what was solved is the block,
  pub block_finds_stands : {state : CoreState} {run next : BlockScrub} {left calls nexts : List HoldingCall}
      → IsCore state.core → FindsBlock run next → run.read.read.row ≡ rows_of run.read.read.layout
      → IsSolvedAs (contents run.read.hold.actor) next.read.solved → MayMend damage.left next
      → Gains left calls (Scrubbing run) → Gains left nexts (Scrubbing next) → AreCallsOf state.core calls
      → Stands setting last begun map damage contents calls commit state
      → Stands setting last begun map damage contents nexts commit state
  block_finds_stands {state} {run} {next} {left} {calls} is finds whole right may gains again are stands =
      let listed = gains_item left calls (Scrubbing run) gains in
      let held = stands.each (Scrubbing run) listed in
      let of = are.each (Scrubbing run) listed in
      let block : HoldsScrub damage (contents run.read.hold.actor) state next = record {
        read = get_solves damage.listed (contents run.read.hold.actor) state run.read next.read whole of.read held.read
            finds.solved;
        mend = by next.read.solved right finds.fills of.mend held.mend;
        listed = may;
      } in
      stands_with (search (call_loses, scrub_adds, arith))
      (reads_on (ap (λ (r : GetRun). Some r.entry) finds.solved.rest) (ap (λ (r : GetRun). r.hold.actor)
      finds.solved.rest) gains again)
      (each_gained again (subst (λ (actor : ℕ). HoldsScrub damage (contents actor) state next)
      (sym (ap (λ (r : GetRun). r.hold.actor) finds.solved.rest)) block)
      (search (gains_old, stands.each, arith))) stands
    where
      by : {content : List ℕ} (solved : Solved) → IsSolvedAs content solved → FillsMend run.mend next.mend solved
          → IsPutOf state.core run.mend → HoldsPut content state run.mend → HoldsPut content state next.mend
      by (Bytes bytes) same fills of held = fills_holds (rw same at fills) of held
      by other same fills of held = rw fills held

  -- and left.
  pub block_leaves_stands : {old new : Core} {disk : Disk} {run : BlockScrub} {left calls : List HoldingCall}
      → IsCore old → LeavesBlock old new run → Gains left calls (Scrubbing run) → AreCallsOf old calls
      → Stands setting last begun map damage contents calls commit (at_disk old disk)
      → Stands setting last begun map damage contents left commit (at_disk new disk)
  block_leaves_stands {old} {new} {disk} {run} {left} {calls} is leaves gains are stands =
      stands_held old new disk is (rw leaves.rest) (keeps_ended old.pool.done old.holds new.holds run.read.hold
      (get_shared old run.read (are.each (Scrubbing run) (gains_item left calls (Scrubbing run) gains)).read)
      leaves.ends)
      (call_loses gains) (of_map_fewer map refl (reads_less gains))
      (λ call listed. inr (stands.each call (search gains_old))) stands
