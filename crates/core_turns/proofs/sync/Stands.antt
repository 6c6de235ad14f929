-- A commit beside the calls that are under way: how it begins, goes on, and is cut short.
use Rattle.core_turns.proofs.Words.{Contains, ◌≡◌, ℕ, ◌+◌, List, [], ◌∷◌, Some, None, refl, sym, subst, arith, Disk}
use Rattle.core_turns.proofs.Words.{Lawful, Reflow, IndexEntry, IsIndex, IsTable, IsWithin, Map, Kept, Setting, Point}
use Rattle.core_turns.proofs.Words.{point_of, IsRowOf, KeepsSince, Nowhere, since_more, Chooses, KeepsOrEnds, IsListed}
use Rattle.core_turns.proofs.Words.{put_run, SparesAll, blocks_kept, among_listed, CommitStep, Called, Ended, CommitRun}
use Rattle.core_turns.proofs.Words.{CommitSteps, IsCommitting, shown_by, committing_begins, committing_steps}
use Rattle.core_turns.proofs.Words.{committing_cut, committing_knows, goes_on, steps_went, uber_for, may_commit}
use Rattle.core_turns.proofs.Words.{listed_in_pool, IsReady, PutRun, More, Core, IsCore, CoreState, as_begun, at_disk}
use Rattle.core_turns.proofs.Words.{pool_at, HasTooManyOut, BeginsCommit, IsCommitOf, StepsCommit, commit_of}
use Rattle.core_turns.proofs.Words.{HoldingCall, Putting, Stands, AreCallsOf, CommitStands, shown_of, choice_widths}
use Rattle.core_turns.proofs.Words.{Damage, ListsDamage}
use Rattle.core_turns.proofs.state.Calls.{range_listed}
use Rattle.core_turns.proofs.state.Cores.{bank_within}
use Rattle.core_turns.proofs.sync.Begins.{begins_ready, begun_commit, core_follows, few_out, rests, rests_pool}
use Rattle.core_turns.proofs.state.Frames.{OnlyOut, call_off_nowhere, off_nowhere, leaves_spared, calls_hold_on}
use Rattle.core_turns.proofs.state.Frames.{calls_beside, calls_stay}
use Rattle.core_turns.proofs.state.StandFrames.{group_still, stands_frame}
use Rattle.core_turns.proofs.state.Holds.{taken_has}
use Rattle.core_turns.proofs.state.Damage.{lists_next}
use Rattle.core_turns.proofs.state.Writes.{shown_one}

-- No put has a sector of a block that stands in the table.
spare_table : (core : Core) (calls : List HoldingCall) (run : PutRun) → AreCallsOf core calls
    → IsIndex core.pool.blocks.table.entries → Contains calls (Putting run)
    → SparesAll core.pool.blocks.parity core.pool.blocks.births core.pool.blocks.table.entries (put_run run.range)
spare_table core calls run are index has entry listed =
    let under = are.under.each run.range (range_listed calls run has) in search (under.clear, among_listed)

-- ---- a commit begins

pub commit_begins_calls : (old new : Core) (calls : List HoldingCall) (actor : ℕ) (run : CommitRun)
    → BeginsCommit old new actor (More run) → AreCallsOf old calls → AreCallsOf new calls
commit_begins_calls old new calls actor run begins are = rw begins.rest
    (calls_beside old new.holds (old.begun + 1) old.reach (Some actor) old.attaching calls (omega arith)
    (search taken_has) are)

-- A commit begins: it makes the group of the map as it is.
pub commit_begins_stands : {setting : Setting} {last : Kept} {begun : List Kept} {map : Map} {damage : Damage} {contents : ℕ → List ℕ}
    {calls : List HoldingCall} {old new : Core} {disk : Disk} {actor : ℕ} {run : CommitRun}
    → Lawful disk → IsCore old → IsTable old.pool.blocks.table → BeginsCommit old new actor (More run)
    → AreCallsOf old calls → Stands setting last begun map damage contents calls None (at_disk old disk)
    → (next : Kept) × (next.map ≡ map) × (next.excepted ≡ damage.left) × (next.uber.group ≡ new.begun)
    × KeepsOrEnds old.pool.uber.reflow next.uber.reflow × (next.uber.parity ≡ old.pool.uber.parity)
    × Stands setting last (next ∷ []) map damage contents calls (Some run) (at_disk new disk)
commit_begins_stands {setting} {last} {begun} {map} {damage} {contents} {calls} {old} {new} {disk} {actor} {run} lawful is table
    begins are stands = (next, refl, refl, search (rests, arith), widths, refl, rw begins.rest (rw begins.run_is now))
  where
    chosen : Reflow
    chosen = run.uber.reflow

    -- the group that is made
    next : Kept
    next = record {
      uber = uber_for old.pool chosen;
      entries = old.pool.blocks.table.entries;
      others = [];
      map = map;
      excepted = damage.left;
    }

    -- the core once it is begun
    begun_core : Core
    begun_core = record old { holds = new.holds; begun = old.begun + 1; committing = Some actor }

    alone : Stands setting last [] map damage contents calls None (at_disk old disk)
    alone = search (few_out, arith)

    widths : KeepsOrEnds old.pool.uber.reflow chosen
    widths = search (choice_widths, arith)

    is_ready : IsReady old.pool chosen
    is_ready = begins_ready old chosen is table begins.none begins.few (omega (arith, begins.limit))
        (Chooses old.holds begins.choice) widths

    come : IsCommitting setting last next (commit_of old.pool chosen) (point_of old.pool.out disk)
    come = committing_begins setting [] last next (point_of old.pool.out disk) is_ready.right lawful
        (may_commit setting last map (pool_at (at_disk old disk)) (rests_pool old is begins.none)
        (bank_within old disk is alone.bank) (search alone) alone.holds chosen
        (core_follows old chosen is (Chooses old.holds begins.choice)) widths is.step is_ready [])

    -- The commit has begun, its blocks are those of the table, and the rest stands as it did.
    now : Stands setting last (next ∷ []) map damage contents calls (Some (commit_of old.pool chosen))
        (at_disk begun_core disk)
    now =
        let listed : (entry : IndexEntry) → Contains next.entries entry → IsListed next.entries entry =
        λ entry has. among_listed next.entries entry table.index has in
        let groups : CommitStands setting last (next ∷ []) calls (commit_of old.pool chosen) (at_disk begun_core disk) =
        record {
          next = next;
          begun_is = refl;
          of = search (begun_commit, is_ready);
          come = come;
          lies = record {
            born = search (listed, arith);
            inside = λ entry has. listed_in_pool (as_begun old) entry is.is is.step (listed entry has);
          };
          kept = search blocks_kept;
          spared = search spare_table;
        } in
        let lists : (kept : Kept) → Contains (last ∷ next ∷ []) kept → ListsDamage damage kept =
        lists_next damage last next alone.damage_is refl alone.lists in
        search (calls_hold_on damage contents calls old begun_core disk refl alone.each)

-- ---- a step of it

pub commit_steps_calls : (before after : CoreState) (calls : List HoldingCall) (run next : CommitRun)
    → StepsCommit before run after (More next) → AreCallsOf before.core calls → AreCallsOf after.core calls
commit_steps_calls before after calls run next steps are = calls_stay before.core after.core calls steps.2
    (steps_went Called run next (point_of before.core.pool.out before.disk) (point_of after.core.pool.out after.disk)
    steps.1).stay are

module _ {setting : Setting} {last : Kept} {begun : List Kept} {map : Map} {damage : Damage} {contents : ℕ → List ℕ}
    {calls : List HoldingCall} {before : CoreState} {run : CommitRun} (is : IsCore before.core)
    (within : IsWithin before.core.pool.out setting.failed)
    (stands : Stands setting last begun map damage contents calls (Some run) before) where
  module _ (after : CoreState) (next : CommitRun) (result : CommitStep)
      (steps : CommitSteps run (point_of before.core.pool.out before.disk) next
      (point_of after.core.pool.out after.disk) result) (core : OnlyOut before.core after.core)
      (of : IsCommitOf after.core next) where
    abbrev old : Point
    old = point_of before.core.pool.out before.disk

    abbrev new : Point
    new = point_of after.core.pool.out after.disk

    come_on : IsCommitting setting last stands.groups.next next new
    come_on = committing_steps setting last stands.groups.next result run next old new within steps stands.groups.come

    -- A step of a commit leaves the rest as it stands.
    pub commit_moves_stands : Stands setting last begun map damage contents calls (Some next) after
    commit_moves_stands =
        let went = steps_went result run next old new steps in
        stands_frame Nowhere before after (search leaves_spared) (search call_off_nowhere) (search off_nowhere)
        core went.spares.later (group_still before after stands.groups core of come_on) stands

    -- What images keep since a moment they keep over a step: beside the last group they can show what the commit has
    -- come to.
    pub commit_moves_since : (groups : List Kept) (time : ℕ) → IsRowOf groups last (shown_of begun (Some next))
        → KeepsSince setting groups time before.disk → KeepsSince setting groups time after.disk
    commit_moves_since groups time row = moved result steps
      where
        moved : (result : CommitStep) → CommitSteps run old next new result → KeepsSince setting groups time before.disk
            → KeepsSince setting groups time after.disk
        moved Called steps kept = since_more setting groups time last (shown_by stands.groups.next next) before.disk
            after.disk (search (shown_one, arith)) (search goes_on)
            (committing_knows setting last stands.groups.next next new come_on) kept
        moved Ended steps kept = subst (λ (p : Point). KeepsSince setting groups time p.disk) (sym steps.same) kept

-- A call of it in a turn of its own.
module _ {setting : Setting} {last : Kept} {begun : List Kept} {map : Map} {damage : Damage} {contents : ℕ → List ℕ}
    {calls : List HoldingCall} {before after : CoreState} {run next : CommitRun} (is : IsCore before.core)
    (steps : StepsCommit before run after (More next)) (within : IsWithin before.core.pool.out setting.failed)
    (stands : Stands setting last begun map damage contents calls (Some run) before) where
  pub commit_steps_stands : Stands setting last begun map damage contents calls (Some next) after
  commit_steps_stands = commit_moves_stands is within stands after next Called steps.1 steps.2 steps.3

  pub commit_steps_since : (groups : List Kept) (time : ℕ) → IsRowOf groups last (shown_of begun (Some next))
      → KeepsSince setting groups time before.disk → KeepsSince setting groups time after.disk
  commit_steps_since = commit_moves_since is within stands after next Called steps.1 steps.2 steps.3

-- ---- cut short

-- A commit that is cut short, since too many devices are out.
pub commit_is_cut : {setting : Setting} {last : Kept} {begun : List Kept} {map : Map} {damage : Damage} {contents : ℕ → List ℕ}
    {calls : List HoldingCall} {state : CoreState} {run : CommitRun} → HasTooManyOut state.core
    → Stands setting last begun map damage contents calls (Some run) state
    → Stands setting last begun map damage contents calls None state
commit_is_cut many stands = search (committing_cut, arith)
