-- What a turn leaves of the runs of sectors that were taken, of the pool's group, and of who holds some; and what first
-- turns do.
use Rattle.schedule.proofs.Words.{Answer, AnswersAtOnce, AreRunsOf, BeginsCommitSo, BeginsGet, BeginsJobSo, BeginsPutSo}
use Rattle.schedule.proofs.Words.{BeginsPutTurn, BeginsRound, BeginsWork, Birth, CommitRun, Commits, Contains, Copies}
use Rattle.schedule.proofs.Words.{CopyRound, CopyRun, Core, DropsHold, EndsHold, Exclusive, FreesBlock, GetRun, HeldRun}
use Rattle.schedule.proofs.Words.{Hold, HoldsBack, IndexEntry, IsCore, IsHeldIn, IsOpenSince, IsPutRefused, Kind}
use Rattle.schedule.proofs.Words.{LeavesBlocks, List, More, None, Option, PutRun, Rests, Run, ScriptCall, Shared, Some}
use Rattle.schedule.proofs.Words.{Space, TakesHold, Uber, Waits, Work, [], allocated_of, ap, arith, as_begun}
use Rattle.schedule.proofs.Words.{count_ended, count_gained, fill_bytes, first_listed, found_listed, gains_cases}
use Rattle.schedule.proofs.Words.{gains_item, gains_old, held_sectors, hold_of, inl, inr, is_shared, largest}
use Rattle.schedule.proofs.Words.{largest_size, length, length_put, map, one_if, put_run, refl, rest_listed, run_of}
use Rattle.schedule.proofs.Words.{sectors_in, shared_count, sharing_in, subst, sum, sym, ℕ, ⊎_elim, ◌++◌, ◌+◌, ◌∙◌, ◌∷◌}
use Rattle.schedule.proofs.Words.{◌≡◌, ◌≤◌, ◌⊎◌}
use Rattle.std.specs.Prelude.{Bool}
use Rattle.range_locks.specs.Gaining.{Gains}
use Rattle.core_state.specs.declared.answer.Answer.TheVariants as answer
use Rattle.core_state.specs.declared.answer.Kind.TheVariants as kind
use Rattle.schedule.specs.declared.client.Work.TheVariants as work
use Rattle.schedule.proofs.turn.Stays.{Stays, stays_same}

-- ---- holds

-- whether a hold is shared
abbrev pub is_shared_hold : Hold → Bool
is_shared_hold hold = is_shared hold.kind

-- A shared hold adds one to their number, and one that is held alone none.
pub adds_shared : (hold : Hold) → hold.kind ≡ Shared → one_if is_shared_hold hold ≡ 1
adds_shared hold shared = cc

adds_alone : (hold : Hold) → hold.kind ≡ Exclusive → one_if is_shared_hold hold ≡ 0
adds_alone hold exclusive = cc

-- So there is at most one more where a shared hold is taken.
shared_more : {old new : List Hold} {hold : Hold} → hold.kind ≡ Shared → Gains old new hold
    → shared_count new ≤ shared_count old + 1
shared_more {old} {new} {hold} shared gains =
    omega (arith, count_gained is_shared_hold old new hold gains, adds_shared hold shared)

-- Each shared hold was one before, and at least so many are shared no longer.
pub record SharesLess (old new : List Hold) (less : ℕ) : Type 0 where
  pub were : (hold : Hold) → Contains new hold → hold.kind ≡ Shared → Contains old hold
  pub few : shared_count new + less ≤ shared_count old

module _ {old new : List Hold} where
  -- So it is where the holds stay,
  pub shares_same : new ≡ old → SharesLess old new 0
  shares_same same = search arith

  -- where one is held alone,
  pub shares_alone : {hold : Hold} → hold.kind ≡ Exclusive → Gains old new hold → SharesLess old new 0
  shares_alone {hold} exclusive gains = record {
    were = λ other listed shared. ⊎_elim (λ same. cc) (λ was. was) (gains_cases old new hold other gains listed);
    few = omega (arith, count_gained is_shared_hold old new hold gains, adds_alone hold exclusive);
  }

  -- as by a commit, where that takes one,
  pub shares_taken : {hold : Hold} → hold.kind ≡ Exclusive → TakesHold old new hold → SharesLess old new 0
  shares_taken exclusive (inl taken) = shares_alone exclusive taken.1
  shares_taken exclusive (inr none) = shares_same none.1

  -- where one ends,
  pub shares_ended : {hold : Hold} → EndsHold old new hold → SharesLess old new (one_if is_shared_hold hold)
  shares_ended {hold} ends = record {
    were = λ other listed shared. gains_old new old hold other (search) listed;
    few = omega (arith, count_ended is_shared_hold old new hold ends);
  }

  -- and where that of a commit ends, if it had one.
  pub shares_dropped : {hold : Hold} → DropsHold old new hold → SharesLess old new 0
  shares_dropped (inl dropped) =
      let ended = shares_ended dropped.1 in record { were = ended.were; few = omega (arith, ended.few) }
  shares_dropped (inr none) = shares_same none.1

-- ---- sectors

-- All that is in use was in use before.
pub record FreesSome (old new : Space) : Type 0 where
  pub taken : (run : Run) → Contains new.taken run → Contains old.taken run
  pub held : (run : HeldRun) → Contains new.held run → Contains old.held run ⊎ Contains old.taken (held_sectors run)

-- So it is where the space stays,
pub frees_none : {old new : Space} → new ≡ old → FreesSome old new
frees_none same = search arith

-- or the sectors of a block that is gone are held back.
pub frees_back : {old new : Space} (parity : ℕ) (births : List Birth) (group : ℕ) (gone : Option IndexEntry)
    → HoldsBack parity births old new group gone → FreesSome old new
frees_back parity births group None same = frees_none same
frees_back {old} {new} parity births group (Some entry) holding = record {
  taken = search gains_old;
  held = λ run listed. ⊎_elim
      (λ same. inr (subst (Contains old.taken) (ap held_sectors same) (search gains_item)))
      (λ was. inl was) (gains_cases old.held new.held _ run holding.held listed);
}

-- ---- what a turn leaves

-- the job of a work, if it is one
abbrev pub job_in : Work → Option CopyRun
job_in (work.Copy (Copies run)) = Some run
job_in other = None

-- who copies after a turn, by the call's job before it and after it, and by who copied before: whose job there is then;
-- nobody where the call's job has ended; and else who did before
abbrev pub copier_after : Option CopyRun → Option CopyRun → Option ℕ → Option ℕ
copier_after before (Some run) copier = Some run.hold.actor
copier_after (Some run) None copier = None
copier_after None None copier = copier

-- The group that a turn has answered, if it has, is the next one.
abbrev pub HasAnswered : Core → Core → Option ℕ → Type 0
HasAnswered old new None = new.pool.uber.group ≡ old.pool.uber.group
HasAnswered old new (Some number) = (new.pool.uber.group ≡ number) × (number ≡ old.pool.uber.group + 1)

-- A turn takes these runs more, and answers this group, if it does so. Who copies follows from the call's job before
-- the turn and after it, and how many holds are shared from how many the call had and has.
pub record GoesAs (old new : Core) (more : List Run) (made : Option ℕ) (was now : Option CopyRun) (had has : ℕ)
    : Type 0 where
  pub stays : Stays old new
  pub group : HasAnswered old new made
  pub copying : new.copying ≡ copier_after was now old.copying
  pub shared : shared_count new.holds + had ≤ shared_count old.holds + has
  pub runs : (runs : List Run) → AreRunsOf runs old → AreRunsOf (more ++ runs) new

-- It takes no run, is no job's, and shares as much as before.
abbrev pub GoesOn : Core → Core → Type 0
GoesOn old new = GoesAs old new [] None None None 0 0

module _ {old new : Core} where
  -- Where no more is in use and no other hold is shared the runs are the same.
  pub runs_still : {less : ℕ} → FreesSome old.pool.blocks.space new.pool.blocks.space
      → SharesLess old.holds new.holds less → (runs : List Run) → AreRunsOf runs old → AreRunsOf runs new
  runs_still frees shares runs are = record {
    taken = search arith;
    held = λ run listed. ⊎_elim (are.held run) (are.taken (held_sectors run)) (frees.held run listed);
    holds = λ hold listed shared. search arith;
  }

  -- So a turn goes that leaves the uberblock.
  pub goes_as : {was now : Option CopyRun} {had has less : ℕ} → new.pool.uber ≡ old.pool.uber
      → new.copying ≡ copier_after was now old.copying → FreesSome old.pool.blocks.space new.pool.blocks.space
      → SharesLess old.holds new.holds less → had ≤ less + has → GoesAs old new [] None was now had has
  goes_as uber copying frees shares few = record {
    stays = stays_same uber;
    group = cc;
    copying = copying;
    shared = omega (arith, few, shares.few);
    runs = runs_still frees shares;
  }

  -- One that is no job's, and leaves the space and the holds too,
  pub goes_still : {has : ℕ} → new.pool.uber ≡ old.pool.uber → new.copying ≡ old.copying
      → new.pool.blocks.space ≡ old.pool.blocks.space → new.holds ≡ old.holds → GoesAs old new [] None None None has has
  goes_still uber copying space holds = grind (arith, goes_as, copying, frees_none, shares_same)

  -- or leaves all,
  pub goes_nowhere : new ≡ old → GoesOn old new
  goes_nowhere same = goes_still (cc) (cc) (cc) (cc)

  -- or but for devices that went out,
  pub core_goes : {out has : ℕ} → new ≡ record old { pool = record old.pool { out = out } }
      → GoesAs old new [] None None None has has
  core_goes rest = search arith

  -- or for the order of blocks,
  left_goes : LeavesBlocks old new → GoesOn old new
  left_goes leaves = grind (arith, goes_as, shares_same)

  -- one by which a commit begins, which holds its sectors alone,
  pub commit_goes : {run : CommitRun} {actor : ℕ} → BeginsCommitSo old new actor run → GoesOn old new
  commit_goes begins = goes_as (cc) (cc) (frees_none (cc)) (shares_taken refl begins.holds) (omega arith)

  -- and one by which a job begins, which does too.
  pub job_goes : (run : CopyRun) {actor : ℕ} → BeginsJobSo old new actor run
      → GoesAs old new [] None None (Some run) 0 0
  job_goes run begins = goes_as (cc) (cc) (frees_none (cc)) (shares_alone (cc) begins.holds) (omega arith)

-- ---- first turns

-- The runs are no more than what is put, at the pool's first width.
pub record FitsPut (uber : Uber) (more : List Run) (lengths : List ℕ) : Type 0 where
  pub few : length more ≤ length (map (largest_size uber) lengths)
  pub sectors : sectors_in more ≤ sum (map (largest_size uber) lengths)

-- A call of the script begins so, whatever it puts.
pub record BeginsOn (old new : Core) (lengths : List ℕ) (job : Option CopyRun) (has : ℕ) : Type 0 where
  pub more : List Run
  pub goes : GoesAs old new more None None job 0 has
  pub fits : (uber : Uber) → IsOpenSince uber old → FitsPut uber more lengths

module _ {old : Core} (new : Core) (is : IsCore old) where
  -- One that puts nothing takes no run.
  pub on_none : {lengths : List ℕ} {job : Option CopyRun} {has : ℕ} → GoesAs old new [] None None job 0 has
      → BeginsOn old new lengths job has
  on_none goes = search arith

  -- A put's run has no more sectors than at the pool's first width.
  put_size : {actor id : ℕ} (len : ℕ) (run : PutRun) → BeginsPutSo old new actor id len run → (uber : Uber)
      → IsOpenSince uber old → allocated_of run.range.layout ≤ largest_size uber len
  put_size len run begins uber since =
      let most = largest (as_begun old).uber len (old.begun + 1) is.is.right in
      search arith

  -- A hold that is in runs is in more of them.
  held_further : (runs : List Run) {run : Run} {hold : Hold} → IsHeldIn runs hold → IsHeldIn (run ∷ runs) hold
  held_further runs is = grind (arith, rest_listed, runs)

  -- A put takes one run, and holds it.
  put_begins : (actor id : ℕ) {len : ℕ} (run : PutRun) → BeginsPutTurn old new actor id len (More run)
      → BeginsOn old new (len ∷ []) None 1
  put_begins actor id {len} run begins = record {
    more = put_run run.range ∷ [];
    goes = record {
      stays = search arith;
      group = search arith;
      copying = cc;
      shared = omega (arith, shared_more (cc) begins.holds);
      runs = λ runs are. record {
        taken = λ other listed. ⊎_elim
            (search arith) (search (rest_listed, arith))
            (gains_cases old.pool.blocks.space.taken new.pool.blocks.space.taken (put_run run.range) other
            begins.begins.taken.taken listed);
        held = λ other listed. rest_listed (put_run run.range) (held_sectors other) runs (search arith);
        holds = λ hold listed shared. ⊎_elim
            (λ same. subst (IsHeldIn (put_run run.range ∷ runs)) (sym begins.hold_is ∙ same) (record {
              run = put_run run.range;
              listed = first_listed (put_run run.range) runs;
              begins = omega arith;
              ends = omega arith;
            }))
            (λ was. held_further runs (are.holds hold was shared))
            (gains_cases old.holds new.holds run.hold hold begins.holds listed);
      };
    };
    fits = λ uber since. let size = put_size len run begins uber since in record {
      few = omega arith;
      sectors = omega arith;
    };
  }

  -- A read holds its block's sectors, which are taken.
  get_begins : (actor id : ℕ) {asked : Kind} (run : GetRun) → BeginsGet old new actor asked id (More run)
      → GoesAs old new [] None None None 0 1
  get_begins actor id run begins = record {
    stays = stays_same (cc);
    group = cc;
    copying = cc;
    shared = omega (arith, shared_more (cc) begins.9);
    runs = λ runs are. record {
      taken = search arith;
      held = search arith;
      holds = λ hold listed shared. ⊎_elim
          (search (its, arith))
          (λ was. are.holds hold was shared) (gains_cases old.holds new.holds run.hold hold begins.9 listed);
    };
  }
    where
      block : Run
      block = run_of old.pool.uber.parity old.pool.uber.births run.entry

      taken : Contains old.pool.blocks.space.taken block
      taken = subst (λ (p : ℕ). Contains old.pool.blocks.space.taken (run_of p old.pool.uber.births run.entry))
          is.is.parity (rw is.is.births at (is.step.each run.entry (search found_listed)).taken)

      its : (runs : List Run) → AreRunsOf runs old → IsHeldIn runs (hold_of old.pool.uber run.entry actor)
      its runs are = record {
        run = block;
        listed = are.taken block taken;
        begins = omega arith;
        ends = omega arith;
      }

  -- A round of a copy begins with a job or a commit.
  round_begins : (actor : ℕ) (round : CopyRound) → BeginsRound old new actor (More round)
      → GoesAs old new [] None None (job_in (work.Copy round)) 0 0
  round_begins actor (Rests whose made) begins = absurd begins
  round_begins actor (Copies run) begins = job_goes run begins
  round_begins actor (Commits run) begins = commit_goes begins.2

  -- A first turn: one that goes on,
  pub works_begin : (devices actor : ℕ) (call : ScriptCall) (asked : Kind) (id : Option ℕ) (does : Work)
      → BeginsWork old new devices actor call asked id does
      → BeginsOn old new (length_put asked (fill_bytes call.fill)) (job_in does) (sharing_in does)
  works_begin devices actor call kind.Put (Some id) (work.Put run) begins = put_begins actor id run begins
  works_begin devices actor call kind.Get (Some id) (work.Read run) begins = on_none (get_begins actor id run begins)
  works_begin devices actor call kind.Sum (Some id) (work.Read run) begins = on_none (get_begins actor id run begins)
  works_begin devices actor call kind.Sync None (work.Sync run) begins = on_none (commit_goes begins)
  works_begin devices actor call kind.Attach None (work.Attach run) begins = on_none (goes_still (cc) (cc) (cc) (cc))
  works_begin devices actor call kind.Copy None (work.Copy round) begins = on_none (round_begins actor round begins)
  works_begin devices actor call asked id does begins = absurd begins

  -- one that waits,
  pub waits_with : (devices actor : ℕ) (call : ScriptCall) (asked : Kind) (id : Option ℕ) (by : ℕ)
      → Waits old new devices actor call asked id by → GoesOn old new
  waits_with devices actor call kind.Put (Some id) by waits = left_goes waits.1
  waits_with devices actor call kind.Get (Some id) by waits = goes_nowhere waits.1
  waits_with devices actor call kind.Sum (Some id) by waits = goes_nowhere waits.1
  waits_with devices actor call kind.Sync None by waits = goes_nowhere waits.2
  waits_with devices actor call kind.Attach None by waits = goes_nowhere waits.2
  waits_with devices actor call kind.Copy None by waits = goes_nowhere waits.1
  waits_with devices actor call asked id by waits = absurd waits

  put_refused : (id len : ℕ) (given : Answer) → IsPutRefused old new id len given → GoesOn old new
  put_refused id len given refused = grind (arith, left_goes, goes_nowhere)

  frees_goes : (id : ℕ) (given : Answer) → FreesBlock old new id given → GoesOn old new
  frees_goes id answer.Freed frees =
      goes_as (ap (λ (c : Core). c.pool.uber) frees.2.rest) (cc) (search frees_back) (shares_same (cc)) (omega arith)
  frees_goes id answer.Absent frees = search arith
  frees_goes id (answer.TooManyFailed out) frees = goes_nowhere frees.2
  frees_goes id other frees = absurd frees

  -- and one that is answered at once.
  pub answers_with : (devices actor : ℕ) (call : ScriptCall) (asked : Kind) (id : Option ℕ) (given : Answer)
      → AnswersAtOnce old new devices actor call asked id given → GoesOn old new
  answers_with devices actor call asked id given answers = grind (arith, put_refused, goes_nowhere, frees_goes)
