-- What the later turns of puts and reads leave, and how a commit ends.
use Rattle.schedule.proofs.Words.{Answer, AnswersGroup, Blocks, Bool, CommitRun, CopyRun, Core, CoreState, Done}
use Rattle.schedule.proofs.Words.{EndsGet, EndsHold, EndsPut, EndsPutting, EndsReading, GetRun, GivesUp, GivesUpTurn}
use Rattle.schedule.proofs.Words.{HeldRun, Hold, IsCommitOf, IsCore, IsFilledIn, IsGetOf, IsPutOf, IsSyncRefused, List}
use Rattle.schedule.proofs.Words.{None, Option, Pool, PutRun, ScriptCall, Shared, Some, StepsCommit, Uber, []}
use Rattle.schedule.proofs.Words.{after_group, ap, arith, blocks_behind, filter, filter_was, gains_old, get_shared}
use Rattle.schedule.proofs.Words.{group_by, grown_by, if◌then◌else◌, inl, inr, nat_lt, put_shared, sectors_of, subst}
use Rattle.schedule.proofs.Words.{sym, ℕ, ⊤, ◌≡◌}
use Rattle.core_state.specs.declared.answer.Answer.TheVariants as answer
use Rattle.schedule.proofs.turn.Stays.{answers_stays}
use Rattle.schedule.proofs.turn.UsingTurns.{GoesAs, adds_shared, frees_back, frees_none, goes_as, goes_nowhere}
use Rattle.schedule.proofs.turn.UsingTurns.{runs_still, shares_dropped, shares_ended}

-- An answer that neither comes with a group nor tells of no space.
abbrev pub IsPlainEnd : Answer → Type 0
IsPlainEnd (answer.Synced group) = ⊥
IsPlainEnd (answer.Attached width group) = ⊥
IsPlainEnd (answer.NewDeviceFailed device) = ⊥
IsPlainEnd (answer.DeviceOut device) = ⊥
IsPlainEnd (answer.NoSpace sectors) = ⊥
IsPlainEnd other = ⊤

-- A call ends with no group, where it had made this one, and tells of no want of space.
pub record EndsPlainly (given : Answer) (made : Option ℕ) : Type 0 where
  pub group : group_by given made ≡ None
  pub space : (size : ℕ) → given ≡ answer.NoSpace size → ⊥

-- So it does with a plain answer,
pub plain_ends : {given : Answer} {made : Option ℕ} → IsPlainEnd given → EndsPlainly given made
plain_ends plain = grind arith

-- and so where a commit is refused.
pub commit_plain : (core : Core) (given : Answer) → IsSyncRefused core given → EndsPlainly given None
commit_plain core given refused = grind (arith, plain_ends)

-- A call ends so that had this job and shared so many holds: with the group that comes with its answer, and telling of
-- no want of space.
pub record EndsAs (old new : Core) (given : Answer) (made : Option ℕ) (job : Option CopyRun) (had : ℕ) : Type 0 where
  pub goes : GoesAs old new [] (group_by given made) job None had 0
  pub space : (size : ℕ) → given ≡ answer.NoSpace size → ⊥

module _ {old new : Core} {given : Answer} {job : Option CopyRun} {had : ℕ} where
  -- So it does with no group,
  pub ends_plainly : {made : Option ℕ} → EndsPlainly given made → GoesAs old new [] None job None had 0
      → EndsAs old new given made job had
  ends_plainly plain goes = record { goes = rw plain.group goes; space = plain.space }

  -- and with one.
  pub ends_grouped : {made : Option ℕ} {number : ℕ} → group_by given made ≡ Some number
      → GoesAs old new [] (Some number) job None had 0 → EndsAs old new given made job had
  ends_grouped is goes = record { goes = rw is goes; space = λ size told. search arith }

module _ (blocks : Blocks) (group capacity : ℕ) where
  abbrev grown_if : Bool → Blocks
  grown_if same = if same then blocks else grown_by blocks group capacity

  abbrev left_of : List HeldRun → List HeldRun
  left_of held = filter (λ (held : HeldRun). nat_lt group held.group) held

  -- A pool that grows has the same runs.
  runs_grown : (same : Bool) → ((after_group (grown_if same).space group).taken ≡ blocks.space.taken)
      × ((after_group (grown_if same).space group).held ≡ left_of blocks.space.held)
  runs_grown same = grind arith

-- Behind an answer the runs that are taken are the same, and those held back until it are left out.
runs_behind : (pool : Pool) (uber : Uber) → ((blocks_behind pool uber).space.taken ≡ pool.blocks.space.taken)
    × ((blocks_behind pool uber).space.held ≡ left_of pool.blocks uber.group
    (sectors_of uber.reflow) pool.blocks.space.held)
runs_behind pool uber = search runs_grown

module _ (before after : CoreState) where
  abbrev old : Core
  old = before.core

  abbrev new : Core
  new = after.core

  -- ---- puts

  -- A put that is given up ends its hold and frees its sectors,
  put_dropped : (run : PutRun) → run.hold.kind ≡ Shared → GivesUp old new run → GoesAs old new [] None None None 1 0
  put_dropped run shared gives = goes_as (ap (λ (c : Core). c.pool.uber) gives.rest) (cc)
      (record { taken = search gains_old; held = search arith })
      (shares_ended gives.ends) (omega (arith, adds_shared run.hold shared))

  -- and one that is stored holds back those of the block before it.
  put_stored : (run : PutRun) (given : Answer) → run.hold.kind ≡ Shared → EndsPut old run new (Done given)
      → IsPlainEnd given × GoesAs old new [] None None None 1 0
  put_stored run answer.Stored shared ends = (
    tt,
    goes_as (ap (λ (c : Core). c.pool.uber) ends.rest) (cc) (search frees_back)
        (shares_ended ends.ends) (omega (arith, adds_shared run.hold shared)),
  )
  put_stored run (answer.TooManyFailed out) shared ends = (tt, put_dropped run shared ends.gives_up)
  put_stored run other shared ends = absurd ends

  put_given_up : (run : PutRun) (given : Answer) → run.hold.kind ≡ Shared → GivesUpTurn old run new (Done given)
      → IsPlainEnd given × GoesAs old new [] None None None 1 0
  put_given_up run answer.NoMemory shared ends = (tt, put_dropped run shared ends.1)
  put_given_up run (answer.TooManyFailed out) shared ends = (tt, put_dropped run shared ends.gives_up)
  put_given_up run other shared ends = absurd ends

  -- What is filled in has the put's hold.
  filled_shared : (call : ScriptCall) {run filled : PutRun} → IsFilledIn call run filled → run.hold.kind ≡ Shared
      → filled.hold.kind ≡ Shared
  filled_shared call fills shared = search arith

  pub put_ends : {call : ScriptCall} (run : PutRun) (given : Answer) → IsPutOf old run
      → EndsPutting before after call run given → IsPlainEnd given × GoesAs old new [] None None None 1 0
  put_ends {call} run given of ends =
      let shared = put_shared old run of in
      let still = filled_shared call ends.fills shared in
      elim ends.ends [
        | inl writes ↦ (
          subst IsPlainEnd (sym writes.0.given_is) tt,
          search put_dropped,
        )
        | inr (inl last) ↦ put_stored ends.filled given still last.3
        | inr (inr gives) ↦ put_given_up run given shared gives.2
      ]

  -- ---- reads

  -- What was solved is answered plainly.
  read_plain : (run : GetRun) (given : Answer) → EndsGet old run new (Done given) → IsPlainEnd given
  read_plain run given ends = search arith

  -- Its hold ends.
  read_held : (hold : Hold) → hold.kind ≡ Shared → new ≡ record old { holds = new.holds }
      → EndsHold old.holds new.holds hold → GoesAs old new [] None None None 1 0
  read_held hold shared rest ends =
      goes_as (cc) (cc) (frees_none (cc)) (shares_ended ends) (omega (arith, adds_shared hold shared))

  pub read_ends : (run : GetRun) (given : Answer) → IsGetOf old run → EndsReading before after run given
      → IsPlainEnd given × GoesAs old new [] None None None 1 0
  read_ends run given of ends = let shared = get_shared old run of in elim ends.ends [
    | inl reads ↦ (subst IsPlainEnd (sym reads.0.given_is) tt, search read_held)
    | inr last ↦ (read_plain last.0 given last.3, read_held last.0.hold (search arith) last.3.rest last.3.ends)
  ]

  -- ---- commits

  -- The group of a commit that is answered is the next one; what was held back until then is free, and what its commit
  -- held.
  pub group_ends : {run : CommitRun} {number : ℕ} → IsCore old → IsCommitOf old run
      → AnswersGroup before run after number → GoesAs old new [] (Some number) None None 0 0
  group_ends is of answers = let shares = shares_dropped answers.answers.holds in record {
    stays = answers_stays before is of answers;
    group = search arith;
    copying = cc;
    shared = omega (arith, shares.few);
    runs = runs_still (record {
      taken = search (runs_behind, arith);
      held = λ other listed. inl (filter_was (λ (held : HeldRun). nat_lt answers.ended.uber.group held.group)
          old.pool.blocks.space.held other (search (runs_behind, arith)));
    }) shares;
  }

  pub sync_ends : {run : CommitRun} (given : Answer) → IsCore old → IsCommitOf old run
      → StepsCommit before run after (Done given) → EndsAs old new given None None 0
  sync_ends given is of steps = grind (arith, ends_grouped, group_ends, ends_plainly, plain_ends, goes_nowhere)
