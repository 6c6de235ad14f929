-- What a later turn of a copy comes to, among the other clients' calls.
use Rattle.schedule.proofs.Words.{◌≡◌, ⊎_elim, ℕ, ◌-◌, List, [], length, Option, Some, None, refl, sym, ◌∙◌, ap, subst}
use Rattle.schedule.proofs.Words.{arith, slice_get, Disk, Gains, Answer, Kept, Setting, map_of, CommitRun, gains_item}
use Rattle.schedule.proofs.Words.{ScriptCall, Script, calls_of, CopyRun, CopyRound, Rests, Copies, Commits, More, Done}
use Rattle.schedule.proofs.Words.{BeginsJobSo, IsJobOf, CoreState, IsRoundOf, StepsCopy, AreCallsOf, Copying}
use Rattle.schedule.proofs.Words.{HoldingCall, TurnGoesOn, rests, job_begins_calls, job_drops_calls, job_steps_calls}
use Rattle.schedule.proofs.Words.{job_ends_calls, job_ends_stands, job_begins_stands, job_drops_stands, job_steps_since}
use Rattle.schedule.proofs.Words.{job_steps_stands, TakesTurn, IsGroupKind, call_of_client, calls_under_way, commit_in}
use Rattle.schedule.proofs.Words.{LeavesGoing, TurnState, entry_for, begun_at, Client, UnderWay, Work}
use Rattle.core_state.specs.declared.answer.Answer.TheVariants as answer
use Rattle.core_state.specs.declared.answer.Kind.TheVariants as kind
use Rattle.schedule.specs.declared.client.Work.TheVariants as work
use Rattle.schedule.proofs.sync.Works.{copy_makes}
use Rattle.schedule.proofs.copy.Refused.{AnswersCopy, no_memory_answers, round_answers}
use Rattle.schedule.proofs.turn.Fitting.{group_fits}
use Rattle.schedule.proofs.turn.LeavesPool.{KeepsCommit, holds_left, job_begun_leaves, job_dropped_leaves}
use Rattle.schedule.proofs.turn.LeavesPool.{job_ended_keeps, leaves_commit, out_keeps, same_keeps}
use Rattle.schedule.proofs.turn.Recording.{GoesOnSince}
use Rattle.schedule.proofs.turn.RightNext.{group_cut_right, same_out}
use Rattle.schedule.proofs.sync.Comes.{commit_comes}
use Rattle.schedule.proofs.sync.Goes.{cut, group_made}
use Rattle.schedule.proofs.turn.Theirs.{call_begins, call_ends, calls_stay, held_by_others, other_no_attach}
use Rattle.schedule.proofs.turn.Comes.{Dropped, GoesFrom, ItComes, OfRuns, StandsNow, comes_finished, comes_working}
use Rattle.schedule.proofs.turn.Comes.{held_gone, held_moves, its_asked, its_number, its_work, next_held}

-- Where no device was called the images are as they were.
still_since : {setting : Setting} {last : Kept} {shown : List Kept} {before after : Disk} → after ≡ before
    → GoesOnSince setting last shown before after
still_since same groups time row kept = search same

module _ {script : Script} {actor : ℕ} {before after : TurnState} {clients news : List Client} {call : ScriptCall}
    (takes : TakesTurn script actor before after clients news) {under : UnderWay}
    (under_is : before.client.under_way ≡ Some under)
    (is : slice_get (calls_of script actor) (before.client.begun - 1) ≡ Some call)
    (goes : TurnGoesOn before.state after.state) where
  open before.state use {core as old}
  open after.state use {core as now}

  abbrev from : {round : CopyRound} → under.work ≡ work.Copy round
      → GoesFrom script actor before after clients news call under (work.Copy round)
  from does_is = record { takes = takes; does_is = does_is; under_is = under_is; is = is }

  -- ---- between two rounds

  module _ {was : ℕ} {made : Option ℕ} (does_is : under.work ≡ work.Copy (Rests was made)) where
    -- The rounds are this client's, and what the script asks for.
    its_own : was ≡ actor
    its_own = (its_work (from does_is)).hold

    for_call : (call.kind ≡ kind.Copy) × (call.id ≡ None)
    for_call = its_asked (from does_is)

    -- It holds nothing.
    no_call : call_of_client before.client ≡ []
    no_call = cc

    -- It waits for another's call.
    pub rests_on : (whose : ℕ) (next : Option ℕ)
        → StepsCopy before.state (Rests was made) after.state (More (Rests whose next))
        → LeavesGoing actor call before after under (More (work.Copy (Rests whose next))) → ItComes takes
    rests_on whose next steps further = comes_working (from does_is) tt
        (work.Copy (Rests whose next)) further tt goes steps.0.1
        (same_keeps old (cc)) (steps.0.0 ∙ its_own) for_call (search (same, arith)) (search (still_since, same, arith))
      where
        same : calls_under_way news ≡ calls_under_way clients
        same = calls_stay takes.was takes.changes no_call (next_held (from does_is) tt
            (work.Copy (Rests whose next)) further tt)

    -- A round begins with a job,
    pub rests_copies : (run : CopyRun) → BeginsJobSo old now was run → after.state.disk ≡ before.state.disk
        → LeavesGoing actor call before after under (More (work.Copy (Copies run))) → ItComes takes
    rests_copies run begins disk further = comes_working (from does_is) tt (work.Copy (Copies run)) further tt goes refl
        (leaves_commit (job_begun_leaves begins)) (search (its_own, arith)) for_call
        (job_begins_calls was begins (λ other listed same. search (held_by_others, no_call, same, its_own)) gains
        takes.schedule.going.are)
        (λ world past runs. (
          still_since disk,
          (λ has. tt),
          rw disk (job_begins_stands was takes.is begins gains runs.stands),
        ))
      where
        gains : Gains (calls_under_way clients) (calls_under_way news) (Copying run)
        gains = call_begins takes.was takes.changes no_call (next_held (from does_is) tt
            (work.Copy (Copies run)) further tt)

    -- or with a commit.
    pub rests_commits : (run : CommitRun) → StepsCopy before.state (Rests was made) after.state (More (Commits run))
        → LeavesGoing actor call before after under (More (work.Copy (Commits run))) → ItComes takes
    rests_commits run steps further = commit_comes copy_makes call takes for_call no_call
        (other_no_attach under_is does_is (λ run same. cc)) steps.1 steps.0.1 (rw its_own at steps.0.2) is further.0
        (further.1 ∙ ap (λ (at : ℕ). record {
          begun = before.client.begun;
          under_way = Some (record { at = at; work = work.Copy (Commits run) });
        }) (ap (λ (w : Work). begun_at (Some run) (commit_in w) under.at (length before.items)) does_is))
        (sym (its_number (from does_is))) (takes.schedule.answered.few actor before.client takes.was)

    -- It is answered.
    rest_answers : (given : Answer) → AnswersCopy old before.state.disk.devices (Dropped takes) given
        → after.state ≡ before.state → LeavesGoing actor call before after under (Done given) → ItComes takes
    rest_answers given answers same ended = comes_finished (from does_is) given ended tt goes (cc)
        (holds_left (ap (λ (s : CoreState). s.core) same)) (cc)
        (group_fits old call.kind given (subst IsGroupKind (sym for_call.0) tt)
        (rw for_call.0 answers.answers) answers.tells answers.limit (search (same, arith)))
        answers.no_full (search (calls, same, arith))
        (λ world past handed runs. (
          answers.right world before.items runs.item (entry_for call actor before.client.begun under.at given)
              after.state.disk for_call.0 refl runs.recorded.latest (search arith) (search arith)
              (search (rests, arith)),
          search (calls, same, arith),
        ))
      where
        calls : calls_under_way news ≡ calls_under_way clients
        calls = calls_stay takes.was takes.changes no_call (cc)

    pub rests_ends : (given : Answer) → StepsCopy before.state (Rests was made) after.state (Done given)
        → LeavesGoing actor call before after under (Done given) → ItComes takes
    rests_ends given steps = search (rest_answers, round_answers)

    -- Its journal has no room for another group.
    pub rests_lacks : (given : Answer) → given ≡ answer.NoMemory → after.state ≡ before.state
        → LeavesGoing actor call before after under (Done given) → ItComes takes
    rests_lacks given given_is = rest_answers given (search (no_memory_answers, arith))

  -- ---- a job

  module _ {run : CopyRun} (does_is : under.work ≡ work.Copy (Copies run)) where
    its_job : run.hold.actor ≡ actor
    its_job = (its_work (from does_is)).hold

    asked_copy : (call.kind ≡ kind.Copy) × (call.id ≡ None)
    asked_copy = its_asked (from does_is)

    job_of : {left : List HoldingCall} → Gains left (calls_under_way clients) (Copying run) → IsJobOf old run
    job_of gains = takes.schedule.going.are.each (Copying run) (search (gains_item, gains))

    -- A sector was read or written.
    pub copies_on : (next : CopyRun) → StepsCopy before.state (Copies run) after.state (More (Copies next))
        → IsRoundOf now (Copies next)
        → LeavesGoing actor call before after under (More (work.Copy (Copies next))) → ItComes takes
    copies_on next steps of further = comes_working (from does_is) tt (work.Copy (Copies next)) further tt goes refl
        (out_keeps steps.1.rest goes.out.still) (search its_job) asked_copy
        (job_steps_calls steps.1 of goes.out.still moves.1 moves.2 takes.schedule.going.are)
        (λ world past runs. (
          job_steps_since takes.is takes.lawful steps.1 (job_of moves.1) steps.0 goes.out.still moves.1
              takes.schedule.going.are runs.stands,
          (λ has. tt),
          job_steps_stands takes.is takes.lawful steps.1 (job_of moves.1) steps.0 goes.out.still moves.1
              takes.schedule.going.are runs.stands takes.still_lawful moves.2,
        ))
      where
        moves : (left : List HoldingCall) × Gains left (calls_under_way clients) (Copying run)
            × Gains left (calls_under_way news) (Copying next)
        moves = held_moves (from does_is) tt (work.Copy (Copies next)) further tt refl refl

    -- All its sectors are copied, or it is given up while a device is out.
    pub copies_end : (whose : ℕ) (made : Option ℕ)
        → StepsCopy before.state (Copies run) after.state (More (Rests whose made))
        → LeavesGoing actor call before after under (More (work.Copy (Rests whose made))) → ItComes takes
    copies_end whose made steps further = ⊎_elim
        (λ ended. with (search (job_ended_keeps, gains)) (search (job_ends_calls, gains))
        (λ world past runs. rw steps.1 (job_ends_stands takes.is ended.2 gains takes.schedule.going.are ended.0 ended.1
        runs.stands)))
        (λ dropped. with (leaves_commit (job_dropped_leaves takes.is (job_of gains) dropped.1))
        (search (job_drops_calls, gains))
        (λ world past runs. rw steps.1 (job_drops_stands takes.is dropped.1 (job_of gains) gains runs.stands))) steps.2
      where
        gains : Gains (calls_under_way news) (calls_under_way clients) (Copying run)
        gains = call_ends takes.was takes.changes (cc) (next_held (from does_is) tt
            (work.Copy (Rests whose made)) further tt)

        with : KeepsCommit old now → AreCallsOf now (calls_under_way news) → OfRuns takes (λ world past runs.
            StandsNow takes runs runs.contents (map_of world.handed world.opening before.items)
            (calls_under_way news)) → ItComes takes
        with keeps are stands = comes_working (from does_is) tt
            (work.Copy (Rests whose made)) further tt goes steps.0.1 keeps (steps.0.0 ∙ its_job)
            asked_copy are (search still_since)

    -- Too many devices are out.
    pub copies_cut : {given : Answer} → StepsCopy before.state (Copies run) after.state (Done given)
        → LeavesGoing actor call before after under (Done given) → ItComes takes
    copies_cut steps ended = comes_finished (from does_is) told was_told tt goes was_told.0
        (job_dropped_leaves takes.is (job_of gains) steps.1) steps.0
        (group_fits old call.kind told (subst IsGroupKind (sym asked_copy.0) tt) tt
        (λ listed same. (steps.2, same_out (cc))) (λ reached same. cc) tt) (λ full. cc)
        (search (job_drops_calls, gains))
        (λ world past handed runs. (
          search (group_cut_right, told, arith),
          rw steps.0 (job_drops_stands takes.is steps.1 (job_of gains) gains runs.stands),
        ))
      where
        told : Answer
        told = answer.TooManyFailed old.pool.out

        was_told : LeavesGoing actor call before after under (Done told)
        was_told = search

        gains : Gains (calls_under_way news) (calls_under_way clients) (Copying run)
        gains = held_gone (from does_is) told was_told refl

  -- ---- a commit

  module _ {run : CommitRun} (does_is : under.work ≡ work.Copy (Commits run)) where
    -- It has made its group, behind which the copy goes on.
    pub commits_make : (whose : ℕ) {made : Option ℕ}
        → StepsCopy before.state (Commits run) after.state (More (Rests whose made))
        → LeavesGoing actor call before after under (More (work.Copy (Rests whose made))) → ItComes takes
    commits_make whose (committing, (number, made_is, answers)) further =
        group_made copy_makes takes does_is under_is is goes refl whose number committing answers (search)

    -- It is cut short.
    pub commits_cut : {given : Answer} → StepsCopy before.state (Commits run) after.state (Done given)
        → LeavesGoing actor call before after under (Done given) → ItComes takes
    commits_cut steps ended = cut copy_makes takes does_is under_is is goes old.pool.out (steps.0, refl, steps.2)
        (search)
