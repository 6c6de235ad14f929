-- Whose holds the sectors of a core are, turn by turn: who copies some, and who shares some, is a client.
use Rattle.schedule.proofs.Words.{AreCopiers, AreGoing, AreIdle, AreSharers, Changes, Client, Copies, CopyRun, Core}
use Rattle.schedule.proofs.Words.{IsGoing, List, None, Option, Script, Some, TurnState, TakesTurn, UnderWay, Work, []}
use Rattle.schedule.proofs.Words.{ap}
use Rattle.schedule.proofs.Words.{arith, calls_of, refl, shared_count, sharing_of, sharing_under, slice_get, suc, zero}
use Rattle.schedule.proofs.Words.{ℕ, ◌+◌, ◌∷◌, ◌≡◌}
use Rattle.schedule.specs.declared.client.Work.TheVariants as work
use Rattle.schedule.proofs.turn.Theirs.{none_some, same_list, some_is}
use Rattle.schedule.proofs.turn.UsingTurns.{copier_after, job_in}
use Rattle.schedule.proofs.turn.UsingWorks.{TurnLeaves, job_under}

-- ---- who copies

-- The job of a work is that of a copy,
job_work : (does : Work) {run : CopyRun} → job_in does ≡ Some run → does ≡ work.Copy (Copies run)
job_work does is = grind arith

-- and one under way is that of a work.
job_there : (its : Option UnderWay) (run : CopyRun) → job_under its ≡ Some run
    → (under : UnderWay) × (its ≡ Some under) × (under.work ≡ work.Copy (Copies run))
job_there its run is = grind (arith, job_work)

-- Whoever copies after a turn is a client whose work is a job.
pub copiers_after : {script : Script} {actor : ℕ} {before after : TurnState} {clients news : List Client}
    → TakesTurn script actor before after clients news → TurnLeaves (calls_of script actor) actor before after
    → AreGoing script after.state.core news → AreCopiers clients before.state.core → AreCopiers news after.state.core
copiers_after {script} {actor} {before} {after} {clients} {news} takes leaves going copiers who copies =
    by (job_under before.client.under_way) (job_under after.client.under_way) refl refl
  where
    Found : ℕ → Type 0
    Found index = (client : Client) × (under : UnderWay) × (run : CopyRun) × IsGoing news index client under
        × (under.work ≡ work.Copy (Copies run))

    copying : (was now : Option CopyRun) → job_under before.client.under_way ≡ was
        → job_under after.client.under_way ≡ now → Some who ≡ copier_after was now before.state.core.copying
    copying was now was_is now_is = search arith

    own : (run : CopyRun) → job_under after.client.under_way ≡ Some run → who ≡ run.hold.actor → Found who
    own run is whose =
        let there = job_there after.client.under_way run is in
        let goes : IsGoing news actor after.client there.0 =
        search in
        let mine : run.hold.actor ≡ actor =
        rw there.2 at (going.each actor after.client there.0 goes).hold in
        search arith

    by : (was now : Option CopyRun) → job_under before.client.under_way ≡ was
        → job_under after.client.under_way ≡ now → Found who
    by was (Some run) was_is now_is = search (own, copying, arith)
    by (Some run) None was_is now_is = search arith
    by None None was_is now_is = search arith

-- Where no client has a call under way nobody copies.
pub none_copies : (core : Core) {clients : List Client} → AreCopiers clients core → AreIdle clients
    → core.copying ≡ None
none_copies core copiers idle = grind (arith, none_some)

-- ---- who shares

-- Where one client of some changes, they share as many holds more or less as it.
sharing_changes : (old new : List Client) (actor : ℕ) {was now : Client} → slice_get old actor ≡ Some was
    → Changes old new actor now
    → sharing_of new + sharing_under was.under_way ≡ sharing_of old + sharing_under now.under_way
sharing_changes [] new actor there changes = cc
sharing_changes (first ∷ old) [] actor there changes = cc
sharing_changes (first ∷ old) (second ∷ new) zero there changes =
    let rest = same_list new old (λ index. changes.others (suc index) (λ same. cc)) in
    grind (arith, some_is, rest)
sharing_changes (first ∷ old) (second ∷ new) (suc actor) there changes =
    let rest = sharing_changes old new actor there (record {
      there = changes.there;
      others = λ other apart. changes.others (suc other) (λ same. apart (cc));
    }) in
    let its = some_is (changes.others 0 (λ same. cc)) in
    grind (arith, rest, its)

-- So after a turn no more holds are shared than clients' calls under way have.
pub sharers_after : {script : Script} {actor : ℕ} {before after : TurnState} {clients news : List Client}
    → TakesTurn script actor before after clients news → TurnLeaves (calls_of script actor) actor before after
    → AreSharers clients before.state.core → AreSharers news after.state.core
sharers_after takes leaves sharers = grind (arith, sharing_changes)

-- Where no call is under way they share none.
idle_sharing : (clients : List Client) → AreIdle clients → sharing_of clients ≡ 0
idle_sharing [] idle = refl
idle_sharing (first ∷ clients) idle =
    let rest = idle_sharing clients (record { each = λ index client there. idle.each (suc index) client there }) in
    omega (arith, ap sharing_under (idle.each 0 first refl), rest)

-- So no hold is shared then.
pub none_shares : (core : Core) (clients : List Client) → AreSharers clients core → AreIdle clients
    → shared_count core.holds ≡ 0
none_shares core clients sharers idle = search (idle_sharing, arith)
