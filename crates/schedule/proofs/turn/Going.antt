-- The clients' calls under way are calls of the core still, after a client's next turn.
use Rattle.schedule.proofs.Words.{◌≡◌, ◌≢◌, ◌⊎◌, inl, inr, ℕ, ◌-◌, List, Some, None, slice_get, CommitRun, ScriptCall}
use Rattle.schedule.proofs.Words.{Script, calls_of, AttachRun, IsAttachRunOf, Core, HasTooManyOut, IsCommitOf}
use Rattle.schedule.proofs.Words.{AreCallsOf, IsBeforeCommit, attach_at_begin, Client, UnderWay, Changes, AreGoing}
use Rattle.schedule.proofs.Words.{IsGoing, IsHoldOf, IsWorkFor, IsWorkOf, calls_under_way, commit_in, arith}
use Rattle.schedule.specs.declared.client.Work.TheVariants as work
use Rattle.schedule.proofs.turn.LeavesPool.{KeepsCommit}
use Rattle.schedule.proofs.turn.Theirs.{IsNoAttach, IsNoCommit, OnlyIt, apart_of_commit, before_commit, each_going}
use Rattle.schedule.proofs.turn.Theirs.{going_on, makes_commit, no_one, run_of, some_is, the_one}

-- What a sync's turn leaves of an attach that has begun no commit.
pub record KeepsAttach (core now : Core) : Type 0 where
  pub attaching : now.attaching ≡ core.attaching
  pub early : (run : AttachRun) → IsBeforeCommit run → IsAttachRunOf core run → IsAttachRunOf now run

-- So it is where the pool's widths, how far it reaches and who attaches are the same.
pub keeps_attach : {core now : Core} → now.pool.uber.reflow ≡ core.pool.uber.reflow → now.reach ≡ core.reach
    → now.attaching ≡ core.attaching → KeepsAttach core now
keeps_attach {core = core} {now = now} reflow reach attaching = search (attach_at_begin, attaching)

module _ {script : Script} {core now : Core} {clients news : List Client} {index : ℕ} {old client : Client}
    (was : slice_get clients index ≡ Some old) (changes : Changes clients news index client)
    (going : AreGoing script core clients) (are : AreCallsOf now (calls_under_way news)) where
  -- The client's call under way is one of the core,
  abbrev Mine : Type 0
  Mine = (under : UnderWay) → client.under_way ≡ Some under → IsWorkOf script now index client under.work

  -- and so are the others' commits and attaches;
  abbrev OthersCommit : Type 0
  OthersCommit = (caller : ℕ) (its : Client) (under : UnderWay) (run : CommitRun) → caller ≢ index
      → IsGoing clients caller its under → commit_in under.work ≡ Some run
      → IsCommitOf now run × (now.committing ≡ Some caller)

  abbrev OthersAttach : Type 0
  OthersAttach = (caller : ℕ) (its : Client) (under : UnderWay) (run : AttachRun) → caller ≢ index
      → IsGoing clients caller its under → under.work ≡ work.Attach run
      → IsAttachRunOf now run × (now.attaching ≡ Some caller)

  -- and the commit and the attach that the core has are a client's.
  abbrev OneCommits : Type 0
  OneCommits = (actor : ℕ) → now.committing ≡ Some actor → HasTooManyOut now
      ⊎ ((its : Client) × (under : UnderWay) × (run : CommitRun) × IsGoing news actor its under
      × (commit_in under.work ≡ Some run))

  abbrev OneAttaches : Type 0
  OneAttaches = (actor : ℕ) → now.attaching ≡ Some actor
      → (its : Client) × (under : UnderWay) × (run : AttachRun) × IsGoing news actor its under
      × (under.work ≡ work.Attach run)

  -- Then all of them go on.
  all_go : OthersCommit → OthersAttach → Mine → OneCommits → OneAttaches → AreGoing script now news
  all_go commits attaches mine one theirs = record {
    are = are;
    each = each_going was changes {T = λ caller its under. IsWorkOf script now caller its under.work} mine
        (λ caller its under apart is. let work = going.each caller its under is in record {
          hold = work.hold;
          call = work.call;
          there = work.there;
          asked = work.asked;
          commit = λ run. commits caller its under run apart is;
          attach = λ run. attaches caller its under run apart is;
        });
    one = one;
    attaches = theirs;
  }

  mine_is : {under : UnderWay} → client.under_way ≡ Some under → IsWorkOf script now index client under.work → Mine
  mine_is client_is mine = the_one (λ its. IsWorkOf script now index client its.work) client_is mine

  -- ---- what is left

  -- The commit under way is left,
  others_commit : now.committing ≡ core.committing → ((run : CommitRun) → IsCommitOf core run → IsCommitOf now run)
      → OthersCommit
  others_commit committing commits caller its under run apart is does =
      let was = (going.each caller its under is).commit run does in (commits run was.0, cc)

  one_commits : now.committing ≡ core.committing → (HasTooManyOut core → HasTooManyOut now) → IsNoCommit old.under_way
      → OneCommits
  one_commits committing many none actor is = search (apart_of_commit, makes_commit, going_on, arith)

  -- and the attach, which is another's;
  others_attach : KeepsCommit core now → OthersAttach
  others_attach keeps caller its under run apart is does =
      let was = (going.each caller its under is).attach run does in (keeps.attaches run was.0, cc)

  one_attaches : IsNoAttach old.under_way → now.attaching ≡ core.attaching → OneAttaches
  one_attaches none attaching actor is = search (going_on, arith)

  -- or it is the client's.
  own_attaches : {under : UnderWay} {run : AttachRun} → client.under_way ≡ Some under → under.work ≡ work.Attach run
      → now.attaching ≡ Some index → OneAttaches
  own_attaches {under} {run} client_is does attaching actor is = (client, under, run, search attaching, does)

  -- ---- turns that begin and end no commit

  -- The commit and the attach under way are kept, if there are such: the client's work is and was none of them, or it
  -- has no work.
  pub goes : KeepsCommit core now → IsNoCommit old.under_way → IsNoAttach old.under_way → Mine
      → AreGoing script now news
  goes keeps none no_attach mine = search (all_go, others_commit, others_attach, one_commits, one_attaches, arith)

  -- An attach that makes no commit goes on.
  pub attach_goes : KeepsCommit core now → IsNoCommit old.under_way → {under : UnderWay} (run : AttachRun)
      → client.under_way ≡ Some under → under.work ≡ work.Attach run → now.attaching ≡ Some index
      → IsWorkOf script now index client under.work → AreGoing script now news
  attach_goes keeps none run client_is does attaching mine =
      search (all_go, others_commit, others_attach, mine_is, one_commits, own_attaches, attaching)

  -- An attach begins where none is under way, and no commit.
  pub attach_begins : core.attaching ≡ None → now.committing ≡ None → (under : UnderWay) (run : AttachRun)
      → client.under_way ≡ Some under → under.work ≡ work.Attach run → now.attaching ≡ Some index
      → (now.committing ≡ core.committing) → IsWorkOf script now index client under.work → AreGoing script now news
  attach_begins none no_commit under run client_is does attaching committing mine = all_go
      (λ caller its other made apart is makes. let was = (going.each caller its other is).commit made makes in cc)
      (λ caller its other joins apart is makes. let was = (going.each caller its other is).attach joins makes in cc)
      (mine_is client_is mine) (search arith) (own_attaches client_is does attaching)

  -- It stops before its commit.
  pub attach_stops : core.attaching ≡ Some index → now.attaching ≡ None → now.committing ≡ core.committing
      → ((run : CommitRun) → IsCommitOf core run → IsCommitOf now run) → (HasTooManyOut core → HasTooManyOut now)
      → IsNoCommit old.under_way → client.under_way ≡ None → AreGoing script now news
  attach_stops attaching stopped committing commits many none ended = all_go (others_commit committing commits)
      (λ caller its under run apart is does.
      let was = (going.each caller its under is).attach run does in absurd (apart (some_is (cc))))
      (search no_one) (one_commits committing many none) (search arith)

  -- ---- turns that begin, make or end the commit

  -- Another's attach has begun no commit,
  others_early : KeepsAttach core now → OnlyIt clients index → OthersAttach
  others_early keeps only caller its under run apart is does =
      let was = (going.each caller its under is).attach run does in
      (keeps.early run (before_commit run (λ makes. apart (only caller its under is (rw does makes)))) was.0, cc)

  -- or there is none.
  abbrev IsAlone : Type 0
  IsAlone = (caller : ℕ) (its : Client) (under : UnderWay) (run : AttachRun) → caller ≢ index
      → IsGoing clients caller its under → under.work ≡ work.Attach run → ⊥

  others_none : IsAlone → OthersAttach
  others_none alone caller its under run apart is does = search

  -- A commit begins, goes on or ends, and no other client makes one.
  commits : OthersAttach → OnlyIt clients index → OneAttaches → Mine → OneCommits → AreGoing script now news
  commits others only theirs mine one = all_go (λ caller its under run apart is does. search makes_commit) others mine
      one theirs

  -- The client's work makes the core's commit,
  abbrev IfItCommits : UnderWay → CommitRun → ScriptCall → Type 0
  IfItCommits under run call = client.under_way ≡ Some under → commit_in under.work ≡ Some run
      → IsHoldOf index under.work → slice_get (calls_of script index) (client.begun - 1) ≡ Some call
      → IsWorkFor call under.work → IsCommitOf now run → now.committing ≡ Some index → AreGoing script now news

  commits_as : (under : UnderWay) (run : CommitRun) (call : ScriptCall) → OthersAttach → OnlyIt clients index
      → OneAttaches
      → ((its : AttachRun) → under.work ≡ work.Attach its → IsAttachRunOf now its × (now.attaching ≡ Some index))
      → IfItCommits under run call
  commits_as under run call others only theirs its_attaches client_is does_is hold is for of committing =
      commits others only theirs (mine_is client_is (record {
        hold = hold;
        call = call;
        there = is;
        asked = for;
        commit = λ its_run its_does. (rw (let same : its_run ≡ run = some_is (cc) in same) of, committing);
        attach = its_attaches;
      })) (λ actor its. inr (client, under, run, search, does_is))

  -- as a sync does,
  pub commits_on : {under : UnderWay} (run : CommitRun) (call : ScriptCall) → KeepsAttach core now
      → OnlyIt clients index → IsNoAttach old.under_way → ((its : AttachRun) → under.work ≡ work.Attach its → ⊥)
      → IfItCommits under run call
  commits_on {under = under} run call keeps only no_attach none =
      commits_as under run call (others_early keeps only) only (one_attaches no_attach keeps.attaching)
      (λ its is_attach. absurd (none its is_attach))

  -- or an attach;
  pub attach_commits : {under : UnderWay} {run : AttachRun} {commit : CommitRun} {call : ScriptCall} → IsAlone
      → OnlyIt clients index → under.work ≡ work.Attach run → IsAttachRunOf now run → now.attaching ≡ Some index
      → IfItCommits under commit call
  attach_commits {under} {run} {commit} {call} alone only does of attaching client_is =
      commits_as under commit call (others_none alone) only (own_attaches client_is does attaching)
      (search arith) client_is

  -- or it has ended, and the client's work makes none.
  pub commit_ends : KeepsAttach core now → OnlyIt clients index → IsNoAttach old.under_way → Mine
      → ((actor : ℕ) → now.committing ≡ Some actor → HasTooManyOut now) → AreGoing script now news
  commit_ends keeps only no_attach mine none = commits (others_early keeps only) only
      (one_attaches no_attach keeps.attaching) mine (λ actor its. inl (none actor its))

  -- An attach ends with its commit.
  pub attach_ends : IsAlone → now.attaching ≡ None → client.under_way ≡ None → OnlyIt clients index
      → ((actor : ℕ) → now.committing ≡ Some actor → HasTooManyOut now) → AreGoing script now news
  attach_ends alone ended none only many = commits (others_none alone) only (λ actor is. cc) (search no_one)
      (λ actor its. inl (many actor its))

-- There is one commit at most.
pub one_commit : {script : Script} {core : Core} {clients : List Client} {index : ℕ} {old : Client} {under : UnderWay}
    {run : CommitRun} → AreGoing script core clients → IsGoing clients index old under → commit_in under.work ≡ Some run
    → OnlyIt clients index
one_commit {index = index} {old} {under} {run} going is does_is caller its its_under its_going makes =
    let found = run_of its_under.work makes in
    let other = (going.each caller its its_under its_going).commit found.0 found.1 in
    let one = (going.each index old under is).commit run does_is in cc
