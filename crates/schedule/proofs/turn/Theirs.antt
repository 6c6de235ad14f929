-- The calls under way of some clients, of whom one has changed.
use Rattle.schedule.proofs.Words.{◌≡◌, ◌≢◌, ⊎_elim, ℕ, zero, suc, List, [], ◌∷◌, ◌++◌, Option, Some, None, sym, subst}
use Rattle.schedule.proofs.Words.{refl, Contains, IsSome, slice_get, ⊤, cases_eq, false≢true, Contains-append_cases}
use Rattle.schedule.proofs.Words.{Contains-append_left, Contains-append_right, flat_map-append, Gains, listed_cases}
use Rattle.schedule.proofs.Words.{none_listed, CommitRun, Script, AttachRun, attach_commit, Core, HoldingCall, actor_of}
use Rattle.schedule.proofs.Words.{IsBeforeCommit, Client, UnderWay, Work, Changes, AreGoing, IsGoing, IsHoldOf}
use Rattle.schedule.proofs.Words.{IsTheirs, MakesCommit, call_of_client, calls_under_way, commit_in, held_by}
use Rattle.schedule.proofs.Words.{held_under, begun_at, made_in, arith}
use Rattle.schedule.specs.declared.client.Work.TheVariants as work

pub some_is : {A : Type 0} {one two : A} → Some one ≡ Some two → one ≡ two
some_is same = cc

pub none_some : {A : Type 0} {one : A} → None ≡ Some one → ⊥
none_some same = cc

-- Lists with the same items at the same places are one.
pub same_list : {T : Type 0} (one other : List T) → ((index : ℕ) → slice_get one index ≡ slice_get other index)
    → one ≡ other
same_list [] [] same = refl
same_list [] (item ∷ items) same = absurd (none_some (same 0))
same_list (item ∷ items) [] same = absurd (none_some (sym (same 0)))
same_list (item ∷ items) (first ∷ others) same =
    λ i. some_is (same 0) i ∷ same_list items others (λ index. same (suc index)) i

-- A list of one has no other.
pub only_one : {T : Type 0} {one other : T} → Contains (one ∷ []) other → one ≡ other
only_one {one = one} {other = other} listed = search (none_listed, listed_cases, arith)

-- ---- whose a call under way is

-- It is that of this client's work.
pub record IsSomeones (clients : List Client) (call : HoldingCall) : Type 0 where
  pub index : ℕ
  pub client : Client
  pub under : UnderWay
  pub going : IsGoing clients index client under
  pub held : Contains (held_by under.work) call

pub whose : (clients : List Client) {call : HoldingCall} → Contains (calls_under_way clients) call
    → IsSomeones clients call
whose [] {call = call} listed = absurd (none_listed call listed)
whose (first ∷ clients) {call = call} listed = ⊎_elim (mine first.under_way refl) (λ rest.
    let found = whose clients rest in record {
      index = suc found.index;
      client = found.client;
      under = found.under;
      going = search;
      held = found.held;
    }) (Contains-append_cases (call_of_client first) (calls_under_way clients) call listed)
  where
    mine : (under : Option UnderWay) → first.under_way ≡ under → Contains (held_under under) call
        → IsSomeones (first ∷ clients) call
    mine None is none = absurd (none_listed call none)
    mine (Some under) is held = record { index = 0; client = first; under = under; going = search; held = held }

-- A client's call is one of those under way.
pub is_among : (clients : List Client) (index : ℕ) {client : Client} {under : UnderWay} (call : HoldingCall)
    → IsGoing clients index client under → Contains (held_by under.work) call → Contains (calls_under_way clients) call
is_among [] index call going held = cc
is_among (first ∷ clients) zero {client} {under} call going held =
    Contains-append_left (call_of_client first) (calls_under_way clients) call
    (rw (let its : first.under_way ≡ Some under = cc in its) held)
is_among (first ∷ clients) (suc index) {client} {under} call going held =
    Contains-append_right (call_of_client first) (calls_under_way clients) call
    (is_among clients index call (record { there = going.there; under_way = going.under_way }) held)

-- A call has its client's hold.
pub its_actor : {index : ℕ} (does : Work) (call : HoldingCall) → IsHoldOf index does → Contains (held_by does) call
    → actor_of call ≡ index
its_actor does call its held = grind (arith, only_one, none_listed)

-- ---- who has a call under way

-- Where a client holds no sectors, all calls under way that do are others',
pub held_by_others : {script : Script} {core : Core} {clients : List Client} {index : ℕ} {client : Client}
    → slice_get clients index ≡ Some client → call_of_client client ≡ [] → AreGoing script core clients
    → (call : HoldingCall) → Contains (calls_under_way clients) call → actor_of call ≢ index
held_by_others {clients = clients} {client = client} was none going call listed its =
    let found = whose clients listed in
    let here = its_actor found.under.work call (going.each found.index found.client found.under found.going).hold
    found.held in
    let empty : held_by found.under.work ≡ [] = cc in none_listed call (rw empty at found.held)

-- as where it has none under way.
pub calls_of_others : {script : Script} {core : Core} {clients : List Client} {index : ℕ} {client : Client}
    → slice_get clients index ≡ Some client → client.under_way ≡ None → AreGoing script core clients
    → (call : HoldingCall) → Contains (calls_under_way clients) call → actor_of call ≢ index
calls_of_others was idle = held_by_others was (cc)

-- A work makes a commit where it has one,
pub makes_commit : (does : Work) {run : CommitRun} → commit_in does ≡ Some run → MakesCommit does
makes_commit does is = subst IsSome (sym is) refl

-- and has one where it makes one.
pub run_of : (does : Work) → MakesCommit does → (run : CommitRun) × (commit_in does ≡ Some run)
run_of does makes = grind arith

-- No other client makes a commit.
abbrev pub OnlyIt : List Client → ℕ → Type 0
OnlyIt clients index = (other : ℕ) (its : Client) (under : UnderWay) → IsGoing clients other its under
    → MakesCommit under.work → other ≡ index

-- ---- one client has changed

-- Two lists of clients differ in one.
record OneChanges (clients news : List Client) (old client : Client) : Type 0 where
  before : List Client
  after : List Client
  was : clients ≡ before ++ old ∷ after
  is : news ≡ before ++ client ∷ after

one_changes : {index : ℕ} {old client : Client} (clients news : List Client) → slice_get clients index ≡ Some old
    → Changes clients news index client → OneChanges clients news old client
one_changes [] news was changes = cc
one_changes (first ∷ clients) [] was changes = cc
one_changes {index = zero} (first ∷ clients) (next ∷ news) was changes = record {
  before = [];
  after = clients;
  was = cc;
  is = cc (some_is changes.there, same_list news clients (λ other. changes.others (suc other) (λ is. cc)));
}
one_changes {index = suc index} (first ∷ clients) (next ∷ news) was changes =
    let rest = one_changes {index = index} clients news was (record {
      there = changes.there;
      others = λ other apart. changes.others (suc other) (λ is. apart (omega arith));
    }) in
    record {
      before = first ∷ rest.before;
      after = rest.after;
      was = cc;
      is = cc (some_is (changes.others 0 (λ is. cc)));
    }

-- What holds of the call that a client has under way holds of each that it has,
pub the_one : (T : UnderWay → Type 0) {its : Option UnderWay} {under : UnderWay} → its ≡ Some under → T under
    → (other : UnderWay) → its ≡ Some other → T other
the_one T is has other other_is = subst T (some_is (cc)) has

-- and where it has none, anything does.
pub no_one : (T : UnderWay → Type 0) {its : Option UnderWay} → its ≡ None → (other : UnderWay) → its ≡ Some other
    → T other
no_one T idle other is = cc

pub none_there : {commit : Option CommitRun} → commit ≡ None → IsSome commit → ⊥
none_there none there = false≢true (subst IsSome none there)

-- No commit is under way.
abbrev pub IsNoCommit : Option UnderWay → Type 0
IsNoCommit None = ⊤
IsNoCommit (Some under) = MakesCommit under.work → ⊥

pub idle_no_commit : {its : Option UnderWay} → its ≡ None → IsNoCommit its
idle_no_commit idle = subst IsNoCommit (sym idle) tt

pub work_no_commit : {its : Option UnderWay} {under : UnderWay} → its ≡ Some under → (MakesCommit under.work → ⊥)
    → IsNoCommit its
work_no_commit is none = subst IsNoCommit (sym is) none

no_commit_under : {its : Option UnderWay} → IsNoCommit its → (under : UnderWay) → its ≡ Some under
    → MakesCommit under.work → ⊥
no_commit_under none under is = subst IsNoCommit is none

-- A work that makes none began when it was told before.
pub begun_before : (does was : Work) {at : ℕ} (now : ℕ) → (MakesCommit does → ⊥)
    → begun_at (commit_in does) (commit_in was) at now ≡ at
begun_before does was now none = grind arith

-- No attach is under way.
abbrev pub IsNoAttach : Option UnderWay → Type 0
IsNoAttach its = (under : UnderWay) (run : AttachRun) → its ≡ Some under → under.work ≡ work.Attach run → ⊥

pub idle_no_attach : {its : Option UnderWay} → its ≡ None → IsNoAttach its
idle_no_attach idle under run is does = cc

-- So it is where the work is this one, which is none.
pub other_no_attach : {its : Option UnderWay} {under : UnderWay} {does : Work} → its ≡ Some under → under.work ≡ does
    → ((run : AttachRun) → does ≡ work.Attach run → ⊥) → IsNoAttach its
other_no_attach is does_is none under run its_is attach = none run (cc)

-- A work that holds sectors is none,
pub held_no_attach : {does : Work} {held : HoldingCall} → held_by does ≡ held ∷ [] → (run : AttachRun)
    → does ≡ work.Attach run → ⊥
held_no_attach holds run does = cc

-- nor has it made a group in the turn before.
pub held_none_made : (does : Work) {held : HoldingCall} → held_by does ≡ held ∷ [] → made_in does ≡ None
held_none_made does holds = grind arith

pub same_attach : {one other : AttachRun} → work.Attach one ≡ work.Attach other → one ≡ other
same_attach same = cc

-- An attach that makes no commit has begun none.
pub before_commit : (run : AttachRun) → (IsSome (attach_commit run) → ⊥) → IsBeforeCommit run
before_commit run none = grind (arith, none)

module _ {clients news : List Client} {index : ℕ} {old client : Client} (was : slice_get clients index ≡ Some old)
    (changes : Changes clients news index client) where
  change : OneChanges clients news old client
  change = one_changes clients news was changes

  -- The calls before the client's and behind it are the same,
  abbrev before : List HoldingCall
  before = calls_under_way change.before

  abbrev after : List HoldingCall
  after = calls_under_way change.after

  were : {held : List HoldingCall} → call_of_client old ≡ held → calls_under_way clients ≡ before ++ (held ++ after)
  were is = search (flat_map-append, arith)

  are : (held : List HoldingCall) → call_of_client client ≡ held → calls_under_way news ≡ before ++ (held ++ after)
  are held is = search (flat_map-append, arith)

  -- and its call begins,
  pub call_begins : {call : HoldingCall} → call_of_client old ≡ [] → call_of_client client ≡ call ∷ []
      → Gains (calls_under_way clients) (calls_under_way news) call
  call_begins {call} none held = record { before = before; after = after; was = were none; is = are (call ∷ []) held }

  -- goes on,
  pub call_goes : {call next : HoldingCall} → call_of_client old ≡ call ∷ [] → call_of_client client ≡ next ∷ []
      → (left : List HoldingCall) × Gains left (calls_under_way clients) call × Gains left (calls_under_way news) next
  call_goes {call} {next} was_held held = (
    before ++ after,
    record { before = before; after = after; was = refl; is = were was_held },
    record { before = before; after = after; was = refl; is = are (next ∷ []) held },
  )

  -- or ends.
  pub call_ends : {call : HoldingCall} → call_of_client old ≡ call ∷ [] → call_of_client client ≡ []
      → Gains (calls_under_way news) (calls_under_way clients) call
  call_ends {call} held none = search (were, are, arith)

  -- Where it holds no sectors before and after, the calls are the same.
  pub calls_stay : call_of_client old ≡ [] → call_of_client client ≡ [] → calls_under_way news ≡ calls_under_way clients
  calls_stay was_none none = cc (are [] none, were was_none)

  -- Other clients go on with their calls.
  pub going_on : {other : ℕ} {its : Client} {under : UnderWay} → other ≢ index → IsGoing clients other its under
      → IsGoing news other its under
  going_on {other = other} apart going = search (apart, arith)

  -- What holds of this one's call and of the others' holds of each.
  pub each_going : {T : ℕ → Client → UnderWay → Type 0}
      → ((under : UnderWay) → client.under_way ≡ Some under → T index client under)
      → ((other : ℕ) (its : Client) (under : UnderWay) → other ≢ index → IsGoing clients other its under
      → T other its under)
      → (other : ℕ) (its : Client) (under : UnderWay) → IsGoing news other its under → T other its under
  each_going {T} here others other its under is = grind (arith, here, others, cases_eq)

  -- This one's commit isn't under way.
  pub apart_of_commit : IsNoCommit old.under_way → {other : ℕ} {its : Client} {under : UnderWay}
      → IsGoing clients other its under → MakesCommit under.work → other ≢ index
  apart_of_commit none {its = its} {under = under} going makes same =
      let here = rw same at going in no_commit_under none under (cc) makes

  -- The commit under way is a client's still, where this one's work makes and made none.
  pub commit_stays : (commit : Option CommitRun) → IsNoCommit old.under_way → IsNoCommit client.under_way
      → IsTheirs clients commit → IsTheirs news commit
  commit_stays commit was_none is_none theirs =
      grind (arith, each_going, going_on, apart_of_commit, makes_commit, no_commit_under)

  -- The one commit has ended.
  pub commit_gone : IsNoCommit client.under_way → OnlyIt clients index → IsTheirs news None
  commit_gone ended only = each_going {T = λ other its under. MakesCommit under.work → ⊥} (no_commit_under ended)
      (search only)
