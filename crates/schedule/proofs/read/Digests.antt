-- What a read hands out has a length and a digest that are known, turn by turn, whatever the devices hold.
use Rattle.schedule.proofs.Words.{◌≡◌, ◌≢◌, ◌⊎◌, inl, inr, ⊎_elim, ℕ, ◌+◌, ◌-◌, ◌≤◌, List, [], ◌∷◌, ◌++◌, length}
use Rattle.schedule.proofs.Words.{Option, Some, None, refl, sym, ◌∙◌, ap, subst, arith, slice_get, cases_eq, ⊤}
use Rattle.schedule.proofs.Words.{append-nil, grown_has, length-append, new_or_before, last_there, Entry, Item}
use Rattle.schedule.proofs.Words.{CallAt, Answer, Kind, IndexEntry, Script, ScriptCall, calls_of, fill_bytes}
use Rattle.schedule.proofs.Words.{handed_by, Core, CoreState, Turn, More, Busy, Done, Client, UnderWay, Work, Changes}
use Rattle.schedule.proofs.Words.{TurnState, Turned, Began, Went, BeginsWork, Waits, AnswersAtOnce, GoesOnBy}
use Rattle.schedule.proofs.Words.{entry_for, listed_on, made_by, made_in, group_by, LeavesBegun, LeavesGoing, Turns}
use Rattle.schedule.proofs.Words.{TurnTaken, last_left, HaveTaken, first_turns, Disk, at_disk, Pool, Uber, Reflow}
use Rattle.schedule.proofs.Words.{PutRun, GetRun, Filled, CommitRun, AttachRun, CopyRound, Reads, Checked, Joins, Signs}
use Rattle.schedule.proofs.Words.{Rests, Copies, Commits, IsPutRefused, FreesBlock, BeginsRound, AnswersGroup}
use Rattle.schedule.proofs.Words.{StepsCommit, StopsAttach, StepsAttach, StepsCopy, LacksRoom, IsFilledIn}
use Rattle.schedule.proofs.Words.{GoesOnPutting, EndsPutting, EndsReading, EndsPut, GivesUpTurn, StoresBlock, SolvesGet}
use Rattle.schedule.proofs.Words.{EndsGet}
use Rattle.std.specs.Prelude.{Bool, if◌then◌else◌}
use Rattle.sha2.specs.Sha256.{sha256}
use Rattle.block_table.specs.Table.{ChangesOnly, entry_of}
use Rattle.core_blocks.specs.Blocks.{Blocks}
use Rattle.core_blocks.specs.Growing.{grown_by}
use Rattle.core_open.specs.Answered.{blocks_behind}
use Rattle.core_state.specs.declared.answer.Answer.TheVariants as answer
use Rattle.core_state.specs.declared.answer.Kind.TheVariants as kind
use Rattle.core_state.specs.declared.item.Group.{Group as GroupItem}
use Rattle.core_state.specs.declared.item.Item.TheVariants.{Group, Call as CallItem}
use Rattle.core_turns.specs.declared.solving.Solved.{Solved}
use Rattle.core_turns.specs.declared.solving.Solved.TheVariants.{Bytes, Damaged, NotYet}
use Rattle.core_turns.specs.Getting.{AnswersSolved, IsSolved, answer_of, to_solve_of}
use Rattle.uberblock_ring.specs.Devices.{count_of}
use Rattle.std.proofs.lemmas.Bool.{cases_lt}
use Rattle.schedule.specs.Digests.{IsKnownAs, IsReadAsKnown, ReadsAreKnown}
use Rattle.schedule.specs.Turned.{BeginsNext, CallGoesOn, gone_on, group_with, listed_of}
use Rattle.schedule.specs.declared.client.Work.TheVariants as work
use Rattle.schedule.proofs.run.Beginning.{no_call}
use Rattle.schedule.proofs.run.Opened.{none_of_blank, resting}
use Rattle.schedule.proofs.turn.Theirs.{none_some, some_is}

-- ---- tables

abbrev entries_in : Core → List IndexEntry
entries_in core = core.pool.blocks.table.entries

-- Each entry of a table is from before, or has a length and a digest that are known for its id.
record Adds (old new : List IndexEntry) (Known : ℕ → ℕ → List ℕ → Type 0) : Type 0 where
  pub each : (id : ℕ) (entry : IndexEntry) → entry_of new id ≡ Some entry
      → (entry_of old id ≡ Some entry) ⊎ Known id entry.len entry.digest

module _ {old new : List IndexEntry} {Known : ℕ → ℕ → List ℕ → Type 0} where
  -- None is new where the entries are the same,
  adds_none : new ≡ old → Adds old new Known
  adds_none same = record {
    each = λ id entry there. inl (subst (λ (l : List IndexEntry). entry_of l id ≡ Some entry) same there);
  }

  -- or one is gone,
  adds_less : {gone : ℕ} → ChangesOnly old new gone None → Adds old new Known
  adds_less {gone} changes = record {
    each = λ id entry there. ⊎_elim
        (λ (same : id ≡ gone).
        absurd (none_some (sym changes.there ∙ subst (λ k. entry_of new k ≡ Some entry) same there)))
        (λ (other : id ≢ gone). inl (sym (changes.others id other) ∙ there)) (cases_eq id gone);
  }

  -- and one is where a put has left its own.
  adds_one : {put : ℕ} {its : IndexEntry} → ChangesOnly old new put (Some its) → Known put its.len its.digest
      → Adds old new Known
  adds_one {put} {its} changes known = record {
    each = λ id entry there. ⊎_elim
        (λ (same : id ≡ put).
        let is : its ≡ entry = some_is (sym changes.there ∙ subst (λ k. entry_of new k ≡ Some entry) same there) in
        inr (subst (λ k. Known k entry.len entry.digest) (sym same)
        (subst (λ (e : IndexEntry). Known put e.len e.digest) is known)))
        (λ (other : id ≢ put). inl (sym (changes.others id other) ∙ there)) (cases_eq id put);
  }

-- Behind an answer a pool has the same entries.
entries_grown : (blocks : Blocks) (group capacity : ℕ) (same : Bool)
    → (if same then blocks else grown_by blocks group capacity).table.entries ≡ blocks.table.entries
entries_grown blocks group capacity same = grind arith

entries_behind : (pool : Pool) (uber : Uber) → (blocks_behind pool uber).table.entries ≡ pool.blocks.table.entries
entries_behind pool uber = search entries_grown

-- ---- what is known between turns

module _ (script : Script) (entries : List IndexEntry) where
  -- What is known is known for as long as the journal grows.
  known_later : (items more : List Item) {index later id len : ℕ} {digest : List ℕ} → index ≤ later
      → IsKnownAs script entries items index id len digest
      → IsKnownAs script entries (items ++ more) later id len digest
  known_later items more low (inl indexed) = inl indexed
  known_later items more low (inr stored) = inr (record {
    place = stored.place;
    put = stored.put;
    there = grown_has items more stored.place (CallItem stored.put) stored.there;
    earlier = omega (arith, low, stored.earlier);
    is = stored.is;
  })

  -- So it is with what a read answers.
  read_later : (items more : List Item) (index : ℕ) (entry : Entry) (given : Answer)
      → IsReadAsKnown script entries items index entry given
      → IsReadAsKnown script entries (items ++ more) index entry given
  read_later items more index entry (answer.Read bytes) (id, is, known) =
      (id, is, known_later items more (omega arith) known)
  read_later items more index entry (answer.Digest len digest) (id, is, known) =
      (id, is, known_later items more (omega arith) known)
  read_later items more index entry other known = tt

  -- What is known of a call under way: the block of a put has the length of its bytes, and their digest once it is
  -- filled in; what a read found is known, and is to be solved.
  abbrev KnowsWork : List Item → ScriptCall → Work → Type 0
  KnowsWork items call (work.Put run) = (call.kind ≡ kind.Put) × (call.id ≡ Some run.range.id)
      × (length (fill_bytes call.fill) ≡ run.len)
      × ((filled : Filled) → run.filled ≡ Some filled → filled.digest ≡ sha256 (fill_bytes call.fill))
  KnowsWork items call (work.Read run) = (run.solved ≡ NotYet)
      × ((id : ℕ) × (call.id ≡ Some id)
      × IsKnownAs script entries items (length items) id run.entry.len run.entry.digest)
  KnowsWork items call other = ⊤

  work_later : (items more : List Item) (call : ScriptCall) (does : Work) → KnowsWork items call does
      → KnowsWork (items ++ more) call does
  work_later items more call (work.Put run) known = known
  work_later items more call (work.Read run) (new, (id, is, known)) =
      (new, (id, is, known_later items more (omega (arith, length-append items more)) known))
  work_later items more call other known = tt

  -- Between two turns all entries of the table are known, what calls under way have, and what reads were answered.
  pub record KnowsDigests (core : Core) (items : List Item) (clients : List Client) : Type 0 where
    pub table : (id : ℕ) (entry : IndexEntry) → entry_of (entries_in core) id ≡ Some entry
        → IsKnownAs script entries items (length items) id entry.len entry.digest
    pub works : (actor : ℕ) (client : Client) (under : UnderWay) (call : ScriptCall)
        → slice_get clients actor ≡ Some client → client.under_way ≡ Some under
        → slice_get (calls_of script actor) (client.begun - 1) ≡ Some call → KnowsWork items call under.work
    pub reads : ReadsAreKnown script entries items

  -- ---- a turn

  -- A turn lists these items, and leaves this of a client's call.
  module _ (old new : Core) (items more : List Item) {clients news : List Client} (actor : ℕ) (now : Client)
      (changes : Changes clients news actor now) (knows : KnowsDigests old items clients)
      (adds : Adds (entries_in old) (entries_in new)
      (IsKnownAs script entries (items ++ more) (length (items ++ more))))
      (its : (under : UnderWay) (call : ScriptCall) → now.under_way ≡ Some under
      → slice_get (calls_of script actor) (now.begun - 1) ≡ Some call → KnowsWork (items ++ more) call under.work)
      (listed : (index : ℕ) (entry : Entry) → CallAt (items ++ more) index entry → CallAt items index entry
      ⊎ IsReadAsKnown script entries (items ++ more) index entry entry.answer) where
    works_then : (other : ℕ) (client : Client) (under : UnderWay) (call : ScriptCall)
        → slice_get news other ≡ Some client → client.under_way ≡ Some under
        → slice_get (calls_of script other) (client.begun - 1) ≡ Some call → KnowsWork (items ++ more) call under.work
    works_then other client under call there going is = ⊎_elim
        (λ (same : other ≡ actor).
        let client_is : now ≡ client =
        some_is (sym changes.there ∙ subst (λ (k : ℕ). slice_get news k ≡ Some client) same there) in
        its under call (ap (λ (c : Client). c.under_way) client_is ∙ going)
        (subst (λ (c : Client). slice_get (calls_of script actor) (c.begun - 1) ≡ Some call) (sym client_is)
        (subst (λ (k : ℕ). slice_get (calls_of script k) (client.begun - 1) ≡ Some call) same is)))
        (λ (apart : other ≢ actor). work_later items more call under.work
        (knows.works other client under call (sym (changes.others other apart) ∙ there) going is))
        (cases_eq other actor)

    knows_then : KnowsDigests new (items ++ more) news
    knows_then = record {
      table = λ id entry there. ⊎_elim
          (λ was. known_later items more (omega (arith, length-append items more)) (knows.table id entry was))
          (λ known. known) (adds.each id entry there);
      works = works_then;
      reads = record {
        each = λ index entry there. ⊎_elim
            (λ was. read_later items more index entry entry.answer (knows.reads.each index entry was))
            (λ known. known) (listed index entry there);
      };
    }

  -- ---- first turns

  module _ (old new : Core) (devices actor : ℕ) (items : List Item) (call : ScriptCall) where
    abbrev Same : Type 0
    Same = entries_in new ≡ entries_in old

    -- One after which the call goes on,
    works_begin : (asked : Kind) (id : Option ℕ) (does : Work) → call.kind ≡ asked → call.id ≡ id
        → ((id : ℕ) (entry : IndexEntry) → entry_of (entries_in old) id ≡ Some entry
        → IsKnownAs script entries items (length items) id entry.len entry.digest)
        → BeginsWork old new devices actor call asked id does → Same × KnowsWork items call does
    works_begin kind.Put (Some id) (work.Put run) asked_is id_is table begins = (
      begins.begins.entries,
      (
        asked_is,
        id_is ∙ ap (λ (k : ℕ). Some k) (sym begins.range.id_is),
        sym begins.len_is,
        λ filled is. absurd (none_some (sym begins.unfilled ∙ is)),
      ),
    )
    works_begin kind.Get (Some id) (work.Read run) asked_is id_is table begins =
        (cc, (begins.3, (id, id_is, table id run.entry begins.1)))
    works_begin kind.Sum (Some id) (work.Read run) asked_is id_is table begins =
        (cc, (begins.3, (id, id_is, table id run.entry begins.1)))
    works_begin kind.Sync None (work.Sync run) asked_is id_is table begins = (cc, tt)
    works_begin kind.Attach None (work.Attach run) asked_is id_is table begins = (cc, tt)
    works_begin kind.Copy None (work.Copy round) asked_is id_is table begins = (round_same round begins, tt)
      where
        round_same : (round : CopyRound) → BeginsRound old new actor (More round) → Same
        round_same (Copies run) begins = cc
        round_same (Commits run) begins = cc
        round_same (Rests whose made) begins = absurd begins
    works_begin asked id does asked_is id_is table begins = absurd begins

    -- one that waits,
    waits_same : (asked : Kind) (id : Option ℕ) (by : ℕ) → Waits old new devices actor call asked id by → Same
    waits_same asked id by waits = grind arith

    -- and one that is answered at once.
    answers_adds : (asked : Kind) (id : Option ℕ) (given : Answer) {Known : ℕ → ℕ → List ℕ → Type 0}
        → AnswersAtOnce old new devices actor call asked id given
        → Adds (entries_in old) (entries_in new) Known
    answers_adds kind.Put (Some id) given answers = adds_none (refused_same given answers)
      where
        refused_same : (given : Answer) → IsPutRefused old new id (length (fill_bytes call.fill)) given → Same
        refused_same given refused = grind arith
    answers_adds kind.Free (Some id) given answers = free_adds given answers.frees
      where
        free_adds : (given : Answer) {Known : ℕ → ℕ → List ℕ → Type 0} → FreesBlock old new id given
            → Adds (entries_in old) (entries_in new) Known
        free_adds answer.Freed frees = adds_less frees.2.change
        free_adds answer.Absent frees = adds_less frees.1.change
        free_adds (answer.TooManyFailed out) frees = adds_none (cc)
        free_adds other frees = absurd frees
    answers_adds kind.Get (Some id) given answers = adds_none (cc)
    answers_adds kind.Sum (Some id) given answers = adds_none (cc)
    answers_adds kind.Sync None given answers = adds_none (cc)
    answers_adds kind.Attach None given answers = adds_none (cc)
    answers_adds kind.Copy None given answers = adds_none (cc)
    answers_adds asked id given answers = absurd answers

  -- ---- later turns

  module _ (before after : CoreState) (items : List Item) (call : ScriptCall) where
    abbrev Still : Type 0
    Still = entries_in after.core ≡ entries_in before.core

    group_still : {run : CommitRun} {group : ℕ} → AnswersGroup before run after group → Still
    group_still answers = search (entries_behind, arith)

    steps_still : (run : CommitRun) (turn : Turn CommitRun) → StepsCommit before run after turn → Still
    steps_still run (More next) steps = ap entries_in steps.2
    steps_still run (Busy by) steps = absurd steps
    steps_still run (Done given) steps = grind (arith, group_still)

    stops_still : StopsAttach before after → Still
    stops_still stops = ap entries_in stops.core

    attach_still : (run : AttachRun) (turn : Turn AttachRun) → StepsAttach before run after turn → Still
    attach_still (Reads ring) (More (Reads next)) steps = ap entries_in steps.core
    attach_still (Reads ring) (More (Checked found)) steps = ap entries_in steps.core
    attach_still (Reads ring) (Done given) steps = stops_still steps.0
    attach_still (Checked found) (More (Checked next)) steps = cc
    attach_still (Checked found) (More (Joins join)) steps =
        ap entries_in steps.begins.rest
    attach_still (Checked found) (Done given) steps = stops_still steps.0
    attach_still (Joins join) (More (Joins next)) steps = ap entries_in steps.1
    attach_still (Joins join) (More (Signs run None)) steps = ap entries_in steps.1
    attach_still (Joins join) (More (Signs run (Some because))) steps =
        ap entries_in steps.1
    attach_still (Joins join) (Done given) steps = stops_still steps.0
    attach_still (Signs run because) (More (Signs next same)) steps = steps_still run (More next) steps.1
    attach_still (Signs run because) (Done given) steps = ⊎_elim (λ stops. stops_still stops.0)
        (λ ends. ap entries_in ends.core ∙ answered_still ends.answered ends.answers) steps
      where
        answered_still : (answered : CoreState) → AnswersGroup before run answered before.core.begun
            → entries_in answered.core ≡ entries_in before.core
        answered_still answered answers = search (entries_behind, arith)
    attach_still run turn steps = absurd steps

    copy_still : (round : CopyRound) (turn : Turn CopyRound) → StepsCopy before round after turn → Still
    copy_still (Rests was made) (More (Rests actor next)) steps = cc
    copy_still (Rests actor made) (More (Copies run)) steps = ap entries_in steps.0.rest
    copy_still (Rests actor made) (More (Commits run)) steps =
        ap entries_in steps.0.2.rest
    copy_still (Rests actor made) (Done given) steps = cc
    copy_still (Copies run) (More (Copies next)) steps = ap entries_in steps.1.rest
    copy_still (Copies run) (More (Rests actor next)) steps = ⊎_elim
        (λ ended. ap entries_in ended.2.rest)
        (λ dropped. ap entries_in dropped.1.rest) steps.2
    copy_still (Copies run) (Done given) steps = ap entries_in steps.1.rest
    copy_still (Commits run) (More (Commits next)) steps = steps_still run (More next) steps
    copy_still (Commits run) (More (Rests actor made)) steps = group_still steps.1.2
    copy_still (Commits run) (Done given) steps = cc
    copy_still round turn steps = absurd steps

    -- A put that is filled in has the digest of its bytes.
    filled_known : {run filled : PutRun} → IsFilledIn call run filled → KnowsWork items call (work.Put run)
        → KnowsWork items call (work.Put filled)
    filled_known fills known = grind arith

    -- One after which the call goes on,
    works_go : (does next : Work) → GoesOnBy before after call does (More next) → KnowsWork items call does
        → Still × KnowsWork items call next
    works_go (work.Put run) (work.Put next) goes known = (search arith, put_goes run next goes known)
      where
        put_goes : (run next : PutRun) → GoesOnPutting before after call run next → KnowsWork items call (work.Put run)
            → KnowsWork items call (work.Put next)
        put_goes run next goes known = grind (arith, filled_known)
    works_go (work.Read run) (work.Read next) goes known = (search arith, search arith)
    works_go (work.Sync run) (work.Sync next) goes known = (steps_still run (More next) goes, tt)
    works_go (work.Attach run) (work.Attach next) goes known = (attach_still run (More next) goes.0, tt)
    works_go (work.Copy round) (work.Copy next) goes known = (copy_still round (More next) goes.0, tt)
    works_go does next goes known = absurd goes

  -- ---- answers

  -- An answer that hands out no bytes, and no digest.
  abbrev TellsNothing : Answer → Type 0
  TellsNothing (answer.Read bytes) = ⊥
  TellsNothing (answer.Digest len digest) = ⊥
  TellsNothing other = ⊤

  nothing_told : (items : List Item) (index : ℕ) (entry : Entry) (given : Answer) → TellsNothing given
      → IsReadAsKnown script entries items index entry given
  nothing_told items index entry (answer.Read bytes) nothing = absurd nothing
  nothing_told items index entry (answer.Digest len digest) nothing = absurd nothing
  nothing_told items index entry other nothing = tt

  -- The answer of a call that is answered at once,
  at_once_tells : (old new : Core) (devices actor : ℕ) (call : ScriptCall) (asked : Kind) (id : Option ℕ)
      (given : Answer) → AnswersAtOnce old new devices actor call asked id given → TellsNothing given
  at_once_tells old new devices actor call asked id (answer.Read bytes) answers = grind arith
  at_once_tells old new devices actor call asked id (answer.Digest len digest) answers = grind arith
  at_once_tells old new devices actor call asked id other answers = tt

  module _ (before after : CoreState) (call : ScriptCall) where
    -- of a call that reads no block,
    sync_tells : (run : CommitRun) (given : Answer) → StepsCommit before run after (Done given) → TellsNothing given
    sync_tells run (answer.Read bytes) steps = absurd steps
    sync_tells run (answer.Digest len digest) steps = absurd steps
    sync_tells run other steps = tt

    attach_tells : (run : AttachRun) (given : Answer) → StepsAttach before run after (Done given) → TellsNothing given
    attach_tells run (answer.Read bytes) steps = grind arith
    attach_tells run (answer.Digest len digest) steps = grind arith
    attach_tells run other steps = tt

    copy_tells : (round : CopyRound) (given : Answer)
        → StepsCopy before round after (Done given) ⊎ LacksRoom round before after given → TellsNothing given
    copy_tells round (answer.Read bytes) steps = grind arith
    copy_tells round (answer.Digest len digest) steps = grind arith
    copy_tells round other steps = tt

    put_tells : (run : PutRun) (given : Answer) → EndsPutting before after call run given → TellsNothing given
    put_tells run (answer.Read bytes) ends = grind arith
    put_tells run (answer.Digest len digest) ends = grind arith
    put_tells run other ends = tt

  -- The entry of a call tells what it is told.
  module _ (before after : CoreState) (items : List Item) (call : ScriptCall) (actor number : ℕ)
      (is : slice_get (calls_of script actor) (number - 1) ≡ Some call) (at : ℕ) where
    handed : handed_by script actor number ≡ fill_bytes call.fill
    handed = search arith

    abbrev its : Answer → Entry
    its given = entry_for call actor number at given

    -- the journal with it
    abbrev items_then : Answer → List Item
    items_then given = items ++ CallItem (its given) ∷ []

    abbrev IsKnownThen : Answer → ℕ → ℕ → List ℕ → Type 0
    IsKnownThen given = IsKnownAs script entries (items_then given) (length (items_then given))

    -- A put that is stored is told with the bytes whose digest is in the table.
    put_stored : (run : PutRun) → KnowsWork items call (work.Put run) → StoresBlock before.core after.core run
        → Adds (entries_in before.core) (entries_in after.core) (IsKnownThen answer.Stored)
    put_stored run known stores = adds_one stores.change (inr (record {
      place = length items;
      put = its answer.Stored;
      there = last_there items (CallItem (its answer.Stored));
      earlier = omega (arith, length-append items (CallItem (its answer.Stored) ∷ []));
      is = record {
        kind_is = known.0;
        id_is = known.1;
        stored = refl;
        len_is = ap (λ (l : List ℕ). length l) handed ∙ known.2;
        digest_is = ap (λ (l : List ℕ). sha256 l) handed ∙ sym (known.3 stores.filled stores.filled_is);
      };
    }))

    put_adds : (run : PutRun) (given : Answer) → KnowsWork items call (work.Put run)
        → EndsPutting before after call run given
        → Adds (entries_in before.core) (entries_in after.core) (IsKnownThen given)
    put_adds run given known ends = elim ends.ends [
      | inl writes ↦ adds_none writes.0.gives_up.entries
      | inr (inl last) ↦ last_adds given last.3
      | inr (inr gives) ↦ adds_none (gives_still given gives.2)
    ]
      where
        filled : KnowsWork items call (work.Put ends.filled)
        filled = filled_known before after items call ends.fills known

        last_adds : (given : Answer) → EndsPut before.core ends.filled after.core (Done given)
            → Adds (entries_in before.core) (entries_in after.core) (IsKnownThen given)
        last_adds answer.Stored stores = put_stored ends.filled filled stores
        last_adds (answer.TooManyFailed out) stopped = adds_none stopped.gives_up.entries
        last_adds other ends = absurd ends

        gives_still : (given : Answer) → GivesUpTurn before.core run after.core (Done given)
            → entries_in after.core ≡ entries_in before.core
        gives_still answer.NoMemory gives = gives.1.entries
        gives_still (answer.TooManyFailed out) stopped = stopped.gives_up.entries
        gives_still other gives = absurd gives

    never_bytes : (bytes : List ℕ) → NotYet ≡ Bytes bytes → ⊥
    never_bytes bytes same = cc

    -- What was solved has the length and the digest of its block.
    bytes_fit : (run solved : GetRun) (bytes : List ℕ) → run.solved ≡ NotYet → (solved ≡ run) ⊎ SolvesGet run solved
        → solved.solved ≡ Bytes bytes
        → (solved.entry ≡ run.entry) × (length bytes ≡ run.entry.len) × (sha256 bytes ≡ run.entry.digest)
    bytes_fit run solved bytes new (inl same) is =
        absurd (never_bytes bytes (sym new ∙ sym (ap (λ (r : GetRun). r.solved) same) ∙ is))
    bytes_fit run solved bytes new (inr did) is =
        let told = subst (IsSolved (to_solve_of run)) is did.solved in
        (ap (λ (r : GetRun). r.entry) did.rest, told.0, told.1.given.told.digest)

    -- A read is told with these.
    bytes_told : (asked : Kind) (run solved : GetRun) (bytes : List ℕ) → KnowsWork items call (work.Read run)
        → (solved.entry ≡ run.entry) × (length bytes ≡ run.entry.len) × (sha256 bytes ≡ run.entry.digest)
        → IsReadAsKnown script entries items (length items) (its (answer_of asked solved.entry bytes))
        (answer_of asked solved.entry bytes)
    bytes_told kind.Sum run solved bytes (new, (id, id_is, known)) (same, long, digest) = (id, id_is, rw same known)
    bytes_told other run solved bytes (new, (id, id_is, known)) (same, long, digest) =
        (id, id_is, rw (long, digest) known)

    end_told : (run solved : GetRun) (given : Answer) → KnowsWork items call (work.Read run)
        → (solved ≡ run) ⊎ SolvesGet run solved → (state : Solved) → solved.solved ≡ state
        → AnswersSolved solved state given → IsReadAsKnown script entries items (length items) (its given) given
    end_told run solved given known solves NotYet is answers =
        subst (λ a. IsReadAsKnown script entries items (length items) (its a) a) (sym answers) tt
    end_told run solved given known solves (Bytes bytes) is answers =
        subst (λ a. IsReadAsKnown script entries items (length items) (its a) a) (sym answers)
        (bytes_told solved.kind run solved bytes known (bytes_fit run solved bytes known.0 solves is))
    end_told run solved given known solves Damaged is answers =
        subst (λ a. IsReadAsKnown script entries items (length items) (its a) a) (sym answers) tt

    solved_told : (run : GetRun) (solved : GetRun) (given : Answer) → KnowsWork items call (work.Read run)
        → (solved ≡ run) ⊎ SolvesGet run solved → EndsGet before.core solved after.core (Done given)
        → IsReadAsKnown script entries items (length items) (its given) given
    solved_told run solved given known solves ends = ⊎_elim
        (λ many. subst (λ a. IsReadAsKnown script entries items (length items) (its a) a) (sym (ends.too_many many)) tt)
        (λ few. end_told run solved given known solves solved.solved refl
        (ends.solved (λ many. omega (arith, few, many))))
        (cases_lt before.core.pool.uber.parity (count_of before.core.pool.out))

    read_told : (run : GetRun) (given : Answer) → KnowsWork items call (work.Read run)
        → EndsReading before after run given → IsReadAsKnown script entries items (length items) (its given) given
    read_told run given known ends = elim ends.ends [
      | inl reads ↦ subst (λ a. IsReadAsKnown script entries items (length items) (its a) a) (sym reads.0.given_is) tt
      | inr last ↦ solved_told run last.0 given known last.1 last.3
    ]

    read_still : (run : GetRun) (given : Answer) → EndsReading before after run given
        → entries_in after.core ≡ entries_in before.core
    read_still run given ends = elim ends.ends [
      | inl reads ↦ ap entries_in reads.0.rest
      | inr last ↦ ap entries_in last.3.rest
    ]

    -- So it is however a call ends.
    ends_adds : (does : Work) (given : Answer) → KnowsWork items call does
        → GoesOnBy before after call does (Done given)
        → Adds (entries_in before.core) (entries_in after.core) (IsKnownThen given)
    ends_adds (work.Put run) given known goes = put_adds run given known goes
    ends_adds (work.Read run) given known goes = adds_none (read_still run given goes)
    ends_adds (work.Sync run) given known goes = adds_none (steps_still before after items call run (Done given) goes)
    ends_adds (work.Attach run) given known goes =
        adds_none (attach_still before after items call run (Done given) goes)
    ends_adds (work.Copy round) given known goes = ⊎_elim
        (λ steps. adds_none (copy_still before after items call round (Done given) steps))
        (λ lacks. adds_none (lacking_still round given lacks)) goes
      where
        lacking_still : (round : CopyRound) (given : Answer) → LacksRoom round before after given
            → entries_in after.core ≡ entries_in before.core
        lacking_still round given lacks = grind arith

    ends_told : (does : Work) (given : Answer) → KnowsWork items call does
        → GoesOnBy before after call does (Done given)
        → IsReadAsKnown script entries items (length items) (its given) given
    ends_told (work.Put run) given known goes =
        nothing_told items (length items) (its given) given (put_tells before after call run given goes)
    ends_told (work.Read run) given known goes = read_told run given known goes
    ends_told (work.Sync run) given known goes =
        nothing_told items (length items) (its given) given (sync_tells before after call run given goes)
    ends_told (work.Attach run) given known goes =
        nothing_told items (length items) (its given) given (attach_tells before after call run given goes)
    ends_told (work.Copy round) given known goes =
        nothing_told items (length items) (its given) given (copy_tells before after call round given goes)

  -- ---- a turn of a client

  -- What is known is known once a group is listed.
  groups_alone : (items : List Item) (group : GroupItem) (index : ℕ) (entry : Entry)
      → CallAt (items ++ Group group ∷ []) index entry → CallAt items index entry
  groups_alone items group index entry there = ⊎_elim (λ last. absurd (apart last.1)) (λ earlier. earlier.1)
      (new_or_before items (Group group) index (CallItem entry) there)
    where
      apart : Group group ≡ CallItem entry → ⊥
      apart same = cc

  group_knows : {core : Core} {items : List Item} {clients : List Client} (group : GroupItem)
      → KnowsDigests core items clients → KnowsDigests core (items ++ Group group ∷ []) clients
  group_knows {core} {items} {clients} group knows = record {
    table = λ id entry there. known_later items (Group group ∷ [])
        (omega (arith, length-append items (Group group ∷ []))) (knows.table id entry there);
    works = λ actor client under call there going is.
        work_later items (Group group ∷ []) call under.work (knows.works actor client under call there going is);
    reads = record {
      each = λ index entry there. read_later items (Group group ∷ []) index entry entry.answer
          (knows.reads.each index entry (groups_alone items group index entry there));
    };
  }

  on_knows : {core : Core} {items : List Item} {clients : List Client} (widths : Reflow) (at : ℕ) (made : Option ℕ)
      → KnowsDigests core items clients → KnowsDigests core (listed_on widths items at made) clients
  on_knows widths at None knows = knows
  on_knows widths at (Some number) knows = group_knows (group_with widths at number) knows

  -- What is known of the client's call after a turn that lists no answer.
  its_known : (actor : ℕ) (items more : List Item) (number at : ℕ) (does : Work) {now : Client}
      {call : ScriptCall} → now ≡ record { begun = number; under_way = Some (record { at = at; work = does }) }
      → slice_get (calls_of script actor) (number - 1) ≡ Some call → KnowsWork items call does
      → (under : UnderWay) (other : ScriptCall) → now.under_way ≡ Some under
      → slice_get (calls_of script actor) (now.begun - 1) ≡ Some other → KnowsWork (items ++ more) other under.work
  its_known actor items more number at does {now} {call} client_is is known under other going there =
      let under_is : record { at = at; work = does } ≡ under =
      some_is (sym (ap (λ (c : Client). c.under_way) client_is) ∙ going) in
      let call_is : call ≡ other =
      some_is (sym is ∙ ap (λ (c : Client). slice_get (calls_of script actor) (c.begun - 1)) (sym client_is) ∙ there) in
      work_later items more other under.work (subst (λ (c : ScriptCall). KnowsWork items c under.work) call_is
      (subst (λ (u : UnderWay). KnowsWork items call u.work) under_is known))

  none_known : (actor : ℕ) (items : List Item) (now : Client) → now.under_way ≡ None → (under : UnderWay)
      (other : ScriptCall) → now.under_way ≡ Some under
      → slice_get (calls_of script actor) (now.begun - 1) ≡ Some other → KnowsWork items other under.work
  none_known actor items now idle under other going there = absurd (none_some (sym idle ∙ going))

  -- A turn that lists nothing,
  none_listed : (items : List Item) (index : ℕ) (entry : Entry) → CallAt (items ++ []) index entry
      → CallAt items index entry ⊎ IsReadAsKnown script entries (items ++ []) index entry entry.answer
  none_listed items index entry there =
      inl (subst (λ (l : List Item). CallAt l index entry) (append-nil items) there)

  -- and one that lists this entry.
  entry_listed : (items : List Item) (last : Entry) → IsReadAsKnown script entries items (length items) last last.answer
      → (index : ℕ) (entry : Entry) → CallAt (items ++ CallItem last ∷ []) index entry → CallAt items index entry
      ⊎ IsReadAsKnown script entries (items ++ CallItem last ∷ []) index entry entry.answer
  entry_listed items last known index entry there = ⊎_elim
      (λ new. inr (subst (λ (k : ℕ). IsReadAsKnown script entries (items ++ CallItem last ∷ []) k entry entry.answer)
      (sym new.0) (subst (λ (e : Entry). IsReadAsKnown script entries (items ++ CallItem last ∷ []) (length items) e
      e.answer) (same_entry new.1)
      (read_later items (CallItem last ∷ []) (length items) last last.answer known))))
      (λ earlier. inl earlier.1) (new_or_before items (CallItem last) index (CallItem entry) there)
    where
      same_entry : CallItem last ≡ CallItem entry → last ≡ entry
      same_entry same = cc

  module _ (actor : ℕ) (before after : Turns) (client now : Client) (was : slice_get before.clients actor ≡ Some client)
      (changes : Changes before.clients after.clients actor now)
      (knows : KnowsDigests before.state.core before.items before.clients) where
    open before.state use {core as old}
    open after.state use {core as new}

    abbrev then_of : TurnState
    then_of = record { state = before.state; items = before.items; client = client }

    abbrev now_of : TurnState
    now_of = record { state = after.state; items = after.items; client = now }

    -- the journal once a turn has listed the group that it made
    module _ (at : ℕ) (made : Option ℕ) where
      abbrev items_on : List Item
      items_on = listed_on new.pool.uber.reflow before.items at made

      knows_on : KnowsDigests old items_on before.clients
      knows_on = on_knows new.pool.uber.reflow at made knows

      -- A turn after which the client's call is under way, or none is.
      goes_on : after.items ≡ items_on → entries_in new ≡ entries_in old
          → ((under : UnderWay) (call : ScriptCall) → now.under_way ≡ Some under
          → slice_get (calls_of script actor) (now.begun - 1) ≡ Some call → KnowsWork (items_on ++ []) call under.work)
          → KnowsDigests new after.items after.clients
      goes_on items same known = subst (λ (l : List Item). KnowsDigests new l after.clients)
          (append-nil items_on ∙ sym items)
          (knows_then old new items_on [] actor now changes knows_on (adds_none same) known (none_listed items_on))

      -- One that lists an answer.
      answers : (last : Entry) → after.items ≡ items_on ++ CallItem last ∷ [] → now.under_way ≡ None
          → Adds (entries_in old) (entries_in new) (IsKnownAs script entries (items_on ++ CallItem last ∷ [])
          (length (items_on ++ CallItem last ∷ [])))
          → IsReadAsKnown script entries items_on (length items_on) last last.answer
          → KnowsDigests new after.items after.clients
      answers last items idle adds known = subst (λ (l : List Item). KnowsDigests new l after.clients) (sym items)
          (knows_then old new items_on (CallItem last ∷ []) actor now changes knows_on adds
          (none_known actor (items_on ++ CallItem last ∷ []) now idle) (entry_listed items_on last known))

    began_more : (does : Work) (begins : BeginsNext (calls_of script actor) actor then_of now_of (More does))
        → LeavesBegun actor begins.call then_of now_of (More does) → KnowsDigests new after.items after.clients
    began_more does begins leaves =
        let did = works_begin old new before.state.disk.devices actor before.items begins.call begins.call.kind
        begins.call.id does refl refl knows.table begins.did in
        goes_on 0 None leaves.0 did.0
        (its_known actor before.items [] (client.begun + 1) (length before.items) does leaves.1 (next_is begins.next)
        did.1)
      where
        next_is : {call : ScriptCall} → slice_get (calls_of script actor) client.begun ≡ Some call
            → slice_get (calls_of script actor) (client.begun + 1 - 1) ≡ Some call
        next_is {call} is = subst (λ (k : ℕ). slice_get (calls_of script actor) k ≡ Some call) (omega arith) is

    began_busy : (by : ℕ) (begins : BeginsNext (calls_of script actor) actor then_of now_of (Busy by))
        → LeavesBegun actor begins.call then_of now_of (Busy by) → KnowsDigests new after.items after.clients
    began_busy by begins leaves = goes_on 0 None leaves.0
        (waits_same old new before.state.disk.devices actor before.items begins.call begins.call.kind begins.call.id by
        begins.did)
        (none_known actor (before.items ++ []) now (ap (λ (c : Client). c.under_way) leaves.1 ∙ begins.idle))

    began_done : (given : Answer) (begins : BeginsNext (calls_of script actor) actor then_of now_of (Done given))
        → LeavesBegun actor begins.call then_of now_of (Done given) → KnowsDigests new after.items after.clients
    began_done given begins leaves =
        let last = entry_for begins.call actor (client.begun + 1) (length before.items) given in
        answers 0 None last leaves.0 (ap (λ (c : Client). c.under_way) leaves.1)
        (answers_adds old new before.state.disk.devices actor before.items begins.call begins.call.kind begins.call.id
        given begins.did)
        (nothing_told before.items (length before.items) last given
        (at_once_tells old new before.state.disk.devices actor begins.call begins.call.kind begins.call.id given
        begins.did))

    module _ (under : UnderWay) {turn : Turn Work} (goes : CallGoesOn (calls_of script actor) then_of now_of under turn)
        (at : ℕ) (made : Option ℕ) where
      its_work : KnowsWork (items_on at made) goes.call under.work
      its_work = (knows_on at made).works actor client under goes.call was goes.going goes.is

    went_more : (under : UnderWay) (does : Work)
        (goes : CallGoesOn (calls_of script actor) then_of now_of under (More does))
        → LeavesGoing actor goes.call then_of now_of under (More does) → KnowsDigests new after.items after.clients
    went_more under does goes leaves =
        let at = (gone_on under (length before.items) does).at in
        let made = made_in does in
        let did = works_go before.state after.state (items_on at made) goes.call under.work does goes.did
        (its_work under goes at made) in
        goes_on at made leaves.0 did.0
        (its_known actor (items_on at made) [] client.begun at does leaves.1 goes.is did.1)

    went_done : (under : UnderWay) (given : Answer)
        (goes : CallGoesOn (calls_of script actor) then_of now_of under (Done given))
        → LeavesGoing actor goes.call then_of now_of under (Done given) → KnowsDigests new after.items after.clients
    went_done under given goes leaves =
        let made = group_by given (made_by under.work) in
        let last = entry_for goes.call actor client.begun under.at given in
        answers under.at made last (leaves.0 ∙ behind new.pool.uber.reflow before.items under.at last made)
        (ap (λ (c : Client). c.under_way) leaves.1)
        (ends_adds before.state after.state (items_on under.at made) goes.call actor client.begun goes.is under.at
        under.work given (its_work under goes under.at made) goes.did)
        (ends_told before.state after.state (items_on under.at made) goes.call actor client.begun goes.is under.at
        under.work given (its_work under goes under.at made) goes.did)
      where
        behind : (widths : Reflow) (items : List Item) (at : ℕ) (entry : Entry) (made : Option ℕ)
            → listed_of widths items at entry made ≡ listed_on widths items at made ++ CallItem entry ∷ []
        behind widths items at entry made = grind arith

    turn_knows : Turned (calls_of script actor) actor then_of now_of → KnowsDigests new after.items after.clients
    turn_knows (Began (More does) begins leaves) = began_more does begins leaves
    turn_knows (Began (Busy by) begins leaves) = began_busy by begins leaves
    turn_knows (Began (Done given) begins leaves) = began_done given begins leaves
    turn_knows (Went under (More does) goes leaves) = went_more under does goes leaves
    turn_knows (Went under (Busy by) goes leaves) = absurd leaves
    turn_knows (Went under (Done given) goes leaves) = went_done under given goes leaves

-- ---- all turns

-- What is known stands after turns that were taken.
taken_known : (script : Script) (entries : List IndexEntry) (start : Turns) (passed : List TurnTaken)
    → HaveTaken script start passed → KnowsDigests script entries start.state.core start.items start.clients
    → KnowsDigests script entries (last_left start passed).state.core (last_left start passed).items
    (last_left start passed).clients
taken_known script entries start [] taken knows = knows
taken_known script entries start (turn ∷ later) taken knows = taken_known script entries turn.left later taken.1
    (turn_knows script entries turn.actor start turn.left taken.0.client taken.0.now taken.0.there taken.0.changes knows
    taken.0.turned)

pub reads_known : (script : Script) (entries : List IndexEntry) (start : Turns) (passed : List TurnTaken)
    → HaveTaken script start passed → KnowsDigests script entries start.state.core start.items start.clients
    → ReadsAreKnown script entries (last_left start passed).items
reads_known script entries start passed taken knows = (taken_known script entries start passed taken knows).reads

-- As a run begins, all entries are the opening's.
pub first_known : (script : Script) (pool : Pool) (disk : Disk) (opened : GroupItem)
    → let first : Turns = first_turns script (at_disk (resting pool) disk) opened in
    KnowsDigests script pool.blocks.table.entries first.state.core first.items first.clients
first_known script pool disk opened = record {
  table = λ id entry there. inl (record { entry = entry; there = there; len_is = refl; digest_is = refl });
  works = λ actor client under call there going is.
      absurd (none_of_blank script.clients (record { there = there; under_way = going }));
  reads = record { each = λ index entry there. absurd (no_call opened index there) };
}
