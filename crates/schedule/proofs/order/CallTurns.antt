-- The turns of calls.
use Rattle.schedule.proofs.Words.{◌≡◌, ◌⊎◌, ⊎_elim, ℕ, zero, suc, ◌+◌, length, List, [], ◌∷◌, ◌++◌, Option, Some, None}
use Rattle.schedule.proofs.Words.{refl, ap, subst, sym, ◌∙◌, UnderWay, entry_for}
use Rattle.schedule.specs.declared.computing.Computed.{Computed}
use Rattle.schedule.specs.declared.computing.Computed.TheVariants as computed
use Rattle.schedule.specs.declared.computing.ToCompute.{ToCompute}
use Rattle.schedule.specs.declared.computing.ToCompute.TheVariants as to_compute
use Rattle.core_turns.specs.declared.solving.ToSolve.{ToSolve}
use Rattle.schedule.specs.Computing.{FitsWork, IsAskedOf, IsComputed, for_call}
use Rattle.schedule.proofs.Words.{arith, IsTrue, is_some, false≢true, Disk, Unchanged, rows_of, Uber, OnlyFailedGoOut}
use Rattle.schedule.proofs.Words.{point_of, read_touches, ScriptCall, fill_bytes, pattern_from}
use Rattle.schedule.proofs.Words.{GetRun, ToFill, Blocks, IsUnderWay}
use Rattle.schedule.proofs.Words.{PutRun, Turn, Done, Core, CoreState, at_disk, IsReadKind, IsGetOf, BeginsGet}
use Rattle.schedule.proofs.Words.{ReadsTurn, SolvesGet, EndsGet, IsFillable, IsPutOf, FillsPut, EndsPut, GivesUpTurn}
use Rattle.schedule.proofs.Words.{left_to_fill, to_fill_of, TurnGoesOn, reads_reaching, fills_of, Work, MakesRoom}
use Rattle.schedule.proofs.Words.{taken_for, BeginsCall, GoesOnBy, IsFilledIn, MayGoOn, PutGoesOn, WritesOn, ReadGoesOn}
use Rattle.schedule.proofs.Words.{WorkGoesOn, MapsTurn, made_in, inl, inr, nat_tests}
use Rattle.std.specs.Prelude.{◌≤◌, IfSome}
use Rattle.std.specs.Global.{Box}
use Rattle.std.proofs.lemmas.Bool.{cases_lt}
use Rattle.std.proofs.lemmas.Option.{slice_get_within}
use Rattle.core_turns.specs.declared.solving.SolvedFrom.{SolvedFrom}
use Rattle.core_turns.specs.Getting.{IsAlike, to_solve_of}
use Rattle.core_turns.specs.Steps.{turn_with}
use Rattle.core_state.specs.declared.item.Entry.{Entry}
use Rattle.core_state.specs.declared.item.Item.{Item}
use Rattle.core_state.specs.declared.item.Item.TheVariants.{Group, Call as CallItem}
use Rattle.core_state.specs.Legal.{CallAt}
use Rattle.reflow_mark.specs.declared.reflow.Reflow.{Reflow}
use Rattle.journal_law.proofs.Grown.{new_or_before}
use Rattle.schedule.specs.Turned.{AnswersNoneWith, group_by, group_with, listed_of, listed_with}
use Rattle.core_state.specs.declared.answer.Answer.{Answer}
use Rattle.core_state.specs.declared.answer.Answer.TheVariants as answer
use Rattle.schedule.specs.declared.client.Work.TheVariants as work
use Rattle.schedule.proofs.turn.LeavesPool.{pool_goes}
use Rattle.schedule.proofs.turn.Running.{group_apart}
use Rattle.schedule.proofs.turn.Theirs.{none_some, some_is}
use Rattle.schedule.proofs.run.Rooms.{taken_one}

-- ---- first turns

-- A pattern has as many bytes as it says.
pub pattern_length : (seed from len : ℕ) → length (pattern_from seed from len) ≡ len
pattern_length seed from zero = refl
pattern_length seed from (suc len) = omega (arith, pattern_length seed (from + 1) len)

-- The first turn of a read is that of its call.
pub read_begins : (old new : Core) (devices actor : ℕ) {id : ℕ} (call : ScriptCall)
    (turn : Turn GetRun) (result : Turn Work)
    → IsReadKind call.kind → call.id ≡ Some id → MapsTurn (λ run does. does ≡ work.Read run) turn result
    → BeginsGet old new actor call.kind id turn
    → BeginsCall old new devices actor call result
read_begins old new devices actor call turn result is id_is maps begins = grind arith

-- ---- turns without a device call

-- The last turn of a put goes on,
pub put_end_goes : {old new : Core} {disk : Disk} (run : PutRun) (turn : Turn PutRun) → EndsPut old run new turn
    → TurnGoesOn (at_disk old disk) (at_disk new disk)
put_end_goes run (Done answer.Stored) ends = pool_goes ends.rest
put_end_goes run (Done (answer.TooManyFailed out)) ends = pool_goes ends.gives_up.rest
put_end_goes run turn ends = absurd ends

-- and so does one that gives up,
pub put_gives_goes : {old new : Core} {disk : Disk} (run : PutRun) (turn : Turn PutRun) → GivesUpTurn old run new turn
    → TurnGoesOn (at_disk old disk) (at_disk new disk)
put_gives_goes run (Done answer.NoMemory) gives = pool_goes gives.1.rest
put_gives_goes run (Done (answer.TooManyFailed out)) gives = pool_goes gives.gives_up.rest
put_gives_goes run turn gives = absurd gives

-- and the last one of a read.
pub read_end_goes : {old new : Core} {disk : Disk} (run : GetRun) (turn : Turn GetRun) → EndsGet old run new turn
    → TurnGoesOn (at_disk old disk) (at_disk new disk)
read_end_goes run (Done given) ends = pool_goes ends.rest
read_end_goes run turn ends = absurd ends

-- ---- puts

-- What is filled in is the core's put still.
pub filled_of : {core : Core} (call : ScriptCall) {run filled : PutRun} → IsFilledIn call run filled
    → length (fill_bytes call.fill) ≡ run.len → IsPutOf core run → IsPutOf core filled
filled_of call {run = run} {filled = filled} fills len of = ⊎_elim
    (search arith)
    (λ (now : (run.filled ≡ None) × FillsPut run filled (fill_bytes call.fill)).
    search fills_of) fills

-- and has its sectors.
pub filled_under : {blocks : Blocks} (call : ScriptCall) {run filled : PutRun} → IsFilledIn call run filled
    → IsUnderWay blocks run.range → IsUnderWay blocks filled.range
filled_under call fills under = search arith

-- A put for which there was no memory is given up.
pub put_gives : (old new : Core) (disk : Disk) (call : ScriptCall) {run given_up : PutRun} (turn : Turn PutRun)
    → run.filled ≡ None → given_up ≡ run → GivesUpTurn old given_up new turn
    → PutGoesOn (at_disk old disk) (at_disk new disk) call run turn
put_gives old new disk call turn none same gives = grind arith

-- ---- reads

-- A turn that reads a column touches nothing.
pub read_goes_on : (before after : CoreState) (run : GetRun) (turn : Turn GetRun) → ReadsTurn before run after turn
    → Unchanged before.disk after.disk
    → OnlyFailedGoOut (point_of before.core.pool.out before.disk) (point_of after.core.pool.out after.disk)
    → TurnGoesOn before after
read_goes_on before after run turn reads unchanged out =
    let uber = reads_reaching before after run turn reads in record {
      parity = ap (λ (u : Uber). u.parity) uber;
      reach = ap (λ (u : Uber). u.reflow.to) uber;
      rows = ap (λ (u : Uber). u.reflow.rows) uber;
      later = unchanged.goes_on.later;
      out = out;
      only = search read_touches;
    }

-- A read is the core's still once its block is solved.
pub read_of : {core : Core} {run solved : GetRun} → (solved ≡ run) ⊎ SolvesGet run solved → IsGetOf core run
    → IsGetOf core solved
read_of solves of = search arith

-- A read of which all columns were read ends, its block solved where memory was there.
pub read_ends : (old new : Core) (disk : Disk) {run solved : GetRun} (turn : Turn GetRun)
    → (solved ≡ run) ⊎ SolvesGet run solved → run.read.row ≡ rows_of run.read.layout → EndsGet old solved new turn
    → ReadGoesOn (at_disk old disk) (at_disk new disk) run turn
read_ends old new disk turn solves done ends = grind arith

-- ---- blocks that are made up in no turn

-- A put's block can be made up of the bytes that it is asked to have.
pub put_fillable : {core : Core} {run : PutRun} {content : List ℕ} → IsPutOf core run → length content ≡ run.len
    → IsFillable (to_fill_of run) content
put_fillable of len = search

pub put_computable : {core : Core} (call : ScriptCall) {run : PutRun} {block : ToFill} → MayGoOn core call (work.Put run)
    → left_to_fill run run.filled ≡ Some block → IsFillable block (fill_bytes call.fill)
put_computable call may left = grind (arith, put_fillable)

-- ---- copies

-- A copy for whose next group there is no memory ends there, and nothing is done.
pub lacks_room : (state : CoreState) (call : ScriptCall) (does : Work) {made : Option ℕ} → made ≡ made_in does
    → IsTrue (is_some made) → GoesOnBy state state call does (Done answer.NoMemory)
lacks_room state call other is some = grind (arith, false≢true)

-- So it goes on as every turn does,
pub lacking_goes : (core : Core) (disk : Disk) (does : Work) {made : Option ℕ} → made ≡ made_in does
    → IsTrue (is_some made) → WorkGoesOn does (at_disk core disk) (at_disk core disk)
lacking_goes core disk (work.Copy round) is some = pool_goes refl
lacking_goes core disk other is some = cc

-- and room is left for its answer.
pub lacking_room : (does : Work) {made : Option ℕ} {before after : ℕ} → made ≡ made_in does
    → IsTrue (is_some made) → before ≤ after → MakesRoom does before after (Done answer.NoMemory)
lacking_room does is some kept = grind (arith, false≢true)

-- Where memory was there room is left for the next group and for what the turn lists.
pub makes_room : (does : Work) {made : Option ℕ} (before : ℕ) {after : ℕ} (turn : Turn Work) → made ≡ made_in does
    → before + taken_for made ≤ after → MakesRoom does before after turn
makes_room does before turn is more = grind (arith, taken_one)

-- A put that is filled in goes on by its next write, or by its last turn.
pub put_writes : (before after : CoreState) (call : ScriptCall) {run filled : PutRun} (turn : Turn PutRun)
    → IsFilledIn call run filled → WritesOn before filled after turn → PutGoesOn before after call run turn
put_writes before after call turn fills on = grind arith

-- ---- what was computed is taken

same_call : {one other : Entry} → CallItem one ≡ CallItem other → one ≡ other
same_call same = cc

-- What stands where there is something, stands there still for all that follows from it.
some_then : {X : Type 0} {P Q : X → Type 0} (given : Option X) → ((x : X) → P x → Q x) → IfSome given P
    → IfSome given Q
some_then None then is = is
some_then (Some x) then is = then x is

-- A put that is filled in is not told of want of memory,
written_with_memory : (before after : CoreState) (run : PutRun) → WritesOn before run after (Done answer.NoMemory) → ⊥
written_with_memory before after run on = grind arith

pub put_with_memory : (before after : CoreState) (run : PutRun) (given : Option Answer)
    → WritesOn before run after (turn_with run given) → given ≡ Some answer.NoMemory → ⊥
put_with_memory before after run None on is = absurd (none_some is)
put_with_memory before after run (Some given) on is =
    written_with_memory before after run (subst (λ a. WritesOn before run after (Done a)) (some_is is) on)

-- nor is a read that is solved.
solved_with_memory : (old new : Core) {run solved : GetRun} {given : Answer} → SolvesGet run solved
    → EndsGet old solved new (Done given) → given ≡ answer.NoMemory → ⊥
solved_with_memory old new {run} {solved} {given} solves ends is = grind (arith, cases_lt)

pub read_with_memory : (old new : Core) (run : GetRun) {solved : GetRun} {given : Answer}
    (computed : Option (Box SolvedFrom))
    → IfSome computed (λ from. IsAlike from.value.block (to_solve_of run) → SolvesGet run solved)
    → EndsGet old solved new (Done given)
    → IfSome computed (λ from. IsAlike from.value.block (to_solve_of run) → Some given ≡ Some answer.NoMemory → ⊥)
read_with_memory old new run computed solves ends =
    some_then computed (λ from solve alike is. solved_with_memory old new (solve alike) ends (some_is is)) solves

-- An answer lists no other call.
listed_alone : (widths : Reflow) (items : List Item) (at : ℕ) (entry : Entry) (made : Option ℕ) (index : ℕ)
    (other : Entry) → length items ≤ index → CallAt (listed_of widths items at entry made) index other → other ≡ entry
listed_alone widths items at entry None index other past there = ⊎_elim
    (λ last. sym (same_call last.1))
    (λ earlier. absurd (omega (arith, past, earlier.0)))
    (new_or_before items (CallItem entry) index (CallItem other) there)
listed_alone widths items at entry (Some number) index other past there = ⊎_elim
    (λ last. sym (same_call last.1))
    (λ earlier. absurd (omega (
      arith,
      past,
      slice_get_within items index (CallItem other)
          (group_apart items (group_with widths at number) index earlier.1),
    )))
    (new_or_before (items ++ Group (group_with widths at number) ∷ []) (CallItem entry) index (CallItem other) there)

pub lists_none : (widths : Reflow) (items : List Item) (at : ℕ) (entry : Entry) (made : Option ℕ) {listed : List Item}
    {given : Answer} → listed ≡ listed_with widths items at entry made entry.answer → (entry.answer ≡ given → ⊥)
    → AnswersNoneWith given items listed
lists_none widths items at entry made {given = given} listed_is other index call past there is =
    other (subst (λ (e : Entry). e.answer ≡ given)
    (listed_alone widths items at entry (group_by entry.answer made) index call past
    (subst (λ (l : List Item). CallAt l index call) listed_is there)) is)

-- Law: What was computed as a call asked for it fits the call, unless nothing was.
pub computed_fits : (number : ℕ) (does : Work) (asked : ToCompute) (given : Computed) → IsAskedOf number does asked
    → IsComputed asked given
    → (given ≡ computed.Nothing) ⊎ FitsWork does (for_call number given)
computed_fits number does asked computed.Nothing asks is = inl refl
computed_fits number (work.Put run) asked (computed.Filled other made) asks is = inr (grind (arith, nat_tests))
computed_fits number (work.Read run) (to_compute.Solve block) (computed.Solved from) asks is =
    inr (subst (λ (b : ToSolve). IsAlike b (to_solve_of run)) (sym is) asks.1)
computed_fits number does asked given asks is = grind arith

-- Where what was computed fits the call under way, it is not answered that there is no memory.
pub taken_lists : (widths : Reflow) (items : List Item) (at : ℕ) (entry : Entry) (made : Option ℕ) {listed : List Item}
    (call : ScriptCall) {actor number : ℕ} (began : ℕ) {its under : UnderWay} {way : Option UnderWay}
    {used fitting : Computed} {result : Option Answer} {given : Answer}
    → listed ≡ listed_with widths items at entry made entry.answer → entry ≡ entry_for call actor number began given
    → result ≡ Some given → way ≡ Some its → way ≡ Some under → used ≡ fitting
    → (FitsWork its.work used → result ≡ Some answer.NoMemory → ⊥) → FitsWork under.work fitting
    → AnswersNoneWith answer.NoMemory items listed
taken_lists widths items at entry made call began {its = its} {under = under} {fitting = fitting} listed_is entry_is
    result_is its_is under_is same taken fits = lists_none widths items at entry made listed_is (λ told.
    taken (rw same (subst (λ (u : UnderWay). FitsWork u.work fitting) (some_is (sym under_is ∙ its_is)) fits))
    (result_is ∙ ap (λ (a : Answer). Some a) (sym (ap (λ (e : Entry). e.answer) entry_is) ∙ told)))
