-- Which calls are under way over each turn of a block under a scrub.
use Rattle.core_turns.proofs.Words.{◌≡◌, ◌≢◌, ℕ, List, arith, Contains, filter_map-append, Gains, BlockScrub, Core}
use Rattle.core_turns.proofs.Words.{CoreState, More, BeginsBlock, IsCore, IsScrubOf, LeavesBlock, HoldingCall}
use Rattle.core_turns.proofs.Words.{Scrubbing, AreCallsOf, actor_of, ranges_of, IsWithin, sym, ◌∙◌, ap, Hold}
use Rattle.core_turns.proofs.state.Calls.{calls_gain, calls_lose, calls_swap}
use Rattle.core_turns.proofs.state.Frames.{OnlyOut, calls_stay}
use Rattle.core_turns.proofs.read.Calls.{calls_held, read_begins_beside}
use Rattle.core_turns.proofs.read.Turns.{begins_holds}
use Rattle.core_state.specs.declared.answer.Kind.TheVariants as kind

-- A block under a scrub has no range of a put.
pub ranges_scrubbed : {left calls : List HoldingCall} {run : BlockScrub} → Gains left calls (Scrubbing run)
    → ranges_of calls ≡ ranges_of left
ranges_scrubbed gains = search (filter_map-append, arith)

-- A scrub begins at a block: no put has a sector of it, which stands in the table.
pub block_begins_calls : {old new : Core} {run : BlockScrub} {left calls : List HoldingCall} (actor id : ℕ)
    → IsCore old → BeginsBlock old new actor id (More run)
    → ((call : HoldingCall) → Contains left call → actor_of call ≢ actor) → Gains left calls (Scrubbing run)
    → AreCallsOf old left → AreCallsOf new calls
block_begins_calls {old} {new} {run} {left} {calls} actor id is (begins, mend, same, of) apart gains are =
    calls_gain gains (calls_held old new begins.6)
    (λ hold listed. begins_holds old new actor id kind.Sum (More run.read) hold begins listed)
    (rw (begins.6, ranges_scrubbed gains) are.under) of
    (λ other listed. record {
      actors = λ same_actor. apart other listed (sym same_actor ∙ ap (λ (h : Hold). h.actor) begins.4);
      apart = read_begins_beside actor id kind.Sum is begins are other listed;
    }) are

-- It goes on in the sectors that it had.
pub block_goes_calls : (before after : CoreState) {run next : BlockScrub} {left calls nexts : List HoldingCall}
    → OnlyOut before.core after.core → IsWithin before.core.pool.out after.core.pool.out → IsScrubOf after.core next
    → next.read.hold ≡ run.read.hold → Gains left calls (Scrubbing run) → Gains left nexts (Scrubbing next)
    → AreCallsOf before.core calls → AreCallsOf after.core nexts
block_goes_calls before after {run} {next} {left} {calls} core within of hold gains again are =
    let now = calls_stay before.core after.core calls core within are in
    calls_swap gains again hold (λ other apart. rw hold apart) of
    (rw (ranges_scrubbed again, ← ranges_scrubbed gains) now.under) now

-- It is left, and its hold has ended.
pub block_leaves_calls : {old new : Core} {run : BlockScrub} {left calls : List HoldingCall} → LeavesBlock old new run
    → Gains left calls (Scrubbing run) → AreCallsOf old calls → AreCallsOf new left
block_leaves_calls {old} {new} leaves gains are =
    calls_lose gains (calls_held old new leaves.rest) leaves.ends (rw (leaves.rest, ← ranges_scrubbed gains) are.under)
    are
