-- Calls under way that come, go on and end.
use Rattle.core_turns.proofs.Words.{◌≡◌, inl, inr, ⊎_elim, ◌+◌, arith, List, [], ◌∷◌, sym, Contains, filter_map-append}
use Rattle.core_turns.proofs.Words.{Hold, EndsHold, Layout, allocated_of, AreClear, layout_run, IsReader, ShareNoSector}
use Rattle.core_turns.proofs.Words.{Gains, contains_head, contains_tail, contains_cases, contains_none, AreUnderWay}
use Rattle.core_turns.proofs.Words.{gains_old, pairs_gain, pairs_lose, pairs_beside, GetRun, PutRun, Core, HoldingCall}
use Rattle.core_turns.proofs.Words.{Putting, Reading, Scrubbing, Copying, hold_of_call, ranges_of, IsCallOfCore}
use Rattle.core_turns.proofs.Words.{HaveNoneInCommon, AreBeside, AreCallsOf, ◌<◌, IsInPool, Reflow}
use Rattle.core_open.proofs.Layouts.{total_few}
use Rattle.core_turns.proofs.free.TakenBack.{each_gained}
use Rattle.core_turns.proofs.state.Frames.{KeepsCalls, call_of_stays, hold_listed, ends_other}

-- Beside each other are calls in either order.
none_in_common_turn : (one other : HoldingCall) → HaveNoneInCommon one other → HaveNoneInCommon other one
none_in_common_turn one other (inl readers) = inl (readers.1, readers.0)
none_in_common_turn one other (inr clear) = inr (λ sector there here. clear sector here there)

pub beside_turn : (one other : HoldingCall) → AreBeside one other → AreBeside other one
beside_turn one other beside = record {
  actors = λ same. beside.actors (sym same);
  apart = none_in_common_turn one other beside.apart;
}

-- Where one is no reader they hold no sector in common.
pub share_none : (one other : HoldingCall) → (IsReader one → ⊥) → HaveNoneInCommon one other
    → ShareNoSector (hold_of_call one) (hold_of_call other)
share_none one other writes (inl readers) = absurd (writes readers.0)
share_none one other writes (inr clear) = clear

pub shares_none : (one other : HoldingCall) → (IsReader other → ⊥) → HaveNoneInCommon one other
    → ShareNoSector (hold_of_call one) (hold_of_call other)
shares_none one other writes (inl readers) = absurd (writes readers.1)
shares_none one other writes (inr clear) = clear

-- A block in its pool has a sector.
pub some_held : {layout : Layout} {reflow : Reflow} → IsInPool layout reflow → 0 < allocated_of layout
some_held {layout} pool = omega (arith, total_few layout, pool.within.is.content)

-- Blocks whose holds have no sector in common have none either.
pub blocks_clear : (one other : Hold) (layout behind : Layout) → one.lo ≡ layout.start
    → one.hi ≡ layout.start + allocated_of layout → other.lo ≡ behind.start
    → other.hi ≡ behind.start + allocated_of behind → ShareNoSector one other
    → AreClear (layout_run layout) (layout_run behind)
blocks_clear one other layout behind lo hi low high clear sector here there =
    clear sector (rw (lo, hi) here) (rw (low, high) there)

-- The range of a put is one of the ranges,
pub range_listed : (calls : List HoldingCall) (run : PutRun) → Contains calls (Putting run)
    → Contains (ranges_of calls) run.range
range_listed [] run listed = absurd (contains_none (Putting run) listed)
range_listed (call ∷ calls) run listed = ⊎_elim
    (search (contains_head, arith))
    (λ rest. behind call (range_listed calls run rest)) (contains_cases call calls (Putting run) listed)
  where
    behind : (call : HoldingCall) → Contains (ranges_of calls) run.range → Contains (ranges_of (call ∷ calls)) run.range
    behind (Putting other) there = search contains_tail
    behind (Reading other) there = there
    behind (Scrubbing other) there = there
    behind (Copying other) there = there

-- and a read has none.
pub ranges_read : {left calls : List HoldingCall} {run : GetRun} → Gains left calls (Reading run)
    → ranges_of calls ≡ ranges_of left
ranges_read gains = search (filter_map-append, arith)

-- A call comes.
pub calls_gain : {old new : Core} {left calls : List HoldingCall} {call : HoldingCall} → Gains left calls call
    → KeepsCalls old new → ((hold : Hold) → Contains old.holds hold → Contains new.holds hold)
    → AreUnderWay new.pool.blocks (ranges_of calls) → IsCallOfCore new call
    → ((other : HoldingCall) → Contains left other → AreBeside call other) → AreCallsOf old left → AreCallsOf new calls
calls_gain gains keeps kept under of beside are = record {
  each = each_gained gains of (search (call_of_stays, hold_listed, are.each, arith));
  under = under;
  beside = search (pairs_gain, beside_turn);
}

-- A call ends, and its hold with it.
pub calls_lose : {old new : Core} {left calls : List HoldingCall} {call : HoldingCall} → Gains left calls call
    → KeepsCalls old new → EndsHold old.holds new.holds (hold_of_call call)
    → AreUnderWay new.pool.blocks (ranges_of left) → AreCallsOf old calls → AreCallsOf new left
calls_lose {old} {new} {left} {calls} {call} gains keeps ends under are = record {
  each = λ other listed. let of = are.each other (search (gains_old, arith)) in
      call_of_stays old new other keeps
      (ends_other old.holds new.holds (hold_of_call call) (hold_of_call other) ends (hold_listed old other of)
      (λ same. (pairs_beside AreBeside beside_turn calls left call other gains are.beside listed).actors (cc))) of;
  under = under;
  beside = search (pairs_lose, beside_turn);
}

-- A call goes on: another stands in its place, of the same hold and apart from whatever it was apart from.
pub calls_swap : {core : Core} {left calls nexts : List HoldingCall} {call next : HoldingCall} → Gains left calls call
    → Gains left nexts next → hold_of_call next ≡ hold_of_call call
    → ((other : HoldingCall) → HaveNoneInCommon call other → HaveNoneInCommon next other) → IsCallOfCore core next
    → AreUnderWay core.pool.blocks (ranges_of nexts) → AreCallsOf core calls → AreCallsOf core nexts
calls_swap {left = left} {calls} {nexts} {call} {next} gains again hold apart of under are = record {
  each = each_gained again of (search (gains_old, are.each, arith));
  under = under;
  beside = pairs_gain AreBeside beside_turn left nexts next again
      (λ other listed.
      let was = pairs_beside AreBeside beside_turn calls left call other gains are.beside listed in
      search arith) (search (pairs_lose, beside_turn));
}
