-- What stands between two turns, and which calls are under way, over frees.
use Rattle.core_turns.proofs.Words.{blocks_of, ◌≡◌, inr, ℕ, ◌+◌, ◌<◌, List, Option, arith, Disk, IndexEntry, Answer}
use Rattle.core_turns.proofs.Words.{Map, Kept, Setting, PutRange, AreUnderWay, NoneFree, CommitRun, map_after_free}
use Rattle.core_turns.proofs.Words.{HoldsMap, freed_holds, none_freed_holds, Core, IsCore, at_disk, pool_at, FreesBlock}
use Rattle.core_turns.proofs.Words.{HoldingCall, ranges_of, AreCallsOf, Damage, Excepted, Stands}
use Rattle.core_state.specs.declared.answer.Answer.TheVariants as answer
use Rattle.core_turns.proofs.state.Frames.{calls_keep}
use Rattle.core_turns.proofs.state.Holds.{keeps_same}
use Rattle.core_turns.proofs.put.Calls.{Rearranges, rearranged_keeps}
use Rattle.core_turns.proofs.put.Stands.{calls_none, past_below, stands_on}
use Rattle.core_turns.proofs.state.Reads.{of_map_freed, of_map_kept}
use Rattle.core_turns.proofs.Words.{AreReadOfMap}

-- ---- the calls

-- What a free leaves, whatever it comes to, and the map after it.
record Freed (old new : Core) (id : ℕ) (given : Answer) : Type 0 where
  rest : new ≡ record old { pool = record old.pool { blocks = new.pool.blocks } }
  parity : new.pool.blocks.parity ≡ old.pool.blocks.parity
  births : new.pool.blocks.births ≡ old.pool.blocks.births
  holds : (wrong : Excepted) (map : Map) (disk : Disk) → HoldsMap wrong map (pool_at (at_disk old disk))
      → HoldsMap wrong (map_after_free map id given) (pool_at (at_disk new disk))
  reads : (map : Map) (contents : ℕ → List ℕ) (calls : List HoldingCall)
      → AreReadOfMap old.pool.blocks.table.entries map contents calls
      → AreReadOfMap new.pool.blocks.table.entries (map_after_free map id given) contents calls

freed : (old new : Core) (id : ℕ) (given : Answer) → FreesBlock old new id given → Freed old new id given
freed old new id answer.Freed frees = let takes = frees.2 in record {
  rest = takes.rest;
  parity = takes.parity;
  births = takes.births;
  holds = λ wrong map disk holds. rw takes.rest (freed_holds map old.pool new.pool.blocks disk id takes.change holds);
  reads = λ map contents calls. of_map_freed map takes.change;
}
freed old new id answer.Absent frees = let had = frees.1 in record {
  rest = had.rest;
  parity = had.parity;
  births = had.births;
  holds = λ wrong map disk holds. rw had.rest (none_freed_holds map old.pool new.pool.blocks disk id had.change had.none
      holds);
  reads = λ map contents calls. of_map_kept map had.change;
}
freed old new id (answer.TooManyFailed out) frees = let same : new ≡ old = frees.2 in record {
  rest = search arith;
  parity = cc;
  births = cc;
  holds = λ wrong map disk holds. rw same holds;
  reads = λ map contents calls of. rw same of;
}
freed old new id other frees = absurd frees

freed_rearranges : {old new : Core} {id : ℕ} {given : Answer} → Freed old new id given → Rearranges old new
freed_rearranges left = record { rest = cc; parity = left.parity; births = left.births }

-- A free leaves all calls under way, reads of its block too.
pub frees_calls : (old new : Core) (id : ℕ) (given : Answer) (calls : List HoldingCall) → FreesBlock old new id given
    → ((ranges : List PutRange) → AreUnderWay old.pool.blocks ranges → AreUnderWay new.pool.blocks ranges)
    → AreCallsOf old calls → AreCallsOf new calls
frees_calls old new id given calls frees under are =
    let left = freed old new id given frees in
    calls_keep old new calls (rearranged_keeps old new (freed_rearranges left)) (search arith)
    (under (ranges_of calls) are.under) are

-- A free leaves what stands, and the map without its block.
pub frees_stands : {setting : Setting} {last : Kept} {begun : List Kept} {map : Map} {damage : Damage} {contents : ℕ → List ℕ}
    {calls : List HoldingCall} {commit : Option CommitRun} {old new : Core} {disk : Disk} (id : ℕ) (given : Answer)
    → IsCore old → FreesBlock old new id given
    → ((past : ℕ) (kept : List IndexEntry) → past < old.begun + 1 → NoneFree old.pool.blocks past kept
    → NoneFree new.pool.blocks past kept) → Stands setting last begun map damage contents calls commit (at_disk old disk)
    → Stands setting last begun (map_after_free map id given) damage contents calls commit (at_disk new disk)
frees_stands {map = map} {damage} {contents} {calls} {old = old} {new} {disk} id given is frees kept stands =
    let left = freed old new id given frees in
    stands_on (calls_none (freed_rearranges left)) (search (keeps_same, arith))
    (λ past group at none spares. (kept past (blocks_of group) (past_below old past is at) none, spares))
    (left.reads map contents calls)
    (left.holds damage.left map disk stands.holds) (λ call listed. inr (stands.each call listed)) stands
