-- What a free comes to.
use Rattle.schedule.proofs.Words.{◌≡◌, ℕ, List, Some, None, ap, slice_get, option_and_then, Disk, Answer, Entry, Map}
use Rattle.schedule.proofs.Words.{PutBytes, map_of, map_after_answer, IsAnswerOf, IsRightFree, found_id, found_listed}
use Rattle.schedule.proofs.Words.{map_after_free, HoldsMap, ScriptCall, Script, calls_of, Core, at_disk, pool_at}
use Rattle.schedule.proofs.Words.{FreesBlock, Done, frees_calls, frees_stands, Client, TurnState, Frees, LeavesBegun}
use Rattle.schedule.proofs.Words.{TakesTurn, calls_under_way, arith, []}
use Rattle.core_state.specs.declared.answer.Kind.TheVariants as kind
use Rattle.schedule.proofs.turn.Fitting.{no_device_cause, plain_no_limit}
use Rattle.schedule.proofs.turn.RightNext.{IsPlain, free_right}
use Rattle.schedule.proofs.turn.Theirs.{none_some}
use Rattle.schedule.proofs.turn.LeavesPool.{LeavesPool, holds_left}
use Rattle.schedule.proofs.turn.Comes.{ItComes, comes_at_once, first_entry}
use Rattle.schedule.proofs.put.Full.{put_alone}

-- The pool stays, the answer is one to a free, and the map after it is the one that a free leaves.
record FreesSo (old new : Core) (id : ℕ) (given : Answer) : Type 0 where
  pool : LeavesPool old new
  answers : IsAnswerOf kind.Free given
  plain : IsPlain given
  leaves : (handed : PutBytes) (map : Map) (entry : Entry) → entry.id ≡ Some id
      → map_after_answer handed map entry given ≡ map_after_free map id given

frees_so : (old new : Core) (id : ℕ) (given : Answer) → FreesBlock old new id given → FreesSo old new id given
frees_so old new id given frees = record {
  pool = grind (arith, holds_left);
  answers = grind arith;
  plain = grind arith;
  leaves = grind arith;
}

-- The answer is right of the map that the pool held.
frees_right : (old new : Core) {disk : Disk} (map : Map) (id : ℕ) (given : Answer)
    → HoldsMap [] map (pool_at (at_disk old disk)) → FreesBlock old new id given → IsRightFree (map id) given
frees_right old new map id given holds frees = grind (arith, found_listed, none_some, found_id)

module _ {script : Script} {actor : ℕ} {before after : TurnState} {clients news : List Client}
    (takes : TakesTurn script actor before after clients news) {call : ScriptCall} (id : ℕ) {given : Answer}
    (asked : call.kind ≡ kind.Free) (id_is : call.id ≡ Some id) (idle : before.client.under_way ≡ None)
    (next : slice_get (calls_of script actor) before.client.begun ≡ Some call)
    (frees : Frees before.state.core after.state.core id given) (disk : after.state.disk ≡ before.state.disk)
    (left : LeavesBegun actor call before after (Done given)) where
  -- A free is answered at once.
  pub free_at_once : ItComes takes
  free_at_once =
      let of = frees_so before.state.core after.state.core id given frees.frees in
      comes_at_once takes idle of.pool disk next left (record {
        of_kind = rw asked of.answers;
        tells = λ out told. let many = rw told at frees.frees in (many.0, many.1);
        limit = λ reached told. absurd (plain_no_limit of.plain reached told);
        memory = λ refused. absurd (rw refused at frees.frees);
        device = search no_device_cause;
      })
      (λ full. absurd (put_alone (λ put. cc) of.answers full))
      (frees_calls before.state.core after.state.core id given (calls_under_way clients) frees.frees frees.under
      takes.schedule.going.are)
      (λ world past runs.
      let map = map_of world.handed world.opening before.items in
      let entry = first_entry call actor before given in (
        free_right world before.items entry after.state.disk asked of.plain
            (rw (ap (option_and_then map) id_is) (frees_right before.state.core after.state.core map id given
            runs.stands.holds frees.frees)),
        rw (of.leaves world.handed map entry id_is) (rw disk
            (frees_stands id given takes.is frees.frees frees.kept runs.stands)),
      ))
