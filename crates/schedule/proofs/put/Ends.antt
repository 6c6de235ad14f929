-- A put is filled in, and how it ends.
use Rattle.schedule.proofs.Words.{◌≡◌, ◌≢◌, ◌⊎◌, inl, inr, ℕ, List, ◌∷◌, length, Option, Some, refl, sym, subst, Gains}
use Rattle.schedule.proofs.Words.{Answer, Map, Kept, Setting, CommitRun, ScriptCall, fill_bytes, Filled, PutRun, Done}
use Rattle.schedule.proofs.Words.{Core, CoreState, GivesUp, GivesUpTurn, IsStoppedPut, StoresBlock, HoldingCall}
use Rattle.schedule.proofs.Words.{Putting, AreCallsOf, Stands, put_fills_calls, put_fills_stands, EndsPutting}
use Rattle.schedule.proofs.Words.{IsFilledIn, arith, undamaged}
use Rattle.core_state.specs.declared.answer.Answer.TheVariants as answer
use Rattle.schedule.proofs.turn.Fitting.{TellsOut}
use Rattle.schedule.proofs.put.Puts.{IsUnstored, tells_out}
use Rattle.schedule.proofs.turn.Lists.{gains_first}

-- ---- a put is filled in

-- It is the same put but for what is filled in,
pub fills_same : (call : ScriptCall) (run filled : PutRun) → IsFilledIn call run filled
    → filled ≡ record run { filled = filled.filled }
fills_same call run filled fills = grind arith

-- and stands among the calls in its place, with its bytes.
pub record FilledAmong (state : CoreState) (content : List ℕ) (left calls : List HoldingCall)
    (run filled : PutRun) : Type 0
  where
    pub nexts : List HoldingCall
    pub gains : Gains left nexts (Putting filled)
    pub are : AreCallsOf state.core nexts
    pub stands : (setting : Setting) (last : Kept) (begun : List Kept) (map : Map) (contents : ℕ → List ℕ)
        (commit : Option CommitRun) → contents run.hold.actor ≡ content
        → Stands setting last begun map undamaged contents calls commit state
        → Stands setting last begun map undamaged contents nexts commit state

pub fills_among : {state : CoreState} {left calls : List HoldingCall} {run filled : PutRun} (call : ScriptCall)
    → IsFilledIn call run filled → length (fill_bytes call.fill) ≡ run.len → Gains left calls (Putting run)
    → AreCallsOf state.core calls → FilledAmong state (fill_bytes call.fill) left calls run filled
fills_among {calls} call (inl same) len_is gains are = record {
  nexts = calls;
  gains = rw same gains;
  are = are;
  stands = λ setting last begun map contents commit is stands. stands;
}
fills_among {left = left} {filled} call (inr (none, fills)) len_is gains are =
    let first = gains_first (Putting filled) left in
    record {
      nexts = Putting filled ∷ left;
      gains = first;
      are = put_fills_calls fills len_is gains first are;
      stands = λ setting last begun map contents commit is stands.
          put_fills_stands (rw is fills) gains first are stands;
    }

-- ---- how it ends

-- A put is given up so.
pub record IsGivenUp (old new : Core) (run : PutRun) (given : Answer) : Type 0 where
  pub gives_up : GivesUp old new run
  pub unstored : IsUnstored given
  pub tells : TellsOut old given
  pub other : given ≢ answer.Full

-- It is where too many devices are out,
given_up_stopped : {old new : Core} {run : PutRun} {given : Answer} → IsStoppedPut old new run given
    → IsGivenUp old new run given
given_up_stopped {old = old} stopped = record {
  gives_up = stopped.gives_up;
  unstored = subst IsUnstored (sym stopped.given_is) tt;
  tells = rw stopped.given_is (tells_out old stopped.many refl);
  other = λ full. cc;
}

-- and where there is no memory to fill it in.
given_up_turn : {old new : Core} {run : PutRun} (given : Answer) → GivesUpTurn old run new (Done given)
    → IsGivenUp old new run given
given_up_turn answer.NoMemory is =
    record { gives_up = is.1; unstored = tt; tells = λ listed told. cc; other = λ full. cc }
given_up_turn (answer.TooManyFailed out) is = given_up_stopped is
given_up_turn other is = absurd is

-- All of it was written.
abbrev pub IsWhole : PutRun → Type 0
IsWhole run = (filled : Filled) × (run.filled ≡ Some filled) × (filled.write.next ≡ length filled.write.writes)

-- Its block is stored or it is given up, whatever its last turn was.
pub put_ended : (before after : CoreState) (call : ScriptCall) (run : PutRun) (given : Answer)
    → (ends : EndsPutting before after call run given)
    → ((given ≡ answer.Stored) × StoresBlock before.core after.core ends.filled × IsWhole ends.filled)
    ⊎ IsGivenUp before.core after.core ends.filled given
put_ended before after call run given ends = grind (arith, given_up_stopped, given_up_turn)
