-- What is under way stays so, turn by turn.
use Rattle.std.proofs.Common.{◌≡◌, ℕ, true, sym, ap, subst, arith}
use Rattle.std.specs.Prelude.{Contains}
use Rattle.bank_trait.specs.Disk.{Disk}
use Rattle.uberblock_ring.specs.Devices.{has_device}
use Rattle.core_state.specs.Committing.{point_of}
use Rattle.core_state.specs.declared.answer.Answer.{Answer}
use Rattle.core_state.specs.declared.answer.Answer.TheVariants as answer
use Rattle.core_state.specs.declared.answer.Kind.{Kind}
use Rattle.core_state.specs.Outs.{OnlyFailedGoOut}
use Rattle.core_turns.specs.declared.copying.CopyRun.{CopyRun}
use Rattle.core_turns.specs.declared.getting.GetRun.{GetRun}
use Rattle.core_turns.specs.declared.putting.PutRun.{PutRun}
use Rattle.core_turns.specs.declared.turn.Turn.{Turn}
use Rattle.core_turns.specs.declared.turn.Turn.TheVariants.{More, Busy, Done}
use Rattle.core_turns.specs.Core.{Core, CoreState, HasBankOf}
use Rattle.core_turns.specs.Copying.{IsJobOf}
use Rattle.core_turns.specs.Getting.{BeginsGet, ReadsTurn}
use Rattle.core_turns.specs.Putting.{EndsPut}
use Rattle.core_turns.proofs.state.Frames.{job_of_stays, widths_out}
use Rattle.core_turns.proofs.read.Turns.{begins_holds, begins_rest}

-- The bank has the pool's devices in use behind the last turn of a put.
pub put_end_bank : (old new : Core) (run : PutRun) (turn : Turn PutRun) (disk : Disk) → EndsPut old run new turn
    → HasBankOf old disk → HasBankOf new disk
put_end_bank old new run (More next) disk ends bank = absurd ends
put_end_bank old new run (Busy by) disk ends bank = absurd ends
put_end_bank old new run (Done given) disk ends bank = by given ends
  where
    by : (given : Answer) → EndsPut old run new (Done given) → HasBankOf new disk
    by answer.Stored ends = subst (λ (c : Core). HasBankOf c disk) (sym ends.rest) bank
    by (answer.TooManyFailed out) ends =
        subst (λ (c : Core). HasBankOf c disk) (sym ends.gives_up.rest) bank
    by other ends = absurd ends

-- A job goes on where a read begins,
pub job_at_begin : (old new : Core) (actor id : ℕ) (asked : Kind) (turn : Turn GetRun) (job : CopyRun)
    → BeginsGet old new actor asked id turn → IsJobOf old job → IsJobOf new job
job_at_begin old new actor id asked turn job begins of =
    let rest = begins_rest old new actor id asked turn begins in
    job_of_stays old new job (record {
      widths = record {
        parity = ap (λ (c : Core). c.pool.uber.parity) rest;
        births = ap (λ (c : Core). c.pool.uber.births) rest;
        reflow = ap (λ (c : Core). c.pool.uber.reflow) rest;
        done = ap (λ (c : Core). c.pool.done) rest;
        block_parity = ap (λ (c : Core). c.pool.blocks.parity) rest;
        block_births = ap (λ (c : Core). c.pool.blocks.births) rest;
        begun = (let begun : new.begun ≡ old.begun = ap (λ (c : Core). c.begun) rest in omega (arith, begun));
      };
      copying = ap (λ (c : Core). c.copying) rest;
      scrubbing = ap (λ (c : Core). c.scrubbing) rest;
      within = λ device has. subst (λ (c : Core). has_device c.pool.out device ≡ true) (sym rest) has;
    }) (begins_holds old new actor id asked turn job.hold begins of.holds) of

-- and where it reads.
pub job_at_read : (before after : CoreState) (run next : GetRun) (job : CopyRun) → ReadsTurn before run after (More next)
    → OnlyFailedGoOut (point_of before.core.pool.out before.disk) (point_of after.core.pool.out after.disk)
    → IsJobOf before.core job → IsJobOf after.core job
job_at_read before after run next job reads outs of =
    job_of_stays before.core after.core job (record {
      widths = widths_out before.core after.core reads.2;
      copying = ap (λ (c : Core). c.copying) reads.2;
      scrubbing = ap (λ (c : Core). c.scrubbing) reads.2;
      within = outs.still;
    }) (subst (λ (c : Core). Contains c.holds job.hold) (sym reads.2) of.holds) of
