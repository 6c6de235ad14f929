-- What a refusal writes.
use Rattle.std.proofs.Common.{◌≢◌, inl, inr, ⊎_elim, []}
use Rattle.raidzx_top.specs.declared.status.Status.{Status}
use Rattle.raidzx_top.specs.declared.status.Status.TheVariants as status
use Rattle.raidzx_top.specs.Call.{TopCall}
use Rattle.raidzx_top.specs.Making.{IsSaid}
use Rattle.raidzx_top.specs.RunText.{IsLineFor, TextIsRight, status_line}

-- What was said in a refusal is the line of its status.
pub said_right : (call : TopCall) (line : Status) → IsLineFor call.status line
    → call.status ≢ status.Done
    → IsSaid call.sink.bytes call.sink_after.bytes call.sink.faults call.sink_after.faults
    (status_line line)
    → TextIsRight call []
said_right call line for undone said = record {
  written = λ held told. (
    line,
    for,
    ⊎_elim
        (λ whole. inl (whole.whole held told))
        (λ part. inr (part.0, undone, part.1.front held told)) said,
  );
}
