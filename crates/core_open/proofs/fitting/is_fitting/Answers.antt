use Rattle.core_open.proofs.BlockSpans.{fits_by}
use Rattle.core_open.proofs.fitting.is_fitting.Goals as goal

pub returns-in-Some : goal.returns-in-Some
returns-in-Some c =
    let are = rw c.in-Some.is at c.in_ok-spans.ensures.some in
    let alone = rw c.in-Some.is at c.in_ok-spans.ensures.alone in
    record {
      value = fits_by c.args.uber.now c.args.entries.now c.in-Some.spans.items c.are_clear.result
          are alone c.are_clear.ensures.value;
    }
