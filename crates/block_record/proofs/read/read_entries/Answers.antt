use Rattle.std.proofs.Common.{◌∙◌, ap, arith, length, List, subst, sym}
use Rattle.std.proofs.lemmas.List.{length_push}
use Rattle.block_record.specs.declared.entry.IndexEntry.{IndexEntry}
use Rattle.block_record.specs.Index.{BeginsWith}
use Rattle.block_record.proofs.Pages.{begins_there, wrong_here}
use Rattle.block_record.proofs.read.read_entries.Goals as goal

pub returns-in-None-clause-err : goal.returns-in-None-clause-err
returns-in-None-clause-err c =
    wrong_here c.args.bytes.now c.args.count c.loop-index.index c.loop-index.entries.items c.deref.result.now c.loop-index.invariant.begins
    c.loop-index.invariant.counted (omega arith) c.deref.ensures.value c.in-None.ensures.none

pub loop-index-preserved : goal.loop-index-preserved
loop-index-preserved c =
    let pushed = c.in_ok-push-in-Some.ensures.items in
    record {
      counted = ap (λ (es : List IndexEntry). length es) pushed
          ∙ omega (arith, length_push c.loop-index.entries.items c.in-Some.entry, c.loop-index.invariant.counted);
      begins = subst (λ (es : List IndexEntry). BeginsWith c.args.bytes.now es) (sym pushed)
          (begins_there c.args.bytes.now c.loop-index.index c.loop-index.entries.items c.deref.result.now c.in-Some.entry c.loop-index.invariant.begins
          c.loop-index.invariant.counted c.deref.ensures.value c.in-Some.ensures.some);
    }
