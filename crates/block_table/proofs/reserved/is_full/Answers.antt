use Rattle.std.proofs.Common.{◌∙◌, sym, arith}
use Rattle.std.proofs.lemmas.Bool.{false≢true}
use Rattle.block_table.proofs.Tables.{few_not_full, full_is}
use Rattle.block_table.proofs.reserved.is_full.Goals as goal

pub returns-then-entries-reserved-lt-MAX_IDS : goal.returns-then-entries-reserved-lt-MAX_IDS
returns-then-entries-reserved-lt-MAX_IDS c = record {
  value = (
    λ no. absurd (false≢true no),
    λ full. absurd (few_not_full c.args.entries.now c.args.reserved.now c.args.id (omega (arith, c.if-entries-reserved-lt-MAX_IDS.true)) full),
  );
}

pub returns : goal.returns
returns c = record {
  value = full_is c.args.entries.now c.args.reserved.now c.args.id c.in_use.result c.in_use.ensures.value
      (sym c.is_known.ensures.value ∙ c.if-is_known.false);
}
