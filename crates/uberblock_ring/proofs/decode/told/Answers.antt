use Rattle.std.proofs.Common.{◌≡◌, ◌∙◌, ◌*◌, ap, drop, None, Option, Some, sym, take, ℕ}
use Rattle.reflow_mark.specs.declared.reflow.Reflow.{Reflow}
use Rattle.uberblock_ring.specs.Header.{header_of}
use Rattle.uberblock_ring.specs.Uberblock.{Uber}
use Rattle.uberblock_ring.proofs.Headers.{births_count, births_told, count_told, header_told, rows_told, uber_told}
use Rattle.uberblock_ring.proofs.Headers.{word_told}
use Rattle.uberblock_ring.proofs.decode.told.Goals as goal

pub returns-in_err-reflow : goal.returns-in_err-reflow
returns-in_err-reflow c = record {
  only = λ uber device right is.
      let header = c.read-header.result in
      let own : header ≡ header_of uber =
      header_told uber device c.args.bytes.now header right is c.read-header.ensures.fields c.read-header.ensures.fits in
      let wrong : ◌≡◌ {A = Option Reflow} None (Some uber.reflow) =
      c.in_err-reflow.ensures.only uber.reflow (rows_told uber header right own) (word_told uber header right own) in
      cc;
}

pub returns-in_err-births : goal.returns-in_err-births
returns-in_err-births c = record {
  only = λ uber device right is.
      let header = c.read-header.result in
      let own : header ≡ header_of uber =
      header_told uber device c.args.bytes.now header right is c.read-header.ensures.fields c.read-header.ensures.fits in
      absurd (c.in_err-births.ensures.none (births_count uber header right own));
}

pub returns : goal.returns
returns c = record {
  only = λ uber device right is.
      let header = c.read-header.result in
      let own : header ≡ header_of uber =
      header_told uber device c.args.bytes.now header right is c.read-header.ensures.fields c.read-header.ensures.fits in
      let count = count_told uber header right own in
      let reflow : c.in_ok-reflow.reflow ≡ uber.reflow =
      let same : ◌≡◌ {A = Option Reflow} (Some c.in_ok-reflow.reflow) (Some uber.reflow) =
      c.in_ok-reflow.ensures.only uber.reflow (rows_told uber header right own) (word_told uber header right own) in
      cc in
      let births = births_told uber device c.args.bytes.now c.in_ok-births.births right is (c.in_ok-births.ensures.counted ∙ count)
      c.in_ok-births.ensures.fits
      (ap (λ (n : ℕ). take (12 * n) (take 192 (drop 112 c.args.bytes.now))) (sym count) ∙ c.in_ok-births.ensures.bytes) in
      ap (λ (u : Uber). Some u) (c.with.ensures.value ∙ uber_told uber header c.in_ok-reflow.reflow c.in_ok-births.births own reflow births);
}
