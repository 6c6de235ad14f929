use Rattle.std.proofs.Common.{◌≡◌, arith, codes}
use Rattle.clap.specs.Matches.{found_of}
use Rattle.clap.specs.Walk.{rows_of}
use Rattle.command_words.proofs.Texts.{none_because, one_number}
use Rattle.command_words.proofs.reading.create.Goals as goal

pub returns-clause-none : goal.returns-clause-none
returns-clause-none c = none_because c.new_pool.result c.new_pool.ensures.none (λ wrong made is.
    let rows = rows_of (found_of c.args.own.now) in
    let parity : made.parity ≡ c.in_ok-parity.parity = one_number rows (codes "parity") _ _ (omega (arith, is.size)) (omega arith) is.read.parity c.in_ok-parity.ensures.some in
    let width : made.width ≡ c.in_ok-width.width = one_number rows (codes "width") _ _ (omega (arith, is.size)) (omega arith) is.read.width c.in_ok-width.ensures.some in
    wrong (omega (arith, parity, is.size), omega (arith, parity, is.size), omega (arith, parity, width, is.size), omega (arith, width, is.size)))
