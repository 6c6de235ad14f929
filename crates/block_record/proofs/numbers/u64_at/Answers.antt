use Rattle.std.proofs.Common.{◌≡◌, ◌∙◌, ap, arith, take, drop, ◌+◌, ◌-◌}
use Rattle.block_record.proofs.Reading.{read_eight}
use Rattle.block_record.proofs.numbers.u64_at.Goals as goal

pub returns : goal.returns
returns c =
    let eight : c.args.at_byte + 8 - c.args.at_byte ≡ 8 = omega arith in
    read_eight c.args.bytes.now c.copy_from_slice.new.self c.args.at_byte c.from_be_bytes.result (λ i. omega (arith, c.type_inv.bytes i))
    c.copy_from_slice.auto.self (c.copy_from_slice.ensures.after ∙ ap (λ n. take n (drop c.args.at_byte c.args.bytes.now)) eight)
    c.from_be_bytes.ensures
