use Rattle.std.proofs.Common.{◌∙◌, ◌+◌, ◌-◌, ◌≡◌, ap, arith, drop, subst, sym, take, List, ℕ}
use Rattle.block_record.specs.Bytes.{IsDigest}
use Rattle.block_record.proofs.Reading.{piece_is_digest}
use Rattle.block_record.proofs.numbers.digest_at.Goals as goal

pub returns-clause-digest : goal.returns-clause-digest
returns-clause-digest c =
    let n : c.args.at_byte + 32 - c.args.at_byte ≡ 32 = omega arith in
    let bytes : c.copy_from_slice.new.self ≡ take 32 (drop c.args.at_byte c.args.bytes.now) =
    c.copy_from_slice.ensures.after ∙ ap (λ (k : ℕ). take k (drop c.args.at_byte c.args.bytes.now)) n in
    subst (λ (xs : List ℕ). IsDigest xs) (sym bytes)
    (piece_is_digest c.args.bytes.now c.args.at_byte (λ i. omega (arith, c.type_inv.bytes i)) c.requires)
