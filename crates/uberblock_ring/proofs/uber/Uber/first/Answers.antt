use Rattle.std.proofs.Common.{◌≡◌, arith, subst, sym, List, ℕ, []}
use Rattle.block_record.specs.Bytes.{IsDigest}
use Rattle.uberblock_ring.specs.Uberblock.{first_uber, Uber}
use Rattle.uberblock_ring.specs.Valid.{IsRightUber}
use Rattle.uberblock_ring.proofs.Digest.{sha256_is_digest}
use Rattle.uberblock_ring.proofs.FirstUber.{first_right}
use Rattle.uberblock_ring.proofs.uber.Uber.first.Goals as goal

pub invariant_of-result : goal.invariant_of-result
invariant_of-result c = (omega arith, subst (λ (bytes : List ℕ). IsDigest bytes) (sym c.digest.ensures) (sha256_is_digest []))

pub returns-clause-right : goal.returns-clause-right
returns-clause-right c shape =
    let same : first_uber c.args.pool c.args.parity c.args.width c.args.rows ≡ record {
      pool = c.args.pool;
      group = 1;
      parity = c.args.parity;
      reflow = c.at_rest.result;
      area = 1;
      out = c.empty.result;
      count = 0;
      digest = c.digest.result;
      births = c.first.result;
    } = λ i. record {
      pool = c.args.pool;
      group = 1;
      parity = c.args.parity;
      reflow = sym c.at_rest.ensures.value i;
      area = 1;
      out = sym c.empty.ensures.value i;
      count = 0;
      digest = sym c.digest.ensures i;
      births = sym c.first.ensures.value i;
    } in
    subst (λ (u : Uber). IsRightUber u) same
    (first_right c.args.pool c.args.parity c.args.width c.args.rows (omega arith) shape)
