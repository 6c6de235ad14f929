use Rattle.std.proofs.Common.{◌∙◌, ◌≡◌, ap, arith, List, sym, ℕ}
use Rattle.std.proofs.lemmas.List.{take_all}
use Rattle.uberblock_ring.specs.Uberblock.{Uber}
use Rattle.uberblock_ring.proofs.uber.Uber.set_index.Goals as goal

pub invariant_of-self : goal.invariant_of-self
invariant_of-self c = (c.self.invariant.0, c.digest_at-self-inside.ensures.digest)

pub returns : goal.returns
returns c =
    let digest : c.digest_at-self-inside.result ≡ c.args.digest.now =
    sym c.digest_at-self-inside.ensures.bytes ∙ take_all 32 c.args.digest.now (omega (arith, c.told-digest)) in
    record {
      value = ap (λ (u : Uber). record u { area = c.args.area; count = c.args.count; digest = c.digest_at-self-inside.result }) c.self.view_is
          ∙ ap (λ (bytes : List ℕ). record c.args.self.now { area = c.args.area; count = c.args.count; digest = bytes }) digest;
    }
