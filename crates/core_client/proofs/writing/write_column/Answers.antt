use Rattle.std.proofs.Common.{◌≡◌, inr, ℕ, List, ◌∙◌, sym, subst}
use Rattle.std.specs.Prelude.{◌||◌}
use Rattle.bank_trait.specs.Disk.{Wrote}
use Rattle.uberblock_ring.specs.Devices.{has_device}
use Rattle.core_state.specs.Committing.{lost_by}
use Rattle.core_state.proofs.Outs.{none_lost, one_lost}
use Rattle.core_client.proofs.writing.write_column.Goals as goal

pub returns-then-is_err : goal.returns-then-is_err
returns-then-is_err g c =
    let device = c.args.write.now.device in
    inr (record {
      result = c.write.result;
      wrote = subst (λ (bytes : List ℕ). Wrote (g.B.Bank.disk c.args.bank.now) (g.B.Bank.disk c.write.new.self) device
          c.args.write.now.device_sector bytes c.write.result) c.column-column.ensures.value c.write.ensures;
      called = record {
        in_use = sym c.has.ensures.value ∙ c.if-has.false;
        out = λ other.
            subst (λ (out : ℕ). has_device out other ≡ (has_device c.args.out.now other || lost_by device c.write.result other))
            (sym c.insert.ensures.value) (one_lost device c.write.result c.if-is_err.ensures.value c.args.out.now other);
        lawful = g.met.B.Bank.lawful c.write.new.self;
      };
    })

pub returns-else-is_err : goal.returns-else-is_err
returns-else-is_err g c =
    let device = c.args.write.now.device in
    inr (record {
      result = c.write.result;
      wrote = subst (λ (bytes : List ℕ). Wrote (g.B.Bank.disk c.args.bank.now) (g.B.Bank.disk c.write.new.self) device
          c.args.write.now.device_sector bytes c.write.result) c.column-column.ensures.value c.write.ensures;
      called = record {
        in_use = sym c.has.ensures.value ∙ c.if-has.false;
        out = λ other. none_lost device c.write.result c.if-is_err.ensures.value c.args.out.now other;
        lawful = g.met.B.Bank.lawful c.write.new.self;
      };
    })
