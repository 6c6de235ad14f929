use Rattle.std.proofs.Common.{◌≡◌, ◌∙◌, Some, arith, ap, rules}
use Rattle.bank_trait.proofs.Touches.{touches_then, touches_widen}
use Rattle.uberblock_ring.specs.Uberblock.{Uber, first_uber}
use Rattle.core_state.specs.Create.{rows_for, new_ring}
use Rattle.core_open.specs.Regions.{IsOn, IsOnBelow}
use Rattle.core_open.proofs.Rings.{created_none, created_more}
use Rattle.core_open.proofs.creating.create.Goals as goal

pub loop-device-init : goal.loop-device-init
loop-device-init g c = created_none _ (g.B.Bank.disk c.args.bank.now)

pub loop-device-preserved : goal.loop-device-preserved
loop-device-preserved g c =
    let rows : c.data_rows.result ≡ rows_for (g.B.Bank.disk c.args.bank.now).sectors = search rules in
    let is = c.first-uber.ensures.value ∙ ap (λ r. first_uber c.args.pool c.args.parity c.args.width r) rows in
    created_more _ c.loop-device.device _ _ _ c.loop-device.invariant c.create_on.ensures.only
    (λ tells slot below. c.in-Ok.ensures.ring tells slot below ∙ ap (λ (u : Uber). Some (new_ring u c.loop-device.device slot)) is)

pub returns-in-Err-clause-only : goal.returns-in-Err-clause-only
returns-in-Err-clause-only g c =
    touches_then (IsOnBelow c.loop-device.device) (IsOn c.loop-device.device) (IsOnBelow c.args.width) (λ d x p. omega (arith, p)) (λ d x q. omega (arith, q)) c.loop-device.invariant.only c.create_on.ensures.only

pub returns-clause-only : goal.returns-clause-only
returns-clause-only g c = touches_widen (IsOnBelow c.loop-device.device) (IsOnBelow c.args.width) (λ d x p. omega (arith, p)) c.loop-device.invariant.only
