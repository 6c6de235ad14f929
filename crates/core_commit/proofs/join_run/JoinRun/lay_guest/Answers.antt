use Rattle.std.proofs.Common.{◌≡◌, ◌+◌, Result, sym, ◌∙◌, ap, subst}
use Rattle.bank_trait.specs.declared.Failed.{Failed}
use Rattle.core_state.specs.Committing.{point_of}
use Rattle.core_commit.specs.declared.guest.Guest.TheVariants.{Laid}
use Rattle.core_commit.specs.declared.guest.JoinTurn.TheVariants.{GuestWrite}
use Rattle.core_commit.specs.JoinRun.{JoinRun}
use Rattle.core_commit.specs.JoinTurns.{IsNextTurnOf, HasLaidGuest, guest_after}
use Rattle.core_commit.proofs.JoinTurns.{guest_laid}
use Rattle.core_commit.proofs.join_run.JoinRun.lay_guest.Goals as goal
use Rattle.core_commit.proofs.join_run.JoinRun.lay_guest.Goals.{in-Ok, in-Err}

pub returns-clause-laid : goal.returns-clause-laid
returns-clause-laid g c =
    let before = g.B.Bank.disk c.args.bank.now in
    let after = g.B.Bank.disk c.lay_on.new.bank in
    let old : JoinRun = record { run = c.self.inside.run; guest = c.self.inside.guest } in
    let come_to = Laid (c.args.part + 1) in
    let guest_is : c.match-lay_on.guest ≡ guest_after c.lay_on.result come_to = elim c.match-lay_on.branch [
      | in-Ok w ↦ w.guest-is ∙ ap (λ (r : Result (Unit {0}) Failed). guest_after r come_to) (sym w.in-Ok.is)
      | in-Err w ↦ w.guest-is ∙ ap (λ (r : Result (Unit {0}) Failed). guest_after r come_to) (sym w.in-Err.is)
    ] in
    subst (λ (join : JoinRun). HasLaidGuest join (point_of c.args.out before)
    (record { run = c.self.inside.run; guest = c.match-lay_on.guest }) (point_of c.args.out after)) c.self.view_is
    (guest_laid old c.args.out c.device-device.result before after c.lay_on.result c.match-lay_on.guest
    (c.device-device.ensures.value ∙ ap (λ (join : JoinRun). join.run.uber.reflow.to) (sym c.self.view_is)) c.args.part
    (subst (λ (join : JoinRun). IsNextTurnOf join c.args.out (GuestWrite c.args.part)) (sym c.self.view_is)
    c.requires.turn) guest_is
    c.lay_on.ensures.value)
