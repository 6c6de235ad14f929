use Rattle.std.proofs.Common.{◌≡◌, Result, sym, ◌∙◌, ap, subst}
use Rattle.bank_trait.specs.declared.Failed.{Failed}
use Rattle.core_state.specs.Committing.{point_of}
use Rattle.core_commit.specs.declared.guest.Guest.TheVariants.{Settled}
use Rattle.core_commit.specs.declared.guest.JoinTurn.TheVariants.{GuestSync}
use Rattle.core_commit.specs.JoinRun.{JoinRun}
use Rattle.core_commit.specs.JoinTurns.{IsNextTurnOf, HasSyncedGuest, guest_after}
use Rattle.core_commit.proofs.JoinTurns.{guest_synced}
use Rattle.core_commit.proofs.join_run.JoinRun.sync_guest.Goals as goal
use Rattle.core_commit.proofs.join_run.JoinRun.sync_guest.Goals.{in-Ok, in-Err}

pub returns-clause-synced : goal.returns-clause-synced
returns-clause-synced g c =
    let before = g.B.Bank.disk c.args.bank.now in
    let after = g.B.Bank.disk c.sync.new.self in
    let old : JoinRun = record { run = c.self.inside.run; guest = c.self.inside.guest } in
    let guest_is : c.match-sync.guest ≡ guest_after c.sync.result (Settled) = elim c.match-sync.branch [
      | in-Ok w ↦ w.guest-is ∙ ap (λ (r : Result (Unit {0}) Failed). guest_after r (Settled)) (sym w.in-Ok.is)
      | in-Err w ↦ w.guest-is ∙ ap (λ (r : Result (Unit {0}) Failed). guest_after r (Settled)) (sym w.in-Err.is)
    ] in
    subst (λ (join : JoinRun). HasSyncedGuest join (point_of c.args.out before)
    (record { run = c.self.inside.run; guest = c.match-sync.guest }) (point_of c.args.out after)) c.self.view_is
    (guest_synced old c.args.out c.device-device.result before after c.sync.result c.match-sync.guest
    (c.device-device.ensures.value ∙ ap (λ (join : JoinRun). join.run.uber.reflow.to) (sym c.self.view_is))
    (subst (λ (join : JoinRun). IsNextTurnOf join c.args.out (GuestSync)) (sym c.self.view_is) c.requires.turn) guest_is
    c.sync.ensures)
