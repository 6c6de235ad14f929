use Rattle.std.proofs.Common.{ℕ, List, refl, subst, Ok}
use Rattle.bank_trait.specs.Disk.{Wrote}
use Rattle.bank_trait.proofs.Touches.{touches_then, touches_widen, wrote_touches, synced_touches}
use Rattle.core_open.specs.Regions.{IsBelow, IsOn}
use Rattle.core_open.proofs.Rings.{ring_made}
use Rattle.core_open.proofs.creating.create_on.Goals as goal

pub returns-in_err-clear_ring-clause-only : goal.returns-in_err-clear_ring-clause-only
returns-in_err-clear_ring-clause-only g c = touches_widen (IsBelow c.args.device 32) (IsOn c.args.device) (λ d x p. p.0) c.clear_ring.ensures.only

pub returns-in_err-sync-clause-only : goal.returns-in_err-sync-clause-only
returns-in_err-sync-clause-only g c =
    let here : ℕ → ℕ → Type 0 = IsOn c.args.device in
    touches_then (IsBelow c.args.device 32) here here (λ d x p. p.0) (λ d x q. q) c.clear_ring.ensures.only
    (synced_touches here (λ x. refl) (g.met.B.Bank.lawful c.clear_ring.new.bank) c.sync.ensures)

pub returns-in_err-write-clause-only : goal.returns-in_err-write-clause-only
returns-in_err-write-clause-only g c =
    let here : ℕ → ℕ → Type 0 = IsOn c.args.device in
    let cleared = touches_then (IsBelow c.args.device 32) here here (λ d x p. p.0) (λ d x q. q) c.clear_ring.ensures.only
    (synced_touches here (λ x. refl) (g.met.B.Bank.lawful c.clear_ring.new.bank) c.sync.ensures) in
    touches_then here here here (λ d x p. p) (λ d x q. q) cleared (wrote_touches here refl c.write.ensures)

pub returns-in_err-sync-2-clause-only : goal.returns-in_err-sync-2-clause-only
returns-in_err-sync-2-clause-only g c =
    let here : ℕ → ℕ → Type 0 = IsOn c.args.device in
    let cleared = touches_then (IsBelow c.args.device 32) here here (λ d x p. p.0) (λ d x q. q) c.clear_ring.ensures.only
    (synced_touches here (λ x. refl) (g.met.B.Bank.lawful c.clear_ring.new.bank) c.sync.ensures) in
    let written = touches_then here here here (λ d x p. p) (λ d x q. q) cleared (wrote_touches here refl c.write.ensures) in
    touches_then here here here (λ d x p. p) (λ d x q. q) written
    (synced_touches here (λ x. refl) (g.met.B.Bank.lawful c.write.new.self) c.sync-2.ensures)

pub returns-clause-only : goal.returns-clause-only
returns-clause-only g c =
    let here : ℕ → ℕ → Type 0 = IsOn c.args.device in
    let cleared = touches_then (IsBelow c.args.device 32) here here (λ d x p. p.0) (λ d x q. q) c.clear_ring.ensures.only
    (synced_touches here (λ x. refl) (g.met.B.Bank.lawful c.clear_ring.new.bank) c.sync.ensures) in
    let written = touches_then here here here (λ d x p. p) (λ d x q. q) cleared (wrote_touches here refl c.write.ensures) in
    touches_then here here here (λ d x p. p) (λ d x q. q) written
    (synced_touches here (λ x. refl) (g.met.B.Bank.lawful c.write.new.self) c.sync-2.ensures)

pub returns-clause-ring : goal.returns-clause-ring
returns-clause-ring g c = λ tells.
    let wrote = subst (λ (b : List ℕ). Wrote (g.B.Bank.disk c.sync.new.self) (g.B.Bank.disk c.write.new.self) c.args.device 1 b (Ok tt)) c.encode.ensures.value c.in_ok-write.ensures in
    ring_made c.args.uber.now c.args.device _ _ _ _ (c.in_ok-clear_ring.ensures.zeros tells) c.in_ok-sync.ensures wrote c.in_ok-sync-2.ensures
