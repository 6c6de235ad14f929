use Rattle.std.proofs.Common.{◌≡◌, subst, ℕ, false, true}
use Rattle.std.specs.Int.{trailing_zeros, w64}
use Rattle.uberblock_ring.specs.Devices.{has_device}
use Rattle.uberblock_ring.proofs.DeviceSets.{lowest_first, lowest_has}
use Rattle.uberblock_ring.proofs.device_set.DeviceSet.lowest.Goals as goal

pub returns-clause-there : goal.returns-clause-there
returns-clause-there c =
    subst (λ (n : ℕ). has_device n (trailing_zeros w64 c.self.inside.bits) ≡ true) c.self.view_is
    (lowest_has c.self.inside.bits c.if-self-eq0.false c.self.invariant)

pub returns-clause-lowest : goal.returns-clause-lowest
returns-clause-lowest c other before =
    subst (λ (n : ℕ). has_device n other ≡ false) c.self.view_is
    (lowest_first c.self.inside.bits c.if-self-eq0.false c.self.invariant other before)
