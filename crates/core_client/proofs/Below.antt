-- The devices out stay below a width over a write of a block.
use Rattle.std.proofs.Common.{◌≡◌, ⊎_elim, ℕ, ◌^◌, ◌<◌, true, sym, subst}
use Rattle.uberblock_ring.specs.Devices.{has_device}
use Rattle.reconstruct.specs.Rows.{Rows}
use Rattle.shadow_write.specs.declared.write.Write.{Write}
use Rattle.core_state.specs.Committing.{Point}
use Rattle.core_state.proofs.Below.{below_by_call}
use Rattle.core_client.specs.Writing.{IsMade, IsPassedOrMade}

-- A step puts no device out at or above the width.
pub below_by_write : (rows : Rows) (write : Write) (before after : Point) (width : ℕ) → IsPassedOrMade rows write before after
    → write.device < width → before.out < 2 ^ width → after.out < 2 ^ width
below_by_write rows write before after width step inside below = ⊎_elim
    (λ (passed : (has_device before.out write.device ≡ true) × (after ≡ before)).
    subst (λ (p : Point). p.out < 2 ^ width) (sym passed.1) below)
    (λ (made : IsMade rows write before after). below_by_call write.device made.result before after width made.called inside below)
    step
