-- A bank goes on having what is in use, and a set within another is no larger.
use Rattle.std.proofs.Common.{◌≡◌, ℕ, zero, suc, ◌+◌, ◌≤◌, Bool, true, false, refl, sym, ◌∙◌, arith, if◌then◌else◌}
use Rattle.bank_trait.specs.Disk.{Disk, Later}
use Rattle.uberblock_ring.specs.Devices.{has_device, count_below, count_of, IsWithin}
use Rattle.uberblock_ring.specs.Uberblock.{Uber}
use Rattle.core_state.proofs.Outs.{was_used}
use Rattle.core_open.specs.Pool.{HasBank}

-- A set within another has no more devices.
below_grows : (devices others width : ℕ) → IsWithin devices others
    → count_below devices width ≤ count_below others width
below_grows devices others zero within = omega arith
below_grows devices others (suc width) within =
    let so_far = below_grows devices others width within in
    by (has_device devices width) (has_device others width) refl refl so_far
  where
    by : (one other : Bool) → has_device devices width ≡ one → has_device others width ≡ other
        → count_below devices width ≤ count_below others width
        → count_below devices width + (if has_device devices width then 1 else 0)
        ≤ count_below others width + (if has_device others width then 1 else 0)
    by false other is also low = rw is (omega (arith, low))
    by true false is also low = absurd (clash (sym (within width is) ∙ also))
      where
        clash : true ≡ false → ⊥
        clash same = cc
    by true true is also low = rw (is, also) (omega (arith, low))

pub count_grows : (devices others : ℕ) → IsWithin devices others → count_of devices ≤ count_of others
unfolding count_of
count_grows devices others within = below_grows devices others 64 within

-- The bank goes on having what is in use.
pub bank_later : (uber : Uber) (old new : Disk) (out still : ℕ) → Later old new → IsWithin out still
    → HasBank uber out old → HasBank uber still new
bank_later uber old new out still later within bank = record {
  room = (let room = bank.room in let same = later.sectors in omega (arith, room, same));
  devices = λ device inside used.
      let below = bank.devices device inside (was_used out still device within used) in
      let same = later.devices in omega (arith, below, same);
}
