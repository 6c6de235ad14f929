-- How a set of devices is gathered, device by device.
use Rattle.std.proofs.Common.{◌≡◌, ⊎_elim, ℕ, ◌+◌, ◌^◌, ◌<◌, ◌≤◌, true, sym, ◌∙◌, subst, arith}
use Rattle.std.specs.Prelude.{◌↔◌}
use Rattle.std.proofs.lemmas.Bool.{cases_eq, true≢false}
use Rattle.std.proofs.Math.Pow.{pow_mono}
use Rattle.uberblock_ring.specs.Devices.{has_device, with_device}
use Rattle.uberblock_ring.proofs.DeviceSets.{has_with, none_in, others_with, with_below}

-- Of the devices below this one the set has those that have P.
pub record IsGathered (P : ℕ → Type 0) (device set : ℕ) : Type 0 where
  pub has : (other : ℕ) → has_device set other ≡ true → (other < device) × P other
  pub each : (other : ℕ) → other < device → P other → has_device set other ≡ true
  pub below : set < 2 ^ device

below_next : (device set : ℕ) → set < 2 ^ device → set < 2 ^ (device + 1)
below_next device set below =
    let wider : 2 ^ device ≤ 2 ^ (device + 1) = pow_mono (omega arith) in
    omega (arith, below, wider)

-- at the beginning,
pub gathered_none : (P : ℕ → Type 0) → IsGathered P 0 0
gathered_none P = record {
  has = λ other is. absurd (true≢false (sym is ∙ none_in other));
  each = λ other low. absurd (omega (arith, low));
  below = omega arith;
}

-- with one more device,
pub gathered_with : (P : ℕ → Type 0) (device set : ℕ) → IsGathered P device set → P device
    → IsGathered P (device + 1) (with_device set device)
gathered_with P device set so_far is = record {
  has = λ other there. ⊎_elim
      (λ (same : other ≡ device). (omega (arith, same), subst P (sym same) is))
      (λ apart. let before = so_far.has other (sym (others_with set device other apart) ∙ there) in
      (omega (arith, before.0), before.1))
      (cases_eq other device);
  each = λ other low has. ⊎_elim
      (λ (same : other ≡ device). subst (λ d. has_device (with_device set device) d ≡ true) (sym same) (has_with set device))
      (λ apart. others_with set device other apart ∙ so_far.each other (omega (arith, low, apart)) has)
      (cases_eq other device);
  below = with_below set device (device + 1) (below_next device set so_far.below) (omega arith);
}

-- without it,
pub gathered_without : (P : ℕ → Type 0) (device set : ℕ) → IsGathered P device set → (P device → ⊥)
    → IsGathered P (device + 1) set
gathered_without P device set so_far not_it = record {
  has = λ other there. let before = so_far.has other there in (omega (arith, before.0), before.1);
  each = λ other low has. ⊎_elim
      (λ (same : other ≡ device). absurd (not_it (subst P same has)))
      (λ apart. so_far.each other (omega (arith, low, apart)) has)
      (cases_eq other device);
  below = below_next device set so_far.below;
}

-- and at the end.
pub gathered_all : (P : ℕ → Type 0) (device set limit : ℕ) → IsGathered P device set → device ≤ limit → limit ≤ device
    → (other : ℕ) → has_device set other ≡ true ↔ ((other < limit) × P other)
gathered_all P device set limit gathered low high other = (
  (λ is. let has = gathered.has other is in (omega (arith, has.0, low), has.1)),
  (λ is. gathered.each other (omega (arith, is.0, high)) is.1),
)
