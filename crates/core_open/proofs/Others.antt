-- Which devices an opening touches.
use Rattle.std.proofs.Common.{◌≡◌, ⊎_elim, ℕ, ◌≤◌, List, Result, Ok, Err, refl, ◌∙◌, ap, subst, arith}
use Rattle.bank_trait.specs.Disk.{Disk, Unchanged}
use Rattle.bank_trait.specs.Regions.{TouchesOnly}
use Rattle.bank_trait.proofs.Touches.{touches_then, touches_widen}
use Rattle.block_record.specs.declared.entry.IndexEntry.{IndexEntry}
use Rattle.uberblock_ring.specs.Uberblock.{Uber}
use Rattle.core_state.specs.Committing.{Point}
use Rattle.core_commit.specs.declared.committing.TooManyOut.{TooManyOut}
use Rattle.core_commit.specs.Spared.{IsOnInUse}
use Rattle.core_open.specs.declared.finding.Found.{Found}
use Rattle.core_open.specs.declared.why.OpenWhy.{OpenWhy}
use Rattle.core_open.specs.Opens.{HasSpread, HasRenewed, EndsRenewal}
use Rattle.core_open.specs.OpensFound.{WritesFound}
use Rattle.core_open.specs.Regions.{IsOnBelow}
use Rattle.core_open.proofs.Unchanged.{unchanged_then}

-- Reads touch nothing.
pub read_touches : (P : ℕ → ℕ → Type 0) {old new : Disk} → Unchanged old new → TouchesOnly P old new
read_touches P {old = old} {new = new} same = record {
  later = same.goes_on.later;
  reads = λ d x not_p. same.reads d x;
  leaves = λ d x not_p. (at new.clock (omega (arith, same.clock)) (omega (arith, same.clock)) d x).0;
  crash = λ image left. (
    image,
    record {
      at = λ d x bytes is. left.fits.at d x bytes
          ((same.goes_on.later.past left.moment (omega (arith, left.until, same.clock)) d x).0
          ∙ ap (λ s. old.leaves s d x) (now left.moment left.since (omega (arith, left.until, same.clock))) ∙ is);
    },
    λ d x not_p. refl,
  );
  moments = λ t low high d x not_p. at t (omega (arith, high, same.clock)) low d x;
}
  where
    now : (t : ℕ) → old.clock ≤ t → t ≤ old.clock → t ≡ old.clock
    now t low high = omega (arith, low, high)

    at : (t : ℕ) → t ≤ old.clock → old.clock ≤ t → (d x : ℕ)
        → (new.leaves t d x ≡ old.leaves old.clock d x) × (new.could t d x ≡ old.could old.clock d x)
    at t high low d x = let past = same.goes_on.later.past t high d x in (
      past.0 ∙ ap (λ s. old.leaves s d x) (now t low high),
      past.1 ∙ ap (λ s. old.could s d x) (now t low high),
    )

one_touches : (uber : Uber) (entries : List IndexEntry) (lack_page lack_uber : ℕ) (before after : Point)
    (result : Result (Unit {0}) TooManyOut)
    → HasSpread uber entries lack_page lack_uber before after result
    → TouchesOnly (IsOnBelow uber.reflow.to) before.disk after.disk
one_touches uber entries lack_page lack_uber before after result spread =
    touches_widen (IsOnInUse uber.reflow.to before.out) (IsOnBelow uber.reflow.to) (λ d x here. here.0)
    spread.touches.only

both_touch : (uber : Uber) (entries : List IndexEntry) (lack_page lack_uber : ℕ) (before : Point) (renewed : Uber)
    (after : Point) (result : Result (Unit {0}) TooManyOut)
    → HasRenewed uber entries lack_page lack_uber before renewed after result
    → TouchesOnly (IsOnBelow uber.reflow.to) before.disk after.disk
both_touch uber entries lack_page lack_uber before renewed after result ran =
    touches_then (IsOnBelow uber.reflow.to) (IsOnBelow uber.reflow.to) (IsOnBelow uber.reflow.to)
    (λ d x here. here) (λ d x here. here)
    (one_touches uber entries lack_page lack_uber before ran.mid (Ok ran.value) ran.brought)
    (subst (λ (n : ℕ). TouchesOnly (IsOnBelow n) ran.mid.disk after.disk)
    (ap (λ (u : Uber). u.reflow.to) ran.renewed_is)
    (one_touches renewed entries _ _ ran.mid after result ran.spread))

ends_touch : (uber : Uber) (entries : List IndexEntry) (lack_page lack_uber : ℕ) (before after : Point)
    (result : Result Uber OpenWhy) → EndsRenewal uber entries lack_page lack_uber before after result
    → TouchesOnly (IsOnBelow uber.reflow.to) before.disk after.disk
ends_touch uber entries lack_page lack_uber before after (Ok renewed) ends =
    both_touch uber entries lack_page lack_uber before renewed after (Ok ends.0) ends.1
ends_touch uber entries lack_page lack_uber before after (Err why) ends = ⊎_elim
    (λ stops. one_touches uber entries lack_page lack_uber before after (Err stops.why) stops.brought)
    (λ stops. both_touch uber entries lack_page lack_uber before stops.renewed after (Err stops.why) stops.ran)
    ends.2

-- What is done with what was found touches the devices of its pool alone.
pub found_touches : (found : Found) {old mid new : Disk} (out : ℕ) (result : Result Uber OpenWhy)
    → Unchanged old mid → WritesFound found mid new out result
    → TouchesOnly (IsOnBelow found.uber.reflow.to) old new
found_touches found out result same writes =
    touches_then (IsOnBelow found.uber.reflow.to) (IsOnBelow found.uber.reflow.to) (IsOnBelow found.uber.reflow.to)
    (λ d x here. here) (λ d x here. here)
    (read_touches (IsOnBelow found.uber.reflow.to) (unchanged_then same writes.same))
    (ends_touch found.uber found.entries.items writes.lack_page found.lacks_uber _ _ result writes.ends)
