-- Runs of reads, which change nothing but counts of faults.
use Rattle.std.proofs.Common.{◌≡◌, ℕ, ◌≤◌, List, [], ◌∷◌, ◌++◌, refl, sym, ◌∙◌, ap, subst, arith}
use Rattle.bank_trait.specs.Causes.{FaultCounted}
use Rattle.bank_trait.specs.Disk.{Image, Disk, Unchanged}
use Rattle.bank_trait.proofs.Moments.{later_refl, later_trans}
use Rattle.core_state.specs.Keeps.{Kept, Setting}
use Rattle.core_state.specs.Collision.{BankKeeps}
use Rattle.core_state.specs.Moment.{KeepsSince}
use Rattle.core_state.proofs.Reaching.{widest_reach, reaches_no_further, keeps_to_reach}
use Rattle.core_state.proofs.Since.{might_at}
use Rattle.core_open.specs.declared.ring_uber.RingUber.{RingUber}
use Rattle.core_open.specs.Candidates.{FirstHasRoom}
use Rattle.core_open.specs.Holds.{HoldsImage, shape_of}

-- no call
pub unchanged_none : (disk : Disk) → Unchanged disk disk
unchanged_none disk = record {
  goes_on = record {
    later = later_refl disk;
    present = λ t after until d x. absurd (omega (arith, after, until));
  };
  clock = refl;
  reads = λ d x. refl;
}

-- one run of reads after another
pub unchanged_then : {old mid new : Disk} → Unchanged old mid → Unchanged mid new → Unchanged old new
unchanged_then {old = old} {mid = mid} {new = new} first next = record {
  goes_on = record {
    later = later_trans first.goes_on.later next.goes_on.later;
    present = λ t after until d x. absurd (omega (arith, after, until, first.clock, next.clock));
  };
  clock = next.clock ∙ first.clock;
  reads = λ d x. next.reads d x ∙ first.reads d x;
}

-- The bank goes on holding the image.
pub holds_then : {old new : Disk} {image : Image} → Unchanged old new → HoldsImage old image
    → HoldsImage new image
holds_then same holds = record {
  each = λ device device_sector low below. same.reads device device_sector
      ∙ holds.each device device_sector (omega (arith, low, same.goes_on.later.devices))
      (omega (arith, below, same.goes_on.later.sectors));
}

-- It held what it holds after some reads.
pub held_before : {old new : Disk} {image : Image} → Unchanged old new → HoldsImage new image
    → HoldsImage old image
held_before same holds = record {
  each = λ device device_sector low below. sym (same.reads device device_sector)
      ∙ holds.each device device_sector (omega (arith, low, same.goes_on.later.devices))
      (omega (arith, below, same.goes_on.later.sectors));
}

-- A count that rose before some reads, or in the middle of them, has risen.
pub rose_then : (old : Disk) {mid new : Disk} (device : ℕ) → FaultCounted (old.faults device) (mid.faults device)
    → Unchanged mid new
    → FaultCounted (old.faults device) (new.faults device)
rose_then old device rose same = omega (arith, rose, same.goes_on.later.faults device)

pub then_rose : {old mid : Disk} (new : Disk) (device : ℕ) → Unchanged old mid
    → FaultCounted (mid.faults device) (new.faults device)
    → FaultCounted (old.faults device) (new.faults device)
then_rose new device same rose = omega (arith, rose, same.goes_on.later.faults device)

-- The bank keeps its shape.
pub shape_then : {old new : Disk} → Unchanged old new → shape_of new ≡ shape_of old
shape_then same = λ i. record {
  devices = same.goes_on.later.devices i;
  sectors = same.goes_on.later.sectors i;
}

-- What has room on its devices had it.
pub room_then : {old mid : Disk} (ubers : List RingUber) → Unchanged old mid
    → FirstHasRoom mid.sectors ubers → FirstHasRoom old.sectors ubers
room_then ubers same room =
    subst (λ sectors. FirstHasRoom sectors ubers) same.goes_on.later.sectors room

-- Reads alone keep what was kept.
pub unchanged_keeps : (setting : Setting) (first : Kept) (later joined : List Kept) {old new : Disk}
    → Unchanged old new → BankKeeps setting first later old
    → KeepsSince setting ((first ∷ later) ++ joined) old.clock new
unchanged_keeps setting first later joined {old = old} {new = new} same keeps = record {
  each = λ moment since until. record {
    before = [];
    first = first;
    later = later;
    after = joined;
    row = refl;
    reach = widest_reach first later;
    no_further = reaches_no_further first later;
    keeps = λ image might. keeps_to_reach setting first later image
        (keeps image (might_at setting.shape new old moment old.clock image
        (at moment (omega (arith, since, until, same.clock)) (omega (arith, since, until, same.clock))) might));
  };
}
  where
    at : (moment : ℕ) → moment ≤ old.clock → moment ≡ old.clock → (d x : ℕ)
        → (new.leaves moment d x ≡ old.leaves old.clock d x)
        × (new.could moment d x ≡ old.could old.clock d x)
    at moment early now d x = let past = same.goes_on.later.past moment early d x in (
      past.0 ∙ ap (λ t. old.leaves t d x) now,
      past.1 ∙ ap (λ t. old.could t d x) now,
    )
