-- What the calls write that bring a group to devices.
use Rattle.std.proofs.Common.{◌≡◌, ◌⊎◌, inl, inr, ⊎_elim, ℕ, ◌<◌, ◌≤◌, List, [], ◌∷◌, true, Result, Ok, Err, refl, sym}
use Rattle.std.proofs.Common.{◌∙◌, ap, subst, arith}
use Rattle.std.specs.Prelude.{Contains, All, ⊤, zero, suc}
use Rattle.std.proofs.lemmas.Bool.{cases_eq, cases_lt}
use Rattle.bank_trait.specs.declared.Failed.{Failed}
use Rattle.bank_trait.specs.Disk.{Disk, Lawful, Continues, Wrote, Synced}
use Rattle.bank_trait.proofs.Moments.{later_refl, later_trans, left_cases, left_now, left_last, now_left, before_write}
use Rattle.bank_trait.proofs.Moments.{before_sync}
use Rattle.bank_trait.proofs.Touches.{other_than}
use Rattle.block_record.specs.declared.entry.IndexEntry.{IndexEntry}
use Rattle.block_record.specs.Page.{page_sectors}
use Rattle.uberblock_ring.specs.Devices.{has_device, IsWithin}
use Rattle.uberblock_ring.specs.Uberblock.{Uber}
use Rattle.commit_job.specs.declared.call.CommitCall.{CommitCall}
use Rattle.commit_job.specs.declared.call.CommitCall.TheVariants.{IndexWrite, BaseSync, UberWrite, UberSync}
use Rattle.commit_job.specs.Stages.{device_of, after_next, spread_of}
use Rattle.core_state.specs.Committing.{Point}
use Rattle.core_commit.specs.Ran.{MadeOne, Step, Ran, RanBy}
use Rattle.core_commit.proofs.Going.{in_use_before}
use Rattle.core_commit.proofs.Halves.{stays_out}
use Rattle.core_commit.proofs.Running.{next_is}
use Rattle.core_commit.proofs.Spreading.{SpreadDue, SpreadOrdered, spread_ordered}
use Rattle.core_commit.specs.Writing.{IsSpreadUber, IsSpreadOf, WritesOnly}

-- no call
pub writes_none : (P : ℕ → ℕ → List ℕ → Type 0) (disk : Disk) → WritesOnly P disk disk
writes_none P disk = record {
  later = later_refl disk;
  crash = λ image left. (image, left_now image left, λ d x not_p. refl);
  could = λ t d x bytes low high has. let same : t ≡ disk.clock = omega (arith, low, high) in
      inr (subst (λ (s : ℕ). Contains (disk.could s d x) bytes) same has);
}

-- calls that write some bytes, then calls that write others
pub writes_then : (P Q R : ℕ → ℕ → List ℕ → Type 0) {old mid new : Disk}
    → ((d x : ℕ) (bytes : List ℕ) → P d x bytes → R d x bytes)
    → ((d x : ℕ) (bytes : List ℕ) → Q d x bytes → R d x bytes)
    → WritesOnly P old mid → WritesOnly Q mid new → WritesOnly R old new
writes_then P Q R {old = old} {mid = mid} {new = new} from_p from_q first next = record {
  later = later_trans first.later next.later;
  crash = λ image left. ⊎_elim
      (λ early. let was = first.crash image early in
      (was.0, was.1, λ d x not_r. was.2 d x (λ bytes p. not_r bytes (from_p d x bytes p))))
      (λ late. let between = next.crash image late in
      let was = first.crash between.0 (now_left old.clock mid between.0 first.later.clock between.1) in (
        was.0,
        was.1,
        λ d x not_r. between.2 d x (λ bytes q. not_r bytes (from_q d x bytes q))
            ∙ was.2 d x (λ bytes p. not_r bytes (from_p d x bytes p)),
      ))
      (left_cases old image next.later left);
  could = λ t d x bytes low high has. ⊎_elim
      (λ after. ⊎_elim (λ q. inl (from_q d x bytes q))
      (λ was. before mid.clock d x bytes first.later.clock (omega arith) was)
      (next.could t d x bytes (omega (arith, after)) high has))
      (λ early. before t d x bytes low early
      (subst (λ (l : List (List ℕ)). Contains l bytes) (next.later.past t early d x).1 has))
      (cases_lt mid.clock t);
}
  where
    before : (t d x : ℕ) (bytes : List ℕ) → old.clock ≤ t → t ≤ mid.clock → Contains (mid.could t d x) bytes
        → R d x bytes ⊎ Contains (old.could old.clock d x) bytes
    before t d x bytes low high has = ⊎_elim (λ p. inl (from_p d x bytes p)) (λ was. inr was)
        (first.could t d x bytes low high has)

-- At each moment of one call a sector could hold what it could after it, or before.
one_could : (P : ℕ → ℕ → List ℕ → Type 0) {old new : Disk} → Continues old new
    → ((d x : ℕ) (bytes : List ℕ) → Contains (new.could new.clock d x) bytes
    → P d x bytes ⊎ Contains (old.could old.clock d x) bytes)
    → (t d x : ℕ) (bytes : List ℕ) → old.clock ≤ t → t ≤ new.clock → Contains (new.could t d x) bytes
    → P d x bytes ⊎ Contains (old.could old.clock d x) bytes
one_could P {old = old} {new = new} one now t d x bytes low high has = ⊎_elim
    (λ after. now d x bytes (subst (λ (l : List (List ℕ)). Contains l bytes) (one.present t after high d x).1 has))
    (λ early. let same : t ≡ old.clock = omega (arith, early, low) in
    inr (subst (λ (l : List (List ℕ)). Contains l bytes)
    ((one.later.past t early d x).1 ∙ ap (λ s. old.could s d x) same) has))
    (cases_lt old.clock t)

pub wrote_writes : (P : ℕ → ℕ → List ℕ → Type 0) {old new : Disk} {d x : ℕ} {bytes : List ℕ}
    {result : Result (Unit {0}) Failed} → P d x bytes → Wrote old new d x bytes result
    → WritesOnly P old new
wrote_writes P {old = old} {new = new} {d = d} {x = x} {bytes = bytes} here wrote = record {
  later = wrote.goes_on.later;
  crash = λ image left. ⊎_elim
      (λ early. (image, early, λ e y not_p. refl))
      (λ now. let was = before_write wrote image now in (
        was.0,
        was.1,
        λ e y not_p. was.2 e y (other_than (λ e y. (b : List ℕ) × P e y b) d x e y (bytes, here)
            (λ some. not_p some.0 some.1)),
      ))
      (left_last image wrote.goes_on left);
  could = one_could P wrote.goes_on now;
}
  where
    now : (e y : ℕ) (b : List ℕ) → Contains (new.could new.clock e y) b
        → P e y b ⊎ Contains (old.could old.clock e y) b
    now e y b has = ⊎_elim
        (λ same_d. ⊎_elim
        (λ same_x. ⊎_elim
        (λ is. inl (subst (λ k. P k y b) (sym same_d) (subst (λ k. P d k b) (sym same_x)
        (subst (λ k. P d x k) (sym is) here))))
        (λ was. inr (subst (λ k. Contains (old.could old.clock k y) b) (sym same_d)
        (subst (λ k. Contains (old.could old.clock d k) b) (sym same_x) was)))
        (wrote.could b (subst (λ k. Contains (new.could new.clock d k) b) same_x
        (subst (λ k. Contains (new.could new.clock k y) b) same_d has))))
        (λ ne. inr (subst (λ (l : List (List ℕ)). Contains l b) (wrote.others_could e y (inr ne)) has)) (cases_eq y x))
        (λ ne. inr (subst (λ (l : List (List ℕ)). Contains l b) (wrote.others_could e y (inl ne)) has)) (cases_eq e d)

pub synced_writes : (P : ℕ → ℕ → List ℕ → Type 0) {old new : Disk} {d : ℕ} (result : Result (Unit {0}) Failed)
    → Lawful old → Synced old new d result
    → WritesOnly P old new
synced_writes P {old = old} {new = new} {d = d} result lawful synced = record {
  later = synced.goes_on.later;
  crash = λ image left. ⊎_elim
      (λ early. (image, early, λ e y not_p. refl))
      (λ now. (image, before_sync result lawful synced image now, λ e y not_p. refl))
      (left_last image synced.goes_on left);
  could = one_could P synced.goes_on (λ e y b has. inr (now result synced e y b has));
}
  where
    now : (r : Result (Unit {0}) Failed) → Synced old new d r → (e y : ℕ) (b : List ℕ)
        → Contains (new.could new.clock e y) b
        → Contains (old.could old.clock e y) b
    now (Ok _) s e y b has = ⊎_elim
        (λ same. subst (λ k. Contains (old.could old.clock k y) b) (sym same)
        (s.could y b (subst (λ k. Contains (new.could new.clock k y) b) same has)).1)
        (λ ne. subst (λ (l : List (List ℕ)). Contains l b) (s.others_could e y ne) has) (cases_eq e d)
    now (Err _) s e y b has = ⊎_elim
        (λ same. subst (λ k. Contains (old.could old.clock k y) b) (sym same)
        (subst (λ (l : List (List ℕ)). Contains l b) (s.still_could y)
        (subst (λ k. Contains (new.could new.clock k y) b) same has)))
        (λ ne. subst (λ (l : List (List ℕ)). Contains l b) (s.others_could e y ne) has) (cases_eq e d)

-- what is written that more may be written
pub writes_more : (P Q : ℕ → ℕ → List ℕ → Type 0) {old new : Disk}
    → ((d x : ℕ) (bytes : List ℕ) → P d x bytes → Q d x bytes)
    → WritesOnly P old new
    → WritesOnly Q old new
writes_more P Q {new = new} more writes = writes_then P P Q more more writes (writes_none P new)

module _ (uber : Uber) (entries : List IndexEntry) (lack_page lack_uber : ℕ) where
  -- The call is to a device that lacks what it writes.
  abbrev IsMeant : CommitCall → Type 0
  IsMeant (IndexWrite device part) = (device < uber.reflow.to) × (part < page_sectors uber.count)
      × (has_device lack_page device ≡ true)
  IsMeant (BaseSync device) = ⊤
  IsMeant (UberWrite device) = (device < uber.reflow.to) × (has_device lack_uber device ≡ true)
  IsMeant (UberSync device) = ⊤

  is_meant : (call : CommitCall) (rest : List CommitCall)
      → SpreadDue uber.reflow.to (page_sectors uber.count) lack_page lack_uber call rest
      → IsMeant call
  is_meant (IndexWrite device part) rest due = (due.0, due.1, due.2)
  is_meant (BaseSync device) rest due = tt
  is_meant (UberWrite device) rest due = (due.0, due.1)
  is_meant (UberSync device) rest due = tt

  all_meant : (plan : List CommitCall)
      → SpreadOrdered uber.reflow.to (page_sectors uber.count) lack_page lack_uber plan
      → All IsMeant plan
  all_meant [] ordered k d low = absurd (omega (arith, low))
  all_meant (call ∷ plan) ordered zero d low = is_meant call plan ordered.0
  all_meant (call ∷ plan) ordered (suc k) d low = all_meant plan ordered.1 k d (omega (arith, low))

  abbrev pub IsOfSpread : ℕ → ℕ → ℕ → List ℕ → Type 0
  IsOfSpread = IsSpreadOf uber entries lack_page lack_uber

  -- One of these calls.
  made_writes : (call : CommitCall) (before after : Point) → Lawful before.disk → IsMeant call
      → MadeOne uber entries call before after
      → WritesOnly (IsOfSpread before.out) before.disk after.disk
  made_writes (IndexWrite device part) before after lawful meant made =
      wrote_writes (IsOfSpread before.out) (inr (record {
        below = meant.0;
        lacks = meant.2;
        used = made.called.in_use;
        part = part;
        inside = meant.1;
        place = refl;
        bytes_are = refl;
      })) made.made
  made_writes (BaseSync device) before after lawful meant made =
      synced_writes (IsOfSpread before.out) made.result lawful made.made
  made_writes (UberWrite device) before after lawful meant made =
      wrote_writes (IsOfSpread before.out) (inl (record {
        below = meant.0;
        lacks = meant.1;
        used = made.called.in_use;
        slot = refl;
        bytes_are = refl;
      })) made.made
  made_writes (UberSync device) before after lawful meant made =
      synced_writes (IsOfSpread before.out) made.result lawful made.made

  -- A device that is in use was so before.
  pub was_uber : (before after : Point) → IsWithin before.out after.out → (d x : ℕ) (bytes : List ℕ)
      → IsSpreadUber uber lack_uber after.out d x bytes → IsSpreadUber uber lack_uber before.out d x bytes
  was_uber before after stay d x bytes spread = record {
    below = spread.below;
    lacks = spread.lacks;
    used = in_use_before before after d stay spread.used;
    slot = spread.slot;
    bytes_are = spread.bytes_are;
  }

  pub was_spread : (before after : Point) → IsWithin before.out after.out → (d x : ℕ) (bytes : List ℕ)
      → IsOfSpread after.out d x bytes → IsOfSpread before.out d x bytes
  was_spread before after stay d x bytes (inl spread) = inl (was_uber before after stay d x bytes spread)
  was_spread before after stay d x bytes (inr spread) = inr (record {
    below = spread.below;
    lacks = spread.lacks;
    used = in_use_before before after d stay spread.used;
    part = spread.part;
    inside = spread.inside;
    place = spread.place;
    bytes_are = spread.bytes_are;
  })

  -- What is known of some calls of a plan.
  record HaveWritten (point : Point) (left : List CommitCall) (now : Point) : Type 0 where
    lawful : Lawful now.disk
    meant : All IsMeant left
    stay : IsWithin point.out now.out
    writes : WritesOnly (IsOfSpread point.out) point.disk now.disk

  have_written : (steps : List Step) (plan left : List CommitCall) (point now : Point) → Lawful point.disk
      → All IsMeant plan → RanBy uber entries steps plan point left now
      → HaveWritten point left now
  have_written [] plan left point now lawful meant ran =
      subst (λ (l : List CommitCall). HaveWritten point l now) (sym ran.0)
      (subst (λ (n : Point). HaveWritten point plan n) (sym ran.1) (record {
        lawful = lawful;
        meant = meant;
        stay = λ device out. out;
        writes = writes_none (IsOfSpread point.out) point.disk;
      }))
  have_written (step ∷ steps) plan left point now lawful meant (rest, ran, is, made, left_is, now_is) =
      let so_far = have_written steps plan rest point step.before lawful meant ran in
      let next = next_is IsMeant step.before.out rest step.call so_far.meant is in
      subst (λ (l : List CommitCall). HaveWritten point l now) (sym left_is)
      (subst (λ (n : Point). HaveWritten point (after_next step.before.out rest) n) (sym now_is) (record {
        lawful = made.called.lawful;
        meant = next.rest;
        stay = λ device out. stays_out (device_of step.call) made.result step.before step.after made.called device
            (so_far.stay device out);
        writes = writes_then (IsOfSpread point.out) (IsOfSpread step.before.out) (IsOfSpread point.out) (λ d x bytes spread. spread)
            (was_spread point step.before so_far.stay) so_far.writes
            (made_writes step.call step.before step.after so_far.lawful next.fits made);
      }))

  -- A run of these calls writes the group's page and uberblock alone.
  pub ran_writes : (plan left : List CommitCall) (before after : Point) → Lawful before.disk
      → plan ≡ spread_of uber.reflow.to uber.count lack_page lack_uber
      → Ran uber entries plan before left after
      → WritesOnly (IsSpreadOf uber entries lack_page lack_uber before.out) before.disk after.disk
  ran_writes plan left before after lawful is ran =
      (have_written ran.0 plan left before after lawful
      (subst (All IsMeant) (sym is) (all_meant _ (spread_ordered uber.reflow.to uber.count lack_page lack_uber)))
      ran.1).writes
