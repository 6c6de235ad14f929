-- What is known of a commit between two of its steps, and that calls beside it keep that.
use Rattle.std.proofs.Common.{◌≡◌, ◌≢◌, ◌⊎◌, inl, inr, ⊎_elim, ℕ, ◌+◌, ◌<◌, List, [], ◌∷◌, Bool, true, false, refl, sym}
use Rattle.std.proofs.Common.{◌∙◌, ap, subst, arith, ◌≤◌}
use Rattle.std.specs.Prelude.{Contains}
use Rattle.bank_trait.specs.Disk.{Lawful, Unchanged}
use Rattle.bank_trait.specs.Regions.{TouchesOnly}
use Rattle.block_record.specs.Page.{page_sectors}
use Rattle.uberblock_ring.specs.Devices.{has_device, IsWithin}
use Rattle.uberblock_ring.specs.Uberblock.{Uber, slot_of, area_sector}
use Rattle.uberblock_ring.specs.Valid.{IsRightUber, AreAlike}
use Rattle.commit_job.specs.declared.call.CommitCall.{CommitCall}
use Rattle.commit_job.specs.Stages.{device_of}
use Rattle.core_state.specs.Keeps.{Kept, Setting}
use Rattle.core_state.specs.Certain.{Asks, IsSound, Knows}
use Rattle.core_state.specs.Committing.{Point}
use Rattle.core_state.specs.Free.{IsSpare}
use Rattle.core_state.proofs.Listed.{contains_head, contains_cases, contains_none}
use Rattle.core_state.proofs.Places.{data_is_no_page, data_is_no_slot, page_place, slot_low}
use Rattle.core_state.proofs.Frames.{Nowhere, none_lost, unchanged_frames}
use Rattle.core_state.proofs.Knowing.{knows_frame, certain_frame}
use Rattle.core_state.proofs.Calls.{true_false, Moves}
use Rattle.core_state.proofs.Laying.{IsPaged, unsigned_frame}
use Rattle.core_state.proofs.Signing.{IsSigner, signed_frame}
use Rattle.core_state.proofs.Moving.{knows_widen}
use Rattle.core_state.proofs.Touched.{touched_frames}
use Rattle.core_commit.specs.declared.commit_run.Stage.{Stage}
use Rattle.core_commit.specs.declared.commit_run.Stage.TheVariants.{Lays, Signs}
use Rattle.core_commit.specs.CommitTurns.{CommitRun, CommitsSoFar, IsCommitting, IsBeside, shown_at, shown_by}
use Rattle.core_commit.proofs.Going.{in_use_before}
use Rattle.core_commit.proofs.Halves.{sound_paged}

module _ (setting : Setting) (first next : Kept) where
  come_knows : (stage : Stage) (uber : Uber) (calls : List CommitCall) (point : Point)
      → CommitsSoFar setting first next stage uber calls point
      → Knows setting first (shown_at next stage) point.disk
  come_knows Lays uber calls point come = come.unsigned.knows
  come_knows Signs uber calls point come = come.signed.knows

  -- What is known between two steps.
  pub committing_knows : (run : CommitRun) (point : Point) → IsCommitting setting first next run point
      → Knows setting first (shown_by next run) point.disk
  committing_knows run point is = come_knows run.stage run.uber run.calls point is.so_far

  -- A commit that is given up in either half: images show the first group, and maybe its own.
  pub committing_cut : (run : CommitRun) (point : Point) → IsCommitting setting first next run point
      → Knows setting first (next ∷ []) point.disk
  committing_cut run point is = knows_widen setting first (shown_by next run) (next ∷ []) point.disk is.row
      (wider run.stage) (committing_knows run point is)
    where
      wider : (stage : Stage) (kept : Kept) → Contains (first ∷ shown_at next stage) kept
          → Contains (first ∷ next ∷ []) kept
      wider Signs kept has = has
      wider Lays kept has = ⊎_elim
          (λ same. subst (λ (k : Kept). Contains (first ∷ next ∷ []) k) (sym same) (contains_head first (next ∷ [])))
          (λ none. absurd (contains_none kept none)) (contains_cases first [] kept has)

  -- Its uberblock may be written, and doesn't go to the first group's slot.
  pub signer_of : (uber : Uber) → IsRightUber uber → AreAlike uber next.uber → IsSound setting next
      → next.uber.reflow.to ≤ setting.reach
      → IsSigner setting first next uber
  signer_of uber right alike sound reach = record {
    right = right;
    alike = alike;
    pool_is = ap (λ (u : Uber). u.pool) alike ∙ sound.pool_is;
    reach = reach;
  }

  pub slots_of : (next.uber.group ≡ first.uber.group + 1) ⊎ (next.uber.group ≡ first.uber.group + 2)
      → slot_of next.uber.group ≢ slot_of first.uber.group
  slots_of near same = ⊎_elim (λ one. omega (arith, one, same)) (λ two. omega (arith, two, same)) near

  module _ (here : ℕ → ℕ → Type 0) (beside : IsBeside setting first next here)
      (sound_first : IsSound setting first) (sound : IsSound setting next) where
    paged_beside : IsPaged next
    paged_beside = sound_paged setting next sound

    off_page : (kept : Kept) → IsPaged kept → (d x part : ℕ) → here d x
        → part < page_sectors kept.uber.count
        → x ≢ area_sector kept.uber.area + part
    off_page kept paged d x part h low same =
        let place = page_place kept.uber part paged.area paged.count low in
        data_is_no_page x (beside.region d x h) (omega (arith, same, place.0))
        (let area = paged.area in omega (arith, same, place.1, area))

    off_slot : (d : ℕ) (kept : Kept) → here d (slot_of kept.uber.group) → ⊥
    off_slot d kept h = data_is_no_slot (slot_of kept.uber.group) (beside.region d (slot_of kept.uber.group) h)
        (slot_low kept.uber.group)

    asked : (kept : Kept) → (kept ≡ first) ⊎ (kept ≡ next) → (d x : ℕ) (bytes : List ℕ) → here d x
        → (asks : Asks kept d x bytes)
        → Contains kept.excepted (asks.cell.sector, (d, x))
    asked kept (inl is) d x bytes h = subst (λ (k : Kept). (asks : Asks k d x bytes)
        → Contains k.excepted (asks.cell.sector, (d, x))) (sym is) (beside.not_first d x bytes h)
    asked kept (inr is) d x bytes h = subst (λ (k : Kept). (asks : Asks k d x bytes)
        → Contains k.excepted (asks.cell.sector, (d, x))) (sym is) (beside.not_next d x bytes h)

    either : (stage : Stage) (kept : Kept) → Contains (first ∷ shown_at next stage) kept
        → (kept ≡ first) ⊎ (kept ≡ next)
    either Lays kept has = ⊎_elim (λ same. inl same) (λ none. absurd (contains_none kept none))
        (contains_cases first [] kept has)
    either Signs kept has = ⊎_elim (λ same. inl same)
        (λ more. ⊎_elim (λ same. inr same) (λ none. absurd (contains_none kept none))
        (contains_cases next [] kept more))
        (contains_cases first (next ∷ []) kept has)

    spare : (stage : Stage) (d x : ℕ) → here d x → IsSpare setting first (shown_at next stage) d x
    spare stage d x h = record {
      ring = ⊎_elim (λ scratch. scratch.0) (λ rows. omega (arith, rows)) (beside.region d x h);
      page = λ below works part low. off_page first (sound_paged setting first sound_first) d x part h low;
      cells = λ kept bytes has asks. asked kept (either stage kept has) d x bytes h asks;
    }

    come_frame : (stage : Stage) (uber : Uber) (calls : List CommitCall) (before after : Point)
        → IsSigner setting first next uber → Moves here before after
        → CommitsSoFar setting first next stage uber calls before
        → CommitsSoFar setting first next stage uber calls after
    come_frame Lays uber calls before after signer moves come = record {
      unsigned = unsigned_frame setting first [] next (sound_paged setting first sound_first) paged_beside here
          calls before after moves (spare Lays) (λ d x bytes h asks. beside.not_next d x bytes h asks)
          (λ d part low. inr (λ h. off_page next paged_beside d _ part h low refl))
          (λ d. inr (λ part low h. off_page next paged_beside d _ part h low refl)) come.unsigned;
      unsaid = come.unsaid;
    }
    come_frame Signs uber calls before after signer moves come =
        let signed = come.signed in record {
          signed = signed_frame setting first (next ∷ []) next uber (sound_paged setting first sound_first)
              paged_beside signer here calls before after moves
              (knows_frame here moves.lost setting first (next ∷ []) before.disk after.disk signed.lawful
              moves.frames (spare Signs) signed.knows)
              (certain_frame here moves.lost setting before.disk after.disk (first ∷ next ∷ []) uber moves.frames
              (λ kept d x bytes has asks h. asked kept (either Signs kept has) d x bytes h asks) signed.known)
              (λ d. inr (off_slot d next))
              (λ d part low. inr (λ h. off_page next paged_beside d _ part h low refl))
              (λ d. inr (λ part low h. off_page next paged_beside d _ part h low refl)) signed;
          spent = λ call among laying. stays (device_of call) (come.spent call among laying)
              (has_device after.out (device_of call)) refl;
        }
      where
        stays : (d : ℕ) → has_device before.out d ≡ true → (b : Bool) → has_device after.out d ≡ b
            → has_device after.out d ≡ true
        stays d gone true is = is
        stays d gone false is = absurd (true_false (sym gone ∙ (moves.used d is).0))

  -- Another call between two steps.
  pub committing_frame : (here : ℕ → ℕ → Type 0) (run : CommitRun) (before after : Point)
      → IsBeside setting first next here → Moves here before after
      → IsCommitting setting first next run before
      → IsCommitting setting first next run after
  committing_frame here run before after beside moves is = record {
    row = is.row;
    sound_first = is.sound_first;
    sound = is.sound;
    right = is.right;
    alike = is.alike;
    entries_are = is.entries_are;
    parity_is = is.parity_is;
    area = is.area;
    near = is.near;
    ordered = is.ordered;
    so_far = come_frame here beside is.sound_first is.sound run.stage run.uber run.calls before after
        (signer_of run.uber is.right is.alike is.sound (is.row.widths 1 next (omega arith)).most) moves is.so_far;
  }

  nowhere_beside : IsBeside setting first next Nowhere
  nowhere_beside = record {
    region = λ d x h. absurd h;
    not_first = λ d x bytes h asks. absurd h;
    not_next = λ d x bytes h asks. absurd h;
  }

  used_before : (before after : Point) → IsWithin before.out after.out → (device : ℕ)
      → has_device after.out device ≡ false
      → (has_device before.out device ≡ false) × (none_lost device ≡ false)
  used_before before after grows device used = (in_use_before before after device grows used, refl)

  -- A run of calls between two steps, in which devices may go out.
  pub committing_touched : (P : ℕ → ℕ → Type 0) (run : CommitRun) (before after : Point)
      → IsBeside setting first next P → TouchesOnly P before.disk after.disk
      → IsWithin before.out after.out → Lawful after.disk
      → IsCommitting setting first next run before
      → IsCommitting setting first next run after
  committing_touched P run before after beside touched grows lawful is =
      committing_frame P run before after beside (record {
        lost = none_lost;
        frames = touched_frames P touched;
        used = used_before before after grows;
        told = λ d x told. touched.later.told d x told;
        lawful = lawful;
      }) is

  -- A read between two steps.
  pub committing_unchanged : (run : CommitRun) (before after : Point)
      → Unchanged before.disk after.disk → IsWithin before.out after.out → Lawful after.disk
      → IsCommitting setting first next run before
      → IsCommitting setting first next run after
  committing_unchanged run before after same grows lawful is =
      committing_frame Nowhere run before after nowhere_beside (record {
        lost = none_lost;
        frames = unchanged_frames same;
        used = used_before before after grows;
        told = λ d x told. same.goes_on.later.told d x told;
        lawful = lawful;
      }) is
