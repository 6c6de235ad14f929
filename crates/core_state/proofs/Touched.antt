-- What a run of calls that touches spare sectors alone leaves of what images keep.
use Rattle.std.proofs.Common.{⊎_elim, ℕ, ◌≤◌, List, refl, sym, ◌∙◌, subst, arith}
use Rattle.std.specs.Prelude.{Contains}
use Rattle.std.proofs.lemmas.Bool.{cases_lt}
use Rattle.bank_trait.specs.Disk.{Disk, Lawful}
use Rattle.bank_trait.specs.Regions.{TouchesOnly}
use Rattle.core_state.specs.Keeps.{Kept, Setting}
use Rattle.core_state.specs.Certain.{Knows}
use Rattle.core_state.specs.Free.{IsSpare}
use Rattle.core_state.specs.Moment.{IsRowOf, KeepsSince}
use Rattle.core_state.proofs.Frames.{Frames, none_lost}
use Rattle.core_state.proofs.Knowing.{knows_frame}
use Rattle.core_state.proofs.Since.{row_at, row_now}

module _ (P : ℕ → ℕ → Type 0) {old new : Disk} (touched : TouchesOnly P old new) where
  -- the disk as it was at a moment in between, but for what is read
  abbrev pub disk_at : ℕ → Disk
  disk_at moment = record new { clock = moment; reads = old.reads }

  frames_at : (moment : ℕ) → old.clock ≤ moment → moment ≤ new.clock
      → Frames P none_lost old (disk_at moment)
  frames_at moment low high = record {
    stays = λ d x bytes away is. (touched.moments moment low high d x away).0 ∙ is;
    held = λ d x bytes away is has. subst (λ (l : List (List ℕ)). Contains l bytes)
        (sym (touched.moments moment low high d x away).1) has;
    could = λ d x bytes away has. subst (λ (l : List (List ℕ)). Contains l bytes)
        (touched.moments moment low high d x away).1 has;
    reads = λ d x bytes away kept is. is;
  }

  pub touched_frames : Frames P none_lost old new
  touched_frames = record {
    stays = λ d x bytes away is. touched.leaves d x away ∙ is;
    held = λ d x bytes away is has. subst (λ (l : List (List ℕ)). Contains l bytes)
        (sym (touched.moments new.clock touched.later.clock (omega arith) d x away).1) has;
    could = λ d x bytes away has. subst (λ (l : List (List ℕ)). Contains l bytes)
        (touched.moments new.clock touched.later.clock (omega arith) d x away).1 has;
    reads = λ d x bytes away kept is. touched.reads d x away ∙ is;
  }

  module _ (setting : Setting) (first : Kept) (later : List Kept) (lawful : Lawful old)
      (spare : (d x : ℕ) → P d x → IsSpare setting first later d x)
      (knows : Knows setting first later old) where
    pub touched_knows : Knows setting first later new
    touched_knows =
        knows_frame P none_lost setting first later old new lawful touched_frames spare knows

    -- Each image of each moment in between keeps what was kept before.
    pub touched_since : (groups : List Kept) (since : ℕ) → IsRowOf groups first later
        → KeepsSince setting groups since old
        → KeepsSince setting groups since new
    touched_since groups since row kept = record {
      each = λ moment from until. ⊎_elim
          (λ late. let low : old.clock ≤ moment = omega (arith, late) in
          row_at setting groups new (disk_at moment) moment moment (λ d x. (refl, refl))
          (row_now setting groups first later (disk_at moment) row
          (knows_frame P none_lost setting first later old (disk_at moment) lawful
          (frames_at moment low until) spare knows)))
          (λ early. row_at setting groups new old moment moment (λ d x. touched.later.past moment early d x)
          (kept.each moment from early))
          (cases_lt old.clock moment);
    }
