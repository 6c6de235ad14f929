-- What is kept stays in use over each step.
use Rattle.std.proofs.Common.{◌≡◌, ℕ, ◌<◌, ◌≤◌, List, sym, subst, arith, inl, inr, ⊎_elim, Some, None}
use Rattle.std.specs.Prelude.{Contains, Option, nat_lt}
use Rattle.std.proofs.lemmas.Bool.{lt-ltb}
use Rattle.width_map.specs.declared.birth.Birth.{Birth}
use Rattle.range_locks.specs.declared.hold.Hold.{Hold}
use Rattle.space_alloc.specs.Space.{Run, HeldRun, Space, IsIn, IsTaken, IsFreeRun, IsTaking, IsDropping, IsHolding}
use Rattle.space_alloc.specs.Space.{after_group}
use Rattle.block_record.specs.declared.entry.IndexEntry.{IndexEntry}
use Rattle.block_record.specs.Page.{IsIndex}
use Rattle.core_blocks.specs.Blocks.{Blocks, AreInStep, run_of}
use Rattle.core_blocks.specs.Puts.{HoldsBack}
use Rattle.core_blocks.specs.Kept.{IsInUsePast, NoneFree, SparesAll}
use Rattle.core_blocks.proofs.Lists.{gains_old, gains_cases, gains_item, filter_listed}
use Rattle.core_blocks.proofs.Listed.{among_listed}

-- What stays in use stays kept.
pub kept_where : (old new : Blocks) (past : ℕ) (kept : List IndexEntry)
    → new.parity ≡ old.parity → new.births ≡ old.births
    → ((entry : IndexEntry) (sector : ℕ) → Contains kept entry
    → (let run : Run = run_of old.parity old.births entry in IsIn run.start run.len sector)
    → IsInUsePast old.space past sector → IsInUsePast new.space past sector)
    → NoneFree old past kept → NoneFree new past kept
kept_where old new past kept parity births stays free = record {
  each = λ entry sector listed inside.
      let here = subst (λ (b : List Birth).
      let run : Run = run_of old.parity b entry in IsIn run.start run.len sector) births
      (subst (λ (p : ℕ). let run : Run = run_of p new.births entry in
      IsIn run.start run.len sector) parity inside) in
      stays entry sector listed here (free.each entry sector listed here);
}

taken_more : (old new : Space) (run : Run) (sector : ℕ) → IsTaking old new run.start run.len
    → IsTaken old sector → IsTaken new sector
taken_more old new run sector taking taken =
    (taken.0, gains_old old.taken new.taken run taken.0 taking.taken taken.1, taken.2)

-- A run that is taken frees nothing,
pub in_use_taking : (old new : Space) (run : Run) (past sector : ℕ)
    → IsTaking old new run.start run.len → IsInUsePast old past sector → IsInUsePast new past sector
in_use_taking old new run past sector taking used = ⊎_elim
    (λ taken. inl (taken_more old new run sector taking taken))
    (λ back. inr (
      back.0,
      subst (λ (all : List HeldRun). Contains all back.0) (sym taking.held) back.1,
      back.2,
      back.3,
    )) used

-- one that is dropped only its own sectors,
pub in_use_dropping : (old new : Space) (run : Run) (past sector : ℕ)
    → IsDropping old new run.start run.len → (IsIn run.start run.len sector → ⊥)
    → IsInUsePast old past sector → IsInUsePast new past sector
in_use_dropping old new run past sector dropping outside used = ⊎_elim
    (λ taken. ⊎_elim
    (λ same. absurd (outside (subst (λ (r : Run). IsIn r.start r.len sector) (sym same) taken.2)))
    (λ still. inl (taken.0, still, taken.2))
    (gains_cases new.taken old.taken run taken.0 dropping.taken taken.1))
    (λ back. inr (
      back.0,
      subst (λ (all : List HeldRun). Contains all back.0) (sym dropping.held)
          back.1,
      back.2,
      back.3,
    )) used

-- one that is held back none before its group,
pub in_use_holding : (old new : Space) (run : Run) (group past sector : ℕ)
    → IsHolding old new run.start run.len group → past < group → IsInUsePast old past sector
    → IsInUsePast new past sector
in_use_holding old new run group past sector holding before used =
    let back : HeldRun = record { start = run.start; len = run.len; group = group } in
    ⊎_elim
    (λ taken. ⊎_elim
    (λ same. inr (
      back,
      gains_item old.held new.held back holding.held,
      subst (λ (r : Run). IsIn r.start r.len sector) (sym same) taken.2,
      before,
    ))
    (λ still. inl (taken.0, still, taken.2))
    (gains_cases new.taken old.taken run taken.0 holding.taken taken.1))
    (λ was. inr (was.0, gains_old old.held new.held back was.0 holding.held was.1, was.2, was.3))
    used

pub in_use_held : (parity : ℕ) (births : List Birth) (old new : Space) (group past sector : ℕ)
    (gone : Option IndexEntry) → HoldsBack parity births old new group gone → past < group
    → IsInUsePast old past sector → IsInUsePast new past sector
in_use_held parity births old new group past sector None same before used =
    subst (λ (s : Space). IsInUsePast s past sector) (sym same) used
in_use_held parity births old new group past sector (Some entry) holding before used =
    in_use_holding old new (run_of parity births entry) group past sector holding before used

-- and an answer up to a group none that is held back until a later one.
pub in_use_after : (space : Space) (group past sector : ℕ) → group ≤ past
    → IsInUsePast space past sector → IsInUsePast (after_group space group) past sector
in_use_after space group past sector answered used = ⊎_elim (λ taken. inl taken)
    (λ back. inr (
      back.0,
      filter_listed (λ run. nat_lt group run.group) space.held back.0
          (lt-ltb group back.0.group (omega (arith, answered, back.3))) back.1,
      back.2,
      back.3,
    )) used

-- Free sectors are no kept block's.
pub free_spares : (blocks : Blocks) (holds : List Hold) (run : Run) (past : ℕ)
    (kept : List IndexEntry) → IsFreeRun blocks.space holds run.start run.len
    → NoneFree blocks past kept → SparesAll blocks.parity blocks.births kept run
free_spares blocks holds run past kept free none entry listed sector inside its = ⊎_elim
    (λ taken. (free sector inside).untaken taken)
    (λ back. (free sector inside).not_held (back.0, back.1, back.2))
    (none.each entry sector listed its)

-- The blocks themselves are kept.
pub blocks_kept : (blocks : Blocks) (past : ℕ) → AreInStep blocks → IsIndex blocks.table.entries
    → NoneFree blocks past blocks.table.entries
blocks_kept blocks past step index = record {
  each = λ entry sector listed inside. inl (
    run_of blocks.parity blocks.births entry,
    (step.each entry (among_listed blocks.table.entries entry index listed)).taken,
    inside,
  );
}
