-- What the end of a run does to the bank that the files make.
use Rattle.std.proofs.Common.{◌+◌}
use Rattle.std.proofs.Common.{◌≡◌, ◌≢◌, ◌⊎◌, inl, inr, ℕ, ◌<◌, ◌≤◌, List, length, Option, None, Result, refl, sym, ◌∙◌}
use Rattle.std.proofs.Common.{subst, arith, slice_index_or, slice_set}
use Rattle.std.proofs.lemmas.List.{get_or-set_same, get_or-set_other, length-set, get_or_default}
use Rattle.std.proofs.lemmas.Bool.{cases_eq}
use Rattle.std.specs.Prelude.{IsSome}
use Rattle.bank_trait.specs.declared.Failed.{Failed}
use Rattle.bank_trait.specs.Disk.{Disk, Unchanged}
use Rattle.bank_trait.proofs.Moments.{later_refl, later_trans}
use Rattle.file_bank.specs.BlockFile.{Contents}
use Rattle.file_bank.specs.Files.{shown, all_shown, as_bank, CountsCall}
use Rattle.file_bank.specs.Row.{TellsSame}

module _ {F : Type 0} (contents : F → Contents) (files : List (Option F)) (was file : Option F) (d : ℕ)
    (below : d < length files) (is : was ≡ slice_index_or files d was)
    (same : TellsSame (shown contents was) (shown contents file)) where
  all_same : (e : ℕ) → TellsSame (all_shown contents files e) (all_shown contents (slice_set files d file) e)
  all_same e = by_case (cases_eq e d)
    where
      here : TellsSame (all_shown contents files d) (all_shown contents (slice_set files d file) d)
      here = subst (λ (o : Option F). TellsSame (shown contents o) (all_shown contents (slice_set files d file) d))
          (is ∙ get_or_default files d was None below)
          (subst (λ (o : Option F). TellsSame (shown contents was) (shown contents o))
          (sym (get_or-set_same files d file None below)) same)

      by_case : (e ≡ d) ⊎ (e ≢ d)
          → TellsSame (all_shown contents files e) (all_shown contents (slice_set files d file) e)
      by_case (inl at) = subst (λ (k : ℕ). TellsSame (all_shown contents files k)
          (all_shown contents (slice_set files d file) k)) (sym at) here
      by_case (inr other) = subst (λ (o : Option F). TellsSame (all_shown contents files e) (shown contents o))
          (sym (get_or-set_other files d e file None other))
          (record { length = refl; reads = λ x. refl; leaves = λ t x. refl; could = λ t x. refl })

  pub finished_one : (faults counts : ℕ → ℕ) (sectors clock : ℕ) (result : Result (Unit {0}) Failed)
      → CountsCall faults counts d result
      → Unchanged (as_bank (length files) sectors (all_shown contents files) faults clock)
      (as_bank (length (slice_set files d file)) sectors (all_shown contents (slice_set files d file)) counts clock)
  finished_one faults counts sectors clock result counted = record {
    goes_on = record {
      later = record {
        devices = length-set files d file;
        sectors = refl;
        faults = counted.later;
        clock = omega arith;
        told = λ e x is. subst (λ (o : Option (List ℕ)). IsSome o) (sym ((all_same e).reads x)) is;
        past = λ t le e x. ((all_same e).leaves t x, (all_same e).could t x);
      };
      present = λ t above until e x. absurd (omega (arith, above, until));
    };
    clock = refl;
    reads = λ e x. (all_same e).reads x;
  }

  -- No file has a later call than it had.
  pub still_paced : (clock : ℕ) → (shown contents file).last ≡ (shown contents was).last
      → ((e : ℕ) → (all_shown contents files e).last ≤ clock)
      → (e : ℕ) → (all_shown contents (slice_set files d file) e).last ≤ clock
  still_paced clock last paced e = by_case (cases_eq e d)
    where
      there : (shown contents was).last ≤ clock
      there = subst (λ (o : Option F). (shown contents o).last ≤ clock)
          (sym (is ∙ get_or_default files d was None below)) (paced d)

      by_case : (e ≡ d) ⊎ (e ≢ d) → (all_shown contents (slice_set files d file) e).last ≤ clock
      by_case (inl at) = subst (λ (k : ℕ). (all_shown contents (slice_set files d file) k).last ≤ clock) (sym at)
          (subst (λ (o : Option F). (shown contents o).last ≤ clock) (sym (get_or-set_same files d file None below))
          (omega (arith, last, there)))
      by_case (inr other) = subst (λ (o : Option F). (shown contents o).last ≤ clock)
          (sym (get_or-set_other files d e file None other)) (paced e)

pub unchanged_none : (disk : Disk) → Unchanged disk disk
unchanged_none disk = record {
  goes_on = record { later = later_refl disk; present = λ t above until e x. absurd (omega (arith, above, until)) };
  clock = refl;
  reads = λ e x. refl;
}

pub unchanged_then : (old mid new : Disk) → Unchanged old mid → Unchanged mid new → Unchanged old new
unchanged_then old mid new first next = record {
  goes_on = record {
    later = later_trans first.goes_on.later next.goes_on.later;
    present = λ t above until e x. absurd (omega (arith, above, until, first.clock, next.clock));
  };
  clock = next.clock ∙ first.clock;
  reads = λ e x. next.reads e x ∙ first.reads e x;
}

-- What holds of each file up to here, and of the next one, which alone was changed, holds of one more.
pub one_more : {X : Type 0} (P : Option X → Type 0) (files now : List (Option X)) (number : ℕ)
    → ((d : ℕ) → d < number → P (slice_index_or files d None)) → P (slice_index_or now number None)
    → ((d : ℕ) → d ≢ number → slice_index_or now d None ≡ slice_index_or files d None)
    → (d : ℕ) → d < number + 1 → P (slice_index_or now d None)
one_more P files now number so_far here others d below = by_case (cases_eq d number)
  where
    by_case : (d ≡ number) ⊎ (d ≢ number) → P (slice_index_or now d None)
    by_case (inl at) = subst (λ (k : ℕ). P (slice_index_or now k None)) (sym at) here
    by_case (inr other) = subst P (sym (others d other)) (so_far d (omega (arith, below, other)))
