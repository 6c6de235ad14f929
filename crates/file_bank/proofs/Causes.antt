-- Why a call failed, from what its file counts.
use Rattle.std.proofs.Common.{◌≡◌, ◌⊎◌, inl, inr, ℕ, ◌<◌, List, length, Option, None, Result, Ok, Err, refl, sym, ◌∙◌}
use Rattle.std.proofs.Common.{ap, subst, arith, slice_index_or, slice_set}
use Rattle.std.proofs.lemmas.List.{get_or-set_same, get_or-set_other, get_or_default}
use Rattle.std.proofs.Common.{⊎_elim}
use Rattle.std.specs.Prelude.{OnErr}
use Rattle.bank_trait.specs.declared.Failed.{Failed}
use Rattle.bank_trait.specs.Causes.{FaultCounted, counted}
use Rattle.file_bank.specs.BlockFile.{CountsFault}
use Rattle.file_bank.specs.Files.{HasFileCause, OtherCountsStay, all_faults, faults_shown}

-- A call that failed has raised the count.
pub raised : {T E : Type 0} (before now : ℕ) (result : Result T E) (e : E) → result ≡ Err e
    → CountsFault before now result → FaultCounted before now
raised {T} {E} before now result e is counts = of_failed (subst (λ (r : Result T E). OnErr r (now ≡ counted before)) is counts.failed)
  where
    of_failed : now ≡ counted before → FaultCounted before now
    of_failed at = omega arith

-- A call that the file was asked for, and lacked nothing for.
pub asked : (lacks : Type 0) (before now : ℕ) (result : Result (Unit {0}) Failed) → (lacks → ⊥)
    → CountsFault before now result → HasFileCause lacks before now result
asked lacks before now (Ok done) has counts = record { later = counts.later; failed = tt; refused = has }
asked lacks before now (Err e) has counts = record {
  later = counts.later;
  failed = inr (raised before now (Err e) e refl counts);
  refused = tt;
}

-- A call that the file lacks something for, and is not asked for.
pub not_asked : (lacks : Type 0) (count : ℕ) (e : Failed) → lacks
    → HasFileCause lacks count count (Err e)
not_asked lacks count e without =
    record { later = omega arith; failed = inl without; refused = tt }

-- What else a call may lack, and did not.
pub or_lacks : (full lacks : Type 0) (before now : ℕ) (result : Result (Unit {0}) Failed) → (full → ⊥)
    → HasFileCause lacks before now result → HasFileCause (full ⊎ lacks) before now result
or_lacks full lacks before now (Ok done) has cause =
    record { later = cause.later; failed = tt; refused = ⊎_elim has cause.refused }
or_lacks full lacks before now (Err e) has cause = record {
  later = cause.later;
  failed = ⊎_elim (λ without. inl (inr without)) (λ rose. inr rose) cause.failed;
  refused = tt;
}

-- A call on one file, as a call on its device.
module _ {F : Type 0} (faults : F → ℕ) (files : List (Option F)) (d : ℕ) (was file : Option F)
    (below : d < length files) (is : was ≡ slice_index_or files d was) where
  pub in_bank : (Lacks : Option F → Type 0) (result : Result (Unit {0}) Failed)
      → HasFileCause (Lacks was) (faults_shown faults was) (faults_shown faults file) result
      → HasFileCause (Lacks (slice_index_or files d None)) (all_faults faults files d)
      (all_faults faults (slice_set files d file) d) result
  in_bank Lacks result cause =
      subst (λ (o : Option F). HasFileCause (Lacks o) (faults_shown faults o)
      (all_faults faults (slice_set files d file) d) result) (is ∙ get_or_default files d was None below)
      (subst (λ (n : ℕ). HasFileCause (Lacks was) (faults_shown faults was) n result)
      (sym (ap (faults_shown faults) (get_or-set_same files d file None below))) cause)

  pub others_stay : OtherCountsStay (all_faults faults files) (all_faults faults (slice_set files d file)) d
  others_stay e other = ap (faults_shown faults) (get_or-set_other files d e file None other)
