-- The laws of a bank are those of its files.
use Rattle.std.specs.Prelude.{◌≡◌, ℕ, ◌≤◌, List, Option, Some, None, Contains, refl, slice_index_or}
use Rattle.std.proofs.Common.{sym, ◌∙◌, subst}
use Rattle.bank_trait.specs.Disk.{Lawful}
use Rattle.file_bank.specs.BlockFile.{Contents, LawfulFile, untold}
use Rattle.file_bank.specs.Files.{shown, all_shown, as_bank}

none_some : (bytes : List ℕ) → ◌≡◌ {A = Option (List ℕ)} None (Some bytes) → ⊥
none_some bytes is = cc

-- Where nothing is told the laws hold.
pub untold_lawful : (bytes : ℕ) → LawfulFile (untold bytes)
untold_lawful bytes = record {
  stays_read = λ x b is. absurd (none_some b is);
  stays_could = λ x b other is has. absurd (none_some b is);
  still = λ t later x. (refl, refl);
  whole = λ x b is. absurd (none_some b is);
}

-- Each file of a list is lawful.
pub all_lawful : {F : Type 0} (contents : F → Contents) → ((file : F) → LawfulFile (contents file))
    → (files : List (Option F)) (device : ℕ) → LawfulFile (all_shown contents files device)
all_lawful {F} contents laws files device = of_one (slice_index_or files device None)
  where
    of_one : (file : Option F) → LawfulFile (shown contents file)
    of_one (Some file) = laws file
    of_one None = untold_lawful 0

-- Files that are lawful make a lawful bank, where none has a call of a later moment than its clock.
pub joined_lawful : (devices sectors : ℕ) (files : ℕ → Contents) (faults : ℕ → ℕ) (clock : ℕ)
    → ((d : ℕ) → LawfulFile (files d)) → ((d : ℕ) → (files d).last ≤ clock)
    → Lawful (as_bank devices sectors files faults clock)
joined_lawful devices sectors files faults clock laws paced = record {
  stays_read = λ d x bytes is.
      (laws d).stays_read x bytes (sym (((laws d).still clock (paced d) x).0) ∙ is);
  stays_could = λ d x bytes other is has.
      (laws d).stays_could x bytes other (sym (((laws d).still clock (paced d) x).0) ∙ is)
      (subst (λ (l : List (List ℕ)). Contains l other) (((laws d).still clock (paced d) x).1) has);
}
