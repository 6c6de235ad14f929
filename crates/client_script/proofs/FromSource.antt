-- How far a source has been read, and that a script from it has one answer at most.
use Rattle.std.proofs.Common.{◌≡◌, ℕ, List, ◌++◌, Option, Some, Ok, Err, refl, ◌∙◌, ap, subst, inl, inr}
use Rattle.std.specs.Prelude.{Result, IfOk, IfErr}
use Rattle.client_script.specs.declared.refused.ParseRefused.{ParseRefused}
use Rattle.client_script.specs.declared.refused.ParseRefused.TheVariants as parse
use Rattle.client_script.specs.declared.refused.ReadRefused.{ReadRefused}
use Rattle.client_script.specs.declared.refused.ReadRefused.TheVariants.{SourceFault, ScriptFault, Limit, NoMemory}
use Rattle.client_script.specs.Script.{Script, IsScript, IsOverLimit, IsFaultAt, reached_by}
use Rattle.client_script.specs.Faults.{IsFaultFor}
use Rattle.client_script.specs.Reading.{IsRefusedFor}
use Rattle.client_script.specs.FromSource.{read_refusal, IsToldWell, IsNotReadFor, IsReadUnlessNoMemory}
use Rattle.client_script.specs.FromSource.{IsReadFaultUnlessNoMemory}
use Rattle.client_script.proofs.OneAnswer.{one_script, script_or_fault, script_or_limit, one_fault, fault_or_limit}
use Rattle.client_script.proofs.OneAnswer.{one_limit}

-- So many bytes were read, and the rest is left.
pub record IsReadUpTo (bytes : List ℕ) (before now : Option (List ℕ)) : Type 0 where
  pub so_far : (told : List ℕ) → before ≡ Some told → (rest : List ℕ) × (now ≡ Some rest) × (bytes ++ rest ≡ told)

-- Bytes that were refused are no script, and why.
pub not_parsed : (left : Option (List ℕ)) (before now : ℕ) (bytes : List ℕ) (refused : ParseRefused) → ((told : List ℕ) → left ≡ Some told → bytes ≡ told) → IsRefusedFor bytes refused
    → IsNotReadFor left before now (read_refusal refused)
not_parsed left before now bytes (parse.ScriptFault line reason) all why = λ told is. subst (λ (l : List ℕ). IsFaultFor l line reason) (all told is) why
not_parsed left before now bytes (parse.Limit reached) all why = λ told is. subst (λ (l : List ℕ). (over : IsOverLimit l) × (reached ≡ reached_by l over)) (all told is) why
not_parsed left before now bytes parse.NoMemory all why = tt

-- Each answer comes wherever it is due.
module _ (left : Option (List ℕ)) (before now : ℕ) (bytes : List ℕ) (well : IsToldWell left bytes before now) where
  pub each_script : (result : Result Script ReadRefused) → IfOk result (λ script. (told : List ℕ) → left ≡ Some told → IsScript told script) → IfErr result (IsNotReadFor left before now)
      → (script : Script) → IsScript bytes script → IsReadUnlessNoMemory result (Ok script)
  each_script (Ok other) ok err script is = inl (ap Ok (one_script bytes other script (ok bytes well.told) is))
  each_script (Err SourceFault) ok err script is = absurd (well.well err)
  each_script (Err (ScriptFault line why)) ok err script is = absurd (script_or_fault bytes script line is (err bytes well.told).0)
  each_script (Err (Limit reached)) ok err script is = absurd (script_or_limit bytes script is (err bytes well.told).0)
  each_script (Err NoMemory) ok err script is = inr refl

  pub each_fault : (result : Result Script ReadRefused) → IfOk result (λ script. (told : List ℕ) → left ≡ Some told → IsScript told script) → IfErr result (IsNotReadFor left before now)
      → (line : ℕ) → IsFaultAt bytes line → IsReadFaultUnlessNoMemory result line
  each_fault (Ok other) ok err line is = absurd (script_or_fault bytes other line (ok bytes well.told) is)
  each_fault (Err SourceFault) ok err line is = absurd (well.well err)
  each_fault (Err (ScriptFault other why)) ok err line is = inl (why, ap (λ n. Err (ScriptFault n why)) (one_fault bytes other line (err bytes well.told).0 is))
  each_fault (Err (Limit reached)) ok err line is = absurd (fault_or_limit bytes line is (err bytes well.told).0)
  each_fault (Err NoMemory) ok err line is = inr refl

  pub each_limit : (result : Result Script ReadRefused) → IfOk result (λ script. (told : List ℕ) → left ≡ Some told → IsScript told script) → IfErr result (IsNotReadFor left before now)
      → (over : IsOverLimit bytes) → IsReadUnlessNoMemory result (Err (Limit (reached_by bytes over)))
  each_limit (Ok other) ok err over = absurd (script_or_limit bytes other (ok bytes well.told) over)
  each_limit (Err SourceFault) ok err over = absurd (well.well err)
  each_limit (Err (ScriptFault line why)) ok err over = absurd (fault_or_limit bytes line (err bytes well.told).0 over)
  each_limit (Err (Limit reached)) ok err over = let why = err bytes well.told in inl (ap (λ n. Err (Limit n)) (why.1 ∙ one_limit bytes why.0 over))
  each_limit (Err NoMemory) ok err over = inr refl
