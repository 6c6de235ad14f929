-- How reading a script ends.
use Rattle.std.proofs.Common.{◌≡◌, ◌⊎◌, inl, inr, ⊎_elim, ℕ, ◌<◌, ◌≤◌, List, Some, Result, Ok, Err, refl}
use Rattle.std.specs.Prelude.{All}
use Rattle.client_script.specs.FromSource.{IsNotReadFor, IsReadUnlessNoMemory, IsReadFaultUnlessNoMemory}
use Rattle.client_script.specs.declared.line_fault.LineFault.{LineFault}
use Rattle.client_script.specs.declared.refused.ReadRefused.{ReadRefused}
use Rattle.client_script.specs.declared.refused.ReadRefused.TheVariants as read
use Rattle.client_script.specs.Script.{Script, IsAllowed, IsScript, IsOverLimit, IsFaultAt, reached_by}
use Rattle.raidzx_top.specs.Call.{Stream}
use Rattle.raidzx_top.specs.Running.{IsWell, HasRead, IsUnread}

-- Each answer of a read comes wherever it is due, but for want of memory.
module _ (source source_after : Stream) (result : Result Script ReadRefused)
    (every_script : (bytes : List ℕ) (script : Script) → IsWell source source_after bytes → IsScript bytes script
    → IsReadUnlessNoMemory result (Ok script))
    (every_fault : (bytes : List ℕ) (line : ℕ) → IsWell source source_after bytes → IsFaultAt bytes line
    → IsReadFaultUnlessNoMemory result line)
    (every_limit : (bytes : List ℕ) → IsWell source source_after bytes → (over : IsOverLimit bytes)
    → IsReadUnlessNoMemory result (Err (read.Limit (reached_by bytes over)))) where
  -- A script that was read breaks no rule.
  read_few : (script : Script) → result ≡ Ok script → (bytes : List ℕ) → IsWell source source_after bytes
      → IsOverLimit bytes → ⊥
  read_few script is bytes well over = ⊎_elim (λ other. clash other) (λ other. clash other) (every_limit bytes well over)
    where
      clash : {why : ReadRefused} → result ≡ Err why → ⊥
      clash other = cc

  read_right : (script : Script) → result ≡ Ok script → (bytes : List ℕ) (line : ℕ) → IsWell source source_after bytes
      → IsFaultAt bytes line → ⊥
  read_right script is bytes line well at = ⊎_elim (λ other. clash other.1) (λ other. clash other) (every_fault bytes line well at)
    where
      clash : {why : ReadRefused} → result ≡ Err why → ⊥
      clash other = cc

  -- Why there is none.
  same_why : (why given : ReadRefused) → result ≡ Err why → result ≡ Err given → why ≡ given
  same_why why given is other = cc

  unread_limit : (why : ReadRefused) → result ≡ Err why → (bytes : List ℕ) → IsWell source source_after bytes
      → IsOverLimit bytes → ((reached : ℕ) × (why ≡ read.Limit reached)) ⊎ (why ≡ read.NoMemory)
  unread_limit why is bytes well over = ⊎_elim
      (λ told. inl (reached_by bytes over, same_why why (read.Limit (reached_by bytes over)) is told))
      (λ memory. inr (same_why why read.NoMemory is memory)) (every_limit bytes well over)

  unread_fault : (why : ReadRefused) → result ≡ Err why → (bytes : List ℕ) (line : ℕ)
      → IsWell source source_after bytes → IsFaultAt bytes line
      → ((reason : LineFault) × (why ≡ read.ScriptFault line reason)) ⊎ (why ≡ read.NoMemory)
  unread_fault why is bytes line well at = ⊎_elim
      (λ told. inl (told.0, same_why why (read.ScriptFault line told.0) is told.1))
      (λ memory. inr (same_why why read.NoMemory is memory)) (every_fault bytes line well at)

  unread_script : (why : ReadRefused) → result ≡ Err why → (bytes : List ℕ) (script : Script)
      → IsWell source source_after bytes → IsScript bytes script → why ≡ read.NoMemory
  unread_script why is bytes script well right = ⊎_elim
      (λ other. absurd (clash other)) (λ memory. same_why why read.NoMemory is memory) (every_script bytes script well right)
    where
      clash : result ≡ Ok script → ⊥
      clash other = cc

-- What stands where a script was read.
pub was_read : (source source_after : Stream) (script : Script)
    → ((bytes : List ℕ) → source.bytes ≡ Some bytes → IsScript bytes script)
    → All (λ placed. IsAllowed placed.call) script.calls
    → (script.clients ≤ 8) × All (λ placed. placed.actor < script.clients) script.calls
    → ((bytes : List ℕ) (asked : Script) → IsWell source source_after bytes → IsScript bytes asked
    → IsReadUnlessNoMemory (Ok script) (Ok asked))
    → ((bytes : List ℕ) (line : ℕ) → IsWell source source_after bytes → IsFaultAt bytes line
    → IsReadFaultUnlessNoMemory (Ok script) line)
    → ((bytes : List ℕ) → IsWell source source_after bytes → (over : IsOverLimit bytes)
    → IsReadUnlessNoMemory (Ok script) (Err (read.Limit (reached_by bytes over))))
    → HasRead source source_after script
was_read source source_after script is allowed actors every_script every_fault every_limit = record {
  is = is;
  allowed = allowed;
  clients = actors.0;
  actors = actors.1;
  few = read_few source source_after (Ok script) every_script every_fault every_limit script refl;
  right = read_right source source_after (Ok script) every_script every_fault every_limit script refl;
}

-- And where none was.
pub was_unread : (source source_after : Stream) (why : ReadRefused)
    → IsNotReadFor source.bytes source.faults source_after.faults why
    → ((bytes : List ℕ) (asked : Script) → IsWell source source_after bytes → IsScript bytes asked
    → IsReadUnlessNoMemory (Err why) (Ok asked))
    → ((bytes : List ℕ) (line : ℕ) → IsWell source source_after bytes → IsFaultAt bytes line
    → IsReadFaultUnlessNoMemory (Err why) line)
    → ((bytes : List ℕ) → IsWell source source_after bytes → (over : IsOverLimit bytes)
    → IsReadUnlessNoMemory (Err why) (Err (read.Limit (reached_by bytes over))))
    → IsUnread source source_after why
was_unread source source_after why cause every_script every_fault every_limit = record {
  cause = cause;
  limit = unread_limit source source_after (Err why) every_script every_fault every_limit why refl;
  fault = unread_fault source source_after (Err why) every_script every_fault every_limit why refl;
  script = unread_script source source_after (Err why) every_script every_fault every_limit why refl;
}
