-- What a write leaves in its sector where no sync of its device follows.
use Rattle.std.proofs.Common.{◌≡◌, ◌⊎◌, inl, inr, ℕ, List, Option, Some, sym, ◌∙◌, ap, subst}
use Rattle.bank_trait.specs.Disk.{Known}
use Rattle.bank_mem.specs.declared.record.Call.{Call}
use Rattle.bank_mem.specs.declared.record.Call.TheVariants.{Write, FailedWrite}
use Rattle.bank_mem.specs.declared.crash.Tear.{Tear}
use Rattle.bank_mem.specs.Record.{put}
use Rattle.bank_mem.specs.CrashSteps.{torn_to, torn_after}

-- A write, carried out or failed, of these bytes to this sector.
abbrev pub Hands : Call → ℕ → ℕ → List ℕ → Type 0
Hands call d x bytes = ((number : ℕ) × (call ≡ Write number d x bytes))
    ⊎ ((number : ℕ) × (call ≡ FailedWrite number d x bytes))

-- What its sector's listing says is put there.
pub torn_put : (listed : ℕ → ℕ → Option Tear) (old new : Known) (call : Call) (d x : ℕ)
    (bytes left : List ℕ) (how : Tear) → Hands call d x bytes → listed d x ≡ Some how
    → torn_to (Some how) bytes (old d x) ≡ Some left
    → ((e y : ℕ) → new e y ≡ put old d x (Some left) e y)
    → (e y : ℕ) → new e y ≡ torn_after listed old call e y
torn_put listed old new call d x bytes left how hands is leaves held e y = go hands
  where
    same : new e y ≡ put old d x (torn_to (listed d x) bytes (old d x)) e y
    same = held e y
        ∙ ap (λ (o : Option (List ℕ)). put old d x o e y)
        (sym leaves ∙ ap (λ (h : Option Tear). torn_to h bytes (old d x)) (sym is))

    go : Hands call d x bytes → new e y ≡ torn_after listed old call e y
    go (inl write) = subst (λ (c : Call). new e y ≡ torn_after listed old c e y) (sym write.1) same
    go (inr failed) = subst (λ (c : Call). new e y ≡ torn_after listed old c e y) (sym failed.1) same
