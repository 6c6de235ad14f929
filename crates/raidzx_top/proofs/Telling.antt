-- Whether a call of a journal was answered with some trouble.
use Rattle.std.proofs.Common.{◌≡◌, ℕ, ◌<◌, List, refl}
use Rattle.core_state.specs.declared.item.Entry.{Entry}
use Rattle.core_state.specs.declared.item.Item.{Item}
use Rattle.core_state.specs.Legal.{CallAt}
use Rattle.schedule.specs.declared.whole_run.Ended.{Ended}
use Rattle.schedule.specs.declared.whole_run.Ended.TheVariants as ended
use Rattle.schedule.specs.declared.whole_run.Ran.{Ran}
use Rattle.raidzx_top.specs.declared.running.Trouble.{Trouble}
use Rattle.raidzx_top.specs.declared.running.Trouble.TheVariants as why
use Rattle.raidzx_top.specs.Running.{IsTold, StoppedFor}

-- None of the first items tells.
abbrev pub NoneTells : Trouble → List Item → ℕ → Type 0
NoneTells trouble items count = (index : ℕ) (entry : Entry) → index < count → CallAt items index entry
    → IsTold trouble entry.answer → ⊥

-- A run that neither want of memory nor a limit stopped answered each call.
pub ended_whole : (ran : Ran) → (StoppedFor ran why.NoMemory → ⊥) → (StoppedFor ran why.Limit → ⊥)
    → ran.ended ≡ ended.Whole
ended_whole ran memory limit = by ran.ended refl
  where
    by : (how : Ended) → ran.ended ≡ how → ran.ended ≡ ended.Whole
    by ended.Whole is = is
    by ended.NoMemory is = absurd (memory is)
    by ended.Limit is = absurd (limit is)
