use Rattle.std.proofs.Common.{◌≡◌, ℕ, take}
use Rattle.bank_mem.specs.Crash.{listed_as}
use Rattle.bank_mem.specs.CrashSteps.{tear_of}
use Rattle.bank_mem.proofs.crash.listed_tears.Given as goal

abbrev pub invariant-loop-entry : goal.invariant-loop-entry
invariant-loop-entry l =
    (d x : ℕ) → tear_of l.tears d x ≡ listed_as (take l.entry-index l.torn) d x
