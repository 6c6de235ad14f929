-- What one device call gave, and which devices are out behind it.
use Rattle.std.proofs.Common.{◌≡◌, ℕ, List, Some, None, Result, Ok, Err, Bool, true, false, refl}
use Rattle.std.specs.Prelude.{is_err, IsSome, IsTrue, OnOk, OnErr}
use Rattle.std.proofs.lemmas.Bool.{true≢false, false≢true}
use Rattle.bank_trait.specs.declared.Failed.{Failed}
use Rattle.bank_trait.specs.Causes.{FaultCounted, FailedOnce}
use Rattle.bank_trait.specs.Disk.{Unchanged}
use Rattle.core_state.specs.Committing.{Called, Point}
use Rattle.core_state.specs.declared.spot.Spot.{Spot}
use Rattle.core_state.specs.SpotReads.{given_by, IsRead}

-- A read that failed gave nothing,
pub read_failed : (spot : Spot) (result : Result (Unit {0}) Failed) (before after : Point) → true ≡ is_err result
    → OnErr result (FaultCounted (before.disk.faults spot.device) (after.disk.faults spot.device))
    → OnErr result (FailedOnce before.disk.faults after.disk.faults spot.device)
    → Unchanged before.disk after.disk → Called spot.device result before after
    → IsRead spot None before after
read_failed spot (Ok value) before after is failed once unchanged called = absurd (true≢false is)
read_failed spot (Err why) before after is failed once unchanged called = record {
  result = Err why;
  gave = tt;
  well = tt;
  failed = failed;
  once = once;
  unchanged = unchanged;
  called = called;
}

-- and one that came off gave what stands there.
pub read_came_off : (spot : Spot) (bytes : List ℕ) (result : Result (Unit {0}) Failed) (before after : Point)
    → false ≡ is_err result
    → OnOk result ((told : List ℕ) → before.disk.reads spot.device spot.device_sector ≡ Some told → bytes ≡ told)
    → OnOk result (after.disk ≡ before.disk)
    → Unchanged before.disk after.disk → Called spot.device result before after
    → IsRead spot (Some bytes) before after
read_came_off spot bytes (Err why) before after is gave well unchanged called = absurd (false≢true is)
read_came_off spot bytes (Ok value) before after is gave well unchanged called = record {
  result = Ok value;
  gave = gave;
  well = well;
  failed = tt;
  once = tt;
  unchanged = unchanged;
  called = called;
}

-- What it gave was read.
pub read_where_given : (has_read : Bool) (bytes : List ℕ) → IsSome (given_by has_read bytes) → IsTrue has_read
read_where_given true bytes given = refl
read_where_given false bytes given = absurd (false≢true given)
