-- What an opening does with what was found.
use Rattle.std.specs.Prelude.{◌≡◌, ◌⊎◌, ℕ, ◌+◌, ◌^◌, ◌<◌, ◌≤◌, Result, Ok, Err}
use Rattle.bank_trait.specs.Disk.{Disk, Unchanged}
use Rattle.uberblock_ring.specs.Devices.{count_of, IsWithin}
use Rattle.core_state.specs.Committing.{point_of}
use Rattle.uberblock_ring.specs.Uberblock.{Uber, max_group}
use Rattle.core_open.specs.declared.finding.Found.{Found}
use Rattle.core_open.specs.declared.opening.Opened.{Opened}
use Rattle.core_open.specs.declared.why.OpenWhy.{OpenWhy}
use Rattle.core_open.specs.declared.why.OpenWhy.TheVariants as reason
use Rattle.core_open.specs.Failing.{HaveFailedSince}
use Rattle.core_open.specs.Lacking.{AreLacking}
use Rattle.core_open.specs.Opens.{EndsRenewal}

-- No more devices were out than there are parities. The others were asked for the page, and then that group and
-- the next group's uberblock were written; some devices went out in each.
pub record WritesFound (found : Found) (old new : Disk) (out : ℕ) (result : Result Uber OpenWhy) :
    Type 0 where
  pub few : count_of found.out ≤ found.uber.parity
  pub asked : Disk
  pub asked_out : ℕ
  pub lack_page : ℕ
  pub same : Unchanged old asked
  pub stay : IsWithin found.out asked_out
  pub gone : HaveFailedSince old asked found.out asked_out
  pub lacking : AreLacking old found.uber found.entries.items found.uber.reflow.to asked_out lack_page
  pub ends : EndsRenewal found.uber found.entries.items lack_page found.lacks_uber
      (point_of asked_out asked) (point_of out new) result
  pub below : out < 2 ^ found.uber.reflow.to
  pub limit : found.uber.group + 2 ≤ max_group

-- No group can be numbered two more; or too many devices are out before anything is written.
abbrev pub RefusesFound : Found → Disk → Disk → OpenWhy → Type 0
RefusesFound found old new (reason.Limit group) = Unchanged old new × (max_group < found.uber.group + 2)
RefusesFound found old new (reason.TooManyFailed out) =
    (Unchanged old new × (out ≡ found.out) × (found.uber.parity < count_of out))
    ⊎ WritesFound found old new out (Err (reason.TooManyFailed out))
RefusesFound found old new reason.NotPool = ⊥
RefusesFound found old new reason.NoMemory = Unchanged old new

-- how opening what was found ends
abbrev pub OpensFound : Found → Disk → Disk → Result Opened OpenWhy → Type 0
OpensFound found old new (Ok opened) = (opened.entries ≡ found.entries) × (opened.silent ≡ found.silent)
    × WritesFound found old new opened.out (Ok opened.uber)
OpensFound found old new (Err why) = RefusesFound found old new why
