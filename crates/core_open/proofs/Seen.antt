-- What a look tells, from what was found.
use Rattle.std.proofs.Common.{◌≡◌, inr, ℕ, ◌<◌, Result, Ok, Err, refl}
use Rattle.std.specs.Prelude.{IfErr}
use Rattle.bank_trait.specs.Disk.{Image, Disk, Lawful, Unchanged}
use Rattle.bank_trait.proofs.Moments.{later_refl}
use Rattle.uberblock_ring.specs.Devices.{count_of}
use Rattle.uberblock_ring.specs.Valid.{IsRightUber}
use Rattle.core_state.specs.Map.{no_blocks}
use Rattle.core_open.specs.declared.finding.Found.{Found}
use Rattle.core_open.specs.declared.sight.Look.{Look}
use Rattle.core_open.specs.declared.why.OpenWhy.{OpenWhy}
use Rattle.core_open.specs.declared.why.OpenWhy.TheVariants as reason
use Rattle.core_open.specs.Causes.{IsOpenCause}
use Rattle.core_open.specs.Failing.{HaveFailed}
use Rattle.core_open.specs.Finding.{IsFoundIn, FitsOpening, IsFindCause}
use Rattle.core_open.specs.Holds.{HoldsImage, shape_of}
use Rattle.core_open.specs.Looking.{IsLookForMemory, IsSeenIn}
use Rattle.core_open.proofs.Finishing.{fits_then}
use Rattle.core_open.proofs.Unhindered.{find_caused, limit_apart, look_caused}
use Rattle.core_open.proofs.Written.{many_caused}

-- the look at what was found
abbrev pub look_of : Found → Look
look_of found = record { uber = found.uber; silent = found.silent; out = found.out }

-- It tells what an opening chooses, and who is out then.
pub seen : (old : Disk) (found : Found)
    → ((image : Image) → HoldsImage old image → IsFoundIn (shape_of old) image found)
    → (image : Image) → HoldsImage old image
    → IsSeenIn (shape_of old) image (look_of found)
seen old found found_in image holds = record {
  device = found.device;
  entries = found.entries.items;
  chosen = (found_in image holds).chosen;
  out = (found_in image holds).out no_blocks;
}

-- Too many devices are out.
pub many_cause : (old new : Disk) (found : Found) → Lawful old → Unchanged old new
    → ((image : Image) → HoldsImage old image → IsFoundIn (shape_of old) image found)
    → IsRightUber found.uber → HaveFailed old new found.silent → FitsOpening old found
    → found.uber.parity < count_of found.out
    → IsOpenCause old new (reason.TooManyFailed found.out)
many_cause old new found lawful same found_in right failed fits many =
    inr (many_caused found old new new lawful same found_in right failed
    (fits_then found old new same fits) (later_refl new) many)

pub many_memory : (old new : Disk) (found : Found) → Lawful old → Unchanged old new
    → ((image : Image) → HoldsImage old image → IsFoundIn (shape_of old) image found)
    → IsRightUber found.uber → HaveFailed old new found.silent → FitsOpening old found
    → found.uber.parity < count_of found.out
    → IsLookForMemory old new (reason.TooManyFailed found.out)
many_memory old new found lawful same found_in right failed fits many =
    look_caused old new (reason.TooManyFailed found.out) lawful (limit_apart _ refl)
    (many_cause old new found lawful same found_in right failed fits many)

-- Nothing was found.
find_unlimited : (why : OpenWhy) (old new : Disk) → IsFindCause old new why → (group : ℕ)
    → why ≡ reason.Limit group → ⊥
find_unlimited reason.NotPool old new cause group is = limit_apart _ refl group is
find_unlimited (reason.TooManyFailed out) old new cause group is = limit_apart _ refl group is
find_unlimited (reason.Limit number) old new cause group is = cause
find_unlimited reason.NoMemory old new cause group is = limit_apart _ refl group is

pub none_memory : (result : Result Look OpenWhy) (old new : Disk) → Lawful old
    → IfErr result (IsFindCause old new)
    → IfErr result (IsLookForMemory old new)
none_memory (Ok look) old new lawful cause = tt
none_memory (Err why) old new lawful cause =
    look_caused old new why lawful (find_unlimited why old new cause) (find_caused old new why cause)
