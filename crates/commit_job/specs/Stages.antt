-- The calls of a commit: index, sync, uberblock, sync, each by device.
use Rattle.std.specs.Prelude.{ℕ, zero, suc, ◌+◌, List, [], ◌∷◌, ◌++◌, map, flat_map, filter, not, if◌then◌else◌}
use Rattle.block_record.specs.Page.{page_sectors}
use Rattle.uberblock_ring.specs.Devices.{has_device}
use Rattle.uberblock_ring.specs.Uberblock.{Uber, area_sector, slot_of}
use Rattle.commit_job.specs.declared.call.CommitCall.{CommitCall}
use Rattle.commit_job.specs.declared.call.CommitCall.TheVariants.{IndexWrite, BaseSync, UberWrite, UberSync}

-- the numbers below one, upwards
abbrev pub numbers_below : ℕ → List ℕ
numbers_below zero = []
numbers_below (suc number) = numbers_below number ++ number ∷ []

-- the sectors of the index page on a device
abbrev pub index_writes : ℕ → ℕ → List CommitCall
index_writes count device = map (λ part. IndexWrite device part) (numbers_below (page_sectors count))

-- all calls over so many devices, of a group with so many index entries
abbrev pub plan_of : ℕ → ℕ → List CommitCall
plan_of devices count = flat_map (index_writes count) (numbers_below devices)
    ++ map (λ device. BaseSync device) (numbers_below devices)
    ++ map (λ device. UberWrite device) (numbers_below devices)
    ++ map (λ device. UberSync device) (numbers_below devices)

-- the second half over so many devices: an uberblock to each, then a sync of each
abbrev pub signing_of : ℕ → List CommitCall
signing_of devices = map (λ device. UberWrite device) (numbers_below devices)
    ++ map (λ device. UberSync device) (numbers_below devices)

abbrev pub device_of : CommitCall → ℕ
device_of (IndexWrite device part) = device
device_of (BaseSync device) = device
device_of (UberWrite device) = device
device_of (UberSync device) = device

-- what brings to so many devices a group with so many index entries: its page where it lacks,
-- its uberblock where it lacks, and a sync of each
abbrev pub spread_of : ℕ → ℕ → ℕ → ℕ → List CommitCall
spread_of devices count lack_page lack_uber =
    flat_map (index_writes count) (filter (has_device lack_page) (numbers_below devices))
    ++ map (λ device. UberWrite device)
    (filter (has_device lack_uber) (numbers_below devices))
    ++ map (λ device. UberSync device) (numbers_below devices)

-- Devices that are out are passed over; so the next call is the first of those that are left.
abbrev pub calls_left : ℕ → List CommitCall → List CommitCall
calls_left out calls = filter (λ call. not (has_device out (device_of call))) calls

-- what is left once the next call is made: the calls behind it
abbrev pub after_next : ℕ → List CommitCall → List CommitCall
after_next out [] = []
after_next out (call ∷ calls) =
    if has_device out (device_of call) then after_next out calls else calls

-- the device sector that a call writes
abbrev pub sector_of_call : Uber → CommitCall → ℕ
sector_of_call uber (IndexWrite device part) = area_sector uber.area + part
sector_of_call uber call = slot_of uber.group
