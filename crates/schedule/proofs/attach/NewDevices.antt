-- The bank has the devices that attaches are to bring still.
use Rattle.schedule.proofs.Words.{◌≡◌, ℕ, ◌<◌, List, Option, Some, arith, slice_get, cases_eq, Disk, AttachRun}
use Rattle.schedule.proofs.Words.{HasNewDevice, Client, UnderWay, Work, Changes, HasDeviceFor, HasDeviceUnder}
use Rattle.schedule.proofs.turn.Theirs.{some_is}

below : {devices now device : ℕ} → now ≡ devices → device < devices → device < now
below same low = omega arith

attach_there : (old new : Disk) (run : AttachRun) → new.devices ≡ old.devices → HasNewDevice old run
    → HasNewDevice new run
attach_there old new run same low = grind (arith, below)

work_there : (old new : Disk) (does : Work) → new.devices ≡ old.devices → HasDeviceFor old does → HasDeviceFor new does
work_there old new does same there = grind (arith, attach_there)

under_there : (old new : Disk) (its : Option UnderWay) → new.devices ≡ old.devices → HasDeviceUnder old its
    → HasDeviceUnder new its
under_there old new its same there = grind (arith, work_there)

-- So it is of each client, where it is of the one that took a turn.
pub devices_there : (old new : Disk) {clients news : List Client} {actor : ℕ} {client : Client}
    → new.devices ≡ old.devices → Changes clients news actor client
    → ((index : ℕ) (its : Client) → slice_get clients index ≡ Some its → HasDeviceUnder old its.under_way)
    → HasDeviceUnder new client.under_way
    → (index : ℕ) (its : Client) → slice_get news index ≡ Some its → HasDeviceUnder new its.under_way
devices_there old new same changes there mine index its is = search (some_is, under_there, cases_eq, arith)
