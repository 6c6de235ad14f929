-- What a call of `status` promises.
use Rattle.std.specs.Prelude.{◌≡◌, ℕ, ◌≤◌, true}
use Rattle.bank_trait.specs.Causes.{FaultCounted}
use Rattle.bank_trait.specs.Disk.{Disk, Image, Unchanged}
use Rattle.uberblock_ring.specs.Devices.{count_of, has_device}
use Rattle.core_state.specs.Choosing.{IsNotPool, IsOutAtOpening}
use Rattle.core_open.specs.Causes.{IsChoiceWithout}
use Rattle.core_open.specs.declared.sight.Look.{Look}
use Rattle.pool_status.specs.StatusText.{text_of_status}
use Rattle.raidzx_top.specs.declared.status.Status.TheVariants as status
use Rattle.command_words.specs.declared.command.ServedCommand.TheVariants as served
use Rattle.raidzx_top.specs.Call.{TopCall, HoldsImage, IsCarriedOut, IsQuiet, shape_of}
use Rattle.raidzx_top.specs.Causes.{IsOrNoMemory, NoneRose}
use Rattle.raidzx_top.specs.Looking.{IsLookAt}
use Rattle.raidzx_top.specs.RunText.{TextIsRight}
use Rattle.raidzx_top.specs.Served.{IsServedAs}

-- What was written is the text of a look at the bank.
pub record TellsLook (call : TopCall) : Type 0 where
  pub look : Look
  pub is : IsLookAt call.old call.new look
  pub text : TextIsRight call (text_of_status look.uber look.out)

-- No more devices are out than there are parities, whatever the devices choose where all answer.
abbrev pub FewAreOut : Disk → Image → Type 0
FewAreOut disk image = (choice : IsChoiceWithout (shape_of disk) 0 image) (listed : ℕ)
    → ((device : ℕ) → has_device listed device ≡ true
    → IsOutAtOpening (shape_of disk) 0 image choice.uber device)
    → count_of listed ≤ choice.uber.parity

-- Nothing is in the way of a `status`: the devices show a pool of which few enough are out, and nothing fails.
pub record LooksUnhindered (call : TopCall) : Type 0 where
  pub served : IsServedAs call.words served.Status
  pub image : Image
  pub holds : HoldsImage call.old image
  pub shown : IsNotPool (shape_of call.old) 0 image → ⊥
  pub few : FewAreOut call.old image
  pub works : NoneRose call
  pub sink : FaultCounted call.sink.faults call.sink_after.faults → ⊥

-- what a call of `status` promises
pub record StatusIsTold (call : TopCall) : Type 0 where
  -- Nothing is written to any device, however it ends: nothing but counts of faults may change.
  pub unchanged : IsServedAs call.words served.Status → Unchanged call.old call.new
  pub quiet : IsServedAs call.words served.Status → IsQuiet call
  pub look : IsServedAs call.words served.Status → IsCarriedOut call → TellsLook call
  pub complete : LooksUnhindered call → IsOrNoMemory call status.Done
