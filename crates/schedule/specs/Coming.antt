-- What some turns of a script's clients come to.
use Rattle.std.specs.Prelude.{◌≡◌, ◌≢◌, ◌⊎◌, ℕ, ◌+◌, ◌≤◌, ◌<◌, List, Some, slice_get}
use Rattle.bank_trait.specs.Disk.{Later}
use Rattle.bank_trait.specs.Regions.{TouchesOnly}
use Rattle.block_record.specs.declared.entry.IndexEntry.{IndexEntry}
use Rattle.uberblock_ring.specs.Devices.{count_of, IsWithin}
use Rattle.uberblock_ring.specs.Uberblock.{Uber}
use Rattle.core_state.specs.declared.answer.Kind.TheVariants as kind
use Rattle.core_state.specs.declared.item.Entry.{Entry}
use Rattle.core_state.specs.declared.item.Item.{Item}
use Rattle.core_state.specs.Legal.{CallAt}
use Rattle.core_state.specs.World.{World}
use Rattle.core_state.specs.Outs.{OnlyFailedGoOut}
use Rattle.core_commit.specs.declared.join_run.WhyDropped.{WhyDropped}
use Rattle.core_state.specs.Committing.{point_of}
use Rattle.core_commit.specs.Spared.{IsOnInUse}
use Rattle.client_script.specs.declared.call.ScriptCall.{ScriptCall}
use Rattle.client_script.specs.Script.{Script, asked_by, calls_of, handed_by}
use Rattle.schedule.specs.Caused.{FullIsCaused}
use Rattle.schedule.specs.Clients.{ClientsAreAnswered}
use Rattle.schedule.specs.Dropping.{HasDropCause, IsToBeTold}
use Rattle.schedule.specs.Fitting.{FitsSince}
use Rattle.schedule.specs.Moments.{Past}
use Rattle.schedule.specs.Numbered.{IsNumbered}
use Rattle.schedule.specs.declared.client.Client.{Client}
use Rattle.schedule.specs.Running.{AreGoing, Runs}
use Rattle.schedule.specs.Turned.{HasDeviceUnder}
use Rattle.schedule.specs.Turns.{Turns, TurnTaken, AreListedWith, last_left}
use Rattle.schedule.specs.Using.{HasUsedRuns}
use Rattle.core_turns.specs.Attaching.{AttachGoesOn}
use Rattle.core_turns.specs.Core.{CoreState, HasBankOf}

-- What is needed of the calls under way, and which calls the journal answers.
pub record IsSchedule (script : Script) (turns : Turns) : Type 0 where
  pub going : AreGoing script turns.state.core turns.clients
  pub answered : ClientsAreAnswered script turns.clients turns.items
  pub bank : HasBankOf turns.state.core turns.state.disk
  pub there : (index : ℕ) (client : Client) → slice_get turns.clients index ≡ Some client
      → HasDeviceUnder turns.state.disk client.under_way

-- What turns have used of a pool's space since its opening goes on being known.
abbrev pub KeepsUsing : Script → Turns → Turns → Type 0
KeepsUsing script start now = (uber : Uber) (entries : List IndexEntry)
    → HasUsedRuns script uber entries start.state.core start.items start.clients
    → HasUsedRuns script uber entries now.state.core now.items now.clients

-- The pool reaches to as many devices, and none was touched but those of them that were in use.
pub record StaysAsWide (before after : CoreState) : Type 0 where
  pub reach : after.core.reach ≡ before.core.reach
  pub only : TouchesOnly (IsOnInUse before.core.reach before.core.pool.out) before.disk after.disk

-- No call of the script brings the pool a device.
abbrev pub AttachesNone : Script → Type 0
AttachesNone script = (actor number : ℕ) (call : ScriptCall) → slice_get (calls_of script actor) number ≡ Some call
    → call.kind ≢ kind.Attach

-- What a turn of a call of this script does: as a turn of an attach does, so the device behind those that the pool
-- reaches to may be called, and may join; and where no call of the script is an attach, as every other turn does. The
-- bank goes on having what is in use.
pub record GoesOnFor (script : Script) (before after : CoreState) : Type 0 where
  pub goes : AttachGoesOn before after
  pub same : AttachesNone script → StaysAsWide before after
  pub bank : HasBankOf before.core before.disk → HasBankOf after.core after.disk

-- The world's calls and the bytes that they hand over are the script's.
pub record IsWorldOf (script : Script) (world : World) : Type 0 where
  pub calls : world.calls ≡ asked_by script
  pub handed : world.handed ≡ handed_by script

-- The pool goes on, and reaches to no fewer devices. Devices went out where they failed, and none was touched but those
-- in use that the pool then reaches to, and the one behind them, which an attach may have laid a group without its
-- joining. Where no call of the script is an attach, the pool is as wide as before.
pub record PoolGoesOn (script : Script) (before after : CoreState) : Type 0 where
  pub later : Later before.disk after.disk
  pub parity : after.core.pool.uber.parity ≡ before.core.pool.uber.parity
  pub reach : before.core.reach ≤ after.core.reach
  pub only : TouchesOnly (IsOnInUse (after.core.reach + 1) before.core.pool.out) before.disk after.disk
  pub same : AttachesNone script → StaysAsWide before after
  pub out : OnlyFailedGoOut (point_of before.core.pool.out before.disk) (point_of after.core.pool.out after.disk)

-- The journal keeps what was listed. What was answered since fits its call, what an attach under way goes on to tell
-- has its cause, and groups are numbered.
pub record JournalGoesOn (start now : Turns) : Type 0 where
  pub listed : (index : ℕ) (item : Item) → slice_get start.items index ≡ Some item
      → slice_get now.items index ≡ Some item
  pub fits : (index : ℕ) (entry : Entry) → CallAt now.items index entry
      → CallAt start.items index entry ⊎ FitsSince start now entry
  pub dropped : (cause : WhyDropped) → IsToBeTold now.clients cause → HasDropCause start now cause
  pub numbers : IsNumbered start.items start.state.core → IsNumbered now.items now.state.core

-- These devices' failure has to be borne: all that were out at first, and no more than there are parities; they were
-- out then, or have failed since. Where too many were out at first there are none, since no device is called any more.
pub record HasToBear (before after : CoreState) (borne : ℕ) : Type 0 where
  pub few : count_of borne ≤ before.core.pool.uber.parity
  pub from_start : count_of before.core.pool.out ≤ before.core.pool.uber.parity
      → IsWithin before.core.pool.out borne
  pub stopped : before.core.pool.uber.parity < count_of before.core.pool.out → IsWithin borne 0
  pub within : IsWithin borne after.core.pool.out

-- The banks with which these turns listed items are those of a run in this world, which came to the start. The world is
-- one of this script, in which these devices may fail.
pub record IsRunFrom (script : Script) (start : Turns) (passed : List TurnTaken) (borne : ℕ) (world : World)
    (past : Past) : Type 0 where
  pub world_of : IsWorldOf script world
  pub stood : Runs world script past start.state start.items start.clients
  pub borne_in : IsWithin borne world.setting.failed
  pub with_banks : AreListedWith past.banks start passed

-- What stood at the start stands, and answers that the table is full have their cause.
pub record StandsOn (script : Script) (start : Turns) (passed : List TurnTaken) (now : Turns) (borne : ℕ) : Type 0 where
  pub runs : (world : World) (past : Past) → IsRunFrom script start passed borne world past
      → Runs world script past now.state now.items now.clients
  pub full : (world : World) (past : Past) → IsRunFrom script start passed borne world past
      → FullIsCaused script world.opening start.items → FullIsCaused script world.opening now.items

-- These turns lead from one state to another.
pub record LeadTo (script : Script) (start : Turns) (passed : List TurnTaken) (now : Turns) : Type 0 where
  pub ends : last_left start passed ≡ now
  pub pool : PoolGoesOn script start.state now.state
  pub journal : JournalGoesOn start now
  pub space : KeepsUsing script start now
  -- Where the devices may fail whose failure has to be borne, what stood stands.
  pub borne : ℕ
  pub bears : HasToBear start.state now.state borne
  pub stands : StandsOn script start passed now borne
