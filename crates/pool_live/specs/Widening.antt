-- The client that widens the pool while the calls of a script are carried out.
use Rattle.std.specs.Prelude.{◌≡◌, ◌⊎◌, ℕ, ◌+◌, ◌≤◌, List, [], length, Bool, true, false}
use Rattle.bank_trait.specs.Disk.{Disk}
use Rattle.core_state.specs.declared.item.Group.{Group as GroupItem}
use Rattle.core_state.specs.declared.item.Item.{Item}
use Rattle.core_state.specs.Journal.{CallsAreRight, IsComplete}
use Rattle.client_script.specs.Copier.{with_copier}
use Rattle.client_script.specs.Script.{Script, asked_by}
use Rattle.core_open.specs.Pool.{first_item}
use Rattle.core_turns.specs.Core.{CoreState}
use Rattle.schedule.specs.declared.whole_run.Ended.{Ended}
use Rattle.schedule.specs.declared.whole_run.Ended.TheVariants.{Whole, NoMemory, Limit}
use Rattle.schedule.specs.declared.whole_run.Ran.{Ran}
use Rattle.schedule.specs.Playing.{CarriesOut}
use Rattle.schedule.specs.Replaying.{blank_clients}
use Rattle.schedule.specs.Turns.{Turns, most_turns, turns_of}
use Rattle.schedule.specs.WholeRun.{HasRun, HasTakenTurns}
use Rattle.pool_live.specs.Sharing.{HasCarriedOut}

-- The group is one of a pool in which an expansion runs.
abbrev pub TellsExpansion : GroupItem → Type 0
TellsExpansion group = group.to ≡ group.from + 1

-- The script that is carried out on a pool that was opened so: with the client that widens it, where a device is to be
-- attached or an expansion runs; and else as it is.
abbrev pub IsScriptWith : Script → Bool → GroupItem → Script → Type 0
IsScriptWith script attaches opened carried =
    (((attaches ≡ true) ⊎ TellsExpansion opened) × (carried ≡ with_copier attaches script))
    ⊎ ((attaches ≡ false) × (TellsExpansion opened → ⊥) × (carried ≡ script))

-- That client is not there, and there is one other at most.
abbrev pub IsAlone : Script → Bool → GroupItem → Type 0
IsAlone script attaches opened = (attaches ≡ false) × (TellsExpansion opened → ⊥) × (script.clients ≤ 1)

-- what the turns of a script begin with, on a pool at rest
abbrev pub turns_from : Script → CoreState → List Item → Turns
turns_from script state items = turns_of state items (blank_clients script.clients)

-- The calls of an only client were carried out in the order of their lines; those of others as they came.
abbrev pub IsTakenSo : Script → Bool → GroupItem → Script → CoreState → List Item → Ended → ℕ → CoreState → List Item
    → Type 0
IsTakenSo script attaches opened carried state items ended turns after listed =
    (IsAlone script attaches opened × CarriesOut carried [] (turns_from carried state items) ended turns after listed)
    ⊎ ((IsAlone script attaches opened → ⊥)
    × HasCarriedOut carried (turns_from carried state items) 0 after listed turns)

-- From this state on a script was carried out so, with the client that widens the pool where it has one; and it ended
-- so, in so many turns.
pub record IsCarriedWith (script : Script) (attaches : Bool) (state : CoreState) (items : List Item) (ended : Ended)
    (turns : ℕ) (after : CoreState) (listed : List Item) : Type 0 where
  pub carried : Script
  pub carried_is : IsScriptWith script attaches (first_item state.core.pool) carried
  pub taken : IsTakenSo script attaches (first_item state.core.pool) carried state items ended turns after listed
  pub calls : CallsAreRight (asked_by carried) listed
  pub complete : ended ≡ Whole → IsComplete (asked_by carried) listed
  pub limit : ended ≡ Limit → most_turns ≤ turns
  pub memory : ended ≡ NoMemory → listed ≡ items

-- A script was carried out on the pool that the devices showed, with the client that widens it where it has one, and as
-- many turns as are told were taken. Each call is answered, but where there was no memory or no more turns can be
-- counted.
pub record HasRunBeside (script : Script) (attaches : Bool) (old new : Disk) (items : List Item) (ran : Ran) : Type 0
  where
    pub carried : Script
    pub run : HasRun carried old new items ran.out
    pub carried_is : IsScriptWith script attaches run.opened carried
    pub counted : ran.turns ≡ length run.passed
    pub complete : ran.ended ≡ Whole → IsComplete (asked_by carried) items
    pub limit : ran.ended ≡ Limit → most_turns ≤ ran.turns
    -- The turns of an only client are those of its calls in the order of their lines.
    pub taken : IsAlone script attaches run.opened → HasTakenTurns carried [] run ran
