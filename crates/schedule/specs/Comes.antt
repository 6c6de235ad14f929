-- What a turn of one client comes to, among the others.
use Rattle.std.specs.Prelude.{◌≡◌, ℕ, List, [], ◌∷◌, Some, slice_get}
use Rattle.bank_trait.specs.Disk.{Lawful}
use Rattle.client_script.specs.Script.{Script}
use Rattle.core_commit.specs.declared.join_run.WhyDropped.{WhyDropped}
use Rattle.core_turns.specs.Core.{IsCore}
use Rattle.schedule.specs.declared.client.Client.{Client}
use Rattle.schedule.specs.Clients.{Changes}
use Rattle.schedule.specs.Coming.{LeadTo, IsSchedule, KeepsUsing}
use Rattle.schedule.specs.Dropping.{HasDropCause, IsToBeTold}
use Rattle.schedule.specs.Numbered.{IsNumbered}
use Rattle.schedule.specs.Turned.{HasDeviceUnder, TurnState}
use Rattle.schedule.specs.Turns.{Turns, taken_by, turns_of}

-- the turns that came to this state of the core, the journal and one client, with what all clients have come to
abbrev pub turns_with : TurnState → List Client → Turns
turns_with at clients = turns_of at.state at.items clients

-- Each device that is to be told as dropped by the second of these has its cause between them.
abbrev pub DropsAreCaused : Turns → Turns → Type 0
DropsAreCaused before after = (cause : WhyDropped) → IsToBeTold after.clients cause → HasDropCause before after cause

-- A client takes a turn: the others stay as they are.
pub record TakesTurn (script : Script) (actor : ℕ) (before after : TurnState) (clients news : List Client)
    : Type 0 where
  pub schedule : IsSchedule script (turns_with before clients)
  pub was : slice_get clients actor ≡ Some before.client
  pub changes : Changes clients news actor after.client
  pub is : IsCore before.state.core
  pub lawful : Lawful before.state.disk
  pub still_lawful : Lawful after.state.disk
  pub space : KeepsUsing script (turns_with before clients) (turns_with after news)
  pub dropped : DropsAreCaused (turns_with before clients) (turns_with after news)
  pub there : HasDeviceUnder after.state.disk after.client.under_way
  pub numbers : IsNumbered before.items before.state.core → IsNumbered after.items after.state.core

-- It comes to a state in which the next turn may be taken.
pub record Comes (script : Script) (actor : ℕ) (before after : TurnState) (clients news : List Client)
    : Type 0 where
  pub come : LeadTo script (turns_with before clients) (taken_by actor (turns_with after news) ∷ [])
      (turns_with after news)
  pub schedule : IsSchedule script (turns_with after news)
