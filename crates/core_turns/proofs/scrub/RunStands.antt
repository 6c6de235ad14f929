-- What stands between two turns, where a scrub comes or goes: it holds no sectors but those of the block in hand.
use Rattle.core_turns.proofs.Words.{arith, ◌≡◌, inr, ℕ, List, Option, Some, None, refl, sym, ◌∙◌}
use Rattle.core_turns.proofs.Words.{Contains, Disk, Gains, Map, Kept, Setting, gains_item, gains_old, pairs_beside}
use Rattle.core_turns.proofs.Words.{CommitRun, BlockScrub, More, Core, IsCore, at_disk, LeavesBlock, HoldingCall}
use Rattle.core_turns.proofs.Words.{Putting, Reading, Scrubbing, Copying, AreBeside, AreCallsOf, Damage, IsCallOfCore}
use Rattle.core_turns.proofs.Words.{Stands}
use Rattle.core_turns.specs.ScrubRun.{BeginsScrub, ScrubRun, without_scrub}
use Rattle.core_turns.proofs.read.Stands.{stands_held}
use Rattle.core_turns.proofs.scrub.Calls.{block_leaves_calls}
use Rattle.core_turns.proofs.scrub.Stands.{block_leaves_stands}
use Rattle.core_turns.proofs.scrub.Turns.{one_scrub}
use Rattle.core_turns.proofs.state.Calls.{beside_turn}
use Rattle.core_turns.proofs.state.Frames.{KeepsWidths, get_of_stays, put_of_stays}
use Rattle.core_turns.proofs.state.Holds.{keeps_same}

-- No block of these calls is under a scrub.
abbrev pub ScrubNone : List HoldingCall → Type 0
ScrubNone calls = (run : BlockScrub) → Contains calls (Scrubbing run) → ⊥

-- So it is where none is under way,
pub none_scrubs : {core : Core} {calls : List HoldingCall} → core.scrubbing ≡ None → AreCallsOf core calls
    → ScrubNone calls
none_scrubs none are run listed = gone (sym none ∙ (are.each (Scrubbing run) listed).under_way)
  where
    gone : {actor : ℕ} → None ≡ Some actor → ⊥
    gone same = cc

-- and beside the block of the one that is.
pub others_scrub_none : {core : Core} {run : BlockScrub} {left calls : List HoldingCall}
    → Gains left calls (Scrubbing run) → AreCallsOf core calls → ScrubNone left
others_scrub_none {run = run} {left} {calls} gains are other listed =
    (pairs_beside AreBeside beside_turn calls left (Scrubbing run) (Scrubbing other) gains are.beside listed).actors
    (one_scrub (are.each (Scrubbing run) (gains_item left calls (Scrubbing run) gains))
    (are.each (Scrubbing other) (gains_old left calls (Scrubbing run) (Scrubbing other) gains listed)))

-- Calls that are under no scrub are the core's, whoever scrubs.
pub scrubbing_calls : (core : Core) (by : Option ℕ) (calls : List HoldingCall) → ScrubNone calls
    → AreCallsOf core calls → AreCallsOf (record core { scrubbing = by }) calls
scrubbing_calls core by calls none are = record {
  each = λ call listed. still call listed (are.each call listed);
  under = are.under;
  beside = are.beside;
}
  where
    widths : KeepsWidths core (record core { scrubbing = by })
    widths = search arith

    still : (call : HoldingCall) → Contains calls call → IsCallOfCore core call
        → IsCallOfCore (record core { scrubbing = by }) call
    still (Putting run) listed of = put_of_stays core (record core { scrubbing = by }) run widths of.holds of
    still (Reading run) listed of =
        (of.0, get_of_stays core (record core { scrubbing = by }) run widths of.1.holds of.1)
    still (Scrubbing run) listed of = absurd (none run listed)
    still (Copying run) listed of = search

-- A scrub that begins holds nothing,
pub scrub_begins_calls : {old new : Core} {calls : List HoldingCall} (actor : ℕ) {run : ScrubRun}
    → BeginsScrub old new actor (More run) → AreCallsOf old calls → AreCallsOf new calls
scrub_begins_calls {old} {new} {calls} actor begins are =
    rw begins.3 (scrubbing_calls old (Some actor) calls (none_scrubs begins.1 are) are)

-- and one that ends at a block leaves it.
pub scrub_ends_calls : {old left : Core} {block : BlockScrub} {others calls : List HoldingCall}
    → LeavesBlock old left block → Gains others calls (Scrubbing block) → AreCallsOf old calls
    → AreCallsOf (without_scrub left) others
scrub_ends_calls {old} {left} {block} {others} leaves gains are =
    scrubbing_calls left None others (others_scrub_none gains are) (block_leaves_calls leaves gains are)

module _ {setting : Setting} {last : Kept} {begun : List Kept} {map : Map} {damage : Damage} {contents : ℕ → List ℕ}
    {commit : Option CommitRun} where
  -- What stands stands, whoever scrubs.
  pub scrubbing_stands : {calls : List HoldingCall} (core : Core) (by : Option ℕ) (disk : Disk) → IsCore core
      → Stands setting last begun map damage contents calls commit (at_disk core disk)
      → Stands setting last begun map damage contents calls commit (at_disk (record core { scrubbing = by }) disk)
  scrubbing_stands core by disk is stands = stands_held core (record core { scrubbing = by }) disk is refl
      (search keeps_same) (λ put listed. listed) (λ of. of)
      (λ call listed. inr (stands.each call listed)) stands

  -- So it does where a scrub begins,
  pub scrub_begins_stands : {old new : Core} {disk : Disk} {calls : List HoldingCall} (actor : ℕ) {run : ScrubRun} → IsCore old
      → BeginsScrub old new actor (More run)
      → Stands setting last begun map damage contents calls commit (at_disk old disk)
      → Stands setting last begun map damage contents calls commit (at_disk new disk)
  scrub_begins_stands {old} {new} {disk} actor is begins stands =
      rw begins.3 (scrubbing_stands old (Some actor) disk is stands)

  -- and where it ends at a block.
  pub scrub_ends_stands : {old left : Core} {disk : Disk} {block : BlockScrub} {others calls : List HoldingCall}
      → IsCore old
      → IsCore left → LeavesBlock old left block → Gains others calls (Scrubbing block) → AreCallsOf old calls
      → Stands setting last begun map damage contents calls commit (at_disk old disk)
      → Stands setting last begun map damage contents others commit (at_disk (without_scrub left) disk)
  scrub_ends_stands {left = left} {disk} is still leaves gains are stands =
      scrubbing_stands left None disk still (block_leaves_stands is leaves gains are stands)
