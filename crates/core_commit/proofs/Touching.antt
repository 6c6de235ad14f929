-- Which sectors the calls of a commit touch.
use Rattle.std.proofs.Common.{◌≢◌, inr, ℕ, ◌+◌, ◌<◌, List, Result, refl, ◌∙◌}
use Rattle.bank_trait.specs.declared.Failed.{Failed}
use Rattle.bank_trait.specs.Disk.{Lawful, Wrote, Synced}
use Rattle.bank_trait.proofs.Touches.{touches_none, touches_then, wrote_touches, synced_touches}
use Rattle.block_record.specs.declared.entry.IndexEntry.{IndexEntry}
use Rattle.uberblock_ring.specs.Uberblock.{Uber, slot_of, area_sector}
use Rattle.commit_job.specs.declared.call.CommitCall.{CommitCall}
use Rattle.commit_job.specs.declared.call.CommitCall.TheVariants.{IndexWrite, BaseSync, UberWrite, UberSync}
use Rattle.core_state.specs.Committing.{Point, Called}
use Rattle.core_commit.specs.Ran.{MadeOne, IsCallInPool}
use Rattle.core_commit.specs.Spared.{IsOnInUse, IsElsewhere, TouchesGroup}
use Rattle.core_commit.proofs.Halves.{stays_out}
use Rattle.core_commit.proofs.Going.{in_use_before, synced_reads}

-- no call
pub touched_none : (uber : Uber) (point : Point) → TouchesGroup uber point point
touched_none uber point = record {
  only = touches_none (IsOnInUse uber.reflow.to point.out) point.disk;
  stay = λ device out. out;
  reads = λ device x in_use elsewhere. refl;
}

touched_on : (uber : Uber) (before mid after : Point) → TouchesGroup uber before mid
    → TouchesGroup uber mid after
    → TouchesGroup uber before after
touched_on uber before mid after one two = record {
  only = touches_then (IsOnInUse uber.reflow.to before.out) (IsOnInUse uber.reflow.to mid.out)
      (IsOnInUse uber.reflow.to before.out)
      (λ device x here. here)
      (λ device x here. (here.0, in_use_before before mid device one.stay here.1))
      one.only two.only;
  stay = λ device out. two.stay device (one.stay device out);
  reads = λ device x in_use elsewhere. two.reads device x in_use elsewhere
      ∙ one.reads device x (in_use_before mid after device two.stay in_use) elsewhere;
}

touched_write : (uber : Uber) (device sector : ℕ) (bytes : List ℕ) (result : Result (Unit {0}) Failed)
    (before after : Point) → device < uber.reflow.to
    → ((x : ℕ) → IsElsewhere uber x → x ≢ sector)
    → Called device result before after → Wrote before.disk after.disk device sector bytes result
    → TouchesGroup uber before after
touched_write uber device sector bytes result before after below apart called wrote = record {
  only = wrote_touches (IsOnInUse uber.reflow.to before.out) (below, called.in_use) wrote;
  stay = stays_out device result before after called;
  reads = λ d x in_use elsewhere. wrote.others_read d x (inr (apart x elsewhere));
}

touched_sync : (uber : Uber) (device : ℕ) (result : Result (Unit {0}) Failed) (before after : Point)
    → Lawful before.disk → device < uber.reflow.to → Called device result before after
    → Synced before.disk after.disk device result
    → TouchesGroup uber before after
touched_sync uber device result before after lawful below called synced = record {
  only = synced_touches (IsOnInUse uber.reflow.to before.out) (λ x. (below, called.in_use)) lawful synced;
  stay = stays_out device result before after called;
  reads = λ d x in_use elsewhere. synced_reads device result before after called synced d x in_use;
}

touched_one : (uber : Uber) (entries : List IndexEntry) (call : CommitCall) (before after : Point)
    → Lawful before.disk → IsCallInPool uber call → MadeOne uber entries call before after
    → TouchesGroup uber before after
touched_one uber entries (IndexWrite device part) before after lawful inside made =
    touched_write uber device (area_sector uber.area + part) _ made.result before after inside.0
    (λ x elsewhere. elsewhere.1 part inside.1) made.called made.made
touched_one uber entries (BaseSync device) before after lawful inside made =
    touched_sync uber device made.result before after lawful inside made.called made.made
touched_one uber entries (UberWrite device) before after lawful inside made =
    touched_write uber device (slot_of uber.group) _ made.result before after inside
    (λ x elsewhere. elsewhere.0) made.called made.made
touched_one uber entries (UberSync device) before after lawful inside made =
    touched_sync uber device made.result before after lawful inside made.called made.made

-- One call more.
pub touched_more : (uber : Uber) (entries : List IndexEntry) (call : CommitCall)
    (before now after : Point) → Lawful now.disk → IsCallInPool uber call → TouchesGroup uber before now
    → MadeOne uber entries call now after
    → TouchesGroup uber before after
touched_more uber entries call before now after lawful inside so_far made =
    touched_on uber before now after so_far (touched_one uber entries call now after lawful inside made)
