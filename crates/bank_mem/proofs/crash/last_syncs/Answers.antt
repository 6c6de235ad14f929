use Rattle.std.proofs.Common.{◌∙◌, ℕ, length, ap, Vec}
use Rattle.std.specs.declared.alloc.Global.{Global}
use Rattle.std.proofs.lemmas.List.{length-set, length-replicate}
use Rattle.bank_mem.proofs.Syncs.{synced_none, synced_set, synced_kept, synced_all}
use Rattle.bank_mem.proofs.crash.last_syncs.Goals as goal
use Rattle.bank_mem.proofs.crash.last_syncs.Goals.{in-Sync, in_default}

pub loop-index-init : goal.loop-index-init
loop-index-init c = record {
  len = ap length c.in_ok-syncs.ensures ∙ length-replicate {A = ℕ} c.args.devices 0;
  syncs = synced_none c.args.calls.now c.args.devices c.in_ok-syncs.syncs.items
      c.in_ok-syncs.ensures;
}

pub loop-index-preserved : goal.loop-index-preserved
loop-index-preserved c =
    let before = c.loop-index.invariant in
    let old = c.loop-index.syncs.items in
    let new = c.match-call.syncs.items in
    elim c.match-call.branch [
      | in-Sync w ↦
          let counted = ap (λ (v : Vec ℕ Global). v.items) w.syncs-is in
          record {
            len = ap length counted ∙ length-set old _ _ ∙ before.len;
            syncs = synced_set c.args.calls.now c.loop-index.index w.in-Sync.device w.in-Sync.number
                c.args.devices old new _ c.loop-index-test.true w.in-Sync.is
                (c.requires c.loop-index.index _ c.loop-index-test.true) before.len counted before.syncs;
          }
      | in_default w ↦
          let same = ap (λ (v : Vec ℕ Global). v.items) w.syncs-is in
          record {
            len = ap length same ∙ before.len;
            syncs = synced_kept c.args.calls.now c.loop-index.index old new _ c.loop-index-test.true
                (λ number d is. w.in_default.not-Sync number d is) same before.syncs;
          }
    ]

pub returns-clause-syncs : goal.returns-clause-syncs
returns-clause-syncs c = λ d.
    synced_all c.args.calls.now c.loop-index.index d _ c.loop-index-test.false
    (c.loop-index.invariant.syncs d)
