-- What a call of `run` or `replay` promises follows from how it ends.
use Rattle.std.proofs.Common.{inl, inr}
use Rattle.bank_trait.specs.Disk.{Lawful}
use Rattle.raidzx_top.specs.declared.order.Order.{Order}
use Rattle.raidzx_top.specs.Call.{TopCall}
use Rattle.raidzx_top.specs.Order.{served_by}
use Rattle.raidzx_top.specs.Promises.{CallPromises}
use Rattle.raidzx_top.specs.Running.{EndsRun}
use Rattle.raidzx_top.specs.Served.{IsServedAs}
use Rattle.raidzx_top.proofs.RunCarried.{carried_run}
use Rattle.raidzx_top.proofs.RunParts.{run_keeps_promises}
use Rattle.raidzx_top.proofs.RunRefused.{refused_run}

pub run_promises : (order : Order) (call : TopCall) → Lawful call.old → IsServedAs call.words (served_by order)
    → EndsRun order call.source call.source_after call.sink call.sink_after call.old call.new call.journal call.status
    call.turns
    → CallPromises call
run_promises order call lawful is (inl refused) = run_keeps_promises order call is (refused_run order call refused)
run_promises order call lawful is (inr carried) = run_keeps_promises order call is (carried_run order call lawful carried)
