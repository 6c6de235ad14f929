use Rattle.std.proofs.Common.{◌<◌, sym, subst}
use Rattle.row_layout.specs.Layout.{rows_of}
use Rattle.core_client.specs.BlockTurns.{IsAtColumn}
use Rattle.core_client.specs.Shared.{IsOwn, columns_had}
use Rattle.core_client.specs.declared.block_read.ReadSoFar.{ReadSoFar}
use Rattle.core_client.proofs.BlockTurns.{place_begun}
use Rattle.core_client.proofs.block_read.BlockRead.new.Goals as goal

pub invariant_of-result : goal.invariant_of-result
invariant_of-result c =
    subst (λ (run : ReadSoFar).
    IsAtColumn (record { layout = run.layout; read = columns_had run.columns; row = run.row; column = run.column })
    × (run.row < rows_of run.layout → IsOwn run.columns)) (sym c.in_ok-new.ensures.ok) (
      place_begun c.args.layout.now c.in_ok-read.read c.requires.layout c.in_ok-read.ensures.shape c.in_ok-read.ensures.zero,
      λ _. tt,
    )
