-- A bank may get further devices between two calls.
use Rattle.bank_trait.specs.Disk.{Disk}
use Rattle.core_open.proofs.Adding.{added_begins}
use Rattle.raidzx_top.specs.Reopened.{MayAdd}

pub bank_may_grow : (disk : Disk) → MayAdd disk
bank_may_grow disk setting first later wider may added = added_begins setting first later disk wider may added
