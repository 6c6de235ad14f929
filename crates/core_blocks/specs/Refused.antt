-- Why a put doesn't begin, from why its parts refuse.
use Rattle.block_table.specs.declared.table.ReserveRefused.{ReserveRefused}
use Rattle.block_table.specs.declared.table.ReserveRefused.TheVariants as table
use Rattle.space_alloc.specs.declared.refused.TakeRefused.{TakeRefused}
use Rattle.space_alloc.specs.declared.refused.TakeRefused.TheVariants as space
use Rattle.core_blocks.specs.declared.refused.PutRefused.{PutRefused}
use Rattle.core_blocks.specs.declared.refused.PutRefused.TheVariants.{Full, NoSpace, Busy, NoMemory}

-- as the table says
abbrev pub from_table : ReserveRefused → PutRefused
from_table table.Full = Full
from_table table.NoMemory = NoMemory

-- as the space says
abbrev pub from_space : TakeRefused → PutRefused
from_space (space.NoSpace sectors) = NoSpace sectors
from_space (space.Busy by) = Busy by
from_space space.NoMemory = NoMemory
