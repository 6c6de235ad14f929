use Rattle.range_locks.proofs.Lists.{gains_item}
use Rattle.part_tests.proofs.range_locks_tests.shared_holds_are_told.Goals as goal

pub end-requires : goal.end-requires
end-requires g c = record { listed = gains_item _ _ _ c.in-Ok.ensures.ok }
