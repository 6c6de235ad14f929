use Rattle.std.proofs.Common.{◌≡◌, ◌++◌, drop, take, true}
use Rattle.std.specs.Prelude.{nat_eq}
use Rattle.std.specs.Set.{is_member}
use Rattle.block_table.specs.Table.{without_one}
use Rattle.block_table.proofs.reserved.first_of.Given as goal

abbrev pub invariant-loop-index : goal.invariant-loop-index
invariant-loop-index l = record {
  there : is_member nat_eq (drop l.index l.reserved) l.fn.id ≡ true;
  left : without_one l.fn.id l.reserved ≡ take l.index l.reserved ++ without_one l.fn.id (drop l.index l.reserved);
}
