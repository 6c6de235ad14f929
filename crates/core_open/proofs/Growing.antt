-- A pool whose expansion ends may grow: what its blocks ask for is met once the group after the last one is answered.
use Rattle.std.proofs.Common.{◌≡◌, ◌*◌, ◌<◌, ◌≤◌, List, length, sym, subst, arith}
use Rattle.std.proofs.Math.Nat.{mul-le-mul_left}
use Rattle.width_map.specs.declared.birth.Birth.{Birth}
use Rattle.width_map.specs.Births.{last_width}
use Rattle.width_map.proofs.Growing.{has_room}
use Rattle.uberblock_ring.specs.Valid.{IsRightUber}
use Rattle.core_blocks.specs.Growing.{MayGrow}
use Rattle.shadow_write.specs.Band.{IsWidening}
use Rattle.core_open.specs.Pool.{IsPool, Pool, open_group}

pub may_grow : (pool : Pool) → IsPool pool → IsWidening pool.uber.reflow
    → MayGrow pool.blocks (open_group pool) (pool.uber.reflow.rows * pool.uber.reflow.to)
may_grow pool is widening = record {
  room = subst (λ (births : List Birth). length births < 16) (sym is.births)
      (has_room pool.uber.births right.births.growing (omega (arith, right.births.wide)) (omega (arith, last, narrow)));
  wide = subst (λ (births : List Birth). pool.blocks.parity ≤ last_width births) (sym is.births)
      (let parity = is.parity in let least = right.widths.0 in omega (arith, last, parity, least));
  narrow = subst (λ (births : List Birth). last_width births < 16) (sym is.births) (omega (arith, last, narrow));
  larger = (let more : pool.uber.reflow.rows * pool.uber.reflow.from ≤ pool.uber.reflow.rows * pool.uber.reflow.to =
      mul-le-mul_left pool.uber.reflow.rows (let expands = widening.expands in omega (arith, expands)) in
      let capacity : pool.blocks.space.capacity ≡ pool.uber.reflow.rows * pool.uber.reflow.from = is.capacity in
      omega (arith, capacity, more));
  small = (let most : pool.uber.reflow.rows * pool.uber.reflow.to ≤ pool.uber.reflow.rows * 16 =
      mul-le-mul_left pool.uber.reflow.rows right.widths.1 in
      let rows = right.rows.1 in omega (arith, most, rows));
  born = λ entry listed. let born = is.born entry listed in omega (arith, born);
}
  where
    right : IsRightUber pool.uber
    right = is.right

    last : last_width pool.uber.births ≡ pool.uber.reflow.from
    last = right.births.last

    narrow : pool.uber.reflow.from ≤ 15
    narrow = widening.narrow
