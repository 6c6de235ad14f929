-- A put goes on in a pool whose reflow or front has moved, where that asks for its block at the places at which it did.
use Rattle.core_turns.proofs.Words.{◌≡◌, ℕ, ◌+◌, ◌≤◌, List, Contains, Disk, Reflow, Layout, Write, Rows, IsFrontOf}
use Rattle.core_turns.proofs.Words.{IsRangeFor, IsInPool, IsRightBlock, IsPlanOf, PutRun, Core, at_disk, AsksAlike}
use Rattle.core_turns.proofs.Words.{Excepted, HoldsPut, IsPutOf, arith}

-- A plan is one at the places at which the block is asked for now.
pub plan_moves : {layout : Layout} {reflow other : Reflow} {done front : ℕ} {content : List ℕ} {rows : Rows}
    {writes : List Write} → AsksAlike layout reflow done other front → IsInPool layout other → IsFrontOf other front
    → IsPlanOf layout reflow done content rows writes → IsPlanOf layout other front content rows writes
plan_moves alike pool front_is plan = record {
  pool = pool;
  front = front_is;
  encoded = plan.encoded;
  required = record {
    only = λ write listed. let asked = plan.required.only write listed in
        (asked.0, (alike write.row write.column asked.0 write.device write.device_sector).0 asked.1);
    all = λ row column device device_sector there needed. plan.required.all row column device device_sector there
        ((alike row column there device device_sector).1 needed);
  };
}

-- A block is right at the places at which it is asked for now.
pub block_moves : {layout : Layout} {reflow other : Reflow} {done front : ℕ} {content : List ℕ} (disk : Disk) {out : ℕ} {wrong : Excepted}
    → AsksAlike layout reflow done other front → IsRightBlock layout content reflow done disk.reads out wrong
    → IsRightBlock layout content other front disk.reads out wrong
block_moves disk alike right = record {
  each = λ cell is. record {
    at = λ device device_sector place. (right.each cell is).at device device_sector
        (rw (is.row_end, is.sector) ((alike is.row is.column is.there device device_sector).1
        (rw (is.row_end, is.sector) at place)));
  };
}

module _ (core new : Core) (put : PutRun) (its : IsPutOf core put)
    (alike : AsksAlike put.range.layout core.pool.uber.reflow core.pool.done new.pool.uber.reflow new.pool.done)
    (pool : IsInPool put.range.layout new.pool.uber.reflow) (front : IsFrontOf new.pool.uber.reflow new.pool.done) where
  -- The put is one of the pool still,
  pub put_moves : IsRangeFor new.pool.blocks put.range.id put.len put.range.birth put.range
      → put.range.birth ≤ new.begun + 1 → Contains new.holds put.hold → IsPutOf new put
  put_moves range born held = record {
    pool = pool;
    front = front;
    begun_pool = its.begun_pool;
    begun_front = its.begun_front;
    places = λ row column there device device_sector.
        let before = its.places row column there device device_sector in
        let now = alike row column there device device_sector in
        search (now.0, before.0, before.1, now.1, arith);
    range = range;
    born = (its.born.0, born);
    len = its.len;
    holds = held;
    hold_is = its.hold_is;
    filled = λ filled is_filled. let was = its.filled filled is_filled in (was.0, search plan_moves);
  }

  -- and what it has written stands.
  pub put_holds_moves : (disk : Disk) (content : List ℕ) → new.pool.out ≡ core.pool.out
      → HoldsPut content (at_disk core disk) put → HoldsPut content (at_disk new disk) put
  put_holds_moves disk content out held = record {
    len_is = held.len_is;
    are_bytes = held.are_bytes;
    so_far = λ filled is_filled. let was = held.so_far filled is_filled in (
      was.0,
      rw out (search plan_moves),
    );
  }
