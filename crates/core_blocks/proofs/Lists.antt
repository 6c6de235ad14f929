-- Lists that gain one item.
pub use Rattle.range_locks.proofs.Lists.{first_listed, rest_listed, listed_cases, none_listed, gains_old, gains_item}
pub use Rattle.range_locks.proofs.Lists.{gains_cases, filter_listed, filter_was, head_pairs, tail_pairs, pairs_gain}
pub use Rattle.range_locks.proofs.Lists.{pairs_lose, pairs_beside}
