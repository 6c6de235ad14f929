use Rattle.std.proofs.Common.{drop}
use Rattle.std.specs.Prelude.{◌↔◌}
use Rattle.core_open.proofs.SpanOrder.{FollowFrom}
use Rattle.core_open.proofs.fitting.follow_each_other.Given as goal

-- The spans that are left decide.
abbrev pub invariant-loop-span : goal.invariant-loop-span
invariant-loop-span l = FollowFrom l.end (drop l.span-index l.spans) ↔ FollowFrom 0 l.spans
