-- The points of a journal that its entries speak of.
use Rattle.std.specs.Prelude.{ℕ, Option, Some, None}
use Rattle.core_state.specs.declared.answer.Answer.{Answer}
use Rattle.core_state.specs.declared.answer.Answer.TheVariants as answer
use Rattle.core_state.specs.declared.answer.Kind.{Kind}
use Rattle.core_state.specs.declared.answer.Kind.TheVariants as kind

-- The point of the journal that a read speaks of, which began after so many items: the map as it was then, unless it
-- was cut short.
abbrev pub read_point : ℕ → Answer → Option ℕ
read_point count (answer.TooManyFailed out) = None
read_point count answer.NoMemory = None
read_point count given = Some count

-- Other calls speak of none.
abbrev pub point_after : Kind → ℕ → Answer → Option ℕ
point_after kind.Get count given = read_point count given
point_after kind.Sum count given = read_point count given
point_after asked count given = None
