use Rattle.std.proofs.Common.{◌≡◌, ℕ, ◌≤◌, List, ◌++◌, length, ◌∙◌, ap, arith}
use Rattle.std.specs.Prelude.{All}
use Rattle.range_locks.specs.declared.hold.Hold.{Hold}
use Rattle.range_locks.specs.declared.hold.HoldKind.TheVariants.{Shared, Exclusive}
use Rattle.range_locks.specs.Order.{TakesDigitsOfBoth, exclusive_count, shared_count}
use Rattle.range_locks.proofs.Digits.{exclusive_counted, shared_counted}
use Rattle.part_tests.proofs.range_locks_tests.beside_a_thousand.Goals as goal

-- A thousand and one are written with ten binary digits and with one.
twelve : (holds shared exclusive : List Hold) (before after : ℕ) → holds ≡ shared ++ exclusive
    → All (λ hold. hold.kind ≡ Shared) shared → All (λ hold. hold.kind ≡ Exclusive) exclusive → length shared ≡ 1000
    → length exclusive ≡ 1 → before ≡ 0 → TakesDigitsOfBoth holds before after → after ≤ 12
twelve holds shared exclusive before after are are_shared are_exclusive thousand one none takes =
    let readers : shared_count holds ≡ length shared = ap shared_count are ∙ shared_counted shared exclusive are_shared are_exclusive in
    let writers : exclusive_count holds ≡ length exclusive = ap exclusive_count are ∙ exclusive_counted shared exclusive are_shared are_exclusive in
    let steps = takes 1 10 (omega (arith, writers, one)) (omega (arith, readers, thousand)) in
    omega (arith, steps, none)

pub within-requires : goal.within-requires
within-requires g c =
    twelve _ _ _ _ _ c.as_slices.ensures.value c.as_slices.ensures.are_shared c.as_slices.ensures.are_exclusive
    (omega (arith, c.if-shared-ne1000.false)) (omega (arith, c.if-exclusive-ne1.false)) c.new-steps.ensures c.try_shared.ensures.steps
