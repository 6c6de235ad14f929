use Rattle.std.proofs.Common.{◌≡◌, ℕ, ◌<◌, ◌≤◌, ◌∙◌, ap, subst, arith, rules}
use Rattle.std.proofs.lemmas.Result.{err_from_is_err_and}
use Rattle.row_layout.specs.Layout.{Layout, allocated_of}
use Rattle.space_alloc.specs.Space.{IsFirstFit, IsTakeCause}
use Rattle.core_blocks.specs.Puts.{sectors_taken}
use Rattle.core_blocks.proofs.sectors.take.Goals as goal

pub returns-in_err-start-clause-cause : goal.returns-in_err-start-clause-cause
returns-in_err-start-clause-cause c =
    let sectors : c.alloc_size-sectors.result
    ≡ sectors_taken c.args.parity c.args.births.now c.args.len_bytes c.args.birth =
    c.alloc_size-sectors.ensures.value
    ∙ ap (λ (l : Layout). allocated_of l) c.layout_at.ensures.value in
    let p = err_from_is_err_and c.from_residual.result c.from_residual.ensures.1 in
    rw (p.1, p.2) (subst (λ (n : ℕ).
    IsTakeCause c.args.space.now c.args.locks.now n c.in_err-start.field-0.0) sectors
    c.in_err-start.ensures.cause)

pub layout_at-requires-2-clause-start : goal.layout_at-requires-2-clause-start
layout_at-requires-2-clause-start c =
    let some : 1 ≤ c.alloc_size-sectors.result = search rules in
    let fit : IsFirstFit c.args.space.now c.args.locks.now c.alloc_size-sectors.result
    c.in_ok-start.start = c.in_ok-start.ensures.ok in
    let below : c.in_ok-start.start < c.args.space.now.capacity =
    (fit.free c.in_ok-start.start (omega arith, omega (arith, some))).below in
    omega (arith, below, c.requires.small)
