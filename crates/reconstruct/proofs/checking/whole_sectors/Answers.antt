use Rattle.std.proofs.Common.{◌*◌, ℕ, Err, ap}
use Rattle.reconstruct.specs.Solved.{columns_with}
use Rattle.reconstruct.proofs.Telling.{passed_over, tells_sectors}
use Rattle.reconstruct.proofs.AllContent.{content_tells}
use Rattle.reconstruct.proofs.checking.whole_sectors.Goals as goal

pub returns-then-has_all_content-clause-some : goal.returns-then-has_all_content-clause-some
returns-then-has_all_content-clause-some c =
    content_tells c.args.layout.now c.parity.result c.args.rows.now c.args.lost.now c.parity.ensures.value
    c.parity.ensures.within.is c.requires.masks (c.has_all_content.ensures.0 c.if-has_all_content.true)
    _ c.in_ok-content.field-0.items
    (ap (λ (k : ℕ). 512 * k) c.sectors.ensures.value) c.in_ok-content.ensures.len c.requires.shape
    c.in_ok-content.ensures.full c.in_ok-content.ensures.value c.in_ok-content.ensures.back

pub returns-in-Ok-clause-some : goal.returns-in-Ok-clause-some
returns-in-Ok-clause-some c =
    tells_sectors c.args.layout.now (columns_with c.args.rows.now c.args.lost.now) c.args.lost.now _ c.in-Ok.whole.items
    (ap (λ (k : ℕ). 512 * k) c.sectors.ensures.value) c.in-Ok.ensures.len c.in-Ok.ensures.enough c.in-Ok.ensures.solves
    c.in-Ok.ensures.serves

pub returns-in-Err-TooFew-clause-none : goal.returns-in-Err-TooFew-clause-none
returns-in-Err-TooFew-clause-none c =
    passed_over c.args.layout.now c.args.lost.now c.in-Err-TooFew.field-0-0
    ((c.in-Err-TooFew.ensures.cause_too_few c.in-Err-TooFew.field-0-0).0 (ap Err c.in-Err-TooFew.field-0-is))
