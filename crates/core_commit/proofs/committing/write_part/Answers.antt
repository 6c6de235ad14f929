use Rattle.std.proofs.Common.{◌≡◌, ◌*◌, List, ℕ, length, Bor, ◌∙◌, ap, subst, arith}
use Rattle.std.specs.Prelude.{IfSome, Option}
use Rattle.block_record.specs.Page.{index_page, page_sectors}
use Rattle.block_record.proofs.Sectors.{length-index_page}
use Rattle.core_commit.proofs.committing.write_part.Goals as goal

pub sector_of-requires : goal.sector_of-requires
sector_of-requires g c =
    let same : c.in-Some.bytes.now ≡ index_page c.args.entries.now =
    subst (λ (page : Option (Bor (List ℕ))). IfSome page (λ bytes. bytes.now ≡ index_page c.args.entries.now)) c.in-Some.is c.requires.page in
    let long : length c.in-Some.bytes.now ≡ 512 * page_sectors (length c.args.entries.now) =
    ap length same ∙ length-index_page c.args.entries.now c.requires.index.each in
    record { inside = omega (arith, long, c.requires.part, c.requires.counted) }
