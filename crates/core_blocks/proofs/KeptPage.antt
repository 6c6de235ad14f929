-- The page that is kept while the entries are the same.
use Rattle.std.proofs.Common.{◌≡◌, List, sym, subst}
use Rattle.std.specs.Prelude.{IfSome, Option}
use Rattle.block_record.specs.declared.entry.IndexEntry.{IndexEntry}
use Rattle.core_blocks.specs.declared.index_page.IndexPage.{IndexPage}
use Rattle.core_blocks.specs.IndexPage.{IsDigestedPage}

-- It is the page of the same entries.
pub page_stays : (page : Option IndexPage) {entries others : List IndexEntry} → others ≡ entries
    → IfSome page (IsDigestedPage entries) → IfSome page (IsDigestedPage others)
page_stays page same is = subst (λ (l : List IndexEntry). IfSome page (IsDigestedPage l)) (sym same) is
