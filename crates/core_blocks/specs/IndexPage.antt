-- The page of an index and its digest.
use Rattle.std.specs.Prelude.{◌≡◌, List}
use Rattle.sha2.specs.Sha256.{sha256}
use Rattle.block_record.specs.declared.entry.IndexEntry.{IndexEntry}
use Rattle.block_record.specs.Page.{index_page}
use Rattle.core_blocks.specs.declared.index_page.IndexPage.{IndexPage}

-- The page and the digest are those of these entries.
pub record IsDigestedPage (entries : List IndexEntry) (page : IndexPage) : Type 0 where
  pub bytes : page.bytes.items ≡ index_page entries
  pub digest : page.digest ≡ sha256 (index_page entries)
