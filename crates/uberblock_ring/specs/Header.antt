-- The fields of an uberblock as they are read, before anything is asked of them.
use Rattle.std.specs.Prelude.{ℕ, ◌^◌, ◌<◌, List, ◌++◌, length, All}
use Rattle.width_map.specs.declared.birth.Birth.{Birth}
use Rattle.reflow_mark.specs.declared.reflow.Reflow.{Reflow}
use Rattle.reflow_mark.specs.Reflow.{word_of}
use Rattle.block_record.specs.Bytes.{be32, be64, IsDigest}
use Rattle.uberblock_ring.specs.declared.header.Header.{Header}
use Rattle.uberblock_ring.specs.Uberblock.{Uber}

-- the bytes of the fields behind others
abbrev pub header_after : List ℕ → Header → List ℕ
header_after front header =
    front ++ be64 header.pool ++ be64 header.group ++ be32 header.parity ++ be32 header.from
    ++ be32 header.to ++ be32 header.area ++ be64 header.rows ++ be64 header.word
    ++ be64 header.out ++ be32 header.count ++ be32 header.births ++ header.digest

-- the fields of an uberblock
abbrev pub header_of : Uber → Header
header_of uber = record {
  pool = uber.pool;
  group = uber.group;
  parity = uber.parity;
  from = uber.reflow.from;
  to = uber.reflow.to;
  area = uber.area;
  rows = uber.reflow.rows;
  word = word_of uber.reflow;
  out = uber.out;
  count = uber.count;
  births = length uber.births;
  digest = uber.digest;
}

-- the uberblock with these fields, this reflow and these births
abbrev pub uber_with : Header → Reflow → List Birth → Uber
uber_with header reflow births = record {
  pool = header.pool;
  group = header.group;
  parity = header.parity;
  reflow = reflow;
  area = header.area;
  out = header.out;
  count = header.count;
  digest = header.digest;
  births = births;
}

-- Births whose numbers fit in their fields.
abbrev pub FitBirths : List Birth → Type 0
FitBirths births = All (λ birth. (birth.group < 2 ^ 64) × (birth.width < 2 ^ 32)) births

-- Each number fits in its field, and the digest is one.
pub record FitsHeader (header : Header) : Type 0 where
  pub pool : header.pool < 2 ^ 64
  pub group : header.group < 2 ^ 64
  pub parity : header.parity < 2 ^ 32
  pub from : header.from < 2 ^ 32
  pub to : header.to < 2 ^ 32
  pub area : header.area < 2 ^ 32
  pub rows : header.rows < 2 ^ 64
  pub word : header.word < 2 ^ 64
  pub out : header.out < 2 ^ 64
  pub count : header.count < 2 ^ 32
  pub births : header.births < 2 ^ 32
  pub digest : IsDigest header.digest
