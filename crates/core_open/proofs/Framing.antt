-- What an image keeps depends on the sectors of its bank alone.
use Rattle.std.proofs.Common.{◌≡◌, inr, ⊎_elim, ℕ, zero, suc, ◌+◌, ◌<◌, ◌≤◌, List, ◌∷◌, ◌++◌, length, Some, refl}
use Rattle.std.proofs.Common.{sym, ◌∙◌, ap, arith, []}
use Rattle.std.proofs.lemmas.Bool.{cases_lt}
use Rattle.sha2.specs.Sha256.{sha256}
use Rattle.bank_trait.specs.Disk.{Image}
use Rattle.width_map.specs.declared.birth.Birth.{Birth}
use Rattle.row_layout.specs.Layout.{Layout, part_of}
use Rattle.row_layout.specs.declared.column.Part.{Part}
use Rattle.row_layout.specs.declared.column.Part.TheVariants.{Parity, Content, Missing}
use Rattle.gf_parity.proofs.Horner.{length-parity_column}
use Rattle.reconstruct.specs.Columns.{column_bytes, part_bytes}
use Rattle.reconstruct.proofs.Cutting.{length-content_sector, length-zero_sector}
use Rattle.block_record.specs.declared.entry.IndexEntry.{IndexEntry}
use Rattle.uberblock_ring.specs.Uberblock.{Uber, slot_of, area_sector}
use Rattle.uberblock_ring.specs.Valid.{AreAlike}
use Rattle.block_record.specs.Page.{page_sectors}
use Rattle.core_state.specs.Index.{KeptBlock}
use Rattle.core_state.specs.Map.{Map}
use Rattle.core_state.specs.Shown.{Shape, Shows, Gives, IsCandidate, page_on, sectors_from}
use Rattle.core_state.specs.Choosing.{Names}
use Rattle.core_state.specs.Whole.{Cell, IsCellOf, known_of}
use Rattle.core_state.specs.Keeps.{Kept, Setting, Keeps, IsKept, MayVoteFor, ShowsGroup}
use Rattle.core_state.specs.Collision.{HasNoOtherPage}
use Rattle.core_state.proofs.Knowing.{vote_moves}
use Rattle.core_state.proofs.Listed.{contains_head}
use Rattle.core_state.proofs.Reader.{shown_alike}
use Rattle.core_open.specs.Stopped.{SameOn, IsImageOf}

pub same_back : {shape : Shape} {one other : Image} → SameOn shape one other → SameOn shape other one
same_back same = record { at = λ d x d_in x_in. sym (same.at d x d_in x_in) }

-- A device shows the same uberblocks,
shows_on : (shape : Shape) (one other : Image) (device : ℕ) (uber : Uber) → SameOn shape one other
    → Shows shape one device uber → Shows shape other device uber
shows_on shape one other device uber same shows = record {
  device_in = shows.device_in;
  slot_in = shows.slot_in;
  valid = record {
    right = shows.valid.right;
    slot_is = shows.valid.slot_is;
    bytes_are = sym (same.at device (slot_of uber.group) (let low = shows.device_in in omega (arith, low)) shows.slot_in)
        ∙ shows.valid.bytes_are;
  };
}

-- names the same pool,
names_on : (shape : Shape) (silent : ℕ) (one other : Image) (pool device : ℕ) → SameOn shape one other
    → Names shape silent one pool device → Names shape silent other pool device
names_on shape silent one other pool device same names = record {
  reads = names.reads;
  uber = names.uber;
  shows = shows_on shape one other device names.uber same names.shows;
  greatest = λ later shows. names.greatest later (shows_on shape other one device later (same_back same) shows);
  pool_is = names.pool_is;
}

-- and has the same sectors.
sectors_on : (shape : Shape) (one other : Image) (device first count : ℕ) → SameOn shape one other
    → device < shape.devices → first + count ≤ shape.sectors
    → sectors_from one device first count ≡ sectors_from other device first count
sectors_on shape one other device first zero same inside below = refl
sectors_on shape one other device first (suc more) same inside below =
    ap (λ (l : List ℕ). l ++ sectors_from one device (first + 1) more)
    (same.at device first inside (omega (arith, below)))
    ∙ ap (λ (l : List ℕ). other device first ++ l)
    (sectors_on shape one other device (first + 1) more same inside (omega (arith, below)))

-- A right uberblock's index page stands below the data rows.
page_on_same : (shape : Shape) (one other : Image) (device : ℕ) (uber : Uber) → SameOn shape one other
    → device < shape.devices → 192 ≤ shape.sectors → uber.area ≤ 1 → uber.count ≤ 512
    → page_on one uber device ≡ page_on other uber device
unfolding page_on
page_on_same shape one other device uber same inside room area count =
    sectors_on shape one other device (area_sector uber.area) (page_sectors uber.count) same inside
    (omega (arith, room, area, count))

gives_on : (shape : Shape) (one other : Image) (uber : Uber) (entries : List IndexEntry) (device : ℕ)
    → SameOn shape one other → 192 ≤ shape.sectors → uber.area ≤ 1 → uber.count ≤ 512
    → Gives shape one uber entries device → Gives shape other uber entries device
gives_on shape one other uber entries device same room area count gives = record {
  device_in = gives.device_in;
  digest = ap sha256 (sym page) ∙ gives.digest;
  page = record { index = gives.page.index; counted = gives.page.counted; page = sym page ∙ gives.page.page };
}
  where
    page : page_on one uber device ≡ page_on other uber device
    page = page_on_same shape one other device uber same (let low = gives.device_in in omega (arith, low)) room
        area count

candidate_on : (shape : Shape) (silent pool : ℕ) (one other : Image) (device : ℕ) (uber : Uber)
    (entries : List IndexEntry) → SameOn shape one other
    → IsCandidate shape silent pool one device uber entries → IsCandidate shape silent pool other device uber entries
candidate_on shape silent pool one other device uber entries same candidate = record {
  shows = shows_on shape one other device uber same candidate.shows;
  pool_is = candidate.pool_is;
  room = candidate.room;
  giver = candidate.giver;
  giver_reads = candidate.giver_reads;
  gives = gives_on shape one other uber entries candidate.giver same (let room = candidate.room in omega (arith, room))
      candidate.shows.valid.right.area candidate.shows.valid.right.count candidate.gives;
  fitting = candidate.fitting;
}

-- Each column of a block has 512 bytes,
length-column : (layout : Layout) (bytes : List ℕ) (row column : ℕ)
    → length (column_bytes layout bytes row column) ≡ 512
unfolding column_bytes
length-column layout bytes row column = by (part_of layout row column)
  where
    by : (part : Part) → length (part_bytes layout bytes row part) ≡ 512
    by (Parity which) = length-parity_column which _
    by (Content number) = length-content_sector bytes number
    by Missing = length-zero_sector

-- and so a cell has some.
cell_some : (parity : ℕ) (births : List Birth) (entries : List IndexEntry) (others : List KeptBlock) (map : Map)
    (cell : Cell) → IsCellOf parity births entries others map cell → cell.bytes ≡ [] → ⊥
cell_some parity births entries others map cell of none =
    let wide = length-column _ of.content of.cell_is.row of.cell_is.column in
    let empty : 512 ≡ 0 = sym wide ∙ ap length (sym of.cell_is.bytes ∙ none) in
    omega (arith, empty)

module _ (setting : Setting) (first : Kept) (later : List Kept) (one other : Image)
    (same : SameOn setting.shape one other) (only : IsImageOf setting.shape one)
    (keeps : Keeps setting first later one) where
  -- The index areas are on the bank.
  areas_in : 192 ≤ setting.shape.sectors
  areas_in = let room = keeps.there.shown.2.room in omega (arith, room)

  -- What an image of the bank has of a cell is on the bank.
  right_on : (parity : ℕ) (births : List Birth) (kept : Kept) (cell : Cell) (device device_sector : ℕ)
      → IsCellOf parity births kept.entries kept.others kept.map cell → device < setting.shape.devices
      → known_of one device device_sector ≡ Some cell.bytes
      → known_of other device device_sector ≡ Some cell.bytes
  right_on parity births kept cell device device_sector of inside has = ⊎_elim
      (λ below. ap (λ (b : List ℕ). Some b) (sym (same.at device device_sector inside below)) ∙ has)
      (λ above. absurd (cell_some parity births kept.entries kept.others kept.map cell of
      (given (sym has) ∙ only.outside device device_sector (inr above))))
      (cases_lt device_sector setting.shape.sectors)
    where
      given : {b c : List ℕ} → Some b ≡ Some c → b ≡ c
      given is = cc

  kept_on : (uber : Uber) → IsKept setting one (first ∷ later) uber → IsKept setting other (first ∷ later) uber
  kept_on uber held = record {
    kept = held.kept;
    listed = held.listed;
    alike = held.alike;
    listing = held.listing;
    whole = record {
      index = held.whole.index;
      right = λ cell device of inside used. record {
        at = λ device_sector place not_odd. right_on uber.parity uber.births held.kept cell device device_sector of
            inside ((held.whole.right cell device of inside used).at device_sector place not_odd);
      };
    };
    out = held.out;
  }

  shows_group : (device : ℕ) → ShowsGroup setting one first device → ShowsGroup setting other first device
  shows_group device shown = (
    shown.0,
    shown.1,
    candidate_on setting.shape 0 setting.pool one other device shown.0 first.entries same shown.2,
  )

  -- The first group's own fields are right as those of the uberblocks that show it.
  first_alike : AreAlike keeps.there.shown.0 first.uber
  first_alike = let shown = keeps.there.shown in
      shown_alike setting first later one keeps.there.device shown.0 first keeps (contains_head first later)
      (omega arith) shown.2.shows shown.2.pool_is shown.1

  gives_first : (device : ℕ) → Gives setting.shape one first.uber first.entries device
      → Gives setting.shape other first.uber first.entries device
  gives_first device gives =
      let right = keeps.there.shown.2.shows.valid.right in
      let area = ap (λ (u : Uber). u.area) first_alike in
      let count = ap (λ (u : Uber). u.count) first_alike in
      gives_on setting.shape one other first.uber first.entries device same areas_in
      (let low = right.area in omega (arith, low, area)) (let low = right.count in omega (arith, low, count)) gives

  -- The pages that are read are the same, and so none is another's by chance.
  pub pages_same : (groups : List Kept) → HasNoOtherPage setting groups one
      → HasNoOtherPage setting groups other
  pages_same groups pages = record {
    page = λ kept shower giver uber listed shows inside pool_is group digest.
        let right = shows.valid.right in
        let page : page_on one uber giver ≡ page_on other uber giver =
        page_on_same setting.shape one other giver uber same (omega (arith, inside)) areas_in right.area right.count in
        sym page ∙ pages.page kept shower giver uber listed
        (shows_on setting.shape other one shower uber (same_back same) shows) inside pool_is group (ap sha256 page ∙ digest);
  }

  votes_back : (pool device : ℕ) → MayVoteFor setting other pool device → MayVoteFor setting one pool device
  votes_back pool device = vote_moves setting other one pool device
      (λ uber pool_is shows. shows_on setting.shape other one device uber (same_back same) shows)
      (λ uber outside shows. shows_on setting.shape one other device uber same shows)

  pub keeps_same : Keeps setting first later other
  keeps_same = record {
    few = keeps.few;
    wide = keeps.wide;
    only = λ device uber above shows pool_is. kept_on uber
        (keeps.only device uber above (shows_on setting.shape other one device uber (same_back same) shows) pool_is);
    there = record {
      device = keeps.there.device;
      works = keeps.there.works;
      shown = shows_group keeps.there.device keeps.there.shown;
      each = λ device below works. shows_group device (keeps.there.each device below works);
      pages = λ device below works. gives_first device (keeps.there.pages device below works);
    };
    ascending = keeps.ascending;
    further = keeps.further;
    widths = keeps.widths;
    inside = keeps.inside;
    own = λ device uber below works shows. keeps.own device uber below works
        (shows_on setting.shape other one device uber (same_back same) shows);
    votes = λ pool devices differs distinct each. keeps.votes pool devices differs distinct
        (λ k device low. votes_back pool _ (each k device low));
  }
