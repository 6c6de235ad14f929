-- What stands between two turns stands over each look at a place of a block under a scrub: one that reads otherwise is
-- listed as what may be wrong.
use Rattle.core_turns.proofs.Words.{◌≡◌, ◌≢◌, ◌⊎◌, inl, inr, ⊎_elim, ℕ, List, [], ◌∷◌, Bool, true, false, Option, Some}
use Rattle.core_turns.proofs.Words.{refl, sym, ◌∙◌, ap, subst, arith, Contains, Lawful, Tells, Unchanged, Reflow}
use Rattle.core_turns.proofs.Words.{Layout, IsColumn, end_of, sector_of, Write, Rows, column_bytes, Map, Kept, Setting}
use Rattle.core_turns.proofs.Words.{Point, point_of, Cell, Excepted, IsCell, contains_cases, contains_head}
use Rattle.core_turns.proofs.Words.{contains_none, contains_tail, Gains, gains_item, OnlyFailedGoOut, listed_at}
use Rattle.core_turns.proofs.Words.{CommitRun, IsRightBlock, BlockScrub, PutRun, CoreState, HasBankOf, IsCore, HoldsPut}
use Rattle.core_turns.proofs.Words.{HoldsScrub, IsScrubOf, LooksOne, MayMend, HoldingCall, Scrubbing, AreCallsOf}
use Rattle.core_turns.proofs.Words.{Damage, Stands, looked_at, tells_at}
use Rattle.core_client.specs.Writing.{ChecksPlace, spot_written}
use Rattle.core_client.proofs.BlockTurns.{checked_more}
use Rattle.core_state.specs.SpotReads.{IsGot}
use Rattle.core_state.proofs.SpotReads.{got_by_step, outs_by_step, unchanged_by_step}
use Rattle.std.proofs.lemmas.Bool.{cases_eq}
use Rattle.reconstruct.specs.Rows.{IsEncoded}
use Rattle.core_turns.proofs.Words.{column_at}
use Rattle.core_turns.proofs.put.Turns.{same_filled}
use Rattle.core_turns.proofs.put.Written.{write_is_listed}
use Rattle.core_turns.proofs.scrub.Stands.{block_looked}
use Rattle.core_turns.proofs.state.Cores.{bank_within}

-- ---- lists

-- Two of a list are the same, or not.
same_or_other : (one other : ℕ × (ℕ × ℕ)) → (one ≡ other) ⊎ (one ≢ other)
same_or_other (s, (d, x)) (t, (e, y)) = ⊎_elim
    (λ (sector : s ≡ t). ⊎_elim
    (λ (device : d ≡ e). ⊎_elim
    (λ (at : x ≡ y). inl (cc))
    (λ apart. inr (λ same. apart (ap (λ (p : ℕ × (ℕ × ℕ)). p.1.1) same))) (cases_eq x y))
    (λ apart. inr (λ same. apart (ap (λ (p : ℕ × (ℕ × ℕ)). p.1.0) same))) (cases_eq d e))
    (λ apart. inr (λ same. apart (ap (λ (p : ℕ × (ℕ × ℕ)). p.0) same))) (cases_eq s t)

-- Whether something may be wrong can be told.
pub listed_or_not : (wrong : Excepted) (what : ℕ × (ℕ × ℕ)) → Contains wrong what ⊎ (Contains wrong what → ⊥)
listed_or_not [] what = inr (λ listed. contains_none what listed)
listed_or_not (one ∷ wrong) what = ⊎_elim
    (λ (same : one ≡ what). inl (subst (Contains (one ∷ wrong)) same (contains_head one wrong)))
    (λ apart. ⊎_elim (λ listed. inl (contains_tail one wrong what listed))
    (λ none. inr (λ listed. ⊎_elim (λ same. apart (sym same)) none (contains_cases one wrong what listed)))
    (listed_or_not wrong what))
    (same_or_other one what)

-- ---- a look

-- A column that was made up is the block's.
pub column_is : {layout : Layout} {content : List ℕ} {rows : Rows} {row column : ℕ} → IsEncoded layout content rows
    → IsColumn layout row column → column_at rows row column ≡ column_bytes layout content row column
column_is {layout} encoded there = encoded.holds _ _ there.row_in (search arith)

module _ {left calls : List HoldingCall} {before after : CoreState} {run next : BlockScrub} (is : IsCore before.core)
    (lawful : Lawful after.disk) (looks : LooksOne before run after next) (gains : Gains left calls (Scrubbing run))
    (are : AreCallsOf before.core calls) where
  abbrev reflow : Reflow
  reflow = before.core.pool.uber.reflow

  abbrev done : ℕ
  done = before.core.pool.done

  abbrev layout : Layout
  layout = run.mend.range.layout

  abbrev write : Write
  write = looks.checks.write

  abbrev old : Point
  old = point_of before.core.pool.out before.disk

  abbrev new : Point
  new = point_of after.core.pool.out after.disk

  of : IsScrubOf before.core run
  of = are.each (Scrubbing run) (gains_item left calls (Scrubbing run) gains)

  pub look_unchanged : Unchanged before.disk after.disk
  look_unchanged = unchanged_by_step (spot_written write) looks.checks.checks.given old new looks.checks.checks.read

  pub look_outs : OnlyFailedGoOut old new
  look_outs = outs_by_step (spot_written write) looks.checks.checks.given old new looks.checks.checks.read

  module _ {setting : Setting} {last : Kept} {begun : List Kept} {map : Map} {damage : Damage} {contents : ℕ → List ℕ}
      {commit : Option CommitRun} (stands : Stands setting last begun map damage contents calls commit before) where
    abbrev content : List ℕ
    content = contents run.read.hold.actor

    held : HoldsScrub damage content before run
    held = stands.each (Scrubbing run) (gains_item left calls (Scrubbing run) gains)

    -- The places that were gone over hold the block, the one that was looked at among them unless it reads otherwise.
    looked_holds : (otherwise : Bool)
        → ChecksPlace looks.checks.filled.write.rows write otherwise old new
        → HoldsPut content after run.mend → HoldsPut content after (looked_at run.mend looks.checks.filled otherwise)
    looked_holds true checks now = now
    looked_holds false checks now =
        let so_far = held.mend.so_far looks.checks.filled looks.checks.filled_is in
        let mend = of.mend in
        let tells : Tells before.disk = stands.tells in
        let bank : HasBankOf before.core before.disk = stands.bank in
        let there = write_is_listed of.mend looks.checks.filled_is looks.checks.write_is in
        record {
          len_is = held.mend.len_is;
          are_bytes = held.mend.are_bytes;
          so_far = λ filled same. rw (← same_filled same, looks.rest) (
            so_far.0,
            checked_more layout content reflow done looks.checks.filled.write write old new looks.checks.write_is
                so_far.1 checks (search (tells_at, bank_within, there)),
          );
        }

    -- One that reads otherwise is listed as what may be wrong: the block is the map's.
    differs_listed : (otherwise : Bool) → otherwise ≡ true
        → ChecksPlace looks.checks.filled.write.rows write otherwise old new
        → Contains damage.left (sector_of layout write.row write.column, (write.device, write.device_sector))
    differs_listed otherwise is_so checks =
        let found = checks.differs is_so in
        let got : IsGot before.disk.reads before.core.pool.out after.core.pool.out (spot_written write) (Some found.0) =
        rw found.1 at (got_by_step (spot_written write) checks.given old new checks.read) in
        let plan = (of.mend.filled looks.checks.filled looks.checks.filled_is).1.plan in
        let its = held.mend.so_far looks.checks.filled looks.checks.filled_is in
        let required = plan.required.only write (listed_at looks.checks.filled.write.writes
        looks.checks.filled.write.next write looks.checks.write_is) in
        let has : map run.read.entry.id ≡ Some content =
        stands.reads (record { entry = run.read.entry; content = content }) (record {
          call = Scrubbing run;
          listed = gains_item left calls (Scrubbing run) gains;
          entry_is = refl;
          content_is = refl;
        }) looks.stands in
        let right : IsRightBlock layout content reflow done before.disk.reads before.core.pool.out damage.left =
        rw (of.layout, of.read.layout_is) (stands.holds.right run.read.entry content looks.stands has) in
        let cell : Cell = record {
          sector = sector_of layout write.row write.column;
          row_end = end_of layout write.row;
          bytes = column_bytes layout content write.row write.column;
        } in
        let cell_is : IsCell layout content cell = search arith in
        ⊎_elim (λ listed. listed)
        (λ none. absurd (found.2 (got.1 (column_bytes layout content write.row write.column)
        ((right.each cell cell_is).at write.device write.device_sector required.1 got.0 none)
        ∙ sym (column_is its.1.plan.encoded required.0))))
        (listed_or_not damage.left (sector_of layout write.row write.column, (write.device, write.device_sector)))

    look_may : MayMend damage.left next
    look_may differs filled filled_is other other_is =
        let so : looks.otherwise ≡ true = sym looks.differs ∙ differs in
        let same : next.mend ≡ run.mend = looks.checks.next_is ∙ ap (looked_at run.mend looks.checks.filled) so in
        let one : filled ≡ looks.checks.filled =
        same_filled (sym filled_is ∙ ap (λ (r : PutRun). r.filled) same ∙ looks.checks.filled_is) in
        let there : other ≡ write = some_same (sym other_is ∙ rw one looks.checks.write_is) in
        rw (same, there) (differs_listed looks.otherwise so looks.checks.checks)
      where
        some_same : {one other : Write} → Some one ≡ Some other → one ≡ other
        some_same same = cc

    -- A look leaves what stands.
    pub block_looks_stands : {nexts : List HoldingCall} → Gains left nexts (Scrubbing next)
        → Stands setting last begun map damage contents nexts commit after
    block_looks_stands again =
        block_looked is looks.rest look_unchanged look_outs lawful gains again (rw looks.next_is refl)
        (rw looks.next_is refl)
        (λ now. record {
          read = rw looks.next_is now.read;
          mend = rw looks.checks.next_is (looked_holds looks.otherwise looks.checks.checks now.mend);
          listed = look_may;
        }) stands
