-- A block that was gone over is right at each of its places on devices in use: it is no more among what may be wrong.
use Rattle.core_turns.proofs.Words.{◌≡◌, ◌≢◌, ◌⊎◌, inl, inr, ⊎_elim, ℕ, ◌<◌, List, [], ◌∷◌, Bool, true, false, cond}
use Rattle.core_turns.proofs.Words.{Option, Some, refl, sym, ◌∙◌, ap, subst, arith, nat_tests, slice_get, Contains}
use Rattle.core_turns.proofs.Words.{Reflow, Layout, Write, Map, Kept, Setting, IndexEntry, Cell, Excepted, IsAmong}
use Rattle.core_turns.proofs.Words.{IsCell, IsRightBlock, IsListed, Gains, gains_cases, gains_item, contains_cases}
use Rattle.core_turns.proofs.Words.{contains_none, CommitRun, layout_of, listed_in_pool, pairs_beside, slice_get_within}
use Rattle.core_turns.proofs.Words.{sector_inside, BlockScrub, CoreState, IsCore, as_begun, HoldsMap, HoldsScrub}
use Rattle.core_turns.proofs.Words.{IsGoneOver, IsScrubOf, MayMend, has_sector, mended_of, pool_at, HoldingCall}
use Rattle.core_turns.proofs.Words.{Putting, Reading, Scrubbing, Copying, AreBeside, AreCallsOf, Damage, HoldsCall}
use Rattle.core_turns.proofs.Words.{Stands, actor_of}
use Rattle.std.specs.Prelude.{◌+◌, ◌≤◌, filter, not}
use Rattle.row_layout.specs.Layout.{allocated_of}
use Rattle.std.proofs.lemmas.Bool.{cases_eq}
use Rattle.std.proofs.lemmas.Option.{slice_get-get_or}
use Rattle.range_locks.proofs.Lists.{filter_listed, filter_was}
use Rattle.core_copy.specs.Closed.{IsClosed}
use Rattle.core_turns.proofs.put.Turns.{same_filled}
use Rattle.core_turns.proofs.scrub.Looks.{column_is}
use Rattle.core_turns.proofs.scrub.Turns.{one_scrub}
use Rattle.core_turns.proofs.state.Calls.{beside_turn}

-- ---- lists

-- What a filter keeps passes it.
filter_passes : {T : Type 0} (test : T → Bool) (xs : List T) (y : T) → Contains (filter test xs) y → test y ≡ true
filter_passes test [] y listed = absurd (contains_none y listed)
filter_passes {T} test (x ∷ xs) y listed = by (test x) refl (filter_passes test xs y) listed
  where
    by : (b : Bool) → test x ≡ b → (Contains (filter test xs) y → test y ≡ true)
        → Contains (cond b (x ∷ filter test xs) (filter test xs)) y → test y ≡ true
    by true passes rest there = ⊎_elim (λ (same : y ≡ x). ap test same ∙ passes) rest
        (contains_cases x (filter test xs) y there)
    by false passes rest there = rest there

-- What is left is of what was,
mended_was : (layout : Layout) (left : Excepted) → IsAmong (mended_of layout left) left
mended_was layout left what has = filter_was (λ (w : ℕ × (ℕ × ℕ)). not (has_sector layout w.0)) left what has

-- all that the block doesn't take,
mended_has : (layout : Layout) (left : Excepted) (what : ℕ × (ℕ × ℕ)) → has_sector layout what.0 ≡ false
    → Contains left what → Contains (mended_of layout left) what
mended_has layout left what apart has = filter_listed (λ (w : ℕ × (ℕ × ℕ)). not (has_sector layout w.0)) left what
    (ap not apart) has

-- and closed as it was: a copy leaves a sector that sector.
mended_closed : (layout : Layout) (left : Excepted) → IsClosed left → IsClosed (mended_of layout left)
mended_closed layout left closed = record {
  copied = λ reflow job sector widening copies listed.
      let passes = filter_passes (λ (w : ℕ × (ℕ × ℕ)). not (has_sector layout w.0)) left _ listed in
      mended_has layout left _ (off (has_sector layout sector) passes)
      (closed.copied reflow job sector widening copies (mended_was layout left _ listed));
}
  where
    off : (b : Bool) → not b ≡ true → b ≡ false
    off true same = cc
    off false same = refl

-- ---- a block that was gone over

module _ {left calls : List HoldingCall} {state : CoreState} {run : BlockScrub} (is : IsCore state.core)
    (over : IsGoneOver run) (listed : IsListed state.core.pool.blocks.table.entries run.read.entry)
    (gains : Gains left calls (Scrubbing run)) (are : AreCallsOf state.core calls)
    {setting : Setting} {last : Kept} {begun : List Kept} {map : Map} {damage : Damage} {contents : ℕ → List ℕ}
    {commit : Option CommitRun} (stands : Stands setting last begun map damage contents calls commit state) where
  abbrev reflow : Reflow
  reflow = state.core.pool.uber.reflow

  abbrev done : ℕ
  done = state.core.pool.done

  abbrev layout : Layout
  layout = run.mend.range.layout

  abbrev content : List ℕ
  content = contents run.read.hold.actor

  -- what may be wrong still
  abbrev fewer : Damage
  fewer = record damage { left = mended_of layout damage.left }

  of : IsScrubOf state.core run
  of = are.each (Scrubbing run) (gains_item left calls (Scrubbing run) gains)

  held : HoldsScrub damage content state run
  held = stands.each (Scrubbing run) (gains_item left calls (Scrubbing run) gains)

  -- It is right at all places on devices in use.
  pub block_is_right : (wrong : Excepted)
      → IsRightBlock layout content reflow done state.disk.reads state.core.pool.out wrong
  block_is_right wrong = record {
    each = λ cell its. record {
      at = λ device device_sector asked used none.
          let so_far = (held.mend.so_far over.0 over.1).1 in
          let write : Write = record {
            device = device;
            device_sector = device_sector;
            row = its.row;
            column = its.column;
          } in
          let has = so_far.plan.required.all its.row its.column device device_sector its.there
          (rw (its.row_end, its.sector) at asked) in
          so_far.held has.0 write (subst (λ (n : ℕ). has.0 < n) (sym over.2) has.1)
          (slice_get-get_or over.0.write.writes has.0 write has.1
          ∙ ap (λ (w : Write). Some w) has.2) used
          ∙ ap (λ (bytes : List ℕ). Some bytes) (column_is so_far.plan.encoded its.there ∙ sym its.bytes);
    };
  }

  -- Its entry is the one of its id,
  same_entry : (entry : IndexEntry) → IsListed state.core.pool.blocks.table.entries entry
      → entry.id ≡ run.read.entry.id → entry ≡ run.read.entry
  same_entry entry there same = some_same (sym there ∙ rw same listed)
    where
      some_same : {one other : IndexEntry} → Some one ≡ Some other → one ≡ other
      some_same same = cc

  -- and other blocks have none of its sectors.
  off_block : (entry : IndexEntry) → IsListed state.core.pool.blocks.table.entries entry
      → entry.id ≢ run.read.entry.id → (given : List ℕ) (cell : Cell)
      → IsCell (layout_of state.core.pool.uber.parity state.core.pool.uber.births entry) given cell
      → has_sector layout cell.sector ≡ false
  off_block entry there apart given cell its =
      let pool = listed_in_pool (as_begun state.core) entry is.is is.step there in
      let inside = sector_inside (layout_of state.core.pool.uber.parity state.core.pool.uber.births entry) reflow its.row
      its.column pool its.there in
      by (has_sector layout cell.sector) refl
      (λ has. is.step.apart entry run.read.entry there listed apart cell.sector
      (rw (is.is.parity, is.is.births, its.sector) inside)
      (rw (is.is.parity, is.is.births) (subst (λ (l : Layout). (l.start ≤ cell.sector)
      × (cell.sector < l.start + allocated_of l)) (of.layout ∙ of.read.layout_is) (within has))))
    where
      by : (b : Bool) → has_sector layout cell.sector ≡ b → (has_sector layout cell.sector ≡ true → ⊥)
          → has_sector layout cell.sector ≡ false
      by true same none = absurd (none same)
      by false same none = same

      within : has_sector layout cell.sector ≡ true
          → (layout.start ≤ cell.sector) × (cell.sector < layout.start + allocated_of layout)
      within has = search (nat_tests, arith)

  -- So the map is held with less that may be wrong,
  map_mended : HoldsMap fewer.left map (pool_at state)
  map_mended = record {
    table = stands.holds.table;
    bytes = stands.holds.bytes;
    right = λ entry given there has. ⊎_elim
        (λ same. own entry given (same_entry entry there same) has)
        (λ apart. others entry given there apart (stands.holds.right entry given there has))
        (cases_eq entry.id run.read.entry.id);
  }
    where
      own : (entry : IndexEntry) (given : List ℕ) → entry ≡ run.read.entry → map entry.id ≡ Some given
          → IsRightBlock (layout_of state.core.pool.uber.parity state.core.pool.uber.births entry) given reflow done
          state.disk.reads state.core.pool.out fewer.left
      own entry given same has =
          let its : map run.read.entry.id ≡ Some content =
          stands.reads (record { entry = run.read.entry; content = content }) (record {
            call = Scrubbing run;
            listed = gains_item left calls (Scrubbing run) gains;
            entry_is = refl;
            content_is = refl;
          }) listed in
          let bytes : given ≡ content = some_same (sym has ∙ ap (λ (e : IndexEntry). map e.id) same ∙ its) in
          rw (same, bytes, ← of.read.layout_is, ← of.layout) (block_is_right fewer.left)
        where
          some_same : {one other : List ℕ} → Some one ≡ Some other → one ≡ other
          some_same same = cc

      others : (entry : IndexEntry) (given : List ℕ) → IsListed state.core.pool.blocks.table.entries entry
          → entry.id ≢ run.read.entry.id
          → IsRightBlock (layout_of state.core.pool.uber.parity state.core.pool.uber.births entry) given reflow done
          state.disk.reads state.core.pool.out damage.left
          → IsRightBlock (layout_of state.core.pool.uber.parity state.core.pool.uber.births entry) given reflow done
          state.disk.reads state.core.pool.out fewer.left
      others entry given there apart right = record {
        each = λ cell its. record {
          at = λ device device_sector asked used none.
              (right.each cell its).at device device_sector asked used
              (λ has. none (mended_has layout damage.left _ (off_block entry there apart given cell its) has));
        };
      }

  -- and so is what calls hold.
  call_mended : (call : HoldingCall) → Contains calls call → HoldsCall damage state (contents (actor_of call)) call
      → HoldsCall fewer state (contents (actor_of call)) call
  call_mended (Putting put) there now = now
  call_mended (Reading get) there now = now
  call_mended (Copying job) there now = now
  call_mended (Scrubbing other) there now = record {
    read = now.read;
    mend = now.mend;
    listed = subst (MayMend fewer.left) (own (gains_cases left calls (Scrubbing run) (Scrubbing other) gains there))
        may;
  }
    where
      own : (Scrubbing run ≡ Scrubbing other) ⊎ Contains left (Scrubbing other) → run ≡ other
      own (inl same) = cc
      own (inr rest) = absurd ((pairs_beside AreBeside beside_turn calls left (Scrubbing run) (Scrubbing other) gains
          are.beside rest).actors (one_scrub of (are.each (Scrubbing other) there)))

      may : MayMend fewer.left run
      may differs filled same write is_there =
          let one : filled ≡ over.0 = same_filled (sym same ∙ over.1) in
          absurd (past (rw one at is_there))
        where
          past : slice_get over.0.write.writes over.0.write.next ≡ Some write → ⊥
          past is_there = search (slice_get_within, arith)

  -- All stands with less that may be wrong.
  pub block_mended_stands : Stands setting last begun map fewer contents calls commit state
  block_mended_stands = record {
    groups = stands.groups;
    alike = stands.alike;
    kept = stands.kept;
    spared = stands.spared;
    reads = stands.reads;
    damage_is = record {
      within = λ what has. stands.damage_is.within what (mended_was layout damage.left what has);
      closed = mended_closed layout damage.left stands.damage_is.closed;
    };
    lists = λ kept there. record {
      least = λ what has. (stands.lists kept there).least what (mended_was layout damage.left what has);
      most = (stands.lists kept there).most;
    };
    shape = stands.shape;
    tells = stands.tells;
    bank = stands.bank;
    holds = map_mended;
    each = λ call there. call_mended call there (stands.each call there);
  }
