-- What a stop leaves of a run or a replay is read back by the next one.
use Rattle.std.proofs.Common.{◌≡◌, ◌⊎◌, inl, inr, ⊎_elim, ℕ, zero, suc, ◌+◌, ◌≤◌, List, [], ◌∷◌, ◌++◌, length, sym, ◌∙◌}
use Rattle.std.proofs.Common.{ap, subst, arith}
use Rattle.std.specs.Prelude.{All, Contains, take}
use Rattle.std.specs.List.{AllZip}
use Rattle.std.proofs.lemmas.List.Elements.{Contains-append_cases}
use Rattle.std.proofs.lemmas.Option.{slice_get_within}
use Rattle.bank_trait.specs.Disk.{Image, Disk, Later, Unchanged}
use Rattle.bank_trait.proofs.Moments.{later_trans}
use Rattle.uberblock_ring.specs.Uberblock.{Uber}
use Rattle.core_state.specs.declared.item.Entry.{Entry}
use Rattle.core_state.specs.declared.item.Group.{Group as GroupItem}
use Rattle.core_state.specs.declared.item.Item.{Item}
use Rattle.core_state.specs.declared.item.Item.TheVariants.{Call}
use Rattle.core_state.specs.Map.{Map, PutBytes, SameMap, map_after}
use Rattle.core_state.specs.Legal.{CallAt}
use Rattle.core_state.specs.Keeps.{HaveParity, Kept, Setting, Keeps, ReachesNoFurther}
use Rattle.core_state.specs.Moment.{IsGroupOf, IsBegunAfter, IsUnanswered, KeepsRow, KeepsSince, groups_in}
use Rattle.core_state.proofs.Listed.{contains_none, contains_cases, contains_head}
use Rattle.core_state.proofs.Reaching.{reaches_among}
use Rattle.core_state.proofs.Widths.{first_width}
use Rattle.core_open.specs.Opens.{AddsOne, IsWithinBelow}
use Rattle.uberblock_ring.specs.Devices.{IsWithin}
use Rattle.core_open.proofs.Unchanged.{unchanged_keeps}
use Rattle.core_open.specs.Opening.{CutsOpening, MayBegin}
use Rattle.core_open.specs.Stopped.{IsImageOf}
use Rattle.core_open.proofs.Reopened.{stopped_begins}
use Rattle.core_open.proofs.GoingOn.{goes_on_begins}
use Rattle.core_open.specs.Holds.{shape_of}
use Rattle.client_script.specs.Script.{Script, IsAllowed, asked_by, handed_by}
use Rattle.journal_law.proofs.Rows.{row_among}
use Rattle.journal_law.proofs.RunBytes.{HoldsBytes, HandsBytes, after_bytes, script_hands}
use Rattle.schedule.specs.WholeRun.{HasRun, RunKeeps, banks_of}
use Rattle.raidzx_top.specs.Reopened.{IsToldOn, BearsCut, IsLeft, IsLeftOn, ReadsBack, IsReadBack, SurvivesOpening}
use Rattle.raidzx_top.specs.Reopened.{SurvivesStops}
use Rattle.raidzx_top.specs.Reopened.{last_groups}

-- A bank that goes on has the devices and the sectors that it had.
same_shape : (old new : Disk) → Later old new → shape_of new ≡ shape_of old
same_shape old new later = λ i. record { devices = later.devices i; sectors = later.sectors i }

-- A group has a map of bytes, of which none may be wrong.
record HoldsRight (kept : Kept) : Type 0 where
  bytes : HoldsBytes kept.map
  excepted : kept.excepted ≡ []

abbrev HoldRight : List Kept → Type 0
HoldRight groups = (kept : Kept) → Contains groups kept → HoldsRight kept

-- Each group that was answered is one of the journal's.
answered_is : (handed : PutBytes) (opening : Map) (items : List Item) (groups : List GroupItem) (answered : List Kept)
    (kept : Kept) → AllZip (IsGroupOf handed opening items) groups answered → Contains answered kept
    → (group : GroupItem) × IsGroupOf handed opening items group kept
answered_is handed opening items [] [] kept each has = absurd (contains_none kept has)
answered_is handed opening items [] (one ∷ answered) kept each has = absurd each
answered_is handed opening items (group ∷ groups) [] kept each has = absurd each
answered_is handed opening items (group ∷ groups) (one ∷ answered) kept each (zero, low, is) =
    (group, subst (λ (k : Kept). IsGroupOf handed opening items group k) is each.0)
answered_is handed opening items (group ∷ groups) (one ∷ answered) kept each (suc k, low, is) =
    answered_is handed opening items groups answered kept each.1 (k, omega (arith, low), is)

-- What stands among some items stands among all.
taken_there : (items : List Item) (count index : ℕ) (entry : Entry) → CallAt (take count items) index entry
    → CallAt items index entry
taken_there items zero index entry there = absurd (omega (arith, slice_get_within [] index (Call entry) there))
taken_there [] (suc count) index entry there = there
taken_there (item ∷ items) (suc count) zero entry there = there
taken_there (item ∷ items) (suc count) (suc index) entry there = taken_there items count index entry there

-- An image that keeps some of the groups in a row is read back as one of them.
read_back : (setting : Setting) (reach : ℕ) (groups : List Kept) (opened first : Kept) (later : List Kept) (image : Image)
    → IsImageOf setting.shape image
    → Keeps (record setting { reach = reach }) first later image
    → ReachesNoFurther (first ∷ later) reach
    → ((kept : Kept) → Contains (first ∷ later) kept → Contains groups kept)
    → HaveParity opened.uber.parity groups → HoldRight groups → IsReadBack setting groups image
read_back setting reach groups opened first later image only keeps no_further among parity right = record {
  reach = reach;
  no_further = reaches_among (first ∷ later) groups reach among no_further;
  opened = λ disk left. record {
    first = first;
    later = later;
    among = among;
    may = may disk left;
  };
  each = reads;
}
  where
    may : (disk : Disk) → IsLeftOn setting groups image disk → MayBegin (record setting { reach = reach }) first later disk
    may disk left = stopped_begins (record setting { reach = reach }) first later disk image left.shape
        (λ one listed. (right one (among one listed)).excepted) left.alone only keeps
        (record { page = λ one shower giver uber listed. left.pages.page one shower giver uber (among one listed) })
        (λ one listed. parity one (among one listed) ∙ sym (parity first (among first (contains_head first later))))
        (λ one id content listed. (right one (among one listed)).bytes id content)

    reads : (script : Script) (old new : Disk) (items : List Item) (out : ℕ) → (run : HasRun script old new items out)
        → IsLeftOn setting groups image old → IsWithinBelow reach run.silent setting.failed
        → IsWithin run.borne setting.failed
        → ReadsBack groups script items
    reads script old new items out run left missed bears = record {
      chosen = kept.chosen;
      known = among kept.chosen kept.origin.known;
      legal = kept.journal.legal;
      sound = kept.journal.sound;
    }
      where
        kept : RunKeeps script (record setting { reach = reach }) first later old new items run.parity run.silent (banks_of run)
        kept = run.keeps (record setting { reach = reach }) first later (may old left)
            (λ device below. missed device (let wide = (first_width (record setting { reach = reach }) first later keeps.widths).most in
            omega (arith, below, wide))) bears

module _ (script : Script) (old new : Disk) (items : List Item) (out : ℕ) (run : HasRun script old new items out)
    (allowed : All (λ placed. IsAllowed placed.call) script.calls)
    (setting : Setting) (first : Kept) (later : List Kept) (may : MayBegin setting first later old)
    (missed : IsWithinBelow first.uber.reflow.to run.silent setting.failed)
    (bears : IsWithin run.borne setting.failed) where
  keeps : RunKeeps script setting first later old new items run.parity run.silent (banks_of run)
  keeps = run.keeps setting first later may missed bears

  -- the groups of the run
  abbrev run_groups : List Kept
  run_groups = (first ∷ later) ++ keeps.any_moment.groups.answered ++ keeps.any_moment.groups.begun

  known_right : HoldRight (first ∷ later)
  known_right kept listed = record {
    bytes = λ id content has. may.bytes kept id content listed has;
    excepted = may.excepted kept listed;
  }

  hands : HandsBytes (handed_by script) items
  hands = script_hands script keeps.chosen.map items allowed keeps.journal.legal

  -- A group with the map of some items from the opening on,
  map_bytes : (part : List Item) → HandsBytes (handed_by script) part → (kept : Kept) (count : ℕ)
      → SameMap kept.map (map_after (handed_by script) keeps.chosen.map part count) → HoldsBytes kept.map
  map_bytes part part_hands kept count same id content has =
      after_bytes (handed_by script) keeps.chosen.map part count part_hands
      (known_right keeps.chosen keeps.origin.known).bytes
      id content (sym (same id) ∙ has)

  -- one that was begun and not answered,
  begun_right : (groups : List GroupItem) (kept : Kept)
      → IsUnanswered (asked_by script) (handed_by script) keeps.chosen.map items (first ∷ later) groups kept
      → HoldsRight kept
  begun_right [] kept is = record {
    bytes = λ id content has. (known_right is.0 is.1).bytes id content (sym (is.2.map id) ∙ has);
    excepted = is.2.excepted ∙ (known_right is.0 is.1).excepted;
  }
  begun_right (group ∷ groups) kept is =
      record { bytes = map_bytes items hands kept is.after is.map; excepted = is.excepted }

  all_right : HoldRight run_groups
  all_right kept listed = ⊎_elim
      (λ before. ⊎_elim (λ known. known_right kept known)
      (λ answered.
      let is = answered_is (handed_by script) keeps.chosen.map items (groups_in items)
      keeps.any_moment.groups.answered kept keeps.any_moment.groups.each answered in
      record { bytes = map_bytes items hands kept is.0.after is.1.map; excepted = is.1.excepted })
      (Contains-append_cases (first ∷ later) keeps.any_moment.groups.answered kept before))
      (λ begun. begun_right (groups_in items) kept (keeps.any_moment.groups.unanswered kept begun))
      (Contains-append_cases ((first ∷ later) ++ keeps.any_moment.groups.answered) keeps.any_moment.groups.begun kept
      listed)

  -- and the last group of some items with those begun after it.
  last_right : (part : List Item) → HandsBytes (handed_by script) part → (item : GroupItem) (last : Kept)
      (begun : List Kept) → IsGroupOf (handed_by script) keeps.chosen.map part item last
      → ((kept : Kept) → Contains begun kept
      → IsBegunAfter (asked_by script) (handed_by script) keeps.chosen.map part item kept)
      → HoldRight (last ∷ begun)
  last_right part part_hands item last begun last_is begun_is kept listed = ⊎_elim
      (λ same. subst HoldsRight (sym same)
      (record { bytes = map_bytes part part_hands last item.after last_is.map; excepted = last_is.excepted }))
      (λ here. let is = begun_is kept here in
      record { bytes = map_bytes part part_hands kept is.after is.map; excepted = is.excepted })
      (contains_cases last begun kept listed)

  any_moment : (moment : ℕ) (image : Image) → old.clock ≤ moment → moment ≤ new.clock
      → IsLeft setting new moment image
      → IsReadBack setting run_groups image
  any_moment moment image since until left =
      let some = keeps.any_moment.since.each moment since until in
      read_back setting some.reach run_groups first some.first some.later image left.only
      (some.keeps image left.might) some.no_further
      (row_among (record { before = some.before; after = some.after; row = some.row })) keeps.groups.parities all_right

  by_then : (count : ℕ) (some : 1 ≤ count) (all : count ≤ length items) (moment : ℕ) (image : Image)
      → (banks_of run count).clock ≤ moment → moment ≤ (banks_of run (count + 1)).clock
      → IsLeft setting (banks_of run (count + 1)) moment image
      → IsReadBack setting (last_groups (keeps.no_older.each count some all)) image
  by_then count some all moment image since until_then left =
      let until = keeps.no_older.each count some all in
      let found = until.since.each moment since until_then in
      let part_hands : HandsBytes (handed_by script) (take count items) = record {
        each = λ index entry there. hands.each index entry (taken_there items count index entry there);
      } in
      read_back setting found.reach (last_groups until) first found.first found.later image left.only
      (found.keeps image left.might) found.no_further
      (row_among (record { before = found.before; after = found.after; row = found.row }))
      (until.parity first (contains_head first later))
      (last_right (take count items) part_hands until.kept.group until.kept.last until.onward until.kept.last_is
      until.onward_is)

  at_end : (image : Image) → IsLeft setting new new.clock image
      → IsReadBack setting (keeps.kept.last ∷ keeps.kept.begun) image
  at_end image left = read_back setting keeps.kept.reach (keeps.kept.last ∷ keeps.kept.begun) first keeps.kept.last keeps.kept.begun
      image left.only (keeps.kept.keeps image left.might) keeps.kept.no_further (λ kept listed. listed)
      (λ kept has. keeps.groups.parities kept (keeps.groups.kept_among kept has))
      (last_right items hands keeps.kept.group keeps.kept.last keeps.kept.begun keeps.kept.last_is
      keeps.kept.begun_is)

  -- A run may begin on the bank that is given back.
  onward : Later old new
  onward = later_trans run.opens.later run.turns.onward

  goes_on : IsToldOn (record setting { reach = keeps.kept.reach }) (keeps.kept.last ∷ keeps.kept.begun) new
      → MayBegin (record setting { reach = keeps.kept.reach }) keeps.kept.last keeps.kept.begun new
  goes_on told = record {
    may = record {
      keeps = keeps.kept.keeps;
      shape = may.may.shape ∙ sym (same_shape old new onward);
      tells = told.tells;
      no_other = told.no_other;
      parity = λ kept listed. parity_is kept listed
          ∙ sym (parity_is keeps.kept.last (contains_head keeps.kept.last keeps.kept.begun));
    };
    excepted = λ kept listed. (right kept listed).excepted;
    bytes = λ kept id content listed. (right kept listed).bytes id content;
  }
    where
      right : HoldRight (keeps.kept.last ∷ keeps.kept.begun)
      right = last_right items hands keeps.kept.group keeps.kept.last keeps.kept.begun keeps.kept.last_is
          keeps.kept.begun_is

      parity_is : (kept : Kept) → Contains (keeps.kept.last ∷ keeps.kept.begun) kept
          → kept.uber.parity ≡ first.uber.parity
      parity_is kept listed = keeps.groups.parities kept (keeps.groups.kept_among kept listed)

  -- A run or a replay survives a stop at any moment of it.
  pub survives_stops : SurvivesStops setting first later script old new items (banks_of run)
  survives_stops = record {
    opening = keeps.chosen.map;
    legal = keeps.journal.legal;
    ever = record { groups = keeps.any_moment.groups; any_moment = any_moment };
    by_turn = record { no_older = keeps.no_older; by_then = by_then };
    finally = record { kept = keeps.kept; at_end = at_end; goes_on = goes_on };
  }

module _ (setting : Setting) (first : Kept) (later : List Kept) (old : Disk) (may : MayBegin setting first later old)
  where
    -- A group that renews one of those kept before has their parity, and a map of bytes.
    module _ (joined : List Kept) (adds : AddsOne (first ∷ later) joined) where
      joined_parity : HaveParity first.uber.parity ((first ∷ later) ++ joined)
      joined_parity kept listed = ⊎_elim (may.may.parity kept)
          (λ here.
          let from = adds.renews kept here in
          ap (λ (u : Uber). u.parity) from.2.alike ∙ may.may.parity from.0 from.1)
          (Contains-append_cases (first ∷ later) joined kept listed)

      joined_right : HoldRight ((first ∷ later) ++ joined)
      joined_right kept listed = ⊎_elim
          (λ known. record {
            bytes = λ id content has. may.bytes kept id content known has;
            excepted = may.excepted kept known;
          })
          (λ here.
          let from = adds.renews kept here in record {
            bytes = λ id content has. may.bytes from.0 id content from.1 (sym (from.2.map id) ∙ has);
            excepted = from.2.excepted ∙ may.excepted from.0 from.1;
          })
          (Contains-append_cases (first ∷ later) joined kept listed)

      some_back : {new : Disk} → Later old new → KeepsSince setting ((first ∷ later) ++ joined) old.clock new
          → SurvivesOpening setting first later old new
      some_back {new} onward since = record {
        joined = joined;
        adds = adds;
        reach = now.reach;
        no_further = reaches_among (now.first ∷ now.later) ((first ∷ later) ++ joined) now.reach
            (row_among (record { before = now.before; after = now.after; row = now.row })) now.no_further;
        goes_on = λ told. record {
          first = now.first;
          later = now.later;
          among = row_among (record { before = now.before; after = now.after; row = now.row });
          may = goes_on_begins setting ((first ∷ later) ++ joined) first.uber.parity new now
              (may.may.shape ∙ sym (same_shape old new onward)) (λ kept listed. (joined_right kept listed).excepted)
              told.tells told.no_other joined_parity
              (λ kept id content listed. (joined_right kept listed).bytes id content);
        };
        any_moment = λ moment image from until left.
            let some = since.each moment from until in
            read_back setting some.reach ((first ∷ later) ++ joined) first some.first some.later image left.only
            (some.keeps image left.might) some.no_further
            (row_among (record { before = some.before; after = some.after; row = some.row })) joined_parity joined_right;
      }
        where
          now : KeepsRow setting ((first ∷ later) ++ joined) new new.clock
          now = let clock = onward.clock in since.each new.clock (omega (arith, clock)) (omega arith)

    none_joins : AddsOne (first ∷ later) []
    none_joins = record { one = omega arith; renews = λ next here. absurd (contains_none next here) }

    -- So does a call that opened no pool.
    pub survives_opening : (new : Disk) (cut : Unchanged old new ⊎ CutsOpening old new)
        → BearsCut setting first.uber.reflow.to cut
        → SurvivesOpening setting first later old new
    survives_opening new (inl same) bears =
        some_back [] none_joins same.goes_on.later (unchanged_keeps setting first later [] same may.may.keeps)
    survives_opening new (inr cuts) bears =
        let keeps = cuts.keeps.since setting first later may.may bears.0 bears.1 in
        some_back keeps.0 keeps.1 cuts.only.later keeps.2
