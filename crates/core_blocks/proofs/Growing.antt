-- A pool that has one device more keeps each block where it is.
use Rattle.std.proofs.Common.{◌≡◌, inl, inr, ⊎_elim, ℕ, ◌+◌, ◌<◌, ◌≤◌, List, [], ◌∷◌, ◌++◌, sym, ◌∙◌, ap, subst, arith}
use Rattle.std.proofs.Common.{if◌then◌else◌}
use Rattle.std.specs.Prelude.{Contains, nat_le, ◌^◌}
use Rattle.std.proofs.lemmas.Bool.{cases_lt}
use Rattle.std.proofs.lemmas.Bool.Decides.{nat_tests}
use Rattle.width_map.specs.declared.birth.Birth.{Birth}
use Rattle.width_map.specs.Births.{births_after, last_width, width_from}
use Rattle.width_map.proofs.Growing.{older_keep}
use Rattle.space_alloc.specs.Space.{IsIn, Run}
use Rattle.block_record.specs.declared.entry.IndexEntry.{IndexEntry}
use Rattle.reconstruct.specs.Rows.{sectors_for}
use Rattle.core_blocks.specs.declared.range.PutRange.{PutRange}
use Rattle.core_blocks.specs.Blocks.{AreInStep, AreUnderWay, Blocks, HasLayouts, IsListed, layout_run, run_of}
use Rattle.core_blocks.specs.Growing.{grown_by}
use Rattle.core_blocks.specs.Kept.{NoneFree}
use Rattle.core_blocks.specs.Puts.{IsRangeFor}
use Rattle.core_blocks.specs.Runs.{AreClear}

-- The last entry has its width from its group on.
newest_width : (births : List Birth) (width : ℕ) (newest : Birth) (birth : ℕ) → newest.group ≤ birth
    → width_from width (births ++ newest ∷ []) birth ≡ newest.width
newest_width [] width newest birth low = grind (arith, nat_tests, low)
newest_width (entry ∷ births) width newest birth low =
    newest_width births (if nat_le entry.group birth then entry.width else width) newest birth low

grown_layouts : (parity : ℕ) (births : List Birth) (group : ℕ) → HasLayouts parity births
    → parity ≤ last_width births → last_width births < 16
    → HasLayouts parity (births_after births group)
grown_layouts parity births group has wide narrow = record {
  some_lost = has.some_lost;
  few_lost = has.few_lost;
  wide = λ birth. ⊎_elim
      (λ older. (let was = has.wide birth in omega (arith, was, older_keep births group birth older)))
      (λ newer. omega (arith, wide, newest_width births 0 newest birth newer))
      (cases_lt birth (group + 2));
  narrow = λ birth. ⊎_elim
      (λ older. (let was = has.narrow birth in omega (arith, was, older_keep births group birth older)))
      (λ newer. omega (arith, narrow, newest_width births 0 newest birth newer))
      (cases_lt birth (group + 2));
}
  where
    newest : Birth
    newest = record { group = group + 2; width = last_width births + 1 }

module _ (blocks : Blocks) (group capacity : ℕ) where
  abbrev grown : Blocks
  grown = grown_by blocks group capacity

  -- Blocks born before that have their sectors still.
  same_run : (entry : IndexEntry) → entry.birth < group + 2
      → run_of grown.parity grown.births entry ≡ run_of blocks.parity blocks.births entry
  same_run entry older = ap (λ (width : ℕ). layout_run (record {
    start = entry.start;
    sectors = sectors_for entry.len;
    parity = blocks.parity;
    width = width;
  })) (older_keep blocks.births group entry.birth older)

  pub grown_keeps : (past : ℕ) (kept : List IndexEntry)
      → ((entry : IndexEntry) → Contains kept entry → entry.birth < group + 2)
      → NoneFree blocks past kept → NoneFree grown past kept
  grown_keeps past kept older free = record {
    each = λ entry sector listed inside. free.each entry sector listed
        (subst (λ (run : Run). IsIn run.start run.len sector) (same_run entry (older entry listed)) inside);
  }

  pub grown_range : (id len birth : ℕ) (range : PutRange) → birth < group + 2 → IsRangeFor blocks id len birth range
      → IsRangeFor grown id len birth range
  grown_range id len birth range older is = record {
    id_is = is.id_is;
    birth_is = is.birth_is;
    layout_is = is.layout_is ∙ ap (λ (width : ℕ). record {
      start = range.layout.start;
      sectors = sectors_for len;
      parity = blocks.parity;
      width = width;
    }) (sym (older_keep blocks.births group birth older));
  }

  module _ (born : (entry : IndexEntry) → IsListed blocks.table.entries entry → entry.birth < group + 2) where
    pub grown_step : blocks.parity ≤ last_width blocks.births → last_width blocks.births < 16
        → blocks.space.capacity ≤ capacity → capacity ≤ 2 ^ 54 → AreInStep blocks → AreInStep grown
    grown_step wide narrow larger small step = record {
      layouts = grown_layouts blocks.parity blocks.births group step.layouts wide narrow;
      small = small;
      spread = record {
        inside = λ run listed. let was = step.spread.inside run listed in record {
          some = was.some;
          below = (let below = was.below in omega (arith, below, larger));
        };
        taken = step.spread.taken;
        held = step.spread.held;
        between = step.spread.between;
      };
      each = λ entry listed. let was = step.each entry listed in record {
        right = was.right;
        start = was.start;
        taken = subst (Contains blocks.space.taken) (sym (same_run entry (born entry listed))) was.taken;
      };
      apart = λ one other listed also differ.
          subst (λ (run : Run). AreClear run (run_of grown.parity grown.births other))
          (sym (same_run one (born one listed)))
          (subst (AreClear (run_of blocks.parity blocks.births one)) (sym (same_run other (born other also)))
          (step.apart one other listed also differ));
    }

    pub grown_under : (ranges : List PutRange) → AreUnderWay blocks ranges → AreUnderWay grown ranges
    grown_under ranges under = record {
      each = λ range listed. let was = under.each range listed in record {
        reserved = was.reserved;
        taken = was.taken;
        clear = λ entry found. subst (AreClear (layout_run range.layout)) (sym (same_run entry (born entry found)))
            (was.clear entry found);
      };
      apart = under.apart;
      every = λ run listed. ⊎_elim (λ its. inl (its.0, its.1, same_run its.0 (born its.0 its.1) ∙ its.2)) (λ put. inr put)
          (under.every run listed);
      reserved = under.reserved;
    }
