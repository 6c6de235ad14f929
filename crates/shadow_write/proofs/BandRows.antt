-- Worked rows of the band, widths 3 to 4 over 64 rows, mark 128.
use Rattle.std.proofs.Common.{◌≡◌, ◌+◌, ◌<◌, inl, refl, arith}
use Rattle.reflow_mark.specs.declared.reflow.State.TheVariants.{None, Valid, Moved}
use Rattle.reflow_mark.specs.declared.reflow.Reflow.{Reflow}
use Rattle.scratch_area.specs.Scratch.{old_place, new_place}
use Rattle.shadow_write.specs.Band.{IsWidening, IsInBand, reach_of}

abbrev moved : Reflow
moved = record { from = 3; to = 4; rows = 64; mark = 128; state = Moved }

abbrev valid : Reflow
valid = record { from = 3; to = 4; rows = 64; mark = 128; state = Valid }

abbrev begun : Reflow
begun = record { from = 3; to = 4; rows = 64; mark = 0; state = None }

moved_widens : IsWidening moved
moved_widens = record {
  expands = refl;
  some = omega arith;
  narrow = omega arith;
  mark = (omega arith, omega arith);
}

-- How far new places may be in use: up to the limit in Moved, up to the end of the scratch area in Valid.
reach_moved : reach_of moved ≡ 167
reach_moved = refl

reach_valid : reach_of valid ≡ 128
reach_valid = refl

reach_begun : reach_of begun ≡ 0
reach_begun = refl

-- The last sector within reach goes to the old place of sector 125, which no row that may still be read has.
lands_on : new_place moved 166 ≡ old_place moved 125
lands_on = refl

out_of_band : 128 < 125 + 3 → ⊥
out_of_band above = omega (arith, above)

-- The old place of sector 126 is in the band: a row that begins there may end above the mark.
in_band : IsInBand moved 128 126 0 (192 + 42)
in_band = inl (omega arith, record { device_is = refl; sector_is = refl })

-- Two sectors further the new place is the old one of sector 126, which is in the band.
next_lands_on : new_place moved 168 ≡ old_place moved 126
next_lands_on = refl
