-- The uberblock of the group after the last answered one.
use Rattle.std.specs.Prelude.{ℕ, ◌+◌, ◌-◌, List}
use Rattle.reflow_mark.specs.declared.reflow.Reflow.{Reflow}
use Rattle.uberblock_ring.specs.Uberblock.{Uber}
use Rattle.mark_choice.specs.CommitChoice.{births_of_commit}

-- the uberblock of the group after this one, at a chosen reflow: its page goes to the other area, and it lists these
-- devices as out
abbrev pub next_uber : Uber → Reflow → ℕ → List ℕ → ℕ → Uber
next_uber uber chosen count digest out = record uber {
  group = uber.group + 1;
  reflow = chosen;
  births = births_of_commit uber.reflow chosen uber.births (uber.group + 1);
  area = 1 - uber.area;
  count = count;
  digest = digest;
  out = out;
}
