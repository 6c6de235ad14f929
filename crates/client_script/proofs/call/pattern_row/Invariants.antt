use Rattle.std.proofs.Common.{◌≡◌, ◌+◌, ◌*◌, ◌%◌, ◌<◌, ℕ, length}
use Rattle.std.specs.Prelude.{slice_index_or}
use Rattle.client_script.proofs.call.pattern_row.Given as goal

abbrev pub invariant-loop-place : goal.invariant-loop-place
invariant-loop-place l = record {
  long : length l.row ≡ 256;
  each : (place : ℕ) → place < l.place → slice_index_or l.row place 0 ≡ (l.first + 7 * place) % 256;
}
