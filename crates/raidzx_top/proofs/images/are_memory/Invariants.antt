use Rattle.std.proofs.Common.{◌≡◌, ◌<◌, ◌≤◌, ℕ, List, Some}
use Rattle.std.specs.Prelude.{slice_get, map, string_bytes}
use Rattle.raidzx_top.specs.Images.{IsImageWord}
use Rattle.raidzx_top.proofs.images.are_memory.Given as goal

abbrev pub invariant-loop-index : goal.invariant-loop-index
invariant-loop-index l = (k : ℕ) (word : List ℕ) → 1 ≤ k → k < l.index
    → slice_get (map string_bytes l.words) k ≡ Some word → IsImageWord (Some l.sectors) word
