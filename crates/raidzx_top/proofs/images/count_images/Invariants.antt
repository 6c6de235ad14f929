use Rattle.std.proofs.Common.{◌≡◌, ◌≢◌, ◌<◌, ◌≤◌, ℕ, List, Some, slice_get, codes, map, string_bytes}
use Rattle.raidzx_top.proofs.images.count_images.Given as goal

abbrev pub invariant-loop-index : goal.invariant-loop-index
invariant-loop-index l = (k : ℕ) (word : List ℕ) → 1 ≤ k → k < l.index
    → slice_get (map string_bytes l.words) k ≡ Some word → word ≢ codes "--"
