use Rattle.std.proofs.Common.{◌≡◌, ℕ, ◌*◌, ◌/◌, ◌%◌, ◌^◌, ◌<◌, ◌∙◌, ap, get_or, List, length, arith, Fits, w8, bit_and}
use Rattle.std.proofs.Common.{replicate}
use Rattle.std.specs.Prelude.{bit_xor}
use Rattle.std.specs.Simd.Lanes.{zip2, Each1}
use Rattle.std.proofs.lemmas.Simd.{Each1-get_or}
use Rattle.std.proofs.lemmas.Nat.{and_mask}
use Rattle.gf_parity.specs.Field.{product}
use Rattle.gf_parity.proofs.Lanewise.{of_splat}
use Rattle.gf_solve.proofs.Halves.{product_of_halves}
use Rattle.gf_solve.proofs.products.Products.times.Goals as goal

low_half : (bytes : List ℕ) (lane : ℕ) → length bytes ≡ 16 → lane < 16 → get_or (zip2 bit_and bytes (replicate 16 15)) lane 0 ≡ get_or bytes lane 0 % 16
low_half bytes lane long low = (of_splat 16 bit_and bytes 15 long).each lane low ∙ and_mask (get_or bytes lane 0) 4

high_half : (bytes : List ℕ) (lane : ℕ) → length bytes ≡ 16 → lane < 16 → get_or (zip2 (λ (a b : ℕ). a / 2 ^ b) bytes (replicate 16 4)) lane 0 ≡ get_or bytes lane 0 / 16
high_half bytes lane long low = (of_splat 16 (λ (a b : ℕ). a / 2 ^ b) bytes 4 long).each lane low

byte : (bytes : List ℕ) (lane : ℕ) → length bytes ≡ 16 → Each1 (Fits w8) bytes → lane < 16 → get_or bytes lane 0 < 256
byte bytes lane long fits low = (Each1-get_or (Fits w8) bytes lane 0 (omega (arith, low, long)) fits).fits

pub looked_up-requires : goal.looked_up-requires
looked_up-requires c = λ lane low. omega (arith, low_half c.args.bytes lane c.fits-bytes.0 low)

pub looked_up-requires-2 : goal.looked_up-requires-2
looked_up-requires-2 c = λ lane low. omega (arith, high_half c.args.bytes lane c.fits-bytes.0 low, byte c.args.bytes lane c.fits-bytes.0 c.fits-bytes.1 low)

pub returns-clause-lanes : goal.returns-clause-lanes
returns-clause-lanes c = λ lane low.
    let is_byte = byte c.args.bytes lane c.fits-bytes.0 c.fits-bytes.1 low in
    let first : get_or c.looked_up.result lane 0 ≡ product c.args.self.now.factor (get_or c.args.bytes lane 0 % 16) =
    c.looked_up.ensures.lanes lane low ∙ ap (λ (k : ℕ). get_or c.args.self.now.low k 0) (low_half c.args.bytes lane c.fits-bytes.0 low)
    ∙ c.args.self.now.low_halves (get_or c.args.bytes lane 0 % 16) (omega arith) in
    let second : get_or c.looked_up-2.result lane 0 ≡ product c.args.self.now.factor (16 * (get_or c.args.bytes lane 0 / 16)) =
    c.looked_up-2.ensures.lanes lane low ∙ ap (λ (k : ℕ). get_or c.args.self.now.high k 0) (high_half c.args.bytes lane c.fits-bytes.0 low)
    ∙ c.args.self.now.high_halves (get_or c.args.bytes lane 0 / 16) (omega (arith, is_byte)) in
    c.added.ensures.lanes lane low ∙ (λ i. bit_xor (first i) (second i)) ∙ product_of_halves c.args.self.now.factor (get_or c.args.bytes lane 0)
