use Rattle.std.proofs.Common.{◌≡◌, ◌<◌, length, arith}
use Rattle.std.proofs.lemmas.Bool.Decides.{nat_tests}
use Rattle.client_script.proofs.Hexes.{wrong_length, two_digits, spelled_all}
use Rattle.client_script.proofs.hex.hex_bytes.Goals as goal
use Rattle.client_script.proofs.hex.hex_bytes.Goals.{then-is_empty-via-then-is_empty}
use Rattle.client_script.proofs.hex.hex_bytes.Goals.{then-is_empty-via-else-is_empty+then-text-eq1}
use Rattle.client_script.proofs.hex.hex_bytes.Goals.{then-is_empty-via-else-is_empty+else-text-eq1+then-text}

pub returns-then-is_empty : goal.returns-then-is_empty
returns-then-is_empty c bytes is =
    let right = wrong_length c.args.text.now bytes is in
    elim c.then-is_empty.branch [
      | then-is_empty-via-then-is_empty w ↦ (let none : length c.args.text.now ≡ 0 = grind (arith, nat_tests, c.is_empty.ensures, w.if-is_empty.true) in omega (arith, right, none))
      | then-is_empty-via-else-is_empty+then-text-eq1 w ↦ omega (arith, right, w.if-text-eq1.true)
      | then-is_empty-via-else-is_empty+else-text-eq1+then-text w ↦ omega (arith, right, w.if-text.true)
    ]

pub returns-in_default : goal.returns-in_default
returns-in_default c bytes is =
    let byte = two_digits c.args.text.now bytes c.loop-place.place is (omega (arith, c.loop-place-test.true)) in
    c.in_default.ensures.none byte.0 byte.1 byte.2 byte.3

pub returns : goal.returns
returns c =
    spelled_all c.args.text.now c.loop-place.bytes.items c.loop-place.place
    (omega (arith, c.if-text-eq1.false, c.loop-place-test.false, c.loop-place.auto.place-end))
    (let some : 0 < length c.args.text.now = grind (arith, nat_tests, c.is_empty.ensures, c.if-is_empty.false) in
    omega (arith, some, c.if-text-eq1.false, c.loop-place-test.false, c.loop-place.auto.place-end))
    (omega (arith, c.if-text.false, c.loop-place.auto.place-end))
    (omega (arith, c.loop-place.invariant.count, c.loop-place.bytes.ok)) c.loop-place.invariant.so_far c.loop-place.invariant.fit
