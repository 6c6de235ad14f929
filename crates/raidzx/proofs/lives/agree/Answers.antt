use Rattle.std.proofs.Common.{◌≡◌, ℕ, subst, take}
use Rattle.std.specs.Bool.{Decides}
use Rattle.std.proofs.lemmas.Slice.Eq.{slice_eq-Decides}
use Rattle.width_map.proofs.SameBirths.{same_birth}
use Rattle.raidzx.proofs.lives.agree.Goals as goal

pub returns : goal.returns
returns c =
    let one = c.args.one.now in
    let other = c.args.other.now in
    let shared = c.min-shared.result in
    subst (λ (n : ℕ). Decides c.eq.result (take n one ≡ take n other)) c.min-shared.ensures
    (slice_eq-Decides same_birth (take shared one) (take shared other) c.eq.result c.eq.ensures)
