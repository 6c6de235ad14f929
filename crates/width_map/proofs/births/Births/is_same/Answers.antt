use Rattle.std.proofs.Common.{◌≡◌, ◌∙◌, sym}
use Rattle.std.proofs.lemmas.Slice.Eq.{slice_eq-Decides}
use Rattle.width_map.proofs.SameBirths.{same_birth}
use Rattle.width_map.proofs.births.Births.is_same.Goals as goal

pub returns : goal.returns
returns c =
    let decides = slice_eq-Decides same_birth c.as_slice.result.now c.as_slice-2.result.now c.eq.result c.eq.ensures in
    let one : c.as_slice.result.now ≡ c.args.self.now = c.as_slice.ensures.value in
    let other : c.as_slice-2.result.now ≡ c.args.other.now = c.as_slice-2.ensures.value in (
      (λ is. sym one ∙ decides.0 is ∙ other),
      (λ same. decides.1 (one ∙ same ∙ sym other)),
    )
