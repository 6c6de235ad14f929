-- When two births are the same.
use Rattle.std.proofs.Common.{◌≡◌, ap, eqb, eqb-true, eq-eqb}
use Rattle.std.specs.Prelude.{◌&&◌}
use Rattle.std.specs.Bool.{Decides}
use Rattle.std.proofs.lemmas.Bool.{and_from, and_parts}
use Rattle.width_map.specs.declared.birth.Birth.{Birth}

-- Two births are the same where their groups and their widths are.
pub same_birth : (one other : Birth) → Decides (eqb one.group other.group && eqb one.width other.width) (one ≡ other)
same_birth one other = (
  (λ is. let parts = and_parts (eqb one.group other.group) (eqb one.width other.width) is in
      (λ i. record {
        group = eqb-true one.group other.group parts.0 i;
        width = eqb-true one.width other.width parts.1 i;
      })),
  (λ same. and_from _ _ (eq-eqb one.group other.group (ap (λ (b : Birth). b.group) same))
      (eq-eqb one.width other.width (ap (λ (b : Birth). b.width) same))),
)
