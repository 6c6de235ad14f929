use Rattle.std.proofs.Common.{◌≡◌, arith, subst}
use Rattle.std.specs.Prelude.{string_bytes}
use Rattle.std.proofs.lemmas.Bool.Decides.{nat_tests}
use Rattle.raidzx_top.specs.Images.{IsMemoryOf}
use Rattle.raidzx_top.proofs.WordTexts.{one_size}
use Rattle.raidzx_top.proofs.images.is_memory_of.Goals as goal

pub returns-in-Some : goal.returns-in-Some
returns-in-Some c =
    let named : IsMemoryOf (string_bytes c.args.word.now) c.in-Some.named =
    subst (λ text. IsMemoryOf text c.in-Some.named) c.as_str.ensures.value c.in-Some.ensures.some in (
      λ same. let equal : c.in-Some.named ≡ c.args.sectors = grind (arith, nat_tests, same) in
          subst (λ n. IsMemoryOf (string_bytes c.args.word.now) n) equal named,
      λ other. let equal = one_size (string_bytes c.args.word.now) c.in-Some.named c.args.sectors named other in
          grind (arith, nat_tests, equal),
    )
