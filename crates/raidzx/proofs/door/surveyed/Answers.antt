use Rattle.std.proofs.Common.{◌≤◌, refl, rules}
use Rattle.uberblock_ring.specs.Devices.{count_of}
use Rattle.raidzx.proofs.Surveys.{made_chosen}
use Rattle.raidzx.proofs.door.surveyed.Goals as goal

pub returns-clause-chosen : goal.returns-clause-chosen
returns-clause-chosen c = λ known told.
    let few : count_of c.args.found.out ≤ c.args.found.uber.parity = search rules in
    made_chosen c.args.found c.args.named _ c.by_found.result known refl (record {
      named = c.by_found.ensures.named;
      uber = c.by_found.ensures.uber;
      out = c.by_found.ensures.out;
      few = few;
      listed = c.by_found.ensures.listed;
      entries = refl;
    }) told

pub returns-clause-none : goal.returns-clause-none
returns-clause-none c = λ told. absurd (told c.by_found.result refl)
