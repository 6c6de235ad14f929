use Rattle.std.proofs.lemmas.Result.{IfOk-weaker}
use Rattle.raidzx.proofs.Surveys.{chosen_found, none_chosen, none_found, seen_then}
use Rattle.raidzx.proofs.door.look_around.Goals as goal

pub returns-in-Ok-clause-seen : goal.returns-in-Ok-clause-seen
returns-in-Ok-clause-seen g c =
    seen_then (g.B.Bank.disk c.args.bank.now) (g.B.Bank.disk c.see.new.bank) (g.B.Bank.disk c.find.new.bank)
    c.find.ensures.unchanged c.in_ok-sightings.sightings c.in_ok-sightings.ensures.seen c.surveyed.result
    c.surveyed.ensures.sightings

pub returns-in-Ok-clause-chosen : goal.returns-in-Ok-clause-chosen
returns-in-Ok-clause-chosen g c =
    chosen_found (g.B.Bank.disk c.args.bank.now) (g.B.Bank.disk c.see.new.bank) (g.B.Bank.disk c.find.new.bank)
    c.see.ensures.unchanged c.surveyed.result c.in-Ok.found c.devices-named.result c.devices-named.ensures
    c.surveyed.ensures.chosen c.in-Ok.ensures.silent c.in-Ok.ensures.found

pub returns-in-Ok-clause-none : goal.returns-in-Ok-clause-none
returns-in-Ok-clause-none g c =
    none_chosen (g.B.Bank.disk c.args.bank.now) (g.B.Bank.disk c.see.new.bank) (g.B.Bank.disk c.find.new.bank)
    c.see.ensures.unchanged c.surveyed.result c.args.asks_all c.in-Ok.found c.surveyed.ensures.none
    c.in-Ok.ensures.silent c.in-Ok.ensures.found

pub returns-in-Err-clause-seen : goal.returns-in-Err-clause-seen
returns-in-Err-clause-seen g c = IfOk-weaker c.unsurveyed.result _ _
    (λ survey same. seen_then (g.B.Bank.disk c.args.bank.now) (g.B.Bank.disk c.see.new.bank)
    (g.B.Bank.disk c.find.new.bank) c.find.ensures.unchanged c.in_ok-sightings.sightings
    c.in_ok-sightings.ensures.seen survey same) c.unsurveyed.ensures.sightings

pub returns-in-Err-clause-chosen : goal.returns-in-Err-clause-chosen
returns-in-Err-clause-chosen g c =
    IfOk-weaker c.unsurveyed.result _ _ (λ survey none known told. absurd (none.0 known told)) c.unsurveyed.ensures.none

pub returns-in-Err-clause-none : goal.returns-in-Err-clause-none
returns-in-Err-clause-none g c = IfOk-weaker c.unsurveyed.result _ _
    (λ survey none. none_found (g.B.Bank.disk c.args.bank.now) (g.B.Bank.disk c.see.new.bank)
    (g.B.Bank.disk c.find.new.bank) c.see.ensures.unchanged survey c.args.asks_all c.in-Err.why none.1
    c.in-Err.ensures.cause) c.unsurveyed.ensures.none
