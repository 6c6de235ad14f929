use Rattle.std.proofs.Common.{ℕ, ◌+◌, ◌∙◌, ap}
use Rattle.uberblock_ring.specs.Uberblock.{Uber}
use Rattle.core_state.specs.Committing.{point_of}
use Rattle.core_open.proofs.Renewal.{right_renewed, few_of, spread_by, stops_renewing, ends_renewing}
use Rattle.core_open.proofs.opening.renew.Goals as goal

pub spread-requires-2-clause-right : goal.spread-requires-2-clause-right
spread-requires-2-clause-right g c = right_renewed c.args.uber.now c.set_out.new.self c.spread.new.out c.requires.right
    (c.set_out.ensures.value ∙ (ap (λ (u : Uber). record u { out = c.spread.new.out })
    (c.set_group.ensures.value ∙ ap (λ (n : ℕ). record c.args.uber.now { group = n + 2 }) c.group.ensures.value)))
    c.requires.limit c.spread.ensures.below
    (few_of c.spread.result c.spread.new.out c.args.uber.now.parity c.spread.ensures.ok c.if-is_err.ensures.value)

pub returns-then-is_err-2-clause-ends : goal.returns-then-is_err-2-clause-ends
returns-then-is_err-2-clause-ends g c = stops_renewing c.args.uber.now c.args.entries.now c.args.lack_page c.args.lack_uber
    (point_of c.args.out.now (g.B.Bank.disk c.args.bank.now))
    (point_of c.spread.new.out (g.B.Bank.disk c.spread.new.bank)) c.spread.result c.requires.right
    (record { keeps = c.spread.ensures.keeps; gone = c.spread.ensures.gone; spares = c.spread.ensures.spares; touches = c.spread.ensures.touches; stops = c.spread.ensures.stops; writes = c.spread.ensures.writes })
    c.if-is_err.ensures.value c.spread.ensures.below c.spread.ensures.ok c.set_out.new.self
    (c.set_out.ensures.value ∙ (ap (λ (u : Uber). record u { out = c.spread.new.out })
    (c.set_group.ensures.value ∙ ap (λ (n : ℕ). record c.args.uber.now { group = n + 2 }) c.group.ensures.value)))
    (point_of c.spread-2.new.out (g.B.Bank.disk c.spread-2.new.bank)) c.spread-2.result
    (spread_by c.set_out.new.self c.args.entries.now c.empty.result c.from_bits-every.result
    (point_of c.spread.new.out (g.B.Bank.disk c.spread.new.bank))
    (point_of c.spread-2.new.out (g.B.Bank.disk c.spread-2.new.bank)) c.spread-2.result c.empty.ensures.value
    c.from_bits-every.ensures.value c.spread-2.ensures.keeps c.spread-2.ensures.gone c.spread-2.ensures.spares
    c.spread-2.ensures.touches c.spread-2.ensures.stops c.spread-2.ensures.writes)
    c.if-is_err-2.ensures.value c.spread-2.ensures.err

pub returns-clause-ends : goal.returns-clause-ends
returns-clause-ends g c = ends_renewing c.args.uber.now c.args.entries.now c.args.lack_page c.args.lack_uber
    (point_of c.args.out.now (g.B.Bank.disk c.args.bank.now))
    (point_of c.spread.new.out (g.B.Bank.disk c.spread.new.bank)) c.spread.result c.requires.right
    (record { keeps = c.spread.ensures.keeps; gone = c.spread.ensures.gone; spares = c.spread.ensures.spares; touches = c.spread.ensures.touches; stops = c.spread.ensures.stops; writes = c.spread.ensures.writes })
    c.if-is_err.ensures.value c.spread.ensures.below c.spread.ensures.ok c.set_out.new.self
    (c.set_out.ensures.value ∙ (ap (λ (u : Uber). record u { out = c.spread.new.out })
    (c.set_group.ensures.value ∙ ap (λ (n : ℕ). record c.args.uber.now { group = n + 2 }) c.group.ensures.value)))
    (point_of c.spread-2.new.out (g.B.Bank.disk c.spread-2.new.bank)) c.spread-2.result
    (spread_by c.set_out.new.self c.args.entries.now c.empty.result c.from_bits-every.result
    (point_of c.spread.new.out (g.B.Bank.disk c.spread.new.bank))
    (point_of c.spread-2.new.out (g.B.Bank.disk c.spread-2.new.bank)) c.spread-2.result c.empty.ensures.value
    c.from_bits-every.ensures.value c.spread-2.ensures.keeps c.spread-2.ensures.gone c.spread-2.ensures.spares
    c.spread-2.ensures.touches c.spread-2.ensures.stops c.spread-2.ensures.writes)
    c.if-is_err-2.ensures.value c.spread-2.ensures.ok
