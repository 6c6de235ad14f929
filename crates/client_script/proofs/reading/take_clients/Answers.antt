use Rattle.std.proofs.Common.{sym, ◌∙◌}
use Rattle.client_script.proofs.Steps.{clients_step}
use Rattle.client_script.proofs.reading.take_clients.Goals as goal

pub returns : goal.returns
returns c text is =
    clients_step c.args.script.now c.in_ok-new.field-0 c.args.number is.0 c.args.count text (sym c.is_some.ensures ∙ c.if-is_some.false) is.1 is.2 c.if-count-eq0.false c.if-count-gt-MOST_CLIENTS.false c.in_ok-new.ensures
