use Rattle.std.proofs.Common.{refl, subst}
use Rattle.std.specs.Prelude.{map, string_bytes}
use Rattle.raidzx_top.specs.declared.order.Order.TheVariants.{AsTheyCome, AsListed}
use Rattle.command_words.specs.declared.command.ServedCommand.{ServedCommand}
use Rattle.command_words.specs.declared.command.ServedCommand.TheVariants as served
use Rattle.raidzx_top.specs.Ending.{AsCreate, AsRun, AsStatus}
use Rattle.raidzx_top.proofs.Ending.{no_command_ends}
use Rattle.raidzx_top.specs.Served.{IsServedAs}
use Rattle.raidzx_top.proofs.top.carry_out.Goals as goal

pub returns-in-Err-clause-ends : goal.returns-in-Err-clause-ends
returns-in-Err-clause-ends g c = rw (c.without_turns-in-Err.ensures.status, c.without_turns-in-Err.ensures.turns, c.without_turns-in-Err.ensures.bank, c.without_turns-in-Err.ensures.journal)
    (no_command_ends _ c.in-Err.why c.status_of.result c.in-Err.ensures.err c.status_of.ensures c.refuse.ensures.same refl
    (record { unread = refl; journal = refl; turns = refl }) c.refuse.ensures.said)

pub returns-in-Ok-Create-clause-ends : goal.returns-in-Ok-Create-clause-ends
returns-in-Ok-Create-clause-ends g c = rw (c.without_turns.ensures.status, c.without_turns.ensures.turns, c.without_turns.ensures.bank, c.without_turns.ensures.journal)
    (AsCreate (record {
      quiet = record { unread = refl; journal = refl; turns = refl };
      made = c.in-Ok-Create.made;
      served_as = subst (λ (given : ServedCommand). IsServedAs (map string_bytes c.args.words.now) given)
          c.in-Ok-Create.field-0-is c.in-Ok-Create.ensures.ok;
      ends = c.create_pool-status.ensures;
    }))

pub returns-in-Ok-Run-clause-ends : goal.returns-in-Ok-Run-clause-ends
returns-in-Ok-Run-clause-ends g c = AsRun (record {
  order = AsTheyCome c.in-Ok-Run.attaches;
  served_as = subst (λ (given : ServedCommand). IsServedAs (map string_bytes c.args.words.now) given)
      c.in-Ok-Run.field-0-is c.in-Ok-Run.ensures.ok;
  ends = c.run.ensures.ends;
})

pub returns-in-Ok-Replay-clause-ends : goal.returns-in-Ok-Replay-clause-ends
returns-in-Ok-Replay-clause-ends g c = AsRun (record {
  order = AsListed;
  served_as = subst (λ (given : ServedCommand). IsServedAs (map string_bytes c.args.words.now) given)
      c.in-Ok-Replay.field-0-is c.in-Ok-Replay.ensures.ok;
  ends = c.run-in-Ok-Replay.ensures.ends;
})

pub returns-in-Ok-Status-clause-ends : goal.returns-in-Ok-Status-clause-ends
returns-in-Ok-Status-clause-ends g c = rw (c.without_turns-in-Ok-Status.ensures.status, c.without_turns-in-Ok-Status.ensures.turns, c.without_turns-in-Ok-Status.ensures.bank, c.without_turns-in-Ok-Status.ensures.journal)
    (AsStatus (record {
      quiet = record { unread = refl; journal = refl; turns = refl };
      served_as = subst (λ (given : ServedCommand). IsServedAs (map string_bytes c.args.words.now) given)
          c.in-Ok-Status.field-0-is c.in-Ok-Status.ensures.ok;
      ends = c.tell_status-status.ensures;
    }))

pub returns-in-Ok-Run-clause-unread : goal.returns-in-Ok-Run-clause-unread
returns-in-Ok-Run-clause-unread g c = λ none. absurd (none (served.Run c.in-Ok-Run.attaches) (subst (λ (given : ServedCommand). IsServedAs (map string_bytes c.args.words.now) given)
    c.in-Ok-Run.field-0-is c.in-Ok-Run.ensures.ok) tt)

pub returns-in-Ok-Replay-clause-unread : goal.returns-in-Ok-Replay-clause-unread
returns-in-Ok-Replay-clause-unread g c = λ none. absurd (none (served.Replay) (subst (λ (given : ServedCommand). IsServedAs (map string_bytes c.args.words.now) given)
    c.in-Ok-Replay.field-0-is c.in-Ok-Replay.ensures.ok) tt)
