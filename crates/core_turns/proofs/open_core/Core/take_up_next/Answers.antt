use Rattle.core_turns.proofs.Words.{slice_get_within, sym}
use Rattle.core_turns.proofs.open_core.Core.take_up_next.Goals as goal

pub take-requires : goal.take-requires
take-requires c = record {
  some = slice_get_within c.args.run.now.ids c.args.run.now.next _ (sym c.in-Some.ensures);
}

pub pass_over-requires : goal.pass_over-requires
pass_over-requires c = record {
  some = slice_get_within c.args.run.now.ids c.args.run.now.next _ (sym c.in-Some.ensures);
}
