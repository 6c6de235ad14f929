-- However a call ends, it keeps its promises.
use Rattle.std.proofs.Common.{◌≡◌, inl, inr, refl, sym, ◌∙◌, subst}
use Rattle.bank_trait.specs.Disk.{Lawful}
use Rattle.raidzx_top.specs.declared.order.Order.{Order}
use Rattle.raidzx_top.specs.declared.order.Order.TheVariants.{AsTheyCome, AsListed}
use Rattle.raidzx_top.specs.declared.status.Status.{Status}
use Rattle.raidzx_top.specs.declared.status.Status.TheVariants as status
use Rattle.command_words.specs.declared.command.ServedCommand.TheVariants as served
use Rattle.command_words.specs.Served.{Explains}
use Rattle.command_words.specs.declared.command.NoCommand.{NoCommand}
use Rattle.command_words.specs.declared.command.NoCommand.TheVariants as no_command
use Rattle.raidzx_top.specs.Call.{IsQuiet, TopCall}
use Rattle.raidzx_top.specs.Order.{served_by}
use Rattle.raidzx_top.specs.Ending.{EndsUsage, EndsUnread, IsStatusOfWords, Ends, AsUsage, AsUnread, AsCreate, AsRun, AsStatus}
use Rattle.raidzx_top.specs.Promises.{CallPromises, WordsAreUnread, KeepsPromises, RunIsKept}
use Rattle.raidzx_top.specs.Making.{IsSaid}
use Rattle.raidzx_top.specs.RunText.{IsLineFor, status_line}
use Rattle.raidzx_top.proofs.Creating.{created}
use Rattle.raidzx_top.proofs.StatusEnding.{status_promises}
use Rattle.raidzx_top.proofs.NoStatus.{not_told}
use Rattle.raidzx_top.proofs.Refusing.{said_right}
use Rattle.raidzx_top.proofs.RunEnding.{run_promises}
use Rattle.raidzx_top.proofs.Growing.{bank_may_grow}

-- Words that are no command.
refused_words : (call : TopCall) → EndsUsage call → CallPromises call
refused_words call ends = record {
  explains = record {
    cause = record { usage = λ usage. ends.none; others = λ given served_as. absurd (ends.none (given, served_as)) };
    comes = record {
      usage = λ no_command. ends.status_is;
      refused = λ given served_as. absurd (ends.none (given, served_as));
      no_pool = λ command finds. absurd (ends.none (finds.given, finds.served));
    };
  };
  refuses = record {
    refused = λ none not. said_right call status.Usage
        (subst (λ (s : Status). IsLineFor s status.Usage) (sym ends.status_is) refl)
        (λ done. no_done (sym ends.status_is ∙ done)) ends.said;
    quiet = λ none. ends.quiet;
    turns = λ none. ends.quiet.turns;
  };
  commands = record {
    create = record {
      created = λ m served_m. absurd (ends.none (served.Create m, served_m));
      untouched = λ refusal. ends.same;
    };
    run = λ attaches. kept (AsTheyCome attaches);
    replay = kept AsListed;
    told = not_told call (λ is. ends.none (served.Status, is));
  };
  may_be_added = bank_may_grow call.new;
  unhindered = record {
    complete = record { done = λ m served_m fits quiet sink. absurd (ends.none (served.Create m, served_m)) };
    completes = λ order smooth. absurd (ends.none (served_by order, smooth.served));
  };
}
  where
    no_done : status.Usage ≡ status.Done → ⊥
    no_done equal = cc

    kept : (order : Order) → RunIsKept order call
    kept order = record {
      opened = λ is. absurd (ends.none (served_by order, is));
      unopened = λ is. absurd (ends.none (served_by order, is));
      carried_out = λ is. absurd (ends.none (served_by order, is));
    }

-- Words that there was no memory for.
unread_words : (call : TopCall) → EndsUnread call → WordsAreUnread call
unread_words call ends = record {
  status_is = ends.status_is;
  untouched = ends.same;
  quiet = ends.quiet;
  text = said_right call status.NoMemory
      (subst (λ (s : Status). IsLineFor s status.NoMemory) (sym ends.status_is) refl)
      (λ done. no_done (sym ends.status_is ∙ done)) ends.said;
  may_be_added = bank_may_grow call.new;
}
  where
    no_done : status.NoMemory ≡ status.Done → ⊥
    no_done equal = cc

-- How a call ends whose words are no command.
pub no_command_ends : (call : TopCall) (why : NoCommand) (given : Status) → Explains call.words why → IsStatusOfWords why given
    → call.status ≡ given → call.new ≡ call.old → IsQuiet call
    → IsSaid call.sink.bytes call.sink_after.bytes call.sink.faults call.sink_after.faults (status_line given)
    → Ends call
no_command_ends call no_command.NoMemory given why is status_is same quiet said = AsUnread (record {
  quiet = quiet;
  status_is = status_is ∙ is;
  same = same;
  said = subst (λ (s : Status). IsSaid call.sink.bytes call.sink_after.bytes call.sink.faults call.sink_after.faults
      (status_line s)) is said;
})
no_command_ends call no_command.Misspelled given why is status_is same quiet said = AsUsage (record {
  quiet = quiet;
  none = why.0;
  status_is = status_is ∙ is;
  same = same;
  said = subst (λ (s : Status). IsSaid call.sink.bytes call.sink_after.bytes call.sink.faults call.sink_after.faults
      (status_line s)) is said;
})
no_command_ends call (no_command.Asked answer) given why is status_is same quiet said = AsUsage (record {
  quiet = quiet;
  none = why.0;
  status_is = status_is ∙ is;
  same = same;
  said = subst (λ (s : Status). IsSaid call.sink.bytes call.sink_after.bytes call.sink.faults call.sink_after.faults
      (status_line s)) is said;
})

-- However a call ends, its promises hold.
pub ends_promise : (call : TopCall) → Lawful call.old → Ends call → KeepsPromises call
ends_promise call lawful ends = elim ends [
  | AsUsage usage ↦ inl (refused_words call usage)
  | AsUnread unread ↦ inr (unread_words call unread)
  | AsCreate create ↦ inl (created call create.made create.served_as create.quiet call.status refl create.ends)
  | AsRun run ↦ inl (run_promises run.order call lawful run.served_as run.ends)
  | AsStatus asked ↦ inl (status_promises call asked.served_as asked.quiet asked.ends)
]
