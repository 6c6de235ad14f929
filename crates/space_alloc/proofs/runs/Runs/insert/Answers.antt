use Rattle.std.proofs.Common.{◌-◌, List, set, arith, subst, sym}
use Rattle.space_alloc.specs.declared.entry.Entry.{Entry}
use Rattle.space_alloc.specs.declared.gap.Gap.TheVariants.{Dead, Between}
use Rattle.space_alloc.specs.Space.{Gains}
use Rattle.space_alloc.specs.Entries.{live_of, AreRuns, IsGapFor}
use Rattle.space_alloc.proofs.Live.{insert_gains, insert_runs, set_gains, set_runs, some_dead}
use Rattle.space_alloc.proofs.runs.Runs.insert.Goals as goal

pub overflow_sub-self : goal.overflow_sub-self
overflow_sub-self c =
    let gap : IsGapFor c.self.inside.entries.items c.args.entry.start (Dead c.in-Dead.at) =
    subst (λ (l : List Entry). IsGapFor l c.args.entry.start (Dead c.in-Dead.at)) c.deref.ensures.value c.in-Dead.ensures in
    some_dead c.self.inside.entries.items c.self.inside.dead c.in-Dead.at c.self.invariant c.args.entry c.requires.some gap.0

pub invariant_of-self : goal.invariant_of-self
invariant_of-self c =
    let gap : IsGapFor c.self.inside.entries.items c.args.entry.start (Dead c.in-Dead.at) =
    subst (λ (l : List Entry). IsGapFor l c.args.entry.start (Dead c.in-Dead.at)) c.deref.ensures.value c.in-Dead.ensures in
    let some = some_dead c.self.inside.entries.items c.self.inside.dead c.in-Dead.at c.self.invariant c.args.entry c.requires.some gap.0 in
    set_runs c.self.inside.entries.items c.self.inside.dead c.in-Dead.at c.self.invariant c.args.entry c.requires.some gap.0 (c.self.inside.dead - 1)
    (omega (arith, some)) gap.1

pub invariant_of-self-in-Between : goal.invariant_of-self-in-Between
invariant_of-self-in-Between c =
    let gap : IsGapFor c.self.inside.entries.items c.args.entry.start (Between c.in-Between.at) =
    subst (λ (l : List Entry). IsGapFor l c.args.entry.start (Between c.in-Between.at)) c.deref.ensures.value c.in-Between.ensures in
    subst (λ (l : List Entry). AreRuns l c.self.inside.dead) (sym c.in_ok-insert-in-Between.ensures.items)
    (insert_runs c.self.inside.entries.items c.self.inside.dead c.in-Between.at c.self.invariant c.args.entry c.requires.some gap)

pub returns-in-Dead-clause-ok : goal.returns-in-Dead-clause-ok
returns-in-Dead-clause-ok c =
    let gap : IsGapFor c.self.inside.entries.items c.args.entry.start (Dead c.in-Dead.at) =
    subst (λ (l : List Entry). IsGapFor l c.args.entry.start (Dead c.in-Dead.at)) c.deref.ensures.value c.in-Dead.ensures in
    subst (λ (l : List Entry). Gains l (live_of (set c.self.inside.entries.items c.in-Dead.at c.args.entry)) c.args.entry) c.self.view_is
    (set_gains c.self.inside.entries.items c.self.inside.dead c.in-Dead.at c.self.invariant c.args.entry c.requires.some gap.0)

pub returns-in_ok-insert-in-Between-clause-ok : goal.returns-in_ok-insert-in-Between-clause-ok
returns-in_ok-insert-in-Between-clause-ok c =
    subst (λ (l : List Entry). Gains l (live_of c.insert.new.self.items) c.args.entry) c.self.view_is
    (subst (λ (l : List Entry). Gains (live_of c.self.inside.entries.items) (live_of l) c.args.entry) (sym c.in_ok-insert-in-Between.ensures.items)
    (insert_gains c.self.inside.entries.items c.self.inside.dead c.in-Between.at c.self.invariant c.args.entry c.requires.some))
