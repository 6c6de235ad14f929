use Rattle.std.proofs.Common.{List, ◌∙◌, ap, arith, set, sym, subst}
use Rattle.std.proofs.lemmas.List.{length-set}
use Rattle.space_alloc.specs.declared.entry.Entry.{Entry}
use Rattle.space_alloc.specs.Space.{Gains}
use Rattle.space_alloc.specs.Entries.{live_of, AreRuns}
use Rattle.space_alloc.proofs.Live.{dead_of, filter_again, live_runs, removed}
use Rattle.space_alloc.proofs.runs.Runs.remove.Goals as goal

pub index_mut-requires : goal.index_mut-requires
index_mut-requires c =
    let left = removed _ _ _ _ _ _ c.self.invariant c.self.view_is c.deref.ensures.value c.requires.listed c.place-at.ensures in
    let within = left.within in
    let same = c.self.inside.entries.ok.0 in
    omega (arith, within, same)

pub overflow_sub-live : goal.overflow_sub-live
overflow_sub-live c =
    let left = removed _ _ _ _ _ _ c.self.invariant c.self.view_is c.deref.ensures.value c.requires.listed c.place-at.ensures in
    let count = left.count in
    let same = c.self.inside.entries.ok.0 in
    omega (arith, count, same, c.len.ensures)

pub invariant_of-self : goal.invariant_of-self
invariant_of-self c =
    let left = removed _ _ _ _ _ _ c.self.invariant c.self.view_is c.deref.ensures.value c.requires.listed c.place-at.ensures in
    subst (λ (l : List Entry). AreRuns l 0) (sym c.compact.ensures) (live_runs _ left.in_order)

pub invariant_of-self-else-self-live : goal.invariant_of-self-else-self-live
invariant_of-self-else-self-live c =
    let left = removed _ _ _ _ _ _ c.self.invariant c.self.view_is c.deref.ensures.value c.requires.listed c.place-at.ensures in
    let count = left.count in
    let same = c.self.inside.entries.ok.0 in
    record {
      in_order = left.in_order;
      count = count ∙ sym (length-set c.self.inside.entries.items c.place-at.result (dead_of c.args.entry.now));
      few = omega (arith, count, same, c.len.ensures, c.if-self-live.false);
    }

pub returns-then-self-live : goal.returns-then-self-live
returns-then-self-live c =
    let left = removed _ _ _ _ _ _ c.self.invariant c.self.view_is c.deref.ensures.value c.requires.listed c.place-at.ensures in
    subst (λ (l : List Entry). Gains l c.args.self.now c.args.entry.now)
    (sym (ap live_of c.compact.ensures ∙ filter_again _ (set c.self.inside.entries.items c.place-at.result (dead_of c.args.entry.now)))) left.gains

pub returns-else-self-live : goal.returns-else-self-live
returns-else-self-live c =
    let left = removed _ _ _ _ _ _ c.self.invariant c.self.view_is c.deref.ensures.value c.requires.listed c.place-at.ensures in
    left.gains
