use Rattle.std.proofs.Common.{◌≡◌, ℕ, ◌<◌, List, ◌++◌, length, get_or, take, sym, ◌∙◌, ap, arith, subst}
use Rattle.std.proofs.lemmas.List.{take_all}
use Rattle.core_state.specs.declared.item.Item.{Item}
use Rattle.client_script.specs.Texts.{lines_from}
use Rattle.client_script.specs.Written.{GainsText}
use Rattle.client_script.proofs.Texts.{line_of, lines_more}
use Rattle.client_script.proofs.Writing.{gains_then, blames_then}
use Rattle.client_script.proofs.journal_text.write_journal.Goals as goal

pub loop-number-preserved : goal.loop-number-preserved
loop-number-preserved g c =
    let items_are = c.as_slice-item-items.ensures.value in
    let within : c.loop-number.number < length c.args.journal.now.items = omega (arith, c.loop-number-test.true, ap length items_are) in
    let item = c.item-item.result in
    let here : item ≡ get_or c.args.journal.now.items c.loop-number.number item =
    c.item-item.is ∙ ap (λ (l : List Item). get_or l c.loop-number.number item) items_are in
    record {
      gains = subst (λ (l : List ℕ). GainsText (g.K.Sink.held c.args.out.now) (g.K.Sink.held c.put_line.new.out) c.args.writer.now c.put_line.new.writer l)
          (sym (lines_more c.args.journal.now.items c.loop-number.number item within
          ∙ ap (λ (x : Item). lines_from 0 (take c.loop-number.number c.args.journal.now.items) ++ line_of c.loop-number.number x) (sym here)))
          (gains_then _ _ _ _ _ _ _ _ c.loop-number.invariant.gains c.put_line.ensures.gains);
      cause = blames_then _ _ _ _ _ _ c.loop-number.invariant.cause c.put_line.ensures.cause;
    }

pub returns-clause-gains : goal.returns-clause-gains
returns-clause-gains g c =
    let all : take c.loop-number.number c.args.journal.now.items ≡ c.args.journal.now.items =
    take_all c.loop-number.number c.args.journal.now.items (omega (arith, c.loop-number-test.false, ap length c.as_slice-item-items.ensures.value)) in
    subst (λ (l : List Item). GainsText (g.K.Sink.held c.args.out.now) (g.K.Sink.held c.loop-number.out) c.args.writer.now c.loop-number.writer (lines_from 0 l)) all
    c.loop-number.invariant.gains
