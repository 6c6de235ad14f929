use Rattle.std.proofs.Common.{inl, inr, sym, ◌∙◌, arith}
use Rattle.std.proofs.lemmas.Bool.{eq-eqb, true≢false}
use Rattle.pool_live.proofs.Batches.{answers_none, answers_one}
use Rattle.pool_live.proofs.batch.count_answered.Goals.{then-now-before, else-now-before}
use Rattle.pool_live.proofs.batch.count_answered.Goals as goal

pub returns-then-is_busy-clause-answered : goal.returns-then-is_busy-clause-answered
returns-then-is_busy-clause-answered c = λ script was now_is count turn begun clients before now answered.
    answers_none turn begun (elim c.if-now-before.branch [
      | then-now-before w ↦ inl (now ∙ w.if-now-before.true ∙ sym before)
      | else-now-before w ↦ inr (rw (clients, sym w.is_busy.ensures) (sym w.value-is ∙ c.if-is_busy.true))
    ]) answered

pub returns-else-is_busy-clause-answered : goal.returns-else-is_busy-clause-answered
returns-else-is_busy-clause-answered c = λ script was now_is count turn begun clients before now answered.
    elim c.if-now-before.branch [
      | then-now-before w ↦ absurd (true≢false (sym (eq-eqb c.args.now c.args.before w.if-now-before.true) ∙ sym w.value-is ∙ c.if-is_busy.false))
      | else-now-before w ↦ answers_one turn begun
          (λ same. let apart = w.if-now-before.false in omega (arith, apart, same, now, before))
          (rw (clients, sym w.is_busy.ensures) (sym w.value-is ∙ c.if-is_busy.false)) answered
    ]
