use Rattle.std.proofs.Common.{ℕ, ◌+◌, arith, get_or, None, Some, Option, subst, sym, ◌∙◌, ap}
use Rattle.std.specs.Prelude.{IfSome}
use Rattle.std.proofs.lemmas.List.{get_or_default}
use Rattle.core_open.specs.declared.votes.Vote.{Vote}
use Rattle.core_open.specs.Votes.{IsWinner, votes_for}
use Rattle.core_open.proofs.Leading.{IsLeading, leader_kept, leader_new, leader_wins}
use Rattle.core_open.proofs.Voters.{vote_by}
use Rattle.core_open.proofs.votes.winner.Goals as goal
use Rattle.core_open.proofs.votes.winner.Goals.{then-most-count, else-most-count}

pub loop-vote-preserved : goal.loop-vote-preserved
loop-vote-preserved c =
    let votes = c.args.votes.now in
    let seen = c.loop-vote.vote-index in
    let pool = (get_or votes seen (vote_by 0 0)).pool in
    let is = λ (d : Vote). ap (λ (v : Vote). v.pool) (get_or_default votes seen d (vote_by 0 0) c.loop-vote-test.true) in
    elim c.if-most-count.branch [
      | then-most-count w ↦
          subst (λ (most : ℕ). IsLeading votes (seen + 1) c.if-most-count.winner most) (sym (w.most-is ∙ c.count_votes-count.ensures))
          (subst (λ (winner : Option ℕ). IsLeading votes (seen + 1) winner (votes_for pool votes)) (sym w.winner-is)
          (leader_new votes seen c.loop-vote.winner c.loop-vote.most c.loop-vote.invariant c.loop-vote-test.true pool is
          (omega (arith, w.if-most-count.true, c.count_votes-count.ensures))))
      | else-most-count w ↦
          subst (λ (most : ℕ). IsLeading votes (seen + 1) c.if-most-count.winner most) (sym w.most-is)
          (subst (λ (winner : Option ℕ). IsLeading votes (seen + 1) winner c.loop-vote.most) (sym w.winner-is)
          (leader_kept votes seen c.loop-vote.winner c.loop-vote.most c.loop-vote.invariant c.loop-vote-test.true pool is
          (omega (arith, w.if-most-count.false, c.count_votes-count.ensures))))
    ]

pub returns-clause-some : goal.returns-clause-some
returns-clause-some c = by c.loop-vote.winner c.loop-vote.invariant
  where
    by : (winner : Option ℕ) → IsLeading c.args.votes.now c.loop-vote.vote-index winner c.loop-vote.most
        → IfSome winner (IsWinner c.args.votes.now)
    by None leading = tt
    by (Some pool) leading = leader_wins c.args.votes.now c.loop-vote.vote-index pool c.loop-vote.most (omega arith) (omega arith) leading
