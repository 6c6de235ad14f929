use Rattle.core_open.proofs.Leading.{IsLeading}
use Rattle.core_open.proofs.votes.winner.Given as goal

abbrev pub invariant-loop-vote : goal.invariant-loop-vote
invariant-loop-vote l = IsLeading l.votes l.vote-index l.winner l.most
