use Rattle.std.proofs.Common.{◌≡◌, [], List, subst}
use Rattle.std.specs.Prelude.{IfNone, IfSome}
use Rattle.core_open.specs.declared.ring_uber.RingUber.{RingUber}
use Rattle.core_open.specs.declared.votes.Vote.{Vote}
use Rattle.core_open.specs.Votes.{AreVotes, IsWinner}
use Rattle.core_open.proofs.Voting.{pool_choice}
use Rattle.core_open.proofs.votes.choose_pool.Goals as goal

pub returns : goal.returns
returns c =
    let same : c.deref-2.result.now ≡ c.in_ok-votes.votes.items = c.deref-2.ensures.value in
    let cast : AreVotes c.args.rings.now.ubers.items c.args.rings.now.silent c.in_ok-votes.votes.items =
    subst (λ (ubers : List RingUber). AreVotes ubers c.args.rings.now.silent c.in_ok-votes.votes.items) c.deref.ensures.value c.in_ok-votes.ensures in
    record {
      chosen = λ shape image shown. pool_choice shape c.args.rings.now.silent image c.args.rings.now.ubers.items shown
          c.in_ok-votes.votes.items cast c.winner.result
          (subst (λ (votes : List Vote). IfSome c.winner.result (IsWinner votes)) same c.winner.ensures.some)
          (subst (λ (votes : List Vote). IfNone c.winner.result (votes ≡ [])) same c.winner.ensures.none);
    }
