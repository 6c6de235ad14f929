use Rattle.core_turns.proofs.Words.{sym, ◌∙◌, true≢false}
use Rattle.core_turns.proofs.put.Turns.{same_filled}
use Rattle.core_turns.proofs.put.Goes.{put_left}
use Rattle.core_turns.proofs.putting.PutRun.is_written.Goals as goal

pub returns-in-Some-clause-left : goal.returns-in-Some-clause-left
returns-in-Some-clause-left c = λ core filled of is unwritten. put_left of is
    (λ all. true≢false (sym (c.is_done.ensures.1 (rw (same_filled (sym is ∙ c.in-Some.is)) at all)) ∙ unwritten))
