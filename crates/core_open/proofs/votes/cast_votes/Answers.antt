use Rattle.std.proofs.Common.{◌≡◌, ℕ, ◌+◌, List, true, subst, sym, ◌∙◌, ap}
use Rattle.std.specs.Prelude.{Vec}
use Rattle.std.proofs.lemmas.Bool.{false≢true}
use Rattle.std.specs.declared.alloc.Global.{Global}
use Rattle.uberblock_ring.specs.Devices.{has_device}
use Rattle.core_open.specs.declared.votes.Vote.{Vote}
use Rattle.core_open.proofs.Casting.{AreCast, cast_more, cast_past}
use Rattle.core_open.proofs.votes.cast_votes.Goals as goal
use Rattle.core_open.proofs.votes.cast_votes.Goals.{in-Some+in_ok-push, in_default}

pub loop-device-preserved-then-has : goal.loop-device-preserved-then-has
loop-device-preserved-then-has c =
    cast_past c.args.ubers.now c.args.silent c.loop-device.device c.loop-device.votes.items c.loop-device.invariant
    (λ ring_uber listed works on. absurd (false≢true (sym works ∙ subst (λ (d : ℕ). has_device c.args.silent d ≡ true) (sym on)
    (sym c.if-has.ensures.value))))

pub loop-device-preserved : goal.loop-device-preserved
loop-device-preserved c =
    let ubers = c.args.ubers.now in
    let device = c.loop-device.device in
    elim c.match-vote_of.branch [
      | in-Some+in_ok-push w ↦
          subst (λ (votes : List Vote). AreCast ubers c.args.silent (device + 1) votes)
          (sym (ap (λ (v : Vec Vote Global). v.items) w.votes-is ∙ w.in_ok-push.ensures.items))
          (cast_more ubers c.args.silent device c.loop-device.votes.items c.loop-device.invariant (sym c.if-has.ensures.value)
          w.in-Some.vote w.in-Some.ensures.device w.in-Some.ensures.vote)
      | in_default w ↦
          subst (λ (votes : List Vote). AreCast ubers c.args.silent (device + 1) votes)
          (sym (ap (λ (v : Vec Vote Global). v.items) w.votes-is))
          (cast_past ubers c.args.silent device c.loop-device.votes.items c.loop-device.invariant
          (λ ring_uber listed works on. w.in_default.ensures.none ring_uber listed on))
    ]
