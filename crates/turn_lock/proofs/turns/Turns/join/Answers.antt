use Rattle.std.proofs.Common.{◌≡◌, ℕ, ◌^◌, ◌≤◌, ◌∙◌, length, sym, ap, subst}
use Rattle.turn_lock.specs.Turn.{seen_of}
use Rattle.turn_lock.specs.Seats.{Sitting, IsSeat}
use Rattle.turn_lock.proofs.Sittings.{seat_joined, first_seen}
use Rattle.turn_lock.proofs.turns.Turns.join.Goals as goal

pub invariant_of-seat : goal.invariant_of-seat
invariant_of-seat g c =
    let w = c.into_inner.result.me.0 in
    let its_count : c.events.result ≡ length (seen_of w.members) = c.events.ensures.events
    ∙ ap (λ (s : Sitting g.row.E.Denot). length s.me.seen) (sym c.into_inner.ensures.seat) ∙ ap (λ l. length l) (first_seen w.members) in
    subst (λ (events : ℕ). IsSeat {S = g.row.S.Denot} c.join.new.seat.me events) (sym c.max-events.ensures)
    (seat_joined c.seat.inside.seat.me c.join.new.seat.me w c.seat.inside.events c.events.result c.seat.invariant
    (ap (λ (s : Sitting g.row.E.Denot). s.holds) c.seat.view_is ∙ c.requires.free.0) its_count
    (subst (λ (n : ℕ). n ≤ 2 ^ 62) (sym its_count) c.into_inner.ensures.room) c.into_inner.ensures.most c.join.ensures.joined)
