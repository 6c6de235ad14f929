use Rattle.std.proofs.Common.{sym, ap, ◌∙◌, ◌≡◌, List, ℕ, [], ◌∷◌, Some}
use Rattle.std.specs.Prelude.{Option as OptionOf}
use Rattle.atomic_table.specs.Table.{rest}
use Rattle.turn_lock.proofs.step.lift.Goals as goal

pub exchange-requires : goal.exchange-requires
exchange-requires g c =
    let full = c.requires.full in
    let none_more : [] ≡ rest c.args.seat.now.me.1 = sym (ap (λ (l : List (ℕ × OptionOf g.row.S.Denot)). rest l) full.1) in
    (c.requires.table, (Some full.0, full.1 ∙ ap (λ (l : List (ℕ × OptionOf g.row.S.Denot)). (0, Some full.0) ∷ l) none_more))
