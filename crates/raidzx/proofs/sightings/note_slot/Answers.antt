use Rattle.std.proofs.Common.{rules, ◌≡◌, [], ◌∷◌, ◌++◌}
use Rattle.raidzx.proofs.Seeing.{notes_found, notes_none, seen_at}
use Rattle.raidzx.proofs.sightings.note_slot.Goals as goal

pub returns-in_ok-push : goal.returns-in_ok-push
returns-in_ok-push c =
    let found = c.in-Some.found in
    let grows : c.push.new.self.items ≡ c.args.list.now.items ++ (seen_at c.args.place found.number found.uber ∷ []) =
    search rules in
    notes_found c.args.bytes.now c.args.place c.args.slot c.args.list.now.items c.push.new.self.items found
    c.in-Some.ensures.number c.in-Some.ensures.some grows

pub returns-in_default : goal.returns-in_default
returns-in_default c =
    notes_none c.args.bytes.now c.args.place c.args.slot c.args.list.now.items c.in_default.ensures.none
