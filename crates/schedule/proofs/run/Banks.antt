-- The banks with which a run's items were listed: those that its turns left.
use Rattle.schedule.proofs.Words.{◌≡◌, sym, ℕ, ◌<◌, ◌≤◌, List, [], ◌∷◌, length, ◌∙◌, refl, arith, length-append}
use Rattle.schedule.proofs.Words.{le-ltb, lt-ltb, Disk, Script, HaveTaken, IsTurnOf}
use Rattle.schedule.proofs.Words.{Turns, TurnTaken, AreListedWith, bank_when, last_left}

-- ---- a turn lists items at the end, or none

turn_grows : {script : Script} {actor : ℕ} {before after : Turns} → IsTurnOf script actor before after
    → length before.items ≤ length after.items
turn_grows is = let turned = is.turned in grind (arith, length-append)

ends_grown : (script : Script) (start : Turns) (passed : List TurnTaken) → HaveTaken script start passed
    → length start.items ≤ length (last_left start passed).items
ends_grown script start [] taken = omega arith
ends_grown script start (turn ∷ later) taken =
    omega (arith, turn_grows taken.0, ends_grown script turn.left later taken.1)

-- ---- the bank of a number of items

-- It is the start's where the journal had so many then,
pub at_start : (start : Turns) (passed : List TurnTaken) {count : ℕ} → count ≤ length start.items
    → bank_when start passed count ≡ start.state.disk
at_start start [] low = refl
at_start start (turn ∷ later) low = search le-ltb

-- and else one of a later turn.
past_start : (start : Turns) (turn : TurnTaken) (later : List TurnTaken) (count : ℕ) → length start.items < count
    → bank_when start (turn ∷ later) count ≡ bank_when turn.left later count
past_start start turn later count past = search lt-ltb

-- Only the banks of items that were listed later count.
agree : (script : Script) {banks others : ℕ → Disk} (start : Turns) (passed : List TurnTaken)
    → HaveTaken script start passed → ((count : ℕ) → length start.items < count → banks count ≡ others count)
    → AreListedWith banks start passed → AreListedWith others start passed
agree script start [] taken same listed = tt
agree script start (turn ∷ later) taken same listed =
    (search arith, agree script turn.left later taken.1 (search (turn_grows, arith)) listed.1)

-- With these banks items were listed,
pub are_listed : (script : Script) (start : Turns) (passed : List TurnTaken) → HaveTaken script start passed
    → AreListedWith (bank_when start passed) start passed
are_listed script start [] taken = tt
are_listed script start (turn ∷ later) taken = (
  search (past_start, at_start),
  agree script turn.left later taken.1
      (λ count past. sym (past_start start turn later count (omega (arith, past, turn_grows taken.0))))
      (are_listed script turn.left later taken.1),
)

-- and the bank of one item more than there are at the end is the end's.
pub at_end : (script : Script) (start : Turns) (passed : List TurnTaken) (count : ℕ) → HaveTaken script start passed
    → length (last_left start passed).items < count → bank_when start passed count ≡ (last_left start passed).state.disk
at_end script start [] count taken past = refl
at_end script start (turn ∷ later) count taken past =
    past_start start turn later count (omega (arith, past, ends_grown script start (turn ∷ later) taken))
    ∙ at_end script turn.left later count taken.1 past
