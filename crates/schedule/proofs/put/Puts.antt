-- A client's put among the calls under way, what its turns leave of the core, and what its answers mean.
use Rattle.schedule.proofs.Words.{◌≡◌, ℕ, List, [], ◌∷◌, ◌++◌, Option, ⊤, Answer, Entry, Item, Map, PutBytes}
use Rattle.schedule.proofs.Words.{map_after_answer, IsAnswerOf, adds_none, Core, HasTooManyOut, IsPutRefused}
use Rattle.schedule.proofs.Words.{LeavesBlocks, KeepsAlone, Rearranges, listed_for, arith}
use Rattle.core_state.specs.declared.answer.Answer.TheVariants as answer
use Rattle.core_state.specs.declared.answer.Kind.TheVariants as kind
use Rattle.core_state.specs.declared.item.Item.TheVariants.{Call as CallItem}
use Rattle.schedule.proofs.turn.Fitting.{TellsOut}
use Rattle.schedule.proofs.turn.RightNext.{IsPlain}
use Rattle.schedule.proofs.turn.LeavesPool.{LeavesPool, holds_left, leaves_pool}

-- ---- turns that call no device

-- Where only blocks and holds are others, all else of the core is left.
pub rearranged_leaves : (old new : Core) → Rearranges old new → KeepsAlone old.pool.done old.holds new.holds
    → LeavesPool old new
rearranged_leaves old new change alone = search leaves_pool

-- So it is where the holds are left too.
pub refused_leaves : (old new : Core) → LeavesBlocks old new → LeavesPool old new
refused_leaves old new leaves = holds_left leaves.rest

-- ---- answers

-- Another answer than that the block is stored.
abbrev pub IsUnstored : Answer → Type 0
IsUnstored (answer.TooManyFailed out) = ⊤
IsUnstored answer.NoMemory = ⊤
IsUnstored answer.Full = ⊤
IsUnstored (answer.NoSpace sectors) = ⊤
IsUnstored other = ⊥

-- It tells neither of damage nor of a limit,
pub unstored_plain : (given : Answer) → IsUnstored given → IsPlain given
unstored_plain given unstored = grind arith

-- is an answer for puts,
pub unstored_answers : (given : Answer) → IsUnstored given → IsAnswerOf kind.Put given
unstored_answers given unstored = grind arith

-- changes no map,
pub unstored_map : (handed : PutBytes) {map : Map} (entry : Entry) (given : Answer) → IsUnstored given
    → map_after_answer handed map entry given ≡ map
unstored_map handed {map = map} entry given unstored = grind arith

-- and its entry alone is listed.
pub unstored_listed : (core : Core) (items : List Item) (at : ℕ) (entry : Entry) (made : Option ℕ) (given : Answer)
    → IsUnstored given → listed_for core items at entry made given ≡ items ++ CallItem entry ∷ []
unstored_listed core items at entry made given unstored = grind arith

-- Where it tells of too many devices and says what is out, it lists those that are.
pub tells_out : (core : Core) {out : ℕ} → HasTooManyOut core → out ≡ core.pool.out
    → TellsOut core (answer.TooManyFailed out)
tells_out core many out_is listed is = (many, cc)

-- A put is refused: the blocks are left, and its block is not stored.
pub record Refuses (old new : Core) (given : Answer) : Type 0 where
  pub leaves : LeavesBlocks old new
  pub unstored : IsUnstored given
  pub tells : TellsOut old given

-- Where too many devices are out, all is as it was,
leaves_same : (old : Core) {new : Core} → new ≡ old → LeavesBlocks old new
leaves_same old same = search (same, adds_none)

-- and so a put is refused, whatever its first turn answers.
pub put_refused : {old new : Core} (id len : ℕ) (given : Answer) → IsPutRefused old new id len given
    → Refuses old new given
put_refused {old} {new} id len (answer.TooManyFailed out) is =
    record { leaves = leaves_same old is.2; unstored = tt; tells = tells_out old is.0 is.1 }
put_refused {old} {new} id len given is = search arith
