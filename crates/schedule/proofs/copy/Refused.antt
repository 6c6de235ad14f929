-- What a copy is answered, as a round of it begins or as it is stopped.
use Rattle.schedule.proofs.Words.{◌≡◌, ⊎_elim, ℕ, List, length, None, refl, arith, true, Disk, Expands, has_device}
use Rattle.schedule.proofs.Words.{max_group, Answer, Entry, Item, IsAnswerOf, IsGroupBefore, Map, PutBytes}
use Rattle.schedule.proofs.Words.{map_after_answer, World, WhyDropped, group_before_grown, IsSyncRefused, IsJobRefused}
use Rattle.schedule.proofs.Words.{Core, IsRoundRefused, IsDeviceCause, IsRightNext, group_by}
use Rattle.std.specs.Prelude.{◌≢◌}
use Rattle.core_state.specs.declared.answer.Answer.TheVariants as answer
use Rattle.core_state.specs.declared.answer.Kind.TheVariants as kind
use Rattle.core_state.specs.declared.item.Group.{Group as GroupItem}
use Rattle.core_commit.specs.declared.join_run.WhyDropped.TheVariants as why
use Rattle.schedule.proofs.turn.Fitting.{TellsOut}
use Rattle.schedule.proofs.attach.Refused.{sync_cause}
use Rattle.schedule.proofs.turn.RightNext.{IsStopped, copy_right, group_cut_right}
use Rattle.schedule.proofs.sync.Syncs.{refused_answers, refused_map, refused_right, refused_tells}

-- Where the last group listed has the core's widths, and is the last one begun if no commit is under way, an entry with
-- this answer to a copy is right.
abbrev pub IsRightWith : Core → Answer → Type 0
IsRightWith core given = (world : World) (items : List Item) (item : GroupItem) (entry : Entry) (disk : Disk)
    → entry.kind ≡ kind.Copy → entry.answer ≡ given → IsGroupBefore items (length items) item
    → core.pool.uber.reflow.from ≡ item.from → core.pool.uber.reflow.to ≡ item.to
    → (core.committing ≡ None → core.begun ≡ item.group) → IsRightNext world items entry disk

-- what an answer to a copy is, where the core was this one, and these are the causes of what is told of devices
pub record AnswersCopy (core : Core) (devices : ℕ) (dropped : WhyDropped → Type 0) (given : Answer) : Type 0 where
  pub answers : IsAnswerOf kind.Copy given
  pub tells : TellsOut core given
  pub limit : (reached : ℕ) → given ≡ answer.Limit reached → reached ≡ max_group
  pub cause : ((device : ℕ) → has_device core.pool.out device ≡ true → dropped (why.DeviceOut device))
      → IsDeviceCause devices dropped given
  pub alone : group_by given None ≡ None
  pub no_full : given ≢ answer.Full
  pub no_block : (handed : PutBytes) (map : Map) (entry : Entry) → map_after_answer handed map entry given ≡ map
  pub right : IsRightWith core given

-- One that was stopped tells nothing of the pool.
stopped_with : (core : Core) {given : Answer} → IsStopped given → IsRightWith core given
stopped_with core stopped world items item entry disk asked is latest from_is to_is last =
    search (group_cut_right, arith)

-- A copy is done where the pool has one width,
completed_with : (core : Core) (width : ℕ) → core.pool.uber.reflow.from ≡ core.pool.uber.reflow.to
    → width ≡ core.pool.uber.reflow.to → IsRightWith core (answer.Completed width)
completed_with core width one width_is world items item entry disk asked is latest from_is to_is last =
    search (copy_right, group_before_grown, arith)

-- and paused where it expands.
paused_with : (core : Core) (device : ℕ) → Expands core.pool.uber.reflow → IsRightWith core (answer.Paused device)
paused_with core device expands world items item entry disk asked is latest from_is to_is last =
    copy_right world items entry disk asked (λ damaged. cc) (rw is tt)
    (rw is (item.to, (item, latest, omega (arith, expands, from_is, to_is), refl)))

-- Want of memory may end any copy.
pub no_memory_answers : (core : Core) {devices : ℕ} {dropped : WhyDropped → Type 0}
    → AnswersCopy core devices dropped answer.NoMemory
no_memory_answers core = grind (arith, stopped_with)

-- Where a job is refused the answer is right,
job_right : (core : Core) (given : Answer) → IsJobRefused core given → IsRightWith core given
job_right core (answer.TooManyFailed out) refused = stopped_with core tt
job_right core (answer.Completed width) refused = search completed_with
job_right core (answer.Paused device) refused = paused_with core device refused.1
job_right core answer.NoMemory refused = stopped_with core tt
job_right core other refused = absurd refused

-- and one to a copy in all else,
job_answers : (core : Core) {devices : ℕ} {dropped : WhyDropped → Type 0} (given : Answer) → IsJobRefused core given
    → AnswersCopy core devices dropped given
job_answers core given refused = record {
  answers = grind arith;
  tells = grind arith;
  limit = grind arith;
  cause = grind arith;
  alone = grind arith;
  no_full = grind arith;
  no_block = grind arith;
  right = job_right core given refused;
}

-- as where a commit is refused.
commit_answers : (core : Core) {devices : ℕ} {dropped : WhyDropped → Type 0} (given : Answer)
    → IsSyncRefused core given → AnswersCopy core devices dropped given
commit_answers core given refused = record {
  answers = refused_answers kind.Copy core given refused;
  tells = refused_tells core given refused;
  limit = search arith;
  cause = search sync_cause;
  alone = grind arith;
  no_full = search arith;
  no_block = search refused_map;
  right = search (refused_right, arith);
}

-- So it is of each round.
pub round_answers : (core : Core) {devices : ℕ} {dropped : WhyDropped → Type 0} (given : Answer)
    → IsRoundRefused core given → AnswersCopy core devices dropped given
round_answers core given = ⊎_elim
    (λ job. job_answers core given job) (search (commit_answers, arith))
