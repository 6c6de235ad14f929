-- A device joins the pool at the first uberblock write of a commit.
use Rattle.std.proofs.Common.{◌≡◌, ◌⊎◌, inl, inr, ⊎_elim, ℕ, zero, suc, ◌+◌, ◌<◌, ◌≤◌, [], ◌∷◌, false, Some, sym, ◌∙◌}
use Rattle.std.proofs.Common.{ap, subst, arith}
use Rattle.std.specs.Prelude.{◌↔◌, List, AllPairs, Contains, IsSome}
use Rattle.std.proofs.lemmas.Bool.{cases_lt}
use Rattle.std.proofs.lemmas.List.Elements.{All-cons, All-nil}
use Rattle.std.proofs.lemmas.Nat.{pow_pos}
use Rattle.reflow_mark.specs.declared.reflow.State.{State}
use Rattle.reflow_mark.specs.declared.reflow.State.TheVariants.{None}
use Rattle.reflow_mark.specs.declared.reflow.Reflow.{Reflow}
use Rattle.reflow_mark.specs.Reflow.{IsMark, IsRightReflow}
use Rattle.block_record.specs.Page.{page_sectors}
use Rattle.uberblock_ring.specs.Devices.{has_device}
use Rattle.uberblock_ring.specs.Uberblock.{Uber, area_sector}
use Rattle.uberblock_ring.specs.Valid.{IsRightUber, AreAlike}
use Rattle.uberblock_ring.proofs.DeviceSets.{count_none, none_in}
use Rattle.commit_job.specs.declared.call.CommitCall.{CommitCall}
use Rattle.commit_job.specs.declared.call.CommitCall.TheVariants.{IndexWrite, BaseSync, UberWrite, UberSync}
use Rattle.commit_job.specs.Stages.{signing_of, device_of}
use Rattle.core_state.specs.Keeps.{Kept, Setting, HasWidthIn, IsNextOf}
use Rattle.core_state.specs.Certain.{Asks, IsCertain, IsSuccession, IsSound, Knows, certain}
use Rattle.core_state.specs.Committing.{Among, Point, HasBase, Signed, page_part}
use Rattle.core_state.proofs.Calls.{true_false}
use Rattle.core_state.proofs.Joining.{reach_more}
use Rattle.core_state.proofs.Listed.{contains_head, contains_tail, contains_cases, contains_none}
use Rattle.core_state.proofs.Moving.{knows_widen}
use Rattle.core_state.proofs.Places.{asks_device, right_widths}
use Rattle.core_state.proofs.Resting.{asks_resting, asks_resting_back, resting}
use Rattle.core_commit.specs.declared.commit_run.Stage.{Stage}
use Rattle.core_commit.specs.Ran.{IsLaying}
use Rattle.core_commit.specs.Ordered.{Ordered}
use Rattle.core_commit.specs.CommitTurns.{CommitRun, IsCommitRun, IsLaidDown, LaysSoFar, CommitsSoFar, IsCommitting}
use Rattle.core_commit.specs.CommitTurns.{IsBeside}
use Rattle.core_commit.specs.Widening.{widened_uber, widened_kept, widened_run, MayWiden}
use Rattle.core_commit.proofs.Going.{ordered_inside, all_inside}
use Rattle.core_commit.proofs.Order.{signing_ordered, signing_signs, signing_only}
use Rattle.core_commit.proofs.Plans.{laying_spent}

-- With one device more the group has a right uberblock.
pub widened_right : (uber : Uber) → uber.reflow.to ≡ uber.reflow.from → uber.reflow.to < 16 → IsRightUber uber
    → IsRightUber (widened_uber uber)
widened_right uber rest room right =
    let still = resting uber.reflow right.reflow rest in
    record {
      pool = right.pool;
      group = right.group;
      parity = right.parity;
      widths = (right.widths.0, omega (arith, room));
      rows = right.rows;
      reflow = inr (
        ap (λ (n : ℕ). n + 1) rest,
        subst (λ (state : State). IsMark state (record uber.reflow { to = uber.reflow.to + 1 })) (sym still.1) still.0,
      );
      area = right.area;
      out = (
        pow_pos (uber.reflow.to + 1),
        (let none = count_none (uber.reflow.to + 1) in omega (arith, none)),
      );
      count = right.count;
      digest = right.digest;
      births = right.births;
    }

-- So has the second half with one device more a right run.
pub widened_run_right : (run : CommitRun) → run.uber.reflow.to ≡ run.uber.reflow.from → run.uber.reflow.to < 16
    → IsCommitRun run → IsCommitRun (widened_run run)
widened_run_right run rest room is = record {
  right = widened_right run.uber rest room is.right;
  index = is.index;
  counted = is.counted;
  inside = all_inside (widened_uber run.uber) (signing_of (run.uber.reflow.to + 1))
      (ordered_inside (widened_uber run.uber) (signing_of (run.uber.reflow.to + 1))
      (signing_ordered (run.uber.reflow.to + 1) run.uber.count));
}

pub widened_alike : (uber other : Uber) → AreAlike uber other → AreAlike (widened_uber uber) (widened_uber other)
widened_alike uber other alike = ap widened_uber alike

-- Law: The group with that device asks for the same sectors, since nothing is moved yet.
pub asks_widened : (next : Kept) (device device_sector : ℕ) (bytes : List ℕ) → next.uber.reflow.state ≡ None
    → Asks (widened_kept next) device device_sector bytes ↔ Asks next device device_sector bytes
asks_widened next device device_sector bytes none = (
  asks_resting next (next.uber.reflow.to + 1) 0 device device_sector bytes none,
  asks_resting_back next (next.uber.reflow.to + 1) 0 device device_sector bytes none,
)

-- So calls beside the commit that no group asks for are still beside it.
pub beside_widened : (setting : Setting) (first next : Kept) (here : ℕ → ℕ → Type 0) → next.uber.reflow.state ≡ None
    → IsBeside setting first next here
    → IsBeside (record setting { reach = setting.reach + 1 }) first (widened_kept next) here
unfolding asks_resting
beside_widened setting first next here none beside = record {
  region = beside.region;
  not_first = beside.not_first;
  not_next = λ device device_sector bytes is asks. beside.not_next device device_sector bytes is
      (asks_resting next (next.uber.reflow.to + 1) 0 device device_sector bytes none asks);
}

module _ (setting : Setting) (first next : Kept) (run : CommitRun) (point : Point)
    (is : IsCommitting setting first next run point) (laid : IsLaidDown point.out run)
    (may : MayWiden setting first next point) where
  abbrev wider : Setting
  wider = record setting { reach = setting.reach + 1 }

  room : next.uber.reflow.to < 16
  room = let there = may.pool.there in let width = may.pool.width in omega (arith, there, width)

  right : IsRightUber (widened_uber run.uber)
  right =
      let reflow : run.uber.reflow ≡ next.uber.reflow = ap (λ (u : Uber). u.reflow) is.alike in
      widened_right run.uber
      (subst (λ (r : Reflow). r.to ≡ r.from) (sym reflow) may.pool.rest)
      (subst (λ (r : Reflow). r.to < 16) (sym reflow) room) is.right

  alike : AreAlike (widened_uber run.uber) (widened_uber next.uber)
  alike = widened_alike run.uber next.uber is.alike

  still : next.uber.reflow.state ≡ None
  still = (resting next.uber.reflow
      (subst IsRightReflow (ap (λ (u : Uber). u.reflow) is.alike) is.right.reflow) may.pool.rest).1

  succession : IsSuccession wider first (widened_kept next ∷ [])
  succession = record {
    few = is.row.few;
    wide = is.row.wide;
    ascending = ascends;
    further = All-cons (IsNextOf first) (widened_kept next) []
        (inl (
          may.pool.follows,
          (λ same. is.area (sym same)),
          record {
            up = (let width = may.pool.width in let first_width = may.pool.first_width in omega (arith, width, first_width));
            down = (let width = may.pool.width in let first_width = may.pool.first_width in omega (arith, width, first_width));
          },
        )) (All-nil (IsNextOf first));
    widths = All-cons (HasWidthIn wider) first (widened_kept next ∷ [])
        (record {
          least = (is.row.widths 0 first (omega arith)).least;
          most = (let width = may.pool.first_width in omega (arith, width));
        })
        (All-cons (HasWidthIn wider) (widened_kept next) []
        (record {
          least = (let least = (is.row.widths 1 next (omega arith)).least in omega (arith, least));
          most = (let width = may.pool.width in omega (arith, width));
        }) (All-nil (HasWidthIn wider)));
    inside = λ device below works. ⊎_elim (λ (old : device < setting.reach). is.row.inside device old works)
        (λ (new : setting.reach ≤ device). let there = may.pool.there in omega (arith, below, new, there))
        (cases_lt device setting.reach);
    device = is.row.device;
    below = is.row.below;
    works = is.row.works;
  }
    where
      ascends : AllPairs (λ one other. one.uber.group < other.uber.group) (first ∷ widened_kept next ∷ [])
      ascends zero zero default less low = absurd (omega (arith, less))
      ascends zero (suc zero) default less low = let follows = may.pool.follows in omega (arith, follows)
      ascends zero (suc (suc k)) default less low = absurd (omega (arith, low))
      ascends (suc k) other default less low = absurd (omega (arith, less, low))

  sound_in : (kept : Kept) → IsSound setting kept → IsSound wider kept
  sound_in kept sound = record {
    uber = sound.uber;
    alike = sound.alike;
    right = sound.right;
    pool_is = sound.pool_is;
    room = sound.room;
    index = sound.index;
    counted = sound.counted;
    digest = sound.digest;
    none_else = sound.none_else;
    fitting = sound.fitting;
    indexes = sound.indexes;
  }

  sound_wider : IsSound wider (widened_kept next)
  sound_wider = record {
    uber = widened_uber run.uber;
    alike = alike;
    right = right;
    pool_is = is.sound.pool_is;
    room = is.sound.room;
    index = is.sound.index;
    counted = is.sound.counted;
    digest = is.sound.digest;
    none_else = is.sound.none_else;
    fitting = record {
      births = is.sound.fitting.births;
      below = is.sound.fitting.below;
      apart = is.sound.fitting.apart;
    };
    indexes = is.sound.indexes;
  }

  come : LaysSoFar setting first next run.calls point
  come = subst (λ (stage : Stage). CommitsSoFar setting first next stage run.uber run.calls point) laid.0 is.so_far

  in_use : (device : ℕ) → has_device point.out device ≡ false
  in_use device = subst (λ (out : ℕ). has_device out device ≡ false) (sym may.whole) (none_in device)

  -- No call of the first half is left.
  spent : (call : CommitCall) → Among run.calls call → IsLaying call → ⊥
  spent call among laying = true_false (sym (laying_spent next.uber.reflow.to (page_sectors next.uber.count) point.out
      run.calls laid.1 is.ordered call among laying) ∙ in_use (device_of call))

  base : (device : ℕ) → device < next.uber.reflow.to → HasBase setting (certain point.disk) next device
  base device below = ⊎_elim (λ left. absurd (spent (BaseSync device) left (λ signing. signing))) (λ known. known)
      (come.unsigned.settled device below (in_use device))

  next_widths : (0 < next.uber.reflow.from) × (next.uber.reflow.from ≤ next.uber.reflow.to)
  next_widths = subst (λ (r : Reflow). (0 < r.from) × (r.from ≤ r.to)) (ap (λ (u : Uber). u.reflow) is.alike)
      (right_widths run.uber is.right)

  known : IsCertain wider point.disk (first ∷ widened_kept next ∷ []) (widened_uber run.uber)
  unfolding asks_resting
  known = record {
    kept = widened_kept next;
    listed = contains_tail first (widened_kept next ∷ []) (widened_kept next) (contains_head (widened_kept next) []);
    alike = alike;
    listing = record {
      index = is.sound.index;
      counted = is.sound.counted ∙ sym (ap (λ (u : Uber). u.count) is.alike);
      none_else = is.sound.none_else;
    };
    indexes = is.sound.indexes;
    cells = λ device inside used. record {
      at = λ device_sector bytes asks not_odd.
          let same = asks_resting next (next.uber.reflow.to + 1) 0 device device_sector bytes still asks in
          (base device (asks_device next device device_sector bytes next_widths same)).1.at device_sector bytes same
          not_odd;
    };
    out = λ device has. absurd (true_false (sym has ∙ none_in device));
  }

  knows : Knows wider first (widened_kept next ∷ []) point.disk
  knows = knows_widen wider first [] (widened_kept next ∷ []) point.disk succession
      (λ kept has. ⊎_elim
      (λ same. subst (λ (k : Kept). Contains (first ∷ widened_kept next ∷ []) k) (sym same)
      (contains_head first (widened_kept next ∷ [])))
      (λ none. absurd (contains_none kept none)) (contains_cases first [] kept has))
      (reach_more setting first [] point.disk may.joins.settled may.joins.blank may.pool.there come.unsigned.knows)

  -- The device that joins is the one behind the others.
  newest : (device : ℕ) → device < next.uber.reflow.to + 1 → (device < next.uber.reflow.to) ⊎ (device ≡ setting.reach)
  newest device below = ⊎_elim (λ (old : device < next.uber.reflow.to). inl old)
      (λ (new : next.uber.reflow.to ≤ device). inr (let width = may.pool.width in omega (arith, below, new, width)))
      (cases_lt device next.uber.reflow.to)

  told : (device device_sector : ℕ) → device < next.uber.reflow.to + 1 → device_sector < 192
      → IsSome (point.disk.reads device device_sector)
  told device device_sector below low = ⊎_elim
      (λ old. come.unsigned.told device device_sector old (in_use device) low)
      (λ new. subst (λ (d : ℕ). IsSome (point.disk.reads d device_sector)) (sym new) (may.joins.told device_sector low))
      (newest device below)

  page : (device part : ℕ) → device < next.uber.reflow.to + 1 → part < page_sectors next.uber.count
      → point.disk.reads device (area_sector next.uber.area + part) ≡ Some (page_part next part)
  page device part below low = ⊎_elim
      (λ old. ⊎_elim (λ left. absurd (spent (IndexWrite device part) left (λ signing. signing))) (λ read. read)
      (come.unsigned.laid device part old (in_use device) low))
      (λ new. subst (λ (d : ℕ). point.disk.reads d (area_sector next.uber.area + part) ≡ Some (page_part next part))
      (sym new) (may.joins.page part low))
      (newest device below)

  run_to : run.uber.reflow.to ≡ next.uber.reflow.to
  run_to = ap (λ (u : Uber). u.reflow.to) is.alike

  signing : (device : ℕ) → device < next.uber.reflow.to + 1
      → Among (signing_of (run.uber.reflow.to + 1)) (UberWrite device)
      × Among (signing_of (run.uber.reflow.to + 1)) (UberSync device)
  signing device below = signing_signs (run.uber.reflow.to + 1) run.uber.count device (omega (arith, below, run_to))

  signed : Signed wider first (widened_kept next ∷ []) (widened_kept next) (widened_uber run.uber)
      (signing_of (run.uber.reflow.to + 1)) point
  signed = record {
    knows = knows;
    known = known;
    lawful = come.unsigned.lawful;
    told = λ device device_sector below used low. told device device_sector below low;
    laid = λ device part below used low. inr (page device part below low);
    signed = λ device below used. inl (signing device below).0;
    sealed = λ device below used. inl (signing device below).1;
  }

  -- Law: A commit whose first half is done goes on as one that a further device joins: the pool reaches to it.
  pub commit_widened : IsCommitting wider first (widened_kept next) (widened_run run) point
  commit_widened = record {
    row = succession;
    sound_first = sound_in first is.sound_first;
    sound = sound_wider;
    right = right;
    alike = alike;
    entries_are = is.entries_are;
    parity_is = is.parity_is;
    area = is.area;
    near = inl may.pool.follows;
    ordered = subst (λ (to : ℕ). Ordered (next.uber.reflow.to + 1) (page_sectors next.uber.count) (signing_of (to + 1)))
        (sym run_to) (signing_ordered (next.uber.reflow.to + 1) next.uber.count);
    so_far = record {
      signed = signed;
      spent = λ call among laying. absurd (laying (signing_only (run.uber.reflow.to + 1) run.uber.count call among));
    };
  }
