-- Whichever devices that may fail are silent, the pool whose groups an image keeps is the one chosen.
use Rattle.std.proofs.Common.{◌≡◌, ◌≢◌, inl, inr, ⊎_elim, ℕ, zero, suc, ◌+◌, ◌^◌, ◌<◌, ◌≤◌, List, [], ◌∷◌, Bool}
use Rattle.std.proofs.Common.{true, false, refl, sym, ◌∙◌, arith}
use Rattle.std.specs.Prelude.{All, nat_eq}
use Rattle.std.specs.List.{IsDistinct}
use Rattle.std.proofs.lemmas.Bool.{cases_lt, cases_eq}
use Rattle.bank_trait.specs.Disk.{Image}
use Rattle.uberblock_ring.specs.Devices.{has_device}
use Rattle.uberblock_ring.specs.Uberblock.{Uber}
use Rattle.core_state.specs.Shown.{Shape, Shows}
use Rattle.core_state.specs.Choosing.{Names, Outvotes, IsChosenPool}
use Rattle.core_state.specs.Keeps.{Kept, Setting, Keeps, MayVoteFor, left_below, HasWidthIn}
use Rattle.core_state.proofs.Calls.{true_false}
use Rattle.core_state.proofs.Fresh.{none_in}
use Rattle.core_state.proofs.Left.{Each, each_all, left_are, left_distinct, outvotes_more, not_both}
use Rattle.core_state.proofs.Widths.{first_width}

-- A device that shows an uberblock names the pool of one of them: its greatest can't be missing.
greatest_there : (shape : Shape) (image : Image) (device fuel : ℕ) (uber : Uber)
    → ((uber : Uber) → Shows shape image device uber
    → ((other : Uber) → Shows shape image device other → other.group ≤ uber.group)
    → ⊥)
    → Shows shape image device uber → 2 ^ 62 < uber.group + fuel
    → ⊥
greatest_there shape image device zero uber none shows high =
    let group = shows.valid.right.group in omega (arith, group, high)
greatest_there shape image device (suc fuel) uber none shows high =
    none uber shows (λ other shown. ⊎_elim
    (λ above. absurd (greatest_there shape image device fuel other none shown (omega (arith, above, high))))
    (λ below. below) (cases_lt uber.group other.group))

-- What can't be missing of each of a list can't be missing of all.
each_there : (P Q : ℕ → Type 0) (numbers : List ℕ) → ((number : ℕ) → Q number → (P number → ⊥) → ⊥)
    → Each Q numbers → (Each P numbers → ⊥)
    → ⊥
each_there P Q [] there each none = none tt
each_there P Q (number ∷ numbers) there each none =
    there number each.0 (λ one. each_there P Q numbers there each.1 (λ rest. none (one, rest)))

module _ (setting : Setting) (first : Kept) (later : List Kept) (image : Image)
    (keeps : Keeps setting first later image) (silent : ℕ)
    (within : (device : ℕ) → device < first.uber.reflow.to → has_device silent device ≡ true
    → has_device setting.failed device ≡ true) where
  width : HasWidthIn setting first
  width = first_width setting first later keeps.widths

  first_reach : first.uber.reflow.to ≤ setting.reach
  first_reach = width.most

  -- Whom those that are left of the least width outvote, those do that are left of the first group's.
  still_outvotes : (others : List ℕ) → Outvotes (left_below setting.failed setting.base) others
      → Outvotes (left_below setting.failed first.uber.reflow.to) others
  still_outvotes others =
      outvotes_more setting.failed setting.base first.uber.reflow.to others width.least

  -- A device that may not fail is read.
  pub reads_left : (device : ℕ) → device < first.uber.reflow.to → has_device setting.failed device ≡ false
      → has_device silent device ≡ false
  reads_left device below works = by (has_device silent device) refl
    where
      by : (b : Bool) → has_device silent device ≡ b → has_device silent device ≡ false
      by false is = is
      by true is = absurd (true_false (sym (within device below is) ∙ works))

  -- It names the pool.
  names_own : (device : ℕ) → (device < first.uber.reflow.to) × (has_device setting.failed device ≡ false)
      → (Names setting.shape silent image setting.pool device → ⊥)
      → ⊥
  names_own device (below, works) none =
      let shown = keeps.there.each device below works in
      let right = shown.2.shows.valid.right in
      greatest_there setting.shape image device (2 ^ 62) shown.0
      (λ uber shows greatest. none (record {
        reads = reads_left device below works;
        uber = uber;
        shows = shows;
        greatest = greatest;
        pool_is = keeps.own device uber (omega (arith, below, first_reach)) works shows;
      }))
      shown.2.shows (let group = right.group in omega (arith, group))

  -- Whoever names another pool is outside, or has failed.
  may_vote : (pool : ℕ) → pool ≢ setting.pool → (device : ℕ) → Names setting.shape silent image pool device
      → MayVoteFor setting image pool device
  may_vote pool other device names = ⊎_elim
      (λ below. by below (has_device setting.failed device) refl)
      (λ above. inl (record {
        outside = above;
        names = record {
          reads = none_in device;
          uber = names.uber;
          shows = names.shows;
          greatest = names.greatest;
          pool_is = names.pool_is;
        };
      }))
      (cases_lt device setting.reach)
    where
      by : device < setting.reach → (b : Bool) → has_device setting.failed device ≡ b
          → MayVoteFor setting image pool device
      by below false works =
          absurd (other (sym names.pool_is ∙ keeps.own device names.uber below works names.shows))
      by below true gone = inr (record {
        within = below;
        failed = gone;
        uber = names.uber;
        shows = names.shows;
        pool_is = names.pool_is;
      })

  -- Those that are left outvote whoever names another pool.
  outvoted : (other : ℕ) (others : List ℕ) → other ≢ setting.pool → IsDistinct nat_eq others
      → All (Names setting.shape silent image other) others
      → Outvotes (left_below setting.failed first.uber.reflow.to) others
  outvoted other others apart distinct each = still_outvotes others
      (keeps.votes other others apart distinct (λ k default low. may_vote other apart _ (each k default low)))

  abbrev own_voters : List ℕ
  own_voters = left_below setting.failed first.uber.reflow.to

  -- The chosen pool is this one.
  pub pool_chosen : (pool : ℕ) → IsChosenPool setting.shape silent image pool → pool ≡ setting.pool
  pool_chosen pool chosen = ⊎_elim (λ same. same) (λ other. absurd (each_there
      (Names setting.shape silent image setting.pool)
      (λ device. (device < first.uber.reflow.to) × (has_device setting.failed device ≡ false))
      own_voters names_own (left_are setting.failed first.uber.reflow.to)
      (λ own. not_both own_voters chosen.voters
      (outvoted pool chosen.voters other chosen.distinct chosen.each)
      (chosen.wins setting.pool own_voters (λ same. other (sym same))
      (left_distinct setting.failed first.uber.reflow.to)
      (each_all (Names setting.shape silent image setting.pool) own_voters own))))) (cases_eq pool setting.pool)

  -- It can't be that none is chosen.
  pub pool_there : (IsChosenPool setting.shape silent image setting.pool → ⊥) → ⊥
  pool_there none = each_there
      (Names setting.shape silent image setting.pool)
      (λ on. (on < first.uber.reflow.to) × (has_device setting.failed on ≡ false))
      own_voters names_own (left_are setting.failed first.uber.reflow.to)
      (λ own. none (record {
        voters = own_voters;
        distinct = left_distinct setting.failed first.uber.reflow.to;
        each = each_all (Names setting.shape silent image setting.pool) own_voters own;
        wins = outvoted;
      }))
