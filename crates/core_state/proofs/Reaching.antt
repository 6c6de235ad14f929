-- How far a pool reaches: no further than the widest of the groups that an image keeps.
use Rattle.std.proofs.Common.{◌≡◌, ◌≢◌, inl, inr, ⊎_elim, ℕ, zero, suc, ◌<◌, ◌≤◌, List, [], ◌∷◌, Bool, true, false}
use Rattle.std.proofs.Common.{refl, sym, ◌∙◌, arith, All}
use Rattle.std.specs.Prelude.{Contains}
use Rattle.std.proofs.lemmas.Bool.{cases_lt}
use Rattle.bank_trait.specs.Disk.{Image}
use Rattle.uberblock_ring.specs.Devices.{has_device}
use Rattle.uberblock_ring.specs.Uberblock.{Uber}
use Rattle.core_state.specs.Keeps.{Kept, Setting, Keeps, IsKept, ShowsNoOther, IsNotOutvoted, MayVoteFor}
use Rattle.core_state.specs.Keeps.{ReachesNoFurther}
use Rattle.core_state.proofs.Listed.{contains_head, contains_tail}
use Rattle.core_state.proofs.Widths.{listed_width}

-- The group is as wide as any of these, and one of them.
record IsWidest (groups : List Kept) (kept : Kept) : Type 0 where
  listed : Contains groups kept
  widest : All (λ (other : Kept). other.uber.reflow.to ≤ kept.uber.reflow.to) groups

widest_of : (first : Kept) (later : List Kept) → (kept : Kept) × IsWidest (first ∷ later) kept
widest_of first [] = (first, record { listed = contains_head first []; widest = alone })
  where
    alone : All (λ (other : Kept). other.uber.reflow.to ≤ first.uber.reflow.to) (first ∷ [])
    alone zero default low = omega arith
    alone (suc place) default low = absurd (omega (arith, low))
widest_of first (next ∷ later) = by (widest_of next later)
  where
    by : (kept : Kept) × IsWidest (next ∷ later) kept → (kept : Kept) × IsWidest (first ∷ next ∷ later) kept
    by (kept, is) = ⊎_elim
        (λ (less : kept.uber.reflow.to < first.uber.reflow.to). (
          first,
          record {
            listed = contains_head first (next ∷ later);
            widest = with_first first (omega arith)
                (λ place default low. let most = is.widest place default low in omega (arith, most, less));
          },
        ))
        (λ (above : first.uber.reflow.to ≤ kept.uber.reflow.to). (
          kept,
          record {
            listed = contains_tail first (next ∷ later) kept is.listed;
            widest = with_first kept above is.widest;
          },
        ))
        (cases_lt kept.uber.reflow.to first.uber.reflow.to)
      where
        with_first : (kept : Kept) → first.uber.reflow.to ≤ kept.uber.reflow.to
            → All (λ (other : Kept). other.uber.reflow.to ≤ kept.uber.reflow.to) (next ∷ later)
            → All (λ (other : Kept). other.uber.reflow.to ≤ kept.uber.reflow.to) (first ∷ next ∷ later)
        with_first kept most rest zero default low = most
        with_first kept most rest (suc place) default low = rest place default (omega (arith, low))

-- the width of the widest group of a row
pub widest_reach : Kept → List Kept → ℕ
widest_reach first later = (widest_of first later).0.uber.reflow.to

pub reaches_no_further : (first : Kept) (later : List Kept)
    → ReachesNoFurther (first ∷ later) (widest_reach first later)
unfolding widest_reach
reaches_no_further first later = let widest = widest_of first later in
    record { widest = widest.0; listed = widest.1.listed; within = omega arith }

-- So it is where there are more groups.
pub reaches_among : (few groups : List Kept) (reach : ℕ)
    → ((kept : Kept) → Contains few kept → Contains groups kept)
    → ReachesNoFurther few reach → ReachesNoFurther groups reach
reaches_among few groups reach among far =
    record { widest = far.widest; listed = among far.widest far.listed; within = far.within }

-- A pool that was said to reach further than the groups that an image keeps may be said to reach less far.
module _ (setting : Setting) (reach : ℕ) (less : reach ≤ setting.reach) (image : Image)
    (own : ShowsNoOther setting image) where
  abbrev nearer : Setting
  nearer = record setting { reach = reach }

  -- A device that is now outside shows nothing of another pool, unless it has failed.
  voted : (other device : ℕ) → other ≢ setting.pool → MayVoteFor nearer image other device
      → MayVoteFor setting image other device
  voted other device differs (inl out) = ⊎_elim
      (λ (within : device < setting.reach). by within (has_device setting.failed device) refl)
      (λ beyond. inl (record { outside = beyond; names = out.names }))
      (cases_lt device setting.reach)
    where
      by : device < setting.reach → (b : Bool) → has_device setting.failed device ≡ b
          → MayVoteFor setting image other device
      by within false works =
          absurd (differs (sym out.names.pool_is ∙ own device out.names.uber within works out.names.shows))
      by within true gone = inr (record {
        within = within;
        failed = gone;
        uber = out.names.uber;
        shows = out.names.shows;
        pool_is = out.names.pool_is;
      })
  voted other device differs (inr gone) = let within = gone.within in inr (record {
    within = omega (arith, within, less);
    failed = gone.failed;
    uber = gone.uber;
    shows = gone.shows;
    pool_is = gone.pool_is;
  })

  -- No other pool outvotes it then.
  pub votes_less : IsNotOutvoted setting image → IsNotOutvoted nearer image
  votes_less votes other others differs distinct each =
      votes other others differs distinct (λ place default low. voted other _ differs (each place default low))

-- An image keeps groups in a pool that reaches as far as they do.
module _ (setting : Setting) (first : Kept) (later : List Kept) (image : Image)
    (keeps : Keeps setting first later image)
  where
    within : widest_reach first later ≤ setting.reach
    within = let far = reaches_no_further first later in
        let width = listed_width setting (first ∷ later) far.widest keeps.widths far.listed in
        let most = width.most in let near = far.within in omega (arith, most, near)

    abbrev as_far : Setting
    as_far = record setting { reach = widest_reach first later }

    wide_enough : All (λ (other : Kept). other.uber.reflow.to ≤ widest_reach first later) (first ∷ later)
    unfolding widest_reach
    wide_enough = (widest_of first later).1.widest

    kept_near : (uber : Uber) → IsKept setting image (first ∷ later) uber → IsKept as_far image (first ∷ later) uber
    kept_near uber kept = record {
      kept = kept.kept;
      listed = kept.listed;
      alike = kept.alike;
      listing = kept.listing;
      whole = kept.whole;
      out = kept.out;
    }

    -- Law: An image keeps what it keeps in a pool that reaches as far as the widest of the groups, and no further.
    pub keeps_to_reach : Keeps (record setting { reach = widest_reach first later }) first later image
    keeps_to_reach = record {
      few = keeps.few;
      wide = keeps.wide;
      only = λ device uber above shows pool_is. kept_near uber (keeps.only device uber above shows pool_is);
      there = record {
        device = keeps.there.device;
        works = keeps.there.works;
        shown = keeps.there.shown;
        each = keeps.there.each;
        pages = keeps.there.pages;
      };
      ascending = keeps.ascending;
      further = keeps.further;
      widths = λ place default low.
          record { least = (keeps.widths place default low).least; most = wide_enough place default low };
      inside = λ device below works. keeps.inside device (let near = within in omega (arith, below, near)) works;
      own = λ device uber below works shows.
          keeps.own device uber (let near = within in omega (arith, below, near)) works shows;
      votes = votes_less setting (widest_reach first later) within image keeps.own keeps.votes;
    }
