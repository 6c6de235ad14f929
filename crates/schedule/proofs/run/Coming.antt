-- Turns that go on from where others came to.
use Rattle.schedule.proofs.Words.{◌≡◌, Later, inl, inr, ⊎_elim, ℕ, ◌+◌, ◌≤◌, ◌<◌, List, [], ◌∷◌, ◌++◌, Some, refl}
use Rattle.schedule.proofs.Words.{sym, ◌∙◌, subst, arith, slice_get, cases_lt, true≢false, Disk, later_refl}
use Rattle.schedule.proofs.Words.{later_trans, touches_then, touches_widen, count_of, has_device, IsWithin, none_in}
use Rattle.schedule.proofs.Words.{Item, CallAt, World, point_of, outs_then, IsOnInUse, in_use_before, count_grows}
use Rattle.schedule.proofs.Words.{WhyDropped, ScriptCall, Script, calls_of, grown_has, CoreState, HasBankOf}
use Rattle.schedule.proofs.Words.{AttachGoesOn, TurnGoesOn, as_attach, turn_bank, turn_still, append-nil, AttachesNone}
use Rattle.schedule.proofs.Words.{GoesOnFor, HasToBear, IsWorldOf, LeadTo, IsRunFrom, KeepsUsing, StaysAsWide, Turns}
use Rattle.schedule.proofs.Words.{TurnTaken, last_left}
use Rattle.schedule.proofs.Words.{AreListedWith, HasDropCause, IsDropCause, IsToBeTold, IsDeviceCause, IsNumbered, Runs}
use Rattle.schedule.proofs.Words.{Past}
use Rattle.std.proofs.Common.{true}
use Rattle.core_state.specs.declared.answer.Kind.TheVariants as kind
use Rattle.core_open.proofs.Written.{none_listed}
use Rattle.schedule.proofs.turn.Fitting.{FitSince, device_cause_on, fit_same}
use Rattle.schedule.proofs.put.Full.{FullStays, full_same}

none_out : (device : ℕ) → has_device 0 device ≡ true → ⊥
none_out device out = true≢false (sym out ∙ none_in device)

-- Some devices have to be borne.
record Bears (before after : CoreState) : Type 0 where
  pub borne : ℕ
  pub bears : HasToBear before after borne

-- All that were out at first, where no more were than there are parities, and none where too many were.
bears : (before after : CoreState) → IsWithin before.core.pool.out after.core.pool.out → Bears before after
bears before after still = ⊎_elim
    (λ (few : count_of before.core.pool.out ≤ before.core.pool.uber.parity). record {
      borne = before.core.pool.out;
      bears = record {
        few = few;
        from_start = λ few device is. is;
        stopped = λ many. absurd (omega arith);
        within = still;
      };
    })
    (λ (many : before.core.pool.uber.parity < count_of before.core.pool.out). record {
      borne = 0;
      bears = record {
        few = search none_listed;
        from_start = λ few. absurd (omega (arith, few, many));
        stopped = λ many device is. is;
        within = λ device is. absurd (none_out device is);
      };
    }) (search (cases_lt, arith))

-- A turn of a call that is no attach goes on so,
pub goes_for : {before after : CoreState} {script : Script} → TurnGoesOn before after → GoesOnFor script before after
goes_for goes = search (as_attach, turn_bank)

-- and one of an attach as attaches do.
pub goes_for_attach : {before after : CoreState} {script : Script} (actor number : ℕ) {call : ScriptCall}
    → slice_get (calls_of script actor) number ≡ Some call → call.kind ≡ kind.Attach
    → AttachGoesOn before after × (HasBankOf before.core before.disk → HasBankOf after.core after.disk)
    → GoesOnFor script before after
goes_for_attach actor number is asked goes = search arith

-- Turns in which these items were listed, and which did what one turn may do, or nothing.
pub came : {script : Script} {before after : Turns} {passed : List TurnTaken} → last_left before passed ≡ after
    → GoesOnFor script before.state after.state → KeepsUsing script before after
    → (IsNumbered before.items before.state.core → IsNumbered after.items after.state.core)
    → ((cause : WhyDropped) → IsToBeTold after.clients cause → HasDropCause before after cause)
    → (more : List Item) → after.items ≡ before.items ++ more → FitSince before after
    → ((world : World) (past : Past) → IsWorldOf script world
    → (count_of before.state.core.pool.out ≤ before.state.core.pool.uber.parity
    → IsWithin before.state.core.pool.out world.setting.failed) → AreListedWith past.banks before passed
    → Runs world script past before.state before.items before.clients
    → Runs world script past after.state after.items after.clients) → FullStays script before after
    → LeadTo script before passed after
came {script = script} {before = before} {after} {passed} ends on space numbers dropped more items fit runs full = record {
  ends = ends;
  pool = record {
    later = on.goes.later;
    parity = on.goes.parity;
    reach = reach_is;
    only = touches_widen (IsOnInUse (before.state.core.reach + 1) before.state.core.pool.out)
        (IsOnInUse (after.state.core.reach + 1) before.state.core.pool.out) (search (reach_is, arith)) on.goes.only;
    same = on.same;
    out = on.goes.out;
  };
  journal = record { listed = search (grown_has, arith); fits = fit; dropped = dropped; numbers = numbers };
  space = space;
  borne = its.borne;
  bears = its.bears;
  stands = record {
    runs = λ world past at. runs world past at.world_of
        (λ few device out. at.borne_in device (its.bears.from_start few device out)) at.with_banks at.stood;
    full = λ world past at. full world past at.world_of at.stood;
  };
}
  where
    its : Bears before.state after.state
    its = bears before.state after.state on.goes.out.still

    reach_is : before.state.core.reach ≤ after.state.core.reach
    reach_is = search arith

-- Nothing was done, also where a turn was taken that did nothing.
pub came_nowhere : {script : Script} {turns : Turns} {passed : List TurnTaken} → last_left turns passed ≡ turns
    → LeadTo script turns passed turns
came_nowhere {script = script} {turns = turns} same = came same
    (goes_for (turn_still turns.state turns.state refl refl refl refl)) (λ uber entries used. used)
    (λ numbered. numbered) (λ cause told. inr told) [] (sym (append-nil turns.items)) (fit_same turns turns refl)
    (λ world past handed few listed runs. runs) (full_same script turns turns refl)

-- What turns left that go on after turns.
last_then : (start : Turns) (one two : List TurnTaken)
    → last_left start (one ++ two) ≡ last_left (last_left start one) two
last_then start [] two = refl
last_then start (turn ∷ one) two = last_then turn.left one two

listed_split : (banks : ℕ → Disk) (start : Turns) (one two : List TurnTaken) → AreListedWith banks start (one ++ two)
    → AreListedWith banks start one × AreListedWith banks (last_left start one) two
listed_split banks start [] two listed = (tt, listed)
listed_split banks start (turn ∷ one) two listed =
    let rest = listed_split banks turn.left one two listed.1 in ((listed.0, rest.0), rest.1)

-- A cause that came between two moments came between an earlier one and a later one.
cause_beside : (early : Disk) {old new : Disk} (late : Disk) (out now : ℕ) (cause : WhyDropped) → Later early old
    → Later new late → IsWithin out now → IsDropCause old new out cause → IsDropCause early late now cause
cause_beside early late out now cause before after still is = grind arith

-- Turns after turns.
module _ (script : Script) (start middle now : Turns) (one two : List TurnTaken)
    (first : LeadTo script start one middle) (second : LeadTo script middle two now) where
  -- with whose banks items were listed
  split : (banks : ℕ → Disk) → AreListedWith banks start (one ++ two)
      → AreListedWith banks start one × AreListedWith banks middle two
  split banks listed = search (listed_split, arith)

  -- Who is in use later was so at the start.
  in_use_then : (reach device device_sector : ℕ) → IsOnInUse reach middle.state.core.pool.out device device_sector
      → IsOnInUse reach start.state.core.pool.out device device_sector
  in_use_then reach device device_sector here = search (in_use_before, arith)

  as_wide_then : AttachesNone script → StaysAsWide start.state now.state
  as_wide_then none =
      let one = first.pool.same none in
      let two = second.pool.same none in record {
        reach = cc;
        only = touches_then (IsOnInUse start.state.core.reach start.state.core.pool.out)
            (IsOnInUse middle.state.core.reach middle.state.core.pool.out)
            (IsOnInUse start.state.core.reach start.state.core.pool.out)
            (λ d x here. here) (search (in_use_then, arith)) one.only two.only;
      }

  -- Why no device was attached that was known so far, or came to be known,
  dropped_before : (cause : WhyDropped) → HasDropCause start middle cause → HasDropCause start now cause
  dropped_before cause told = grind (arith, cause_beside, later_refl)

  dropped_since : (cause : WhyDropped) → HasDropCause middle now cause → HasDropCause start now cause
  dropped_since cause told = grind (arith, cause_beside, later_refl, dropped_before)

  fits_then : FitSince start now
  fits_then index entry there = ⊎_elim
      (λ (was : CallAt middle.items index entry). ⊎_elim (λ at. inl at)
      (λ fit. inr (record {
        of_kind = fit.of_kind;
        too_many = λ listed is. let many = fit.too_many listed is in search arith;
        limit = fit.limit;
        memory = fit.memory;
        device = search (device_cause_on, dropped_before);
      })) (first.journal.fits index entry was))
      (λ fit. inr (record {
        of_kind = fit.of_kind;
        too_many = λ listed is. let many = fit.too_many listed is in search arith;
        limit = fit.limit;
        memory = fit.memory;
        device = subst (λ (n : ℕ). IsDeviceCause n (HasDropCause start now) entry.answer) first.pool.later.devices
            (search (device_cause_on, dropped_since));
      })) (second.journal.fits index entry there)

  -- the devices that have to be borne in both
  record BearsBoth : Type 0 where
    pub borne : ℕ
    pub bears : HasToBear start.state now.state borne
    pub in_one : IsWithin first.borne borne
    pub in_two : IsWithin second.borne borne

  both : BearsBoth
  both = ⊎_elim
      (λ (few : count_of middle.state.core.pool.out ≤ middle.state.core.pool.uber.parity). record {
        borne = second.borne;
        bears = record {
          few = let most = second.bears.few in let same = first.pool.parity in omega (arith, most, same);
          from_start = λ at device out. second.bears.from_start few device (first.pool.out.still device out);
          stopped = λ many. absurd (
              let more = count_grows start.state.core.pool.out middle.state.core.pool.out first.pool.out.still in
              let same = first.pool.parity in omega (arith, few, many, more, same));
          within = second.bears.within;
        };
        in_one = λ device out. second.bears.from_start few device (first.bears.within device out);
        in_two = λ device out. out;
      })
      (λ (many : middle.state.core.pool.uber.parity < count_of middle.state.core.pool.out). record {
        borne = first.borne;
        bears = record {
          few = first.bears.few;
          from_start = first.bears.from_start;
          stopped = first.bears.stopped;
          within = λ device out. second.pool.out.still device (first.bears.within device out);
        };
        in_one = λ device out. out;
        in_two = λ device out. absurd (none_out device (second.bears.stopped many device out));
      }) (search (cases_lt, arith))

  -- What stood at the start stood for the first turns,
  stood_first : {world : World} {past : Past} → IsRunFrom script start (one ++ two) both.borne world past
      → IsRunFrom script start one first.borne world past
  stood_first {world = world} {past = past} at = record {
    world_of = at.world_of;
    stood = at.stood;
    borne_in = λ device out. at.borne_in device (both.in_one device out);
    with_banks = (split past.banks at.with_banks).0;
  }

  -- and stands where these led to, for the second.
  stood_second : {world : World} {past : Past} → IsRunFrom script start (one ++ two) both.borne world past
      → IsRunFrom script middle two second.borne world past
  stood_second {world = world} {past = past} at = record {
    world_of = at.world_of;
    stood = first.stands.runs world past (stood_first at);
    borne_in = λ device out. at.borne_in device (both.in_two device out);
    with_banks = (split past.banks at.with_banks).1;
  }

  pub came_on : LeadTo script start (one ++ two) now
  came_on = record {
    ends = search (last_then, arith);
    pool = record {
      later = later_trans first.pool.later second.pool.later;
      parity = second.pool.parity ∙ first.pool.parity;
      reach = let one = first.pool.reach in let two = second.pool.reach in omega (arith, one, two);
      only = touches_then (IsOnInUse (middle.state.core.reach + 1) start.state.core.pool.out)
          (IsOnInUse (now.state.core.reach + 1) middle.state.core.pool.out)
          (IsOnInUse (now.state.core.reach + 1) start.state.core.pool.out) (search arith)
          (in_use_then (now.state.core.reach + 1)) first.pool.only second.pool.only;
      same = as_wide_then;
      out = outs_then (point_of start.state.core.pool.out start.state.disk)
          (point_of middle.state.core.pool.out middle.state.disk) (point_of now.state.core.pool.out now.state.disk)
          first.pool.later.faults second.pool.later.faults first.pool.out second.pool.out;
    };
    journal = record {
      listed = λ index item there. second.journal.listed index item (first.journal.listed index item there);
      fits = fits_then;
      dropped = λ cause told. dropped_since cause (second.journal.dropped cause told);
      numbers = λ numbered. second.journal.numbers (first.journal.numbers numbered);
    };
    space = λ uber entries used. second.space uber entries (first.space uber entries used);
    borne = both.borne;
    bears = both.bears;
    stands = record {
      runs = λ world past at. second.stands.runs world past (stood_second at);
      full = λ world past at caused. second.stands.full world past (stood_second at)
          (first.stands.full world past (stood_first at) caused);
    };
  }
