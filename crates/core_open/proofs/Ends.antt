-- What an opening keeps, from the calls that it made.
use Rattle.std.proofs.Common.{◌≡◌, ⊎_elim, ℕ, zero, suc, ◌+◌, ◌^◌, ◌<◌, ◌≤◌, List, [], ◌∷◌, ◌++◌, Bool, true, false}
use Rattle.std.proofs.Common.{Result, Ok, refl, sym, ◌∙◌, ap, subst, arith, append_assoc}
use Rattle.std.specs.Prelude.{◌&&◌}
use Rattle.std.proofs.lemmas.Bool.{cases_lt}
use Rattle.bank_trait.specs.Disk.{Image, Disk, Lawful, Unchanged}
use Rattle.block_record.specs.declared.entry.IndexEntry.{IndexEntry}
use Rattle.uberblock_ring.specs.Devices.{has_device, count_below, IsWithin}
use Rattle.uberblock_ring.specs.Uberblock.{Uber}
use Rattle.uberblock_ring.specs.Valid.{IsRightUber}
use Rattle.core_state.specs.Shown.{Shape}
use Rattle.core_state.specs.Choosing.{IsChosen}
use Rattle.core_state.specs.Keeps.{Kept, Setting, IsKept, Renews}
use Rattle.core_state.specs.Collision.{HasNoOtherPage, MightStand}
use Rattle.core_state.specs.Certain.{Knows}
use Rattle.core_state.specs.Committing.{Point}
use Rattle.core_state.specs.Moment.{IsRowOf, KeepsSince}
use Rattle.core_state.proofs.Calls.{true_false}
use Rattle.core_state.proofs.Finding.{keeps_know}
use Rattle.core_state.proofs.Knowing.{present}
use Rattle.core_state.proofs.Listed.{contains_cases, contains_none}
use Rattle.core_state.proofs.Chosen.{chosen_held, chosen_group, chosen_same, chosen_sound, chosen_next}
use Rattle.core_commit.specs.declared.committing.TooManyOut.{TooManyOut}
use Rattle.core_commit.specs.Spread.{Spread, MaySpread}
use Rattle.core_open.specs.Causes.{IsChoiceWithout}
use Rattle.core_open.specs.Holds.{HoldsImage, shape_of}
use Rattle.core_open.specs.Opens.{IsSizedAsOne, MayOpen, IsWithinBelow, AddsOne, HasOpened, HasSpread, renewed_by}
use Rattle.core_open.specs.Opens.{every_device}
use Rattle.core_open.proofs.ChosenSpread.{AreRead, may_spread}
use Rattle.core_open.proofs.Present.{may_stand, present_held}
use Rattle.core_open.proofs.Unchanged.{unchanged_keeps}
use Rattle.core_open.proofs.Joining.{since_longer, certain_alone}
use Rattle.core_open.proofs.Renewing.{IsSpread, Joins, find_number, joins_fresh, joins_listed, fresh, fresh_renews}
use Rattle.core_open.proofs.Renewing.{may_renew, knows_next, next_same, next_listed, row_of_rest, parts}

-- The mask of every device has each that is read: tried one by one.
have_all : ℕ → Bool
have_all zero = true
have_all (suc device) = has_device every_device device && have_all device

all_set : (device : ℕ) → device < 16 → has_device every_device device ≡ true
unfolding have_all
all_set device low = at 16 refl low
  where
    both : (one other : Bool) → (one && other) ≡ true → (one ≡ true) × (other ≡ true)
    both true other is = (refl, is)
    both false other is = absurd (true_false (sym is))

    at : (count : ℕ) → have_all count ≡ true → device < count → has_device every_device device ≡ true
    at zero all below = absurd (omega (arith, below))
    at (suc count) all below =
        let one = both (has_device every_device count) (have_all count) all in
        ⊎_elim (λ less. at count one.1 less)
        (λ above. subst (λ (d : ℕ). has_device every_device d ≡ true) (omega (arith, above, below)) one.0)
        (cases_lt device count)

module _ (setting : Setting) (first : Kept) (later : List Kept) (old : Disk)
    (may : MayOpen setting first later old) (lawful : Lawful old) (before : Point)
    (same : Unchanged old before.disk) (silent device : ℕ) (uber : Uber) (entries : List IndexEntry)
    (chosen_on : IsChosen (shape_of old) silent (present old) device uber entries)
    (lack_page lack_uber : ℕ)
    (read_of : AreRead (shape_of old) silent old uber entries lack_page lack_uber before)
    (right : IsRightUber uber)
    (within : IsWithinBelow first.uber.reflow.to silent setting.failed) where
  stands : MightStand setting.shape old old.clock (present old)
  stands = may_stand setting first later old may lawful

  knows : Knows setting first later old
  knows = keeps_know setting first later old lawful stands may.keeps

  no_other : HasNoOtherPage setting (first ∷ later) (present old)
  no_other = may.no_other.pages (present old) (present_held old may.tells)

  chosen : IsChosen setting.shape silent (present old) device uber entries
  chosen = subst (λ (s : Shape). IsChosen s silent (present old) device uber entries) (sym may.shape) chosen_on

  read : AreRead setting.shape silent old uber entries lack_page lack_uber before
  read = subst (λ (s : Shape). AreRead s silent old uber entries lack_page lack_uber before) (sym may.shape) read_of

  abbrev held : (held : IsKept setting (present old) (first ∷ later) uber) × (entries ≡ held.kept.entries)
  held = chosen_held setting first later old knows stands silent within no_other device uber entries chosen

  abbrev kept : Kept
  kept = held.0.kept

  -- It has the size of the group that was chosen.
  pub sized_as_chosen : IsSizedAsOne (first ∷ later) uber
  sized_as_chosen = record {
    kept = kept;
    listed = held.0.listed;
    width_is = ap (λ (u : Uber). u.reflow.to) held.0.alike;
    parity_is = ap (λ (u : Uber). u.parity) held.0.alike;
  }

  abbrev group_spread_first : Spread
  group_spread_first = record { setting = setting; first = first; later = later; kept = kept; map = kept.map }

  may_first : MaySpread group_spread_first uber entries lack_page lack_uber before
  may_first = may_spread setting first later old knows lawful stands silent within no_other device uber entries chosen
      may.tells before same lack_page lack_uber read

  row_first : (joined : List Kept) → IsRowOf ((first ∷ later) ++ joined) first later
  row_first joined = record { before = []; after = joined; row = refl }

  begun : (joined : List Kept) → KeepsSince setting ((first ∷ later) ++ joined) old.clock before.disk
  begun joined = unchanged_keeps setting first later joined same may.keeps

  adds_none : AddsOne (first ∷ later) []
  adds_none = record { one = omega arith; renews = λ next has. absurd (contains_none next has) }

  module _ (mid : Point) (result : Result (Unit {0}) TooManyOut)
      (spread : HasSpread uber entries lack_page lack_uber before mid result) where
    since_mid : (joined : List Kept) → KeepsSince setting ((first ∷ later) ++ joined) old.clock mid.disk
    since_mid joined = spread.keeps.since group_spread_first ((first ∷ later) ++ joined) old.clock may_first
        (row_first joined) (begun joined)

    -- An opening that stopped while it brought the chosen group to devices.
    pub since_spread : (joined : List Kept) × AddsOne (first ∷ later) joined
        × KeepsSince setting ((first ∷ later) ++ joined) old.clock mid.disk
    since_spread = ([], adds_none, since_mid [])

  module _ (mid : Point) (value : Unit {0}) (spread : HasSpread uber entries lack_page lack_uber before mid (Ok value))
      (all_within : IsWithin mid.out setting.failed) (lists : IsWithin uber.out before.out)
      (out : (mid.out < 2 ^ uber.reflow.to) × (count_below mid.out uber.reflow.to ≤ uber.parity))
      (limit : uber.group + 2 ≤ 2 ^ 62) where
    is_spread : IsSpread setting first later kept uber entries mid
    is_spread = record {
      listed = held.0.listed;
      near = chosen_next setting first later old knows stands silent within no_other device uber entries chosen;
      same = chosen_same setting first later old knows stands silent within no_other device uber entries chosen;
      sound = chosen_sound setting first later old knows stands silent within no_other device uber entries chosen;
      right = right;
      parity_is = may.parity kept held.0.listed;
      stays = spread.keeps.stays group_spread_first may_first;
      brought = λ on in_use. spread.keeps.done group_spread_first may_first on in_use;
      within = all_within;
      lists = λ on is. spread.gone.stay on (lists on is);
      out = out;
      limit = limit;
    }

    -- The group that is written, and where it stands.
    record NextIs : Type 0 where
      pub next : Kept
      pub joined : List Kept
      pub front : List Kept
      pub joins : Joins setting first later kept uber entries mid is_spread next joined front
      pub adds : AddsOne (first ∷ later) joined
      pub more : List Kept
      pub at_most : joined ++ more ≡ next ∷ []

    next_is : NextIs
    next_is = ⊎_elim
        (λ there. let joins = joins_listed setting first later kept uber entries mid is_spread there.0 there.1 there.2 in
        record {
          next = there.0;
          joined = [];
          front = joins.0;
          joins = joins.1;
          adds = adds_none;
          more = there.0 ∷ [];
          at_most = refl;
        })
        (λ none. record {
          next = fresh setting first later kept uber entries mid is_spread;
          joined = fresh setting first later kept uber entries mid is_spread ∷ [];
          front = _;
          joins = joins_fresh setting first later kept uber entries mid is_spread none;
          adds = record {
            one = omega arith;
            renews = λ next has. (
              kept,
              held.0.listed,
              ⊎_elim (λ same. subst (λ (k : Kept). Renews kept k) (sym same)
                  (fresh_renews setting first later kept uber entries mid is_spread))
                  (λ nothing. absurd (contains_none next nothing))
                  (contains_cases (fresh setting first later kept uber entries mid is_spread) [] next has),
            );
          };
          more = [];
          at_most = refl;
        })
        (find_number (parts setting first later kept uber entries mid is_spread).1 (uber.group + 2))

    abbrev group_renewed : Spread
    group_renewed = record {
      setting = setting;
      first = kept;
      later = (parts setting first later kept uber entries mid is_spread).1 ++ next_is.joined;
      kept = next_is.next;
      map = kept.map;
    }

    may_next : MaySpread group_renewed (renewed_by uber mid.out) entries 0 every_device mid
    may_next = may_renew setting first later kept uber entries mid is_spread next_is.next next_is.joined next_is.front
        next_is.joins every_device all_set

    module _ (after : Point) (result : Result (Unit {0}) TooManyOut)
        (renews : HasSpread (renewed_by uber mid.out) entries 0 every_device mid after result) where
      since_next : KeepsSince setting ((first ∷ later) ++ next_is.joined) old.clock after.disk
      since_next = renews.keeps.since group_renewed ((first ∷ later) ++ next_is.joined) old.clock may_next
          (row_of_rest setting first later kept uber entries mid is_spread next_is.next next_is.joined next_is.front
          next_is.joins)
          (since_mid mid (Ok value) spread next_is.joined)

      -- An opening that came so far, whether it ended or not.
      pub since_renewed : (joined : List Kept) × AddsOne (first ∷ later) joined
          × KeepsSince setting ((first ∷ later) ++ joined) old.clock after.disk
      since_renewed = (next_is.joined, next_is.adds, since_next)

    -- One that ended.
    pub opened_next : (after : Point) (value_after : Unit {0})
        → HasSpread (renewed_by uber mid.out) entries 0 every_device mid after (Ok value_after)
        → IsWithin after.out setting.failed
        → ((image : Image) → HoldsImage old image
        → (shown : IsChoiceWithout (shape_of old) silent image) × (shown.uber.group ≡ uber.group))
        → HasOpened setting first later (renewed_by uber mid.out) entries silent old after.disk
    opened_next after value_after renews within_after shown =
        let same_next = next_same setting first later kept uber entries mid is_spread next_is.next next_is.joined
        next_is.front next_is.joins in
        let stays = renews.keeps.stays group_renewed may_next in
        record {
          chosen = kept;
          listed = held.0.listed;
          next = next_is.next;
          renews = next_is.joins.renews;
          alike = sym same_next.alike;
          entries_are = sym same_next.entries;
          knows = knows_next setting first later kept uber entries mid is_spread next_is.next next_is.joined
              next_is.front next_is.joins after within_after stays.knows
              (λ on in_use. renews.keeps.done group_renewed may_next on in_use);
          known = certain_alone setting after.disk (kept ∷ group_renewed.later) (renewed_by uber mid.out) next_is.next
              next_is.joins.row.ascending
              (next_listed setting first later kept uber entries mid is_spread next_is.next next_is.joined next_is.front
              next_is.joins) (sym same_next.alike) stays.known;
          since = subst (λ (g : List Kept). KeepsSince setting g old.clock after.disk)
              (append_assoc (first ∷ later) next_is.joined next_is.more
              ∙ ap (λ (g : List Kept). (first ∷ later) ++ g) next_is.at_most)
              (since_longer setting ((first ∷ later) ++ next_is.joined) next_is.more old.clock after.disk
              (since_next after (Ok value_after) renews));
          choice = λ image holds. (
            (shown image holds).0,
            (shown image holds).1
                ∙ chosen_group setting first later old knows stands silent within no_other device uber entries chosen,
          );
        }
