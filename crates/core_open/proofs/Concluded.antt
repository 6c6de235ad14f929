-- From the candidates of the chosen group to what an opening has to know.
use Rattle.std.proofs.Common.{◌≡◌, ◌≢◌, ◌⊎◌, inl, inr, ⊎_elim, ℕ, ◌+◌, ◌<◌, ◌≤◌, List, [], ◌∷◌, Some, true, false, Bool}
use Rattle.std.proofs.Common.{eqb, eqb-true, eq-eqb, refl, sym, ◌∙◌, subst, arith}
use Rattle.std.specs.Prelude.{Contains, slice_get, ◌↔◌}
use Rattle.std.specs.List.{Any, list_any}
use Rattle.std.proofs.lemmas.Bool.{cases_Bool, cases_lt, false≢true}
use Rattle.std.proofs.lemmas.List.Folds.{Any-from_list_any, list_any-from_Any}
use Rattle.std.proofs.lemmas.List.Elements.{All-contains}
use Rattle.bank_trait.specs.Disk.{Image}
use Rattle.block_record.specs.declared.entry.IndexEntry.{IndexEntry}
use Rattle.uberblock_ring.specs.Devices.{has_device}
use Rattle.uberblock_ring.specs.Uberblock.{Uber}
use Rattle.core_state.specs.Shown.{Shape, Shows, IsCandidate, read_devices}
use Rattle.core_state.specs.Choosing.{IsBlank, IsChosen, IsChosenPool, IsLeftBehind, IsListedOut, IsOutAtOpening}
use Rattle.core_open.specs.declared.ring_uber.RingUber.{RingUber}
use Rattle.core_open.specs.Candidates.{AreNewest}
use Rattle.core_open.specs.RingUbers.{AreShown, AreTaken}
use Rattle.core_open.specs.Finding.{ShowsTwin}
use Rattle.core_open.specs.Sets.{IsNewDevice, IsOutBy, ShowNear, ShowPool, StandOn}
use Rattle.core_open.proofs.Newest.{of_one_group}
use Rattle.core_open.proofs.ReadTo.{ring_uber_on}

-- The first uberblock is one of them.
pub first_of : (ubers : List RingUber) (first : RingUber) → slice_get ubers 0 ≡ Some first → Contains ubers first
first_of [] first nothing = absurd (cc)
first_of (one ∷ ubers) first there = let here : one ≡ first = cc in (0, omega arith, here)

-- An uberblock stands on the device, or none does.
stand_on_unless_none : (ubers : List RingUber) (device : ℕ)
    → ((StandOn ubers device → ⊥) → ⊥) → StandOn ubers device
stand_on_unless_none ubers device not_none = ⊎_elim
    (λ (some : list_any on_it ubers ≡ true). let any = Any-from_list_any on_it ubers some in
    (any.0, any.1, any.2, any.3, eqb-true any.1.device device any.4))
    (λ (none : list_any on_it ubers ≡ false). absurd (not_none (λ any. false≢true
    (sym none ∙ list_any-from_Any on_it ubers
    (any.0, any.1, any.2, any.3, eq-eqb any.1.device device any.4)))))
    (cases_Bool (list_any on_it ubers))
  where
    on_it : RingUber → Bool
    on_it ring_uber = eqb ring_uber.device device

module _ (shape : Shape) (silent : ℕ) (image : Image) (all candidates : List RingUber) (entries : List IndexEntry)
    (first : RingUber) (is : slice_get candidates 0 ≡ Some first)
    (shown : AreShown shape silent image (read_devices shape) all)
    (newest : AreNewest shape silent image first.uber.pool candidates entries) where
  -- Each candidate is of the first one's group, and on no lower device.
  after_first : (ring_uber : RingUber) → Contains candidates ring_uber
      → (first.uber.group ≡ ring_uber.uber.group) × (first.device ≤ ring_uber.device)
  after_first ring_uber listed = All-contains
      (λ (c : RingUber). (first.uber.group ≡ c.uber.group) × (first.device ≤ c.device)) candidates ring_uber
      (of_one_group candidates first is newest.order) listed

  first_listed : Contains candidates first
  first_listed = first_of candidates first is

  sound : (ring_uber : RingUber) → Contains candidates ring_uber
      → (has_device silent ring_uber.device ≡ false)
      × ((listed : List IndexEntry) × IsCandidate shape silent first.uber.pool image ring_uber.device ring_uber.uber listed)
  sound ring_uber listed = All-contains (λ (c : RingUber). (has_device silent c.device ≡ false)
      × ((listed : List IndexEntry) × IsCandidate shape silent first.uber.pool image c.device c.uber listed)) candidates ring_uber
      newest.each listed

  -- A candidate of that group is one of them.
  of_group : (device : ℕ) (uber : Uber) (listed : List IndexEntry) → has_device silent device ≡ false
      → IsCandidate shape silent first.uber.pool image device uber listed → uber.group ≡ first.uber.group
      → Contains candidates (ring_uber_on device uber)
  of_group device uber listed works candidate level = ⊎_elim
      (λ (there : Contains candidates (ring_uber_on device uber)). there)
      (λ (above : (ring_uber : RingUber) × Contains candidates ring_uber × (uber.group < ring_uber.uber.group)).
      absurd (omega (arith, above.2, level, (after_first above.0 above.1).0)))
      (newest.every device uber listed works candidate)

  pub first_chosen : IsChosenPool shape silent image first.uber.pool
      → IsChosen shape silent image first.device first.uber entries
  first_chosen pool = record {
    pool = pool;
    reads = (sound first first_listed).0;
    candidate = newest.first first is;
    first = λ other later listed works candidate. ⊎_elim
        (λ (there : Contains candidates (ring_uber_on other later)). let after = after_first (ring_uber_on other later) there in
        inr (sym after.0, after.1))
        (λ (above : (ring_uber : RingUber) × Contains candidates ring_uber × (later.group < ring_uber.uber.group)).
        inl (omega (arith, above.2, (after_first above.0 above.1).0)))
        (newest.every other later listed works candidate);
  }

  any_of : (P : RingUber → Type 0) (list : List RingUber) (ring_uber : RingUber) → Contains list ring_uber → P ring_uber → Any P list
  any_of P list ring_uber (k, low, there) has = (k, ring_uber, low, there, has)

  -- An uberblock that stands on a device is shown there.
  shows_on : (device : ℕ) (ring_uber : RingUber) → Contains all ring_uber → ring_uber.device ≡ device
      → Shows shape image device ring_uber.uber
  shows_on device ring_uber listed is = subst (λ d. Shows shape image d ring_uber.uber) is
      (All-contains (λ (c : RingUber). Shows shape image c.device c.uber) all ring_uber shown.each listed)

  on_device : (device : ℕ) → ShowPool all first.uber.pool device
      → (uber : Uber) × Shows shape image device uber × (uber.pool ≡ first.uber.pool)
  on_device device any = (any.1.uber, shows_on device any.1 (any.0, any.2, any.3) any.4.0, any.4.1)

  -- What is out by the lists is out at the opening,
  out_by : (taken : ℕ) → AreTaken shape silent image (read_devices shape) taken → (device : ℕ)
      → IsOutBy shape.devices silent taken all candidates first.uber device
      → IsListedOut shape silent image first.uber device ⊎ ((has_device silent device ≡ true)
      ⊎ ((shape.devices ≤ device) ⊎ (IsBlank shape image first.uber device
      ⊎ IsLeftBehind shape image first.uber device)))
  out_by taken marks device (inl (k, ring_uber, low, there, out)) =
      let listed : Contains candidates ring_uber = (k, low, there) in
      let good = sound ring_uber listed in inl (record {
        other = ring_uber.device;
        reads = good.0;
        twin = ring_uber.uber;
        entries = good.1.0;
        candidate = good.1.1;
        group = sym (after_first ring_uber listed).0;
        out = out;
      })
  out_by taken marks device (inr (inl quiet)) = inr (inl quiet)
  out_by taken marks device (inr (inr (inl none))) = inr (inr (inl none))
  out_by taken marks device (inr (inr (inr (inl (nothing, old))))) = ⊎_elim
      (λ quiet. inr (inl quiet))
      (λ works. inr (inr (inr (inl (record {
        none = λ other shows of_pool. nothing (any_of
            (λ (ring_uber : RingUber). (ring_uber.device ≡ device) × (ring_uber.uber.pool ≡ first.uber.pool)) all (ring_uber_on device other)
            (shown.every device other shows.device_in works shows) (refl, of_pool));
        taken_if_new = λ none same. marks.each device (old (none, same));
      })))))
      (cases_Bool (has_device silent device))
  out_by taken marks device (inr (inr (inr (inr (some, none_near))))) = ⊎_elim
      (λ quiet. inr (inl quiet))
      (λ works.
      let at = on_device device some in
      inr (inr (inr (inr (record {
        shown = at.0;
        shows = at.1;
        pool_is = at.2;
        behind = λ other shows of_pool. ⊎_elim (λ below. below)
            (λ near. absurd (none_near (any_of
            (λ (ring_uber : RingUber). (ring_uber.device ≡ device) × ((ring_uber.uber.pool ≡ first.uber.pool)
            × (first.uber.group ≤ ring_uber.uber.group + 2))) all (ring_uber_on device other)
            (shown.every device other shows.device_in works shows) (refl, (of_pool, near)))))
            (cases_lt (other.group + 2) first.uber.group);
      })))))
      (cases_Bool (has_device silent device))

  -- and what is out then is out by the lists.
  by_out : (taken : ℕ) → AreTaken shape silent image (read_devices shape) taken → (device : ℕ)
      → IsListedOut shape silent image first.uber device ⊎ ((has_device silent device ≡ true)
      ⊎ ((shape.devices ≤ device) ⊎ (IsBlank shape image first.uber device
      ⊎ IsLeftBehind shape image first.uber device)))
      → IsOutBy shape.devices silent taken all candidates first.uber device
  by_out taken marks device (inl listed) = inl (any_of (λ (ring_uber : RingUber). has_device ring_uber.uber.out device ≡ true) candidates
      (ring_uber_on listed.other listed.twin)
      (of_group listed.other listed.twin listed.entries listed.reads listed.candidate listed.group) listed.out)
  by_out taken marks device (inr (inl quiet)) = inr (inl quiet)
  by_out taken marks device (inr (inr (inl none))) = inr (inr (inl none))
  by_out taken marks device (inr (inr (inr (inl blank)))) = ⊎_elim
      (λ quiet. inr (inl quiet))
      (λ works. inr (inr (inr (inl (
        (λ (any : ShowPool all first.uber.pool device).
            let at = on_device device any in blank.none at.0 at.1 at.2),
        (λ (new : IsNewDevice first.uber.reflow device).
            let is = blank.taken_if_new new.0 new.1 in marks.every device is.device_in works is),
      )))))
      (cases_Bool (has_device silent device))
  by_out taken marks device (inr (inr (inr (inr left)))) = ⊎_elim
      (λ quiet. inr (inl quiet))
      (λ works. inr (inr (inr (inr (
        any_of (λ (ring_uber : RingUber). (ring_uber.device ≡ device) × (ring_uber.uber.pool ≡ first.uber.pool)) all
            (ring_uber_on device left.shown) (shown.every device left.shown left.shows.device_in works left.shows)
            (refl, left.pool_is),
        (λ (any : ShowNear all first.uber.pool first.uber.group device).
            let ring_uber = any.1 in
            let behind = left.behind ring_uber.uber (shows_on device ring_uber (any.0, any.2, any.3) any.4.0) any.4.1.0 in
            let near = any.4.1.1 in
            omega (arith, behind, near)),
      )))))
      (cases_Bool (has_device silent device))

  pub out_is : (taken : ℕ) → AreTaken shape silent image (read_devices shape) taken → (out : ℕ)
      → ((device : ℕ) → has_device out device ≡ true
      ↔ ((device < first.uber.reflow.to) × IsOutBy shape.devices silent taken all candidates first.uber device))
      → (device : ℕ) → has_device out device ≡ true ↔ IsOutAtOpening shape silent image first.uber device
  out_is taken marks out each device = (
    (λ has. let by = (each device).0 has in (by.0, out_by taken marks device by.1)),
    (λ at. (each device).1 (at.0, by_out taken marks device at.1)),
  )

  -- Of the devices in use those lack the uberblock on which no candidate stands.
  pub lacks_is : (out lacks : ℕ)
      → ((device : ℕ) → has_device out device ≡ true ↔ IsOutAtOpening shape silent image first.uber device)
      → ((device : ℕ) → has_device lacks device ≡ true
      ↔ ((device < first.uber.reflow.to) × ((has_device out device ≡ false) × (StandOn candidates device → ⊥))))
      → (device : ℕ) → has_device lacks device ≡ true
      ↔ ((device < first.uber.reflow.to) × (has_device out device ≡ false)
      × ((uber : Uber) (listed : List IndexEntry)
      → IsCandidate shape silent first.uber.pool image device uber listed → uber.group ≢ first.uber.group))
  lacks_is out lacks outs each device = (
    (λ has. let by = (each device).0 has in (
      by.0,
      by.1.0,
      λ uber listed candidate level. by.1.1 (any_of (λ (ring_uber : RingUber). ring_uber.device ≡ device) candidates (ring_uber_on device uber)
          (of_group device uber listed (in_use by.0 by.1.0) candidate level) refl),
    )),
    (λ at. (each device).1 (
      at.0,
      (
        at.1,
        λ (any : StandOn candidates device).
            let listed : Contains candidates any.1 = (any.0, any.2, any.3) in
            let good = sound any.1 listed in
            at.2 any.1.uber good.1.0 (subst (λ d. IsCandidate shape silent first.uber.pool image d any.1.uber good.1.0) any.4 good.1.1)
            (sym (after_first any.1 listed).0),
      ),
    )),
  )
    where
      in_use : device < first.uber.reflow.to → has_device out device ≡ false → has_device silent device ≡ false
      in_use low not_out = ⊎_elim
          (λ quiet. absurd (false≢true (sym not_out ∙ (outs device).1 (low, inr (inl quiet)))))
          (λ works. works)
          (cases_Bool (has_device silent device))

  -- The others in use show it.
  pub shows_twin : (out lacks : ℕ)
      → ((device : ℕ) → has_device lacks device ≡ true
      ↔ ((device < first.uber.reflow.to) × ((has_device out device ≡ false) × (StandOn candidates device → ⊥))))
      → (device : ℕ) → device < first.uber.reflow.to → has_device out device ≡ false
      → has_device lacks device ≡ false
      → ShowsTwin shape silent image first.uber device
  shows_twin out lacks each device low used has =
      let any = stand_on_unless_none candidates device
      (λ none. false≢true (sym has ∙ (each device).1 (low, (used, none)))) in
      let listed : Contains candidates any.1 = (any.0, any.2, any.3) in
      let good = sound any.1 listed in (
        any.1.uber,
        good.1.0,
        subst (λ d. IsCandidate shape silent first.uber.pool image d any.1.uber good.1.0) any.4 good.1.1,
        sym (after_first any.1 listed).0,
      )
