use Rattle.std.proofs.Common.{◌≡◌, ◌<◌, ℕ, List, Some, true, false, sym, subst}
use Rattle.std.specs.Prelude.{Contains, slice_get, ◌↔◌}
use Rattle.std.proofs.lemmas.List.Elements.{All-contains}
use Rattle.reflow_mark.specs.declared.reflow.Reflow.{Reflow}
use Rattle.uberblock_ring.specs.Devices.{has_device}
use Rattle.uberblock_ring.specs.Valid.{IsRightUber}
use Rattle.core_open.specs.declared.ring_uber.RingUber.{RingUber}
use Rattle.core_open.specs.Sets.{IsOutBy, StandOn}
use Rattle.core_open.proofs.Concluded.{first_chosen, first_of, lacks_is, out_is, shows_twin}
use Rattle.core_open.proofs.finding.conclude.Goals as goal

pub returns-clause-found : goal.returns-clause-found
returns-clause-found c = λ shape image same shown taken chosen.
    let silent = c.args.rings.now.silent in
    let all = c.args.rings.now.ubers.items in
    let candidates = c.args.candidates.ubers.items in
    let entries = c.args.candidates.entries.items in
    let first = c.in-Some.first.now in
    let there : slice_get candidates 0 ≡ Some first =
    subst (λ (list : List RingUber). slice_get list 0 ≡ Some first) c.deref.ensures.value (sym c.in-Some.ensures.value) in
    let parts = chosen.some first there in
    let outs = out_is shape silent image all candidates entries first there shown parts.1 c.args.rings.now.taken taken c.devices_out-out.result
    (subst (λ (devices : ℕ). (device : ℕ) → has_device c.devices_out-out.result device ≡ true
    ↔ ((device < first.uber.reflow.to) × IsOutBy devices silent c.args.rings.now.taken all candidates first.uber device)) (sym same)
    (subst (λ (list : List RingUber). (device : ℕ) → has_device c.devices_out-out.result device ≡ true
    ↔ ((device < first.uber.reflow.to) × IsOutBy c.args.devices silent c.args.rings.now.taken all list first.uber device)) c.deref-2.ensures.value
    c.devices_out-out.ensures.each)) in
    let lacks =
    subst (λ (reflow : Reflow). (device : ℕ) → has_device c.devices_lacking-lacks_uber.result device ≡ true
    ↔ ((device < reflow.to) × ((has_device c.devices_out-out.result device ≡ false) × (StandOn candidates device → ⊥))))
    c.reflow.ensures.value
    (subst (λ (list : List RingUber). (device : ℕ) → has_device c.devices_lacking-lacks_uber.result device ≡ true
    ↔ ((device < c.reflow.result.to) × ((has_device c.devices_out-out.result device ≡ false) × (StandOn list device → ⊥))))
    c.deref-3.ensures.value c.devices_lacking-lacks_uber.ensures) in
    record {
      chosen = first_chosen shape silent image all candidates entries first there shown parts.1 parts.0;
      out = λ map. outs;
      lacks_uber = λ map. lacks_is shape silent image all candidates entries first there shown parts.1 c.devices_out-out.result
          c.devices_lacking-lacks_uber.result outs lacks;
      shows = shows_twin shape silent image all candidates entries first there shown parts.1 c.devices_out-out.result
          c.devices_lacking-lacks_uber.result lacks;
    }

pub returns-clause-right : goal.returns-clause-right
returns-clause-right c =
    let first = c.in-Some.first.now in
    let there : slice_get c.args.candidates.ubers.items 0 ≡ Some first =
    subst (λ (list : List RingUber). slice_get list 0 ≡ Some first) c.deref.ensures.value (sym c.in-Some.ensures.value) in
    (All-contains (λ (ring_uber : RingUber). (ring_uber.device < 16) × IsRightUber ring_uber.uber) c.args.rings.now.ubers.items first c.requires.right
    (All-contains (Contains c.args.rings.now.ubers.items) c.args.candidates.ubers.items first c.requires.listed (first_of _ first there))).1

pub returns-clause-given : goal.returns-clause-given
returns-clause-given c = λ disk given.
    let there : slice_get c.args.candidates.ubers.items 0 ≡ Some c.in-Some.first.now =
    subst (λ (list : List RingUber). slice_get list 0 ≡ Some c.in-Some.first.now) c.deref.ensures.value (sym c.in-Some.ensures.value) in
    given c.in-Some.first.now there
