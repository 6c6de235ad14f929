use Rattle.std.proofs.Common.{◌≡◌, [], ℕ, List, Result, Ok, Err, sym, subst, arith}
use Rattle.std.specs.Prelude.{All, Contains, IfErr, OnErr}
use Rattle.std.proofs.lemmas.Result.{IfOk-weaker}
use Rattle.core_state.specs.Shown.{read_devices}
use Rattle.core_open.specs.declared.finding.Found.{Found}
use Rattle.core_open.specs.declared.ring_uber.RingUber.{RingUber}
use Rattle.core_open.specs.declared.why.OpenWhy.{OpenWhy}
use Rattle.core_open.specs.RingUbers.{AreTaken}
use Rattle.core_open.specs.Finding.{IsFindCause, IsNothingFound}
use Rattle.core_open.specs.Holds.{shape_of}
use Rattle.core_open.proofs.Failures.{failed_since}
use Rattle.core_open.proofs.Givers.{first_given_before}
use Rattle.core_open.proofs.Settled.{chosen_after, find_cause, shown_after}
use Rattle.core_open.proofs.Taken.{taken_within}
use Rattle.core_open.proofs.Unchanged.{room_then}
use Rattle.core_open.proofs.finding.find.Goals as goal

pub conclude-requires-clause-listed : goal.conclude-requires-clause-listed
conclude-requires-clause-listed g c =
    subst (λ (list : List RingUber). All (Contains list) c.in_ok-candidates.candidates.ubers.items)
    (sym c.in_ok-candidates.ensures.ubers) c.in_ok-candidates.ensures.listed

pub returns-clause-found : goal.returns-clause-found
returns-clause-found g c =
    let old = g.B.Bank.disk c.args.bank.now in
    let mid = g.B.Bank.disk c.read_rings.new.bank in
    let rings = c.in_ok-rings.ensures in
    let choice = c.in_ok-candidates.ensures in
    IfOk-weaker c.conclude.result _ _
    (λ found told image holds. told (shape_of old) image
    (omega (arith, c.devices.ensures, rings.unchanged.goes_on.later.devices, choice.unchanged.goes_on.later.devices))
    (shown_after old mid rings.unchanged c.in_ok-rings.rings.silent c.choose_anew.new.rings.silent choice.within
    c.in_ok-rings.rings.ubers.items rings.shown c.choose_anew.new.rings.ubers.items choice.ubers image holds)
    (subst (λ (taken : ℕ). AreTaken (shape_of old) c.choose_anew.new.rings.silent image (read_devices (shape_of old)) taken)
    (sym choice.taken)
    (taken_within (shape_of old) c.in_ok-rings.rings.silent c.choose_anew.new.rings.silent image (read_devices (shape_of old))
    (read_devices (shape_of old)) c.in_ok-rings.rings.taken choice.within (omega arith) (rings.taken image holds)))
    (chosen_after old mid rings.unchanged c.in_ok-rings.rings.silent c.choose_anew.new.rings.silent choice.within
    c.in_ok-rings.rings.ubers.items rings.shown c.in_ok-candidates.candidates.ubers.items c.in_ok-candidates.candidates.entries.items
    choice.chosen image holds))
    c.conclude.ensures.found

pub returns-clause-fits : goal.returns-clause-fits
returns-clause-fits g c =
    let rings = c.in_ok-rings.ensures in
    let choice = c.in_ok-candidates.ensures in
    IfOk-weaker c.conclude.result _ _
    (λ found fits. fits (g.B.Bank.disk c.args.bank.now)
    (omega (arith, c.devices.ensures, rings.unchanged.goes_on.later.devices, choice.unchanged.goes_on.later.devices))
    (room_then c.in_ok-candidates.candidates.ubers.items rings.unchanged choice.room))
    c.conclude.ensures.fits

pub returns-clause-cause : goal.returns-clause-cause
returns-clause-cause g c = by c.conclude.result c.conclude.ensures.none c.conclude.ensures.cause
  where
    by : (result : Result Found OpenWhy) → OnErr result (c.in_ok-candidates.candidates.ubers.items ≡ [])
        → IfErr result (IsNothingFound c.choose_anew.new.rings.silent)
        → IfErr result (IsFindCause (g.B.Bank.disk c.args.bank.now) (g.B.Bank.disk c.choose_anew.new.bank))
    by (Ok found) none cause = tt
    by (Err why) none cause = find_cause (g.B.Bank.disk c.args.bank.now) (g.B.Bank.disk c.choose_anew.new.bank)
        c.choose_anew.new.rings.silent why cause
        (failed_since (g.B.Bank.disk c.args.bank.now) (g.B.Bank.disk c.read_rings.new.bank) (g.B.Bank.disk c.choose_anew.new.bank)
        c.in_ok-rings.rings.silent c.choose_anew.new.rings.silent c.in_ok-rings.ensures.silent c.in_ok-rings.ensures.unchanged
        c.in_ok-candidates.ensures.unchanged c.in_ok-candidates.ensures.silent)
        (λ image holds. (chosen_after (g.B.Bank.disk c.args.bank.now) (g.B.Bank.disk c.read_rings.new.bank) c.in_ok-rings.ensures.unchanged
        c.in_ok-rings.rings.silent c.choose_anew.new.rings.silent c.in_ok-candidates.ensures.within
        c.in_ok-rings.rings.ubers.items c.in_ok-rings.ensures.shown c.in_ok-candidates.candidates.ubers.items
        c.in_ok-candidates.candidates.entries.items c.in_ok-candidates.ensures.chosen image holds).none none)

pub returns-clause-given : goal.returns-clause-given
returns-clause-given g c =
    let candidates = c.in_ok-candidates.candidates in
    IfOk-weaker c.conclude.result _ _
    (λ found told. told (g.B.Bank.disk c.args.bank.now)
    (first_given_before (g.B.Bank.disk c.args.bank.now) (g.B.Bank.disk c.read_rings.new.bank) c.choose_anew.new.rings.silent
    candidates.ubers.items candidates.entries.items candidates.giver c.in_ok-rings.ensures.unchanged c.in_ok-candidates.ensures.given))
    c.conclude.ensures.given
