-- An opening brings the chosen group to devices, and then writes the uberblock that renews it.
use Rattle.std.proofs.Common.{◌≡◌, inr, ⊎_elim, ℕ, List, Result, sym, ◌∙◌, ap, subst}
use Rattle.std.specs.Prelude.{Contains}
use Rattle.bank_trait.specs.Disk.{Image, Disk, Unchanged}
use Rattle.uberblock_ring.specs.Devices.{IsWithin}
use Rattle.uberblock_ring.specs.Uberblock.{Uber}
use Rattle.core_state.specs.Map.{no_blocks}
use Rattle.core_state.specs.Shown.{Shape, Gives}
use Rattle.core_state.specs.Committing.{Point, point_of}
use Rattle.core_state.proofs.Calls.{true_false}
use Rattle.core_state.proofs.Frames.{Nowhere}
use Rattle.core_state.proofs.Fresh.{none_in}
use Rattle.core_commit.specs.declared.committing.TooManyOut.{TooManyOut}
use Rattle.core_commit.specs.Writing.{IsSpreadOf, WritesOnly}
use Rattle.core_commit.proofs.Writing.{writes_then, writes_more, was_uber, was_spread}
use Rattle.core_open.specs.declared.finding.Found.{Found}
use Rattle.core_open.specs.declared.why.OpenWhy.{OpenWhy}
use Rattle.core_open.specs.Finding.{IsFoundIn}
use Rattle.core_open.specs.Holds.{HoldsImage, shape_of}
use Rattle.core_open.specs.Opens.{HasRenewed, HasSpread}
use Rattle.core_open.specs.OpensFound.{WritesFound}
use Rattle.core_open.specs.Writes.{IsRenewal, WritesInOrder, every_device, renewed_by}
use Rattle.core_open.proofs.Others.{read_touches}
use Rattle.core_open.proofs.Unchanged.{unchanged_then, holds_then, shape_then}

-- Reads write nothing.
read_writes : (P : ℕ → ℕ → List ℕ → Type 0) {old new : Disk} → Unchanged old new → WritesOnly P old new
read_writes P {old = old} {new = new} same =
    let touched = read_touches Nowhere same in
    record {
      later = touched.later;
      crash = λ image left. let was = touched.crash image left in
          (was.0, was.1, λ d x not_p. was.2 d x (λ nowhere. nowhere));
      could = λ t d x bytes low high has. inr (subst (λ (l : List (List ℕ)). Contains l bytes)
          (touched.moments t low high d x (λ nowhere. nowhere)).1 has);
    }

module _ (found : Found) (old mid new : Disk) (same_found : Unchanged old mid)
    (found_in : (image : Image) → HoldsImage old image → IsFoundIn (shape_of old) image found)
    (out : ℕ) (result : Result Uber OpenWhy) (writes : WritesFound found mid new out result) where
  abbrev before : Point
  before = point_of writes.asked_out writes.asked

  abbrev IsFoundUber : ℕ → ℕ → ℕ → List ℕ → Type 0
  IsFoundUber = IsSpreadOf found.uber found.entries.items writes.lack_page found.lacks_uber

  -- What was written up to a moment, and from there on.
  pub in_order : (renewed : Uber) (at : Disk) → WritesOnly (IsFoundUber writes.asked_out) writes.asked at
      → renewed ≡ renewed_by found.uber renewed.out → WritesOnly (IsRenewal renewed found.out) at new
      → WritesInOrder old new found.silent renewed
  in_order renewed at brought renewed_is own = record {
    device = found.device;
    chosen = found.uber;
    entries = found.entries.items;
    choice = λ image holds. (found_in image holds).chosen;
    out = found.out;
    is_out = λ image holds. (found_in image holds).out no_blocks;
    lack_page = writes.lack_page;
    lacks_page = λ other lacks. record {
      none = λ image holds gives. (writes.lacking.lack other lacks).none image (holds_then same_found holds)
          (subst (λ (s : Shape). Gives s image found.uber found.entries.items other) (sym (shape_then same_found))
          gives);
    };
    lack_uber = found.lacks_uber;
    lacks_uber = λ image holds other lacks twin.
        (((found_in image holds).lacks_uber no_blocks other).0 lacks).2 twin.0 twin.1 twin.2 twin.3;
    mid = at;
    brought = writes_then (IsFoundUber found.out) (IsFoundUber found.out) (IsFoundUber found.out)
        (λ d x bytes wrote. wrote) (λ d x bytes wrote. wrote)
        (read_writes (IsFoundUber found.out) (unchanged_then same_found writes.same))
        (writes_more (IsFoundUber writes.asked_out) (IsFoundUber found.out)
        (was_spread found.uber found.entries.items writes.lack_page found.lacks_uber (point_of found.out writes.asked)
        before writes.stay) brought);
    renewed_is = renewed_is;
    renewal = own;
  }

  -- The uberblock of the new group alone is written where its page stands.
  renewal_writes : (renewed : Uber) (from to : Point) (ended : Result (Unit {0}) TooManyOut)
      → IsWithin found.out from.out
      → HasSpread renewed found.entries.items 0 every_device from to ended
      → WritesOnly (IsRenewal renewed found.out) from.disk to.disk
  renewal_writes renewed from to ended stay spread =
      writes_more (IsSpreadOf renewed found.entries.items 0 every_device from.out) (IsRenewal renewed found.out)
      (λ d x bytes wrote. ⊎_elim
      (λ own. was_uber renewed found.entries.items 0 every_device (point_of found.out from.disk) from stay d x bytes own)
      (λ page. absurd (true_false (sym page.lacks ∙ none_in d))) wrote) spread.writes

  -- An opening that came to its own group.
  pub renewed_in_order : (renewed : Uber) (ended : Result (Unit {0}) TooManyOut)
      → HasRenewed found.uber found.entries.items writes.lack_page found.lacks_uber before renewed
      (point_of out new) ended
      → WritesInOrder old new found.silent renewed
  renewed_in_order renewed ended ran =
      let out_is : renewed.out ≡ ran.mid.out = ap (λ (u : Uber). u.out) ran.renewed_is in
      in_order renewed ran.mid.disk ran.brought.writes
      (ran.renewed_is ∙ ap (λ (n : ℕ). renewed_by found.uber n) (sym out_is))
      (renewal_writes renewed ran.mid (point_of out new) ended
      (λ device was. ran.brought.gone.stay device (writes.stay device was)) ran.spread)
