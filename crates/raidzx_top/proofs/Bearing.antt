-- What a bank keeps where some devices may fail, it keeps where more of them may, as long as these are few.
use Rattle.std.proofs.Common.{◌≡◌, ℕ, ◌+◌, ◌-◌, ◌<◌, ◌≤◌, List, Bool, true, false, refl, sym, ◌∙◌, ap, subst, arith}
use Rattle.std.proofs.lemmas.Bool.{true≢false}
use Rattle.bank_trait.specs.Disk.{Image, Disk}
use Rattle.uberblock_ring.specs.Devices.{has_device, count_below, IsWithin}
use Rattle.uberblock_ring.specs.Uberblock.{Uber}
use Rattle.core_state.specs.Keeps.{Kept, Setting, Keeps, IsNotOutvoted}
use Rattle.core_state.proofs.Fresh.{count_grows, lacks_one}
use Rattle.core_state.proofs.Listed.{contains_head}
use Rattle.core_state.proofs.Reader.{shown_alike}
use Rattle.core_open.specs.Opening.{MayBegin}
use Rattle.raidzx_top.specs.Bearing.{CanBear, setting_with}

-- A device that may not fail still could not before.
still_works : (fewer more device : ℕ) → IsWithin fewer more → has_device more device ≡ false
    → has_device fewer device ≡ false
still_works fewer more device within works = by (has_device fewer device) refl
  where
    by : (b : Bool) → has_device fewer device ≡ b → has_device fewer device ≡ false
    by false is = is
    by true is = absurd (true≢false (sym (within device is) ∙ works))

keeps_with : (setting : Setting) (first : Kept) (later : List Kept) (failed : ℕ) (image : Image)
    → IsWithin setting.failed failed → count_below failed 16 ≤ first.uber.parity
    → IsNotOutvoted (setting_with setting failed) image
    → Keeps setting first later image → Keeps (setting_with setting failed) first later image
keeps_with setting first later failed image more few votes keeps = record {
  few = few;
  wide = keeps.wide;
  only = λ device uber above shows pool. let kept = keeps.only device uber above shows pool in record {
    kept = kept.kept;
    listed = kept.listed;
    alike = kept.alike;
    listing = kept.listing;
    whole = kept.whole;
    out = λ other has. more other (kept.out other has);
  };
  there = record {
    device = some.0;
    works = some.2;
    shown = keeps.there.each some.0 some.1 (works some.0 some.2);
    each = λ other below left. keeps.there.each other below (works other left);
    pages = λ other below left. keeps.there.pages other below (works other left);
  };
  ascending = keeps.ascending;
  further = keeps.further;
  widths = λ place kept low. let width = keeps.widths place kept low in
      record { least = width.least; most = width.most };
  inside = λ device below left. keeps.inside device below (works device left);
  own = λ device uber below left. keeps.own device uber below (works device left);
  votes = votes;
}
  where
    works : (device : ℕ) → has_device failed device ≡ false → has_device setting.failed device ≡ false
    works device left = still_works setting.failed failed device more left

    -- The pool has more devices than it has parities.
    enough : count_below failed first.uber.reflow.to < first.uber.reflow.to
    enough =
        let shown = keeps.there.shown in
        let right = shown.2.shows.valid.right in
        let alike = shown_alike setting first later image keeps.there.device shown.0 first keeps (contains_head first later)
        (omega arith) shown.2.shows shown.2.pool_is shown.1 in
        let to = ap (λ (u : Uber). u.reflow.to) alike in
        let from = ap (λ (u : Uber). u.reflow.from) alike in
        let parity = ap (λ (u : Uber). u.parity) alike in
        let low = right.widths.0 in
        let high = right.widths.1 in
        let all : first.uber.reflow.to + (16 - first.uber.reflow.to) ≡ 16 = omega (arith, high, to) in
        let grows = subst (λ (n : ℕ). count_below failed first.uber.reflow.to ≤ count_below failed n) all
        (count_grows failed first.uber.reflow.to (16 - first.uber.reflow.to)) in
        omega (arith, low, parity, from, to, few, grows)

    some : (device : ℕ) × (device < first.uber.reflow.to) × (has_device failed device ≡ false)
    some = lacks_one failed first.uber.reflow.to enough

-- So a run may begin there too: who bears what failed meets what is asked, also after the last device too many.
pub may_bear : (setting : Setting) (first : Kept) (later : List Kept) (disk : Disk) (silent borne failed : ℕ)
    → MayBegin setting first later disk → CanBear setting first disk silent borne failed
    → MayBegin (setting_with setting failed) first later disk
may_bear setting first later disk silent borne failed may bears = record {
  may = record {
    keeps = λ image might. keeps_with setting first later failed image bears.earlier bears.few
        (bears.votes image might) (may.may.keeps image might);
    shape = may.may.shape;
    tells = may.may.tells;
    no_other = record {
      ubers = may.may.no_other.ubers;
      pages = λ image holds. record {
        page = λ kept shower giver uber listed shows inside pool_is group digest.
            (may.may.no_other.pages image holds).page kept shower giver uber listed shows inside pool_is group digest;
      };
    };
    parity = may.may.parity;
  };
  excepted = may.excepted;
  bytes = may.bytes;
}
