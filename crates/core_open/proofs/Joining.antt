-- A group that joins others.
use Rattle.std.proofs.Common.{◌≡◌, ℕ, ◌<◌, List, [], ◌∷◌, ◌++◌, sym, ◌∙◌, ap, subst, append_assoc}
use Rattle.std.specs.Prelude.{Contains, AllPairs}
use Rattle.bank_trait.specs.Disk.{Disk}
use Rattle.uberblock_ring.specs.Uberblock.{Uber}
use Rattle.uberblock_ring.specs.Valid.{AreAlike}
use Rattle.core_state.specs.Keeps.{Kept, Setting}
use Rattle.core_state.specs.Certain.{IsCertain}
use Rattle.core_state.specs.Moment.{KeepsRow, KeepsSince}
use Rattle.core_state.proofs.Listed.{contains_head}
use Rattle.core_state.proofs.Reader.{same_group}

-- What images keep of some groups they keep of more.
pub since_longer : (setting : Setting) (groups more : List Kept) (time : ℕ) (disk : Disk)
    → KeepsSince setting groups time disk
    → KeepsSince setting (groups ++ more) time disk
since_longer setting groups more time disk since = record {
  each = λ moment from until. longer moment (since.each moment from until);
}
  where
    longer : (moment : ℕ) → KeepsRow setting groups disk moment → KeepsRow setting (groups ++ more) disk moment
    longer moment some = record {
      before = some.before;
      first = some.first;
      later = some.later;
      after = some.after ++ more;
      row = ap (λ (g : List Kept). g ++ more) some.row
          ∙ append_assoc (some.before ++ (some.first ∷ some.later)) some.after more;
      reach = some.reach;
      no_further = some.no_further;
      keeps = some.keeps;
    }

-- What is certain of one of a row is certain of it alone.
pub certain_alone : (setting : Setting) (disk : Disk) (groups : List Kept) (uber : Uber) (next : Kept)
    → AllPairs (λ one other. one.uber.group < other.uber.group) groups → Contains groups next
    → AreAlike uber next.uber → IsCertain setting disk groups uber
    → IsCertain setting disk (next ∷ []) uber
certain_alone setting disk groups uber next ascending listed alike known = record {
  kept = known.kept;
  listed = subst (λ (k : Kept). Contains (next ∷ []) k) (sym same) (contains_head next []);
  alike = known.alike;
  listing = known.listing;
  indexes = known.indexes;
  cells = known.cells;
  out = known.out;
}
  where
    same : known.kept ≡ next
    same = same_group groups known.kept next ascending known.listed listed
        (sym (ap (λ (u : Uber). u.group) known.alike) ∙ ap (λ (u : Uber). u.group) alike)
