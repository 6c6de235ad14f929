-- A run goes on in the bank that another one left, without a power cut between.
use Rattle.std.proofs.Common.{◌≡◌, ℕ, ◌++◌, List, ◌∷◌, Some, refl, sym, ◌∙◌, subst, arith}
use Rattle.std.specs.Prelude.{Contains}
use Rattle.std.proofs.lemmas.List.Elements.{Contains-append_left, Contains-append_right}
use Rattle.bank_trait.specs.Disk.{Disk}
use Rattle.bank_trait.specs.Regions.{Tells}
use Rattle.reconstruct.specs.Lost.{AreBytes}
use Rattle.core_state.specs.Keeps.{HaveParity, Kept, NoneExcepted, Setting}
use Rattle.core_state.specs.Moment.{KeepsRow}
use Rattle.core_open.specs.Holds.{HoldsNoOther, shape_of}
use Rattle.core_open.specs.Opening.{MayBegin}

-- A bank whose images keep a row of some groups now may be opened with that row: it tells what it holds, and
-- the groups have one parity and hold bytes.
module _ (setting : Setting) (groups : List Kept) (parity : ℕ) (disk : Disk)
    (kept : KeepsRow setting groups disk disk.clock)
    (shape : setting.shape ≡ shape_of disk) (excepted : NoneExcepted groups) (tells : Tells disk)
    (no_other : HoldsNoOther setting groups disk)
    (parities : HaveParity parity groups)
    (bytes : (group : Kept) (id : ℕ) (content : List ℕ) → Contains groups group
    → group.map id ≡ Some content → AreBytes content) where
  among : (group : Kept) → Contains (kept.first ∷ kept.later) group → Contains groups group
  among group listed = subst (λ (l : List Kept). Contains l group) (sym kept.row)
      (Contains-append_left (kept.before ++ kept.first ∷ kept.later) kept.after group
      (Contains-append_right kept.before (kept.first ∷ kept.later) group listed))

  pub goes_on_begins : MayBegin (record setting { reach = kept.reach }) kept.first kept.later disk
  goes_on_begins = record {
    may = record {
      keeps = kept.keeps;
      shape = shape;
      tells = tells;
      no_other = record {
        ubers = no_other.ubers;
        pages = λ image holds. record {
          page = λ group shower giver uber listed shows inside pool_is number digest.
              (no_other.pages image holds).page group shower giver uber (among group listed) shows inside pool_is number
              digest;
        };
      };
      parity = λ group listed. parities group (among group listed)
          ∙ sym (parities kept.first (among kept.first (0, omega arith, refl)));
    };
    excepted = λ group listed. excepted group (among group listed);
    bytes = λ group id content listed is. bytes group id content (among group listed) is;
  }
