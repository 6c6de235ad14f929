-- A pool that was just made may be opened.
use Rattle.std.proofs.Common.{◌≡◌, List, [], ◌∷◌, ℕ, Some, sym, ◌∙◌, ap, subst}
use Rattle.bank_trait.specs.Disk.{Later}
use Rattle.bank_trait.specs.Regions.{Tells}
use Rattle.bank_trait.proofs.Touches.{tells_later}
use Rattle.core_state.specs.Collision.{BankKeeps}
use Rattle.core_state.specs.Create.{first_kept}
use Rattle.core_state.specs.Keeps.{Kept, Setting}
use Rattle.core_open.specs.Holds.{HoldsNoOther}
use Rattle.core_open.specs.Opening.{MayBegin}
use Rattle.journal_law.proofs.Moments.{contains_one}
use Rattle.raidzx_top.specs.Call.{TopCall, shape_of}
use Rattle.raidzx_top.specs.Promises.{IsNewSetting}

-- The bank meets what a run asks for: it keeps the pool's first group, without blocks. As for each
-- opening, no uberblock or page on the bank may be another's by chance.
module _ (call : TopCall) (parity width id : ℕ) (later : Later call.old call.new) (tells : Tells call.old)
    (setting : Setting) (new : IsNewSetting call parity width id setting) where
  abbrev first : Kept
  first = first_kept id parity width call.old.sectors

  shape : setting.shape ≡ shape_of call.new
  shape = new.shape ∙ ap (λ (n : ℕ). record { devices = n; sectors = call.old.sectors }) (sym later.devices)
      ∙ ap (λ (n : ℕ). record { devices = call.new.devices; sectors = n }) (sym later.sectors)

  pub new_begins : BankKeeps setting first [] call.new → HoldsNoOther setting (first ∷ []) call.new
      → MayBegin setting first [] call.new
  new_begins keeps no_other = record {
    may = record {
      keeps = keeps;
      shape = shape;
      tells = tells_later later tells;
      no_other = no_other;
      parity = λ kept listed. ap (λ (k : Kept). k.uber.parity) (contains_one first kept listed);
    };
    excepted = λ kept listed. ap (λ (k : Kept). k.excepted) (contains_one first kept listed);
    bytes = λ kept id content listed has. absurd (no_block id content
        (subst (λ (k : Kept). k.map id ≡ Some content) (contains_one first kept listed) has));
  }
    where
      no_block : (id : ℕ) (content : List ℕ) → first.map id ≡ Some content → ⊥
      no_block id content has = cc
