-- Which devices a group lists as out, by what is found on a bank after some reads.
use Rattle.std.proofs.Common.{◌≡◌, ℕ, refl, subst, arith, inl}
use Rattle.bank_trait.specs.Disk.{Image, Disk, Unchanged}
use Rattle.core_state.specs.Shown.{Shape}
use Rattle.core_state.specs.Choosing.{IsChosen, IsNotPool}
use Rattle.core_open.specs.declared.finding.Found.{Found}
use Rattle.core_open.specs.declared.why.OpenWhy.{OpenWhy}
use Rattle.core_open.specs.declared.why.OpenWhy.TheVariants.{NotPool, TooManyFailed, Limit, NoMemory}
use Rattle.core_open.specs.Failing.{HaveFailed}
use Rattle.core_open.specs.Finding.{IsFindCause, IsFoundIn}
use Rattle.core_open.specs.Holds.{HoldsImage, shape_of}
use Rattle.core_open.proofs.Failures.{none_failed}
use Rattle.core_open.proofs.Unchanged.{holds_then, shape_then, then_rose}
use Rattle.raidzx.specs.ForGood.{AreListedOut, ChooseNone, out_of_group}

module _ (old mid new : Disk) (same : Unchanged old mid) where
  pub failed_before : (devices : ℕ) → HaveFailed mid new devices → HaveFailed old new devices
  failed_before devices failed = λ device has. let one = failed device has in
      (omega (arith, one.0, same.goes_on.later.devices), then_rose new device same one.1)

  -- What was found is what the devices that answered choose.
  pub found_before : (image : Image) (group : ℕ) (found : Found) (out : ℕ) → HoldsImage old image
      → ((held : Image) → HoldsImage mid held → IsFoundIn (shape_of mid) held found)
      → HaveFailed mid new found.silent → out ≡ out_of_group group found.uber → AreListedOut old new image group out
  found_before image group found out holds chosen failed is = inl (
    record {
      silent = found.silent;
      failed = failed_before found.silent failed;
      choice = record {
        device = found.device;
        uber = found.uber;
        entries = found.entries.items;
        chosen = subst (λ (shape : Shape). IsChosen shape found.silent image found.device found.uber found.entries.items)
            (shape_then same) (chosen image (holds_then same holds)).chosen;
      };
    },
    is,
  )

  not_pool_before : (image : Image) (silent : ℕ) → HoldsImage old image
      → ((held : Image) → HoldsImage mid held → IsNotPool (shape_of mid) silent held)
      → IsNotPool (shape_of old) silent image
  not_pool_before image silent holds none = subst (λ (shape : Shape). IsNotPool shape silent image)
      (shape_then same) (none image (holds_then same holds))

  -- Where nothing was found, and not for lack of memory, they choose none.
  pub none_before : (image : Image) (why : OpenWhy) → HoldsImage old image → (why ≡ NoMemory → ⊥)
      → IsFindCause mid new why → ChooseNone old new image
  none_before image NotPool holds memory cause = record {
    silent = 0;
    failed = none_failed old new;
    none = not_pool_before image 0 holds cause;
  }
  none_before image (TooManyFailed out) holds memory cause = record {
    silent = out;
    failed = failed_before out cause.1;
    none = not_pool_before image out holds cause.2;
  }
  none_before image (Limit group) holds memory cause = absurd cause
  none_before image NoMemory holds memory cause = absurd (memory refl)
