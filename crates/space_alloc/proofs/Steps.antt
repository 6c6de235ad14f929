-- What a step does to the space, from what it does to its runs.
use Rattle.std.proofs.Common.{◌≡◌, ℕ, ◌<◌, ◌^◌, List, [], refl, sym, ◌∙◌, ap, subst, arith}
use Rattle.std.specs.Prelude.{Contains, filter}
use Rattle.range_locks.specs.declared.hold.Hold.{Hold}
use Rattle.range_locks.proofs.Lists.{none_listed}
use Rattle.space_alloc.specs.declared.entry.Entry.{Entry}
use Rattle.space_alloc.specs.declared.held.HeldEntry.{HeldEntry}
use Rattle.space_alloc.specs.Space.{Gains, Run, Space, IsFreeRun, IsTaking, after_group}
use Rattle.space_alloc.specs.Entries.{in_use, is_left, run_of_entry, space_of, AreEntriesApart, IsEntry}
use Rattle.space_alloc.proofs.InUse.{gains_image, image_listed, space_after}
use Rattle.space_alloc.proofs.Free.{free_within, free_apart}
use Rattle.space_alloc.proofs.Kept.{IsApart}

-- A taken run of the space is one of its entries.
pub is_listed : (space : Space) (capacity : ℕ) (taken : List Entry) (held : List HeldEntry) (start len : ℕ) → space_of capacity taken held ≡ space
    → (let run : Run = record { start = start; len = len } in Contains space.taken run)
    → (let entry : Entry = record { start = start; len = len } in Contains taken entry)
is_listed space capacity taken held start len view listed =
    let run : Run = record { start = start; len = len } in
    let found = image_listed run_of_entry taken run (subst (λ (s : Space). Contains s.taken run) (sym view) listed) in
    let same : found.0 ≡ record { start = start; len = len } = ap (λ (r : Run). entry_of r) found.2 in
    subst (λ (e : Entry). Contains taken e) same found.1
  where
    entry_of : Run → Entry
    entry_of run = record { start = run.start; len = run.len }

-- A free run has sectors, and no run in use meets it.
pub is_apart : (space : Space) (capacity : ℕ) (taken : List Entry) (held : List HeldEntry) (holds : List Hold) (start len : ℕ)
    → space_of capacity taken held ≡ space → capacity < 2 ^ 64 → 0 < len → AreEntriesApart (in_use taken held) → IsFreeRun space holds start len
    → (let entry : Entry = record { start = start; len = len } in IsEntry entry × IsApart (in_use taken held) entry)
is_apart space capacity taken held holds start len view small long are free =
    let here : IsFreeRun (space_of capacity taken held) holds start len = subst (λ (s : Space). IsFreeRun s holds start len) (sym view) free in (
      record { some = long; fits = omega (arith, free_within taken held holds capacity len start long here, small) },
      free_apart taken held holds capacity len start long are here,
    )

pub takes : (space : Space) (capacity : ℕ) (old new : List Entry) (held : List HeldEntry) (start len : ℕ) → space_of capacity old held ≡ space
    → Gains old new (record { start = start; len = len }) → IsTaking space (space_of capacity new held) start len
takes space capacity old new held start len view gains =
    subst (λ (s : Space). IsTaking s (space_of capacity new held) start len) view (record {
      capacity = refl;
      taken = gains_image run_of_entry old new _ gains;
      held = refl;
    })

pub frees : (space : Space) (capacity group : ℕ) (taken : List Entry) (old new : List HeldEntry) → space_of capacity taken old ≡ space
    → new ≡ filter (is_left group) old → space_of capacity taken new ≡ after_group space group
frees space capacity group taken old new view left =
    ap (λ (l : List HeldEntry). space_of capacity taken l) left ∙ space_after capacity group taken old ∙ ap (λ (s : Space). after_group s group) view

-- What is free beside the holds is free.
pub free_of_holds : (space : Space) (holds : List Hold) (start len : ℕ) → IsFreeRun space holds start len → IsFreeRun space [] start len
free_of_holds space holds start len free sector inside = record {
  below = (free sector inside).below;
  untaken = (free sector inside).untaken;
  not_held = (free sector inside).not_held;
  not_shared = λ shared. absurd (none_listed shared.0 shared.1);
}
