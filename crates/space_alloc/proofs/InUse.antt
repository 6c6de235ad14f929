-- Which sectors are taken or held back.
use Rattle.std.proofs.Common.{◌≡◌, ◌⊎◌, ℕ, List, [], ◌∷◌, ◌++◌, Bool, true, false, map, refl, sym, ◌∙◌, ap, subst, inl}
use Rattle.std.proofs.Common.{inr, ⊎_elim, append_assoc}
use Rattle.std.specs.Prelude.{Contains, cond, filter, nat_lt}
use Rattle.std.proofs.lemmas.List.{append-nil, map-append}
use Rattle.std.proofs.lemmas.List.Elements.{Contains-append_cases, Contains-append_left, Contains-append_right}
use Rattle.range_locks.proofs.Lists.{first_listed, listed_cases, none_listed, rest_listed}
use Rattle.space_alloc.specs.declared.entry.Entry.{Entry}
use Rattle.space_alloc.specs.declared.held.HeldEntry.{HeldEntry}
use Rattle.space_alloc.specs.Space.{Gains, HeldRun, IsHeldBack, IsIn, IsTaken, after_group}
use Rattle.space_alloc.specs.Entries.{entries_held, held_run_of, in_use, is_left, run_of_entry, space_of}

-- What a list of images has is one of them.
pub image_listed : {X Y : Type 0} (f : X → Y) (xs : List X) (y : Y) → Contains (map f xs) y → (x : X) × Contains xs x × (f x ≡ y)
image_listed f [] y listed = absurd (none_listed y listed)
image_listed f (x ∷ xs) y listed =
    ⊎_elim (λ same. (x, first_listed x xs, same))
    (λ rest. let found = image_listed f xs y rest in (found.0, rest_listed x found.0 xs found.1, found.2))
    (listed_cases (f x) y (map f xs) listed)

pub listed_image : {X Y : Type 0} (f : X → Y) (xs : List X) (x : X) → Contains xs x → Contains (map f xs) (f x)
listed_image f [] x listed = absurd (none_listed x listed)
listed_image f (first ∷ xs) x listed =
    ⊎_elim (λ same. subst (λ y. Contains (f first ∷ map f xs) (f y)) same (first_listed (f first) (map f xs)))
    (λ rest. rest_listed (f first) (f x) (map f xs) (listed_image f xs x rest))
    (listed_cases first x xs listed)

-- A list that gains an item has its image too.
pub gains_image : {X Y : Type 0} (f : X → Y) (old new : List X) (x : X) → Gains old new x → Gains (map f old) (map f new) (f x)
gains_image f old new x gains = record {
  before = map f gains.before;
  after = map f gains.after;
  was = ap (map f) gains.was ∙ map-append f gains.before gains.after;
  is = ap (map f) gains.is ∙ map-append f gains.before (x ∷ gains.after);
}

pub pushed_gains : {X : Type 0} (old new : List X) (x : X) → new ≡ old ++ x ∷ [] → Gains old new x
pushed_gains old new x pushed = record { before = old; after = []; was = sym (append-nil old); is = pushed }

-- A run that is taken, or is not any more, is in use, or is not.
pub taken_gains : (old new : List Entry) (held : List HeldEntry) (entry : Entry) → Gains old new entry → Gains (in_use old held) (in_use new held) entry
taken_gains old new held entry gains = record {
  before = gains.before;
  after = gains.after ++ entries_held held;
  was = ap (λ (l : List Entry). l ++ entries_held held) gains.was ∙ append_assoc gains.before gains.after (entries_held held);
  is = ap (λ (l : List Entry). l ++ entries_held held) gains.is ∙ append_assoc gains.before (entry ∷ gains.after) (entries_held held);
}

-- So is one that is held back.
pub held_gains : (taken : List Entry) (old new : List HeldEntry) (run : HeldEntry) → Gains old new run
    → Gains (in_use taken old) (in_use taken new) run.entry
held_gains taken old new run gains =
    let images = gains_image (λ (r : HeldEntry). r.entry) old new run gains in
    record {
      before = taken ++ images.before;
      after = images.after;
      was = ap (λ (l : List Entry). taken ++ l) images.was ∙ sym (append_assoc taken images.before images.after);
      is = ap (λ (l : List Entry). taken ++ l) images.is ∙ sym (append_assoc taken images.before (run.entry ∷ images.after));
    }

-- The sector belongs to a run in use.
pub record Covers (entries : List Entry) (sector : ℕ) : Type 0 where
  pub entry : Entry
  pub listed : Contains entries entry
  pub inside : IsIn entry.start entry.len sector

module _ (capacity : ℕ) (taken : List Entry) (held : List HeldEntry) (sector : ℕ) where
  pub taken_covers : IsTaken (space_of capacity taken held) sector → Covers (in_use taken held) sector
  taken_covers (run, listed, inside) =
      let found = image_listed run_of_entry taken run listed in
      record {
        entry = found.0;
        listed = Contains-append_left taken (entries_held held) found.0 found.1;
        inside = subst (λ r. IsIn r.start r.len sector) (sym found.2) inside;
      }

  pub held_covers : IsHeldBack (space_of capacity taken held) sector → Covers (in_use taken held) sector
  held_covers (run, listed, inside) =
      let found = image_listed held_run_of held run listed in
      record {
        entry = found.0.entry;
        listed = Contains-append_right taken (entries_held held) found.0.entry (listed_image (λ (r : HeldEntry). r.entry) held found.0 found.1);
        inside = subst (λ r. IsIn r.start r.len sector) (sym found.2) inside;
      }

  -- Each sector of a run in use is taken or held back.
  pub covered_in_use : (entry : Entry) → Contains (in_use taken held) entry → IsIn entry.start entry.len sector
      → IsTaken (space_of capacity taken held) sector ⊎ IsHeldBack (space_of capacity taken held) sector
  covered_in_use entry listed inside =
      ⊎_elim (λ left. inl (run_of_entry entry, listed_image run_of_entry taken entry left, inside))
      (λ right. let found = image_listed (λ (r : HeldEntry). r.entry) held entry right in
      inr (held_run_of found.0, listed_image held_run_of held found.0 found.1, subst (λ (e : Entry). IsIn e.start e.len sector) (sym found.2) inside))
      (Contains-append_cases taken (entries_held held) entry listed)

held_of-filter : (group : ℕ) (held : List HeldEntry)
    → map held_run_of (filter (is_left group) held) ≡ filter (λ run. nat_lt group run.group) (map held_run_of held)
held_of-filter group [] = refl
held_of-filter group (run ∷ held) = by_test (nat_lt group run.until) (held_of-filter group held)
  where
    by_test : (left : Bool) → map held_run_of (filter (is_left group) held) ≡ filter (λ (r : HeldRun). nat_lt group r.group) (map held_run_of held)
        → map held_run_of (cond left (run ∷ filter (is_left group) held) (filter (is_left group) held))
        ≡ cond left (held_run_of run ∷ filter (λ (r : HeldRun). nat_lt group r.group) (map held_run_of held))
        (filter (λ (r : HeldRun). nat_lt group r.group) (map held_run_of held))
    by_test true rest = ap (λ (l : List HeldRun). held_run_of run ∷ l) rest
    by_test false rest = rest

-- What an answered group leaves.
pub space_after : (capacity group : ℕ) (taken : List Entry) (held : List HeldEntry)
    → space_of capacity taken (filter (is_left group) held) ≡ after_group (space_of capacity taken held) group
space_after capacity group taken held =
    λ i. record { capacity = capacity; taken = map run_of_entry taken; held = held_of-filter group held i }
