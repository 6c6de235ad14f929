-- What one more call on record changes.
use Rattle.std.proofs.Common.{◌≡◌, ◌≢◌, ◌⊎◌, inl, inr, ℕ, zero, suc, get_or, ◌+◌, ◌<◌, ◌≤◌, List, [], ◌∷◌, ◌++◌, length}
use Rattle.std.proofs.Common.{take, Option, Some, None, Bool, true, false, refl, sym, ◌∙◌, ap, subst, arith}
use Rattle.std.proofs.Common.{length-append, slice_index, Ok, Err}
use Rattle.std.specs.Prelude.{◌&&◌, ◌==◌, if◌then◌else◌, IsSome, Contains, option_to_list}
use Rattle.std.proofs.lemmas.List.{take_all, take-append-le}
use Rattle.std.proofs.lemmas.Bool.Decides.{nat_tests}
use Rattle.bank_trait.specs.Causes.{FaultCounted, FailedOnce, NoneFailed}
use Rattle.bank_trait.specs.declared.Failed.{Failed}
use Rattle.bank_trait.specs.Disk.{Disk, Known, Continues, Other, Wrote, Synced}
use Rattle.bank_mem.specs.declared.record.Call.{Call}
use Rattle.bank_mem.specs.declared.record.Call.TheVariants.{Write, FailedWrite, Sync, Spoil}
use Rattle.bank_mem.specs.Record.{Shelf, content, Held, held_durably, put, handed, after, replay}
use Rattle.bank_mem.specs.Spoiled.{Spoiled}
use Rattle.bank_mem.specs.Sound.{LeadsTo}
use Rattle.bank_mem.specs.MemBank.{view}
use Rattle.bank_mem.specs.Laws.{in_list}
use Rattle.bank_mem.proofs.ReadsCould.{reads_could}

-- One more call is replayed after the others.
pub replay-append : (calls : List Call) (held : Held) (call : Call)
    → replay held (calls ++ call ∷ []) ≡ after (replay held calls) call
replay-append [] held call = refl
replay-append (c ∷ calls) held call = replay-append calls (after held c) call

pub put-same : (known : Known) (d x : ℕ) (value : Option (List ℕ)) → put known d x value d x ≡ value
put-same known d x value = grind (arith, nat_tests)

pub put-other : (known : Known) (d x : ℕ) (value : Option (List ℕ)) (e y : ℕ) → Other d x e y
    → put known d x value e y ≡ known e y
put-other known d x value e y (inl other) = grind (arith, nat_tests)
put-other known d x value e y (inr other) = grind (arith, nat_tests)

pub handed-same : (could : ℕ → ℕ → List (List ℕ)) (d x : ℕ) (bytes : List ℕ)
    → handed could d x bytes d x ≡ bytes ∷ could d x
handed-same could d x bytes = grind (arith, nat_tests)

pub handed-other : (could : ℕ → ℕ → List (List ℕ)) (d x : ℕ) (bytes : List ℕ) (e y : ℕ)
    → Other d x e y
    → handed could d x bytes e y ≡ could e y
handed-other could d x bytes e y (inl other) = grind (arith, nat_tests)
handed-other could d x bytes e y (inr other) = grind (arith, nat_tests)

-- The newest of some values, or one of the others.
newest : (bytes : List ℕ) (others : List (List ℕ)) (b : List ℕ) → Contains (bytes ∷ others) b
    → (b ≡ bytes) ⊎ Contains others b
newest bytes others b among = at among.0 among.1 among.2
  where
    at : (k : ℕ) → k < length (bytes ∷ others) → get_or (bytes ∷ others) k b ≡ b
        → (b ≡ bytes) ⊎ Contains others b
    at zero below is = inl (sym is)
    at (suc k) below is = inr (k, omega (arith, below), is)

read_at : (o : Option (List ℕ)) (b : List ℕ) → Contains (option_to_list o) b → o ≡ Some b
read_at None b among = absurd (omega (arith, among.1))
read_at (Some c) b among = at among.0 among.1 among.2
  where
    at : (k : ℕ) → k < 1 → get_or (c ∷ []) k b ≡ b → Some c ≡ Some b
    at zero below is = ap Some is
    at (suc k) below is = absurd (omega (arith, below))

-- What a sector could hold it still could, once it was handed more.
older : (bytes : List ℕ) (others : List (List ℕ)) (b : List ℕ) → Contains others b → Contains (bytes ∷ others) b
older bytes others b among = (suc among.0, omega (arith, among.1), among.2)

-- How a bank goes on with one more call on record.
record GoesOn (held : Held) (call : Call) (old new : Disk) : Type 0 where
  continues : Continues old new
  leaves_before : (d x : ℕ) → old.leaves old.clock d x ≡ held.stays d x
  leaves_now : (d x : ℕ) → new.leaves new.clock d x ≡ (after held call).stays d x
  could_before : (d x : ℕ) → old.could old.clock d x ≡ held.could d x
  could_now : (d x : ℕ) → new.could new.clock d x ≡ (after held call).could d x

module _ (sectors : ℕ) (first now new : Shelf) (calls later : List Call) (faults counts : List ℕ)
    (call : Call) (one_more : later ≡ calls ++ call ∷ []) (as_many : length new ≡ length now)
    (more : (d : ℕ) → slice_index faults d ≤ slice_index counts d)
    (told : (d x : ℕ) → IsSome (content now d x) → IsSome (content new d x)) where
  abbrev start : Held
  start = held_durably (content first)

  longer : length later ≡ length calls + 1
  longer = omega (arith, ap length one_more, length-append calls (call ∷ []))

  last : replay start (take (length later) later) ≡ after (replay start calls) call
  last = ap (replay start) (take_all (length later) later (omega arith) ∙ one_more)
      ∙ replay-append calls start call

  was : replay start (take (length calls) calls) ≡ replay start calls
  was = ap (replay start) (take_all (length calls) calls (omega arith))

  earlier : (t : ℕ) → t ≤ length calls → replay start (take t later) ≡ replay start (take t calls)
  earlier t le = ap (replay start)
      (ap (λ (l : List Call). take t l) one_more ∙ take-append-le t calls (call ∷ []) le)

  goes_on : GoesOn (replay start calls) call (view sectors first now calls faults)
      (view sectors first new later counts)
  goes_on = record {
    continues = record {
      later = record {
        devices = as_many;
        sectors = refl;
        faults = more;
        clock = omega (arith, longer);
        told = told;
        past = λ t le d x. (
          ap (λ (h : Held). h.stays d x) (earlier t le),
          ap (λ (h : Held). h.could d x) (earlier t le),
        );
      };
      present = λ t above below d x.
          let same : t ≡ length later = omega (arith, longer) in (
            ap (λ (k : ℕ). (replay start (take k later)).stays d x) same,
            ap (λ (k : ℕ). (replay start (take k later)).could d x) same,
          );
    };
    leaves_before = λ d x. ap (λ (h : Held). h.stays d x) was;
    leaves_now = λ d x. ap (λ (h : Held). h.stays d x) last;
    could_before = λ d x. ap (λ (h : Held). h.could d x) was;
    could_now = λ d x. ap (λ (h : Held). h.could d x) last;
  }

-- What was told stays told over a write.
put_told : (known : Known) (d x : ℕ) (bytes : List ℕ) (e y : ℕ) → IsSome (known e y)
    → IsSome (put known d x (Some bytes) e y)
put_told known d x bytes e y is = kept ((e == d) && (y == x)) (known e y) is
  where
    kept : (here : Bool) (o : Option (List ℕ)) → IsSome o → IsSome (if here then Some bytes else o)
    kept true o is = refl
    kept false o is = is

pub wrote : (sectors : ℕ) (first now new : Shelf) (calls later : List Call) (faults counts : List ℕ)
    (number d x : ℕ) (bytes : List ℕ)
    → later ≡ calls ++ Write number d x bytes ∷ [] → length new ≡ length now
    → ((e : ℕ) → slice_index faults e ≤ slice_index counts e)
    → NoneFailed (slice_index faults) (slice_index counts)
    → ((e y : ℕ) → content new e y ≡ put (content now) d x (Some bytes) e y)
    → Wrote (view sectors first now calls faults) (view sectors first new later counts) d x bytes
    (Ok tt)
wrote sectors first now new calls later faults counts number d x bytes one_more as_many more none held =
    let before = replay (held_durably (content first)) calls in
    let on = goes_on sectors first now new calls later faults counts (Write number d x bytes)
    one_more as_many more
    (λ e y is. subst IsSome (sym (held e y)) (put_told (content now) d x bytes e y is)) in
    record {
      goes_on = on.continues;
      failed = tt;
      once = tt;
      well = none;
      told = λ is. held d x ∙ put-same (content now) d x (Some bytes);
      torn = on.leaves_now d x ∙ put-same before.stays d x None;
      others_read = λ e y other. held e y ∙ put-other (content now) d x (Some bytes) e y other;
      others_leave = λ e y other.
          on.leaves_now e y ∙ put-other before.stays d x None e y other
          ∙ sym (on.leaves_before e y);
      could = λ b among. subst (λ (l : List (List ℕ)). (b ≡ bytes) ⊎ Contains l b)
          (sym (on.could_before d x))
          (newest bytes _ b (subst (λ (l : List (List ℕ)). Contains l b)
          (on.could_now d x ∙ handed-same before.could d x bytes) among));
      handed = λ is. subst (λ (l : List (List ℕ)). Contains l bytes)
          (sym (on.could_now d x ∙ handed-same before.could d x bytes)) (0, omega arith, refl);
      still_could = λ b among. subst (λ (l : List (List ℕ)). Contains l b)
          (sym (on.could_now d x ∙ handed-same before.could d x bytes))
          (older bytes _ b (subst (λ (l : List (List ℕ)). Contains l b) (on.could_before d x) among));
      others_could = λ e y other.
          on.could_now e y ∙ handed-other before.could d x bytes e y other
          ∙ sym (on.could_before e y);
    }

-- A write that fails and is on record as that.
pub write_torn : (sectors : ℕ) (first now : Shelf) (calls later : List Call)
    (faults counts : List ℕ) (number d x : ℕ) (bytes : List ℕ) (e : Failed)
    → later ≡ calls ++ FailedWrite number d x bytes ∷ []
    → ((e : ℕ) → slice_index faults e ≤ slice_index counts e)
    → FaultCounted (slice_index faults d) (slice_index counts d)
    → FailedOnce (slice_index faults) (slice_index counts) d
    → Wrote (view sectors first now calls faults) (view sectors first now later counts) d x bytes
    (Err e)
write_torn sectors first now calls later faults counts number d x bytes e one_more more rose once =
    let before = replay (held_durably (content first)) calls in
    let on = goes_on sectors first now now calls later faults counts
    (FailedWrite number d x bytes) one_more refl more (λ f y is. is) in
    record {
      goes_on = on.continues;
      failed = rose;
      once = once;
      well = tt;
      told = tt;
      torn = tt;
      others_read = λ f y other. refl;
      others_leave = λ f y other.
          on.leaves_now f y ∙ put-other before.stays d x None f y other
          ∙ sym (on.leaves_before f y);
      could = λ b among. subst (λ (l : List (List ℕ)). (b ≡ bytes) ⊎ Contains l b)
          (sym (on.could_before d x))
          (newest bytes _ b (subst (λ (l : List (List ℕ)). Contains l b)
          (on.could_now d x ∙ handed-same before.could d x bytes) among));
      handed = tt;
      still_could = λ b among. subst (λ (l : List (List ℕ)). Contains l b)
          (sym (on.could_now d x ∙ handed-same before.could d x bytes))
          (older bytes _ b (subst (λ (l : List (List ℕ)). Contains l b) (on.could_before d x) among));
      others_could = λ f y other.
          on.could_now f y ∙ handed-other before.could d x bytes f y other
          ∙ sym (on.could_before f y);
    }

pub synced : (sectors : ℕ) (first now : Shelf) (calls later : List Call) (faults counts : List ℕ)
    (number d : ℕ) → later ≡ calls ++ Sync number d ∷ []
    → ((e : ℕ) → slice_index faults e ≤ slice_index counts e)
    → NoneFailed (slice_index faults) (slice_index counts) → LeadsTo first calls now
    → Synced (view sectors first now calls faults) (view sectors first now later counts) d (Ok tt)
synced sectors first now calls later faults counts number d one_more more none leads =
    let before = replay (held_durably (content first)) calls in
    let call : Call = Sync number d in
    let on = goes_on sectors first now now calls later faults counts (Sync number d) one_more refl
    more (λ f y is. is) in
    let stays_here : (x : ℕ) → (after before call).stays d x ≡ before.reads d x =
    λ x. grind (arith, nat_tests) in
    let stays_elsewhere : (e x : ℕ) → e ≢ d → (after before call).stays e x ≡ before.stays e x =
    λ e x other. grind (arith, nat_tests) in
    let could_here : (x : ℕ) → (after before call).could d x ≡ option_to_list (before.reads d x) =
    λ x. grind (arith, nat_tests) in
    let could_elsewhere : (e x : ℕ) → e ≢ d → (after before call).could e x ≡ before.could e x =
    λ e x other. grind (arith, nat_tests) in
    record {
      goes_on = on.continues;
      failed = tt;
      once = tt;
      well = none;
      durable = λ x. on.leaves_now d x ∙ stays_here x ∙ leads d x;
      not_durable = tt;
      reads = λ x. refl;
      reads_certain = λ x bytes certain. refl;
      others_read = λ e x other. refl;
      others_leave = λ e x other.
          on.leaves_now e x ∙ stays_elsewhere e x other ∙ sym (on.leaves_before e x);
      could = λ x b among.
          let is : content now d x ≡ Some b = sym (leads d x)
          ∙ read_at (before.reads d x) b (subst (λ (l : List (List ℕ)). Contains l b)
          (on.could_now d x ∙ could_here x) among) in
          (is, reads_could sectors first now calls faults leads d x b is);
      kept = λ x b is among. subst (λ (l : List (List ℕ)). Contains l b) (sym (on.could_now d x ∙ could_here x))
          (in_list (before.reads d x) b (leads d x ∙ is));
      still_could = tt;
      others_could = λ e x other.
          on.could_now e x ∙ could_elsewhere e x other ∙ sym (on.could_before e x);
    }

-- Where the record leads after one more call.
replays_to : (first now new : Shelf) (calls later : List Call) (call : Call)
    → later ≡ calls ++ call ∷ []
    → ((e y : ℕ) → (after (replay (held_durably (content first)) calls) call).reads e y ≡ content new e y)
    → LeadsTo first later new
replays_to first now new calls later call one_more reads e y =
    ap (λ (l : List Call). (replay (held_durably (content first)) l).reads e y) one_more
    ∙ ap (λ (h : Held). h.reads e y) (replay-append calls (held_durably (content first)) call)
    ∙ reads e y

pub wrote_leads : (first now new : Shelf) (calls later : List Call) (number d x : ℕ)
    (bytes : List ℕ) → later ≡ calls ++ Write number d x bytes ∷ []
    → ((e y : ℕ) → content new e y ≡ put (content now) d x (Some bytes) e y)
    → LeadsTo first calls now
    → LeadsTo first later new
wrote_leads first now new calls later number d x bytes one_more held leads =
    replays_to first now new calls later (Write number d x bytes) one_more
    (λ e y.
    ap (λ (o : Option (List ℕ)). if (e == d) && (y == x) then Some bytes else o) (leads e y)
    ∙ sym (held e y))

pub torn_leads : (first now : Shelf) (calls later : List Call) (number d x : ℕ) (bytes : List ℕ)
    → later ≡ calls ++ FailedWrite number d x bytes ∷ [] → LeadsTo first calls now
    → LeadsTo first later now
torn_leads first now calls later number d x bytes one_more leads =
    replays_to first now now calls later (FailedWrite number d x bytes) one_more leads

pub synced_leads : (first now : Shelf) (calls later : List Call) (number d : ℕ)
    → later ≡ calls ++ Sync number d ∷ [] → LeadsTo first calls now
    → LeadsTo first later now
synced_leads first now calls later number d one_more leads =
    replays_to first now now calls later (Sync number d) one_more leads

-- A sector that is spoiled.
spoiled : (sectors : ℕ) (first now new : Shelf) (calls later : List Call) (faults : List ℕ)
    (number d x : ℕ) (bytes : List ℕ)
    → later ≡ calls ++ Spoil number d x bytes ∷ [] → length new ≡ length now
    → ((e y : ℕ) → content new e y ≡ put (content now) d x (Some bytes) e y)
    → Spoiled (view sectors first now calls faults) (view sectors first new later faults) d x bytes
spoiled sectors first now new calls later faults number d x bytes one_more as_many held =
    let on = goes_on sectors first now new calls later faults faults (Spoil number d x bytes)
    one_more as_many (λ e. omega arith)
    (λ e y is. subst IsSome (sym (held e y)) (put_told (content now) d x bytes e y is)) in
    record {
      later = on.continues.later;
      reads = held;
      leaves = λ e y.
          on.leaves_now e y
          ∙ ap (λ (o : Option (List ℕ)). if (e == d) && (y == x) then Some bytes else o)
          (sym (on.leaves_before e y));
      could = λ e y.
          on.could_now e y
          ∙ ap (λ (l : List (List ℕ)). if (e == d) && (y == x) then bytes ∷ [] else l)
          (sym (on.could_before e y));
    }

-- The same of bytes under another name.
pub spoiled_with : (sectors : ℕ) (first now new : Shelf) (calls later : List Call)
    (faults : List ℕ) (number d x : ℕ) (bytes wanted : List ℕ) → bytes ≡ wanted
    → later ≡ calls ++ Spoil number d x bytes ∷ [] → length new ≡ length now
    → ((e y : ℕ) → content new e y ≡ put (content now) d x (Some bytes) e y)
    → Spoiled (view sectors first now calls faults) (view sectors first new later faults) d x wanted
spoiled_with sectors first now new calls later faults number d x bytes wanted same one_more as_many held =
    subst (λ (b : List ℕ). Spoiled (view sectors first now calls faults)
    (view sectors first new later faults) d x b) same
    (spoiled sectors first now new calls later faults number d x bytes one_more as_many held)

pub spoiled_leads : (first now new : Shelf) (calls later : List Call) (number d x : ℕ)
    (bytes : List ℕ) → later ≡ calls ++ Spoil number d x bytes ∷ []
    → ((e y : ℕ) → content new e y ≡ put (content now) d x (Some bytes) e y)
    → LeadsTo first calls now
    → LeadsTo first later new
spoiled_leads first now new calls later number d x bytes one_more held leads =
    replays_to first now new calls later (Spoil number d x bytes) one_more
    (λ e y.
    ap (λ (o : Option (List ℕ)). if (e == d) && (y == x) then Some bytes else o) (leads e y)
    ∙ sym (held e y))

-- A call that was not counted as a failure, and is not on record, changes nothing.
pub same_view : (sectors : ℕ) (first now : Shelf) (calls : List Call) (faults counts : List ℕ)
    → NoneFailed (slice_index faults) (slice_index counts)
    → view sectors first now calls counts ≡ view sectors first now calls faults
same_view sectors first now calls faults counts none i = record {
  devices = length now;
  sectors = sectors;
  reads = content now;
  faults = λ e. none e i;
  clock = length calls;
  leaves = λ t. (replay (held_durably (content first)) (take t calls)).stays;
  could = λ t. (replay (held_durably (content first)) (take t calls)).could;
}

-- Counts of faults alone go up.
unmoved : (sectors : ℕ) (first now : Shelf) (calls : List Call) (faults counts : List ℕ)
    → ((e : ℕ) → slice_index faults e ≤ slice_index counts e)
    → Continues (view sectors first now calls faults) (view sectors first now calls counts)
unmoved sectors first now calls faults counts more = record {
  later = record {
    devices = refl;
    sectors = refl;
    faults = more;
    clock = omega arith;
    told = λ d x is. is;
    past = λ t le d x. (refl, refl);
  };
  present = λ t above below d x. absurd (omega arith);
}

-- A write that fails and is not on record, for want of memory.
pub write_failed : (sectors : ℕ) (first now : Shelf) (calls : List Call) (faults counts : List ℕ)
    (d x : ℕ) (bytes : List ℕ) (e : Failed)
    → ((e : ℕ) → slice_index faults e ≤ slice_index counts e)
    → FaultCounted (slice_index faults d) (slice_index counts d)
    → FailedOnce (slice_index faults) (slice_index counts) d
    → Wrote (view sectors first now calls faults) (view sectors first now calls counts) d x bytes
    (Err e)
write_failed sectors first now calls faults counts d x bytes e more rose once = record {
  goes_on = unmoved sectors first now calls faults counts more;
  failed = rose;
  once = once;
  well = tt;
  told = tt;
  torn = tt;
  others_read = λ f y other. refl;
  others_leave = λ f y other. refl;
  could = λ b among. inr among;
  handed = tt;
  still_could = λ b among. among;
  others_could = λ f y other. refl;
}

-- A write that fails and may be on record.
pub write_noted : (sectors : ℕ) (first now : Shelf) (calls later : List Call)
    (faults counts : List ℕ) (number d x : ℕ) (bytes : List ℕ) (e : Failed)
    → (later ≡ calls ++ FailedWrite number d x bytes ∷ []) ⊎ (later ≡ calls)
    → ((e : ℕ) → slice_index faults e ≤ slice_index counts e)
    → FaultCounted (slice_index faults d) (slice_index counts d)
    → FailedOnce (slice_index faults) (slice_index counts) d
    → Wrote (view sectors first now calls faults) (view sectors first now later counts) d x bytes
    (Err e)
write_noted sectors first now calls later faults counts number d x bytes e (inl noted) more rose once =
    write_torn sectors first now calls later faults counts number d x bytes e noted more rose once
write_noted sectors first now calls later faults counts number d x bytes e (inr same) more rose once =
    subst (λ (l : List Call). Wrote (view sectors first now calls faults)
    (view sectors first now l counts) d x bytes (Err e)) (sym same)
    (write_failed sectors first now calls faults counts d x bytes e more rose once)

pub noted_leads : (first now : Shelf) (calls later : List Call) (number d x : ℕ) (bytes : List ℕ)
    → (later ≡ calls ++ FailedWrite number d x bytes ∷ []) ⊎ (later ≡ calls)
    → LeadsTo first calls now
    → LeadsTo first later now
noted_leads first now calls later number d x bytes (inl noted) leads =
    torn_leads first now calls later number d x bytes noted leads
noted_leads first now calls later number d x bytes (inr same) leads =
    subst (λ (l : List Call). LeadsTo first l now) (sym same) leads
