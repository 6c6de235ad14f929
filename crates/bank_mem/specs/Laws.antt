-- The laws of a bank in memory: what is certain to stay is what is read, what is read is one of what
-- the sector could hold, and where bytes are certain it could hold no others. The second of them is not
-- asked of every bank.
use Rattle.std.specs.Prelude.{◌≡◌, ℕ, List, [], ◌∷◌, length, zero, suc, ◌<◌, take, Option, Some, None, Bool, true}
use Rattle.std.specs.Prelude.{false, ◌&&◌, ◌==◌, if◌then◌else◌, refl, Contains, option_to_list}
use Rattle.std.proofs.Common.{sym, ◌∙◌, ap, arith, get_or}
use Rattle.std.proofs.lemmas.List.{take_all}
use Rattle.bank_trait.specs.Disk.{Lawful}
use Rattle.bank_mem.specs.declared.record.Call.{Call}
use Rattle.bank_mem.specs.declared.record.Call.TheVariants.{Write, FailedWrite, Sync, Spoil}
use Rattle.bank_mem.specs.Record.{Shelf, content, Held, held_durably, after, replay}
use Rattle.bank_mem.specs.Sound.{LeadsTo}
use Rattle.bank_mem.specs.MemBank.{view}

-- the three laws, of what a record says
pub record IsLawful (held : Held) : Type 0 where
  pub stays_read : (d x : ℕ) (bytes : List ℕ) → held.stays d x ≡ Some bytes
      → held.reads d x ≡ Some bytes
  pub reads_could : (d x : ℕ) (bytes : List ℕ) → held.reads d x ≡ Some bytes
      → Contains (held.could d x) bytes
  pub stays_could : (d x : ℕ) (bytes other : List ℕ) → held.stays d x ≡ Some bytes
      → Contains (held.could d x) other
      → other ≡ bytes

-- one value, or none, as a list
pub in_list : (o : Option (List ℕ)) (bytes : List ℕ) → o ≡ Some bytes
    → Contains (option_to_list o) bytes
in_list None bytes is = absurd (cc)
in_list (Some b) bytes is = (0, omega arith, cc)

of_list : (o : Option (List ℕ)) (bytes other : List ℕ) → o ≡ Some bytes
    → Contains (option_to_list o) other
    → other ≡ bytes
of_list None bytes other is has = absurd (cc)
of_list (Some b) bytes other is has = at has.0 has.1 has.2
  where
    at : (k : ℕ) → k < 1 → get_or (b ∷ []) k other ≡ other → other ≡ bytes
    at zero below same = cc
    at (suc k) below same = absurd (omega (arith, below))

-- A place that is written to is uncertain from then on.
stays_elsewhere : (here : Bool) (stays : Option (List ℕ)) (bytes : List ℕ)
    → (if here then None else stays) ≡ Some bytes
    → (here ≡ false) × (stays ≡ Some bytes)
stays_elsewhere true stays bytes is = absurd (cc)
stays_elsewhere false stays bytes is = (refl, is)

written_read : (here : Bool) (stays reads new : Option (List ℕ)) (bytes : List ℕ)
    → (stays ≡ Some bytes → reads ≡ Some bytes) → (if here then None else stays) ≡ Some bytes
    → (if here then new else reads) ≡ Some bytes
written_read true stays reads new bytes keeps is = absurd (cc)
written_read false stays reads new bytes keeps is = keeps is

read_could : (here : Bool) (reads : Option (List ℕ)) (new bytes : List ℕ) (could : List (List ℕ))
    → (reads ≡ Some bytes → Contains could bytes) → (if here then Some new else reads) ≡ Some bytes
    → Contains (if here then new ∷ could else could) bytes
read_could true reads new bytes could keeps is = (0, omega arith, cc)
read_could false reads new bytes could keeps is = keeps is

still_could : (here : Bool) (new bytes : List ℕ) (could : List (List ℕ)) → Contains could bytes
    → Contains (if here then new ∷ could else could) bytes
still_could true new bytes could has = (suc has.0, omega (arith, has.1), has.2)
still_could false new bytes could has = has

certain_could : (here : Bool) (stays : Option (List ℕ)) (new bytes other : List ℕ)
    (could : List (List ℕ)) → (stays ≡ Some bytes → Contains could other → other ≡ bytes)
    → (if here then None else stays) ≡ Some bytes
    → Contains (if here then new ∷ could else could) other
    → other ≡ bytes
certain_could true stays new bytes other could keeps is has = absurd (cc)
certain_could false stays new bytes other could keeps is has = keeps is has

-- after a sync of the device, or of another one
synced_read : (here : Bool) (stays reads : Option (List ℕ)) (bytes : List ℕ)
    → (stays ≡ Some bytes → reads ≡ Some bytes) → (if here then reads else stays) ≡ Some bytes
    → reads ≡ Some bytes
synced_read true stays reads bytes keeps is = is
synced_read false stays reads bytes keeps is = keeps is

synced_could : (here : Bool) (reads : Option (List ℕ)) (bytes : List ℕ) (could : List (List ℕ))
    → (reads ≡ Some bytes → Contains could bytes) → reads ≡ Some bytes
    → Contains (if here then option_to_list reads else could) bytes
synced_could true reads bytes could keeps is = in_list reads bytes is
synced_could false reads bytes could keeps is = keeps is

synced_certain : (here : Bool) (stays reads : Option (List ℕ)) (bytes other : List ℕ)
    (could : List (List ℕ)) → (stays ≡ Some bytes → Contains could other → other ≡ bytes)
    → (if here then reads else stays) ≡ Some bytes
    → Contains (if here then option_to_list reads else could) other
    → other ≡ bytes
synced_certain true stays reads bytes other could keeps is has = of_list reads bytes other is has
synced_certain false stays reads bytes other could keeps is has = keeps is has

-- after one sector is spoiled
spoiled_read : (here : Bool) (stays reads new : Option (List ℕ)) (bytes : List ℕ)
    → (stays ≡ Some bytes → reads ≡ Some bytes) → (if here then new else stays) ≡ Some bytes
    → (if here then new else reads) ≡ Some bytes
spoiled_read true stays reads new bytes keeps is = is
spoiled_read false stays reads new bytes keeps is = keeps is

spoiled_could : (here : Bool) (reads : Option (List ℕ)) (new bytes : List ℕ) (could : List (List ℕ))
    → (reads ≡ Some bytes → Contains could bytes) → (if here then Some new else reads) ≡ Some bytes
    → Contains (if here then new ∷ [] else could) bytes
spoiled_could true reads new bytes could keeps is = (0, omega arith, cc)
spoiled_could false reads new bytes could keeps is = keeps is

spoiled_certain : (here : Bool) (stays : Option (List ℕ)) (new bytes other : List ℕ)
    (could : List (List ℕ)) → (stays ≡ Some bytes → Contains could other → other ≡ bytes)
    → (if here then Some new else stays) ≡ Some bytes
    → Contains (if here then new ∷ [] else could) other
    → other ≡ bytes
spoiled_certain true stays new bytes other could keeps is has =
    of_list (Some new) bytes other is has
spoiled_certain false stays new bytes other could keeps is has = keeps is has

after_lawful : (held : Held) (call : Call) → IsLawful held → IsLawful (after held call)
after_lawful held (Write number e y new) law = record {
  stays_read = λ d x bytes.
      written_read ((d == e) && (x == y)) (held.stays d x) (held.reads d x) (Some new) bytes
      (law.stays_read d x bytes);
  reads_could = λ d x bytes.
      read_could ((d == e) && (x == y)) (held.reads d x) new bytes (held.could d x)
      (law.reads_could d x bytes);
  stays_could = λ d x bytes other.
      certain_could ((d == e) && (x == y)) (held.stays d x) new bytes other (held.could d x)
      (law.stays_could d x bytes other);
}
after_lawful held (FailedWrite number e y new) law = record {
  stays_read = λ d x bytes is.
      law.stays_read d x bytes
      (stays_elsewhere ((d == e) && (x == y)) (held.stays d x) bytes is).1;
  reads_could = λ d x bytes is.
      still_could ((d == e) && (x == y)) new bytes (held.could d x) (law.reads_could d x bytes is);
  stays_could = λ d x bytes other.
      certain_could ((d == e) && (x == y)) (held.stays d x) new bytes other (held.could d x)
      (law.stays_could d x bytes other);
}
after_lawful held (Sync number e) law = record {
  stays_read = λ d x bytes.
      synced_read (d == e) (held.stays d x) (held.reads d x) bytes (law.stays_read d x bytes);
  reads_could = λ d x bytes.
      synced_could (d == e) (held.reads d x) bytes (held.could d x) (law.reads_could d x bytes);
  stays_could = λ d x bytes other.
      synced_certain (d == e) (held.stays d x) (held.reads d x) bytes other (held.could d x)
      (law.stays_could d x bytes other);
}
after_lawful held (Spoil number e y new) law = record {
  stays_read = λ d x bytes.
      spoiled_read ((d == e) && (x == y)) (held.stays d x) (held.reads d x) (Some new) bytes
      (law.stays_read d x bytes);
  reads_could = λ d x bytes.
      spoiled_could ((d == e) && (x == y)) (held.reads d x) new bytes (held.could d x)
      (law.reads_could d x bytes);
  stays_could = λ d x bytes other.
      spoiled_certain ((d == e) && (x == y)) (held.stays d x) new bytes other (held.could d x)
      (law.stays_could d x bytes other);
}

replay_lawful : (calls : List Call) (held : Held) → IsLawful held → IsLawful (replay held calls)
replay_lawful [] held law = law
replay_lawful (call ∷ calls) held law =
    replay_lawful calls (after held call) (after_lawful held call law)

-- what a shelf holds at first
rest_lawful : (first : Shelf) → IsLawful (held_durably (content first))
rest_lawful first = record {
  stays_read = λ d x bytes is. is;
  reads_could = λ d x bytes is. in_list (content first d x) bytes is;
  stays_could = λ d x bytes other is has. of_list (content first d x) bytes other is has;
}

-- what the record says after all its calls
abbrev pub at_last : Shelf → List Call → Held
at_last first calls = replay (held_durably (content first)) (take (length calls) calls)

pub last_lawful : (first : Shelf) (calls : List Call) → IsLawful (at_last first calls)
last_lawful first calls =
    replay_lawful (take (length calls) calls) (held_durably (content first)) (rest_lawful first)

pub last_read : (first now : Shelf) (calls : List Call) → LeadsTo first calls now
    → (d x : ℕ) → (at_last first calls).reads d x ≡ content now d x
last_read first now calls leads d x =
    ap (λ (l : List Call). (replay (held_durably (content first)) l).reads d x)
    (take_all (length calls) calls (omega arith)) ∙ leads d x

pub lawful : (sectors : ℕ) (first now : Shelf) (calls : List Call) (faults : List ℕ)
    → LeadsTo first calls now
    → Lawful (view sectors first now calls faults)
lawful sectors first now calls faults leads = record {
  stays_read = λ d x bytes is.
      sym (last_read first now calls leads d x) ∙ (last_lawful first calls).stays_read d x bytes is;
  stays_could = (last_lawful first calls).stays_could;
}
