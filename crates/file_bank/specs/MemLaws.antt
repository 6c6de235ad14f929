-- The laws of a file in memory.
use Rattle.std.specs.Prelude.{◌≡◌, ℕ, ◌<◌, ◌≤◌, List, [], ◌∷◌, zero, suc, Option, Some, None, Bool, true, false, ◌==◌}
use Rattle.std.specs.Prelude.{if◌then◌else◌, length, slice_get, nat_lt, Contains, option_to_list, refl}
use Rattle.std.proofs.Common.{sym, ◌∙◌, ap, arith, get_or}
use Rattle.std.proofs.lemmas.Bool.Decides.{nat_tests}
use Rattle.file_bank.specs.BlockFile.{LawfulFile}
use Rattle.file_bank.specs.declared.record.Call.{Call}
use Rattle.file_bank.specs.declared.record.Call.TheVariants.{Write, Sync}
use Rattle.file_bank.specs.Record.{FileHeld, all_certain, after_call, moment_of, replayed_to, AllBy, LeadsToSectors}
use Rattle.file_bank.specs.Record.{contents_of}

pub not_before : (t moment : ℕ) → moment ≤ t → nat_lt t moment ≡ false
not_before t moment le = grind (arith, nat_tests)

pub is_before : (t moment : ℕ) → t < moment → nat_lt t moment ≡ true
is_before t moment lt = grind (arith, nat_tests)

pub by_head : (last : ℕ) (call : Call) (calls : List Call) → AllBy last (call ∷ calls)
    → moment_of call ≤ last
by_head last call calls by = by 0 call (omega arith)

pub by_tail : (last : ℕ) (call : Call) (calls : List Call) → AllBy last (call ∷ calls)
    → AllBy last calls
by_tail last call calls by k d below = by (suc k) d (omega (arith, below))

-- Calls that all came by a moment are replayed alike at each later one.
pub replay_still : (last t : ℕ) (held : FileHeld) (calls : List Call) → AllBy last calls → last ≤ t
    → replayed_to t held calls ≡ replayed_to last held calls
replay_still last t held [] by later = refl
replay_still last t held (call ∷ calls) by later =
    let head : moment_of call ≤ last = by_head last call calls by in
    let came : nat_lt t (moment_of call) ≡ false = not_before t (moment_of call) (omega arith) in
    let came_first : nat_lt last (moment_of call) ≡ false = not_before last (moment_of call) head in
    ap (λ (b : Bool). replayed_to t (if b then held else after_call held call) calls) came
    ∙ replay_still last t (after_call held call) calls (by_tail last call calls by) later
    ∙ sym (ap (λ (b : Bool). replayed_to last (if b then held else after_call held call) calls) came_first)

-- the laws, of what a record says: what is read of it is one of what the sector could hold, too
record IsLawfulRecord (held : FileHeld) : Type 0 where
  stays_read : (x : ℕ) (bytes : List ℕ) → held.stays x ≡ Some bytes → held.reads x ≡ Some bytes
  reads_could : (x : ℕ) (bytes : List ℕ) → held.reads x ≡ Some bytes → Contains (held.could x) bytes
  stays_could : (x : ℕ) (bytes other : List ℕ) → held.stays x ≡ Some bytes
      → Contains (held.could x) other → other ≡ bytes

pub in_list : (o : Option (List ℕ)) (bytes : List ℕ) → o ≡ Some bytes
    → Contains (option_to_list o) bytes
in_list None bytes is = absurd (cc)
in_list (Some b) bytes is = (0, omega arith, cc)

of_list : (o : Option (List ℕ)) (bytes other : List ℕ) → o ≡ Some bytes
    → Contains (option_to_list o) other
    → other ≡ bytes
of_list None bytes other is has = absurd (cc)
of_list (Some b) bytes other is has = at has.0 has.1 has.2
  where
    at : (k : ℕ) → k < 1 → get_or (b ∷ []) k other ≡ other → other ≡ bytes
    at zero below same = cc
    at (suc k) below same = absurd (omega (arith, below))

-- at the sector that is written, and at another one
written_read : (here : Bool) (stays reads : Option (List ℕ)) (new bytes : List ℕ)
    → (stays ≡ Some bytes → reads ≡ Some bytes) → (if here then None else stays) ≡ Some bytes
    → (if here then Some new else reads) ≡ Some bytes
written_read true stays reads new bytes keeps is = absurd (cc)
written_read false stays reads new bytes keeps is = keeps is

read_could : (here : Bool) (reads : Option (List ℕ)) (new bytes : List ℕ) (could : List (List ℕ))
    → (reads ≡ Some bytes → Contains could bytes) → (if here then Some new else reads) ≡ Some bytes
    → Contains (if here then new ∷ could else could) bytes
read_could true reads new bytes could keeps is = (0, omega arith, cc)
read_could false reads new bytes could keeps is = keeps is

certain_could : (here : Bool) (stays : Option (List ℕ)) (new bytes other : List ℕ)
    (could : List (List ℕ)) → (stays ≡ Some bytes → Contains could other → other ≡ bytes)
    → (if here then None else stays) ≡ Some bytes
    → Contains (if here then new ∷ could else could) other
    → other ≡ bytes
certain_could true stays new bytes other could keeps is has = absurd (cc)
certain_could false stays new bytes other could keeps is has = keeps is has

after_lawful : (held : FileHeld) (call : Call) → IsLawfulRecord held → IsLawfulRecord (after_call held call)
after_lawful held (Write moment x new) law = record {
  stays_read = λ y bytes.
      written_read (y == x) (held.stays y) (held.reads y) new bytes (law.stays_read y bytes);
  reads_could = λ y bytes.
      read_could (y == x) (held.reads y) new bytes (held.could y) (law.reads_could y bytes);
  stays_could = λ y bytes other.
      certain_could (y == x) (held.stays y) new bytes other (held.could y)
      (law.stays_could y bytes other);
}
after_lawful held (Sync moment) law = record {
  stays_read = λ y bytes is. is;
  reads_could = λ y bytes is. in_list (held.reads y) bytes is;
  stays_could = λ y bytes other is has. of_list (held.reads y) bytes other is has;
}

pick_lawful : (skip : Bool) (held new : FileHeld) → IsLawfulRecord held → IsLawfulRecord new
    → IsLawfulRecord (if skip then held else new)
pick_lawful true held new before later = before
pick_lawful false held new before later = later

replay_lawful : (t : ℕ) (held : FileHeld) (calls : List Call) → IsLawfulRecord held
    → IsLawfulRecord (replayed_to t held calls)
replay_lawful t held [] law = law
replay_lawful t held (call ∷ calls) law =
    replay_lawful t (if nat_lt t (moment_of call) then held else after_call held call) calls
    (pick_lawful (nat_lt t (moment_of call)) held (after_call held call) law
    (after_lawful held call law))

rest_lawful : (first : List (List ℕ)) → IsLawfulRecord (all_certain first)
rest_lawful first = record {
  stays_read = λ x bytes is. is;
  reads_could = λ x bytes is. in_list (slice_get first x) bytes is;
  stays_could = λ x bytes other is has. of_list (slice_get first x) bytes other is has;
}

-- What is read of a file in memory is one of what the sector could hold.
pub record_could : (first present : List (List ℕ)) (calls : List Call) (last : ℕ)
    → LeadsToSectors first last calls present → (x : ℕ) (bytes : List ℕ) → slice_get present x ≡ Some bytes
    → Contains ((contents_of first present calls last).could last x) bytes
record_could first present calls last leads x bytes is =
    (replay_lawful last (all_certain first) calls (rest_lawful first)).reads_could x bytes (leads x ∙ is)

pub lawful : (first present : List (List ℕ)) (calls : List Call) (last : ℕ) → AllBy last calls
    → LeadsToSectors first last calls present
    → ((x : ℕ) (bytes : List ℕ) → slice_get present x ≡ Some bytes → length bytes ≡ 512)
    → LawfulFile (contents_of first present calls last)
lawful first present calls last by leads whole =
    let law = replay_lawful last (all_certain first) calls (rest_lawful first) in
    record {
      stays_read = λ x bytes is. sym (leads x) ∙ law.stays_read x bytes is;
      stays_could = law.stays_could;
      still = λ t later x. (
        ap (λ (h : FileHeld). h.stays x) (replay_still last t (all_certain first) calls by later),
        ap (λ (h : FileHeld). h.could x) (replay_still last t (all_certain first) calls by later),
      );
      whole = whole;
    }
