-- How many values a sector could hold, over the calls on record: one where it is certain, and else
-- more.
use Rattle.std.proofs.Common.{◌≡◌, ℕ, ◌<◌, List, [], ◌∷◌, length, Option, Some, None, Bool, true, false, refl, arith}
use Rattle.std.specs.Prelude.{◌&&◌, ◌==◌, if◌then◌else◌, IsSome, option_to_list}
use Rattle.bank_trait.specs.Disk.{Known}
use Rattle.bank_mem.specs.declared.record.Call.{Call}
use Rattle.bank_mem.specs.declared.record.Call.TheVariants.{Write, FailedWrite, Sync, Spoil}
use Rattle.bank_mem.specs.Record.{Held, held_durably, after, replay}

-- Of each sector that is known at first.
pub record IsCounted (known : Known) (held : Held) : Type 0 where
  pub told : (d x : ℕ) → IsSome (known d x) → IsSome (held.reads d x)
  pub some : (d x : ℕ) → IsSome (known d x) → 0 < length (held.could d x)
  pub many : (d x : ℕ) → IsSome (known d x) → held.stays d x ≡ None → 1 < length (held.could d x)
  pub one : (d x : ℕ) (bytes : List ℕ) → held.stays d x ≡ Some bytes
      → held.could d x ≡ bytes ∷ []

-- a value, or none, as a list
some_one : (o : Option (List ℕ)) → IsSome o → 0 < length (option_to_list o)
some_one None is = absurd (cc)
some_one (Some bytes) is = omega arith

one_one : (o : Option (List ℕ)) (bytes : List ℕ) → o ≡ Some bytes → option_to_list o ≡ bytes ∷ []
one_one None bytes is = absurd (cc)
one_one (Some other) bytes is = cc

no_none : (o : Option (List ℕ)) → IsSome o → o ≡ None → ⊥
no_none None is none = absurd (cc)
no_none (Some bytes) is none = absurd (cc)

-- one sector that is changed, or another one
told_at : (here : Bool) (new : List ℕ) (reads : Option (List ℕ)) → IsSome reads
    → IsSome (if here then Some new else reads)
told_at true new reads is = refl
told_at false new reads is = is

some_handed : (here : Bool) (new : List ℕ) (could : List (List ℕ)) → 0 < length could
    → 0 < length (if here then new ∷ could else could)
some_handed true new could some = omega arith
some_handed false new could some = some

many_handed : (here : Bool) (new : List ℕ) (stays : Option (List ℕ)) (could : List (List ℕ))
    → 0 < length could → (stays ≡ None → 1 < length could)
    → (if here then None else stays) ≡ None
    → 1 < length (if here then new ∷ could else could)
many_handed true new stays could some many is = omega (arith, some)
many_handed false new stays could some many is = many is

one_handed : (here : Bool) (new bytes : List ℕ) (stays : Option (List ℕ)) (could : List (List ℕ))
    → (stays ≡ Some bytes → could ≡ bytes ∷ []) → (if here then None else stays) ≡ Some bytes
    → (if here then new ∷ could else could) ≡ bytes ∷ []
one_handed true new bytes stays could one is = absurd (cc)
one_handed false new bytes stays could one is = one is

some_synced : (here : Bool) (reads : Option (List ℕ)) (could : List (List ℕ)) → IsSome reads
    → 0 < length could
    → 0 < length (if here then option_to_list reads else could)
some_synced true reads could told some = some_one reads told
some_synced false reads could told some = some

many_synced : (here : Bool) (reads stays : Option (List ℕ)) (could : List (List ℕ)) → IsSome reads
    → (stays ≡ None → 1 < length could) → (if here then reads else stays) ≡ None
    → 1 < length (if here then option_to_list reads else could)
many_synced true reads stays could told many is = absurd (no_none reads told is)
many_synced false reads stays could told many is = many is

one_synced : (here : Bool) (reads stays : Option (List ℕ)) (bytes : List ℕ) (could : List (List ℕ))
    → (stays ≡ Some bytes → could ≡ bytes ∷ []) → (if here then reads else stays) ≡ Some bytes
    → (if here then option_to_list reads else could) ≡ bytes ∷ []
one_synced true reads stays bytes could one is = one_one reads bytes is
one_synced false reads stays bytes could one is = one is

some_spoiled : (here : Bool) (new : List ℕ) (could : List (List ℕ)) → 0 < length could
    → 0 < length (if here then new ∷ [] else could)
some_spoiled true new could some = omega arith
some_spoiled false new could some = some

many_spoiled : (here : Bool) (new : List ℕ) (stays : Option (List ℕ)) (could : List (List ℕ))
    → (stays ≡ None → 1 < length could) → (if here then Some new else stays) ≡ None
    → 1 < length (if here then new ∷ [] else could)
many_spoiled true new stays could many is = absurd (cc)
many_spoiled false new stays could many is = many is

one_spoiled : (here : Bool) (new bytes : List ℕ) (stays : Option (List ℕ)) (could : List (List ℕ))
    → (stays ≡ Some bytes → could ≡ bytes ∷ []) → (if here then Some new else stays) ≡ Some bytes
    → (if here then new ∷ [] else could) ≡ bytes ∷ []
one_spoiled true new bytes stays could one is = cc
one_spoiled false new bytes stays could one is = one is

after_counted : (known : Known) (held : Held) (call : Call) → IsCounted known held
    → IsCounted known (after held call)
after_counted known held (Write number e y new) was = record {
  told = λ d x is. told_at ((d == e) && (x == y)) new (held.reads d x) (was.told d x is);
  some = λ d x is. some_handed ((d == e) && (x == y)) new (held.could d x) (was.some d x is);
  many = λ d x is. many_handed ((d == e) && (x == y)) new (held.stays d x) (held.could d x)
      (was.some d x is) (was.many d x is);
  one = λ d x bytes. one_handed ((d == e) && (x == y)) new bytes (held.stays d x) (held.could d x)
      (was.one d x bytes);
}
after_counted known held (FailedWrite number e y new) was = record {
  told = was.told;
  some = λ d x is. some_handed ((d == e) && (x == y)) new (held.could d x) (was.some d x is);
  many = λ d x is. many_handed ((d == e) && (x == y)) new (held.stays d x) (held.could d x)
      (was.some d x is) (was.many d x is);
  one = λ d x bytes. one_handed ((d == e) && (x == y)) new bytes (held.stays d x) (held.could d x)
      (was.one d x bytes);
}
after_counted known held (Sync number e) was = record {
  told = was.told;
  some = λ d x is. some_synced (d == e) (held.reads d x) (held.could d x) (was.told d x is)
      (was.some d x is);
  many = λ d x is. many_synced (d == e) (held.reads d x) (held.stays d x) (held.could d x)
      (was.told d x is) (was.many d x is);
  one = λ d x bytes. one_synced (d == e) (held.reads d x) (held.stays d x) bytes (held.could d x)
      (was.one d x bytes);
}
after_counted known held (Spoil number e y new) was = record {
  told = λ d x is. told_at ((d == e) && (x == y)) new (held.reads d x) (was.told d x is);
  some = λ d x is. some_spoiled ((d == e) && (x == y)) new (held.could d x) (was.some d x is);
  many = λ d x is. many_spoiled ((d == e) && (x == y)) new (held.stays d x) (held.could d x)
      (was.many d x is);
  one = λ d x bytes. one_spoiled ((d == e) && (x == y)) new bytes (held.stays d x) (held.could d x)
      (was.one d x bytes);
}

replay_counted : (known : Known) (calls : List Call) (held : Held) → IsCounted known held
    → IsCounted known (replay held calls)
replay_counted known [] held was = was
replay_counted known (call ∷ calls) held was =
    replay_counted known calls (after held call) (after_counted known held call was)

-- after all of these calls
pub counted : (known : Known) (calls : List Call) → IsCounted known (replay (held_durably known) calls)
counted known calls = replay_counted known calls (held_durably known) (record {
  told = λ d x is. is;
  some = λ d x is. some_one (known d x) is;
  many = λ d x is none. absurd (no_none (known d x) is none);
  one = λ d x bytes is. one_one (known d x) bytes is;
})
