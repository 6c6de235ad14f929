-- What a search has found, one hold further.
use Rattle.std.proofs.Common.{◌≡◌, ◌⊎◌, ℕ, ◌<◌, ◌+◌, List, [], ◌∷◌, ◌++◌, length, take, get_or, refl, sym, subst, arith}
use Rattle.std.proofs.Common.{inl, inr, ⊎_elim}
use Rattle.std.specs.Prelude.{true, false, Option, Some, None, min}
use Rattle.std.proofs.lemmas.Bool.{cases_lt}
use Rattle.std.proofs.lemmas.List.{take_more}
use Rattle.std.proofs.lemmas.List.Elements.{Contains-append_cases, Contains-append_left, Contains-append_right}
use Rattle.std.proofs.lemmas.List.Elements.{Contains-push, Contains-push_cases}
use Rattle.range_locks.specs.declared.hold.Hold.{Hold}
use Rattle.range_locks.specs.declared.hold.HoldKind.{HoldKind}
use Rattle.range_locks.specs.declared.hold.HoldKind.TheVariants.{Shared}
use Rattle.range_locks.specs.Holds.{ConflictsWith, IsClear, Precedes, IsBusyBy, IsFirstIn, IsFirst, IsSharedFrom}
use Rattle.range_locks.specs.Holds.{BeginsShared, IsFirstSharedFrom}
use Rattle.range_locks.specs.Search.{IsEarlier, lesser_of}

-- No test is both.
pub not_false : false ≡ true → ⊥
not_false same = cc

pub precedes_itself : (hold : Hold) → Precedes hold hold
precedes_itself hold = inr (refl, omega arith)

precedes_then : (one two three : Hold) → Precedes one two → Precedes two three → Precedes one three
precedes_then one two three first second = grind (arith, first, second)

-- A hold that isn't in the way changes nothing.
pub first_passes : (seen : List Hold) (lo hi : ℕ) (kind : HoldKind) (first : Option Hold) (hold : Hold) → IsFirst seen lo hi kind first
    → (ConflictsWith hold lo hi kind → ⊥) → IsFirst (seen ++ hold ∷ []) lo hi kind first
first_passes seen lo hi kind None hold clear spares = λ other listed blocks.
    ⊎_elim (λ old. clear other old blocks)
    (λ same. spares (subst (λ (h : Hold). ConflictsWith h lo hi kind) (sym same) blocks)) (Contains-push_cases seen hold other listed)
first_passes seen lo hi kind (Some first) hold is spares = record {
  listed = Contains-append_left seen (hold ∷ []) first is.listed;
  blocks = is.blocks;
  lowest = λ other listed blocks. ⊎_elim (λ old. is.lowest other old blocks)
      (λ same. absurd (spares (subst (λ (h : Hold). ConflictsWith h lo hi kind) (sym same) blocks))) (Contains-push_cases seen hold other listed);
}

-- Of one that is in the way and the first so far, the earlier is the first.
pub first_takes : (seen : List Hold) (lo hi : ℕ) (kind : HoldKind) (first : Option Hold) (hold earlier : Hold) → IsFirst seen lo hi kind first
    → ConflictsWith hold lo hi kind → IsEarlier first hold earlier → IsFirst (seen ++ hold ∷ []) lo hi kind (Some earlier)
first_takes seen lo hi kind None hold earlier clear blocks is =
    subst (λ (h : Hold). IsFirst (seen ++ hold ∷ []) lo hi kind (Some h)) (sym is) (record {
      listed = Contains-push seen hold;
      blocks = blocks;
      lowest = λ other listed stops. ⊎_elim (λ old. absurd (clear other old stops))
          (λ same. subst (λ (h : Hold). Precedes hold h) same (precedes_itself hold)) (Contains-push_cases seen hold other listed);
    })
first_takes seen lo hi kind (Some first) hold earlier found blocks is =
    ⊎_elim
    (λ old. subst (λ (h : Hold). IsFirst (seen ++ hold ∷ []) lo hi kind (Some h)) (sym old.0) (record {
      listed = Contains-append_left seen (hold ∷ []) first found.listed;
      blocks = found.blocks;
      lowest = λ other listed stops. ⊎_elim (λ before. found.lowest other before stops)
          (λ same. subst (λ (h : Hold). Precedes first h) same old.1) (Contains-push_cases seen hold other listed);
    }))
    (λ new. subst (λ (h : Hold). IsFirst (seen ++ hold ∷ []) lo hi kind (Some h)) (sym new.0) (record {
      listed = Contains-push seen hold;
      blocks = blocks;
      lowest = λ other listed stops. ⊎_elim (λ before. precedes_then hold first other new.1 (found.lowest other before stops))
          (λ same. subst (λ (h : Hold). Precedes hold h) same (precedes_itself hold)) (Contains-push_cases seen hold other listed);
    }))
    is

-- Of the first holds in the way in two lists the earlier is the first of both.
pub first_of_one : (holds others : List Hold) (lo hi : ℕ) (kind : HoldKind) (first : Option Hold) → IsFirst holds lo hi kind first
    → IsClear others lo hi kind → IsFirst (holds ++ others) lo hi kind first
first_of_one holds others lo hi kind None clear rest = λ other listed blocks.
    ⊎_elim (λ left. clear other left blocks) (λ right. rest other right blocks) (Contains-append_cases holds others other listed)
first_of_one holds others lo hi kind (Some first) is rest = record {
  listed = Contains-append_left holds others first is.listed;
  blocks = is.blocks;
  lowest = λ other listed blocks. ⊎_elim (λ left. is.lowest other left blocks) (λ right. absurd (rest other right blocks))
      (Contains-append_cases holds others other listed);
}

pub first_of_both : (holds others : List Hold) (lo hi : ℕ) (kind : HoldKind) (one : Option Hold) (other earlier : Hold)
    → IsFirst holds lo hi kind one → IsFirstIn others lo hi kind other → IsEarlier one other earlier
    → IsFirstIn (holds ++ others) lo hi kind earlier
first_of_both holds others lo hi kind None other earlier clear is same = subst (IsFirstIn (holds ++ others) lo hi kind) (sym same) (record {
  listed = Contains-append_right holds others other is.listed;
  blocks = is.blocks;
  lowest = λ hold listed blocks. ⊎_elim (λ left. absurd (clear hold left blocks)) (λ right. is.lowest hold right blocks)
      (Contains-append_cases holds others hold listed);
})
first_of_both holds others lo hi kind (Some one) other earlier first is which = ⊎_elim
    (λ old. subst (IsFirstIn (holds ++ others) lo hi kind) (sym old.0) (record {
      listed = Contains-append_left holds others one first.listed;
      blocks = first.blocks;
      lowest = λ hold listed blocks. ⊎_elim (λ left. first.lowest hold left blocks)
          (λ right. precedes_then one other hold old.1 (is.lowest hold right blocks)) (Contains-append_cases holds others hold listed);
    }))
    (λ new. subst (IsFirstIn (holds ++ others) lo hi kind) (sym new.0) (record {
      listed = Contains-append_right holds others other is.listed;
      blocks = is.blocks;
      lowest = λ hold listed blocks. ⊎_elim (λ left. precedes_then other one hold new.1 (first.lowest hold left blocks))
          (λ right. is.lowest hold right blocks) (Contains-append_cases holds others hold listed);
    }))
    which

-- The first hold in the way tells who is.
pub busy_by_first : (holds : List Hold) (lo hi : ℕ) (kind : HoldKind) (hold : Hold) → IsFirstIn holds lo hi kind hold
    → IsBusyBy holds lo hi kind hold.actor
busy_by_first holds lo hi kind hold is =
    record { hold = hold; listed = is.listed; blocks = is.blocks; actor = refl; lowest = is.lowest }

begins_more : (seen : List Hold) (hold : Hold) (sector : ℕ) → BeginsShared seen sector → BeginsShared (seen ++ hold ∷ []) sector
begins_more seen hold sector is =
    record { hold = is.hold; listed = Contains-append_left seen (hold ∷ []) is.hold is.listed; shared = is.shared; begins = is.begins }

begins_cases : (seen : List Hold) (hold : Hold) (sector : ℕ) → BeginsShared (seen ++ hold ∷ []) sector
    → BeginsShared seen sector ⊎ ((hold.kind ≡ Shared) × (hold.lo ≡ sector))
begins_cases seen hold sector is =
    ⊎_elim (λ old. inl (record { hold = is.hold; listed = old; shared = is.shared; begins = is.begins }))
    (λ same. inr (subst (λ (h : Hold). (h.kind ≡ Shared) × (h.lo ≡ sector)) (sym same) (is.shared, is.begins)))
    (Contains-push_cases seen hold is.hold is.listed)

-- A hold that doesn't count changes nothing.
pub shared_passes : (seen : List Hold) (from : ℕ) (first : Option ℕ) (hold : Hold) → IsFirstSharedFrom seen from first
    → (IsSharedFrom hold from → ⊥) → IsFirstSharedFrom (seen ++ hold ∷ []) from first
shared_passes seen from None hold none not = λ sector above begins.
    ⊎_elim (λ old. none sector above old) (λ new. not (new.0, omega (arith, new.1, above))) (begins_cases seen hold sector begins)
shared_passes seen from (Some first) hold is not = (
  is.0,
  begins_more seen hold first is.1,
  λ sector above begins. ⊎_elim (λ old. is.2 sector above old)
      (λ new. absurd (not (new.0, omega (arith, new.1, above)))) (begins_cases seen hold sector begins),
)

-- Of one that counts and the lowest so far, the lesser start is the lowest.
pub shared_takes : (seen : List Hold) (from : ℕ) (first : Option ℕ) (hold : Hold) → IsFirstSharedFrom seen from first
    → IsSharedFrom hold from → IsFirstSharedFrom (seen ++ hold ∷ []) from (Some (lesser_of first hold.lo))
shared_takes seen from None hold none is = (
  is.1,
  record { hold = hold; listed = Contains-push seen hold; shared = is.0; begins = refl },
  λ sector above begins. ⊎_elim (λ old. absurd (none sector above old)) (λ new. omega (arith, new.1)) (begins_cases seen hold sector begins),
)
shared_takes seen from (Some first) hold found is =
    ⊎_elim
    (λ low. let least : min first hold.lo ≡ first = omega (arith, low) in
    subst (λ (least : ℕ). IsFirstSharedFrom (seen ++ hold ∷ []) from (Some least)) (sym least) (
      found.0,
      begins_more seen hold first found.1,
      λ sector above begins. ⊎_elim (λ old. found.2 sector above old) (λ new. omega (arith, new.1, low)) (begins_cases seen hold sector begins),
    ))
    (λ high. let least : min first hold.lo ≡ hold.lo = omega (arith, high) in
    subst (λ (least : ℕ). IsFirstSharedFrom (seen ++ hold ∷ []) from (Some least)) (sym least) (
      is.1,
      record { hold = hold; listed = Contains-push seen hold; shared = is.0; begins = refl },
      λ sector above begins. ⊎_elim (λ old. omega (arith, high, found.2 sector above old)) (λ new. omega (arith, new.1)) (begins_cases seen hold sector begins),
    ))
    (cases_lt first hold.lo)

-- The same for the hold at an index of a list.
pub first_passes_at : (holds : List Hold) (lo hi : ℕ) (kind : HoldKind) (first : Option Hold) (at : ℕ) (default : Hold) → at < length holds
    → IsFirst (take at holds) lo hi kind first → (ConflictsWith (get_or holds at default) lo hi kind → ⊥) → IsFirst (take (at + 1) holds) lo hi kind first
first_passes_at holds lo hi kind first at default within is spares =
    subst (λ (seen : List Hold). IsFirst seen lo hi kind first) (sym (take_more holds at default within))
    (first_passes (take at holds) lo hi kind first (get_or holds at default) is spares)

pub first_takes_at : (holds : List Hold) (lo hi : ℕ) (kind : HoldKind) (first : Option Hold) (at : ℕ) (default earlier : Hold) → at < length holds
    → IsFirst (take at holds) lo hi kind first → ConflictsWith (get_or holds at default) lo hi kind → IsEarlier first (get_or holds at default) earlier
    → IsFirst (take (at + 1) holds) lo hi kind (Some earlier)
first_takes_at holds lo hi kind first at default earlier within is blocks earliest =
    subst (λ (seen : List Hold). IsFirst seen lo hi kind (Some earlier)) (sym (take_more holds at default within))
    (first_takes (take at holds) lo hi kind first (get_or holds at default) earlier is blocks earliest)

pub shared_passes_at : (holds : List Hold) (from : ℕ) (first : Option ℕ) (at : ℕ) (default : Hold) → at < length holds
    → IsFirstSharedFrom (take at holds) from first → (IsSharedFrom (get_or holds at default) from → ⊥) → IsFirstSharedFrom (take (at + 1) holds) from first
shared_passes_at holds from first at default within is not =
    subst (λ (seen : List Hold). IsFirstSharedFrom seen from first) (sym (take_more holds at default within))
    (shared_passes (take at holds) from first (get_or holds at default) is not)

pub shared_takes_at : (holds : List Hold) (from : ℕ) (first : Option ℕ) (at : ℕ) (default : Hold) (lesser : ℕ) → at < length holds
    → IsFirstSharedFrom (take at holds) from first → IsSharedFrom (get_or holds at default) from → lesser ≡ lesser_of first (get_or holds at default).lo
    → IsFirstSharedFrom (take (at + 1) holds) from (Some lesser)
shared_takes_at holds from first at default lesser within is shared least =
    subst (λ (seen : List Hold). IsFirstSharedFrom seen from (Some lesser)) (sym (take_more holds at default within))
    (subst (λ (least : ℕ). IsFirstSharedFrom (take at holds ++ get_or holds at default ∷ []) from (Some least)) (sym least)
    (shared_takes (take at holds) from first (get_or holds at default) is shared))
