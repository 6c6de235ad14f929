-- What may be wrong of a row of groups.
use Rattle.core_turns.proofs.Words.{◌≡◌, refl, ⊎_elim, [], ◌∷◌, sym, subst, Contains, contains_cases, contains_head}
use Rattle.core_turns.proofs.Words.{contains_none, contains_tail, Kept, Excepted, IsAmong, Damage, IsDamage}
use Rattle.core_turns.proofs.Words.{ListsDamage, undamaged}

-- What is among nothing is nothing.
pub none_among : (wrong more : Excepted) → IsAmong wrong more → more ≡ [] → wrong ≡ []
none_among [] more among none = refl
none_among (what ∷ wrong) more among none = absurd (contains_none what
    (subst (λ (list : Excepted). Contains list what) none (among what (contains_head what wrong))))

-- Groups of which the same may be wrong are alike in this.
lists_alike : (damage : Damage) (one other : Kept) → other.excepted ≡ one.excepted → ListsDamage damage one
    → ListsDamage damage other
lists_alike damage one other same lists = rw same (record { least = lists.least; most = lists.most })

-- Two groups in a row.
both : (damage : Damage) (last next : Kept) → ListsDamage damage last → ListsDamage damage next
    → (kept : Kept) → Contains (last ∷ next ∷ []) kept → ListsDamage damage kept
both damage last next of_last of_next kept listed = ⊎_elim
    (λ same. subst (ListsDamage damage) (sym same) of_last)
    (λ behind. ⊎_elim (λ same. subst (ListsDamage damage) (sym same) of_next) (λ none. absurd (contains_none kept none))
    (contains_cases next [] kept behind))
    (contains_cases last (next ∷ []) kept listed)

-- A group that is begun lists what is left.
pub lists_next : (damage : Damage) (last next : Kept) → IsDamage damage → next.excepted ≡ damage.left
    → ((kept : Kept) → Contains (last ∷ []) kept → ListsDamage damage kept)
    → (kept : Kept) → Contains (last ∷ next ∷ []) kept → ListsDamage damage kept
lists_next damage last next is same lists = both damage last next (lists last (contains_head last []))
    (record { least = rw same (λ what has. has); most = rw same is.within })

-- What is made of it lists the same,
pub lists_made : (damage : Damage) (last next made : Kept) → made.excepted ≡ next.excepted
    → ((kept : Kept) → Contains (last ∷ next ∷ []) kept → ListsDamage damage kept)
    → (kept : Kept) → Contains (last ∷ made ∷ []) kept → ListsDamage damage kept
lists_made damage last next made same lists = both damage last made (lists last (contains_head last (next ∷ [])))
    (lists_alike damage next made same (lists next (contains_tail last (next ∷ []) next (contains_head next []))))

-- and it is the last one once it is answered.
pub lists_last : (damage : Damage) (last next : Kept)
    → ((kept : Kept) → Contains (last ∷ next ∷ []) kept → ListsDamage damage kept)
    → (kept : Kept) → Contains (next ∷ []) kept → ListsDamage damage kept
lists_last damage last next lists kept listed = lists kept (contains_tail last (next ∷ []) kept listed)

-- Nothing that may be wrong is a list of its own.
pub none_damaged : IsDamage undamaged
none_damaged = record {
  within = λ what has. has;
  closed = record { copied = λ reflow job sector widening copies listed. absurd (contains_none _ listed) };
}

-- A group of which nothing may be wrong lists that.
pub none_listed : (kept : Kept) → kept.excepted ≡ [] → ListsDamage undamaged kept
none_listed kept none = rw none (record { least = λ what has. has; most = λ what has. has })
