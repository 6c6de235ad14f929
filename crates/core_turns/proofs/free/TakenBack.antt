-- An item that a list gains, and may lose again.
use Rattle.core_turns.proofs.Words.{◌≡◌, ⊎_elim, List, [], ◌∷◌, ◌++◌, refl, ◌∙◌, subst, Contains, Gains, first_listed}
use Rattle.core_turns.proofs.Words.{rest_listed, listed_cases, gains_old, gains_item, gains_cases}

-- What holds of the item that a list gains, and of the others, holds of each.
pub each_gained : {T : Type 0} {P : T → Type 0} {left all : List T} {item : T} → Gains left all item → P item
    → ((other : T) → Contains left other → P other) → (other : T) → Contains all other → P other
each_gained {P = P} {left} {all} {item} gains of others other listed =
    ⊎_elim (λ same. subst P same of) (others other) (gains_cases left all item other gains listed)

module _ {T : Type 0} where
  heads : {one other : T} {items others : List T} → one ∷ items ≡ other ∷ others → one ≡ other
  heads same = cc

  tails : {one other : T} {items others : List T} → one ∷ items ≡ other ∷ others → items ≡ others
  tails same = cc

  -- Where a list holds an item at two places, it holds it still without either.
  twice : (item : T) (before after further behind : List T) → before ++ item ∷ after ≡ further ++ item ∷ behind
      → Contains (further ++ behind) item → Contains (before ++ after) item
  twice item [] after [] behind same listed = rw (tails same) listed
  twice item [] after (first ∷ further) behind same listed =
      rw (tails same) (gains_item (further ++ behind) (further ++ item ∷ behind) item
      (record { before = further; after = behind; was = refl; is = refl }))
  twice item (first ∷ before) after [] behind same listed =
      subst (Contains (first ∷ before ++ after)) (heads same) (first_listed first (before ++ after))
  twice item (first ∷ before) after (next ∷ further) behind same listed = ⊎_elim
      (λ is. subst (Contains (first ∷ before ++ after)) (heads same ∙ is) (first_listed first (before ++ after)))
      (λ rest. rest_listed first item (before ++ after) (twice item before after further behind (tails same) rest))
      (listed_cases next item (further ++ behind) listed)

  -- A list that gained an item and lost it again has nothing that it hadn't.
  pub was_there : (old mid new : List T) (item : T) → Gains old mid item → Gains new mid item
      → (other : T) → Contains new other → Contains old other
  was_there old mid new item gains loses other listed = ⊎_elim
      (λ (same : item ≡ other). subst (Contains old) same (rw gains.was
      (twice item gains.before gains.after loses.before loses.after (cc) (rw (loses.was, ← same) at listed))))
      (λ there. there) (gains_cases old mid item other gains (gains_old new mid item other loses listed))
