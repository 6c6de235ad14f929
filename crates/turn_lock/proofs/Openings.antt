-- The rule at the start.
use Rattle.std.proofs.Common.{◌≡◌, ℕ, zero, suc, List, [], ◌∷◌, refl, sym, ◌∙◌, ap, subst, arith}
use Rattle.std.specs.Prelude.{Contains}
use mathlib.Core.Option.{some, some-injective, some-ne-none}
use lib.ListN.{get_elem?}
use Rattle.atomic_table.specs.Table.{opening}
use Rattle.turn_lock.specs.Turn.{Rule, at_home, Family, FitsHistory, At, IsNamedOnce, alone}
use Rattle.turn_lock.specs.declared.view.Event.{Event}
use Rattle.turn_lock.specs.declared.view.Member.{Member}
use Rattle.turn_lock.specs.declared.view.View.{View}
use Rattle.turn_lock.proofs.Lists.{none_listed, not_both, one_listed}

named : (k : ℕ) (name : List ℕ) → ◌≡◌ {A = List ℕ} [] (k ∷ name) → ⊥
named k name is = cc

module _ {E : Type 0} where
  abbrev first : Member E
  first = record { name = []; made = 0; seen = []; own = [] }

  only_view : (i : ℕ) (v : View E) → get_elem? (alone {E = E} ∷ []) i ≡ some v → (i ≡ 0) × (alone ≡ v)
  only_view zero v is = (refl, some-injective alone v is)
  only_view (suc i) v is = absurd (some-ne-none v (sym is))

  only_member : (i : ℕ) (m : Member E) → At (alone ∷ []) i m → (i ≡ 0) × (first ≡ m)
  only_member i m m_is =
      let view = only_view i m_is.0 m_is.1 in
      (view.0, one_listed first m (subst (λ (x : View E). Contains x.members m) (sym view.1) m_is.2))

  first_family : Family (alone {E = E} ∷ []) []
  first_family = record {
    fits = λ i m m_is. subst (FitsHistory []) (only_member i m m_is).1 (([], refl), refl, refl);
    apart = λ i j m n m_is n_is same. (only_member i m m_is).0 ∙ sym (only_member j n n_is).0;
    once = λ i v v_is. subst (λ (x : View E). IsNamedOnce x.members) (only_view i v v_is).1 (λ n listed. absurd (none_listed n listed));
    known = λ event listed. absurd (none_listed event listed);
    makers = λ i m m_is k name is. absurd (named k name (ap (λ (x : Member E). x.name) (only_member i m m_is).1 ∙ is));
  }

module _ {T E : Type 0} (stood : T → List (Event E) → Type 0) where
  pub opening_rule : (y : T) → stood y [] → Rule stood (opening (0 ∷ []) (y ∷ []) alone)
  opening_rule y stands = record {
    history = [];
    word = refl;
    room = omega arith;
    turned = at_home y refl stands refl (λ i v is. sym (ap (λ (x : View E). x.holds) (only_view i v is).1));
    last = λ i v is ended. absurd (not_both v.ended (sym (ap (λ (x : View E). x.ended) (only_view i v is).1)) ended);
    family = first_family;
  }
