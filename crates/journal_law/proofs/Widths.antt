-- The widths of a journal's groups.
use Rattle.std.proofs.Common.{◌≡◌, inl, inr, ⊎_elim, ℕ, zero, suc, ◌<◌, ◌≤◌, List, Some, sym, ◌∙◌, ap, arith}
use Rattle.std.proofs.lemmas.Bool.{cases_eq, cases_lt}
use Rattle.core_state.specs.declared.item.Group.{Group as GroupItem}
use Rattle.core_state.specs.declared.item.Item.{Item}
use Rattle.core_state.specs.declared.item.Item.TheVariants.{Group}
use Rattle.core_state.specs.Journal.{GroupsAreRight, IsWidthStep}
use Rattle.core_state.specs.Legal.{GroupAt, IsGroupBefore}
use Rattle.journal_law.proofs.GrownGroups.{group_before}

-- A group is no narrower than the one before it.
step_grows : {attached : Type 0} (before next : GroupItem) → IsWidthStep attached before next → before.to ≤ next.to
step_grows before next step = elim step [
  | inl (from, to) ↦ omega (arith, to)
  | inr (inl (expands, from, to)) ↦ omega (arith, to)
  | inr (inr (attached, rests, from, to)) ↦ omega (arith, rests, to)
]

-- Law: the last group before an item is no narrower than any group before that.
pub widths_grow : (items : List Item) → GroupsAreRight items → (index place : ℕ) (one last : GroupItem)
    → GroupAt items place one → place < index → IsGroupBefore items index last → one.to ≤ last.to
widths_grow items right index place one last there low before = by index index (omega arith) last before low
  where
    same_group : (last : GroupItem) → GroupAt items place last → one ≡ last
    same_group last also = same (sym there ∙ also)
      where
        same : Some (Group one) ≡ Some (Group last) → one ≡ last
        same is = cc

    by : (most index : ℕ) → index ≤ most → (last : GroupItem) → IsGroupBefore items index last → place < index
        → one.to ≤ last.to
    by zero index few last before low = absurd (omega (arith, few, low))
    by (suc most) index few last before low = ⊎_elim
        (λ (earlier : place < before.place).
        let previous = group_before items right.first right.there before.place (omega (arith, earlier)) in
        let step = right.each before.place previous.0 last previous.1 before.there in
        let until = by most before.place (let less = before.before in omega (arith, few, less)) previous.0 previous.1 earlier in
        let grows = step_grows previous.0 last step.widths in omega (arith, until, grows))
        (λ (not_earlier : before.place ≤ place). ⊎_elim
        (λ (same : place ≡ before.place).
        let is = same_group last (rw same before.there) in omega (arith, ap (λ (g : GroupItem). g.to) is))
        (λ apart. absurd (before.latest place one (omega (arith, not_earlier, apart)) low there)) (cases_eq place before.place))
        (cases_lt place before.place)
