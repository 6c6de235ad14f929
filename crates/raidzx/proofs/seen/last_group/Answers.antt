use Rattle.std.proofs.Common.{◌≡◌, ℕ, ◌+◌, List, Option, Some, refl, sym, ◌∙◌, ap, subst, arith, length}
use Rattle.std.specs.Prelude.{slice_get}
use Rattle.std.proofs.lemmas.Option.{slice_get_read}
use Rattle.core_state.specs.declared.item.Item.{Item}
use Rattle.raidzx.specs.ForGood.{IsLastBefore}
use Rattle.raidzx.proofs.LastGroups.{last_is, last_stays}
use Rattle.raidzx.proofs.seen.last_group.Goals as goal
use Rattle.raidzx.proofs.seen.last_group.Goals.{in-Group, in_default}

pub loop-item-preserved : goal.loop-item-preserved
loop-item-preserved c =
    let items = c.as_slice-item-items.result.now in
    let index = c.loop-item.item-index in
    let there : slice_get items index ≡ Some c.item-item.result =
    slice_get_read items (length items) index c.item-item.result refl (omega arith) c.item-item.is in
    elim c.match-item.branch [
      | in-Group w ↦ subst (λ (last : Option ℕ). IsLastBefore items (index + 1) last) (sym w.last-is)
          (last_is items index w.in-Group.group (there ∙ ap (λ (item : Item). Some item) w.in-Group.is))
      | in_default w ↦ subst (λ (last : Option ℕ). IsLastBefore items (index + 1) last) (sym w.last-is)
          (last_stays items index w.in_default.field-0 (there ∙ ap (λ (item : Item). Some item) w.in_default.is)
          c.loop-item.last c.loop-item.invariant)
    ]

pub returns : goal.returns
returns c =
    let items = c.as_slice-item-items.result.now in
    let end : c.loop-item.item-index ≡ length items = omega arith in
    subst (λ (list : List Item). IsLastBefore list (length list) c.loop-item.last) c.as_slice-item-items.ensures.value
    (subst (λ index. IsLastBefore items index c.loop-item.last) end c.loop-item.invariant)
