use Rattle.std.proofs.Common.{◌≡◌, sym, subst, arith, List}
use Rattle.width_map.specs.declared.birth.Birth.{Birth}
use Rattle.width_map.specs.Births.{width_of_birth, IsGrowing}
use Rattle.width_map.proofs.Growing.{older_keep, births_after_grow}
use Rattle.width_map.proofs.Tables.{has_place, last_fits, table_more, added}
use Rattle.width_map.proofs.births.Births.add.Goals as goal

pub overflow_add-width : goal.overflow_add-width
overflow_add-width c = let narrow = last_fits _ _ _ c.self.invariant c.self.view_is c.requires.narrow in omega (arith, narrow)

pub invariant_of-self : goal.invariant_of-self
invariant_of-self c =
    table_more _ _ _ c.self.invariant (has_place _ _ _ c.self.invariant c.self.view_is c.requires.room)

pub returns-clause-value : goal.returns-clause-value
returns-clause-value c = added _ _ _ c.args.group c.self.invariant c.self.view_is c.requires.room

pub returns-clause-older : goal.returns-clause-older
returns-clause-older c = λ birth below.
    subst (λ (births : List Birth). width_of_birth births birth ≡ width_of_birth c.args.self.now birth)
    (sym (added _ _ _ c.args.group c.self.invariant c.self.view_is c.requires.room))
    (older_keep c.args.self.now c.args.group birth below)

pub returns-clause-grows : goal.returns-clause-grows
returns-clause-grows c = λ grows none.
    subst IsGrowing (sym (added _ _ _ c.args.group c.self.invariant c.self.view_is c.requires.room))
    (births_after_grow c.args.self.now c.args.group grows none)
