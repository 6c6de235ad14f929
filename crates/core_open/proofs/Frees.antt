-- What a free makes of the pool.
use Rattle.std.proofs.Common.{◌≡◌, ⊎_elim, ℕ, List, Option, Some, None, refl, sym, ◌∙◌, subst, arith}
use Rattle.std.proofs.lemmas.Bool.{cases_eq}
use Rattle.std.proofs.lemmas.Bool.Decides.{nat_tests}
use Rattle.bank_trait.specs.Disk.{Disk}
use Rattle.block_table.specs.Table.{ChangesOnly, entry_of}
use Rattle.core_state.specs.Map.{Map, with_block}
use Rattle.core_state.specs.Whole.{Excepted}
use Rattle.core_blocks.specs.Blocks.{Blocks}
use Rattle.core_open.specs.Pool.{Pool, State, HoldsMap, state_of}
use Rattle.core_open.proofs.Holding.{free_holds}

-- An id that the table doesn't have isn't in the map, which is then as if it had been taken away.
pub absent_without : {wrong : Excepted} (map : Map) (state : State) (id : ℕ) → HoldsMap wrong map state
    → entry_of state.pool.blocks.table.entries id ≡ None → with_block map (Some id) None ≡ map
absent_without map state id holds absent = λ i other. each other i
  where
    none_held : (held : Option (List ℕ)) → map id ≡ held → held ≡ None
    none_held None is = refl
    none_held (Some content) is =
        let there = holds.table.every id content is in
        let never : Some there.0 ≡ None = sym there.1 ∙ absent in absurd (cc)

    each : (other : ℕ) → with_block map (Some id) None other ≡ map other
    each other = ⊎_elim
        (λ same. let none : map id ≡ None = none_held (map id) refl in grind (arith, nat_tests, same, none))
        (λ apart. grind (arith, nat_tests, apart))
        (cases_eq other id)

-- What the pool holds once the block of an id is taken away,
pub freed_holds : {wrong : Excepted} (map : Map) (pool : Pool) (blocks : Blocks) (disk : Disk) (id : ℕ)
    → ChangesOnly pool.blocks.table.entries blocks.table.entries id None → HoldsMap wrong map (state_of pool disk)
    → HoldsMap wrong (with_block map (Some id) None) (state_of (record pool { blocks = blocks }) disk)
freed_holds map pool blocks disk id change holds =
    free_holds map (state_of pool disk) (state_of (record pool { blocks = blocks }) disk) id refl refl refl refl change holds

-- and where there was none.
pub none_freed_holds : {wrong : Excepted} (map : Map) (pool : Pool) (blocks : Blocks) (disk : Disk) (id : ℕ)
    → ChangesOnly pool.blocks.table.entries blocks.table.entries id None
    → entry_of pool.blocks.table.entries id ≡ None → HoldsMap wrong map (state_of pool disk)
    → HoldsMap wrong map (state_of (record pool { blocks = blocks }) disk)
none_freed_holds {wrong} map pool blocks disk id change absent holds =
    subst (λ (m : Map). HoldsMap wrong m (state_of (record pool { blocks = blocks }) disk))
    (absent_without map (state_of pool disk) id holds absent)
    (freed_holds map pool blocks disk id change holds)
