-- A core of which devices went out, and its bank.
use Rattle.core_turns.proofs.Words.{List, Bool, true, false, ◌≡◌, ℕ, Option, ◌+◌, ◌^◌, ◌<◌, ◌≤◌, arith, Disk, Reflow}
use Rattle.core_turns.proofs.Words.{Hold, IsWithin, Uber, IndexEntry, Blocks, AreInStep, IsListed, HasPool, Pool}
use Rattle.core_turns.proofs.Words.{IsPool, HasBank, Core, HasBankOf, HasTooManyOut, IsCore}
use Rattle.core_turns.proofs.state.Holds.{SameAlone}

-- a core of these parts
abbrev pub core_with : Uber → Blocks → ℕ → ℕ → List Hold → ℕ → Option ℕ → Option ℕ → Option ℕ → Option ℕ → ℕ → Core
core_with uber blocks out done holds begun committing copying attaching scrubbing reach = record {
  pool = record { uber = uber; blocks = blocks; out = out; done = done };
  holds = holds;
  begun = begun;
  committing = committing;
  copying = copying;
  attaching = attaching;
  scrubbing = scrubbing;
  reach = reach;
}

-- More devices may be out.
pub pool_out : (pool : Pool) (out : ℕ) → IsPool pool → IsWithin pool.out out → IsPool (record pool { out = out })
pool_out pool out is within = search arith

-- so may those of a core.
pub core_out : (core : Core) (out : ℕ) → IsCore core → out < 2 ^ core.reach → IsWithin core.pool.out out
    → IsCore (record core { pool = record core.pool { out = out } })
core_out core out is below within = search (pool_out, arith)

-- Not too many are out where a test of the same core says so.
pub few_out : {core now : Core} {test : Bool} → core ≡ now → (HasTooManyOut now → test ≡ true) → test ≡ false
    → HasTooManyOut core → ⊥
few_out same says fails many = cc (says (rw same at many))

-- Shared holds come or go.
pub core_held : {core : Core} {holds : List Hold} → IsCore core → SameAlone core.holds holds
    → IsCore (record core { holds = holds })
core_held is same = search arith

-- The bank has what the pool's own devices are asked for.
pub bank_within : (core : Core) (disk : Disk) → IsCore core → HasBankOf core disk
    → HasBank core.pool.uber core.pool.out disk
bank_within core disk is bank = search arith

-- The bank of a pool has what a block's calls ask for.
pub bank_has : (uber : Uber) {reflow : Reflow} {out : ℕ} {disk : Disk} → reflow ≡ uber.reflow → HasBank uber out disk
    → HasPool reflow out disk
bank_has uber same bank = search arith

-- One whose blocks are others is a core still where they have the same widths and as many sectors, and no block is born
-- after the open group. Holds that come or go are shared.
pub core_blocks : {core : Core} {blocks : Blocks} {holds : List Hold} → IsCore core
    → blocks.parity ≡ core.pool.blocks.parity → blocks.births ≡ core.pool.blocks.births
    → blocks.space.capacity ≡ core.pool.blocks.space.capacity
    → ((entry : IndexEntry) → IsListed blocks.table.entries entry → entry.birth ≤ core.begun + 1) → AreInStep blocks
    → SameAlone core.holds holds → IsCore (record core { pool = record core.pool { blocks = blocks }; holds = holds })
core_blocks is parity births capacity born step same = search arith
