-- A space of which the blocks of an index take their sectors, one after the other.
use Rattle.std.proofs.Common.{◌≡◌, ◌⊎◌, ℕ, ◌+◌, ◌<◌, ◌≤◌, List, [], ◌∷◌, ◌++◌, length, take, get_or, sym, ◌∙◌, subst}
use Rattle.std.proofs.Common.{arith, ⊎_elim}
use Rattle.std.specs.Prelude.{All, AllPairs, Contains}
use Rattle.std.proofs.lemmas.List.{take_more, get_or-take, get_or_default, length-take-le}
use Rattle.std.proofs.lemmas.List.Elements.{Contains-append_left, Contains-push, Contains-push_cases}
use Rattle.width_map.specs.declared.birth.Birth.{Birth}
use Rattle.space_alloc.specs.Space.{Run, HeldRun, Space, IsIn, IsFreeRun, IsTaking}
use Rattle.block_record.specs.declared.entry.IndexEntry.{IndexEntry}
use Rattle.core_state.specs.Index.{AreApart, block_end}
use Rattle.core_blocks.specs.Runs.{AreClear}
use Rattle.core_blocks.specs.Blocks.{run_of}
use Rattle.core_blocks.specs.Loading.{IsTakenBy}
use Rattle.core_blocks.proofs.Lists.{gains_old, gains_item, gains_cases, none_listed}
use Rattle.core_blocks.proofs.Runs.{spread_taking}

-- One of them ends before the other begins.
abbrev pub AreOrdered : Run → Run → Type 0
AreOrdered one other =
    (one.start + one.len ≤ other.start) ⊎ (other.start + other.len ≤ one.start)

pub ordered_clear : (one other : Run) → AreOrdered one other → AreClear one other
ordered_clear one other order sector inside there = ⊎_elim
    (λ before. omega (arith, inside.1, there.0, before))
    (λ behind. omega (arith, inside.0, there.1, behind)) order

-- What holds of all pairs holds of an item among the first and the next.
pair_with_next : {T : Type 0} (R : T → T → Type 0) (xs : List T) (index : ℕ) (x d : T)
    → AllPairs R xs → index < length xs → Contains (take index xs) x → R x (get_or xs index d)
pair_with_next {T} R xs index x d pairs within listed =
    let short : listed.0 < index =
    omega (arith, listed.1, length-take-le index xs (omega (arith, within))) in
    let is : get_or xs listed.0 d ≡ x =
    get_or_default xs listed.0 d x (omega (arith, short, within))
    ∙ sym (get_or-take index xs listed.0 x short) ∙ listed.2 in
    subst (λ (y : T). R y (get_or xs index d)) is (pairs listed.0 index d short within)

module _ (parity : ℕ) (births : List Birth) (capacity : ℕ) (entries : List IndexEntry) where
  module _ (space : Space) (index : ℕ) (d : IndexEntry) (within : index < length entries)
      (below : All (λ entry. block_end parity births entry ≤ capacity) entries)
      (apart : AreApart parity births entries)
      (claimed : IsTakenBy parity births capacity (take index entries) space) where
    -- The sectors of the next block are free.
    pub next_free : (let run : Run = run_of parity births (get_or entries index d) in
        IsFreeRun space [] run.start run.len)
    next_free sector inside =
        let entry : IndexEntry = get_or entries index d in
        let end : block_end parity births entry ≤ capacity = below index d within in
        record {
          below = omega (arith, inside.1, end, claimed.size);
          untaken = λ taken.
              let block = claimed.only taken.0 taken.1 in
              ordered_clear (run_of parity births block.0) (run_of parity births entry)
              (pair_with_next (λ one other.
              AreOrdered (run_of parity births one) (run_of parity births other)) entries index
              block.0 d apart within block.1)
              sector
              (subst (λ (run : Run). IsIn run.start run.len sector) (sym block.2) taken.2)
              inside;
          not_held = λ back. none_listed back.0
              (subst (λ (l : List HeldRun). Contains l back.0) claimed.held back.1);
          not_shared = λ shared. none_listed shared.0 shared.1;
        }

    -- One block more has its sectors.
    pub claimed_more : (later : Space)
        → (let run : Run = run_of parity births (get_or entries index d) in
        (0 < run.len) × IsTaking space later run.start run.len)
        → IsTakenBy parity births capacity (take (index + 1) entries) later
    claimed_more later taking =
        let entry : IndexEntry = get_or entries index d in
        let run : Run = run_of parity births entry in
        let grown : take (index + 1) entries ≡ take index entries ++ entry ∷ [] =
        take_more entries index d within in
        subst (λ (l : List IndexEntry). IsTakenBy parity births capacity l later) (sym grown)
        (record {
          size = taking.1.capacity ∙ claimed.size;
          held = taking.1.held ∙ claimed.held;
          spread = spread_taking space later [] run taking.0 next_free taking.1 claimed.spread;
          taken = λ other listed. ⊎_elim
              (λ was. gains_old space.taken later.taken run (run_of parity births other)
              taking.1.taken (claimed.taken other was))
              (λ same. subst
              (λ (e : IndexEntry). Contains later.taken (run_of parity births e)) same
              (gains_item space.taken later.taken run taking.1.taken))
              (Contains-push_cases (take index entries) entry other listed);
          only = λ other listed. ⊎_elim
              (λ same. (entry, Contains-push (take index entries) entry, same))
              (λ was. let block = claimed.only other was in (
                block.0,
                Contains-append_left (take index entries) (entry ∷ []) block.0 block.1,
                block.2,
              ))
              (gains_cases space.taken later.taken run other taking.1.taken listed);
        })
