-- A loaded index is in step with the sectors that its blocks have taken.
use Rattle.std.proofs.Common.{◌≡◌, ◌≢◌, ℕ, ◌≤◌, ◌^◌, List, get_or, sym, ◌∙◌, ap, subst, arith, inl, inr, ⊎_elim}
use Rattle.std.specs.Prelude.{AllPairs, Contains}
use Rattle.std.proofs.lemmas.Bool.{cases_lt, cases_eq}
use Rattle.std.proofs.lemmas.List.{get_or_default}
use Rattle.std.proofs.lemmas.List.Elements.{All-contains}
use Rattle.width_map.specs.declared.birth.Birth.{Birth}
use Rattle.space_alloc.specs.Space.{Run, Space}
use Rattle.block_record.specs.declared.entry.IndexEntry.{IndexEntry}
use Rattle.block_record.specs.Page.{IsIndex, IsRightEntry}
use Rattle.block_table.specs.Table.{Table}
use Rattle.core_state.specs.Index.{AreApart}
use Rattle.core_blocks.specs.Runs.{IsInside}
use Rattle.core_blocks.specs.Blocks.{AreInStep, HasLayouts, run_of}
use Rattle.core_blocks.specs.Loading.{IsTakenBy}
use Rattle.core_blocks.proofs.Listed.{found_among}
use Rattle.core_blocks.proofs.Claimed.{AreOrdered, ordered_clear}
use Rattle.core_blocks.proofs.Steps.{with_parts}

-- What holds of all pairs, in either order, holds of two items that differ.
two_listed : {T : Type 0} (R : T → T → Type 0) (xs : List T) (x y : T)
    → ((one other : T) → R one other → R other one) → AllPairs R xs → Contains xs x
    → Contains xs y → x ≢ y → R x y
two_listed {T} R xs x y turn pairs here there differ =
    let second : get_or xs there.0 x ≡ y = get_or_default xs there.0 x y there.1 ∙ there.2 in
    ⊎_elim
    (λ before. subst (λ (z : T). R z y) here.2
    (subst (λ (z : T). R (get_or xs here.0 x) z) second
    (pairs here.0 there.0 x before there.1)))
    (λ behind. ⊎_elim
    (λ same. absurd (differ (sym here.2 ∙ ap (λ (k : ℕ). get_or xs k x) same ∙ second)))
    (λ apart. turn y x (subst (λ (z : T). R z x) second
    (subst (λ (z : T). R (get_or xs there.0 x) z) here.2
    (pairs there.0 here.0 x (omega (arith, behind, apart)) here.1))))
    (cases_eq here.0 there.0))
    (cases_lt here.0 there.0)

ordered_turned : (one other : Run) → AreOrdered one other → AreOrdered other one
ordered_turned one other order = ⊎_elim (λ before. inr before) (λ behind. inl behind) order

pub loaded_step : (parity : ℕ) (births : List Birth) (capacity : ℕ) (table : Table) (space : Space)
    → HasLayouts parity births → capacity ≤ 2 ^ 54 → IsIndex table.entries
    → AreApart parity births table.entries
    → IsTakenBy parity births capacity table.entries space
    → AreInStep (with_parts parity births table space)
loaded_step parity births capacity table space layouts small index apart claimed = record {
  layouts = layouts;
  small = omega (arith, small, claimed.size);
  spread = claimed.spread;
  each = λ entry listed.
      let among : Contains table.entries entry = found_among table.entries entry.id entry listed in
      let inside : IsInside space.capacity (run_of parity births entry) =
      claimed.spread.inside (run_of parity births entry) (claimed.taken entry among) in
      record {
        right = All-contains IsRightEntry table.entries entry index.each among;
        start = omega (arith, inside.some, inside.below, claimed.size, small);
        taken = claimed.taken entry among;
      };
  apart = λ one other listed also differ.
      ordered_clear (run_of parity births one) (run_of parity births other)
      (two_listed (λ x y. AreOrdered (run_of parity births x) (run_of parity births y))
      table.entries one other
      (λ x y order. ordered_turned (run_of parity births x) (run_of parity births y) order) apart
      (found_among table.entries one.id one listed)
      (found_among table.entries other.id other also)
      (λ same. differ (ap (λ (e : IndexEntry). e.id) same)));
}
