use Rattle.std.proofs.Common.{◌≡◌, ℕ, List, ◌∷◌, [], ◌++◌, sym, ◌∙◌, ap, subst, refl}
use Rattle.std.specs.Prelude.{◌↔◌, IsErrOf}
use Rattle.std.specs.List.Sorted.{IsPermutation}
use Rattle.std.proofs.lemmas.Result.{err_from_is_err_and}
use Rattle.space_alloc.specs.Space.{Space, IsFreeRun}
use Rattle.block_table.specs.Table.{IsFull, Table, without_one}
use Rattle.core_blocks.specs.declared.refused.PutRefused.TheVariants.{Full}
use Rattle.core_blocks.specs.Blocks.{AreUnderWay, Blocks, layout_run}
use Rattle.core_blocks.specs.Puts.{IsAsBefore, IsPutCause, sectors_taken}
use Rattle.core_blocks.specs.Kept.{IsInUsePast, NoneFree, SparesAll}
use Rattle.core_blocks.proofs.Steps.{with_parts, begun_step, refused_step, begun_under_way}
use Rattle.core_blocks.proofs.Keeping.{kept_where, in_use_taking, free_spares}
use Rattle.core_blocks.proofs.Beginning.{err_iff, has_room, made_and_ended, space_cause, space_full, table_full}
use Rattle.core_blocks.proofs.UnderWay.{begun_under, refused_under}
use Rattle.core_blocks.proofs.KeptPage.{page_stays}
use Rattle.core_blocks.proofs.blocks.Blocks.begin_put.Goals as goal

pub returns-in_err-reserve_id-clause-kept : goal.returns-in_err-reserve_id-clause-kept
returns-in_err-reserve_id-clause-kept c past kept free =
    kept_where (with_parts c.self.inside.parity c.self.inside.births c.self.inside.table
    c.self.inside.space) _ past kept refl refl (λ entry sector listed inside used. used)
    (subst (λ (b : Blocks). NoneFree b past kept) (sym c.self.view_is) free)

free_run : (c : goal.In-Ok) → (let run = layout_run c.in-Ok.layout in
    IsFreeRun c.self.inside.space c.args.locks.now run.start run.len)
free_run c = c.in-Ok.ensures.first.free

pub invariant_of-self-in-Ok : goal.invariant_of-self-in-Ok
invariant_of-self-in-Ok c = (
  begun_step c.self.inside.parity c.self.inside.births c.self.inside.table
      c.reserve_id.new.self c.self.inside.space c.take.new.space c.args.locks.now
      (layout_run c.in-Ok.layout) c.in-Ok.ensures.some c.self.invariant.0
      (ap (λ (t : Table). t.entries) c.in_ok-reserve_id.ensures.ok) (free_run c)
      c.in-Ok.ensures.taken,
  page_stays c.self.inside.page (ap (λ (t : Table). t.entries) c.in_ok-reserve_id.ensures.ok) c.self.invariant.1,
)

entries_left : (c : goal.After-into) → c.release_id.new.self.entries ≡ c.self.inside.table.entries
entries_left c = ap (λ (t : Table). t.entries) c.release_id.ensures.value
    ∙ ap (λ (t : Table). t.entries) c.in_ok-reserve_id.ensures.ok

pub invariant_of-self-in-Err : goal.invariant_of-self-in-Err
invariant_of-self-in-Err c = (
  refused_step c.self.inside.parity c.self.inside.births c.self.inside.table
      c.release_id.new.self c.self.inside.space c.take.new.space c.self.invariant.0 (entries_left c)
      c.in-Err.ensures.err,
  page_stays c.self.inside.page (entries_left c) c.self.invariant.1,
)

pub returns-in-Ok-clause-under_way : goal.returns-in-Ok-clause-under_way
returns-in-Ok-clause-under_way c =
    begun_under_way c.self.inside.parity c.self.inside.births c.self.inside.table
    c.reserve_id.new.self c.self.inside.space c.take.new.space c.args.locks.now
    (record { id = c.args.id; birth = c.args.group; layout = c.in-Ok.layout }) c.self.invariant.0
    (ap (λ (t : Table). t.entries) c.in_ok-reserve_id.ensures.ok) (free_run c)
    c.in-Ok.ensures.listed c.in_ok-reserve_id.ensures.reserved

pub returns-in-Ok-clause-kept : goal.returns-in-Ok-clause-kept
returns-in-Ok-clause-kept c past kept free =
    kept_where (with_parts c.self.inside.parity c.self.inside.births c.self.inside.table
    c.self.inside.space) _ past kept refl refl
    (λ entry sector listed inside used. in_use_taking c.self.inside.space c.take.new.space
    (layout_run c.in-Ok.layout) past sector c.in-Ok.ensures.taken used)
    (subst (λ (b : Blocks). NoneFree b past kept) (sym c.self.view_is) free)

pub returns-in-Ok-clause-spares : goal.returns-in-Ok-clause-spares
returns-in-Ok-clause-spares c past kept free =
    subst (λ (b : Blocks). SparesAll b.parity b.births kept (layout_run c.in-Ok.layout))
    c.self.view_is
    (free_spares (with_parts c.self.inside.parity c.self.inside.births c.self.inside.table
    c.self.inside.space) c.args.locks.now (layout_run c.in-Ok.layout) past kept (free_run c)
    (subst (λ (b : Blocks). NoneFree b past kept) (sym c.self.view_is) free))

pub returns-in-Err-clause-cause : goal.returns-in-Err-clause-cause
returns-in-Err-clause-cause c =
    subst (λ (b : Blocks). IsPutCause b c.args.locks.now c.args.id
    (sectors_taken b.parity b.births c.args.len_bytes c.args.group) c.into.result)
    c.self.view_is
    (rw c.into.ensures (space_cause (with_parts c.self.inside.parity c.self.inside.births
    c.self.inside.table c.self.inside.space) c.args.locks.now c.args.id
    (sectors_taken c.self.inside.parity c.self.inside.births c.args.len_bytes c.args.group)
    c.in-Err.refused c.in-Err.ensures.cause))

pub returns-in_err-reserve_id-clause-cause_full : goal.returns-in_err-reserve_id-clause-cause_full
returns-in_err-reserve_id-clause-cause_full c =
    let p = err_from_is_err_and c.from_residual.result c.from_residual.ensures.1 in
    let iff = table_full (with_parts c.self.inside.parity c.self.inside.births
    c.self.inside.table c.self.inside.space) c.args.id c.in_err-reserve_id.field-0.0
    c.reserve_id.result c.in_err-reserve_id.was c.reserve_id.ensures.cause_full in
    subst (λ (b : Blocks). IsErrOf c.from_residual.result Full ↔ IsFull b.table c.args.id)
    c.self.view_is
    (err_iff c.from_residual.result p.0 Full (IsFull c.self.inside.table c.args.id) p.1
    (λ same. iff.0 (sym p.2 ∙ same), λ all. p.2 ∙ iff.1 all))

pub returns-in-Ok-clause-cause_full : goal.returns-in-Ok-clause-cause_full
returns-in-Ok-clause-cause_full c = (
  λ same. cc,
  λ all. absurd (has_room c.self.inside.table c.args.self.now.table c.args.id
      c.reserve_id.result (ap (λ (b : Blocks). b.table) c.self.view_is) c.in_ok-reserve_id.was
      c.reserve_id.ensures.cause_full all),
)

pub returns-in-Err-clause-cause_full : goal.returns-in-Err-clause-cause_full
returns-in-Err-clause-cause_full c =
    err_iff _ c.into.result Full (IsFull c.args.self.now.table c.args.id) refl (
      λ same. absurd (space_full c.in-Err.refused (sym c.into.ensures ∙ same)),
      λ all. absurd (has_room c.self.inside.table c.args.self.now.table c.args.id
          c.reserve_id.result (ap (λ (b : Blocks). b.table) c.self.view_is) c.in_ok-reserve_id.was
          c.reserve_id.ensures.cause_full all),
    )

pub returns-in-Err-clause-err : goal.returns-in-Err-clause-err
returns-in-Err-clause-err c =
    let ended : c.release_id.new.self.reserved
    ≡ without_one c.args.id (c.self.inside.table.reserved ++ c.args.id ∷ []) =
    ap (λ (t : Table). t.reserved) c.release_id.ensures.value
    ∙ ap (λ (t : Table). without_one c.args.id t.reserved) c.in_ok-reserve_id.ensures.ok in
    subst (λ (b : Blocks). IsAsBefore b (with_parts c.self.inside.parity c.self.inside.births
    c.release_id.new.self c.take.new.space)) c.self.view_is (record {
      parity = refl;
      births = refl;
      entries = entries_left c;
      reserved = subst (λ (left : List ℕ). IsPermutation c.self.inside.table.reserved left)
          (sym ended) (made_and_ended c.args.id c.self.inside.table.reserved);
      space = c.in-Err.ensures.err;
    })

pub returns-in-Err-clause-kept : goal.returns-in-Err-clause-kept
returns-in-Err-clause-kept c past kept free =
    kept_where (with_parts c.self.inside.parity c.self.inside.births c.self.inside.table
    c.self.inside.space) _ past kept refl refl
    (λ entry sector listed inside used. subst (λ (s : Space). IsInUsePast s past sector)
    (sym c.in-Err.ensures.err) used)
    (subst (λ (b : Blocks). NoneFree b past kept) (sym c.self.view_is) free)

pub returns-in_err-reserve_id-clause-under_err : goal.returns-in_err-reserve_id-clause-under_err
returns-in_err-reserve_id-clause-under_err c =
    let p = err_from_is_err_and c.from_residual.result c.from_residual.ensures.1 in
    rw p.1 (λ ranges under. subst (λ (t : Table). AreUnderWay (with_parts c.self.inside.parity
    c.self.inside.births t c.self.inside.space) ranges) (sym c.in_err-reserve_id.ensures.err)
    (subst (λ (b : Blocks). AreUnderWay b ranges) (sym c.self.view_is) under))

pub returns-in-Ok-clause-under : goal.returns-in-Ok-clause-under
returns-in-Ok-clause-under c ranges under =
    begun_under c.self.inside.parity c.self.inside.births c.self.inside.table
    c.reserve_id.new.self c.self.inside.space c.take.new.space c.args.locks.now
    (record { id = c.args.id; birth = c.args.group; layout = c.in-Ok.layout }) ranges
    (ap (λ (t : Table). t.entries) c.in_ok-reserve_id.ensures.ok)
    (ap (λ (t : Table). t.reserved) c.in_ok-reserve_id.ensures.ok) (free_run c)
    c.in-Ok.ensures.taken (returns-in-Ok-clause-under_way c)
    (subst (λ (b : Blocks). AreUnderWay b ranges) (sym c.self.view_is) under)

pub returns-in-Err-clause-under_err : goal.returns-in-Err-clause-under_err
returns-in-Err-clause-under_err c ranges under =
    let ended : c.release_id.new.self.reserved
    ≡ without_one c.args.id (c.self.inside.table.reserved ++ c.args.id ∷ []) =
    ap (λ (t : Table). t.reserved) c.release_id.ensures.value
    ∙ ap (λ (t : Table). without_one c.args.id t.reserved) c.in_ok-reserve_id.ensures.ok in
    refused_under c.self.inside.parity c.self.inside.births c.self.inside.table
    c.release_id.new.self c.self.inside.space c.take.new.space ranges (entries_left c)
    (subst (λ (left : List ℕ). IsPermutation c.self.inside.table.reserved left) (sym ended)
    (made_and_ended c.args.id c.self.inside.table.reserved))
    c.in-Err.ensures.err
    (subst (λ (b : Blocks). AreUnderWay b ranges) (sym c.self.view_is) under)

pub returns-in-Ok-clause-stays : goal.returns-in-Ok-clause-stays
returns-in-Ok-clause-stays c = (invariant_of-self-in-Ok c).0

pub returns-in-Err-clause-stays : goal.returns-in-Err-clause-stays
returns-in-Err-clause-stays c = (invariant_of-self-in-Err c).0
