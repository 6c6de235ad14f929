use Rattle.std.proofs.Common.{◌≡◌, ◌≢◌, ◌⊎◌, ⊎_elim, ℕ, ◌<◌, List, length, true, sym, ◌∙◌, ap, get_or-set_same}
use Rattle.std.proofs.Common.{get_or-set_other}
use Rattle.std.specs.Prelude.{slice_index, slice_set}
use Rattle.std.proofs.lemmas.Bool.{cases_eq}
use Rattle.std.proofs.lemmas.List.{length-set}
use Rattle.smallvec.specs.SmallVec.{SmallVec, with_items}
use Rattle.smallvec.proofs.SmallVecLemmas.{items-with_items}
use Rattle.gf_solve.specs.Row.{is_masked}
use Rattle.uberblock_ring.specs.Devices.{with_device}
use Rattle.uberblock_ring.proofs.DeviceSets.{has_with, others_with}
use Rattle.core_client.proofs.columns_read.ColumnsRead.lose.Goals as goal

-- A mask of a list is with one column more.
lost_here : (masks : List ℕ) (row column mask : ℕ) → row < length masks → mask ≡ with_device (slice_index masks row) column
    → is_masked (slice_index (slice_set masks row mask) row) column ≡ true
lost_here masks row column mask below is =
    ap (λ (m : ℕ). is_masked m column) (get_or-set_same masks row mask 0 below ∙ is) ∙ has_with (slice_index masks row) column

others_stay : (masks : List ℕ) (row column mask : ℕ) → row < length masks → mask ≡ with_device (slice_index masks row) column
    → (other_row other : ℕ) → (other_row ≢ row) ⊎ (other ≢ column)
    → is_masked (slice_index (slice_set masks row mask) other_row) other ≡ is_masked (slice_index masks other_row) other
others_stay masks row column mask below is other_row other apart = ⊎_elim
    (λ (same : other_row ≡ row).
    let differs : other ≢ column = λ (one : other ≡ column). ⊎_elim (λ ne. ne same) (λ ne. ne one) apart in
    ap (λ (r : ℕ). is_masked (slice_index (slice_set masks row mask) r) other) same
    ∙ ap (λ (m : ℕ). is_masked m other) (get_or-set_same masks row mask 0 below ∙ is)
    ∙ others_with (slice_index masks row) column other differs
    ∙ ap (λ (r : ℕ). is_masked (slice_index masks r) other) (sym same))
    (λ (differs : other_row ≢ row).
    ap (λ (m : ℕ). is_masked m other) (get_or-set_other masks row other_row mask 0 differs))
    (cases_eq other_row row)

-- What is written through the masks is what they are then.
written : (masks : SmallVec ℕ) (shown : List ℕ) (row mask : ℕ) → shown ≡ masks.items
    → (with_items masks (slice_set shown row mask)).items ≡ slice_set masks.items row mask
written masks shown row mask same =
    items-with_items masks (slice_set shown row mask) (length-set shown row mask ∙ ap length same)
    ∙ ap (λ (l : List ℕ). slice_set l row mask) same

pub returns-clause-here : goal.returns-clause-here
returns-clause-here c =
    let masks = c.args.self.now.lost in
    ap (λ (l : List ℕ). is_masked (slice_index l c.args.row) c.args.column) (written masks c.deref_mut.result.now c.args.row c.with_column.result c.deref_mut.ensures.value)
    ∙ lost_here masks.items c.args.row c.args.column c.with_column.result c.requires.row
    (c.with_column.ensures ∙ ap (λ (l : List ℕ). with_device (slice_index l c.args.row) c.args.column) c.deref.ensures)

pub returns-clause-others : goal.returns-clause-others
returns-clause-others c = λ other_row other apart.
    let masks = c.args.self.now.lost in
    ap (λ (l : List ℕ). is_masked (slice_index l other_row) other) (written masks c.deref_mut.result.now c.args.row c.with_column.result c.deref_mut.ensures.value)
    ∙ others_stay masks.items c.args.row c.args.column c.with_column.result c.requires.row
    (c.with_column.ensures ∙ ap (λ (l : List ℕ). with_device (slice_index l c.args.row) c.args.column) c.deref.ensures) other_row other apart
