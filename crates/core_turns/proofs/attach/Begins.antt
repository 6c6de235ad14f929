-- The commit of an attach begins: its group may be made with the new device, which is free.
use Rattle.core_turns.proofs.Words.{◌≡◌, ℕ, ◌≤◌, List, [], ◌∷◌, Some, None, sym, ◌∙◌, ap, arith, All-cons, All-nil}
use Rattle.core_turns.proofs.Words.{FreeDevice, Disk, Lawful, Uber, HasReadRing, Map, Kept, Setting, IsWidenable}
use Rattle.core_turns.proofs.Words.{reach_less, Laid, JoinRun, GuestSoFar, free_is_blank, Chooses, KeepsOrEnds, Checked}
use Rattle.core_turns.proofs.Words.{Joins, Core, CoreState, IsCore, at_disk, BeginsJoining, HasNewDevice, HoldsAttach}
use Rattle.core_turns.proofs.Words.{Damage, IsAttachRunOf, HoldingCall, AreCallsOf, Stands}
use Rattle.core_turns.proofs.attach.Turns.{rest_records}
use Rattle.core_turns.proofs.sync.Begins.{few_out}
use Rattle.core_turns.proofs.sync.Stands.{commit_begins_stands}

-- ---- how far the pool reaches

-- so far and no further
abbrev pub reaching_to : Setting → ℕ → Setting
reaching_to setting reach = record setting { reach = reach }

-- Where no commit is under way the pool reaches as far as its last group does.
pub narrow_stands : {setting : Setting} {last : Kept} {map : Map} {damage : Damage} {contents : ℕ → List ℕ} {calls : List HoldingCall}
    {state : CoreState} → Stands setting last [] map damage contents calls None state
    → Stands (reaching_to setting state.core.pool.uber.reflow.to) last [] map damage contents calls None state
narrow_stands {setting} {last} {state = state} stands =
    let IsNarrow : Kept → Type 0 = λ kept. kept.uber.reflow.to ≤ state.core.pool.uber.reflow.to in
    let width_is = ap (λ (u : Uber). u.reflow.to) stands.alike in
    let most = (stands.groups.knows.row.widths 0 last (omega arith)).most in
    let alone = All-cons IsNarrow last [] (omega arith) (All-nil IsNarrow) in
    search (reach_less, most, width_is, alone)

-- ---- its first turn

module _ {setting : Setting} {last : Kept} {begun : List Kept} {map : Map} {damage : Damage} {contents : ℕ → List ℕ}
    {calls : List HoldingCall} {before after : CoreState} {join : JoinRun} (found : FreeDevice) (is : IsCore before.core)
    (lawful : Lawful before.disk) (of : IsAttachRunOf before.core (Checked found))
    (there : HasNewDevice before.disk (Checked found)) (joins : BeginsJoining before after join)
    (are : AreCallsOf before.core calls) (stands : Stands setting last begun map damage contents calls None before)
    (read : HasReadRing before.disk found.ring) where
  abbrev width : ℕ
  width = before.core.pool.uber.reflow.to

  abbrev narrow : Setting
  narrow = reaching_to setting width

  alone : Stands narrow last [] map damage contents calls None before
  alone = narrow_stands (rw (stands.groups.whole (few_out before.core joins.begins.few)).0 at stands)

  begins : (next : Kept) × (next.map ≡ map) × (next.excepted ≡ damage.left) × (next.uber.group ≡ after.core.begun)
      × KeepsOrEnds before.core.pool.uber.reflow next.uber.reflow × (next.uber.parity ≡ before.core.pool.uber.parity)
      × Stands narrow last (next ∷ []) map damage contents calls (Some join.run) (at_disk after.core before.disk)
  begins = commit_begins_stands lawful is joins.table joins.begins are alone

  -- It keeps the pool's widths so far.
  kept : begins.0.uber.reflow ≡ before.core.pool.uber.reflow
  kept =
      let was = begins.6.groups in
      let same : was.next ≡ begins.0 = cc (was.begun_is) in
      let reach = ap (λ (c : Core). c.reach) (sym joins.begins.rest) ∙ was.of.reach in
      ap (λ (k : Kept). k.uber.reflow) (sym same) ∙ ap (λ (u : Uber). u.reflow) (sym was.come.alike)
      ∙ rest_records before.core join.run.uber.reflow is of.0.may reach (Chooses before.core.holds joins.begins.choice)

  widenable : IsWidenable narrow last begins.0
  widenable = search (kept, begins.3, alone.shape, there, arith)

  -- The device shows no uberblock, and nothing is laid on it yet.
  guest : GuestSoFar before.disk begins.0 width (Laid 0)
  guest = search (free_is_blank, width, arith)

  -- What stands goes on standing with the commit, in a pool that reaches as far as its last group does.
  pub attach_joins_stands : (next : Kept) × (next.map ≡ map) × (next.excepted ≡ damage.left)
      × (next.uber.group ≡ after.core.begun) × (next.uber.reflow ≡ before.core.pool.uber.reflow) × (next.uber.parity ≡ before.core.pool.uber.parity)
      × Stands narrow last (next ∷ []) map damage contents calls (Some join.run) after
      × HoldsAttach narrow last (next ∷ []) after.disk (Joins join)
  attach_joins_stands =
      let stood : (disk : Disk) → disk ≡ before.disk
      → Stands narrow last (begins.0 ∷ []) map damage contents calls (Some join.run) (at_disk after.core disk) =
      λ disk same. rw same begins.6 in
      let holds : HoldsAttach narrow last (begins.0 ∷ []) after.disk (Joins join) =
      search (widenable, width, guest, arith) in
      (begins.0, begins.1, begins.2, begins.3, kept, begins.5, stood after.disk joins.disk, holds)
