use Rattle.std.proofs.Common.{◌≡◌, ◌∙◌, ℕ, List, length, take, min, sym, ap, subst, arith}
use Rattle.bank_mem.specs.Record.{Shelf, content, held_durably}
use Rattle.bank_mem.specs.declared.record.Call.{Call}
use Rattle.bank_mem.specs.Sound.{AllWide}
use Rattle.bank_mem.proofs.Copied.{told_in}
use Rattle.bank_mem.proofs.Left.{left_first, left_step}
use Rattle.bank_mem.proofs.Placed.{placed_at, place_of, below_same, told_call}
use Rattle.bank_mem.proofs.Stopped.{left_all, stopped_others, stopped_kept, stopped_filled, stopped_could}
use Rattle.bank_mem.proofs.Stopped.{stopped_leaves}
use Rattle.bank_mem.proofs.bank.MemBank.crash_at.Goals as goal

pub loop-index-init : goal.loop-index-init
loop-index-init c =
    let bank = c.args.self.now in
    let same = c.deref-2.ensures.value in
    record {
      len = c.in_ok-images.ensures.len ∙ ap length same ∙ bank.as_many;
      wide = c.in_ok-images.ensures.width bank.sectors
          (subst (λ (s : Shelf). AllWide s bank.sectors) (sym same) bank.as_wide);
      left = left_first _ _ (content bank.first.items) _
          (λ d x. c.in_ok-images.ensures.held d x ∙ ap (λ (s : Shelf). content s d x) same);
    }

pub put_call-requires-clause-synced : goal.put_call-requires-clause-synced
put_call-requires-clause-synced c =
    let bank = c.args.self.now in
    below_same _ (length bank.present.items) _
    (placed_at (length bank.present.items) bank.sectors c.min-until.result c.loop-index.index
    bank.calls.items c.deref.result.now _ c.deref.ensures.value bank.placed c.loop-index-test.true).0
    (ap length c.deref-in-loop-index.ensures.value ∙ c.in_ok-syncs.ensures.len ∙ omega arith)

pub put_call-requires-clause-placed : goal.put_call-requires-clause-placed
put_call-requires-clause-placed c =
    let bank = c.args.self.now in
    place_of c.loop-index.images.items (length bank.present.items) bank.sectors _
    c.loop-index.invariant.len c.loop-index.invariant.wide
    (placed_at (length bank.present.items) bank.sectors c.min-until.result c.loop-index.index
    bank.calls.items c.deref.result.now _ c.deref.ensures.value bank.placed c.loop-index-test.true)

pub loop-index-preserved : goal.loop-index-preserved
loop-index-preserved c =
    let bank = c.args.self.now in
    let before = c.loop-index.invariant in
    record {
      len = c.put_call.ensures.len ∙ before.len;
      wide = c.put_call.ensures.width bank.sectors before.wide;
      left = left_step c.in_ok-syncs.syncs.items c.deref-in-loop-index.result.now _
          (take c.min-until.result c.deref.result.now) c.loop-index.index _
          (held_durably (content bank.first.items)) (content c.loop-index.images.items)
          (content c.put_call.new.images.items) c.loop-index-test.true
          c.deref-in-loop-index.ensures.value c.in_ok-syncs.ensures.syncs
          (told_call c.loop-index.images.items (length bank.present.items) bank.sectors _
          before.len before.wide
          (placed_at (length bank.present.items) bank.sectors c.min-until.result c.loop-index.index
          bank.calls.items c.deref.result.now _ c.deref.ensures.value bank.placed
          c.loop-index-test.true))
          c.put_call.ensures.settled c.put_call.ensures.torn before.left;
    }

pub returns : goal.returns
returns c =
    let bank = c.args.self.now in
    let first = content bank.first.items in
    let calls = bank.calls.items in
    let until : c.min-until.result ≡ min c.args.call (length calls) = omega arith in
    let stopped = left_all _ _ c.args.torn.now first _ calls
    (take c.min-until.result c.deref.result.now) c.args.call c.loop-index.index
    (ap (λ (l : List Call). take c.min-until.result l) c.deref.ensures.value
    ∙ ap (λ (n : ℕ). take n calls) until)
    c.loop-index-test.false c.in_ok-syncs.ensures.syncs c.in_ok-tears.ensures
    c.loop-index.invariant.left in
    let told = told_in bank.first.items (length bank.present.items) bank.sectors bank.as_many
    bank.as_wide in
    record {
      devices = c.loop-index.invariant.len;
      sectors = c.loop-index.invariant.wide;
      may_leave = stopped_leaves c.args.torn.now first _ _ stopped;
      could = λ d x d_in x_in.
          stopped_could c.args.torn.now first _ _ stopped d x (told d x d_in x_in);
      others = stopped_others c.args.torn.now first _ _ stopped;
      kept = stopped_kept c.args.torn.now first _ _ stopped;
      filled = λ d x byte d_in x_in.
          stopped_filled c.args.torn.now first _ _ stopped d x byte (told d x d_in x_in);
    }
