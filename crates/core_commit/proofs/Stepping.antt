-- A step of a commit: that the run stays right, and what a step leaves alone.
use Rattle.std.proofs.Common.{◌≡◌, inl, inr, ℕ, ◌+◌, ◌-◌, ◌^◌, ◌<◌, ◌≤◌, List, false, Some, refl, sym, ◌∙◌, ap, subst}
use Rattle.std.proofs.Common.{arith}
use Rattle.std.specs.Prelude.{All, slice_get, slice_index_or}
use Rattle.uberblock_ring.specs.Devices.{has_device, count_below, count_of}
use Rattle.uberblock_ring.specs.Uberblock.{Uber}
use Rattle.uberblock_ring.proofs.DeviceSets.{count_above}
use Rattle.commit_job.specs.declared.call.CommitCall.{CommitCall}
use Rattle.commit_job.specs.declared.call.CommitCall.TheVariants.{IndexWrite, BaseSync, UberWrite, UberSync}
use Rattle.commit_job.specs.Stages.{device_of, calls_left, after_next}
use Rattle.core_state.specs.Committing.{Point}
use Rattle.core_commit.specs.declared.commit_run.Stage.TheVariants.{Signs}
use Rattle.core_commit.specs.declared.commit_run.CommitStep.{CommitStep}
use Rattle.core_commit.specs.declared.commit_run.CommitStep.TheVariants.{Called, Ended}
use Rattle.core_commit.specs.Ran.{MadeOne, IsCallInPool}
use Rattle.core_commit.specs.Spared.{HaveGoneOut}
use Rattle.core_commit.specs.CommitTurns.{CommitRun, IsCommitRun, IsMadeReady, HasCalled, CommitSteps}
use Rattle.core_commit.proofs.Running.{next_is}
use Rattle.core_commit.proofs.Going.{Went, went_none, went_one}
use Rattle.core_commit.proofs.Planned.{right_listing}

-- A call of a group is one of the same group that lists other devices as out.
pub inside_listing : (uber : Uber) (out : ℕ) (call : CommitCall) → IsCallInPool uber call
    → IsCallInPool (record uber { out = out }) call
inside_listing uber out (IndexWrite device part) inside = inside
inside_listing uber out (BaseSync device) inside = inside
inside_listing uber out (UberWrite device) inside = inside
inside_listing uber out (UberSync device) inside = inside

few_below : (out width limit : ℕ) → out < 2 ^ width → width ≤ 64 → count_of out ≤ limit
    → count_below out width ≤ limit
unfolding count_of
few_below out width limit below wide few =
    let split : width + (64 - width) ≡ 64 = omega (arith, wide) in
    let same : count_below out 64 ≡ count_below out width =
    subst (λ (n : ℕ). count_below out n ≡ count_below out width) split (count_above out width (64 - width) below) in
    omega (arith, few, same)

-- The second half of a right run is right.
pub signing_right : (run : CommitRun) (out : ℕ) (signing : Uber) → signing ≡ record run.uber { out = out }
    → IsCommitRun run → out < 2 ^ run.uber.reflow.to → count_of out ≤ run.uber.parity
    → IsCommitRun (record { uber = signing; entries = run.entries; calls = run.calls; stage = Signs })
signing_right run out signing is right below few = record {
  right = right_listing run.uber signing out right.right is below
      (few_below out run.uber.reflow.to run.uber.parity below
      (let wide = right.right.widths in omega (arith, wide.1)) few);
  index = right.index;
  counted = right.counted ∙ sym (ap (λ (u : Uber). u.count) is);
  inside = λ k default low. subst (λ (u : Uber). IsCallInPool u (slice_index_or run.calls k default)) (sym is)
      (inside_listing run.uber out (slice_index_or run.calls k default) (right.inside k default low));
}

-- Making a run ready keeps its calls, its index, and its group but for what it lists as out.
pub record ReadyKeeps (run ready : CommitRun) : Type 0 where
  pub calls : ready.calls ≡ run.calls
  pub entries : ready.entries ≡ run.entries
  pub uber : ready.uber ≡ record run.uber { out = ready.uber.out }

pub ready_keeps : (out : ℕ) (run ready : CommitRun) → IsMadeReady out run ready → ReadyKeeps run ready
ready_keeps out run ready (inl (goes, same)) = record {
  calls = ap (λ (r : CommitRun). r.calls) same;
  entries = ap (λ (r : CommitRun). r.entries) same;
  uber = subst (λ (r : CommitRun). r.uber ≡ record run.uber { out = r.uber.out }) (sym same) refl;
}
ready_keeps out run ready (inr (laid, same)) = record {
  calls = ap (λ (r : CommitRun). r.calls) same;
  entries = ap (λ (r : CommitRun). r.entries) same;
  uber = subst (λ (r : CommitRun). r.uber ≡ record run.uber { out = r.uber.out }) (sym same) refl;
}

module _ (run ready : CommitRun) (out : ℕ) (is_ready : IsMadeReady out run ready) (right : IsCommitRun ready)
    (call : CommitCall) (is_next : slice_get (calls_left out run.calls) 0 ≡ Some call) where
  calls_same : ready.calls ≡ run.calls
  calls_same = (ready_keeps out run ready is_ready).calls

  ready_next : slice_get (calls_left out ready.calls) 0 ≡ Some call
  ready_next = ap (λ (calls : List CommitCall). slice_get (calls_left out calls) 0) calls_same ∙ is_next

  -- The next call of a right run is to a device in use, and a device and sector that are there.
  pub next_inside : IsCallInPool ready.uber call
  next_inside = (next_is (IsCallInPool ready.uber) out ready.calls call right.inside ready_next).fits

  pub next_used : has_device out (device_of call) ≡ false
  next_used = (next_is (IsCallInPool ready.uber) out ready.calls call right.inside ready_next).in_use

  module _ (left : List CommitCall) (left_is : left ≡ after_next out ready.calls) where
    pub called_right : IsCommitRun
        (record { uber = ready.uber; entries = ready.entries; calls = left; stage = ready.stage })
    called_right = record {
      right = right.right;
      index = right.index;
      counted = right.counted;
      inside = subst (All (IsCallInPool ready.uber)) (sym left_is)
          (next_is (IsCallInPool ready.uber) out ready.calls call right.inside ready_next).rest;
    }

    pub has_called : (before after : Point) → before.out ≡ out
        → MadeOne ready.uber ready.entries call before after
        → HasCalled run before
        (record { uber = ready.uber; entries = ready.entries; calls = left; stage = ready.stage }) after
    has_called before after out_is made = record {
      ready = ready;
      call = call;
      is_ready = subst (λ (o : ℕ). IsMadeReady o run ready) (sym out_is) is_ready;
      right = right.right;
      is_next = ap (λ (o : ℕ). slice_get (calls_left o run.calls) 0) out_is ∙ is_next;
      inside = next_inside;
      made = made;
      left = ap (λ (calls : List CommitCall). record {
        uber = ready.uber;
        entries = ready.entries;
        calls = calls;
        stage = ready.stage;
      }) (left_is ∙ ap (after_next out) calls_same ∙ ap (λ (o : ℕ). after_next o run.calls) (sym out_is));
    }

-- What a step leaves alone, and which devices go out in it.
pub steps_went : (result : CommitStep) (run stepped : CommitRun) (before after : Point)
    → CommitSteps run before stepped after result
    → Went before after
steps_went Called run stepped before after did = went_one did.ready.uber did.ready.entries did.right.area
    did.right.count did.call before after did.inside did.made
steps_went Ended run stepped before after did = subst (Went before) (sym did.same) (went_none before)

pub steps_gone : (result : CommitStep) (run stepped : CommitRun) (before after : Point)
    → CommitSteps run before stepped after result
    → HaveGoneOut before before.out after
steps_gone result run stepped before after did =
    let went = steps_went result run stepped before after did in
    record { earlier = λ device out. out; stay = went.stay; each = went.each }

-- The group is the same but for what it lists as out, and its index is the same.
pub steps_same : (result : CommitStep) (run stepped : CommitRun) (before after : Point)
    → CommitSteps run before stepped after result
    → (stepped.uber ≡ record run.uber { out = stepped.uber.out }) × (stepped.entries ≡ run.entries)
steps_same Called run stepped before after did =
    let keeps = ready_keeps before.out run did.ready did.is_ready in (
      subst (λ (r : CommitRun). r.uber ≡ record run.uber { out = r.uber.out }) (sym did.left) keeps.uber,
      ap (λ (r : CommitRun). r.entries) did.left ∙ keeps.entries,
    )
steps_same Ended run stepped before after did =
    let keeps = ready_keeps before.out run stepped did.is_ready in (keeps.uber, keeps.entries)
