-- What a commit that makes one call a step keeps, from its begin to its end.
use Rattle.std.proofs.Common.{◌≡◌, ◌≢◌, ◌⊎◌, inl, inr, ⊎_elim, ℕ, ◌+◌, ◌*◌, ◌<◌, ◌≤◌, List, [], ◌∷◌, take, drop, Some}
use Rattle.std.proofs.Common.{refl, sym, ◌∙◌, ap, subst, arith, append_assoc}
use Rattle.std.specs.Prelude.{Contains, slice_get}
use Rattle.std.proofs.lemmas.List.{append-nil}
use Rattle.bank_trait.specs.Disk.{Wrote, Lawful}
use Rattle.reflow_mark.specs.declared.reflow.Reflow.{Reflow}
use Rattle.block_record.specs.declared.entry.IndexEntry.{IndexEntry}
use Rattle.block_record.specs.Page.{page_sectors, index_page}
use Rattle.uberblock_ring.specs.Devices.{IsWithin}
use Rattle.uberblock_ring.specs.Uberblock.{Uber, area_sector}
use Rattle.uberblock_ring.specs.Valid.{IsRightUber, AreAlike}
use Rattle.commit_job.specs.declared.call.CommitCall.{CommitCall}
use Rattle.commit_job.specs.declared.call.CommitCall.TheVariants.{IndexWrite, BaseSync, UberWrite, UberSync}
use Rattle.commit_job.specs.Stages.{plan_of, calls_left, after_next}
use Rattle.core_state.specs.Keeps.{Kept, Setting}
use Rattle.core_state.specs.Certain.{IsSuccession, IsSound, Knows}
use Rattle.core_state.specs.Committing.{Point}
use Rattle.core_state.specs.Moment.{IsRowOf, KeepsSince}
use Rattle.core_state.proofs.Listed.{contains_head, contains_tail, contains_cases, contains_none}
use Rattle.core_state.proofs.Places.{right_widths}
use Rattle.core_state.proofs.Calls.{true_false}
use Rattle.core_state.proofs.Laying.{IsPaged}
use Rattle.core_state.proofs.Moving.{MaySign, signs_begin, commit_ends}
use Rattle.core_state.proofs.Since.{since_now, since_more}
use Rattle.core_state.proofs.Widths.{only_width}
use Rattle.core_commit.specs.declared.commit_run.Stage.{Stage}
use Rattle.core_commit.specs.declared.commit_run.Stage.TheVariants.{Lays, Signs}
use Rattle.core_commit.specs.declared.commit_run.CommitStep.{CommitStep}
use Rattle.core_commit.specs.declared.commit_run.CommitStep.TheVariants.{Called, Ended}
use Rattle.core_commit.specs.Ran.{HasMade, MadeOne, IsLaying}
use Rattle.core_commit.specs.Ordered.{Ordered}
use Rattle.core_commit.specs.Commits.{MayCommit}
use Rattle.core_commit.specs.CommitTurns.{CommitRun, signing_run, IsLaidDown, IsMadeReady, HasCalled, HasEnded}
use Rattle.core_commit.specs.CommitTurns.{CommitSteps, LaysSoFar, SignsSoFar, CommitsSoFar, IsCommitting, shown_at}
use Rattle.core_commit.specs.CommitTurns.{shown_by}
use Rattle.core_commit.proofs.Order.{plan_ordered, plan_lays, plan_settles, plan_signs}
use Rattle.core_commit.proofs.Running.{some_same}
use Rattle.core_commit.proofs.Stepping.{ready_keeps}
use Rattle.core_commit.proofs.Plans.{laying_spent}
use Rattle.core_commit.proofs.Halves.{sound_paged, goes_on, HasLaid, lays_next, HasSigned, signs_next, signs_end}
use Rattle.core_commit.proofs.Beside.{committing_knows, signer_of, slots_of}

two_stages : Lays ≡ Signs → ⊥
two_stages same = cc

nothing : {call : CommitCall} → slice_get [] 0 ≡ Some call → ⊥
nothing is = cc

-- A call of the first half is the same whatever the uberblock lists as out.
made_laying : (uber other : Uber) (entries same : List IndexEntry) (call : CommitCall)
    (before after : Point) → IsLaying call → AreAlike uber other → entries ≡ same
    → MadeOne uber entries call before after
    → MadeOne other same call before after
made_laying uber other entries same (IndexWrite device part) before after laying alike is made =
    let area : uber.area ≡ other.area = ap (λ (u : Uber). u.area) alike in
    record {
      result = made.result;
      made = subst (λ (es : List IndexEntry). HasMade other es (IndexWrite device part) before.disk after.disk made.result)
          is (subst (λ (a : ℕ). Wrote before.disk after.disk device (area_sector a + part)
          (take 512 (drop (512 * part) (index_page entries))) made.result) area made.made);
      called = made.called;
    }
made_laying uber other entries same (BaseSync device) before after laying alike is made =
    record { result = made.result; made = made.made; called = made.called }
made_laying uber other entries same (UberWrite device) before after laying alike is made = absurd (laying tt)
made_laying uber other entries same (UberSync device) before after laying alike is made = absurd (laying tt)

-- In the first half the next call is one of it.
ready_lays : (out : ℕ) (run ready : CommitRun) (call : CommitCall) → IsMadeReady out run ready
    → ready.stage ≡ Lays → slice_get (calls_left out run.calls) 0 ≡ Some call
    → IsLaying call
ready_lays out run ready call (inl (inl signs, same)) lays is =
    absurd (two_stages (sym lays ∙ ap (λ (r : CommitRun). r.stage) same ∙ signs))
ready_lays out run ready call (inl (inr (other, next, laying), same)) lays is =
    subst IsLaying (some_same (sym next ∙ is)) laying
ready_lays out run ready call (inr (laid, same)) lays is =
    absurd (two_stages (sym lays ∙ ap (λ (r : CommitRun). r.stage) same))

-- Where no call is left, the second half has come.
ended_signs : (out : ℕ) (run stepped : CommitRun) → calls_left out run.calls ≡ []
    → IsMadeReady out run stepped
    → stepped.stage ≡ Signs
ended_signs out run stepped none (inl (inl signs, same)) = ap (λ (r : CommitRun). r.stage) same ∙ signs
ended_signs out run stepped none (inl (inr (other, next, laying), same)) = absurd (nothing
    (subst (λ (calls : List CommitCall). slice_get calls 0 ≡ Some other) none next))
ended_signs out run stepped none (inr (laid, same)) = ap (λ (r : CommitRun). r.stage) same

ready_calls : (out : ℕ) (run ready : CommitRun) → IsMadeReady out run ready → ready.calls ≡ run.calls
ready_calls out run ready is = (ready_keeps out run ready is).calls

module _ (setting : Setting) (first next : Kept) where
  paged_of : (kept : Kept) → IsSound setting kept → IsPaged kept
  paged_of kept sound = sound_paged setting kept sound

  -- The second half begins: the uberblock lists the devices that are out.
  signing_begins : (run : CommitRun) (point : Point) → IsLaidDown point.out run
      → IsRightUber (record run.uber { out = point.out }) → IsWithin point.out setting.failed
      → IsCommitting setting first next run point
      → IsCommitting setting first next (signing_run point.out run) point
  signing_begins run point laid right within is =
      let come : LaysSoFar setting first next run.calls point =
      subst (λ (stage : Stage). CommitsSoFar setting first next stage run.uber run.calls point) laid.0 is.so_far in
      let spent = laying_spent next.uber.reflow.to (page_sectors next.uber.count) point.out run.calls laid.1 is.ordered in
      record {
        row = is.row;
        sound_first = is.sound_first;
        sound = is.sound;
        right = right;
        alike = is.alike;
        entries_are = is.entries_are;
        parity_is = is.parity_is;
        area = is.area;
        near = is.near;
        ordered = is.ordered;
        so_far = record {
          signed = signs_begin setting first [] (next ∷ []) next (record run.uber { out = point.out }) run.calls
              run.calls point may_sign
              (λ kept has. ⊎_elim
              (λ same. subst (λ (k : Kept). Contains (first ∷ next ∷ []) k) (sym same) (contains_head first (next ∷ [])))
              (λ none. absurd (contains_none kept none)) (contains_cases first [] kept has))
              (λ device part used among. true_false
              (sym (spent (IndexWrite device part) among (λ signing. signing)) ∙ used))
              (λ device used among. true_false (sym (spent (BaseSync device) among (λ signing. signing)) ∙ used))
              come.unsaid come.unsigned;
          spent = spent;
        };
      }
    where
      may_sign : MaySign setting first (next ∷ []) next (record run.uber { out = point.out }) point.out
      may_sign = record {
        row = is.row;
        kept = next;
        listed = contains_tail first (next ∷ []) next (contains_head next []);
        same = record { entries = refl; others = refl; map = λ id. refl; alike = refl; excepted = refl };
        alike = is.alike;
        listing = record {
          index = is.sound.index;
          counted = is.sound.counted ∙ sym (ap (λ (u : Uber). u.count) is.alike);
          none_else = is.sound.none_else;
        };
        widths = subst (λ (r : Reflow). (0 < r.from) × (r.from ≤ r.to)) (ap (λ (u : Uber). u.reflow) is.alike)
            (right_widths run.uber is.right);
        indexes = is.sound.indexes;
        lists = λ device. refl;
        within = within;
      }

  ready_committing : (run ready : CommitRun) (point : Point) → IsMadeReady point.out run ready
      → IsRightUber ready.uber → IsWithin point.out setting.failed
      → IsCommitting setting first next run point
      → IsCommitting setting first next ready point
  ready_committing run ready point (inl (goes, same)) right within is =
      subst (λ (r : CommitRun). IsCommitting setting first next r point) (sym same) is
  ready_committing run ready point (inr (laid, same)) right within is =
      subst (λ (r : CommitRun). IsCommitting setting first next r point) (sym same)
      (signing_begins run point laid (subst (λ (r : CommitRun). IsRightUber r.uber) same right) within is)

  -- One call of either half.
  module _ (uber : Uber) (entries : List IndexEntry) (calls : List CommitCall) (before after : Point)
      (call : CommitCall) (right : IsRightUber uber) (alike : AreAlike uber next.uber)
      (entries_are : entries ≡ next.entries) (sound_first : IsSound setting first) (sound : IsSound setting next)
      (reach : next.uber.reflow.to ≤ setting.reach) (area : first.uber.area ≢ next.uber.area)
      (near : (next.uber.group ≡ first.uber.group + 1) ⊎ (next.uber.group ≡ first.uber.group + 2))
      (ordered : Ordered next.uber.reflow.to (page_sectors next.uber.count) calls)
      (is_next : slice_get (calls_left before.out calls) 0 ≡ Some call)
      (made : MadeOne uber entries call before after) where
    alone : (later : List Kept) → IsRowOf (first ∷ later) first later
    alone later = record { before = []; after = []; row = sym (append-nil (first ∷ later)) }

    come_on : (stage : Stage) → (stage ≡ Lays → IsLaying call)
        → CommitsSoFar setting first next stage uber calls before
        → Ordered next.uber.reflow.to (page_sectors next.uber.count) (after_next before.out calls)
        × CommitsSoFar setting first next stage uber (after_next before.out calls) after
    come_on Lays laying come =
        let laid : HasLaid setting (first ∷ []) before.disk.clock first [] next (paged_of first sound_first)
        (paged_of next sound) area (alone []) (after_next before.out calls) after =
        lays_next setting (first ∷ []) before.disk.clock first [] next
        (paged_of first sound_first) (paged_of next sound) area (alone []) calls call before after (laying refl)
        is_next (made_laying uber next.uber entries next.entries call before after (laying refl) alike entries_are made)
        (record {
          unsigned = come.unsigned;
          ordered = ordered;
          unsaid = come.unsaid;
          since = since_now setting (first ∷ []) first [] before.disk (alone []) come.unsigned.knows;
        }) in
        (laid.ordered, record { unsigned = laid.unsigned; unsaid = laid.unsaid })
    come_on Signs laying come =
        let signed : HasSigned setting (first ∷ next ∷ []) before.disk.clock first (next ∷ []) next uber
        (paged_of first sound_first) (paged_of next sound) (signer_of setting first next uber right alike sound reach)
        (slots_of setting first next near) (ap (λ (u : Uber). u.group) alike) (alone (next ∷ []))
        (after_next before.out calls) after =
        signs_next setting (first ∷ next ∷ []) before.disk.clock first (next ∷ []) next uber
        (paged_of first sound_first) (paged_of next sound) (signer_of setting first next uber right alike sound reach)
        (slots_of setting first next near) (ap (λ (u : Uber). u.group) alike) (alone (next ∷ []))
        calls call before after is_next
        (subst (λ (es : List IndexEntry). MadeOne uber es call before after) entries_are made)
        (record {
          signed = come.signed;
          ordered = ordered;
          spent = come.spent;
          since = since_now setting (first ∷ next ∷ []) first (next ∷ []) before.disk (alone (next ∷ [])) come.signed.knows;
        }) in
        (signed.ordered, record { signed = signed.signed; spent = signed.spent })

  called_committing : (run stepped : CommitRun) (before after : Point)
      → IsWithin before.out setting.failed → HasCalled run before stepped after
      → IsCommitting setting first next run before
      → IsCommitting setting first next stepped after
  called_committing run stepped before after within did was =
      let ready = did.ready in
      let is = ready_committing run ready before did.is_ready did.right within was in
      let same = ready_calls before.out run ready did.is_ready in
      let come = come_on ready.uber ready.entries ready.calls before after did.call is.right is.alike is.entries_are
      is.sound_first is.sound (is.row.widths 1 next (omega arith)).most is.area is.near is.ordered
      (ap (λ (calls : List CommitCall). slice_get (calls_left before.out calls) 0) same ∙ did.is_next) did.made
      ready.stage (λ lays. ready_lays before.out run ready did.call did.is_ready lays did.is_next) is.so_far in
      subst (λ (r : CommitRun). IsCommitting setting first next r after)
      (sym (did.left ∙ ap (λ (calls : List CommitCall). record {
        uber = ready.uber;
        entries = ready.entries;
        calls = after_next before.out calls;
        stage = ready.stage;
      }) (sym same)))
      (record {
        row = is.row;
        sound_first = is.sound_first;
        sound = is.sound;
        right = is.right;
        alike = is.alike;
        entries_are = is.entries_are;
        parity_is = is.parity_is;
        area = is.area;
        near = is.near;
        ordered = come.0;
        so_far = come.1;
      })

  -- A step of the commit.
  pub committing_steps : (result : CommitStep) (run stepped : CommitRun) (before after : Point)
      → IsWithin before.out setting.failed → CommitSteps run before stepped after result
      → IsCommitting setting first next run before
      → IsCommitting setting first next stepped after
  committing_steps Called run stepped before after within did is =
      called_committing run stepped before after within did is
  committing_steps Ended run stepped before after within did is =
      subst (λ (p : Point). IsCommitting setting first next stepped p) (sym did.same)
      (ready_committing run stepped before did.is_ready did.right within is)

  row_shown : (groups : List Kept) (stage : Stage) → IsRowOf groups first (next ∷ [])
      → IsRowOf groups first (shown_at next stage)
  row_shown groups Signs row = row
  row_shown groups Lays row = record {
    before = row.before;
    after = next ∷ row.after;
    row = row.row ∙ append_assoc row.before (first ∷ next ∷ []) row.after
        ∙ sym (append_assoc row.before (first ∷ []) (next ∷ row.after));
  }

  -- What each image since a moment keeps, over a step.
  pub committing_since : (result : CommitStep) (run stepped : CommitRun) (before after : Point)
      (groups : List Kept) (time : ℕ)
      → IsRowOf groups first (next ∷ []) → IsWithin before.out setting.failed
      → CommitSteps run before stepped after result → IsCommitting setting first next run before
      → KeepsSince setting groups time before.disk
      → KeepsSince setting groups time after.disk
  committing_since Called run stepped before after groups time row within did is since =
      since_more setting groups time first (shown_by next stepped) before.disk after.disk
      (row_shown groups stepped.stage row)
      (goes_on did.ready.uber did.ready.entries did.call before after did.made)
      (committing_knows setting first next stepped after (called_committing run stepped before after within did is))
      since
  committing_since Ended run stepped before after groups time row within did is since =
      subst (λ (p : Point). KeepsSince setting groups time p.disk) (sym did.same) since

  -- A commit that is carried out: its group is the one that is kept.
  pub committing_done : (run stepped : CommitRun) (before after : Point)
      → IsWithin before.out setting.failed → HasEnded run before stepped after
      → IsCommitting setting first next run before
      → Knows setting next [] after.disk
  committing_done run stepped before after within did was =
      let is = ready_committing run stepped before did.is_ready did.right within was in
      let come : SignsSoFar setting first next stepped.uber stepped.calls before =
      subst (λ (stage : Stage). CommitsSoFar setting first next stage stepped.uber stepped.calls before)
      (ended_signs before.out run stepped did.none did.is_ready) is.so_far in
      subst (λ (p : Point). Knows setting next [] p.disk) (sym did.same)
      (commit_ends setting first (next ∷ []) next [] stepped.uber before (row_kept is.row is.parity_is)
      is.sound (above is.near) (only_next is.near) within
      (signs_end setting (first ∷ next ∷ []) before.disk.clock first (next ∷ []) next stepped.uber
      (paged_of first is.sound_first) (paged_of next is.sound)
      (signer_of setting first next stepped.uber is.right is.alike is.sound (is.row.widths 1 next (omega arith)).most)
      (slots_of setting first next is.near) (ap (λ (u : Uber). u.group) is.alike)
      (record { before = []; after = []; row = sym (append-nil (first ∷ next ∷ [])) })
      stepped.calls before
      (ap (calls_left before.out) (ready_calls before.out run stepped did.is_ready) ∙ did.none) come.signed))
    where
      above : (next.uber.group ≡ first.uber.group + 1) ⊎ (next.uber.group ≡ first.uber.group + 2)
          → first.uber.group ≤ next.uber.group
      above near = ⊎_elim (λ one. omega (arith, one)) (λ two. omega (arith, two)) near

      row_kept : IsSuccession setting first (next ∷ []) → next.uber.parity ≡ first.uber.parity
          → IsSuccession setting next []
      row_kept row parity_is = record {
        few = (let few = row.few in omega (arith, few, parity_is));
        wide = (let wide = row.wide in omega (arith, wide, parity_is));
        ascending = λ one two default less low. absurd (omega (arith, less, low));
        further = λ k default low. absurd (omega (arith, low));
        widths = only_width setting next (row.widths 1 next (omega arith));
        inside = row.inside;
        device = row.device;
        below = row.below;
        works = row.works;
      }

      only_next : (next.uber.group ≡ first.uber.group + 1) ⊎ (next.uber.group ≡ first.uber.group + 2)
          → (kept : Kept) → Contains (first ∷ next ∷ []) kept → next.uber.group ≤ kept.uber.group
          → Contains (next ∷ []) kept
      only_next near kept has high = ⊎_elim
          (λ same. let group : kept.uber.group ≡ first.uber.group = ap (λ (k : Kept). k.uber.group) same in
          absurd (⊎_elim (λ one. omega (arith, one, group, high)) (λ two. omega (arith, two, group, high)) near))
          (λ later. later) (contains_cases first (next ∷ []) kept has)

-- A commit is begun: no call of it is made yet.
pub committing_begins : (setting : Setting) (earlier : List Kept) (first next : Kept) (point : Point)
    → IsRightUber next.uber
    → Lawful point.disk
    → MayCommit (record {
      setting = setting;
      earlier = earlier;
      first = first;
      later = [];
      joined = next ∷ [];
      kept = next;
      map = next.map;
    }) next.uber next.entries point
    → IsCommitting setting first next (record {
      uber = next.uber;
      entries = next.entries;
      calls = plan_of next.uber.reflow.to next.uber.count;
      stage = Lays;
    }) point
committing_begins setting earlier first next point right lawful may = record {
  row = may.row;
  sound_first = may.knows.sound;
  sound = may.sound;
  right = right;
  alike = refl;
  entries_are = refl;
  parity_is = may.parity_is;
  area = may.area;
  near = may.near;
  ordered = plan_ordered next.uber.reflow.to next.uber.count;
  so_far = record {
    unsigned = record {
      knows = may.knows;
      lawful = lawful;
      told = may.told;
      cells = may.cells;
      laid = λ device part below used low. inl (plan_lays next.uber.reflow.to next.uber.count device part below low);
      settled = λ device below used. inl (plan_settles next.uber.reflow.to next.uber.count device below);
    };
    unsaid = plan_signs next.uber.reflow.to next.uber.count;
  };
}
