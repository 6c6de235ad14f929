-- A journal as an opening leaves it: its group alone.
use Rattle.schedule.proofs.Words.{◌≡◌, ℕ, List, [], ◌∷◌, ◌++◌, refl, sym, subst, arith, append-nil}
use Rattle.schedule.proofs.Words.{Contains-append_right, Disk, Later, Entry, Group, PutBytes, CallAt, Calls, HaveParity}
use Rattle.schedule.proofs.Words.{Kept, Setting, IsGroupOf, KeepsSince, contains_none, OpensPool, Pool, first_item}
use Rattle.schedule.proofs.Words.{new_or_before, answers_alone, group_alone, latest_alone, groups_one, HaveParityOf}
use Rattle.schedule.proofs.Words.{parity_opened, Recorded, Past}
use Rattle.core_state.specs.declared.item.Group.{Group as GroupItem}
use Rattle.schedule.proofs.run.Moments.{AreLatest, kept_first, on_now}

-- A journal of a group alone has no entries.
pub no_call : (group : GroupItem) (index : ℕ) {entry : Entry} → CallAt (Group group ∷ []) index entry → ⊥
no_call group index {entry = entry} there = grind (arith, new_or_before)

module _ {setting : Setting} {first : Kept} {later : List Kept} {pool : Pool} {silent : ℕ} {old mid : Disk}
    (calls : Calls) (handed : PutBytes)
    (parity : HaveParity first.uber.parity (first ∷ later))
    (begins : OpensPool setting first later pool silent old mid) where
  abbrev item : GroupItem
  item = first_item pool

  abbrev next : Kept
  next = begins.opened.next

  next_is : IsGroupOf handed begins.opened.chosen.map (Group item ∷ []) item next
  next_is = search arith

  row : (known : List Kept) {answered begun : List Kept} → answered ≡ next ∷ [] → begun ≡ []
      → known ++ next ∷ [] ≡ known ++ answered ++ begun
  row known answered_are none = search (append-nil, arith)

  next_latest : AreLatest calls handed begins.opened.chosen.map (first ∷ later) (Group item ∷ []) item next []
  next_latest = record {
    latest = latest_alone item;
    last_is = next_is;
    one = omega arith;
    begun_is = λ kept has. absurd (contains_none kept has);
    parity = λ group known kept has. parity_opened parity begins.opened group known kept (search Contains-append_right);
  }

  -- The groups known before, and that of the opening, which holds the map of the group that it renews.
  pub recorded_first : {past : Past} → past.origin ≡ old → past.banks 1 ≡ mid → Later old mid → Recorded (record {
    setting = setting;
    known = first ∷ later;
    opening = begins.opened.chosen.map;
    calls = calls;
    handed = handed;
  }) past (Group (first_item pool) ∷ []) (first_item pool) begins.opened.next [] mid
  recorded_first origin here opened_later =
      let one = groups_one calls handed begins.opened.chosen.map (first ∷ later) item next next_is in
      let groups_are = row (first ∷ later) one.1 one.2 in
      let since = subst (λ (d : Disk). KeepsSince setting ((first ∷ later) ++ one.0.answered ++ one.0.begun) d.clock
      mid) (sym origin) (search arith) in
      record {
        groups = one.0;
        earlier = [];
        answered_are = one.1;
        begun_are = one.2;
        latest = latest_alone item;
        item_is = next_is;
        in_order = group_alone item refl;
        right = search answers_alone;
        sound = search no_call;
        caused = search (no_call, arith);
        since = since;
        parity = subst (HaveParityOf (first ∷ later)) groups_are (parity_opened parity begins.opened);
        no_older = kept_first here (search arith) (record { groups = one.0; since = since });
        kept_on = rw here (on_now next_latest begins.opened.knows);
      }
