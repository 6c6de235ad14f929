-- A journal goes on to tell what it did, turn by turn: the devices go on, a commit begins or ends, a call is answered.
use Rattle.schedule.proofs.Words.{widest_reach, reaches_no_further, keeps_to_reach}
use Rattle.schedule.proofs.Words.{◌≡◌, ℕ, ◌≤◌, List, [], ◌∷◌, ◌++◌, length, refl, ◌∙◌, arith, append_assoc}
use Rattle.schedule.proofs.Words.{length-append, ◌+◌, append-nil, Contains, ⊤, Disk, Later, Entry, Item, Group, Call}
use Rattle.schedule.proofs.Words.{Map, PutBytes, IsGroupBefore, IsAnswerOf, Calls, Follows, IsAttachOf, Kept, Setting}
use Rattle.schedule.proofs.Words.{Knows, AwaitsAttach, IsGroupOf, IsBegunAfter, Groups, IsRowOf, KeepsSince}
use Rattle.schedule.proofs.Words.{KeepsThroughout, World, knows_keep, contains_head, contains_none, contains_tail}
use Rattle.schedule.proofs.Words.{Stage, Lays, since_longer, shown_in, KeepsLast, HaveParityOf, parity_with, map_before}
use Rattle.schedule.proofs.Words.{answers_grown_call, answers_grown_group, groups_grown_call, latest_grown_call}
use Rattle.schedule.proofs.Words.{latest_grown_group, group_of_grown, after_listed, width_step_where}
use Rattle.schedule.proofs.Words.{groups_grown_group, groups_call, groups_end, groups_begun, groups_cut, contains_one}
use Rattle.schedule.proofs.Words.{row_among, each_grown_call, each_grown_group, HasBegun, Recorded, IsRightNext}
use Rattle.schedule.proofs.Words.{IsBegunAt, KeepsTurnByTurn, Past, CallAt, GroupsAreRight, AnswersAreCaused, KeptSoFar}
use Rattle.schedule.proofs.Words.{later_refl}
use Rattle.std.specs.Prelude.{◌≢◌}
use Rattle.core_state.specs.declared.answer.Answer.TheVariants as answer
use Rattle.core_state.specs.declared.item.Group.{Group as GroupItem}
use Rattle.core_state.specs.Legal.{AnswersAreRight}
use Rattle.core_commit.specs.declared.commit_run.Stage.TheVariants.{Signs}
use Rattle.schedule.proofs.turn.BothListed.{both_right, groups_both}
use Rattle.schedule.proofs.turn.Caused.{caused_call, caused_group}
use Rattle.schedule.proofs.run.Moments.{AreLatest, whole_row, on_goes, on_now, kept_more, kept_to_end, since_any_reach}

-- Where the groups stand as one is begun, and as it is answered.
in_row : (known earlier begun : List Kept) (last : Kept)
    → (known ++ (earlier ++ last ∷ [])) ++ begun ≡ ((known ++ earlier) ++ (last ∷ begun)) ++ []
in_row known earlier begun last = simp (append_assoc, append-nil)

begun_row : (known : List Kept) {answered left all begun : List Kept} (next : Kept) → left ≡ [] → all ≡ answered
    → begun ≡ next ∷ [] → (known ++ answered ++ left) ++ next ∷ [] ≡ known ++ all ++ begun
begun_row known next none all_is begun_is = simp (none, all_is, begun_is, append-nil)

-- The last group of a journal and those begun, as its groups tell of them.
latest_of : {calls : Calls} {handed : PutBytes} {opening : Map} {known : List Kept} {items : List Item}
    {item : GroupItem} {last : Kept} {begun : List Kept} → (groups : Groups calls handed opening known items)
    → groups.begun ≡ begun → IsGroupBefore items (length items) item → IsGroupOf handed opening items item last
    → HaveParityOf known (last ∷ begun) → AreLatest calls handed opening known items item last begun
latest_of {calls = calls} {handed = handed} {opening = opening} {known = known} {items = items} {item = item} groups
    begun_are latest last_is parity = record {
      latest = latest;
      last_is = last_is;
      one = search arith;
      begun_is = λ kept has. groups_begun calls handed opening known items groups item latest kept (search arith);
      parity = parity;
    }

-- What each image kept since some moment, it keeps once the devices have gone on.
abbrev pub GoesOnSince : Setting → Kept → List Kept → Disk → Disk → Type 0
GoesOnSince setting last begun before after = (groups : List Kept) (time : ℕ) → IsRowOf groups last begun
    → KeepsSince setting groups time before → KeepsSince setting groups time after

abbrev IsSound : Entry → Type 0
IsSound entry = entry.answer ≢ answer.Damaged

module _ {world : World} {past : Past} {items : List Item} {item : GroupItem} {last : Kept} {begun : List Kept}
    {now : Disk} (so_far : Recorded world past items item last begun now) where
  some_items : 1 ≤ length items
  some_items = search arith

  -- The last group was begun within the journal.
  pub after_few : item.after ≤ length items
  after_few = search (after_listed, arith)

  -- The last group and those begun after it stand in a row.
  row_now : IsRowOf (world.known ++ so_far.groups.answered ++ so_far.groups.begun) last begun
  row_now = search (in_row, arith)

  parity_now : HaveParityOf world.known (last ∷ begun)
  parity_now group known kept has = so_far.parity group known kept (row_among row_now kept has)

  latest_now : AreLatest world.calls world.handed world.opening world.known items item last begun
  latest_now = search (latest_of, parity_now)

  -- The devices go on, and keep what they kept.
  pub recorded_goes : {next : Disk} {reach : ℕ} → Later now next
      → GoesOnSince (record world.setting { reach = reach }) last begun now next
      → Recorded world past items item last begun next
  recorded_goes {next = next} later keeps = search (goes_on, row_now, on_goes, whole_row)
    where
      goes_on : GoesOnSince world.setting last begun now next
      goes_on groups time row kept =
          since_any_reach world.setting (keeps groups time row (since_any_reach world.setting kept))

  -- An item is listed, just now, and the journal's groups stand in a row as before.
  recorded_on : (middle : List Item) (new : Item) (earlier : List Kept) {group : GroupItem} {next : Kept}
      {onward : List Kept} {reach : ℕ} (groups : Groups world.calls world.handed world.opening world.known
      (middle ++ new ∷ [])) → groups.answered ≡ earlier ++ next ∷ [] → groups.begun ≡ onward
      → world.known ++ so_far.groups.answered ++ so_far.groups.begun ≡ world.known ++ groups.answered ++ groups.begun
      → AreLatest world.calls world.handed world.opening world.known (middle ++ new ∷ []) group next onward
      → GroupsAreRight (middle ++ new ∷ []) → AnswersAreRight world.handed world.opening (middle ++ new ∷ [])
      → ((index : ℕ) (entry : Entry) → CallAt (middle ++ new ∷ []) index entry → IsSound entry)
      → AnswersAreCaused (middle ++ new ∷ []) past.banks
      → KeptSoFar world.setting world.calls world.handed world.opening world.known (middle ++ new ∷ []) past
      → past.banks (length middle + 1) ≡ now → Knows (record world.setting { reach = reach }) next onward now
      → Recorded world past (middle ++ new ∷ []) group next onward now
  recorded_on middle new earlier groups answered_are begun_are row latest in_order right sound caused
      no_older here knows = record {
        groups = groups;
        earlier = earlier;
        answered_are = answered_are;
        begun_are = begun_are;
        latest = latest.latest;
        item_is = latest.last_is;
        in_order = in_order;
        right = right;
        sound = sound;
        caused = caused;
        since = rw row at so_far.since;
        parity = rw row at so_far.parity;
        no_older = no_older;
        kept_on = rw (length-append middle (new ∷ []), here) (on_now latest knows);
      }

  -- A call is answered that ends no group.
  pub recorded_answers : (reach : ℕ) (entry : Entry) → past.banks (length items + 1) ≡ now
      → Knows (record world.setting { reach = reach }) last begun now
      → IsRightNext world items entry now → IsAnswerOf entry.kind entry.answer
      → Recorded world past (items ++ Call entry ∷ []) item last begun now
  recorded_answers reach entry here knows right is_answer =
      let grown = groups_call world.calls world.handed world.opening world.known items so_far.groups so_far.in_order
      entry in
      let item_is = group_of_grown world.handed world.opening items item last (Call entry ∷ []) after_few
      so_far.item_is in
      recorded_on items (Call entry) so_far.earlier grown.0 (cc) (cc) (simp (grown.1, grown.2))
      (latest_of grown.0 (cc) (latest_grown_call items entry item so_far.latest) item_is parity_now)
      (search groups_grown_call) (search answers_grown_call)
      (each_grown_call IsSound items entry so_far.sound right.sound) (search (caused_call, arith))
      (search (kept_more, some_items, latest_now)) here knows

  -- What each image of the run keeps,
  abbrev pub recorded_throughout : KeepsThroughout world.setting world.calls world.handed world.opening world.known
      items past.origin now
  recorded_throughout = record { groups = so_far.groups; since = so_far.since }

  -- and none older than the last group listed by then,
  pub recorded_no_older : past.banks (length items + 1) ≡ now
      → KeepsTurnByTurn world.setting world.calls world.handed world.opening world.known items past now
  recorded_no_older here = search (kept_to_end, some_items, latest_now)

  -- and what the bank keeps at its end: groups that are among those.
  pub recorded_keeps : (reach : ℕ) → Knows (record world.setting { reach = reach }) last begun now
      → (at_end : KeepsLast world.setting world.calls world.handed world.opening items now)
      × ((kept : Kept) → Contains (at_end.last ∷ at_end.begun) kept
      → Contains (world.known ++ so_far.groups.answered ++ so_far.groups.begun) kept)
  recorded_keeps reach knows = (
    record {
      group = item;
      latest = so_far.latest;
      last = last;
      last_is = so_far.item_is;
      begun = begun;
      one = latest_now.one;
      begun_is = latest_now.begun_is;
      reach = widest_reach last begun;
      no_further = reaches_no_further last begun;
      keeps = λ image might. keeps_to_reach (record world.setting { reach = reach }) last begun image
          (knows_keep (record world.setting { reach = reach }) last begun now knows image might);
    },
    row_among row_now,
  )

-- A commit begins the next group, which may begin an expansion where an attach was to be answered.
module _ {world : World} {past : Past} {items : List Item} {item : GroupItem} {last : Kept} {now : Disk}
    (so_far : Recorded world past items item last [] now) {after : ℕ} {attached : Type 0} {next : Kept}
    (is : IsBegunAt world items item after attached next) (awaits : attached → AwaitsAttach world.calls items after)
  where
    next_after : IsBegunAfter world.calls world.handed world.opening items item next
    next_after = search width_step_where

    pub recorded_begins : next.uber.parity ≡ last.uber.parity → Recorded world past items item last (next ∷ []) now
    recorded_begins parity =
        let grown = groups_cut world.calls world.handed world.opening world.known items so_far.groups so_far.begun_are
        item so_far.latest (next ∷ []) (omega arith) (search (contains_one, next_after, arith)) in
        let all = world.known ++ so_far.groups.answered ++ so_far.groups.begun in
        let row = begun_row world.known next so_far.begun_are grown.1 grown.2 in record {
          groups = grown.0;
          earlier = so_far.earlier;
          answered_are = cc;
          begun_are = grown.2;
          latest = so_far.latest;
          item_is = so_far.item_is;
          in_order = so_far.in_order;
          right = so_far.right;
          sound = so_far.sound;
          caused = so_far.caused;
          since = search (since_longer, arith);
          parity = rw row at (parity_with world.known all last next
              (row_among (row_now so_far) last (contains_head last [])) parity so_far.parity);
          no_older = so_far.no_older;
          kept_on = on_goes so_far.kept_on (later_refl now) (since_longer world.setting (last ∷ []) (next ∷ []) _ now);
        }

-- A group has the parity of the last one, whichever it is that was begun.
abbrev pub HasParityOf : Kept → List Kept → Type 0
HasParityOf last begun = (kept : Kept) → begun ≡ kept ∷ [] → kept.uber.parity ≡ last.uber.parity

-- A commit's half goes on, or the second one begins.
abbrev pub HalvesGoOn : Stage → Stage → Type 0
HalvesGoOn Signs Lays = ⊥
HalvesGoOn from to = ⊤

module _ {world : World} {past : Past} {items : List Item} {item : GroupItem} {last : Kept} {begun : List Kept}
    {now : Disk} {after : ℕ} {attached : Type 0} (own : HasBegun world items item begun after attached)
    (awaits : attached → AwaitsAttach world.calls items after) (parity : HasParityOf last begun) where
  -- The group that was begun comes into the record,
  recorded_comes : Recorded world past items item last [] now → Recorded world past items item last begun now
  recorded_comes so_far = rw own.1 (recorded_begins so_far own.2 awaits (parity own.0 own.1))

  -- once images can show it, as from the second half on,
  pub recorded_halves : (from to : Stage) → HalvesGoOn from to
      → Recorded world past items item last (shown_in begun from) now
      → Recorded world past items item last (shown_in begun to) now
  recorded_halves from to goes so_far = grind (arith, recorded_comes)

  -- or as its commit ends or is cut short.
  pub recorded_whole : (stage : Stage) → Recorded world past items item last (shown_in begun stage) now
      → Recorded world past items item last begun now
  recorded_whole stage so_far = grind (arith, recorded_comes)

-- A commit has ended the group that was begun.
module _ {world : World} {past : Past} {items : List Item} {item : GroupItem} {last next : Kept} {now : Disk}
    (so_far : Recorded world past items item last (next ∷ []) now) {after : ℕ} {attached : Type 0}
    (is : IsBegunAt world items item after attached next) {reach : ℕ}
    (knows : Knows (record world.setting { reach = reach }) next [] now)
    {group : GroupItem} (number : group.group ≡ next.uber.group) (after_is : group.after ≡ after)
    (from_is : group.from ≡ next.uber.reflow.from) (group_to_is : group.to ≡ next.uber.reflow.to) where
  abbrev with_group : List Item
  with_group = items ++ Group group ∷ []

  within : group.after ≤ length items
  within = search arith

  next_is : IsGroupOf world.handed world.opening with_group group next
  next_is = search (map_before, within, arith)

  follows : {whole : List Item} → (attached → IsAttachOf whole (item.from + 1) group.group)
      → Follows whole (length items) item group
  follows told = search (within, width_step_where, arith)

  next_parity : HaveParityOf world.known (next ∷ [])
  next_parity one known kept has = search (parity_now, contains_tail)

  -- What the journal tells of groups once it is listed.
  ended : (groups : Groups world.calls world.handed world.opening world.known with_group)
      × (groups.answered ≡ so_far.groups.answered ++ next ∷ []) × (groups.begun ≡ [])
  ended = groups_end world.calls world.handed world.opening world.known items (record {
    answered = so_far.groups.answered;
    begun = [];
    each = so_far.groups.each;
    one = omega arith;
    unanswered = λ kept has. absurd (contains_none kept has);
  }) refl group next next_is so_far.in_order

  ended_latest : AreLatest world.calls world.handed world.opening world.known with_group group next []
  ended_latest = latest_of ended.0 ended.2 (latest_grown_group items group) next_is next_parity

  ended_kept : past.banks (length items + 1) ≡ now
      → KeptSoFar world.setting world.calls world.handed world.opening world.known with_group past
  ended_kept here = search (kept_more, some_items, latest_now)

  -- The group's item is listed alone, where it begins no expansion,
  pub recorded_makes : (attached → ⊥) → past.banks (length items + 1) ≡ now
      → Recorded world past with_group group next [] now
  recorded_makes none here = recorded_on so_far items (Group group) so_far.groups.answered ended.0 ended.1 ended.2
      (simp (so_far.begun_are, ended.1, ended.2, append_assoc, append-nil)) ended_latest
      (groups_grown_group items group so_far.in_order item so_far.latest (follows (λ attached. absurd (none attached))))
      (search answers_grown_group) (each_grown_group IsSound items group so_far.sound)
      (caused_group items group so_far.caused) (ended_kept here) here knows

  -- or before the answer. A group that begins an expansion is answered as an attach's.
  pub recorded_ends : (entry : Entry)
      → (attached → IsAttachOf ((items ++ Group group ∷ []) ++ Call entry ∷ []) (item.from + 1) group.group)
      → IsRightNext world (items ++ Group group ∷ []) entry now → IsAnswerOf entry.kind entry.answer
      → past.banks (length items + 1) ≡ now → past.banks (length with_group + 1) ≡ now
      → Recorded world past ((items ++ Group group ∷ []) ++ Call entry ∷ []) group next [] now
  recorded_ends entry told right is_answer here then =
      let grown = groups_both items group entry (search after_listed) within ended.0 ended.2 in
      let both_is = group_of_grown world.handed world.opening with_group group next (Call entry ∷ [])
      (omega (arith, length-append items (Group group ∷ []))) next_is in
      recorded_on so_far with_group (Call entry) so_far.groups.answered grown.0 (grown.1 ∙ ended.1) grown.2
      (simp (so_far.begun_are, grown.1, grown.2, ended.1, append_assoc, append-nil))
      (latest_of grown.0 grown.2 (latest_grown_call with_group entry group (latest_grown_group items group)) both_is
      next_parity) (search (both_right, follows)) (search (answers_grown_call, answers_grown_group))
      (each_grown_call IsSound with_group entry (each_grown_group IsSound items group so_far.sound) right.sound)
      (caused_call entry (caused_group items group so_far.caused) (search arith))
      (kept_more (ended_kept here) (omega (arith, length-append items (Group group ∷ []))) ended_latest
      (rw (length-append items (Group group ∷ []), here) (on_now ended_latest knows)) (Call entry) then) then knows
