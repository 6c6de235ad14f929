-- The next entry is right where it is listed.
use Rattle.schedule.proofs.Words.{◌≡◌, inr, ℕ, ◌+◌, ◌≤◌, List, [], ◌∷◌, ◌++◌, length, Option, Some, None, refl, sym}
use Rattle.schedule.proofs.Words.{subst, arith, length-append, option_and_then, ⊤, Disk, Answer, Kind, Entry, Item}
use Rattle.schedule.proofs.Words.{Group, Call, Map, PutBytes, map_of, map_after, IsAnsweredGroup, IsPrevious}
use Rattle.schedule.proofs.Words.{IsGroupBefore, IsReadOf, IsRightAttach, IsRightCopy, IsRightRead, IsRightFree}
use Rattle.schedule.proofs.Words.{IsRightCall, World, max_group, IsReadKind, group_before_first, grown_has, last_there}
use Rattle.schedule.proofs.Words.{map_before, map_at_end, IsAnswerCause, IsGroupKind, IsRightNext, AllBelow}
use Rattle.std.specs.Prelude.{◌≢◌}
use Rattle.core_state.specs.declared.answer.Answer.TheVariants as answer
use Rattle.core_state.specs.declared.answer.Kind.TheVariants as kind
use Rattle.core_state.specs.declared.item.Group.{Group as GroupItem}
use Rattle.schedule.proofs.turn.Below.{previous_below, below_group}
use Rattle.schedule.proofs.turn.BothListed.{one_latest}

-- Two answers that are one list the same devices.
pub same_out : {one other : ℕ} → answer.TooManyFailed one ≡ answer.TooManyFailed other → one ≡ other
same_out same = cc

-- The answer tells neither of damage, nor of a limit, nor of what an attach or a copy found.
abbrev pub IsPlain : Answer → Type 0
IsPlain answer.Damaged = ⊥
IsPlain (answer.Limit reached) = ⊥
IsPlain (answer.Expanding to) = ⊥
IsPlain (answer.NoDevice devices width) = ⊥
IsPlain (answer.Taken slot) = ⊥
IsPlain (answer.Paused device) = ⊥
IsPlain other = ⊤

-- The call was cut short: too many devices are out, or memory is exhausted.
abbrev pub IsStopped : Answer → Type 0
IsStopped (answer.TooManyFailed out) = ⊤
IsStopped answer.NoMemory = ⊤
IsStopped other = ⊥

-- What a read answers of a map is plain.
read_plain : (held : Option (List ℕ)) (asked : Kind) (given : Answer) → IsReadOf held asked given → IsPlain given
read_plain held asked given is = grind arith

-- A read is right as its point says.
read_call : (handed : PutBytes) (opening : Map) (items : List Item) (previous index : ℕ) (entry : Entry) (asked : Kind)
    → IsReadKind asked → IsRightRead handed opening items previous index entry entry.at
    → IsRightCall handed opening items previous index entry asked
read_call handed opening items previous index entry asked is right = grind arith

module _ (world : World) (items : List Item) (entry : Entry) (disk : Disk) where
  abbrev with_entry : List Item
  with_entry = items ++ Call entry ∷ []

  -- the answer is right at its place, whatever previous entry its caller has
  abbrev IsRightAs : Kind → Type 0
  IsRightAs asked = (previous : ℕ) → IsPrevious with_entry entry.caller (length items) previous
      → IsRightCall world.handed world.opening with_entry previous (length items) entry asked

  next_plain : IsPlain entry.answer → IsRightAs entry.kind → IsRightNext world items entry disk
  next_plain plain right = grind arith

  -- A get or a sum that speaks of the map after some of the items, all of its caller's among them.
  pub read_right : (at : ℕ) → IsReadKind entry.kind → entry.at ≡ Some at → 1 ≤ at → at ≤ length items
      → AllBelow items entry.caller at
      → IsReadOf (option_and_then (map_after world.handed world.opening items at) entry.id) entry.kind entry.answer
      → IsRightNext world items entry disk
  read_right at asked at_is some within below is =
      next_plain (search read_plain) (λ previous previous_is.
      read_call world.handed world.opening with_entry previous (length items) entry entry.kind asked
      (subst (IsRightRead world.handed world.opening with_entry previous (length items) entry) (sym at_is) (
        search previous_below,
        within,
        inr (search map_before),
      )))

  -- One that was cut short.
  pub read_cut_right : IsReadKind entry.kind → entry.at ≡ None → IsStopped entry.answer
      → IsRightNext world items entry disk
  read_cut_right asked at_is stopped = grind arith

  -- A put, whatever else it answers.
  pub put_right : entry.kind ≡ kind.Put → IsPlain entry.answer → IsRightNext world items entry disk
  put_right asked plain = grind arith

  -- A free that speaks of the map after all items.
  pub free_right : entry.kind ≡ kind.Free → IsPlain entry.answer
      → IsRightFree (option_and_then (map_of world.handed world.opening items) entry.id) entry.answer
      → IsRightNext world items entry disk
  free_right asked plain is = grind (arith, map_before, map_at_end)

  -- A sync, an attach or a copy that was cut short.
  pub group_cut_right : IsGroupKind entry.kind → IsStopped entry.answer → IsRightNext world items entry disk
  group_cut_right asked stopped = grind arith

  -- One that found no number left for its group.
  pub group_limit_right : (item : GroupItem) → IsGroupKind entry.kind → entry.answer ≡ answer.Limit max_group
      → IsGroupBefore items (length items) item → max_group ≤ item.group + 1 → IsRightNext world items entry disk
  group_limit_right item asked answer_is latest at_last = grind arith

  -- A copy that is done, where the last group before it has this one width, or that told of another end.
  pub copy_right : entry.kind ≡ kind.Copy → entry.answer ≢ answer.Damaged
      → IsRightCopy with_entry (length items) entry.answer → IsAnswerCause items (length items) disk entry.answer
      → IsRightNext world items entry disk
  copy_right asked sound right caused = search arith

module _ (world : World) (items : List Item) (group : GroupItem) (entry : Entry) (disk : Disk) where
  abbrev with_group : List Item
  with_group = items ++ Group group ∷ []

  abbrev with_both : List Item
  with_both = with_group ++ Call entry ∷ []

  answered_group : 1 ≤ group.after → AllBelow items entry.caller group.after → (previous : ℕ)
      → IsPrevious with_both entry.caller (length with_group) previous
      → IsAnsweredGroup with_both previous (length with_group) group.group
  answered_group some below previous is = record {
    place = length items;
    group = group;
    there = search (grown_has, last_there);
    earlier = omega (arith, length-append items (Group group ∷ []));
    number_is = refl;
    begun = search (previous_below, below_group);
  }

  -- A sync that ended a group, which is listed just before it and was begun after all items of its caller.
  pub sync_right : entry.kind ≡ kind.Sync → entry.answer ≡ answer.Synced group.group → 1 ≤ group.after
      → AllBelow items entry.caller group.after → IsRightNext world (items ++ Group group ∷ []) entry disk
  sync_right asked answer_is some below = grind (arith, answered_group)

  -- An attach that did, whose group begins the expansion of a pool at rest.
  pub attached_right : {last : GroupItem} {width : ℕ} → entry.kind ≡ kind.Attach
      → entry.answer ≡ answer.Attached width group.group → 1 ≤ group.after → AllBelow items entry.caller group.after
      → IsGroupBefore items (length items) last → (last.from + 1 ≡ width) × (last.to ≡ last.from)
      → (group.from + 1 ≡ width) × (group.to ≡ width) → IsRightNext world (items ++ Group group ∷ []) entry disk
  unfolding answered_group
  attached_right asked answer_is some below latest was now =
      next_plain world with_group entry disk (subst IsPlain (sym answer_is) tt)
      (λ previous is.
      subst (IsRightCall world.handed world.opening with_both previous (length with_group) entry) (sym asked)
      (subst (IsRightAttach with_both previous (length with_group)) (sym answer_is) (
        answered_group some below previous is,
        record {
          now = now;
          before = λ old before. rw (← one_latest latest (earlier old before)) was;
        },
      )))
    where
      earlier : (old : GroupItem) → IsGroupBefore with_both (length items) old → IsGroupBefore items (length items) old
      earlier old before = search (group_before_first, length-append, arith)
