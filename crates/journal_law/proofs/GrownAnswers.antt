-- The answers of a journal that grows by one item stay right.
use Rattle.std.proofs.Common.{[], ◌≡◌, ◌≢◌, ◌⊎◌, inl, inr, ℕ, ◌<◌, List, ◌∷◌, ◌++◌, length, Option, Some, None, sym}
use Rattle.std.proofs.Common.{subst, arith}
use Rattle.std.specs.Prelude.{option_and_then}
use Rattle.core_state.specs.declared.answer.Kind.{Kind}
use Rattle.core_state.specs.declared.answer.Kind.TheVariants as kind
use Rattle.core_state.specs.declared.answer.Answer.{Answer}
use Rattle.core_state.specs.declared.answer.Answer.TheVariants as answer
use Rattle.core_state.specs.declared.item.Entry.{Entry}
use Rattle.core_state.specs.declared.item.Group.{Group as GroupItem}
use Rattle.core_state.specs.declared.item.Item.{Item}
use Rattle.core_state.specs.declared.item.Item.TheVariants.{Group, Call}
use Rattle.core_state.specs.Map.{Map, PutBytes}
use Rattle.core_state.specs.Legal.{CallAt, IsPrevious, IsAnsweredGroup, IsReadOf, IsRightRead, IsRightFree, IsRightSync}
use Rattle.core_state.specs.Legal.{IsRightAttach, IsRightCopy, IsRightScrub, IsRightCall, IsAnswerOf, AnswersAreRight}
use Rattle.journal_law.proofs.Grown.{grown_has, new_or_before, map_before, group_before_grown, group_before_first}
use Rattle.journal_law.proofs.Grown.{previous_in_first}

-- What is right of an index below the first items' number.
module _ (handed : PutBytes) (opening : Map) (items more : List Item) (previous index : ℕ)
    (below : index < length items) where
  answered_grown : (number : ℕ) → IsAnsweredGroup items previous index number
      → IsAnsweredGroup (items ++ more) previous index number
  answered_grown number is = record {
    place = is.place;
    group = is.group;
    there = grown_has items more is.place (Group is.group) is.there;
    earlier = is.earlier;
    number_is = is.number_is;
    begun = is.begun;
  }

  sync_grown : (given : Answer) → IsRightSync items previous index given
      → IsRightSync (items ++ more) previous index given
  sync_grown (answer.Synced group) right = answered_grown group right
  sync_grown other right = tt

  attach_grown : (given : Answer) → IsRightAttach items previous index given
      → IsRightAttach (items ++ more) previous index given
  unfolding answered_grown
  attach_grown (answer.Attached width group) right = (
    answered_grown group right.0,
    record {
      now = right.1.now;
      before = λ old before. right.1.before old (group_before_first items more right.0.place old
          (omega (arith, right.0.earlier, below)) before);
    },
  )
  attach_grown other right = tt

  copy_grown : (given : Answer) → IsRightCopy items index given
      → IsRightCopy (items ++ more) index given
  copy_grown (answer.Completed width) right = (
    right.0,
    group_before_grown items more index right.0 (omega (arith, below)) right.1,
    right.2,
    right.3,
  )
  copy_grown other right = tt

  scrub_grown : (given : Answer) → IsRightScrub handed opening items previous index given
      → IsRightScrub handed opening (items ++ more) previous index given
  scrub_grown (answer.Scrubbed blocks repaired damaged) right = λ ids distinct held.
      right ids distinct (λ id listed k after until. subst (λ (m : Map). m id ≢ None)
      (map_before handed opening items more k (omega (arith, until, below)))
      (held id listed k after until))
  scrub_grown other right = tt

  read_grown : (entry : Entry) (point : Option ℕ)
      → IsRightRead handed opening items previous index entry point
      → IsRightRead handed opening (items ++ more) previous index entry point
  read_grown entry None right = right
  read_grown entry (Some point) right = (
    right.0,
    right.1,
    subst (λ (m : Map). (entry.answer ≡ answer.Damaged)
        ⊎ IsReadOf (option_and_then m entry.id) entry.kind entry.answer)
        (sym (map_before handed opening items more point (omega (arith, right.1, below)))) right.2,
  )

  -- An answer that is right in the first items is right in the grown journal.
  call_grown : (entry : Entry) (asked : Kind)
      → IsRightCall handed opening items previous index entry asked
      → IsRightCall handed opening (items ++ more) previous index entry asked
  call_grown entry kind.Put right = tt
  call_grown entry kind.Get right = read_grown entry entry.at right
  call_grown entry kind.Sum right = read_grown entry entry.at right
  call_grown entry kind.Free right =
      subst (λ (m : Map). IsRightFree (option_and_then m entry.id) entry.answer)
      (sym (map_before handed opening items more index (omega (arith, below)))) right
  call_grown entry kind.Sync right = sync_grown entry.answer right
  call_grown entry kind.Attach right = attach_grown entry.answer right
  call_grown entry kind.Copy right = copy_grown entry.answer right
  call_grown entry kind.Scrub right = scrub_grown entry.answer right

-- An entry of the first items has a right answer in the grown journal.
earlier_right : (handed : PutBytes) (opening : Map) (items more : List Item)
    → AnswersAreRight handed opening items → (previous index : ℕ) (entry : Entry)
    → index < length items → CallAt items index entry
    → IsPrevious (items ++ more) entry.caller index previous
    → IsRightCall handed opening (items ++ more) previous index entry entry.kind
    × IsAnswerOf entry.kind entry.answer
earlier_right handed opening items more right previous index entry below there is =
    let first : IsRightCall handed opening items previous index entry entry.kind
    × IsAnswerOf entry.kind entry.answer = right.each previous index entry there
    (previous_in_first items more entry.caller index previous below is) in
    (call_grown handed opening items more previous index below entry entry.kind first.0, first.1)

-- A new answer that is right at the end, for each previous entry that its caller may have.
pub answers_grown_call : (handed : PutBytes) (opening : Map) (items : List Item) (entry : Entry)
    → AnswersAreRight handed opening items
    → ((previous : ℕ) → IsPrevious (items ++ Call entry ∷ []) entry.caller (length items) previous
    → IsRightCall handed opening (items ++ Call entry ∷ []) previous (length items) entry entry.kind)
    → IsAnswerOf entry.kind entry.answer
    → AnswersAreRight handed opening (items ++ Call entry ∷ [])
answers_grown_call handed opening items entry right last_right is_answer = record {
  each = λ previous index other there is.
      elim (new_or_before items (Call entry) index (Call other) there) [
        | inl new ↦ at_end previous index other new.0 (same other new.1) is
        | inr before ↦ earlier_right handed opening items (Call entry ∷ []) right previous index
            other before.0 before.1 is
      ];
}
  where
    same : (other : Entry) → Call entry ≡ Call other → entry ≡ other
    same other is = cc

    at_end : (previous index : ℕ) (other : Entry) → index ≡ length items → entry ≡ other
        → IsPrevious (items ++ Call entry ∷ []) other.caller index previous
        → IsRightCall handed opening (items ++ Call entry ∷ []) previous index other other.kind
        × IsAnswerOf other.kind other.answer
    at_end previous index other end same_entry =
        subst (λ (k : ℕ). IsPrevious (items ++ Call entry ∷ []) other.caller k previous
        → IsRightCall handed opening (items ++ Call entry ∷ []) previous k other other.kind
        × IsAnswerOf other.kind other.answer) (sym end)
        (subst (λ (e : Entry). IsPrevious (items ++ Call entry ∷ []) e.caller (length items) previous
        → IsRightCall handed opening (items ++ Call entry ∷ []) previous (length items) e e.kind
        × IsAnswerOf e.kind e.answer) same_entry (λ is. (last_right previous is, is_answer)))

-- A new group answers nothing.
pub answers_grown_group : (handed : PutBytes) (opening : Map) (items : List Item) (group : GroupItem)
    → AnswersAreRight handed opening items
    → AnswersAreRight handed opening (items ++ Group group ∷ [])
answers_grown_group handed opening items group right = record {
  each = λ previous index other there is.
      elim (new_or_before items (Group group) index (Call other) there) [
        | inl new ↦ absurd (no_call other new.1)
        | inr before ↦ earlier_right handed opening items (Group group ∷ []) right previous index
            other before.0 before.1 is
      ];
}
  where
    no_call : (other : Entry) → Group group ≡ Call other → ⊥
    no_call other is = cc

-- A journal of a group alone has no answers.
pub answers_alone : (handed : PutBytes) (opening : Map) (group : GroupItem)
    → AnswersAreRight handed opening (Group group ∷ [])
answers_alone handed opening group = answers_grown_group handed opening [] group (record {
  each = λ previous index entry there is. absurd (nothing index entry there);
})
  where
    nothing : (index : ℕ) (entry : Entry) → CallAt [] index entry → ⊥
    nothing index entry is = cc

-- What all entries have, they and a new one have, and no group takes it away.
pub each_grown_call : (P : Entry → Type 0) (items : List Item) (entry : Entry)
    → ((index : ℕ) (other : Entry) → CallAt items index other → P other) → P entry
    → (index : ℕ) (other : Entry) → CallAt (items ++ Call entry ∷ []) index other → P other
each_grown_call P items entry each new index other there = elim (new_or_before items (Call entry) index (Call other) there) [
  | inl last ↦ subst P (same_entry entry other last.1) new
  | inr earlier ↦ each index other earlier.1
]
  where
    same_entry : (one two : Entry) → Call one ≡ Call two → one ≡ two
    same_entry one two same = cc

pub each_grown_group : (P : Entry → Type 0) (items : List Item) (group : GroupItem)
    → ((index : ℕ) (other : Entry) → CallAt items index other → P other)
    → (index : ℕ) (other : Entry) → CallAt (items ++ Group group ∷ []) index other → P other
each_grown_group P items group each index other there = elim (new_or_before items (Group group) index (Call other) there) [
  | inl last ↦ absurd (apart last.1)
  | inr earlier ↦ each index other earlier.1
]
  where
    apart : Group group ≡ Call other → ⊥
    apart same = cc
