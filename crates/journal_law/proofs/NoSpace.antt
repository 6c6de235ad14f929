-- A run finds no space for a put only where its blocks are many, while the journal grows.
use Rattle.std.proofs.Common.{[], ◌≡◌, inl, inr, ℕ, ◌-◌, ◌≤◌, List, ◌∷◌, ◌++◌, length, refl, sym, ◌∙◌, ap, subst, arith}
use Rattle.std.proofs.Common.{if◌then◌else◌, Bool, true, false}
use Rattle.std.specs.Prelude.{◌==◌, nat_le, take}
use Rattle.std.proofs.lemmas.Bool.Decides.{nat_tests}
use Rattle.std.proofs.lemmas.List.{take-append-le}
use Rattle.width_map.specs.declared.birth.Birth.{Birth}
use Rattle.width_map.specs.Births.{births_after, first_width, width_from, width_of_birth, NoneAbove}
use Rattle.block_record.specs.declared.entry.IndexEntry.{IndexEntry}
use Rattle.uberblock_ring.specs.Uberblock.{Uber}
use Rattle.uberblock_ring.specs.Valid.{IsBirthsOf, IsRightUber}
use Rattle.core_state.specs.declared.answer.Answer.TheVariants as answer
use Rattle.core_state.specs.declared.item.Entry.{Entry}
use Rattle.core_state.specs.declared.item.Group.{Group as GroupItem}
use Rattle.core_state.specs.declared.item.Item.{Item}
use Rattle.core_state.specs.declared.item.Item.TheVariants.{Group, Call}
use Rattle.core_state.specs.Legal.{CallAt}
use Rattle.core_state.proofs.Births.{births_between}
use Rattle.core_blocks.specs.Puts.{sectors_taken}
use Rattle.core_blocks.specs.Usage.{size_at}
use Rattle.core_blocks.proofs.Sizes.{size_shrinks}
use Rattle.client_script.specs.Script.{Script, handed_by}
use Rattle.journal_law.specs.NoSpace.{births_told, has_ended, largest_size, width_told, FindsNoSpace, IsBornBehind}
use Rattle.journal_law.specs.NoSpace.{NoSpaceIsCaused}
use Rattle.journal_law.proofs.Grown.{new_or_before, group_before_grown}

-- No width is below the first one,
first_least : (births : List Birth) (parity width group birth : ℕ) → IsBirthsOf births parity width group
    → first_width births ≤ width_of_birth births birth
first_least births parity width group birth are =
    let wide = are.wide in
    let between = births_between births (first_width births - 1) width group birth (record {
      growing = are.growing;
      few = are.few;
      wide = omega (arith, wide);
      last = are.last;
      begun = are.begun;
    }) in
    let low = between.0 in omega (arith, low, wide)

-- so no block takes more sectors than at that.
pub largest : (uber : Uber) (len birth : ℕ) → IsRightUber uber
    → sectors_taken uber.parity uber.births len birth ≤ largest_size uber len
largest uber len birth right = size_shrinks uber.parity (first_width uber.births) (width_of_birth uber.births birth) len
    (let wide = right.births.wide in omega (arith, wide))
    (first_least uber.births uber.parity uber.reflow.from uber.group birth right.births)

-- Where no birth is later than a group, each later group has its width,
width_later : (births : List Birth) (width group later : ℕ) → NoneAbove group births → group ≤ later
    → width_from width births later ≡ width_from width births group
width_later [] width group later none after = refl
width_later (entry ∷ births) width group later none after =
    ap (λ (width : ℕ). width_from width births later) same
    ∙ width_later births (if nat_le entry.group group then entry.width else width) group later none.1 after
  where
    same : (if nat_le entry.group later then entry.width else width)
        ≡ (if nat_le entry.group group then entry.width else width)
    same = let low = none.0 in grind (arith, nat_tests, low, after)

-- so that a block takes as many sectors.
pub taken_later : (births : List Birth) (parity len group later : ℕ) → NoneAbove group births → group ≤ later
    → sectors_taken parity births len later ≡ sectors_taken parity births len group
taken_later births parity len group later none after =
    ap (λ (width : ℕ). size_at parity width len) (width_later births 0 group later none after)

-- ---- what a journal tells of a pool's widths

-- An answer more tells nothing of them,
pub width_told_call : (from : ℕ) (items : List Item) (entry : Entry)
    → width_told from (items ++ Call entry ∷ []) ≡ width_told from items
width_told_call from [] entry = refl
width_told_call from (Call first ∷ items) entry = width_told_call from items entry
width_told_call from (Group first ∷ items) entry = width_told_call first.from items entry

pub births_told_call : (births : List Birth) (from : ℕ) (items : List Item) (entry : Entry)
    → births_told births from (items ++ Call entry ∷ []) ≡ births_told births from items
births_told_call births from [] entry = refl
births_told_call births from (Call first ∷ items) entry = births_told_call births from items entry
births_told_call births from (Group first ∷ items) entry =
    births_told_call (if first.from == from then births else births_after births first.group) first.from items entry

-- and a group more tells its own width, and a birth where that is another than before.
pub width_told_group : (from : ℕ) (items : List Item) (group : GroupItem)
    → width_told from (items ++ Group group ∷ []) ≡ group.from
width_told_group from [] group = refl
width_told_group from (Call first ∷ items) group = width_told_group from items group
width_told_group from (Group first ∷ items) group = width_told_group first.from items group

pub births_told_group : (births : List Birth) (from : ℕ) (items : List Item) (group : GroupItem)
    → births_told births from (items ++ Group group ∷ [])
    ≡ (if group.from == width_told from items then births_told births from items
    else births_after (births_told births from items) group.group)
births_told_group births from [] group = refl
births_told_group births from (Call first ∷ items) group = births_told_group births from items group
births_told_group births from (Group first ∷ items) group =
    births_told_group (if first.from == from then births else births_after births first.group) first.from items group

-- Whether an expansion has just ended is told by the last group alone.
pub has_ended_call : (ended : Bool) (from : ℕ) (items : List Item) (entry : Entry)
    → has_ended ended from (items ++ Call entry ∷ []) ≡ has_ended ended from items
has_ended_call ended from [] entry = refl
has_ended_call ended from (Call first ∷ items) entry = has_ended_call ended from items entry
has_ended_call ended from (Group first ∷ items) entry =
    has_ended_call (if first.from == from then false else true) first.from items entry

pub has_ended_group : (ended : Bool) (from : ℕ) (items : List Item) (group : GroupItem)
    → has_ended ended from (items ++ Group group ∷ [])
    ≡ (if group.from == width_told from items then false else true)
has_ended_group ended from [] group = refl
has_ended_group ended from (Call first ∷ items) group = has_ended_group ended from items group
has_ended_group ended from (Group first ∷ items) group =
    has_ended_group (if first.from == from then false else true) first.from items group

-- ---- causes in a journal that grows

-- A cause in the items before an index is one in the grown journal.
finds_grown : (script : Script) (uber : Uber) (entries : List IndexEntry) (items more : List Item) (index : ℕ) (entry : Entry)
    (size : ℕ) → index ≤ length items → FindsNoSpace script uber entries items index entry size
    → FindsNoSpace script uber entries (items ++ more) index entry size
finds_grown script uber entries items more index entry size within finds = record {
  group = finds.group;
  before = group_before_grown items more index finds.group within finds.before;
  born = finds.born;
  behind = subst (λ (told : List Item). IsBornBehind uber told finds.group finds.born) same finds.behind;
  size_is = finds.size_is ∙ ap (λ (told : List Item).
      sectors_taken uber.parity (births_told uber.births uber.reflow.from told)
      (length (handed_by script entry.caller entry.call)) finds.born) same;
  tight = finds.tight;
}
  where
    same : take index items ≡ take index (items ++ more)
    same = sym (take-append-le index items more within)

module _ (script : Script) (uber : Uber) (entries : List IndexEntry) (items : List Item)
    (caused : NoSpaceIsCaused script uber entries items) where
  -- A new answer that has its cause in the items so far.
  pub no_space_call : (entry : Entry)
      → ((size : ℕ) → entry.answer ≡ answer.NoSpace size → FindsNoSpace script uber entries items (length items) entry size)
      → NoSpaceIsCaused script uber entries (items ++ Call entry ∷ [])
  no_space_call entry new = record {
    each = λ index size other there is. elim (new_or_before items (Call entry) index (Call other) there) [
      | inl last ↦ at_end index size other last.0 (same_entry other last.1) is
      | inr earlier ↦ finds_grown script uber entries items (Call entry ∷ []) index other size
          (let low = earlier.0 in omega (arith, low)) (caused.each index size other earlier.1 is)
    ];
  }
    where
      same_entry : (other : Entry) → Call entry ≡ Call other → entry ≡ other
      same_entry other same = cc

      at_end : (index size : ℕ) (other : Entry) → index ≡ length items → entry ≡ other
          → other.answer ≡ answer.NoSpace size
          → FindsNoSpace script uber entries (items ++ Call entry ∷ []) index other size
      at_end index size other end same is =
          subst (λ (k : ℕ). FindsNoSpace script uber entries (items ++ Call entry ∷ []) k other size) (sym end)
          (subst (λ (e : Entry). FindsNoSpace script uber entries (items ++ Call entry ∷ []) (length items) e size) same
          (finds_grown script uber entries items (Call entry ∷ []) (length items) entry size (omega arith)
          (new size (ap (λ (e : Entry). e.answer) same ∙ is))))

  -- A new group answers nothing.
  pub no_space_group : (group : GroupItem) → NoSpaceIsCaused script uber entries (items ++ Group group ∷ [])
  no_space_group group = record {
    each = λ index size other there is. elim (new_or_before items (Group group) index (Call other) there) [
      | inl last ↦ absurd (apart other last.1)
      | inr earlier ↦ finds_grown script uber entries items (Group group ∷ []) index other size
          (let low = earlier.0 in omega (arith, low)) (caused.each index size other earlier.1 is)
    ];
  }
    where
      apart : (other : Entry) → Group group ≡ Call other → ⊥
      apart other same = cc

-- Nor does a journal of a group alone.
pub no_space_alone : (script : Script) (uber : Uber) (entries : List IndexEntry) (group : GroupItem)
    → NoSpaceIsCaused script uber entries (Group group ∷ [])
no_space_alone script uber entries group = no_space_group script uber entries [] (record {
  each = λ index size entry there. absurd (nothing index entry there);
}) group
  where
    nothing : (index : ℕ) (entry : Entry) → CallAt [] index entry → ⊥
    nothing index entry is = cc

-- An uberblock of the same parity, births and sectors tells the same causes.
pub no_space_alike : (script : Script) (one other : Uber) (entries others : List IndexEntry) (items : List Item)
    → one.parity ≡ other.parity → one.births ≡ other.births → one.reflow ≡ other.reflow → entries ≡ others
    → NoSpaceIsCaused script one entries items → NoSpaceIsCaused script other others items
no_space_alike script one other entries others items parity births reflow same caused =
    subst (λ (l : List IndexEntry). NoSpaceIsCaused script other l items) same
    (subst (λ (u : Uber). NoSpaceIsCaused script u entries items)
    (λ i. record other { parity = parity i; births = births i; reflow = reflow i }) (record {
      each = λ index size entry there is. let found = caused.each index size entry there is in record {
        group = found.group;
        before = found.before;
        born = found.born;
        behind = found.behind;
        size_is = found.size_is;
        tight = found.tight;
      };
    }))
