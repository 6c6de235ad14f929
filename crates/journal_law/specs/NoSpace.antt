-- Why a run finds no space for a put: by the sizes of the blocks that there were at its opening, and of those that
-- its script puts.
use Rattle.std.specs.Prelude.{[], ◌≡◌, ◌⊎◌, ◌==◌, ℕ, ◌+◌, List, ◌∷◌, ◌++◌, length, map, flat_map, take, if◌then◌else◌}
use Rattle.std.specs.Prelude.{Bool, true, false}
use Rattle.width_map.specs.declared.birth.Birth.{Birth}
use Rattle.width_map.specs.Births.{births_after, first_width}
use Rattle.reflow_mark.specs.Reflow.{sectors_of}
use Rattle.block_record.specs.declared.entry.IndexEntry.{IndexEntry}
use Rattle.uberblock_ring.specs.Uberblock.{Uber}
use Rattle.core_state.specs.declared.answer.Answer.TheVariants as answer
use Rattle.core_state.specs.declared.answer.Kind.{Kind}
use Rattle.core_state.specs.declared.answer.Kind.TheVariants as kind
use Rattle.core_state.specs.declared.item.Entry.{Entry}
use Rattle.core_state.specs.declared.item.Group.{Group as GroupItem}
use Rattle.core_state.specs.declared.item.Item.{Item}
use Rattle.core_state.specs.declared.item.Item.TheVariants.{Group, Call}
use Rattle.core_state.specs.Legal.{CallAt, IsGroupBefore}
use Rattle.core_blocks.specs.Puts.{sectors_taken}
use Rattle.core_blocks.specs.Usage.{IsTight, size_at}
use Rattle.client_script.specs.Lines.{fill_bytes}
use Rattle.client_script.specs.Script.{Placed, Script, handed_by}

-- the length of what a call puts, where it is a put
abbrev pub length_put : Kind → List ℕ → List ℕ
length_put kind.Put bytes = length bytes ∷ []
length_put other bytes = []

-- the lengths of the blocks of an index, and of those that calls put
abbrev pub lengths_of : List IndexEntry → List Placed → List ℕ
lengths_of entries calls = map (λ entry. entry.len) entries
    ++ flat_map (λ placed. length_put placed.call.kind (fill_bytes placed.call.fill)) calls

-- how many sectors so many bytes take at the first width of a pool: at no later one they take more
abbrev pub largest_size : Uber → ℕ → ℕ
largest_size uber len = size_at uber.parity (first_width uber.births) len

-- The blocks of an index and those that calls put, all at the first width, could leave no run of so many free
-- sectors.
abbrev pub IsTightFor : Uber → List IndexEntry → List Placed → ℕ → Type 0
IsTightFor uber entries calls size =
    IsTight (sectors_of uber.reflow) (map (largest_size uber) (lengths_of entries calls)) size

-- the width of a pool's data rows once a journal has told of these groups
abbrev pub width_told : ℕ → List Item → ℕ
width_told from [] = from
width_told from (Call entry ∷ items) = width_told from items
width_told from (Group group ∷ items) = width_told group.from items

-- its births then: a group of another width than the one before it has ended an expansion
abbrev pub births_told : List Birth → ℕ → List Item → List Birth
births_told births from [] = births
births_told births from (Call entry ∷ items) = births_told births from items
births_told births from (Group group ∷ items) =
    births_told (if group.from == from then births else births_after births group.group) group.from items

-- whether the last group that a journal has told of ended an expansion: it has another width than the one before it
abbrev pub has_ended : Bool → ℕ → List Item → Bool
has_ended ended from [] = ended
has_ended ended from (Call entry ∷ items) = has_ended ended from items
has_ended ended from (Group group ∷ items) = has_ended (if group.from == from then false else true) group.from items

-- What is put behind these items is born in the group after the last one, this. Behind one that ended an expansion it
-- may be one later, while the next group's commit is under way: only then has that another width.
abbrev pub IsBornBehind : Uber → List Item → GroupItem → ℕ → Type 0
IsBornBehind uber items group born = (born ≡ group.group + 1)
    ⊎ ((born ≡ group.group + 2) × (has_ended false uber.reflow.from items ≡ true))

-- Why a put finds no run of so many free sectors: its bytes take so many in the group in which they would be born, by
-- the births that the groups before this index leave; and the blocks at the opening and those that the script puts
-- could leave none.
pub record FindsNoSpace (script : Script) (uber : Uber) (entries : List IndexEntry) (items : List Item) (index : ℕ)
    (entry : Entry) (size : ℕ) : Type 0 where
  pub group : GroupItem
  pub before : IsGroupBefore items index group
  pub born : ℕ
  pub behind : IsBornBehind uber (take index items) group born
  pub size_is : size ≡ sectors_taken uber.parity (births_told uber.births uber.reflow.from (take index items))
      (length (handed_by script entry.caller entry.call)) born
  pub tight : IsTightFor uber entries script.calls size

-- Each answer of the journal that tells of no space has its cause.
pub record NoSpaceIsCaused (script : Script) (uber : Uber) (entries : List IndexEntry) (items : List Item) : Type 0
  where
    pub each : (index size : ℕ) (entry : Entry) → CallAt items index entry
        → entry.answer ≡ answer.NoSpace size
        → FindsNoSpace script uber entries items index entry size
