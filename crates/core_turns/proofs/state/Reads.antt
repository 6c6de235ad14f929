-- What calls read is the map's, from turn to turn.
use Rattle.core_turns.proofs.Words.{◌≡◌, ◌≢◌, ◌⊎◌, inl, inr, ⊎_elim, ℕ, List, Option, Some, None, refl, sym, ◌∙◌, ap}
use Rattle.core_turns.proofs.Words.{arith, nat_tests, Contains, IndexEntry, entry_of, ChangesOnly, Map, with_block}
use Rattle.core_turns.proofs.Words.{Gains, gains_cases, gains_item, gains_old, put_cases, HoldingCall, AreReadOfMap}
use Rattle.core_turns.proofs.Words.{IsReadBy, actor_of, entry_read}
use Rattle.std.proofs.lemmas.Bool.{cases_eq}
use Rattle.core_state.specs.Index.{KeptBlock}

-- What isn't there is nothing.
gone : {entry : IndexEntry} → None ≡ Some entry → ⊥
gone same = cc

-- ---- reads

-- What these calls read those read too.
abbrev pub ReadsNoMore : (ℕ → List ℕ) → List HoldingCall → (ℕ → List ℕ) → List HoldingCall → Type 0
ReadsNoMore contents calls nows nexts = (block : KeptBlock) → IsReadBy nows nexts block → IsReadBy contents calls block

-- So it is where each of them was there, or reads nothing,
reads_there : {contents nows : ℕ → List ℕ} {calls nexts : List HoldingCall}
    → ((call : HoldingCall) → Contains nexts call → (entry_read call ≡ None)
    ⊎ (Contains calls call × (nows (actor_of call) ≡ contents (actor_of call))))
    → ReadsNoMore contents calls nows nexts
reads_there there block read = ⊎_elim
    (λ (none : entry_read read.call ≡ None). absurd (gone (sym none ∙ read.entry_is)))
    (λ was. record {
      call = read.call;
      listed = was.0;
      entry_is = read.entry_is;
      content_is = sym was.1 ∙ read.content_is;
    }) (there read.call read.listed)

-- as behind a call that ends,
pub reads_less : {contents : ℕ → List ℕ} {left calls : List HoldingCall} {call : HoldingCall} → Gains left calls call
    → ReadsNoMore contents calls contents left
reads_less {left = left} {calls} {call} gains =
    reads_there (λ other listed. inr (gains_old left calls call other gains listed, refl))

-- and where one comes that reads nothing.
pub reads_beside : {contents nows : ℕ → List ℕ} {left calls : List HoldingCall} {call : HoldingCall}
    → entry_read call ≡ None → ((other : HoldingCall) → Contains left other
    → nows (actor_of other) ≡ contents (actor_of other)) → Gains left calls call
    → ReadsNoMore contents left nows calls
reads_beside {left = left} {calls} {call} none others gains = reads_there (λ other listed. ⊎_elim
    (λ (same : call ≡ other). inl (sym (ap entry_read same) ∙ none))
    (λ was. inr (was, others other was)) (gains_cases left calls call other gains listed))

-- A call that goes on reads the same.
pub reads_on : {contents : ℕ → List ℕ} {left calls nexts : List HoldingCall} {call next : HoldingCall}
    → entry_read next ≡ entry_read call → actor_of next ≡ actor_of call → Gains left calls call
    → Gains left nexts next → ReadsNoMore contents calls contents nexts
reads_on {contents} {left} {calls} {nexts} {call} {next} entry actor gains again block read = ⊎_elim
    (λ (same : next ≡ read.call). record {
      call = call;
      listed = gains_item left calls call gains;
      entry_is = sym entry ∙ ap entry_read same ∙ read.entry_is;
      content_is = ap contents (sym actor ∙ ap actor_of same) ∙ read.content_is;
    })
    (λ was. record {
      call = read.call;
      listed = gains_old left calls call read.call gains was;
      entry_is = read.entry_is;
      content_is = read.content_is;
    }) (gains_cases left nexts next read.call again read.listed)

-- ---- the map's

-- What is read no more is the map's in the same table.
pub of_map_fewer : {old new : List IndexEntry} (map : Map) {contents nows : ℕ → List ℕ} {calls nexts : List HoldingCall}
    → new ≡ old → ReadsNoMore contents calls nows nexts → AreReadOfMap old map contents calls
    → AreReadOfMap new map nows nexts
of_map_fewer map same fewer of block read listed = of block (fewer block read) (rw same at listed)

-- So it is with what a read that begins finds in the map.
pub of_map_begun : (entries : List IndexEntry) (map : Map) {contents nows : ℕ → List ℕ} {left calls : List HoldingCall}
    {call : HoldingCall} {entry : IndexEntry} → Gains left calls call → entry_read call ≡ Some entry
    → map entry.id ≡ Some (nows (actor_of call))
    → ((other : HoldingCall) → Contains left other → nows (actor_of other) ≡ contents (actor_of other))
    → AreReadOfMap entries map contents left → AreReadOfMap entries map nows calls
of_map_begun entries map {nows = nows} {left} {calls} {call} {entry} gains reads has others of block read listed =
    ⊎_elim
    (λ (same : call ≡ read.call).
    let its : entry ≡ block.entry = some_same (sym reads ∙ ap entry_read same ∙ read.entry_is) in
    ap (λ (e : IndexEntry). map e.id) (sym its) ∙ has
    ∙ ap (λ (c : List ℕ). Some c) (ap (λ (c : HoldingCall). nows (actor_of c)) same ∙ read.content_is))
    (λ was. of block (record {
      call = read.call;
      listed = was;
      entry_is = read.entry_is;
      content_is = sym (others read.call was) ∙ read.content_is;
    }) listed) (gains_cases left calls call read.call gains read.listed)
  where
    some_same : {one other : IndexEntry} → Some one ≡ Some other → one ≡ other
    some_same same = cc

-- The map with one block put, or taken away, at another id.
with_other : (map : Map) (id other : ℕ) (value : Option (List ℕ)) → other ≢ id
    → with_block map (Some id) value other ≡ map other
with_other map id other value apart = grind (arith, nat_tests, apart)

-- A block that was freed stands no longer.
pub of_map_freed : {old new : List IndexEntry} (map : Map) {id : ℕ} {contents : ℕ → List ℕ} {calls : List HoldingCall}
    → ChangesOnly old new id None → AreReadOfMap old map contents calls
    → AreReadOfMap new (with_block map (Some id) None) contents calls
of_map_freed {old} {new} map {id} change of block read listed = ⊎_elim
    (λ same. absurd (gone (sym (ap (λ (n : ℕ). entry_of new n) same ∙ change.there) ∙ listed)))
    (λ apart. with_other map id block.entry.id None apart
    ∙ of block read (sym (change.others block.entry.id apart) ∙ listed))
    (cases_eq block.entry.id id)

-- Where there was none all stands that stood.
pub of_map_kept : {old new : List IndexEntry} (map : Map) {id : ℕ} {contents : ℕ → List ℕ} {calls : List HoldingCall}
    → ChangesOnly old new id None → AreReadOfMap old map contents calls → AreReadOfMap new map contents calls
of_map_kept {old} {new} map {id} change of block read listed = ⊎_elim
    (λ same. absurd (gone (sym (ap (λ (n : ℕ). entry_of new n) same ∙ change.there) ∙ listed)))
    (λ apart. of block read (sym (change.others block.entry.id apart) ∙ listed))
    (cases_eq block.entry.id id)

-- A block that was stored is none that is read.
pub of_map_stored : {old new : List IndexEntry} (map : Map) {entry : IndexEntry} (content : List ℕ)
    {contents : ℕ → List ℕ} {left calls : List HoldingCall} {call : HoldingCall} → Gains left calls call
    → ChangesOnly old new entry.id (Some entry)
    → ((block : KeptBlock) → IsReadBy contents left block → block.entry ≢ entry)
    → AreReadOfMap old map contents calls
    → AreReadOfMap new (with_block map (Some entry.id) (Some content)) contents left
of_map_stored {old} {new} map {entry} content gains change others of block read listed = ⊎_elim
    (λ same. absurd (others block read same))
    (λ was. with_other map entry.id block.entry.id (Some content) was.1 ∙ of block (reads_less gains block read) was.0)
    (put_cases old new entry block.entry change listed)
