-- The edges stay beside the runs.
use Rattle.std.proofs.Common.{◌≡◌, ℕ, ◌≤◌, ◌+◌, ◌*◌, List, [], ◌∷◌, ◌++◌, length, sym, subst, arith}
use Rattle.std.specs.Prelude.{All, Contains, Vec, filter, vec_len}
use Rattle.std.specs.Vec.{vec_capacity}
use Rattle.std.specs.declared.alloc.Global.{Global}
use Rattle.std.proofs.lemmas.List.Elements.{All-contains, Contains-append_left, Contains-append_right}
use Rattle.range_locks.proofs.Lists.{all_listed}
use Rattle.space_alloc.specs.declared.entry.Entry.{Entry}
use Rattle.space_alloc.specs.declared.held.HeldEntry.{HeldEntry}
use Rattle.space_alloc.specs.Space.{Gains}
use Rattle.space_alloc.specs.Entries.{entries_held, entry_end, in_use, is_left, AreEntriesApart, IsEntry}
use Rattle.space_alloc.specs.Edges.{AreEdgesOf, AreKept, HasReleased, IsFlipped, IsRising}
use Rattle.space_alloc.proofs.InUse.{held_gains, listed_image, pushed_gains, taken_gains}
use Rattle.space_alloc.proofs.Kept.{apart_filter, apart_gained, apart_lost, apart_moved, IsApart}
use Rattle.space_alloc.proofs.Unused.{edges_gained, edges_lost, edges_moved}
use Rattle.space_alloc.proofs.Releasing.{gained_length}

-- Room may be made.
pub kept_room : (taken : List Entry) (held roomy : Vec HeldEntry Global) (edges more : Vec ℕ Global) → AreKept taken held edges
    → roomy.items ≡ held.items → vec_len roomy ≡ vec_len held → vec_capacity held ≤ vec_capacity roomy
    → more.items ≡ edges.items → vec_len more ≡ vec_len edges → vec_capacity edges ≤ vec_capacity more → AreKept taken roomy more
kept_room taken held roomy edges more kept same len room same_edges len_edges room_edges = record {
  apart = subst (λ (l : List HeldEntry). AreEntriesApart (in_use taken l)) (sym same) kept.apart;
  edges_of = subst (λ (l : List HeldEntry). AreEdgesOf (in_use taken l) more.items) (sym same)
      (subst (λ (l : List ℕ). AreEdgesOf (in_use taken held.items) l) (sym same_edges) kept.edges_of);
  room = (let was = kept.room in omega (arith, was, len, len_edges, room_edges));
  held_room = (let was = kept.held_room in omega (arith, was, len, room));
}

module _ (taken others : List Entry) (held : Vec HeldEntry Global) (edges new : Vec ℕ Global) (entry : Entry)
    (kept : AreKept taken held edges) (rising : IsRising new.items) (flipped : IsFlipped edges.items new.items (entry.start ∷ entry_end entry ∷ []))
    (less : vec_len new ≤ vec_len edges + 2) (stays : vec_capacity new ≡ vec_capacity edges) where
  -- A run that no other meets is taken, where there is room for it.
  pub kept_put : Gains taken others entry → IsEntry entry → IsApart (in_use taken held.items) entry
      → vec_len edges + 2 * (length taken + vec_len held) + 4 ≤ vec_capacity edges → length taken + vec_len held + 1 ≤ vec_capacity held
      → AreKept others held new
  kept_put put is apart room held_room =
      let gains = taken_gains taken others held.items entry put in
      let more = gained_length taken others entry put in
      record {
        apart = apart_gained _ _ entry gains is apart kept.apart;
        edges_of = edges_gained _ _ entry edges.items new.items kept.edges_of gains rising flipped;
        room = omega (arith, more, less, stays, room);
        held_room = omega (arith, more, held_room);
      }

  -- A taken run is dropped.
  pub kept_drop : Gains others taken entry → AreKept others held new
  kept_drop lost =
      let loses = taken_gains others taken held.items entry lost in
      let fewer = gained_length others taken entry lost in
      record {
        apart = apart_lost _ _ entry loses kept.apart;
        edges_of = edges_lost _ _ entry edges.items new.items kept.edges_of loses rising flipped;
        room = (let was = kept.room in omega (arith, was, fewer, less, stays));
        held_room = (let was = kept.held_room in omega (arith, was, fewer));
      }

pub entry_listed : (taken : List Entry) (held : Vec HeldEntry Global) (edges : Vec ℕ Global) (entry : Entry) → AreKept taken held edges
    → Contains taken entry → IsEntry entry
entry_listed taken held edges entry kept listed =
    All-contains IsEntry (in_use taken held.items) entry kept.apart.each (Contains-append_left taken (entries_held held.items) entry listed)

pub held_listed : (taken : List Entry) (held : Vec HeldEntry Global) (edges : Vec ℕ Global) (seen : List HeldEntry) → AreKept taken held edges
    → seen ≡ held.items → All (λ (run : HeldEntry). IsEntry run.entry) seen
held_listed taken held edges seen kept same =
    subst (All (λ (run : HeldEntry). IsEntry run.entry)) (sym same) (all_listed (λ (run : HeldEntry). IsEntry run.entry) held.items (λ run listed.
    All-contains IsEntry (in_use taken held.items) run.entry kept.apart.each
    (Contains-append_right taken (entries_held held.items) run.entry (listed_image (λ (r : HeldEntry). r.entry) held.items run listed))))

-- A taken run is held back from now on: it stands elsewhere, and no edge changes.
pub kept_hold : (taken others : List Entry) (held now_held : Vec HeldEntry Global) (edges : Vec ℕ Global) (run : HeldEntry) → AreKept taken held edges
    → Gains others taken run.entry → now_held.items ≡ held.items ++ run ∷ [] → vec_len now_held ≡ vec_len held + 1
    → vec_capacity now_held ≡ vec_capacity held → AreKept others now_held edges
kept_hold taken others held now_held edges run kept lost pushed len_held stays =
    let loses = taken_gains others taken held.items run.entry lost in
    let gains = held_gains others held.items now_held.items run (pushed_gains held.items now_held.items run pushed) in
    let fewer = gained_length others taken run.entry lost in
    record {
      apart = apart_moved _ _ _ run.entry loses gains kept.apart;
      edges_of = edges_moved _ _ _ run.entry edges.items kept.edges_of loses gains;
      room = (let was = kept.room in omega (arith, was, fewer, len_held));
      held_room = (let was = kept.held_room in omega (arith, was, fewer, len_held, stays));
    }

-- What is held until a group goes with its edges.
pub kept_until : (taken : List Entry) (held left : Vec HeldEntry Global) (edges new : Vec ℕ Global) (group : ℕ) (seen : List HeldEntry)
    → seen ≡ held.items → AreKept taken held edges → left.items ≡ filter (is_left group) held.items → vec_len left ≤ vec_len held
    → vec_capacity left ≡ vec_capacity held → HasReleased seen (filter (is_left group) seen) edges new → AreKept taken left new
kept_until taken held left edges new group seen same kept is few stays released =
    let here : HasReleased held.items (filter (is_left group) held.items) edges new =
    subst (λ (l : List HeldEntry). HasReleased l (filter (is_left group) l) edges new) same released in
    let all : HasReleased held.items left.items edges new = subst (λ (l : List HeldEntry). HasReleased held.items l edges new) (sym is) here in
    let len = held.ok.0 in
    let len_left = left.ok.0 in
    record {
      apart = subst (λ (l : List HeldEntry). AreEntriesApart (in_use taken l)) (sym is)
          (apart_filter (is_left group) taken held.items kept.apart);
      edges_of = all.edges_of taken kept.edges_of;
      room = (let was = kept.room in let room = all.room in let same_capacity = all.capacity in
          omega (arith, was, room, same_capacity, len, len_left));
      held_room = (let was = kept.held_room in omega (arith, was, few, stays));
    }
