-- What a search among the edges found holds of the space.
use Rattle.std.proofs.Common.{◌≡◌, ℕ, ◌<◌, ◌≤◌, ◌+◌, ◌*◌, List, [], ◌++◌, length, sym, ◌∙◌, ap, subst, arith}
use Rattle.std.proofs.Common.{length-append, refl}
use Rattle.std.specs.Prelude.{Vec, Option, Some, None, All, AllPairs, Contains}
use Rattle.std.specs.declared.alloc.Global.{Global}
use Rattle.std.proofs.lemmas.List.Elements.{All-contains, Contains-append_right}
use Rattle.range_locks.specs.declared.hold.Hold.{Hold}
use Rattle.range_locks.specs.declared.hold.HoldKind.TheVariants.{Shared, Exclusive}
use Rattle.range_locks.specs.Holds.{HasSectors}
use Rattle.range_locks.specs.Order.{EndsBefore, IsInOrder}
use Rattle.range_locks.proofs.Lists.{all_listed, none_listed}
use Rattle.space_alloc.specs.declared.entry.Entry.{Entry}
use Rattle.space_alloc.specs.declared.held.HeldEntry.{HeldEntry}
use Rattle.space_alloc.specs.declared.refused.TakeRefused.{TakeRefused}
use Rattle.space_alloc.specs.Space.{Space, BeginsFree, IsFirstFit, IsTakeCause, LooksAtEach}
use Rattle.space_alloc.specs.Entries.{in_use, space_of}
use Rattle.space_alloc.specs.Edges.{AreEdgesOf, AreKept, IsRising}
use Rattle.space_alloc.specs.Fit.{HasBegins, HasNoRoom, IsLowest, IsSorted, refusal_of}
use Rattle.space_alloc.proofs.Free.{free_unused, hindered_is_busy, lowest_is_first, no_room_is_full, unused_free}

-- A search may rely on the order of the edges and of the holds.
pub is_sorted : (taken : List Entry) (held : Vec HeldEntry Global) (edges : Vec ℕ Global) (seen : List ℕ) (holds shared exclusive : List Hold) → AreKept taken held edges
    → seen ≡ edges.items → holds ≡ shared ++ exclusive → All HasSectors holds → AllPairs IsInOrder shared → AllPairs EndsBefore exclusive
    → IsSorted seen shared exclusive
is_sorted taken held edges seen holds shared exclusive kept same are some order other_order = record {
  edges_rise = subst IsRising (sym same) kept.edges_of.rising;
  shared_order = order;
  exclusive_order = other_order;
  exclusive_some = all_listed HasSectors exclusive (λ hold listed. All-contains HasSectors holds hold some
      (subst (λ (l : List Hold). Contains l hold) (sym are) (Contains-append_right shared exclusive hold listed)));
}

module _ (space : Space) (capacity len : ℕ) (taken : List Entry) (held : Vec HeldEntry Global) (edges : Vec ℕ Global) (seen : List ℕ) (holds shared exclusive : List Hold)
    (view : space_of capacity taken held.items ≡ space) (kept : AreKept taken held edges) (same : seen ≡ edges.items) (are : holds ≡ shared ++ exclusive)
    (some : All HasSectors holds) (are_shared : All (λ hold. hold.kind ≡ Shared) shared)
    (are_exclusive : All (λ hold. hold.kind ≡ Exclusive) exclusive) (long : 0 < len) where
  edges_seen : AreEdgesOf (in_use taken held.items) seen
  edges_seen = subst (AreEdgesOf (in_use taken held.items)) (sym same) kept.edges_of

  some_of_both : All HasSectors (shared ++ exclusive)
  some_of_both = subst (All HasSectors) are some

  pub takes_first : (start : ℕ) → IsLowest seen shared exclusive capacity len start → IsFirstFit space holds len start
  takes_first start lowest =
      subst (λ (s : Space). IsFirstFit s holds len start) view
      (subst (λ (l : List Hold). IsFirstFit (space_of capacity taken held.items) l len start) (sym are)
      (lowest_is_first taken held.items seen shared exclusive capacity len long kept.apart edges_seen some_of_both are_shared are_exclusive start lowest))

  no_room : (hindered : Option Hold) → HasNoRoom seen shared exclusive capacity len hindered
      → IsTakeCause (space_of capacity taken held.items) (shared ++ exclusive) len (refusal_of len hindered)
  no_room None none = (
    no_room_is_full taken held.items seen shared exclusive capacity len long kept.apart edges_seen some_of_both are_shared are_exclusive none,
    refl,
  )
  no_room (Some hold) busy =
      hindered_is_busy taken held.items seen shared exclusive capacity len long kept.apart edges_seen some_of_both are_shared are_exclusive
      hold busy.0 busy.1

  pub is_refused : (hindered : Option Hold) (why : TakeRefused) → HasNoRoom seen shared exclusive capacity len hindered → why ≡ refusal_of len hindered
      → IsTakeCause space holds len why
  is_refused hindered why none is =
      subst (λ (s : Space). IsTakeCause s holds len why) view
      (subst (λ (l : List Hold). IsTakeCause (space_of capacity taken held.items) l len why) (sym are)
      (subst (IsTakeCause (space_of capacity taken held.items) (shared ++ exclusive) len) (sym is) (no_room hindered none)))

  begins_of : (starts : List ℕ) → ((sector : ℕ) → BeginsFree (space_of capacity taken held.items) sector → Contains starts sector)
      → HasBegins seen capacity starts
  begins_of starts all sector below unused first = all sector (record {
    free = unused_free taken held.items seen [] capacity sector kept.apart edges_seen below unused
        (λ hold listed kind overlaps. none_listed hold listed);
    first = λ before is free. first before is (free_unused taken held.items seen [] capacity before edges_seen free);
  })

  pub looks_few : (before now : ℕ) → ((begins : List ℕ) → HasBegins seen capacity begins
      → now ≤ before + 2 * (length begins + (length shared + length exclusive)) + 1) → LooksAtEach space holds before now
  looks_few before now few starts all =
      let both = ap (λ (l : List Hold). length l) are ∙ length-append shared exclusive in
      let most = few starts (begins_of starts (λ sector begins. all sector (subst (λ (s : Space). BeginsFree s sector) view begins))) in
      omega (arith, both, most)
