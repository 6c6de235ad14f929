use Rattle.std.proofs.Common.{ℕ, ◌≡◌, ◌+◌, ◌<◌, List, length, get_or, subst, arith}
use Rattle.std.specs.Prelude.{Err, Ok, Some, slice_get}
use Rattle.std.specs.Ordering.{nat_cmp}
use Rattle.std.specs.List.Sorted.{IsBinarySearchResult}
use Rattle.std.proofs.lemmas.Option.{slice_get_within}
use Rattle.space_alloc.proofs.Flipping.{moved_down_flips, moved_down_rises, moved_up_rises}
use Rattle.space_alloc.proofs.edges.flip_run.Goals as goal

pub returns-then-is_below_edge-clause-rising : goal.returns-then-is_below_edge-clause-rising
returns-then-is_below_edge-clause-rising c =
    let found : IsBinarySearchResult (λ y. nat_cmp y c.args.start) c.args.edges.now.items (Ok c.in-Ok.at) =
    subst (λ (l : List ℕ). IsBinarySearchResult (λ y. nat_cmp y c.args.start) l (Ok c.in-Ok.at)) c.deref.ensures.value c.in-Ok.ensures.position in
    let next : c.in-Ok.at + 1 < length c.args.edges.now.items → c.args.end < get_or c.args.edges.now.items (c.in-Ok.at + 1) 0 =
    subst (λ (l : List ℕ). c.in-Ok.at + 1 < length l → c.args.end < get_or l (c.in-Ok.at + 1) 0) c.deref-then-start-end.ensures.value
    (c.is_below_edge.ensures c.if-is_below_edge.true) in
    moved_up_rises _ _ _ _ found c.if-start-end.true next c.requires.rising

pub index_mut-requires-then-is_edge : goal.index_mut-requires-then-is_edge
index_mut-requires-then-is_edge c =
    let inside : c.in-Err.at < length c.deref-in-Err.result.now = slice_get_within _ _ c.args.end (c.is_edge.ensures c.if-is_edge.true) in
    omega (arith, inside, c.deref-in-Err.ensures.len)

pub returns-then-is_edge-clause-rising : goal.returns-then-is_edge-clause-rising
returns-then-is_edge-clause-rising c =
    let found : IsBinarySearchResult (λ y. nat_cmp y c.args.start) c.args.edges.now.items (Err c.in-Err.at) =
    subst (λ (l : List ℕ). IsBinarySearchResult (λ y. nat_cmp y c.args.start) l (Err c.in-Err.at)) c.deref.ensures.value c.in-Err.ensures.position in
    moved_down_rises _ _ _ _
    (subst (λ (l : List ℕ). slice_get l c.in-Err.at ≡ Some c.args.end) c.deref-in-Err.ensures.value (c.is_edge.ensures c.if-is_edge.true))
    found c.requires.rising

pub returns-then-is_edge-clause-flipped : goal.returns-then-is_edge-clause-flipped
returns-then-is_edge-clause-flipped c =
    moved_down_flips c.args.edges.now.items c.in-Err.at c.args.start c.args.end
    (subst (λ (l : List ℕ). slice_get l c.in-Err.at ≡ Some c.args.end) c.deref-in-Err.ensures.value (c.is_edge.ensures c.if-is_edge.true))
