use Rattle.std.proofs.Common.{ℕ, ◌<◌, List, length, sym, subst}
use Rattle.std.specs.Prelude.{Err}
use Rattle.std.specs.Ordering.{nat_cmp}
use Rattle.std.specs.List.Sorted.{IsBinarySearchResult}
use Rattle.space_alloc.specs.Edges.{IsRising}
use Rattle.space_alloc.proofs.Flipping.{removed_rises, inserted_rises}
use Rattle.space_alloc.proofs.edges.flip.Goals as goal

pub returns-in-Ok-clause-rising : goal.returns-in-Ok-clause-rising
returns-in-Ok-clause-rising c =
    let within : c.in-Ok.at < length c.args.edges.now.items = subst (λ (l : List ℕ). c.in-Ok.at < length l) c.deref.ensures.value c.in-Ok.ensures.bound in
    subst IsRising (sym c.remove.ensures.items) (removed_rises _ _ within c.requires.rising)

pub returns-in-Ok-insert-clause-rising : goal.returns-in-Ok-insert-clause-rising
returns-in-Ok-insert-clause-rising c =
    let found : IsBinarySearchResult (λ y. nat_cmp y c.args.sector) c.args.edges.now.items (Err c.in-Err.at) =
    subst (λ (l : List ℕ). IsBinarySearchResult (λ y. nat_cmp y c.args.sector) l (Err c.in-Err.at)) c.deref.ensures.value c.in-Err.ensures.position in
    subst IsRising (sym c.in-Ok-insert.ensures.items) (inserted_rises _ _ _ found c.requires.rising)
