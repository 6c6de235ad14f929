use Rattle.std.proofs.Common.{◌≡◌, ◌<◌, ◌↔◌, ℕ, List, Option, Some, None, Bool, true, false, IfSome, IfNone, IsTrue}
use Rattle.std.proofs.Common.{refl, subst}
use Rattle.std.specs.Prelude.{is_some, not}
use Rattle.row_layout.specs.Layout.{Layout, rows_of}
use Rattle.reconstruct.specs.Lost.{HasTooFew, IsFirstTooFew}
use Rattle.core_client.specs.declared.columns_read.ColumnsRead.{ColumnsRead}
use Rattle.core_client.specs.Got.{HasLostFew}
use Rattle.core_client.proofs.fetching.has_lost_few.Goals as goal

-- No row is told as the first one where each has lost few, and only there.
lost_few : (layout : Layout) (read : ColumnsRead) (found : Option ℕ) (test : Bool)
    → IfSome found (IsFirstTooFew layout read.lost.items)
    → IfNone found ((row : ℕ) → row < rows_of layout → HasTooFew layout read.lost.items row → ⊥)
    → is_some found ≡ not test → IsTrue test ↔ HasLostFew layout read
lost_few layout read (Some row) true some none is = absurd cc
lost_few layout read (Some row) false some none is =
    ((λ is_true. absurd cc), (λ few. absurd (few.each row some.row_in some.here)))
lost_few layout read None true some none is = ((λ is_true. record { each = none }), (λ few. refl))
lost_few layout read None false some none is = absurd cc

pub returns : goal.returns
returns c =
    lost_few c.args.layout.now c.args.read.now c.first_too_few.result c.is_none.result
    (subst (λ (masks : List ℕ). IfSome c.first_too_few.result (IsFirstTooFew c.args.layout.now masks)) c.deref.ensures
    c.first_too_few.ensures.some)
    (subst (λ (masks : List ℕ). IfNone c.first_too_few.result ((row : ℕ) → row < rows_of c.args.layout.now
    → HasTooFew c.args.layout.now masks row → ⊥)) c.deref.ensures c.first_too_few.ensures.none)
    c.is_none.ensures
