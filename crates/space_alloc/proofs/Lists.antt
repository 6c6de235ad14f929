-- Places in a list.
use Rattle.std.proofs.Common.{◌≡◌, ℕ, suc, ◌<◌, ◌+◌, List, ◌∷◌, ◌++◌, length, take, drop, get_or, sym, ◌∙◌, ap, subst}
use Rattle.std.proofs.Common.{add-one}
use Rattle.std.specs.Prelude.{Some, slice_get}
use Rattle.std.proofs.lemmas.List.{drop_more, take-append-drop}
use Rattle.std.proofs.lemmas.Option.{slice_get_within, get_or_from_slice_get}

-- A list is what stands before a place, what stands there, and the rest.
pub split_at : {X : Type 0} (xs : List X) (x : X) (at : ℕ) → slice_get xs at ≡ Some x → xs ≡ take at xs ++ x ∷ drop (suc at) xs
split_at {X} xs x at here =
    let within : at < length xs = slice_get_within xs at x here in
    let read : get_or xs at x ≡ x = get_or_from_slice_get xs at x x here in
    let rest : drop at xs ≡ x ∷ drop (suc at) xs =
    subst (λ (n : ℕ). drop at xs ≡ x ∷ drop n xs) (add-one at) (drop_more xs at x within ∙ ap (λ (y : X). y ∷ drop (at + 1) xs) read) in
    sym (take-append-drop at xs) ∙ ap (λ (l : List X). take at xs ++ l) rest
