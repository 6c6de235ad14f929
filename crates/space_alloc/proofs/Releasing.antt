-- Runs that are released one after another.
use Rattle.std.proofs.Common.{◌≡◌, ℕ, ◌<◌, ◌≤◌, ◌+◌, List, [], ◌∷◌, ◌++◌, length, take, drop, get_or, true, false, Bool}
use Rattle.std.proofs.Common.{sym, ◌∙◌, ap, subst, arith, append_assoc, length-append}
use Rattle.std.specs.Prelude.{Vec, filter, cond, vec_len}
use Rattle.std.specs.Vec.{vec_capacity}
use Rattle.std.specs.declared.alloc.Global.{Global}
use Rattle.std.proofs.lemmas.List.{take_more, drop_more, take_all, drop_all, append-nil}
use Rattle.std.proofs.lemmas.List.Elements.{filter-append}
use Rattle.space_alloc.specs.declared.held.HeldEntry.{HeldEntry}
use Rattle.space_alloc.specs.Space.{Gains}
use Rattle.space_alloc.specs.Entries.{entry_end, in_use, is_left}
use Rattle.space_alloc.specs.Edges.{HasReleased, IsFlipped, IsRising}
use Rattle.space_alloc.proofs.InUse.{held_gains}
use Rattle.space_alloc.proofs.Unused.{edges_lost}

-- Of so many runs those that are left, and the others.
abbrev pub released : ℕ → List HeldEntry → ℕ → List HeldEntry
released group held at = filter (is_left group) (take at held) ++ drop at held

module _ (group : ℕ) (held : List HeldEntry) where
  one_more : (at : ℕ) (default : HeldEntry) (left : Bool) → at < length held → is_left group (get_or held at default) ≡ left
      → filter (is_left group) (take (at + 1) held) ≡ filter (is_left group) (take at held) ++ cond left (get_or held at default ∷ []) []
  one_more at default left within is =
      ap (filter (is_left group)) (take_more held at default within)
      ∙ filter-append (is_left group) (take at held) (get_or held at default ∷ [])
      ∙ ap (λ (b : Bool). filter (is_left group) (take at held) ++ cond b (get_or held at default ∷ []) []) is

  pub released_keeps : (at : ℕ) (default : HeldEntry) → at < length held → is_left group (get_or held at default) ≡ true
      → released group held at ≡ released group held (at + 1)
  released_keeps at default within is =
      ap (λ (l : List HeldEntry). filter (is_left group) (take at held) ++ l) (drop_more held at default within)
      ∙ sym (append_assoc (filter (is_left group) (take at held)) (get_or held at default ∷ []) (drop (at + 1) held))
      ∙ ap (λ (l : List HeldEntry). l ++ drop (at + 1) held) (sym (one_more at default true within is))

  pub released_frees : (at : ℕ) (default : HeldEntry) → at < length held → is_left group (get_or held at default) ≡ false
      → Gains (released group held (at + 1)) (released group held at) (get_or held at default)
  released_frees at default within is = record {
    before = filter (is_left group) (take at held);
    after = drop (at + 1) held;
    was = ap (λ (l : List HeldEntry). l ++ drop (at + 1) held) (one_more at default false within is
        ∙ append-nil (filter (is_left group) (take at held)));
    is = ap (λ (l : List HeldEntry). filter (is_left group) (take at held) ++ l) (drop_more held at default within);
  }

  pub released_all : (at : ℕ) → length held ≤ at → released group held at ≡ filter (is_left group) held
  released_all at all =
      ap (λ (l : List HeldEntry). filter (is_left group) l ++ drop at held) (take_all at held all)
      ∙ ap (λ (l : List HeldEntry). filter (is_left group) held ++ l) (drop_all at held all) ∙ append-nil (filter (is_left group) held)

-- A run less is one less.
pub gained_length : {X : Type 0} (old new : List X) (x : X) → Gains old new x → length new ≡ length old + 1
gained_length old new x gains =
    let was = ap length gains.was ∙ length-append gains.before gains.after in
    let is = ap length gains.is ∙ length-append gains.before (x ∷ gains.after) in
    omega (arith, was, is)

module _ (group : ℕ) (held : List HeldEntry) (at : ℕ) (default : HeldEntry) (old edges : Vec ℕ Global) (within : at < length held)
    (was : HasReleased held (released group held at) old edges) where
  -- One that is left changes nothing.
  pub release_passes : is_left group (get_or held at default) ≡ true → HasReleased held (released group held (at + 1)) old edges
  release_passes left =
      subst (λ (l : List HeldEntry). HasReleased held l old edges) (released_keeps group held at default within left) was

  -- The ends of one that isn't are flipped.
  pub release_frees : (new : Vec ℕ Global) (end : ℕ) → is_left group (get_or held at default) ≡ false → end ≡ entry_end (get_or held at default).entry
      → IsRising new.items → IsFlipped edges.items new.items ((get_or held at default).entry.start ∷ end ∷ [])
      → vec_len new ≤ vec_len edges + 2 → vec_capacity new ≡ vec_capacity edges → HasReleased held (released group held (at + 1)) old new
  release_frees new end left end_is rising flipped few stays =
      let lost = released_frees group held at default within left in
      record {
        rising = rising;
        edges_of = λ taken edges_of.
            edges_lost (in_use taken (released group held at)) (in_use taken (released group held (at + 1))) (get_or held at default).entry edges.items new.items
            (was.edges_of taken edges_of) (held_gains taken _ _ _ lost) rising
            (subst (λ (n : ℕ). IsFlipped edges.items new.items ((get_or held at default).entry.start ∷ n ∷ [])) end_is flipped);
        room = (let less = gained_length _ _ _ lost in let roomy = was.room in omega (arith, less, roomy, few));
        capacity = stays ∙ was.capacity;
      }
