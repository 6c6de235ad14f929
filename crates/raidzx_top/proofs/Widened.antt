-- Where no device fails, an expansion that has begun comes to its end.
use Rattle.std.proofs.Common.{◌≡◌, inl, inr, ⊎_elim, ℕ, zero, suc, ◌+◌, ◌-◌, ◌<◌, ◌≤◌, List, [], ◌∷◌, Some, None}
use Rattle.std.proofs.Common.{true, false, refl, sym, ◌∙◌, ap, subst, arith}
use Rattle.std.specs.Prelude.{All, slice_get, filter, ◌==◌}
use Rattle.std.proofs.lemmas.Bool.{cases_eq, cases_lt, ne_eqb}
use Rattle.std.proofs.lemmas.List.Elements.{filter-append}
use Rattle.core_state.specs.declared.answer.Answer.{Answer}
use Rattle.core_state.specs.declared.answer.Answer.TheVariants as answer
use Rattle.core_state.specs.declared.answer.Kind.{Kind}
use Rattle.core_state.specs.declared.answer.Kind.TheVariants as kind
use Rattle.core_state.specs.declared.item.Entry.{Entry}
use Rattle.core_state.specs.declared.item.Group.{Group as GroupItem}
use Rattle.core_state.specs.declared.item.Item.{Item}
use Rattle.core_state.specs.declared.item.Item.TheVariants.{Call}
use Rattle.core_state.specs.Journal.{Asked, CallsAreRight, IsComplete, IsLegalJournal}
use Rattle.core_state.specs.Legal.{CallAt, IsAnswerOf, IsRightAttach, IsRightCall, IsRightCopy}
use Rattle.core_state.specs.Map.{Map, PutBytes}
use Rattle.client_script.specs.Copier.{copier, with_copier}
use Rattle.client_script.specs.Script.{Placed, Script, asked_by}
use Rattle.journal_law.proofs.Widths.{widths_grow}
use Rattle.schedule.proofs.turn.Theirs.{some_is}
use Rattle.raidzx_top.specs.declared.order.Order.TheVariants.{AsTheyCome}
use Rattle.raidzx_top.specs.Order.{IsCarriedBy}
use Rattle.raidzx_top.specs.Promises.{IsCopiedBehind, IsDone, IsSmoothAnswer}
use Rattle.raidzx_top.proofs.RunAnswers.{previous_there}

-- ---- a copy is done

-- No call was answered for want of memory, or for a limit.
pub record NoneExhausted (items : List Item) : Type 0 where
  pub memory : (index : ℕ) (entry : Entry) → CallAt items index entry → entry.answer ≡ answer.NoMemory → ⊥
  pub limit : (index reached : ℕ) (entry : Entry) → CallAt items index entry → entry.answer ≡ answer.Limit reached → ⊥

-- Each answer is one for its call, and smooth.
pub record AreSmooth (items : List Item) : Type 0 where
  pub fits : (index : ℕ) (entry : Entry) → CallAt items index entry → IsAnswerOf entry.kind entry.answer
  pub smooth : (index : ℕ) (entry : Entry) → CallAt items index entry → IsSmoothAnswer entry.answer

module _ {calls : ℕ → List Asked} {handed : PutBytes} {opening : Map} {items : List Item}
    (legal : IsLegalJournal calls handed opening items) (smooth : AreSmooth items) (none : NoneExhausted items) where
  -- What is right of a call.
  right : (index : ℕ) (entry : Entry) → CallAt items index entry → (asked : Kind) → entry.kind ≡ asked
      → (previous : ℕ) × IsRightCall handed opening items previous index entry asked
  right index entry there asked is =
      let previous = previous_there items entry.caller index in (
        previous.0,
        subst (λ (k : Kind). IsRightCall handed opening items previous.0 index entry k) is
            (legal.answers.each previous.0 index entry there previous.1).0,
      )

  -- An attach that was answered ok has made a group of its width before,
  attach_wide : (index to group : ℕ) (attach : Entry) → CallAt items index attach → attach.answer ≡ answer.Attached to group
      → attach.kind ≡ kind.Attach
  attach_wide index to group attach there is =
      subst (λ (given : Answer). IsAnswerOf attach.kind given) is (smooth.fits index attach there)

  is_done : (index width : ℕ) (copy : Entry) → CallAt items index copy → copy.kind ≡ kind.Copy
      → copy.answer ≡ answer.Completed width → IsDone items index copy.answer
  is_done index width copy there copies is = record {
    width = width;
    given_is = is;
    wide = λ earlier to group attach before at answered.
        let attaches = attach_wide earlier to group attach at answered in
        let made = right earlier attach at kind.Attach attaches in
        let widened = subst (λ (given : Answer). IsRightAttach items made.0 earlier given) answered made.1 in
        let ended = subst (λ (given : Answer). IsRightCopy items index given) is
        (right index copy there kind.Copy copies).1 in
        let grows = widths_grow items legal.groups index widened.0.place widened.0.group ended.0 widened.0.there
        (omega (arith, before, widened.0.earlier)) ended.1 in
        omega (arith, grows, widened.1.now.1, ended.3);
  }

  -- and a copy is done.
  pub copy_done : (index : ℕ) (copy : Entry) → CallAt items index copy → copy.kind ≡ kind.Copy
      → IsDone items index copy.answer
  copy_done index copy there copies = by copy.answer refl
      (subst (λ (k : Kind). IsAnswerOf k copy.answer) copies (smooth.fits index copy there))
      (smooth.smooth index copy there)
    where
      by : (given : Answer) → copy.answer ≡ given → IsAnswerOf kind.Copy copy.answer → IsSmoothAnswer copy.answer
          → IsDone items index copy.answer
      by (answer.Completed width) is fits smooth = is_done index width copy there copies is
      by answer.NoMemory is fits smooth = absurd (none.memory index copy there is)
      by (answer.Limit reached) is fits smooth = absurd (none.limit index reached copy there is)
      by (answer.TooManyFailed out) is fits smooth = absurd (subst IsSmoothAnswer is smooth)
      by (answer.Paused device) is fits smooth = absurd (subst IsSmoothAnswer is smooth)
      by given is fits smooth = grind (arith)

-- ---- the calls of the client that widens the pool

same_kind : {one other : Asked} → Some one ≡ Some other → one.kind ≡ other.kind
same_kind is = ap (λ (asked : Asked). asked.kind) (some_is is)

-- The script that is carried out has it, where a device is to be attached.
pub carried_with : (script carried : Script) (opened : GroupItem) → IsCarriedBy (AsTheyCome true) script opened carried
    → carried ≡ with_copier true script
carried_with script carried opened is = elim is [
  | inl (widens, same) ↦ same
  | inr (none, rests, same) ↦ absurd (let clash : true ≡ false = none in cc)
]

-- No other client has its number.
none_own : (calls : List Placed) (most : ℕ) → most ≤ 8 → All (λ (placed : Placed). placed.actor < most) calls
    → filter (λ (placed : Placed). placed.actor == copier) calls ≡ []
none_own [] most few actors = refl
none_own (first ∷ calls) most few actors =
    let low = actors 0 first (omega arith) in
    let later = none_own calls most few (λ place other below. actors (suc place) other (omega arith)) in
    search (ne_eqb, later, arith)

-- It asks for an attach, and then for a copy.
asks_both : (script : Script) → script.clients ≤ 8 → All (λ (placed : Placed). placed.actor < script.clients) script.calls
    → asked_by (with_copier true script) copier
    ≡ (record { kind = kind.Attach; id = None }) ∷ (record { kind = kind.Copy; id = None }) ∷ []
asks_both script few actors =
    let none = none_own script.calls script.clients few actors in
    grind (arith, filter-append, none)

module _ (script : Script) {carried : Script} {items : List Item} (with : carried ≡ with_copier true script)
    (few : script.clients ≤ 8)
    (actors : All (λ (placed : Placed). placed.actor < script.clients) script.calls)
    (calls : CallsAreRight (asked_by carried) items) (complete : IsComplete (asked_by carried) items) where
  its_calls : asked_by carried copier
      ≡ (record { kind = kind.Attach; id = None }) ∷ (record { kind = kind.Copy; id = None }) ∷ []
  its_calls = rw with (asks_both script few actors)

  -- Its first call is the attach,
  is_first : (index : ℕ) (attach : Entry) → CallAt items index attach → attach.caller ≡ copier
      → attach.kind ≡ kind.Attach → attach.call ≡ 1
  is_first index attach there own attaches =
      let asked = calls.each index attach there in
      let is = rw (own, its_calls, attaches) at asked.asked in
      by (attach.call - 1) is asked.counted refl
    where
      by : (number : ℕ)
          → slice_get {X = Asked} ((record { kind = kind.Attach; id = None }) ∷ (record { kind = kind.Copy; id = None }) ∷ []) number
          ≡ Some (record { kind = kind.Attach; id = attach.id }) → 1 ≤ attach.call → attach.call - 1 ≡ number
          → attach.call ≡ 1
      by zero is counted same = omega (arith, counted, same)
      by (suc zero) is counted same = absurd (let clash : kind.Copy ≡ kind.Attach = same_kind is in cc)
      by (suc (suc number)) is counted same = cc

  -- and behind that stands its second, the copy.
  pub copied_behind : (index : ℕ) (attach : Entry) → CallAt items index attach → attach.caller ≡ copier
      → attach.kind ≡ kind.Attach
      → ((later : ℕ) (copy : Entry) → CallAt items later copy → copy.kind ≡ kind.Copy → IsDone items later copy.answer)
      → IsCopiedBehind items index attach
  copied_behind index attach there own attaches done =
      let first = is_first index attach there own attaches in
      let found = complete.each copier 1 (rw its_calls (omega arith)) in
      let copy = found.1 in
      let asked = calls.each found.0 copy found.2 in
      let copies : copy.kind ≡ kind.Copy = copy_kind copy (rw (found.3, its_calls) at asked.asked) found.4 in
      record {
        later = found.0;
        copy = copy;
        there = found.2;
        behind = ⊎_elim
            (λ (before : index < found.0). before)
            (λ not_before. ⊎_elim
            (λ (same : found.0 ≡ index). absurd (let one = one_entry found.0 index copy attach found.2 there same in
            omega (arith, first, found.4, ap (λ (e : Entry). e.call) one)))
            (λ apart. absurd (let order = calls.order found.0 index copy attach (omega (arith, not_before, apart)) found.2 there
            (found.3 ∙ sym own) in omega (arith, order, first, found.4))) (cases_eq found.0 index)) (cases_lt index found.0);
        own = found.3 ∙ sym own;
        done = done found.0 copy found.2 copies;
      }
    where
      copy_kind : (copy : Entry)
          → slice_get {X = Asked} ((record { kind = kind.Attach; id = None }) ∷ (record { kind = kind.Copy; id = None }) ∷ []) (copy.call - 1)
          ≡ Some (record { kind = copy.kind; id = copy.id }) → copy.call ≡ 1 + 1 → copy.kind ≡ kind.Copy
      copy_kind copy is second = let at : copy.call - 1 ≡ 1 = omega (arith, second) in by (rw at at is)
        where
          by : slice_get {X = Asked} ((record { kind = kind.Attach; id = None }) ∷ (record { kind = kind.Copy; id = None }) ∷ []) 1
              ≡ Some (record { kind = copy.kind; id = copy.id }) → copy.kind ≡ kind.Copy
          by is = sym (same_kind is)

      one_entry : (at other : ℕ) (one two : Entry) → CallAt items at one → CallAt items other two → at ≡ other → one ≡ two
      one_entry at other one two first second same = by (sym (rw same at first) ∙ second)
        where
          by : Some (Call one) ≡ Some (Call two) → one ≡ two
          by is = cc
