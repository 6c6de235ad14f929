-- One line more of a script.
use Rattle.std.proofs.Common.{◌≡◌, ℕ, zero, suc, ◌+◌, ◌<◌, ◌≤◌, List, [], ◌∷◌, ◌++◌, length, take, Option, Some, None}
use Rattle.std.proofs.Common.{refl, sym, ◌∙◌, ap, subst, arith, append_assoc}
use Rattle.std.specs.Prelude.{All}
use Rattle.std.proofs.lemmas.List.{append-nil}
use Rattle.client_script.specs.Lines.{Line, Passed, Clients, CallLine, Order}
use Rattle.client_script.specs.Script.{Script, Placed, AreRightLines, AreRightBelow, clients_in, calls_in, order_in}
use Rattle.client_script.specs.Script.{most_calls}
use Rattle.client_script.specs.Faults.{named_by, named}
use Rattle.client_script.specs.Reading.{MayFollow, with_line}

-- what lines ask for, with the number of the first; None where none says how many clients there are
abbrev pub state_from : ℕ → List Line → Option Script
state_from number [] = None
state_from number (Passed ∷ lines) = state_from (number + 1) lines
state_from number (Clients count ∷ lines) = Some (record { clients = count; calls = calls_in (number + 1) lines; order = order_in lines })
state_from number (CallLine actor kind id fill ∷ lines) = None
state_from number (Order actors ∷ lines) = None

-- calls and turns of two lists of lines
calls_of_both : (number : ℕ) (lines more : List Line) → calls_in number (lines ++ more) ≡ calls_in number lines ++ calls_in (number + length lines) more
calls_of_both number [] more = ap (λ n. calls_in n more) (omega arith)
calls_of_both number (Passed ∷ lines) more = calls_of_both (number + 1) lines more ∙ ap (λ n. calls_in (number + 1) lines ++ calls_in n more) (omega arith)
calls_of_both number (Clients count ∷ lines) more = calls_of_both (number + 1) lines more ∙ ap (λ n. calls_in (number + 1) lines ++ calls_in n more) (omega arith)
calls_of_both number (CallLine actor kind id fill ∷ lines) more =
    ap (λ (l : List Placed). record { actor = actor; call = record { line = number; kind = kind; id = id; fill = fill } } ∷ l)
    (calls_of_both (number + 1) lines more ∙ ap (λ n. calls_in (number + 1) lines ++ calls_in n more) (omega arith))
calls_of_both number (Order actors ∷ lines) more = calls_of_both (number + 1) lines more ∙ ap (λ n. calls_in (number + 1) lines ++ calls_in n more) (omega arith)

order_of_both : (lines more : List Line) → order_in (lines ++ more) ≡ order_in lines ++ order_in more
order_of_both [] more = refl
order_of_both (Passed ∷ lines) more = order_of_both lines more
order_of_both (Clients count ∷ lines) more = order_of_both lines more
order_of_both (CallLine actor kind id fill ∷ lines) more = order_of_both lines more
order_of_both (Order actors ∷ lines) more = ap (λ (l : List ℕ). actors ++ l) (order_of_both lines more) ∙ sym (append_assoc actors (order_in lines) (order_in more))

-- Below the line of the clients: a line that may follow is right, and a right one may follow.
right_below : (clients calls number : ℕ) (lines : List Line) (line : Line) (script : Script) → AreRightBelow clients calls lines → script.clients ≡ clients
    → length script.calls ≡ calls + length (calls_in number lines) → MayFollow (Some script) line → AreRightBelow clients calls (lines ++ line ∷ [])
right_below clients calls number [] Passed script right same count may = tt
right_below clients calls number [] (Clients other) script right same count may = may
right_below clients calls number [] (CallLine actor kind id fill) script right same count may = (omega (arith, may.0, same), omega (arith, may.1, count), tt)
right_below clients calls number [] (Order actors) script right same count may = (subst (λ n. All (λ actor. actor < n) actors) same may, tt)
right_below clients calls number (Passed ∷ lines) line script right same count may = right_below clients calls (number + 1) lines line script right same count may
right_below clients calls number (Clients other ∷ lines) line script right same count may = absurd right
right_below clients calls number (CallLine actor kind id fill ∷ lines) line script right same count may =
    (right.0, right.1, right_below clients (calls + 1) (number + 1) lines line script right.2 same (omega (arith, count)) may)
right_below clients calls number (Order actors ∷ lines) line script right same count may =
    (right.0, right_below clients calls (number + 1) lines line script right.1 same count may)

may_below : (clients calls number : ℕ) (lines : List Line) (line : Line) (script : Script) → AreRightBelow clients calls (lines ++ line ∷ []) → script.clients ≡ clients
    → length script.calls ≡ calls + length (calls_in number lines) → MayFollow (Some script) line
may_below clients calls number [] Passed script right same count = tt
may_below clients calls number [] (Clients other) script right same count = right
may_below clients calls number [] (CallLine actor kind id fill) script right same count = (omega (arith, right.0, same), omega (arith, right.1, count))
may_below clients calls number [] (Order actors) script right same count = subst (λ n. All (λ actor. actor < n) actors) (sym same) right.0
may_below clients calls number (Passed ∷ lines) line script right same count = may_below clients calls (number + 1) lines line script right same count
may_below clients calls number (Clients other ∷ lines) line script right same count = absurd right
may_below clients calls number (CallLine actor kind id fill ∷ lines) line script right same count =
    may_below clients (calls + 1) (number + 1) lines line script right.2 same (omega (arith, count))
may_below clients calls number (Order actors ∷ lines) line script right same count = may_below clients calls (number + 1) lines line script right.1 same count

-- The same of all lines.
pub right_more : (number : ℕ) (lines : List Line) (line : Line) → AreRightLines lines → MayFollow (state_from number lines) line → AreRightLines (lines ++ line ∷ [])
right_more number [] Passed right may = tt
right_more number [] (Clients count) right may = (may.0, may.1, tt)
right_more number [] (CallLine actor kind id fill) right may = may
right_more number [] (Order actors) right may = may
right_more number (Passed ∷ lines) line right may = right_more (number + 1) lines line right may
right_more number (Clients count ∷ lines) line right may =
    (right.0, right.1, right_below count 0 (number + 1) lines line (record { clients = count; calls = calls_in (number + 1) lines; order = order_in lines }) right.2 refl (omega arith) may)
right_more number (CallLine actor kind id fill ∷ lines) line right may = absurd right
right_more number (Order actors ∷ lines) line right may = absurd right

pub may_follow : (number : ℕ) (lines : List Line) (line : Line) → AreRightLines (lines ++ line ∷ []) → MayFollow (state_from number lines) line
may_follow number [] Passed right = tt
may_follow number [] (Clients count) right = (right.0, right.1)
may_follow number [] (CallLine actor kind id fill) right = right
may_follow number [] (Order actors) right = right
may_follow number (Passed ∷ lines) line right = may_follow (number + 1) lines line right
may_follow number (Clients count ∷ lines) line right =
    may_below count 0 (number + 1) lines line (record { clients = count; calls = calls_in (number + 1) lines; order = order_in lines }) right.2 refl (omega arith)
may_follow number (CallLine actor kind id fill ∷ lines) line right = absurd right
may_follow number (Order actors ∷ lines) line right = absurd right

-- What one line more asks for.
below_more : (count number : ℕ) (lines : List Line) (line : Line) → MayFollow (Some (record { clients = count; calls = calls_in (number + 1) lines; order = order_in lines })) line
    → ◌≡◌ {A = Option Script} (Some (record { clients = count; calls = calls_in (number + 1) (lines ++ line ∷ []); order = order_in (lines ++ line ∷ []) }))
    (with_line (number + length (Clients count ∷ lines)) line (Some (record { clients = count; calls = calls_in (number + 1) lines; order = order_in lines })))
below_more count number lines Passed may = λ i. Some (record {
  clients = count;
  calls = (calls_of_both (number + 1) lines (Passed ∷ []) ∙ append-nil (calls_in (number + 1) lines)) i;
  order = (order_of_both lines (Passed ∷ []) ∙ append-nil (order_in lines)) i;
})
below_more count number lines (Clients other) may = absurd may
below_more count number lines (CallLine actor kind id fill) may =
    let here : number + 1 + length lines ≡ number + length (Clients count ∷ lines) = omega arith in
    λ i. Some (record {
      clients = count;
      calls = (calls_of_both (number + 1) lines (CallLine actor kind id fill ∷ [])
          ∙ ap (λ n. calls_in (number + 1) lines ++ record { actor = actor; call = record { line = n; kind = kind; id = id; fill = fill } } ∷ []) here) i;
      order = (order_of_both lines (CallLine actor kind id fill ∷ []) ∙ append-nil (order_in lines)) i;
    })
below_more count number lines (Order actors) may = λ i. Some (record {
  clients = count;
  calls = (calls_of_both (number + 1) lines (Order actors ∷ []) ∙ append-nil (calls_in (number + 1) lines)) i;
  order = (order_of_both lines (Order actors ∷ []) ∙ ap (λ (l : List ℕ). order_in lines ++ l) (append-nil actors)) i;
})

pub state_more : (number : ℕ) (lines : List Line) (line : Line) → AreRightLines lines → MayFollow (state_from number lines) line
    → state_from number (lines ++ line ∷ []) ≡ with_line (number + length lines) line (state_from number lines)
state_more number [] Passed right may = refl
state_more number [] (Clients count) right may = refl
state_more number [] (CallLine actor kind id fill) right may = absurd may
state_more number [] (Order actors) right may = absurd may
state_more number (Passed ∷ lines) line right may =
    state_more (number + 1) lines line right may
    ∙ ap (λ n. with_line n line (state_from (number + 1) lines)) (let e : number + 1 + length lines ≡ number + length (Passed ∷ lines) = omega arith in e)
state_more number (Clients count ∷ lines) line right may = below_more count number lines line may
state_more number (CallLine actor kind id fill ∷ lines) line right may = absurd right
state_more number (Order actors ∷ lines) line right may = absurd right

-- What right lines ask for, by the definitions of a script.
pub record Describes (number : ℕ) (lines : List Line) (script : Script) : Type 0 where
  pub some : 1 ≤ script.clients
  pub clients : script.clients ≡ clients_in lines
  pub calls : script.calls ≡ calls_in number lines
  pub order : script.order ≡ order_in lines

pub described : (number : ℕ) (lines : List Line) (script : Script) → AreRightLines lines → state_from number lines ≡ Some script → Describes number lines script
described number [] script right is = absurd (cc is)
described number (Passed ∷ lines) script right is =
    let below = described (number + 1) lines script right is in
    record { some = below.some; clients = below.clients; calls = below.calls; order = below.order }
described number (Clients count ∷ lines) script right is =
    let same : record { clients = count; calls = calls_in (number + 1) lines; order = order_in lines } ≡ script = cc is in
    record {
      some = omega (arith, right.0, ap (λ (s : Script). s.clients) same);
      clients = sym (ap (λ (s : Script). s.clients) same);
      calls = sym (ap (λ (s : Script). s.calls) same);
      order = sym (ap (λ (s : Script). s.order) same);
    }
described number (CallLine actor kind id fill ∷ lines) script right is = absurd right
described number (Order actors ∷ lines) script right is = absurd right

pub undescribed : (number : ℕ) (lines : List Line) → AreRightLines lines → state_from number lines ≡ None → clients_in lines ≡ 0
undescribed number [] right is = refl
undescribed number (Passed ∷ lines) right is = undescribed (number + 1) lines right is
undescribed number (Clients count ∷ lines) right is = absurd (cc is)
undescribed number (CallLine actor kind id fill ∷ lines) right is = absurd right
undescribed number (Order actors ∷ lines) right is = absurd right

-- How many clients are named by right lines.
named_some : (count : ℕ) → 1 ≤ count → ◌≡◌ {A = Option ℕ} (Some count) (named count)
named_some zero some = absurd (omega (arith, some))
named_some (suc more) some = refl

pub named_in : (number : ℕ) (lines : List Line) → AreRightLines lines → named_by (state_from number lines) ≡ named (clients_in lines)
named_in number [] right = refl
named_in number (Passed ∷ lines) right = named_in (number + 1) lines right
named_in number (Clients count ∷ lines) right = named_some count right.0
named_in number (CallLine actor kind id fill ∷ lines) right = absurd right
named_in number (Order actors ∷ lines) right = absurd right

-- Right lines have not too many calls.
few_below : (clients calls number : ℕ) (lines : List Line) → AreRightBelow clients calls lines → calls ≤ most_calls → calls + length (calls_in number lines) ≤ most_calls
few_below clients calls number [] right few = omega (arith, few)
few_below clients calls number (Passed ∷ lines) right few = few_below clients calls (number + 1) lines right few
few_below clients calls number (Clients other ∷ lines) right few = absurd right
few_below clients calls number (CallLine actor kind id fill ∷ lines) right few = omega (arith, few_below clients (calls + 1) (number + 1) lines right.2 (omega (arith, right.1)))
few_below clients calls number (Order actors ∷ lines) right few = few_below clients calls (number + 1) lines right.1 few

pub few_calls : (number : ℕ) (lines : List Line) → AreRightLines lines → length (calls_in number lines) ≤ most_calls
few_calls number [] right = omega arith
few_calls number (Passed ∷ lines) right = few_calls (number + 1) lines right
few_calls number (Clients count ∷ lines) right = omega (arith, few_below count 0 (number + 1) lines right.2 (omega arith))
few_calls number (CallLine actor kind id fill ∷ lines) right = absurd right
few_calls number (Order actors ∷ lines) right = absurd right

-- The first of right lines are right.
below_take : (clients calls len : ℕ) (lines : List Line) → AreRightBelow clients calls lines → AreRightBelow clients calls (take len lines)
below_take clients calls zero lines right = tt
below_take clients calls (suc len) [] right = tt
below_take clients calls (suc len) (Passed ∷ lines) right = below_take clients calls len lines right
below_take clients calls (suc len) (Clients other ∷ lines) right = absurd right
below_take clients calls (suc len) (CallLine actor kind id fill ∷ lines) right = (right.0, right.1, below_take clients (calls + 1) len lines right.2)
below_take clients calls (suc len) (Order actors ∷ lines) right = (right.0, below_take clients calls len lines right.1)

pub right_take : (len : ℕ) (lines : List Line) → AreRightLines lines → AreRightLines (take len lines)
right_take zero lines right = tt
right_take (suc len) [] right = tt
right_take (suc len) (Passed ∷ lines) right = right_take len lines right
right_take (suc len) (Clients count ∷ lines) right = (right.0, right.1, below_take count 0 len lines right.2)
right_take (suc len) (CallLine actor kind id fill ∷ lines) right = absurd right
right_take (suc len) (Order actors ∷ lines) right = absurd right
