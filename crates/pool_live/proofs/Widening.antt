-- A script that is carried out with the client that widens the pool, or without.
use Rattle.std.proofs.Common.{◌≡◌, ◌⊎◌, inl, inr, ⊎_elim, ℕ, zero, suc, ◌<◌, ◌≤◌, List, [], ◌∷◌, map, Bool, true, false}
use Rattle.std.proofs.Common.{refl, sym, ◌∙◌, ap, subst, arith}
use Rattle.std.specs.Prelude.{All, None, Option, Some}
use Rattle.std.proofs.lemmas.List.Elements.{All-append, All-cons, All-map, All-nil, All-weaker}
use Rattle.core_state.specs.declared.answer.Kind.TheVariants.{Attach, Copy}
use Rattle.core_state.specs.declared.item.Group.{Group as GroupItem}
use Rattle.core_state.specs.declared.item.Item.{Item}
use Rattle.core_state.specs.declared.item.Item.TheVariants.{Call, Group}
use Rattle.core_state.specs.Journal.{CallsAreRight, IsComplete}
use Rattle.core_state.specs.Legal.{GroupAt}
use Rattle.client_script.specs.declared.call.ScriptCall.{ScriptCall}
use Rattle.client_script.specs.Copier.{copier_call, copier_calls, with_copier}
use Rattle.client_script.specs.Script.{IsAllowed, Placed, Script, asked_by}
use Rattle.core_open.specs.Pool.{first_item}
use Rattle.core_turns.specs.Core.{CoreState, HasBankOf}
use Rattle.schedule.specs.declared.whole_run.Ended.{Ended}
use Rattle.schedule.specs.declared.whole_run.Ended.TheVariants.{Whole, NoMemory, Limit}
use Rattle.schedule.specs.InTurn.{InOrder, Replay, replay_at}
use Rattle.schedule.specs.Playing.{CarriesOut, EndsAs}
use Rattle.schedule.specs.Replaying.{IsAtRest, blank_clients}
use Rattle.schedule.specs.Turns.{most_turns, turns_of}
use Rattle.schedule.proofs.run.AtRest.{schedule_at_rest}
use Rattle.schedule.proofs.run.Coming.{came_nowhere}
use Rattle.pool_live.specs.Sharing.{AnswersNone, HasCarriedOut}
use Rattle.pool_live.specs.Widening.{IsAlone, IsCarriedWith, IsScriptWith, TellsExpansion, turns_from}

-- ---- the client that widens the pool

abbrev placed_calls : Bool → List Placed
placed_calls attaches = map (λ (call : ScriptCall). record { actor = 8; call = call }) (copier_calls attaches)

-- What holds of a copy's call and of an attach's holds of each of its calls.
each_of : (P : ScriptCall → Type 0) → P (copier_call Attach) → P (copier_call Copy) → (attaches : Bool)
    → All P (copier_calls attaches)
each_of P attach copy true = All-cons P (copier_call Attach) (copier_call Copy ∷ []) attach
    (All-cons P (copier_call Copy) [] copy (All-nil P))
each_of P attach copy false = All-cons P (copier_call Copy) [] copy (All-nil P)

-- They are allowed,
pub widening_allowed : (attaches : Bool) (script : Script) → All (λ placed. IsAllowed placed.call) script.calls
    → All (λ placed. IsAllowed placed.call) (with_copier attaches script).calls
widening_allowed attaches script allowed =
    All-append (λ (placed : Placed). IsAllowed placed.call) script.calls (placed_calls attaches) allowed
    (All-map (λ (placed : Placed). IsAllowed placed.call) (λ (call : ScriptCall). record { actor = 8; call = call })
    (copier_calls attaches) (each_of IsAllowed refl refl attaches))

-- and each call is still a client's.
pub widening_actors : (attaches : Bool) (script : Script) → script.clients ≤ 8
    → All (λ placed. placed.actor < script.clients) script.calls
    → All (λ placed. placed.actor < (with_copier attaches script).clients) (with_copier attaches script).calls
widening_actors attaches script few actors =
    All-append (λ (placed : Placed). placed.actor < 9) script.calls (placed_calls attaches)
    (All-weaker (λ (placed : Placed). placed.actor < script.clients) (λ (placed : Placed). placed.actor < 9)
    (λ placed low. omega (arith, low, few)) script.calls actors)
    (All-map (λ (placed : Placed). placed.actor < 9) (λ (call : ScriptCall). record { actor = 8; call = call })
    (copier_calls attaches) (each_of (λ call. 8 < 9) (omega arith) (omega arith) attaches))

-- So are all calls of the script that is carried out.
pub carried_actors : (script carried : Script) (attaches : Bool) (opened : GroupItem)
    → IsScriptWith script attaches opened carried → script.clients ≤ 8
    → All (λ placed. placed.actor < script.clients) script.calls
    → All (λ placed. placed.actor < carried.clients) carried.calls
carried_actors script carried attaches opened is few actors = ⊎_elim
    (λ widens. subst (λ (s : Script). All (λ placed. placed.actor < s.clients) s.calls) (sym widens.1)
    (widening_actors attaches script few actors))
    (λ same. subst (λ (s : Script). All (λ placed. placed.actor < s.clients) s.calls) (sym same.2) actors) is

-- Where that client is there, no other is alone.
pub widening_not_alone : (script : Script) (attaches : Bool) (opened : GroupItem)
    → (attaches ≡ true) ⊎ TellsExpansion opened → IsAlone script attaches opened → ⊥
widening_not_alone script attaches opened widens alone = ⊎_elim
    (λ is. let clash : true ≡ false = sym is ∙ alone.0 in cc) (λ expands. alone.1 expands) widens

-- ---- how a script was carried out

-- Where there was no memory nothing was done.
pub left_undone : (script : Script) (attaches : Bool) (state : CoreState) (items : List Item)
    → (attaches ≡ true) ⊎ TellsExpansion (first_item state.core.pool) → IsAtRest state.core → HasBankOf state.core state.disk
    → AnswersNone items → IsCarriedWith script attaches state items NoMemory 0 state items
left_undone script attaches state items widens rest bank none = record {
  carried = with_copier attaches script;
  carried_is = inl (widens, refl);
  taken = inr (
    widening_not_alone script attaches (first_item state.core.pool) widens,
    record {
      passed = [];
      clients = blank_clients 9;
      taken = tt;
      come = came_nowhere refl;
      counted = refl;
    },
  );
  calls = (schedule_at_rest (with_copier attaches script) 9 rest bank none).answered.right;
  complete = λ whole. cc;
  limit = λ limit. cc;
  memory = λ is. refl;
}

-- The clients had their turns as they came.
pub carried_as_they_came : (script carried : Script) (attaches : Bool) (state : CoreState) (items : List Item)
    (ended : Ended) (turns : ℕ) (after : CoreState) (listed : List Item)
    → IsScriptWith script attaches (first_item state.core.pool) carried
    → (IsAlone script attaches (first_item state.core.pool) → ⊥)
    → HasCarriedOut carried (turns_from carried state items) 0 after listed turns
    → CallsAreRight (asked_by carried) listed
    → (ended ≡ Whole → IsComplete (asked_by carried) listed)
    → (ended ≡ Limit → most_turns ≤ turns)
    → (ended ≡ NoMemory → listed ≡ items)
    → IsCarriedWith script attaches state items ended turns after listed
carried_as_they_came script carried attaches state items ended turns after listed is other taken calls complete limit
    memory = record {
      carried = carried;
      carried_is = is;
      taken = inr (other, taken);
      calls = calls;
      complete = complete;
      limit = limit;
      memory = memory;
    }

-- The turns were those of an only client.
pub carried_alone : (script : Script) (attaches : Bool) (state : CoreState) (items : List Item) (ended : Ended) (turns : ℕ)
    (after : CoreState) (listed : List Item) → attaches ≡ false → (TellsExpansion (first_item state.core.pool) → ⊥)
    → script.clients ≤ 1
    → CarriesOut script [] (turns_from script state items) ended turns after listed
    → CallsAreRight (asked_by script) listed
    → (ended ≡ Whole → IsComplete (asked_by script) listed)
    → IsCarriedWith script attaches state items ended turns after listed
carried_alone script attaches state items ended turns after listed asks_none rests few out calls complete = record {
  carried = script;
  carried_is = inr (asks_none, rests, refl);
  taken = inl ((asks_none, rests, few), out);
  calls = calls;
  complete = complete;
  limit = λ is. (subst (EndsAs script start out.passed now) is out.ends).1;
  memory = λ is. ap (λ (replay : Replay). replay.turns.items) (subst (EndsAs script start out.passed now) is out.ends).0;
}
  where
    start : Replay
    start = replay_at (turns_from script state items) 0 (InOrder [])

    now : Replay
    now = replay_at (turns_of after listed out.clients) turns out.cursor

-- The first item of a journal is one group.
pub one_first : (items : List Item) (one other : GroupItem) → GroupAt items 0 one → GroupAt items 0 other → one ≡ other
one_first items one other at_one at_other = same (sym at_one ∙ at_other)
  where
    same : Some (Group one) ≡ Some (Group other) → one ≡ other
    same is = cc

-- ---- the journal of an opening

-- Its group answers no call.
pub group_answers_none : (group : GroupItem) → AnswersNone (Group group ∷ [])
group_answers_none group zero entry there = other there
  where
    other : Some (Group group) ≡ Some (Call entry) → ⊥
    other same = cc
group_answers_none group (suc index) entry there = none there
  where
    none : (let nothing : Option Item = None in nothing ≡ Some (Call entry)) → ⊥
    none same = cc
