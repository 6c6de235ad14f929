-- Each call in line order stands among its client's calls behind those that were given before.
use Rattle.std.proofs.Common.{◌≡◌, ◌≢◌, ℕ, zero, suc, ◌+◌, ◌-◌, ◌<◌, List, [], ◌∷◌, length, get_or, take, set, Bool}
use Rattle.std.proofs.Common.{true, false, cond, Option, Some, refl, sym, ◌∙◌, ap, arith, eq-eqb, ne_eqb, ⊎_elim, subst}
use Rattle.std.specs.Prelude.{map, filter, ◌==◌, slice_get, option_map, unwrap_or}
use Rattle.std.proofs.lemmas.Bool.{cases_eq}
use Rattle.std.proofs.lemmas.List.{get_or-set_same, get_or-set_other}
use Rattle.std.proofs.lemmas.List.Filters.{length-filter_more}
use Rattle.std.proofs.lemmas.Option.{get_or_from_slice_get, slice_get_within}
use Rattle.client_script.specs.declared.call.ScriptCall.{ScriptCall}
use Rattle.client_script.specs.Lines.{fill_bytes}
use Rattle.client_script.specs.Script.{Script, Placed, calls_of}
use Rattle.client_script.specs.InOrder.{IsNextCall, given_of}

-- the call whose client was read
pub record IsAt (calls : List Placed) (given actor : ℕ) : Type 0 where
  pub placed : Placed
  pub there : slice_get calls given ≡ Some placed
  pub actor_is : placed.actor ≡ actor

at_actor : (calls : List Placed) (given actor : ℕ) → actor ≡ get_or (map (λ placed. placed.actor) calls) given actor → given < length (map (λ placed. placed.actor) calls) → IsAt calls given actor
at_actor [] given actor is within = absurd (omega (arith, within))
at_actor (first ∷ calls) zero actor is within = record { placed = first; there = refl; actor_is = sym is }
at_actor (first ∷ calls) (suc given) actor is within =
    let later = at_actor calls given actor is (omega (arith, within)) in
    record { placed = later.placed; there = later.there; actor_is = later.actor_is }

-- A first call is passed over, whether it is kept or not.
passed_first : (kept : Bool) (first : Placed) (calls before : List Placed) (found : Option ScriptCall) → slice_get (map (λ placed. placed.call) calls) (length before) ≡ found
    → slice_get (map (λ placed. placed.call) (cond kept (first ∷ calls) calls)) (length (cond kept (first ∷ before) before)) ≡ found
passed_first true first calls before found is = is
passed_first false first calls before found is = is

kept_first : (kept : Bool) (first : Placed) (calls : List Placed) → kept ≡ true → slice_get (map (λ placed. placed.call) (cond kept (first ∷ calls) calls)) 0 ≡ Some first.call
kept_first true first calls is = refl
kept_first false first calls is = absurd (cc is)

-- A call stands among its client's calls behind those of them that come before it.
pub place_among : (calls : List Placed) (given : ℕ) (placed : Placed) → slice_get calls given ≡ Some placed
    → slice_get (map (λ other. other.call) (filter (λ other. other.actor == placed.actor) calls)) (length (filter (λ other. other.actor == placed.actor) (take given calls))) ≡ Some placed.call
place_among [] given placed is = absurd (cc is)
place_among (first ∷ calls) zero placed is =
    let same : first ≡ placed = cc is in
    kept_first (first.actor == placed.actor) first (filter (λ other. other.actor == placed.actor) calls) (eq-eqb first.actor placed.actor (ap (λ (p : Placed). p.actor) same))
    ∙ ap (λ (p : Placed). Some p.call) same
place_among (first ∷ calls) (suc given) placed is =
    passed_first (first.actor == placed.actor) first (filter (λ other. other.actor == placed.actor) calls) (filter (λ other. other.actor == placed.actor) (take given calls)) (Some placed.call)
    (place_among calls given placed is)

-- The next call of a script: the list of all clients of calls was read, then a count, then the calls of that client.
module _ (script : Script) (order : List ℕ) (given actor index : ℕ) (counts : List ℕ) (calls : List ScriptCall)
    (order_is : order ≡ map (λ placed. placed.actor) script.calls) (actor_is : actor ≡ get_or order given actor) (within : given < length order)
    (at_index : index ≡ actor) (small : actor < 256) (counted : (other : ℕ) → other < 256 → get_or counts other 0 ≡ given_of script given other)
    (calls_are : calls ≡ calls_of script actor) where
  here : IsAt script.calls given actor
  here = at_actor script.calls given actor (actor_is ∙ ap (λ (l : List ℕ). get_or l given actor) order_is) (omega (arith, within, ap length order_is))

  count_is : get_or counts index 0 ≡ given_of script given actor
  count_is = ap (λ n. get_or counts n 0) at_index ∙ counted actor small

  found : slice_get (calls_of script actor) (get_or counts index 0) ≡ Some here.placed.call
  found =
      ap (slice_get (calls_of script actor)) count_is
      ∙ subst (λ n. slice_get (calls_of script n) (given_of script given n) ≡ Some here.placed.call) here.actor_is (place_among script.calls given here.placed here.there)

  -- There is one.
  pub place_within : get_or counts index 0 < length calls
  place_within = omega (arith, slice_get_within (calls_of script actor) (get_or counts index 0) here.placed.call found, ap length calls_are)

  one_more : (other : ℕ) → given_of script (given + 1) other ≡ given_of script given other + cond (here.placed.actor == other) 1 0
  one_more other =
      length-filter_more (λ placed. placed.actor == other) script.calls given here.placed (slice_get_within script.calls given here.placed here.there)
      ∙ ap (λ (p : Placed). given_of script given other + cond (p.actor == other) 1 0) (get_or_from_slice_get script.calls given here.placed here.placed here.there)

  -- The counts after it.
  pub counted_more : length counts ≡ 256 → (other : ℕ) → other < 256 → get_or (set counts index (get_or counts index 0 + 1)) other 0 ≡ given_of script (given + 1) other
  counted_more len other below =
      ⊎_elim
      (λ (is : other ≡ index).
      let test : (here.placed.actor == other) ≡ true = eq-eqb here.placed.actor other (here.actor_is ∙ sym at_index ∙ sym is) in
      let more = rw test at (one_more other) in
      ap (λ n. get_or (set counts index (get_or counts index 0 + 1)) n 0) is
      ∙ get_or-set_same counts index (get_or counts index 0 + 1) 0 (omega (arith, len, below, is))
      ∙ ap (λ n. n + 1) (ap (λ n. get_or counts n 0) (sym is) ∙ counted other below)
      ∙ sym more)
      (λ (isnt : other ≢ index).
      let test : (here.placed.actor == other) ≡ false = ne_eqb here.placed.actor other (λ e. isnt (sym e ∙ here.actor_is ∙ sym at_index)) in
      let more = rw test at (one_more other) in
      get_or-set_other counts index other (get_or counts index 0 + 1) 0 isnt ∙ counted other below ∙ omega (arith, more))
      (cases_eq other index)

  -- What is told of it.
  pub next_is : (call : ScriptCall) → call ≡ get_or calls (get_or counts index 0) call
      → IsNextCall (record { script = script; given = given }) (record { script = script; given = given + 1 }) actor (get_or counts index 0 + 1) call
  next_is call is =
      let same : here.placed.call ≡ call =
      sym (is ∙ ap (λ (l : List ScriptCall). get_or l (get_or counts index 0) call) calls_are ∙ get_or_from_slice_get (calls_of script actor) (get_or counts index 0) here.placed.call call found) in
      let number : get_or counts index 0 + 1 - 1 ≡ get_or counts index 0 = omega arith in
      let of_client : slice_get (calls_of script actor) (get_or counts index 0 + 1 - 1) ≡ Some call = ap (slice_get (calls_of script actor)) number ∙ found ∙ ap Some same in
      record {
        there = here.there ∙ (λ i. Some (record { actor = here.actor_is i; call = same i }));
        counted = ap (λ n. n + 1) count_is;
        of_client = of_client;
        handed = ap (λ (o : Option ScriptCall). unwrap_or (option_map (λ asked. fill_bytes asked.fill) o) []) of_client;
        one_more = refl;
      }
