-- Which call stands at which place of the whole plan.
use Rattle.std.proofs.Common.{◌≡◌, ℕ, zero, suc, ◌+◌, ◌-◌, ◌*◌, ◌/◌, ◌%◌, ◌<◌, ◌≤◌, List, [], ◌∷◌, ◌++◌, length, drop}
use Rattle.std.proofs.Common.{get_or, map, refl, sym, ◌∙◌, ap, subst, arith, ⊎_elim, length-append, append_assoc, Some}
use Rattle.std.specs.Prelude.{flat_map, slice_get}
use Rattle.std.proofs.lemmas.Bool.{cases_lt}
use Rattle.std.proofs.lemmas.List.{append-nil, drop_at, get_or_append_left, get_or-append_right, length_push}
use Rattle.std.proofs.lemmas.List.{length-map, map-append}
use Rattle.std.proofs.lemmas.List.Concat.{flat_map-append}
use Rattle.std.proofs.Math.Nat.{div-add-mod', mod-lt}
use Rattle.std.proofs.lemmas.Nat.{div_below, div-mul-add, mod-mul-add}
use Rattle.std.proofs.lemmas.Option.{slice_get-get_or}
use Rattle.block_record.specs.Page.{page_sectors}
use Rattle.commit_job.specs.declared.call.CommitCall.{CommitCall}
use Rattle.commit_job.specs.declared.call.CommitCall.TheVariants.{IndexWrite, BaseSync, UberWrite, UberSync}
use Rattle.commit_job.specs.Stages.{index_writes, numbers_below, plan_of, signing_of}

-- A call stands at a place of a list.
record IsAt (calls : List CommitCall) (place : ℕ) (call : CommitCall) : Type 0 where
  inside : place < length calls
  there : (d : CommitCall) → get_or calls place d ≡ call

at_left : (calls others : List CommitCall) (place : ℕ) (call : CommitCall) → IsAt calls place call → IsAt (calls ++ others) place call
at_left calls others place call is = record {
  inside = omega (arith, is.inside, length-append calls others);
  there = λ d. get_or_append_left calls others d place is.inside ∙ is.there d;
}

at_right : (calls others : List CommitCall) (place n : ℕ) (call : CommitCall) → length calls ≡ n → n ≤ place → IsAt others (place - n) call
    → IsAt (calls ++ others) place call
at_right calls others place n call wide behind is = record {
  inside = omega (arith, is.inside, wide, behind, length-append calls others);
  there = λ d. get_or-append_right calls others n place d wide behind ∙ is.there d;
}

at_get : (calls : List CommitCall) (place : ℕ) (call : CommitCall) → IsAt calls place call → slice_get calls place ≡ Some call
at_get calls place call is = slice_get-get_or calls place call is.inside ∙ ap (λ (c : CommitCall). Some c) (is.there call)

pub length-numbers_below : (number : ℕ) → length (numbers_below number) ≡ number
length-numbers_below zero = refl
length-numbers_below (suc number) = omega (arith, length-numbers_below number, length_push (numbers_below number) number)

-- One call a number, in their order.
at_map : (call_of : ℕ → CommitCall) (numbers place : ℕ) → place < numbers → IsAt (map call_of (numbers_below numbers)) place (call_of place)
at_map call_of zero place inside = absurd (omega (arith, inside))
at_map call_of (suc numbers) place inside =
    let split : map call_of (numbers_below (suc numbers)) ≡ map call_of (numbers_below numbers) ++ call_of numbers ∷ [] =
    map-append call_of (numbers_below numbers) (numbers ∷ []) in
    let wide : length (map call_of (numbers_below numbers)) ≡ numbers =
    length-map (numbers_below numbers) call_of ∙ length-numbers_below numbers in
    subst (λ (calls : List CommitCall). IsAt calls place (call_of place)) (sym split) (⊎_elim
    (λ (below : place < numbers). at_left (map call_of (numbers_below numbers)) (call_of numbers ∷ []) place (call_of place)
    (at_map call_of numbers place below))
    (λ (above : numbers ≤ place).
    let same : place ≡ numbers = omega (arith, above, inside) in
    subst (λ (n : ℕ). IsAt (map call_of (numbers_below numbers) ++ call_of numbers ∷ []) n (call_of n)) (sym same)
    (at_right (map call_of (numbers_below numbers)) (call_of numbers ∷ []) numbers numbers (call_of numbers) wide (omega arith)
    (record {
      inside = omega arith;
      there = λ d. let first : numbers - numbers ≡ 0 = omega arith in ap (λ (n : ℕ). get_or (call_of numbers ∷ []) n d) first;
    })))
    (cases_lt place numbers))

-- The sectors of a page, device by device.
length-writes : (count devices : ℕ) → length (flat_map (index_writes count) (numbers_below devices)) ≡ devices * page_sectors count
length-writes count zero = omega arith
length-writes count (suc devices) =
    let s = page_sectors count in
    let split : flat_map (index_writes count) (numbers_below (suc devices))
    ≡ flat_map (index_writes count) (numbers_below devices) ++ flat_map (index_writes count) (devices ∷ []) =
    flat_map-append (index_writes count) (numbers_below devices) (devices ∷ []) in
    let last : length (flat_map (index_writes count) (devices ∷ [])) ≡ s =
    ap length (append-nil (index_writes count devices)) ∙ length-map (numbers_below s) (λ part. IndexWrite devices part)
    ∙ length-numbers_below s in
    ap length split
    ∙ omega (
      arith,
      last,
      length-writes count devices,
      length-append (flat_map (index_writes count) (numbers_below devices)) (flat_map (index_writes count) (devices ∷ [])),
    )

at_writes : (count devices place : ℕ) → place < devices * page_sectors count
    → IsAt (flat_map (index_writes count) (numbers_below devices)) place (IndexWrite (place / page_sectors count) (place % page_sectors count))
at_writes count zero place inside = absurd (omega (arith, inside))
at_writes count (suc devices) place inside =
    let s = page_sectors count in
    let before = flat_map (index_writes count) (numbers_below devices) in
    let split : flat_map (index_writes count) (numbers_below (suc devices)) ≡ before ++ index_writes count devices =
    flat_map-append (index_writes count) (numbers_below devices) (devices ∷ [])
    ∙ ap (λ (calls : List CommitCall). before ++ calls) (append-nil (index_writes count devices)) in
    subst (λ (calls : List CommitCall). IsAt calls place (IndexWrite (place / s) (place % s))) (sym split) (⊎_elim
    (λ (below : place < devices * s). at_left before (index_writes count devices) place (IndexWrite (place / s) (place % s))
    (at_writes count devices place below))
    (λ (above : devices * s ≤ place).
    let part = place - devices * s in
    let low : part < s = omega (arith, above, inside) in
    let is : place ≡ devices * s + part = omega (arith, above) in
    let row : place / s ≡ devices = ap (λ (n : ℕ). n / s) is ∙ div-mul-add devices s part low in
    let column : place % s ≡ part = ap (λ (n : ℕ). n % s) is ∙ mod-mul-add devices s part low in
    subst (λ (n : ℕ). IsAt (before ++ index_writes count devices) place (IndexWrite n (place % s))) (sym row)
    (subst (λ (n : ℕ). IsAt (before ++ index_writes count devices) place (IndexWrite devices n)) (sym column)
    (at_right before (index_writes count devices) place (devices * s) (IndexWrite devices part) (length-writes count devices) above
    (at_map (λ p. IndexWrite devices p) s part low))))
    (cases_lt place (devices * s)))

-- what stands behind the writes of the index
abbrev bases : ℕ → List CommitCall
bases devices = map (λ device. BaseSync device) (numbers_below devices)

abbrev ubers : ℕ → List CommitCall
ubers devices = map (λ device. UberWrite device) (numbers_below devices)

abbrev ends : ℕ → List CommitCall
ends devices = map (λ device. UberSync device) (numbers_below devices)

length-stage : (call_of : ℕ → CommitCall) (devices : ℕ) → length (map call_of (numbers_below devices)) ≡ devices
length-stage call_of devices = length-map (numbers_below devices) call_of ∙ length-numbers_below devices

-- The whole plan has the index sectors and three calls of each device.
pub length-plan : (devices count : ℕ) → length (plan_of devices count) ≡ devices * (page_sectors count + 3)
length-plan devices count =
    let writes = flat_map (index_writes count) (numbers_below devices) in
    omega (
      arith,
      length-writes count devices,
      length-stage (λ d. BaseSync d) devices,
      length-stage (λ d. UberWrite d) devices,
      length-stage (λ d. UberSync d) devices,
      length-append writes (bases devices),
      length-append (writes ++ bases devices) (ubers devices),
      length-append (writes ++ bases devices ++ ubers devices) (ends devices),
    )

-- First the index sectors, device by device,
pub write_at : (devices count place : ℕ) → place < devices * page_sectors count
    → slice_get (plan_of devices count) place ≡ Some (IndexWrite (place / page_sectors count) (place % page_sectors count))
write_at devices count place inside =
    let writes = flat_map (index_writes count) (numbers_below devices) in
    let call = IndexWrite (place / page_sectors count) (place % page_sectors count) in
    at_get (plan_of devices count) place call
    (at_left (writes ++ bases devices ++ ubers devices) (ends devices) place call
    (at_left (writes ++ bases devices) (ubers devices) place call
    (at_left writes (bases devices) place call (at_writes count devices place inside))))

-- then a sync of each device, its uberblock and a sync again.
pub base_at : (devices count place device : ℕ) → device < devices → place ≡ devices * page_sectors count + device
    → slice_get (plan_of devices count) place ≡ Some (BaseSync device)
base_at devices count place device low is =
    let writes = flat_map (index_writes count) (numbers_below devices) in
    let behind : place - devices * page_sectors count ≡ device = omega (arith, is) in
    at_get (plan_of devices count) place (BaseSync device)
    (at_left (writes ++ bases devices ++ ubers devices) (ends devices) place (BaseSync device)
    (at_left (writes ++ bases devices) (ubers devices) place (BaseSync device)
    (at_right writes (bases devices) place (devices * page_sectors count) (BaseSync device) (length-writes count devices) (omega (arith, is))
    (subst (λ (n : ℕ). IsAt (bases devices) n (BaseSync device)) (sym behind) (at_map (λ d. BaseSync d) devices device low)))))

pub uber_at : (devices count place device : ℕ) → device < devices → place ≡ devices * page_sectors count + devices + device
    → slice_get (plan_of devices count) place ≡ Some (UberWrite device)
uber_at devices count place device low is =
    let writes = flat_map (index_writes count) (numbers_below devices) in
    let n = devices * page_sectors count + devices in
    let wide : length (writes ++ bases devices) ≡ n =
    omega (arith, length-append writes (bases devices), length-writes count devices, length-stage (λ d. BaseSync d) devices) in
    let behind : place - n ≡ device = omega (arith, is) in
    at_get (plan_of devices count) place (UberWrite device)
    (at_left (writes ++ bases devices ++ ubers devices) (ends devices) place (UberWrite device)
    (at_right (writes ++ bases devices) (ubers devices) place n (UberWrite device) wide (omega (arith, is))
    (subst (λ (k : ℕ). IsAt (ubers devices) k (UberWrite device)) (sym behind) (at_map (λ d. UberWrite d) devices device low))))

pub end_at : (devices count place device : ℕ) → device < devices → place ≡ devices * page_sectors count + devices + devices + device
    → slice_get (plan_of devices count) place ≡ Some (UberSync device)
end_at devices count place device low is =
    let writes = flat_map (index_writes count) (numbers_below devices) in
    let n = devices * page_sectors count + devices + devices in
    let wide : length (writes ++ bases devices ++ ubers devices) ≡ n =
    omega (
      arith,
      length-append writes (bases devices),
      length-append (writes ++ bases devices) (ubers devices),
      length-writes count devices,
      length-stage (λ d. BaseSync d) devices,
      length-stage (λ d. UberWrite d) devices,
    ) in
    let behind : place - n ≡ device = omega (arith, is) in
    at_get (plan_of devices count) place (UberSync device)
    (at_right (writes ++ bases devices ++ ubers devices) (ends devices) place n (UberSync device) wide (omega (arith, is))
    (subst (λ (k : ℕ). IsAt (ends devices) k (UberSync device)) (sym behind) (at_map (λ d. UberSync d) devices device low)))

-- The same by what the code computes: the sectors of a page, and how many calls stand behind the writes.
pub write_there : (devices count sectors place : ℕ) → sectors ≡ page_sectors count → place < devices * sectors
    → slice_get (plan_of devices count) place ≡ Some (IndexWrite (place / sectors) (place % sectors))
write_there devices count sectors place is inside =
    subst (λ (s : ℕ). slice_get (plan_of devices count) place ≡ Some (IndexWrite (place / s) (place % s))) (sym is)
    (write_at devices count place (subst (λ (s : ℕ). place < devices * s) is inside))

-- the place by stage and device
record IsStage (devices count sectors place stage : ℕ) : Type 0 where
  low : (place - devices * sectors) % devices < devices
  is : place ≡ devices * page_sectors count + (stage * devices + (place - devices * sectors) % devices)

stage_of : (devices count sectors place stage : ℕ) → sectors ≡ page_sectors count → devices * sectors ≤ place
    → place < length (plan_of devices count) → (place - devices * sectors) / devices ≡ stage → IsStage devices count sectors place stage
stage_of devices count sectors place stage is above inside at_stage =
    let behind = place - devices * sectors in
    let some : 0 < devices = ⊎_elim
    (λ (none : devices < 1).
    let nothing : devices ≡ 0 = omega (arith, none) in
    let empty : length (plan_of devices count) ≡ 0 = length-plan devices count
    ∙ ap (λ (n : ℕ). n * (page_sectors count + 3)) nothing ∙ omega arith in
    absurd (omega (arith, inside, empty)))
    (λ (some : 1 ≤ devices). omega (arith, some))
    (cases_lt devices 1) in
    let split : stage * devices + behind % devices ≡ behind =
    ap (λ (n : ℕ). n * devices + behind % devices) (sym at_stage) ∙ div-add-mod' behind devices in
    record {
      low = mod-lt behind some;
      is = let same : devices * sectors ≡ devices * page_sectors count = ap (λ (s : ℕ). devices * s) is in omega (arith, above, split, same);
    }

pub base_there : (devices count sectors place : ℕ) → sectors ≡ page_sectors count → devices * sectors ≤ place
    → place < length (plan_of devices count) → (place - devices * sectors) / devices ≡ 0
    → slice_get (plan_of devices count) place ≡ Some (BaseSync ((place - devices * sectors) % devices))
base_there devices count sectors place is above inside at_stage =
    let stage = stage_of devices count sectors place 0 is above inside at_stage in
    base_at devices count place ((place - devices * sectors) % devices) stage.low (omega (arith, stage.is))

pub uber_there : (devices count sectors place : ℕ) → sectors ≡ page_sectors count → devices * sectors ≤ place
    → place < length (plan_of devices count) → (place - devices * sectors) / devices ≡ 1
    → slice_get (plan_of devices count) place ≡ Some (UberWrite ((place - devices * sectors) % devices))
uber_there devices count sectors place is above inside at_stage =
    let stage = stage_of devices count sectors place 1 is above inside at_stage in
    uber_at devices count place ((place - devices * sectors) % devices) stage.low (omega (arith, stage.is))

pub end_there : (devices count sectors place : ℕ) → sectors ≡ page_sectors count → devices * sectors ≤ place
    → place < length (plan_of devices count) → ((place - devices * sectors) / devices ≡ 0 → ⊥) → ((place - devices * sectors) / devices ≡ 1 → ⊥)
    → slice_get (plan_of devices count) place ≡ Some (UberSync ((place - devices * sectors) % devices))
end_there devices count sectors place is above inside not_first not_second =
    let behind = place - devices * sectors in
    let own = stage_of devices count sectors place (behind / devices) is above inside refl in
    let three : behind < 3 * devices =
    let same : devices * sectors ≡ devices * page_sectors count = ap (λ (s : ℕ). devices * s) is in
    omega (arith, inside, length-plan devices count, same, above) in
    let below : behind / devices < 3 = div_below behind devices 3 (omega (arith, own.low)) three in
    let third : behind / devices ≡ 2 = two (behind / devices) below not_first not_second in
    let stage = stage_of devices count sectors place 2 is above inside third in
    end_at devices count place (behind % devices) stage.low (omega (arith, stage.is))
  where
    two : (n : ℕ) → n < 3 → (n ≡ 0 → ⊥) → (n ≡ 1 → ⊥) → n ≡ 2
    two n low first second = omega (arith, low, first, second)

-- Of an empty index there is nothing to write, so the second half comes behind a sync of each device.
pub signing_left : (devices : ℕ) → drop devices (plan_of devices 0) ≡ signing_of devices
signing_left devices =
    let front = flat_map (index_writes 0) (numbers_below devices) ++ bases devices in
    let wide : length front ≡ devices =
    omega (
      arith,
      length-append (flat_map (index_writes 0) (numbers_below devices)) (bases devices),
      length-writes 0 devices,
      length-stage (λ d. BaseSync d) devices,
    ) in
    ap (λ (calls : List CommitCall). drop devices calls) (append_assoc front (ubers devices) (ends devices))
    ∙ drop_at front (ubers devices ++ ends devices) devices wide

pub length-signing : (devices : ℕ) → devices ≤ length (plan_of devices 0)
length-signing devices = omega (arith, length-plan devices 0)
