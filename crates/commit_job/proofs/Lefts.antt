-- What is left of a plan, as calls are passed over or made.
use Rattle.std.proofs.Common.{◌≡◌, ℕ, ◌+◌, ◌≤◌, Bool, true, false, cond, List, [], ◌∷◌, ◌++◌, length, drop, map, refl}
use Rattle.std.proofs.Common.{sym, ◌∙◌, ap, subst, Some}
use Rattle.std.specs.Prelude.{filter, flat_map, not, slice_get, ◌&&◌}
use Rattle.std.proofs.lemmas.Bool.{false≢true}
use Rattle.std.proofs.lemmas.List.{append-nil, drop_all, drop_more}
use Rattle.std.proofs.lemmas.Option.{get_or_from_slice_get, slice_get_within}
use Rattle.block_record.specs.Page.{page_sectors}
use Rattle.uberblock_ring.specs.Devices.{has_device}
use Rattle.commit_job.specs.declared.call.CommitCall.{CommitCall}
use Rattle.commit_job.specs.declared.call.CommitCall.TheVariants.{IndexWrite, BaseSync, UberWrite, UberSync}
use Rattle.commit_job.specs.declared.plan.Meant.TheVariants.{All, Spread}
use Rattle.commit_job.specs.declared.plan.Plan.{Plan}
use Rattle.commit_job.specs.Plan.{is_meant, IsDueAt, left_from, whole_of}
use Rattle.commit_job.specs.Stages.{after_next, calls_left, spread_of, device_of, index_writes, numbers_below, plan_of}

-- The plan from a place on is the call there and what is behind it.
behind : (plan : Plan) (place : ℕ) (call : CommitCall) → slice_get (whole_of plan) place ≡ Some call
    → drop place (whole_of plan) ≡ call ∷ drop (place + 1) (whole_of plan)
behind plan place call there =
    drop_more (whole_of plan) place call (slice_get_within (whole_of plan) place call there)
    ∙ ap (λ (c : CommitCall). c ∷ drop (place + 1) (whole_of plan)) (get_or_from_slice_get (whole_of plan) place call call there)

filter_yes : (test : CommitCall → Bool) (call : CommitCall) (calls : List CommitCall) → test call ≡ true → filter test (call ∷ calls) ≡ call ∷ filter test calls
filter_yes test call calls passes = ap (λ (b : Bool). cond b (call ∷ filter test calls) (filter test calls)) passes

filter_no : (test : CommitCall → Bool) (call : CommitCall) (calls : List CommitCall) → test call ≡ false → filter test (call ∷ calls) ≡ filter test calls
filter_no test call calls fails = ap (λ (b : Bool). cond b (call ∷ filter test calls) (filter test calls)) fails

left_meant : (plan : Plan) (place : ℕ) (call : CommitCall) → slice_get (whole_of plan) place ≡ Some call → is_meant plan.meant call ≡ true
    → left_from plan place ≡ call ∷ left_from plan (place + 1)
left_meant plan place call there meant =
    ap (λ (calls : List CommitCall). filter (is_meant plan.meant) calls) (behind plan place call there)
    ∙ filter_yes (is_meant plan.meant) call (drop (place + 1) (whole_of plan)) meant

left_other : (plan : Plan) (place : ℕ) (call : CommitCall) → slice_get (whole_of plan) place ≡ Some call → is_meant plan.meant call ≡ false
    → left_from plan place ≡ left_from plan (place + 1)
left_other plan place call there other =
    ap (λ (calls : List CommitCall). filter (is_meant plan.meant) calls) (behind plan place call there)
    ∙ filter_no (is_meant plan.meant) call (drop (place + 1) (whole_of plan)) other

-- A call that is not meant, or whose device is out, is passed over.
pub passed_left : (plan : Plan) (place out : ℕ) (call : CommitCall) → slice_get (whole_of plan) place ≡ Some call
    → (meant used : Bool) → is_meant plan.meant call ≡ meant → not (has_device out (device_of call)) ≡ used → (meant ≡ true → used ≡ true → ⊥)
    → (calls_left out (left_from plan place) ≡ calls_left out (left_from plan (place + 1)))
    × (after_next out (left_from plan place) ≡ after_next out (left_from plan (place + 1)))
passed_left plan place out call there false used is shows wrong =
    let same = left_other plan place call there is in
    (ap (λ (calls : List CommitCall). calls_left out calls) same, ap (λ (calls : List CommitCall). after_next out calls) same)
passed_left plan place out call there true true is shows wrong = absurd (wrong refl refl)
passed_left plan place out call there true false is shows wrong =
    let same = left_meant plan place call there is in (
      ap (λ (calls : List CommitCall). calls_left out calls) same
          ∙ filter_no (λ c. not (has_device out (device_of c))) call (left_from plan (place + 1)) shows,
      ap (λ (calls : List CommitCall). after_next out calls) same ∙ passes out call (left_from plan (place + 1)) (has_device out (device_of call)) refl shows,
    )
  where
    passes : (out : ℕ) (call : CommitCall) (calls : List CommitCall) (has : Bool) → has_device out (device_of call) ≡ has → not has ≡ false
        → after_next out (call ∷ calls) ≡ after_next out calls
    passes out call calls true is off = ap (λ (b : Bool). cond b (after_next out calls) calls) is
    passes out call calls false is off = absurd (false≢true (sym off))

-- A call that is due is the next one, and what is behind it is left.
pub due_next : (plan : Plan) (place out : ℕ) → IsDueAt plan out place → (call : CommitCall) → slice_get (whole_of plan) place ≡ Some call
    → (calls_left out (left_from plan place) ≡ call ∷ calls_left out (left_from plan (place + 1)))
    × (after_next out (left_from plan place) ≡ left_from plan (place + 1))
due_next plan place out due call there =
    let same : due.call ≡ call = sym (get_or_from_slice_get (whole_of plan) place due.call call due.there)
    ∙ get_or_from_slice_get (whole_of plan) place call call there in
    let meant : is_meant plan.meant call ≡ true = subst (λ (c : CommitCall). is_meant plan.meant c ≡ true) same due.meant in
    let in_use : has_device out (device_of call) ≡ false = subst (λ (c : CommitCall). has_device out (device_of c) ≡ false) same due.in_use in
    let is : left_from plan place ≡ call ∷ left_from plan (place + 1) = left_meant plan place call there meant in (
      ap (λ (calls : List CommitCall). calls_left out calls) is
          ∙ filter_yes (λ c. not (has_device out (device_of c))) call (left_from plan (place + 1)) (ap not in_use),
      ap (λ (calls : List CommitCall). after_next out calls) is
          ∙ ap (λ (b : Bool). cond b (after_next out (left_from plan (place + 1))) (left_from plan (place + 1))) in_use,
    )

-- At the end nothing is left.
pub none_left : (plan : Plan) (place out : ℕ) → length (whole_of plan) ≤ place → left_from plan place ≡ []
none_left plan place out over = ap (λ (calls : List CommitCall). filter (is_meant plan.meant) calls) (drop_all place (whole_of plan) over)

-- Where all is meant, all is left.
pub all_meant : (calls : List CommitCall) → filter (is_meant All) calls ≡ calls
all_meant [] = refl
all_meant (call ∷ calls) = ap (λ (rest : List CommitCall). call ∷ rest) (all_meant calls)

cond_append : (b : Bool) (call : CommitCall) (calls others all : List CommitCall) → all ≡ calls ++ others
    → cond b (call ∷ all) all ≡ cond b (call ∷ calls) calls ++ others
cond_append true call calls others all is = ap (λ (rest : List CommitCall). call ∷ rest) is
cond_append false call calls others all is = is

filter-append : (test : CommitCall → Bool) (calls others : List CommitCall) → filter test (calls ++ others) ≡ filter test calls ++ filter test others
filter-append test [] others = refl
filter-append test (call ∷ calls) others =
    cond_append (test call) call (filter test calls) (filter test others) (filter test (calls ++ others)) (filter-append test calls others)

-- One call a device, of which some are meant.
cond_map : (b : Bool) (call_of : ℕ → CommitCall) (device : ℕ) (devices : List ℕ) (calls : List CommitCall) → calls ≡ map call_of devices
    → cond b (call_of device ∷ calls) calls ≡ map call_of (cond b (device ∷ devices) devices)
cond_map true call_of device devices calls is = ap (λ (rest : List CommitCall). call_of device ∷ rest) is
cond_map false call_of device devices calls is = is

meant_map : (test : CommitCall → Bool) (wants : ℕ → Bool) (call_of : ℕ → CommitCall) → ((device : ℕ) → test (call_of device) ≡ wants device)
    → (devices : List ℕ) → filter test (map call_of devices) ≡ map call_of (filter wants devices)
meant_map test wants call_of same [] = refl
meant_map test wants call_of same (device ∷ devices) =
    ap (λ (b : Bool). cond b (call_of device ∷ filter test (map call_of devices)) (filter test (map call_of devices))) (same device)
    ∙ cond_map (wants device) call_of device (filter wants devices) (filter test (map call_of devices)) (meant_map test wants call_of same devices)

all_of : (test : CommitCall → Bool) (numbers : List ℕ) (call_of : ℕ → CommitCall) → ((n : ℕ) → test (call_of n) ≡ true)
    → filter test (map call_of numbers) ≡ map call_of numbers
all_of test [] call_of each = refl
all_of test (n ∷ numbers) call_of each = filter_yes test (call_of n) (map call_of numbers) (each n)
    ∙ ap (λ (rest : List CommitCall). call_of n ∷ rest) (all_of test numbers call_of each)

none_of : (test : CommitCall → Bool) (numbers : List ℕ) (call_of : ℕ → CommitCall) → ((n : ℕ) → test (call_of n) ≡ false)
    → filter test (map call_of numbers) ≡ []
none_of test [] call_of each = refl
none_of test (n ∷ numbers) call_of each = filter_no test (call_of n) (map call_of numbers) (each n) ∙ none_of test numbers call_of each

-- The page's sectors go to the devices that lack it.
writes_of : (page uber count device : ℕ) (b : Bool) → has_device page device ≡ b
    → filter (is_meant (Spread page uber)) (index_writes count device) ≡ cond b (index_writes count device) []
writes_of page uber count device true is =
    all_of (is_meant (Spread page uber)) (numbers_below (page_sectors count)) (λ part. IndexWrite device part) (λ part. is)
writes_of page uber count device false is =
    none_of (is_meant (Spread page uber)) (numbers_below (page_sectors count)) (λ part. IndexWrite device part) (λ part. is)

cond_writes : (b : Bool) (count device : ℕ) (devices : List ℕ) (calls : List CommitCall) → calls ≡ flat_map (index_writes count) devices
    → cond b (index_writes count device) [] ++ calls ≡ flat_map (index_writes count) (cond b (device ∷ devices) devices)
cond_writes true count device devices calls is = ap (λ (rest : List CommitCall). index_writes count device ++ rest) is
cond_writes false count device devices calls is = is

meant_writes : (page uber count : ℕ) (devices : List ℕ) → filter (is_meant (Spread page uber)) (flat_map (index_writes count) devices)
    ≡ flat_map (index_writes count) (filter (has_device page) devices)
meant_writes page uber count [] = refl
meant_writes page uber count (device ∷ devices) =
    let rest = filter (is_meant (Spread page uber)) (flat_map (index_writes count) devices) in
    filter-append (is_meant (Spread page uber)) (index_writes count device) (flat_map (index_writes count) devices)
    ∙ ap (λ (calls : List CommitCall). calls ++ rest) (writes_of page uber count device (has_device page device) refl)
    ∙ cond_writes (has_device page device) count device (filter (has_device page) devices) rest (meant_writes page uber count devices)

-- Of the whole plan, what brings a group to devices is meant.
pub spread_meant : (devices count page uber : ℕ) → filter (is_meant (Spread page uber)) (plan_of devices count) ≡ spread_of devices count page uber
spread_meant devices count page uber =
    let test : CommitCall → Bool = is_meant (Spread page uber) in
    let numbers = numbers_below devices in
    let writes = flat_map (index_writes count) numbers in
    let bases = map (λ device. BaseSync device) numbers in
    let ubers = map (λ device. UberWrite device) numbers in
    let ends = map (λ device. UberSync device) numbers in
    filter-append test (writes ++ bases ++ ubers) ends
    ∙ ap (λ (calls : List CommitCall). calls ++ filter test ends) (filter-append test (writes ++ bases) ubers)
    ∙ ap (λ (calls : List CommitCall). calls ++ filter test ubers ++ filter test ends) (filter-append test writes bases)
    ∙ ap (λ (calls : List CommitCall). filter test writes ++ calls ++ filter test ubers ++ filter test ends)
    (none_of test numbers (λ device. BaseSync device) (λ device. refl))
    ∙ ap (λ (calls : List CommitCall). calls ++ filter test ubers ++ filter test ends) (append-nil (filter test writes))
    ∙ ap (λ (calls : List CommitCall). calls ++ filter test ubers ++ filter test ends) (meant_writes page uber count numbers)
    ∙ ap (λ (calls : List CommitCall). flat_map (index_writes count) (filter (has_device page) numbers) ++ calls ++ filter test ends)
    (meant_map test (has_device uber) (λ device. UberWrite device) (λ device. refl) numbers)
    ∙ ap (λ (calls : List CommitCall). flat_map (index_writes count) (filter (has_device page) numbers)
    ++ map (λ device. UberWrite device) (filter (has_device uber) numbers) ++ calls)
    (all_of test numbers (λ device. UberSync device) (λ device. refl))

-- What is not due is not meant, or its device is out.
pub not_due : (meant used due : Bool) → due ≡ (meant && used) → due ≡ false → meant ≡ true → used ≡ true → ⊥
not_due true true due is off first second = false≢true (sym off ∙ is)
not_due true false due is off first second = false≢true second
not_due false used due is off first second = false≢true first

-- What the first call that is due tells of the calls that were left.
pub record IsStep (plan : Plan) (place out : ℕ) (left : List CommitCall) (call : CommitCall) : Type 0 where
  pub next : Some call ≡ slice_get (calls_left out left) 0
  pub behind_it : left_from plan (place + 1) ≡ after_next out left
  pub rest : calls_left out (left_from plan (place + 1)) ≡ drop 1 (calls_left out left)

pub step_is : (plan : Plan) (first place out : ℕ) (left : List CommitCall) (call : CommitCall) → left_from plan first ≡ left
    → calls_left out (left_from plan first) ≡ calls_left out (left_from plan place)
    → after_next out (left_from plan first) ≡ after_next out (left_from plan place)
    → IsDueAt plan out place → slice_get (whole_of plan) place ≡ Some call → IsStep plan place out left call
step_is plan first place out left call is same_left same_after due there =
    let next = due_next plan place out due call there in
    let calls : calls_left out left ≡ call ∷ calls_left out (left_from plan (place + 1)) =
    ap (λ (cs : List CommitCall). calls_left out cs) (sym is) ∙ same_left ∙ next.0 in
    record {
      next = ap (λ (cs : List CommitCall). slice_get cs 0) (sym calls);
      behind_it = sym next.1 ∙ sym same_after ∙ ap (λ (cs : List CommitCall). after_next out cs) is;
      rest = ap (λ (cs : List CommitCall). drop 1 cs) (sym calls);
    }
