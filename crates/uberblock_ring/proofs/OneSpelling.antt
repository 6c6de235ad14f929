-- Bytes tell one uberblock at most: its fields are read off from the end of each part.
use Rattle.std.proofs.Common.{◌≡◌, ℕ, ◌+◌, ◌-◌, ◌*◌, ◌^◌, ◌<◌, ◌≤◌, List, [], ◌∷◌, ◌++◌, length, replicate, refl, sym}
use Rattle.std.proofs.Common.{◌∙◌, ap, arith, ⊎_elim, append_assoc, length-append}
use Rattle.std.specs.Prelude.{flat_map, ⊤}
use Rattle.std.proofs.Math.Nat.{mul-le-mul_left, pow-le-pow_right}
use Rattle.sha2.proofs.Facts256.{length-sha256}
use Rattle.sha2.specs.Sha256.{sha256}
use Rattle.width_map.specs.declared.birth.Birth.{Birth}
use Rattle.width_map.specs.Births.{GrowFrom, IsGrowing, NoneAbove, last_width, last_width_from}
use Rattle.reflow_mark.specs.declared.reflow.State.{State}
use Rattle.reflow_mark.specs.declared.reflow.State.TheVariants.{None, Valid, Moved}
use Rattle.reflow_mark.specs.declared.reflow.Reflow.{Reflow}
use Rattle.reflow_mark.specs.Reflow.{IsRightReflow, IsMark, word_of, state_number}
use Rattle.block_record.specs.Bytes.{be32, be64, IsDigest}
use Rattle.block_record.proofs.Spelling.{be32_number, be64_number, last32, last64, length-be32, length-be64}
use Rattle.block_record.proofs.Spelling.{split_front, split_last}
use Rattle.uberblock_ring.specs.Uberblock.{Uber, magic, version, birth_bytes, fields_bytes, head_bytes, encoded}
use Rattle.uberblock_ring.specs.Uberblock.{slot_of}
use Rattle.uberblock_ring.specs.Valid.{IsRightUber, IsValidIn}

-- Births whose numbers fit in their fields.
abbrev pub FitFields : List Birth → Type 0
FitFields [] = ⊤
FitFields (birth ∷ births) = (birth.group < 2 ^ 64) × (birth.width < 2 ^ 32) × FitFields births

pub length-birth_bytes : (birth : Birth) → length (birth_bytes birth) ≡ 12
length-birth_bytes birth = omega (arith, length-append (be64 birth.group) (be32 birth.width), length-be64 birth.group, length-be32 birth.width)

pub length-births : (births : List Birth) → length (flat_map birth_bytes births) ≡ 12 * length births
length-births [] = refl
length-births (birth ∷ births) =
    omega (arith, length-births births, length-append (birth_bytes birth) (flat_map birth_bytes births), length-birth_bytes birth)

same_birth : (one other : Birth) → one.group ≡ other.group → one.width ≡ other.width → one ≡ other
same_birth one other group width = λ i. record { group = group i; width = width i }

-- The bytes of births tell the births.
pub births_tell : (births others : List Birth) → FitFields births → FitFields others → length births ≡ length others
    → flat_map birth_bytes births ≡ flat_map birth_bytes others → births ≡ others
births_tell [] [] fit small wide same = refl
births_tell [] (other ∷ others) fit small wide same = absurd (omega (arith, wide))
births_tell (birth ∷ births) [] fit small wide same = absurd (omega (arith, wide))
births_tell (birth ∷ births) (other ∷ others) fit small wide same =
    let parts : (birth_bytes birth ≡ birth_bytes other) × (flat_map birth_bytes births ≡ flat_map birth_bytes others) =
    split_front (birth_bytes birth) (birth_bytes other) (flat_map birth_bytes births) (flat_map birth_bytes others) same
    (length-birth_bytes birth ∙ sym (length-birth_bytes other)) in
    let numbers : (be64 birth.group ≡ be64 other.group) × (be32 birth.width ≡ be32 other.width) =
    split_last (be64 birth.group) (be64 other.group) (be32 birth.width) (be32 other.width) parts.0 (length-be32 birth.width ∙ sym (length-be32 other.width)) in
    let first : birth ≡ other = same_birth birth other (be64_number _ _ fit.0 small.0 numbers.0) (be32_number _ _ fit.1 small.1 numbers.1) in
    let rest : births ≡ others = births_tell births others fit.2 small.2 (omega (arith, wide)) parts.1 in
    λ i. first i ∷ rest i

-- Growing births end at the widest.
grow_to : (before : Birth) (births : List Birth) → GrowFrom before births → before.width ≤ last_width_from before.width births
grow_to before [] grow = omega arith
grow_to before (birth ∷ births) grow = omega (arith, grow.1, grow_to birth births grow.2)

fit_from : (before : Birth) (births : List Birth) (group : ℕ) → GrowFrom before births → group < 2 ^ 63 → NoneAbove group (before ∷ births)
    → last_width_from before.width births ≤ 16 → FitFields (before ∷ births)
fit_from before [] group grow low none last = (omega (arith, none.0, low), omega (arith, last), tt)
fit_from before (birth ∷ births) group grow low none last =
    (omega (arith, none.0, low), omega (arith, last, grow_to before (birth ∷ births) grow), fit_from birth births group grow.2 low none.1 last)

fit_fields : (births : List Birth) (group : ℕ) → IsGrowing births → group < 2 ^ 63 → NoneAbove group births → last_width births ≤ 16 → FitFields births
fit_fields [] group grow low none last = absurd grow
fit_fields (birth ∷ births) group grow low none last = fit_from birth births group grow.1 low none last

-- The word of a right reflow tells its state and mark.
same_state : (state other : State) (mark next : ℕ) → mark < 2 ^ 55 → next < 2 ^ 55
    → state_number state * 2 ^ 55 + mark ≡ state_number other * 2 ^ 55 + next → (state ≡ other) × (mark ≡ next)
same_state None None mark next low small same = (refl, omega (arith, same))
same_state None Valid mark next low small same = absurd (omega (arith, low, small, same))
same_state None Moved mark next low small same = absurd (omega (arith, low, small, same))
same_state Valid None mark next low small same = absurd (omega (arith, low, small, same))
same_state Valid Valid mark next low small same = (refl, omega (arith, same))
same_state Valid Moved mark next low small same = absurd (omega (arith, low, small, same))
same_state Moved None mark next low small same = absurd (omega (arith, low, small, same))
same_state Moved Valid mark next low small same = absurd (omega (arith, low, small, same))
same_state Moved Moved mark next low small same = (refl, omega (arith, same))

mark_in : (state : State) (reflow : Reflow) → IsMark state reflow → reflow.to ≤ 16 → reflow.to ≡ reflow.from + 1 → reflow.rows ≤ 65536 → reflow.mark < 2 ^ 55
mark_in None reflow mark narrow wider few = omega (arith, mark)
mark_in Valid reflow mark narrow wider few = omega (arith, mark, narrow)
mark_in Moved reflow mark narrow wider few =
    let first : reflow.rows * reflow.from ≤ reflow.rows * 16 = mul-le-mul_left reflow.rows (omega (arith, narrow, wider)) in
    omega (arith, mark, first, few)

pub mark_fits : (reflow : Reflow) → IsRightReflow reflow → reflow.to ≤ 16 → reflow.rows ≤ 65536 → reflow.mark < 2 ^ 55
mark_fits reflow right narrow few =
    ⊎_elim (λ still. omega (arith, still.1)) (λ expands. mark_in reflow.state reflow expands.1 narrow expands.0 few) right

-- words stay in eight bytes
pub word_fits : (reflow : Reflow) → reflow.mark < 2 ^ 55 → word_of reflow < 2 ^ 64
word_fits reflow low = small reflow.state reflow.mark low
  where
    small : (state : State) (mark : ℕ) → mark < 2 ^ 55 → state_number state * 2 ^ 55 + mark < 2 ^ 64
    small None mark low = omega (arith, low)
    small Valid mark low = omega (arith, low)
    small Moved mark low = omega (arith, low)

length-digest : (bytes : List ℕ) → length (sha256 bytes) ≡ 32
length-digest bytes = length-sha256 bytes

pub length-fields : (uber : Uber) (device : ℕ) → IsDigest uber.digest → length (fields_bytes uber device) ≡ 112
unfolding be32 be64 magic
length-fields uber device digest = omega (
  arith,
  digest.wide,
  length-append (magic ++ be32 version ++ be32 device ++ be64 uber.pool ++ be64 uber.group
      ++ be32 uber.parity ++ be32 uber.reflow.from ++ be32 uber.reflow.to ++ be32 uber.area
      ++ be64 uber.reflow.rows ++ be64 (word_of uber.reflow) ++ be64 uber.out
      ++ be32 uber.count ++ be32 (length uber.births)) uber.digest,
)

-- what the first 112 bytes tell
record SameFields (uber other : Uber) (device place : ℕ) : Type 0 where
  device_is : be32 device ≡ be32 place
  pool : be64 uber.pool ≡ be64 other.pool
  group : be64 uber.group ≡ be64 other.group
  parity : be32 uber.parity ≡ be32 other.parity
  from : be32 uber.reflow.from ≡ be32 other.reflow.from
  to : be32 uber.reflow.to ≡ be32 other.reflow.to
  area : be32 uber.area ≡ be32 other.area
  rows : be64 uber.reflow.rows ≡ be64 other.reflow.rows
  word : be64 (word_of uber.reflow) ≡ be64 (word_of other.reflow)
  out : be64 uber.out ≡ be64 other.out
  count : be32 uber.count ≡ be32 other.count
  births : be32 (length uber.births) ≡ be32 (length other.births)
  digest : uber.digest ≡ other.digest

fields_tell : (uber other : Uber) (device place : ℕ) → IsDigest uber.digest → IsDigest other.digest
    → fields_bytes uber device ≡ fields_bytes other place → SameFields uber other device place
fields_tell uber other device place digest hash same =
    let e0 = split_last _ _ _ _ same (digest.wide ∙ sym hash.wide) in
    let e1 = last32 _ _ _ _ e0.0 in
    let e2 = last32 _ _ _ _ e1.0 in
    let e3 = last64 _ _ _ _ e2.0 in
    let e4 = last64 _ _ _ _ e3.0 in
    let e5 = last64 _ _ _ _ e4.0 in
    let e6 = last32 _ _ _ _ e5.0 in
    let e7 = last32 _ _ _ _ e6.0 in
    let e8 = last32 _ _ _ _ e7.0 in
    let e9 = last32 _ _ _ _ e8.0 in
    let e10 = last64 _ _ _ _ e9.0 in
    let e11 = last64 _ _ _ _ e10.0 in
    let e12 = last32 _ _ _ _ e11.0 in
    record {
      device_is = e12.1;
      pool = e11.1;
      group = e10.1;
      parity = e9.1;
      from = e8.1;
      to = e7.1;
      area = e6.1;
      rows = e5.1;
      word = e4.1;
      out = e3.1;
      count = e2.1;
      births = e1.1;
      digest = e0.1;
    }

same_reflow : (one other : Reflow) → one.from ≡ other.from → one.to ≡ other.to → one.rows ≡ other.rows → one.mark ≡ other.mark
    → one.state ≡ other.state → one ≡ other
same_reflow one other from to rows mark state = λ i. record { from = from i; to = to i; rows = rows i; mark = mark i; state = state i }

same_uber : (one other : Uber) → one.pool ≡ other.pool → one.group ≡ other.group → one.parity ≡ other.parity → one.reflow ≡ other.reflow
    → one.area ≡ other.area → one.out ≡ other.out → one.count ≡ other.count → one.digest ≡ other.digest → one.births ≡ other.births → one ≡ other
same_uber one other pool group parity reflow area out count digest births = λ i. record {
  pool = pool i;
  group = group i;
  parity = parity i;
  reflow = reflow i;
  area = area i;
  out = out i;
  count = count i;
  digest = digest i;
  births = births i;
}

-- the reflow from its numbers
reflow_tells : (one other : Reflow) → IsRightReflow one → IsRightReflow other → one.to ≤ 16 → other.to ≤ 16 → one.rows ≤ 65536 → other.rows ≤ 65536
    → one.from ≡ other.from → one.to ≡ other.to → one.rows ≡ other.rows → word_of one ≡ word_of other → one ≡ other
reflow_tells one other right good narrow slim few low from to rows word =
    let both : (one.state ≡ other.state) × (one.mark ≡ other.mark) =
    same_state one.state other.state one.mark other.mark (mark_fits one right narrow few) (mark_fits other good slim low) word in
    same_reflow one other from to rows both.1 both.0

-- An out set of at most 16 devices fits its field.
pub out_fits : (out to : ℕ) → to ≤ 16 → out < 2 ^ to → out < 2 ^ 64
out_fits out to narrow below =
    let most : 2 ^ to ≤ 2 ^ 16 = pow-le-pow_right (omega arith) narrow in
    omega (arith, below, most)

-- The present width is no wider than the next one.
reflow_narrow : (reflow : Reflow) → IsRightReflow reflow → reflow.from ≤ reflow.to
reflow_narrow reflow is = ⊎_elim (λ still. omega (arith, still.0)) (λ expands. omega (arith, expands.0)) is

pub from_fits : (uber : Uber) → IsRightUber uber → uber.reflow.from < 2 ^ 32
from_fits uber right = omega (arith, right.widths, reflow_narrow uber.reflow right.reflow)

pub births_fit : (uber : Uber) → IsRightUber uber → FitFields uber.births
births_fit uber right = fit_fields uber.births (uber.group + 2) right.births.growing (omega (arith, right.group)) right.births.begun
    (omega (arith, right.births.last, right.widths, reflow_narrow uber.reflow right.reflow))

-- The copy on a device tells the uberblock and the device.
pub encoded_tells : (uber other : Uber) (device place : ℕ) → IsRightUber uber → IsRightUber other → device < 2 ^ 32 → place < 2 ^ 32
    → encoded uber device ≡ encoded other place → (uber ≡ other) × (device ≡ place)
unfolding encoded head_bytes
encoded_tells uber other device place right good small low same =
    let heads : head_bytes uber device ≡ head_bytes other place =
    (split_last _ _ _ _ same (length-digest _ ∙ sym (length-digest _))).0 in
    let fronts = split_front (fields_bytes uber device) (fields_bytes other place)
    (flat_map birth_bytes uber.births ++ replicate (368 - 12 * length uber.births) 0)
    (flat_map birth_bytes other.births ++ replicate (368 - 12 * length other.births) 0)
    (sym (append_assoc (fields_bytes uber device) (flat_map birth_bytes uber.births) _) ∙ heads ∙ append_assoc (fields_bytes other place) (flat_map birth_bytes other.births) _)
    (length-fields uber device right.digest ∙ sym (length-fields other place good.digest)) in
    let fields : SameFields uber other device place = fields_tell uber other device place right.digest good.digest fronts.0 in
    let counts : length uber.births ≡ length other.births =
    be32_number _ _ (omega (arith, right.births.few)) (omega (arith, good.births.few)) fields.births in
    let births : uber.births ≡ other.births = births_tell uber.births other.births (births_fit uber right) (births_fit other good) counts
    (split_front _ _ _ _ fronts.1 (omega (arith, counts, length-births uber.births, length-births other.births))).0 in
    let reflow : uber.reflow ≡ other.reflow = reflow_tells uber.reflow other.reflow right.reflow good.reflow right.widths.1 good.widths.1 right.rows.1 good.rows.1
    (be32_number _ _ (from_fits uber right) (from_fits other good) fields.from) (be32_number _ _ (omega (arith, right.widths)) (omega (arith, good.widths)) fields.to)
    (be64_number _ _ (omega (arith, right.rows)) (omega (arith, good.rows)) fields.rows)
    (be64_number _ _ (word_fits uber.reflow (mark_fits uber.reflow right.reflow right.widths.1 right.rows.1))
    (word_fits other.reflow (mark_fits other.reflow good.reflow good.widths.1 good.rows.1)) fields.word) in (
      same_uber uber other (be64_number _ _ right.pool good.pool fields.pool) (be64_number _ _ (omega (arith, right.group)) (omega (arith, good.group)) fields.group)
          (be32_number _ _ (omega (arith, right.parity)) (omega (arith, good.parity)) fields.parity) reflow
          (be32_number _ _ (omega (arith, right.area)) (omega (arith, good.area)) fields.area)
          (be64_number _ _ (out_fits uber.out uber.reflow.to right.widths.1 right.out.0) (out_fits other.out other.reflow.to good.widths.1 good.out.0) fields.out)
          (be32_number _ _ (omega (arith, right.count)) (omega (arith, good.count)) fields.count) fields.digest births,
      be32_number _ _ small low fields.device_is,
    )

-- Bytes that are valid in slots of devices are one uberblock, in one slot of one device.
pub valid_tells : (uber other : Uber) (device place slot spot : ℕ) (bytes : List ℕ) → device < 2 ^ 32 → place < 2 ^ 32
    → IsValidIn uber device slot bytes → IsValidIn other place spot bytes → (uber ≡ other) × (device ≡ place) × (slot ≡ spot)
valid_tells uber other device place slot spot bytes small low valid good =
    let both = encoded_tells uber other device place valid.right good.right small low (sym valid.bytes_are ∙ good.bytes_are) in
    (both.0, both.1, valid.slot_is ∙ ap (λ (u : Uber). slot_of u.group) both.0 ∙ sym good.slot_is)
