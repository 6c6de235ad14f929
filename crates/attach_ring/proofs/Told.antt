-- The bytes of an uberblock tell the number of the device that it is for.
use Rattle.std.proofs.Common.{◌≡◌, ℕ, ◌+◌, ◌-◌, ◌*◌, ◌^◌, ◌<◌, List, [], ◌∷◌, ◌++◌, length, take, drop, replicate}
use Rattle.std.proofs.Common.{Option, Some, None, refl, sym, ◌∙◌, ap, subst, append_assoc}
use Rattle.std.specs.Prelude.{◌↔◌, IfNone, IfSome, IsTrue, flat_map, is_some}
use Rattle.std.proofs.lemmas.Bool.{false≢true}
use Rattle.std.proofs.lemmas.List.{append-nil, drop_at, length-append, take_at}
use Rattle.sha2.specs.Sha256.{sha256}
use Rattle.reflow_mark.specs.Reflow.{word_of}
use Rattle.block_record.specs.Bytes.{be32, be64}
use Rattle.block_record.proofs.Spelling.{be32_number, length-be32}
use Rattle.uberblock_ring.specs.Uberblock.{Uber, birth_bytes, encoded, head_bytes, magic, version}
use Rattle.uberblock_ring.specs.Valid.{IsValidIn}
use Rattle.attach_ring.specs.declared.taken.SlotUber.{SlotUber}
use Rattle.attach_ring.specs.Ring.{IsTakenSlot}

-- pieces behind each other, from the first one on
chained : List ℕ → List (List ℕ) → List ℕ
chained front [] = front
chained front (piece ∷ pieces) = chained (front ++ piece) pieces

-- the pieces alone
joined : List (List ℕ) → List ℕ
joined [] = []
joined (piece ∷ pieces) = piece ++ joined pieces

chained_is : (front : List ℕ) (pieces : List (List ℕ)) → chained front pieces ≡ front ++ joined pieces
unfolding chained joined
chained_is front [] = sym (append-nil front)
chained_is front (piece ∷ pieces) = chained_is (front ++ piece) pieces ∙ append_assoc front piece (joined pieces)

-- what an uberblock begins with, before the number
opening : List ℕ
opening = magic ++ be32 version

length-opening : length opening ≡ 12
unfolding opening magic
length-opening = length-append magic (be32 version) ∙ ap (λ (n : ℕ). 8 + n) (length-be32 version)

-- the pieces behind the number
behind : Uber → ℕ → List (List ℕ)
behind uber device = be64 uber.pool ∷ be64 uber.group ∷ be32 uber.parity ∷ be32 uber.reflow.from ∷ be32 uber.reflow.to
    ∷ be32 uber.area ∷ be64 uber.reflow.rows ∷ be64 (word_of uber.reflow) ∷ be64 uber.out ∷ be32 uber.count
    ∷ be32 (length uber.births) ∷ uber.digest ∷ flat_map birth_bytes uber.births
    ∷ replicate (368 - 12 * length uber.births) 0 ∷ sha256 (head_bytes uber device) ∷ []

encoded_is : (uber : Uber) (device : ℕ) → encoded uber device ≡ opening ++ (be32 device ++ joined (behind uber device))
unfolding chained joined opening behind encoded head_bytes be32
encoded_is uber device = chained_is opening (be32 device ∷ behind uber device)

-- The number stands behind the first twelve bytes.
pub number_told : (uber : Uber) (number told : ℕ) → number < 2 ^ 32 → told < 2 ^ 32
    → take 4 (drop 12 (encoded uber number)) ≡ be32 told → number ≡ told
number_told uber number told fits told_fits read = be32_number number told fits told_fits
    (sym (ap (λ (bytes : List ℕ). take 4 (drop 12 bytes)) (encoded_is uber number)
    ∙ ap (take 4) (drop_at opening (be32 number ++ joined (behind uber number)) 12 length-opening)
    ∙ take_at (be32 number) (joined (behind uber number)) 4 (length-be32 number))
    ∙ read)

-- So the uberblock that the bytes tell is the one to look for:
-- bytes that are none for the number that they tell are none for any,
pub free_by : (bytes : List ℕ) (slot told : ℕ) → told < 2 ^ 32 → take 4 (drop 12 bytes) ≡ be32 told
    → ((uber : Uber) → IsValidIn uber told slot bytes → ⊥) → IsTakenSlot slot bytes
    → ⊥
free_by bytes slot told fits read none taken = none taken.uber (subst (λ (number : ℕ). IsValidIn taken.uber number slot bytes)
    (number_told taken.uber taken.number told taken.fits fits
    (subst (λ (given : List ℕ). take 4 (drop 12 given) ≡ be32 told) taken.valid.bytes_are read)) taken.valid)

-- and a slot is taken where there is an uberblock.
pub taken_by : (bytes : List ℕ) (slot : ℕ) (found : Option SlotUber) → IfSome found (λ slot_uber. slot_uber.number < 2 ^ 32)
    → IfSome found (λ slot_uber. IsValidIn slot_uber.uber slot_uber.number slot bytes) → IfNone found (IsTakenSlot slot bytes → ⊥)
    → IsTrue (is_some found) ↔ IsTakenSlot slot bytes
taken_by bytes slot (Some slot_uber) number some none =
    ((λ is. record { uber = slot_uber.uber; number = slot_uber.number; fits = number; valid = some }), (λ taken. refl))
taken_by bytes slot None number some none = ((λ is. absurd (false≢true is)), (λ taken. absurd (none taken)))
