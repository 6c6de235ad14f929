use Rattle.std.proofs.Common.{◌≡◌, ◌∙◌, ◌-◌, ◌*◌, ◌++◌, ap, arith, length, List, replicate, ℕ}
use Rattle.std.specs.Prelude.{flat_map}
use Rattle.std.proofs.lemmas.List.{append-nil}
use Rattle.sha2.proofs.Facts256.{length-sha256}
use Rattle.sha2.specs.Sha256.{sha256}
use Rattle.width_map.specs.declared.birth.Birth.{Birth}
use Rattle.block_record.proofs.Grows.{more}
use Rattle.uberblock_ring.specs.Uberblock.{birth_bytes, encoded, fields_bytes, head_bytes}
use Rattle.uberblock_ring.proofs.uber.Uber.encode.Goals as goal

pub returns : goal.returns
unfolding encoded head_bytes
returns c =
    let u = c.args.self.now in
    let births : c.as_slice-births.result.now ≡ u.births = c.as_slice-births.ensures.value ∙ c.births.ensures.value in
    let head : c.put_zeros.new.self ≡ head_bytes u c.args.device =
    more _ (more _ c.put_fields.ensures.bytes c.put_births.ensures.bytes) c.put_zeros.ensures.bytes
    ∙ ap (λ (bs : List Birth). fields_bytes u c.args.device ++ flat_map birth_bytes bs ++ replicate {A = ℕ} (368 - 12 * length bs) 0) births in
    let digest : c.digest-digest.result ≡ sha256 (head_bytes u c.args.device) = c.digest-digest.ensures ∙ ap sha256 (c.as_slice.ensures ∙ head) in
    let whole : 512 - length c.put.new.self ≡ 0 = omega (
      arith,
      c.put.ensures.len,
      c.put_zeros.ensures.len,
      c.put_births.ensures.len,
      c.put_fields.ensures.len,
      c.as_slice-births.ensures.room,
      ap length c.digest-digest.ensures,
      length-sha256 c.as_slice.result.now,
    ) in
    record {
      value = c.finish.ensures ∙ ap (λ (n : ℕ). c.put.new.self ++ replicate {A = ℕ} n 0) whole ∙ append-nil c.put.new.self
          ∙ c.put.ensures.bytes ∙ ap (λ (l : List ℕ). l ++ c.digest-digest.result) head
          ∙ ap (λ (l : List ℕ). head_bytes u c.args.device ++ l) digest;
    }
