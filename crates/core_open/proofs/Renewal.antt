-- The writes of an opening: the chosen group to those that lack it, then the group that renews it.
use Rattle.std.proofs.Common.{◌≡◌, inl, inr, ℕ, ◌+◌, ◌^◌, ◌<◌, ◌≤◌, List, true, false, Result, Ok, Err, refl, sym}
use Rattle.std.proofs.Common.{ap, subst, arith}
use Rattle.std.specs.Prelude.{is_err, OnOk, OnErr}
use Rattle.block_record.specs.declared.entry.IndexEntry.{IndexEntry}
use Rattle.uberblock_ring.specs.Devices.{count_below, count_of}
use Rattle.uberblock_ring.specs.Uberblock.{Uber}
use Rattle.uberblock_ring.specs.Valid.{IsRightUber}
use Rattle.uberblock_ring.proofs.DeviceSets.{count_within}
use Rattle.core_state.specs.Committing.{Point}
use Rattle.core_commit.specs.declared.committing.TooManyOut.{TooManyOut}
use Rattle.core_commit.specs.Spread.{SpreadKeeps}
use Rattle.core_commit.specs.Writing.{IsSpreadOf, WritesOnly}
use Rattle.core_commit.specs.Spared.{HaveGoneOut, SparesData, StopsInTime, TouchesGroup}
use Rattle.core_open.specs.declared.why.OpenWhy.TheVariants as reason
use Rattle.core_open.specs.Opens.{HasSpread, HasRenewed, EndsRenewal, renewed_by, every_device}
use Rattle.width_map.proofs.Growing.{none_above_more}

abbrev Spreading : Type 0
Spreading = Result (Unit {0}) TooManyOut

-- The uberblock of an opening's group is right.
pub right_with : (uber other : Uber) (out : ℕ) → IsRightUber uber → other ≡ renewed_by uber out
    → uber.group + 2 ≤ 2 ^ 62
    → (out < 2 ^ uber.reflow.to) × (count_below out uber.reflow.to ≤ uber.parity)
    → IsRightUber other
right_with uber other out right is limit few = subst IsRightUber (sym is) (record {
  pool = right.pool;
  group = (omega arith, limit);
  parity = right.parity;
  widths = right.widths;
  rows = right.rows;
  reflow = right.reflow;
  area = right.area;
  out = few;
  count = right.count;
  digest = right.digest;
  births = record {
    growing = right.births.growing;
    few = right.births.few;
    wide = right.births.wide;
    last = right.births.last;
    begun = none_above_more (uber.group + 2) (uber.group + 2 + 2) uber.births (omega arith) right.births.begun;
  };
})

pub right_renewed : (uber other : Uber) (out : ℕ) → IsRightUber uber → other ≡ renewed_by uber out
    → uber.group + 2 ≤ 2 ^ 62 → out < 2 ^ uber.reflow.to → count_of out ≤ uber.parity
    → IsRightUber other
right_renewed uber other out right is limit below few = right_with uber other out right is limit (
  below,
  (let wide = right.widths.1 in
      let same = count_within out uber.reflow.to below (omega (arith, wide)) in omega (arith, few, same)),
)

ok_of : (result : Spreading) → false ≡ is_err result → (value : Unit {0}) × (result ≡ Ok value)
ok_of (Ok value) is = (value, refl)
ok_of (Err why) is = absurd (cc)

err_of : (result : Spreading) → true ≡ is_err result → (why : TooManyOut) × (result ≡ Err why)
err_of (Ok value) is = absurd (cc)
err_of (Err why) is = (why, refl)

-- What holds of a run that went well.
pub few_of : (result : Spreading) (out most : ℕ) → OnOk result (count_of out ≤ most) → false ≡ is_err result
    → count_of out ≤ most
few_of result out most few went = subst (λ (r : Spreading). OnOk r (count_of out ≤ most)) (ok_of result went).1 few

-- One of these two runs, with its masks.
pub spread_by : (uber : Uber) (entries : List IndexEntry) (none all : ℕ) (before after : Point) (result : Spreading)
    → none ≡ 0 → all ≡ every_device → SpreadKeeps uber entries none all before after result
    → HaveGoneOut before before.out after → SparesData before after → TouchesGroup uber before after
    → StopsInTime uber.parity before after
    → WritesOnly (IsSpreadOf uber entries none all before.out) before.disk after.disk
    → HasSpread uber entries 0 every_device before after result
spread_by uber entries none all before after result none_is all_is keeps gone spares touches stops writes = record {
  keeps = subst (λ (n : ℕ). SpreadKeeps uber entries n every_device before after result) none_is
      (subst (λ (n : ℕ). SpreadKeeps uber entries none n before after result) all_is keeps);
  gone = gone;
  spares = spares;
  touches = touches;
  stops = stops;
  writes = subst (λ (n : ℕ). WritesOnly (IsSpreadOf uber entries n every_device before.out) before.disk after.disk) none_is
      (subst (λ (n : ℕ). WritesOnly (IsSpreadOf uber entries none n before.out) before.disk after.disk) all_is writes);
}

module _ (uber : Uber) (entries : List IndexEntry) (lack_page lack_uber : ℕ) (before mid : Point)
    (result : Spreading) (right : IsRightUber uber) (spread : HasSpread uber entries lack_page lack_uber before mid result) where
  -- It stopped in the first run,
  pub stops_spreading : (after : Point) → after ≡ mid → true ≡ is_err result
      → OnErr result (uber.parity < count_of mid.out)
      → EndsRenewal uber entries lack_page lack_uber before mid (Err (reason.TooManyFailed mid.out))
  stops_spreading after same fails many =
      let is = err_of result fails in (
        refl,
        subst (λ (r : Spreading). OnErr r (uber.parity < count_of mid.out)) is.1 many,
        inl (record {
          why = is.0;
          brought = subst (λ (r : Spreading). HasSpread uber entries lack_page lack_uber before mid r) is.1 spread;
        }),
      )

  module _ (went : false ≡ is_err result) (below : mid.out < 2 ^ uber.reflow.to)
      (few : OnOk result (count_of mid.out ≤ uber.parity)) (renewed : Uber) (renewed_is : renewed ≡ renewed_by uber mid.out)
      (after : Point) (result_after : Spreading)
      (spread_after : HasSpread renewed entries 0 every_device mid after result_after) where
    few_out : count_of mid.out ≤ uber.parity
    few_out = subst (λ (r : Spreading). OnOk r (count_of mid.out ≤ uber.parity)) (ok_of result went).1 few

    ran : (known : Spreading) → result_after ≡ known → HasRenewed uber entries lack_page lack_uber before renewed after known
    ran known is = record {
      mid = mid;
      value = (ok_of result went).0;
      brought = subst (λ (r : Spreading). HasSpread uber entries lack_page lack_uber before mid r) (ok_of result went).1
          spread;
      few = (
        below,
        (let wide = right.widths.1 in
            let same = count_within mid.out uber.reflow.to below (omega (arith, wide)) in
            omega (arith, few_out, same)),
      );
      renewed_is = renewed_is;
      spread = subst (λ (r : Spreading). HasSpread renewed entries 0 every_device mid after r) is spread_after;
    }

    -- or in the second,
    pub stops_renewing : true ≡ is_err result_after → OnErr result_after (renewed.parity < count_of after.out)
        → EndsRenewal uber entries lack_page lack_uber before after (Err (reason.TooManyFailed after.out))
    stops_renewing fails many =
        let is = err_of result_after fails in (
          refl,
          (let parity : renewed.parity ≡ uber.parity = ap (λ (u : Uber). u.parity) renewed_is in
              let more = subst (λ (r : Spreading). OnErr r (renewed.parity < count_of after.out)) is.1 many in
              omega (arith, more, parity)),
          inr (record { why = is.0; renewed = renewed; ran = ran (Err is.0) is.1 }),
        )

    -- or made all its writes.
    pub ends_renewing : false ≡ is_err result_after → OnOk result_after (count_of after.out ≤ renewed.parity)
        → EndsRenewal uber entries lack_page lack_uber before after (Ok renewed)
    ends_renewing went_after few_after =
        let is = ok_of result_after went_after in (
          is.0,
          ran (Ok is.0) is.1,
          (let parity : renewed.parity ≡ uber.parity = ap (λ (u : Uber). u.parity) renewed_is in
              let more = subst (λ (r : Spreading). OnOk r (count_of after.out ≤ renewed.parity)) is.1 few_after in
              omega (arith, more, parity)),
        )
