use Rattle.std.proofs.Common.{◌≡◌, ◌+◌, ◌<◌, sym, subst}
use Rattle.width_map.specs.Place.{first_data_sector}
use Rattle.row_layout.specs.Layout.{end_of, sector_of}
use Rattle.shadow_write.specs.Required.{IsRequiredPlace}
use Rattle.core_state.specs.declared.spot.Spot.{Spot}
use Rattle.core_client.specs.Reading.{spot_of}
use Rattle.core_client.proofs.Spots.{spot_on_pool, spot_required}
use Rattle.core_client.proofs.standing.spot_of.Goals as goal

pub returns-clause-device : goal.returns-clause-device
returns-clause-device c =
    let is : c.spot_in.result ≡ spot_of c.args.layout.now c.args.reflow.now c.args.row c.args.column = cc in
    subst (λ (spot : Spot). spot.device < c.args.reflow.now.to) (sym is)
    (spot_on_pool c.args.layout.now c.args.reflow.now c.args.row c.args.column c.requires.pool c.requires.there).device

pub returns-clause-inside : goal.returns-clause-inside
returns-clause-inside c =
    let is : c.spot_in.result ≡ spot_of c.args.layout.now c.args.reflow.now c.args.row c.args.column = cc in
    subst (λ (spot : Spot). spot.device_sector < first_data_sector + c.args.reflow.now.rows) (sym is)
    (spot_on_pool c.args.layout.now c.args.reflow.now c.args.row c.args.column c.requires.pool c.requires.there).inside

pub returns-clause-required : goal.returns-clause-required
returns-clause-required c = λ done front.
    let is : c.spot_in.result ≡ spot_of c.args.layout.now c.args.reflow.now c.args.row c.args.column = cc in
    subst (λ (spot : Spot). IsRequiredPlace c.args.reflow.now done (end_of c.args.layout.now c.args.row)
    (sector_of c.args.layout.now c.args.row c.args.column) spot.device spot.device_sector) (sym is)
    (spot_required c.args.layout.now c.args.reflow.now done c.args.row c.args.column c.requires.pool c.requires.there front)
