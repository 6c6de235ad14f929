use Rattle.std.proofs.Common.{◌≡◌, ◌*◌, ◌<◌, take, vec_len}
use Rattle.std.specs.Prelude.{All}
use Rattle.client_script.specs.Lines.{hex_text}
use Rattle.client_script.proofs.hex.hex_bytes.Given as goal

abbrev pub invariant-loop-place : goal.invariant-loop-place
invariant-loop-place l = record {
  count : vec_len l.bytes ≡ l.place;
  so_far : take (2 * l.place) l.text ≡ hex_text l.bytes.items;
  fit : All (λ byte. byte < 256) l.bytes.items;
}
