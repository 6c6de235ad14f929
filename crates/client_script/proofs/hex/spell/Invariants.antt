use Rattle.std.proofs.Common.{◌≡◌, ◌-◌, ◌*◌, ◌≤◌, length, take}
use Rattle.client_script.specs.Lines.{hex_text}
use Rattle.client_script.proofs.hex.spell.Given as goal

abbrev pub invariant-loop-done : goal.invariant-loop-done
invariant-loop-done l = record {
  within : l.done ≤ length l.bytes;
  long : length l.digits ≡ 2 * length l.bytes;
  so_far : take (2 * l.done) l.digits ≡ hex_text (take l.done l.bytes);
}

abbrev pub invariant-loop-place : goal.invariant-loop-place
invariant-loop-place l = record {
  within : l.place ≤ length l.bytes;
  long : length l.digits ≡ 2 * length l.bytes;
  so_far : take (2 * l.place) l.digits ≡ hex_text (take l.place l.bytes);
}

abbrev pub decreases-loop-done : goal.decreases-loop-done
decreases-loop-done l = length l.bytes - l.done
