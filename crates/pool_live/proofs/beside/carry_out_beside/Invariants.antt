use Rattle.std.specs.Prelude.{Some}
use Rattle.schedule.specs.Live.{turns_in}
use Rattle.pool_live.proofs.beside.carry_out_beside.Given as goal

-- the script that is carried out, and where its clients begin
abbrev pub ghosts-share : goal.ghosts-share
ghosts-share g a = record {
  script = a.script.now;
  start = Some (turns_in g.B.Bank.disk a.live);
}
