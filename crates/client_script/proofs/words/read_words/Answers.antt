use Rattle.std.proofs.lemmas.Result.{IfOk-weaker}
use Rattle.client_script.proofs.CallWords.{hex_read}
use Rattle.client_script.proofs.words.read_words.Goals as goal

pub returns-in-Some-after : goal.returns-in-Some-after
returns-in-Some-after c =
    IfOk-weaker c.hex_call.result _ _ (λ found read. hex_read _ _ _ found c.in-Some-after.ensures read) c.hex_call.ensures
