use Rattle.client_script.proofs.CallWords.{after_hex_id}
use Rattle.client_script.proofs.words.hex_call.Goals as goal

pub returns-in_default-2 : goal.returns-in_default-2
returns-in_default-2 c id bytes is =
    (rw c.in_default-2.is at c.in_ok-bytes.ensures) bytes (after_hex_id _ _ bytes _ id c.in-Some.ensures.some is)
