use Rattle.client_script.proofs.Writing.{gains_then}
use Rattle.client_script.proofs.journal_text.put_answer.Goals as goal

pub returns-in-Completed-clause-gains : goal.returns-in-Completed-clause-gains
returns-in-Completed-clause-gains g c =
    rw (c.in-Completed.is, ← c.from-in-Completed.ensures) c.put_number-in-Completed.ensures.gains

pub returns-in-DeviceOut-clause-gains : goal.returns-in-DeviceOut-clause-gains
returns-in-DeviceOut-clause-gains g c =
    rw (c.in-DeviceOut.is, ← c.from-in-DeviceOut.ensures) c.put_number-in-DeviceOut.ensures.gains

pub returns-in-TooManyFailed-clause-gains : goal.returns-in-TooManyFailed-clause-gains
returns-in-TooManyFailed-clause-gains g c =
    rw c.in-TooManyFailed.is (gains_then _ _ _ _ _ _ _ _ c.text-in-TooManyFailed.ensures.gains c.devices.ensures.gains)
