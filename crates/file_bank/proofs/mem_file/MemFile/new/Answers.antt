use Rattle.file_bank.proofs.MemSteps.{blank_whole, blank_leads}
use Rattle.file_bank.proofs.mem_file.MemFile.new.Goals as goal

pub invariant_of-result-clause-whole : goal.invariant_of-result-clause-whole
invariant_of-result-clause-whole c = blank_whole _ _ c.in_ok-blank-2.ensures

pub invariant_of-result-clause-same : goal.invariant_of-result-clause-same
invariant_of-result-clause-same c =
    blank_leads _ _ _ _ c.new.ensures.items c.in_ok-blank.ensures c.in_ok-blank-2.ensures
