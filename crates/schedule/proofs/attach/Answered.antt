-- What an attach is answered that made a group.
use Rattle.schedule.proofs.Words.{◌≡◌, ℕ, List, Option, Some, ⊤, Disk, Answer, Entry, Item, IsAnswerOf, Map, PutBytes}
use Rattle.schedule.proofs.Words.{map_after_answer, WhyDropped, attach_answer, IsAnswerCause, IsDeviceCause, arith}
use Rattle.core_state.specs.declared.answer.Answer.TheVariants as answer
use Rattle.core_state.specs.declared.answer.Kind.TheVariants as kind
use Rattle.schedule.proofs.attach.Refused.{IsRefusal}

-- The device was attached, or not: it failed, or one of the pool is out.
abbrev pub IsAttachEnd : Answer → Type 0
IsAttachEnd (answer.Attached width group) = ⊤
IsAttachEnd (answer.NewDeviceFailed device) = ⊤
IsAttachEnd (answer.DeviceOut device) = ⊤
IsAttachEnd other = ⊥

pub attach_ended : (because : Option WhyDropped) (width group : ℕ) → IsAttachEnd (attach_answer because width group)
attach_ended because width group = grind arith

-- Where it was not, that is told, and the journal has no more to say of why;
pub end_told : (items : List Item) (index : ℕ) (disk : Disk) (because : WhyDropped) (width group : ℕ)
    → IsRefusal (attach_answer (Some because) width group)
    × IsAnswerCause items index disk (attach_answer (Some because) width group)
end_told items index disk because width group = grind arith

-- its cause is the one that was known when the commit was made.
pub end_cause : (devices : ℕ) (dropped : WhyDropped → Type 0) (because : Option WhyDropped) (width group : ℕ)
    → ((cause : WhyDropped) → because ≡ Some cause → dropped cause)
    → IsDeviceCause devices dropped (attach_answer because width group)
end_cause devices dropped because width group known = grind arith

-- Each answers an attach,
pub end_answers : (given : Answer) → IsAttachEnd given → IsAnswerOf kind.Attach given
end_answers given ended = grind arith

-- and changes no map.
pub end_map : (handed : PutBytes) {map : Map} (entry : Entry) (given : Answer) → IsAttachEnd given
    → map_after_answer handed map entry given ≡ map
end_map handed entry given ended = grind arith
