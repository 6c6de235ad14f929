-- What is written of a text that has no line of a status behind it.
use Rattle.std.proofs.Common.{◌≡◌, inl, inr, ℕ, List, [], ◌++◌, Some, refl, sym, ◌∙◌, ap, subst}
use Rattle.std.specs.Prelude.{take}
use Rattle.std.proofs.lemmas.List.{append-nil}
use Rattle.bank_trait.specs.Causes.{FaultCounted}
use Rattle.client_script.specs.Written.{IsAdded, IsPartAdded}
use Rattle.raidzx_top.specs.declared.status.Status.{Status}
use Rattle.raidzx_top.specs.declared.status.Status.TheVariants as status
use Rattle.raidzx_top.specs.Call.{TopCall}
use Rattle.raidzx_top.specs.RunText.{IsLineFor, TextIsRight}

-- It was written whole,
pub whole_right : (call : TopCall) (text : List ℕ) → call.status ≡ status.Done
    → IsAdded call.sink.bytes call.sink_after.bytes text
    → TextIsRight call text
whole_right call text done added = record {
  written = λ held told. (
    status.Done,
    subst (λ (s : Status). IsLineFor s status.Done) (sym done) refl,
    inl (added.whole held told ∙ ap (λ (t : List ℕ). Some (held ++ t)) (sym (append-nil text))),
  );
}

-- or a front of it.
pub part_right : (call : TopCall) (text : List ℕ) → call.status ≡ status.SinkFault
    → FaultCounted call.sink.faults call.sink_after.faults
    → IsPartAdded call.sink.bytes call.sink_after.bytes text
    → TextIsRight call text
part_right call text fault rose part = record {
  written = λ held told. (
    status.Done,
    subst (λ (s : Status). IsLineFor s status.Done) (sym fault) (inl refl),
    inr (
      rose,
      (λ done. no_sink_fault (sym fault ∙ done)),
      ap_part held (part.front held told),
    ),
  );
}
  where
    no_sink_fault : status.SinkFault ≡ status.Done → ⊥
    no_sink_fault same = cc

    ap_part : (held : List ℕ)
        → (len : ℕ) × (call.sink_after.bytes ≡ Some (held ++ take len text))
        → (len : ℕ) × (call.sink_after.bytes ≡ Some (held ++ take len (text ++ [])))
    ap_part held (len, is) =
        (len, is ∙ ap (λ (t : List ℕ). Some (held ++ take len t)) (sym (append-nil text)))
