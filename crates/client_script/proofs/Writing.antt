-- What a writer was given, and what of it went out.
use Rattle.std.proofs.Common.{◌≡◌, ℕ, ◌+◌, List, [], ◌++◌, length, take, Option, Some, Bool, true, false, refl, sym}
use Rattle.std.proofs.Common.{◌∙◌, ap, subst, arith, append_assoc, inl, inr, ⊎_elim}
use Rattle.std.specs.Prelude.{min}
use Rattle.std.proofs.lemmas.List.{append-nil, take_all, take-append-le, take_min}
use Rattle.std.proofs.Math.Seq.{take-append-add}
use Rattle.client_script.specs.Written.{Writing, IsAdded, IsPartAdded, WriterHasText, GainsText, FailsOnlyWithFault}

-- A front of a list is one of a longer list.
front_of_more : (len : ℕ) (text more : List ℕ) → take len text ≡ take (min len (length text)) (text ++ more)
front_of_more len text more =
    sym (take_min len text) ∙ sym (take-append-le (min len (length text)) text more (omega arith))

-- A front of a text is one of a longer text.
pub part_of_more : (before now : Option (List ℕ)) (text more : List ℕ) → IsPartAdded before now text → IsPartAdded before now (text ++ more)
part_of_more before now text more part = record {
  front = λ held is.
      let found = part.front held is in
      (min found.0 (length text), found.1 ∙ ap (λ (l : List ℕ). Some (held ++ l)) (front_of_more found.0 text more));
}

-- The whole text is a front of itself.
pub part_from_whole : (before now : Option (List ℕ)) (text : List ℕ) → IsAdded before now text → IsPartAdded before now text
part_from_whole before now text all = record {
  front = λ held is. (length text, all.whole held is ∙ ap (λ (l : List ℕ). Some (held ++ l)) (sym (take_all (length text) text (omega arith))));
}

-- Nothing was given at the start.
pub given_none : (start : Option (List ℕ)) → WriterHasText start start (record { waiting = []; failed = false }) []
given_none start = record {
  part = record { front = λ held is. (0, is ∙ ap Some (sym (append-nil held))) };
  whole = λ unfailed held is. ([], is ∙ ap Some (sym (append-nil held)), refl);
}

-- What a new writer gains is all that it was given.
pub given_by_new : (start now : Option (List ℕ)) (old new : Writing) (text : List ℕ) → old ≡ record { waiting = []; failed = false } → GainsText start now old new text → WriterHasText start now new text
given_by_new start now old new text fresh gains = gains.more start [] (subst (λ (w : Writing). WriterHasText start start w []) (sym fresh) (given_none start))

-- One call after another.
pub gains_then : (one two three : Option (List ℕ)) (a b c : Writing) (text more : List ℕ) → GainsText one two a b text → GainsText two three b c more → GainsText one three a c (text ++ more)
gains_then one two three a b c text more first second = record {
  more = λ start given was.
      subst (λ (t : List ℕ). WriterHasText start three c t) (append_assoc given text more) (second.more start (given ++ text) (first.more start given was));
}

pub blames_then : (one two three : ℕ) (a b c : Writing) → FailsOnlyWithFault one two a b → FailsOnlyWithFault two three b c → FailsOnlyWithFault one three a c
blames_then one two three a b c first second = record {
  later = omega (arith, first.later, second.later);
  failed = λ yes.
      ⊎_elim
      (λ before. ⊎_elim (λ was. inl was) (λ rose. inr (omega (arith, rose, second.later))) (first.failed before))
      (λ rose. inr (omega (arith, rose, first.later)))
      (second.failed yes);
}

-- A text that waits behind what waited.
pub gains_waiting : (sink : Option (List ℕ)) (a b : Writing) (text : List ℕ) → b.failed ≡ a.failed → b.waiting ≡ a.waiting ++ text → GainsText sink sink a b text
gains_waiting sink a b text same waits = record {
  more = λ start given was. record {
    part = part_of_more start sink given text was.part;
    whole = λ unfailed held is.
        let sent = was.whole (sym same ∙ unfailed) held is in
        (sent.0, sent.1, ap (λ (l : List ℕ). sent.0 ++ l) waits ∙ sym (append_assoc sent.0 a.waiting text) ∙ ap (λ (l : List ℕ). l ++ text) sent.2);
  };
}

false_is_true : false ≡ true → ⊥
false_is_true e = cc

-- What was given and the text are what went out and the piece.
regrouped : (sent waiting text given piece : List ℕ) → sent ++ waiting ≡ given → piece ≡ waiting ++ text → sent ++ piece ≡ given ++ text
regrouped sent waiting text given piece were is =
    ap (λ (l : List ℕ). sent ++ l) is ∙ sym (append_assoc sent waiting text) ∙ ap (λ (l : List ℕ). l ++ text) were

-- What waited and a text are handed over in one piece.
module _ (before now : Option (List ℕ)) (a b : Writing) (piece text : List ℕ) (piece_is : piece ≡ a.waiting ++ text) where
  part_of_sent : (start : Option (List ℕ)) (given : List ℕ) → WriterHasText start before a given → a.failed ≡ false → IsPartAdded before now piece → IsPartAdded start now (given ++ text)
  part_of_sent start given was unfailed part = record {
    front = λ held is.
        let sent = was.whole unfailed held is in
        let out = part.front (held ++ sent.0) sent.1 in (
          length sent.0 + out.0,
          out.1 ∙ ap Some (append_assoc held sent.0 (take out.0 piece)
              ∙ ap (λ (l : List ℕ). held ++ l) (sym (take-append-add sent.0 piece out.0) ∙ ap (λ (l : List ℕ). take (length sent.0 + out.0) l) (regrouped sent.0 a.waiting text given piece sent.2 piece_is))),
        );
  }

  part_of_dropped : (start : Option (List ℕ)) (given : List ℕ) → WriterHasText start before a given → now ≡ before → IsPartAdded start now (given ++ text)
  part_of_dropped start given was same =
      subst (λ (s : Option (List ℕ)). IsPartAdded start s (given ++ text)) (sym same) (part_of_more start before given text was.part)

  part_of_either : (start : Option (List ℕ)) (given : List ℕ) → WriterHasText start before a given → (a.failed ≡ false → IsPartAdded before now piece) → (a.failed ≡ true → (now ≡ before) × (b.failed ≡ true))
      → (failed : Bool) → a.failed ≡ failed → IsPartAdded start now (given ++ text)
  part_of_either start given was part same true failed = part_of_dropped start given was (same failed).0
  part_of_either start given was part same false unfailed = part_of_sent start given was unfailed (part unfailed)

  none_failed : (a.failed ≡ true → (now ≡ before) × (b.failed ≡ true)) → b.failed ≡ false → (failed : Bool) → a.failed ≡ failed → a.failed ≡ false
  none_failed same unfailed true failed = absurd (false_is_true (sym unfailed ∙ (same failed).1))
  none_failed same unfailed false was = was

  whole_of_sent : (start : Option (List ℕ)) (given : List ℕ) → WriterHasText start before a given → a.failed ≡ false → IsAdded before now piece → b.waiting ≡ []
      → (held : List ℕ) → start ≡ Some held → (sent : List ℕ) × (now ≡ Some (held ++ sent)) × (sent ++ b.waiting ≡ given ++ text)
  whole_of_sent start given was unfailed all none held is =
      let sent = was.whole unfailed held is in (
        sent.0 ++ piece,
        all.whole (held ++ sent.0) sent.1 ∙ ap Some (append_assoc held sent.0 piece),
        ap (λ (l : List ℕ). (sent.0 ++ piece) ++ l) none ∙ append-nil (sent.0 ++ piece) ∙ regrouped sent.0 a.waiting text given piece sent.2 piece_is,
      )

  pub gains_sent : (b.failed ≡ false → IsAdded before now piece) → (a.failed ≡ false → IsPartAdded before now piece) → (a.failed ≡ true → (now ≡ before) × (b.failed ≡ true)) → b.waiting ≡ []
      → GainsText before now a b text
  gains_sent all part same none = record {
    more = λ start given was. record {
      part = part_of_either start given was part same a.failed refl;
      whole = λ unfailed. whole_of_sent start given was (none_failed same unfailed a.failed refl) (all unfailed) none;
    };
  }
