-- How far a text has been written.
use Rattle.std.proofs.Common.{◌≡◌, ℕ, ◌+◌, List, [], ◌++◌, length, take, drop, Option, Some, Ok, Err, refl, sym, ◌∙◌}
use Rattle.std.proofs.Common.{ap, subst, arith, append_assoc}
use Rattle.std.proofs.lemmas.List.{append-nil, drop-drop, take_all, length-drop}
use Rattle.std.proofs.Math.Seq.{take-add}
use Rattle.bank_trait.specs.declared.Failed.{Failed}
use Rattle.bank_trait.specs.Stream.{Takes}
use Rattle.client_script.specs.Written.{IsAdded, IsPartAdded}

-- A front of the text was added, and this is the rest.
pub record IsWrittenTo (text rest : List ℕ) (before now : Option (List ℕ)) : Type 0 where
  pub done : ℕ
  pub left : rest ≡ drop done text
  pub written : (held : List ℕ) → before ≡ Some held → now ≡ Some (held ++ take done text)

-- at the start
pub written_none : (text : List ℕ) (sink : Option (List ℕ)) → IsWrittenTo text text sink sink
written_none text sink = record { done = 0; left = refl; written = λ held is. is ∙ ap Some (sym (append-nil held)) }

takes_some : (before later : Option (List ℕ)) (k : ℕ) (held piece : List ℕ) → before ≡ Some held → Takes before later (Ok k) piece → later ≡ Some (held ++ take k piece)
takes_some before later k held piece is takes = subst (λ (o : Option (List ℕ)). Takes o later (Ok k) piece) is takes

takes_none : (before later : Option (List ℕ)) (e : Failed) (held piece : List ℕ) → before ≡ Some held → Takes before later (Err e) piece → later ≡ Some held
takes_none before later e held piece is takes = subst (λ (o : Option (List ℕ)). Takes o later (Err e) piece) is takes

-- after one more write
pub written_more : (text rest : List ℕ) (before now later : Option (List ℕ)) (k : ℕ) → IsWrittenTo text rest before now → Takes now later (Ok k) rest
    → IsWrittenTo text (drop k rest) before later
written_more text rest before now later k so_far takes = record {
  done = so_far.done + k;
  left = ap (λ (l : List ℕ). drop k l) so_far.left ∙ drop-drop k so_far.done text;
  written = λ held is.
      takes_some now later k (held ++ take so_far.done text) rest (so_far.written held is) takes
      ∙ ap Some (append_assoc held (take so_far.done text) (take k rest) ∙ ap (λ (l : List ℕ). held ++ (take so_far.done text ++ take k l)) so_far.left ∙ ap (λ (l : List ℕ). held ++ l) (sym (take-add so_far.done k text)));
}

-- at the end
pub written_whole : (text rest : List ℕ) (before now : Option (List ℕ)) → IsWrittenTo text rest before now → rest ≡ [] → IsAdded before now text
written_whole text rest before now so_far none = record {
  whole = λ held is. so_far.written held is ∙ ap (λ (l : List ℕ). Some (held ++ l)) (take_all so_far.done text (omega (arith, ap length (sym so_far.left ∙ none), length-drop so_far.done text)));
}

-- at a refusal
pub written_part : (text rest : List ℕ) (before now later : Option (List ℕ)) (e : Failed) → IsWrittenTo text rest before now → Takes now later (Err e) rest
    → IsPartAdded before later text
written_part text rest before now later e so_far takes = record {
  front = λ held is. (so_far.done, takes_none now later e (held ++ take so_far.done text) rest (so_far.written held is) takes);
}
