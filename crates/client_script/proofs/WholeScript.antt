-- A script that is read line by line.
use Rattle.std.proofs.Common.{◌≡◌, ℕ, ◌+◌, ◌≤◌, List, [], ◌∷◌, ◌++◌, length, take, Option, Some, None, refl, sym, ◌∙◌}
use Rattle.std.proofs.Common.{ap, subst, arith, append_assoc, inl, inr}
use Rattle.std.specs.Prelude.{slice_get, Ok, Err}
use Rattle.std.specs.List.{AllZip}
use Rattle.std.proofs.lemmas.List.{append-nil, length-append, take_at}
use Rattle.client_script.specs.declared.refused.ParseRefused.{ParseRefused}
use Rattle.client_script.specs.declared.refused.ParseRefused.TheVariants.{ScriptFault, Limit, NoMemory}
use Rattle.client_script.specs.Lines.{Line, Clients, CallLine, IsLineText, split_lines}
use Rattle.client_script.specs.Script.{Script, AreLines, AreRightLines, IsScript, BreaksAt, PassesLimit, IsOverLimit}
use Rattle.client_script.specs.Script.{reached_by, most_bytes, most_calls, most_clients}
use Rattle.client_script.specs.Faults.{named_by, IsFaultOf, IsFaultFor}
use Rattle.client_script.specs.declared.line_fault.LineFault.TheVariants.{NoClients}
use Rattle.client_script.specs.Reading.{MayFollow, with_line, Reaches, IsStep, IsRefusedFor}
use Rattle.client_script.proofs.OneMeaning.{one_meaning}
use Rattle.client_script.proofs.RightLines.{named_in, state_from, right_more, may_follow, state_more, described}
use Rattle.client_script.proofs.RightLines.{undescribed, few_calls}

-- Texts have one list of meanings at most.
pub one_list : (texts : List (List ℕ)) (lines others : List Line) → AllZip IsLineText texts lines → AllZip IsLineText texts others → lines ≡ others
one_list [] [] [] a b = refl
one_list [] [] (other ∷ others) a b = absurd b
one_list [] (line ∷ lines) others a b = absurd a
one_list (text ∷ texts) [] others a b = absurd a
one_list (text ∷ texts) (line ∷ lines) [] a b = absurd b
one_list (text ∷ texts) (line ∷ lines) (other ∷ others) a b =
    let first = one_meaning text line other a.0 b.0 in
    let rest = one_list texts lines others a.1 b.1 in
    λ i. first i ∷ rest i

zip_push : (texts : List (List ℕ)) (lines : List Line) (text : List ℕ) (line : Line) → AllZip IsLineText texts lines → IsLineText text line → AllZip IsLineText (texts ++ text ∷ []) (lines ++ line ∷ [])
zip_push [] [] text line each last = (last, tt)
zip_push [] (other ∷ lines) text line each last = absurd each
zip_push (first ∷ texts) [] text line each last = absurd each
zip_push (first ∷ texts) (other ∷ lines) text line each last = (each.0, zip_push texts lines text line each.1 last)

-- the last of meanings, and those before it
record IsPushed (texts : List (List ℕ)) (text : List ℕ) (lines : List Line) : Type 0 where
  before : List Line
  last : Line
  is : lines ≡ before ++ last ∷ []
  each : AllZip IsLineText texts before
  last_is : IsLineText text last

zip_last : (texts : List (List ℕ)) (text : List ℕ) (lines : List Line) → AllZip IsLineText (texts ++ text ∷ []) lines → IsPushed texts text lines
zip_last [] text [] each = absurd each
zip_last [] text (line ∷ []) each = record { before = []; last = line; is = refl; each = tt; last_is = each.0 }
zip_last [] text (line ∷ other ∷ lines) each = absurd each.1
zip_last (first ∷ texts) text [] each = absurd each
zip_last (first ∷ texts) text (line ∷ lines) each =
    let rest = zip_last texts text lines each.1 in
    record { before = line ∷ rest.before; last = rest.last; is = ap (λ (l : List Line). line ∷ l) rest.is; each = (each.0, rest.each); last_is = rest.last_is }

zip_length : (texts : List (List ℕ)) (lines : List Line) → AllZip IsLineText texts lines → length texts ≡ length lines
zip_length [] [] each = refl
zip_length [] (line ∷ lines) each = absurd each
zip_length (text ∷ texts) [] each = absurd each
zip_length (text ∷ texts) (line ∷ lines) each = omega (arith, zip_length texts lines each.1)

-- So many lines were read, and what they ask for.
pub record IsReadTo (bytes rest : List ℕ) (number : ℕ) (script : Option Script) : Type 0 where
  pub texts : List (List ℕ)
  pub lines : List Line
  pub split : split_lines bytes ≡ texts ++ split_lines rest
  pub count : length texts ≡ number
  pub are : AreLines texts lines
  pub script_is : script ≡ state_from 1 lines

pub read_none : (bytes : List ℕ) → IsReadTo bytes bytes 0 None
read_none bytes = record { texts = []; lines = []; split = refl; count = refl; are = record { each = tt; right = tt }; script_is = refl }

-- One line more is read.
pub read_more : (bytes rest below text : List ℕ) (number : ℕ) (old new : Option Script) → IsReadTo bytes rest number old → split_lines rest ≡ text ∷ split_lines below
    → IsStep (number + 1) text old (Ok tt) new → IsReadTo bytes below (number + 1) new
read_more bytes rest below text number old new so_far first step =
    let line = step.0 in
    let may : MayFollow (state_from 1 so_far.lines) line = subst (λ (o : Option Script). MayFollow o line) so_far.script_is step.2 in
    let numbered : number + 1 ≡ 1 + length so_far.lines = omega (arith, so_far.count, zip_length so_far.texts so_far.lines so_far.are.each) in
    record {
      texts = so_far.texts ++ text ∷ [];
      lines = so_far.lines ++ line ∷ [];
      split = so_far.split ∙ ap (λ (l : List (List ℕ)). so_far.texts ++ l) first ∙ sym (append_assoc so_far.texts (text ∷ []) (split_lines below));
      count = omega (arith, so_far.count, length-append so_far.texts (text ∷ []));
      are = record { each = zip_push so_far.texts so_far.lines text line so_far.are.each step.1; right = right_more 1 so_far.lines line so_far.are.right may };
      script_is = step.3 ∙ (λ i. with_line (numbered i) line (so_far.script_is i)) ∙ sym (state_more 1 so_far.lines line so_far.are.right may);
    }

-- A text that passes a limit breaks a rule.
reaching_breaks : (script : Option Script) (text : List ℕ) (reached : ℕ) → Reaches script text reached → (line : Line) → IsLineText text line → MayFollow script line → ⊥
reaching_breaks None text reached over line is may =
    let at_clients = subst (MayFollow None) (one_meaning text line (Clients over.0) is over.1) may in
    omega (arith, at_clients.1, over.2)
reaching_breaks (Some script) text reached over line is may =
    let at_call = subst (MayFollow (Some script)) (one_meaning text line (CallLine over.0 over.1 over.2 over.3) is over.4) may in
    omega (arith, at_call.1, over.6)

there_at : (texts more : List (List ℕ)) (text : List ℕ) → slice_get (texts ++ text ∷ more) (length texts) ≡ Some text
there_at [] more text = refl
there_at (first ∷ texts) more text = there_at texts more text

-- The next line breaks a rule.
module _ (bytes rest below text : List ℕ) (number : ℕ) (old : Option Script) (few : length bytes ≤ most_bytes) (so_far : IsReadTo bytes rest number old) (first : split_lines rest ≡ text ∷ split_lines below) where
  whole : split_lines bytes ≡ so_far.texts ++ text ∷ split_lines below
  whole = so_far.split ∙ ap (λ (l : List (List ℕ)). so_far.texts ++ l) first

  above_is : take number (split_lines bytes) ≡ so_far.texts
  above_is = ap (take number) whole ∙ take_at so_far.texts (text ∷ split_lines below) number so_far.count

  with_it : take (number + 1) (split_lines bytes) ≡ so_far.texts ++ text ∷ []
  with_it =
      ap (take (number + 1)) (whole ∙ sym (append_assoc so_far.texts (text ∷ []) (split_lines below)))
      ∙ take_at (so_far.texts ++ text ∷ []) (split_lines below) (number + 1) (omega (arith, so_far.count, length-append so_far.texts (text ∷ [])))

  pub broken : ((line : Line) → IsLineText text line → MayFollow old line → ⊥) → BreaksAt bytes number so_far.lines text
  broken breaks = record {
    few = few;
    above = subst (λ (t : List (List ℕ)). AreLines t so_far.lines) (sym above_is) so_far.are;
    there = ap (λ (t : List (List ℕ)). slice_get t number) whole ∙ ap (slice_get (so_far.texts ++ text ∷ split_lines below)) (sym so_far.count) ∙ there_at so_far.texts (split_lines below) text;
    breaks = λ more are.
        let pushed = zip_last so_far.texts text more (subst (λ (t : List (List ℕ)). AllZip IsLineText t more) with_it are.each) in
        let same = one_list so_far.texts pushed.before so_far.lines pushed.each so_far.are.each in
        let right : AreRightLines (so_far.lines ++ pushed.last ∷ []) = subst AreRightLines (pushed.is ∙ ap (λ (l : List Line). l ++ pushed.last ∷ []) same) are.right in
        breaks pushed.last pushed.last_is (subst (λ (o : Option Script). MayFollow o pushed.last) (sym so_far.script_is) (may_follow 1 so_far.lines pushed.last right));
  }

-- What was read passes a limit where the lines do.
limit_passed : (lines : List Line) (text : List ℕ) (state : Option Script) → AreRightLines lines → state ≡ state_from 1 lines → PassesLimit lines text → (reached : ℕ) × Reaches state text reached
limit_passed lines text None right is (inl (count, is_text, above, none)) = (most_clients + 1, (count, is_text, above, refl))
limit_passed lines text (Some script) right is (inl (count, is_text, above, none)) =
    let says = described 1 lines script right (sym is) in
    absurd (omega (arith, says.some, says.clients, none))
limit_passed lines text None right is (inr (actor, kind, id, fill, is_text, client, full)) = absurd (omega (arith, client, undescribed 1 lines right (sym is)))
limit_passed lines text (Some script) right is (inr (actor, kind, id, fill, is_text, client, full)) =
    let says = described 1 lines script right (sym is) in
    (most_calls + 1, (actor, kind, id, fill, is_text, omega (arith, client, says.clients), omega (arith, full, ap length says.calls), refl))

over_by : (bytes : List ℕ) (number : ℕ) (lines : List Line) (text : List ℕ) (reached : ℕ) (state : Option Script) → BreaksAt bytes number lines text → AreRightLines lines → state ≡ state_from 1 lines
    → Reaches state text reached → (over : IsOverLimit bytes) × (reached ≡ reached_by bytes over)
over_by bytes number lines text reached None breaks right is over =
    (inr (number, lines, text, breaks, inl (over.0, over.1, over.2, undescribed 1 lines right (sym is))), over.3)
over_by bytes number lines text reached (Some script) breaks right is over =
    let says = described 1 lines script right (sym is) in
    (inr (number, lines, text, breaks, inr (over.0, over.1, over.2, over.3, over.4, omega (arith, over.5, says.clients), omega (arith, over.6, ap length says.calls, few_calls 1 lines right))), over.7)

-- Why the next line was refused is why the script is.
pub refused_step : (bytes rest below text : List ℕ) (number : ℕ) (old new : Option Script) (refused : ParseRefused) → length bytes ≤ most_bytes → IsReadTo bytes rest number old → split_lines rest ≡ text ∷ split_lines below
    → IsStep (number + 1) text old (Err refused) new → IsRefusedFor bytes refused
refused_step bytes rest below text number old new (ScriptFault line why) few so_far first step = (
  inr (
    number,
    so_far.lines,
    text,
    step.0,
    broken bytes rest below text number old few so_far first step.1.breaks,
    λ passes. let over = limit_passed so_far.lines text old so_far.are.right so_far.script_is passes in step.1.no_limit over.0 over.1,
  ),
  subst (λ (o : Option ℕ). IsFaultOf o text why) (ap named_by so_far.script_is ∙ named_in 1 so_far.lines so_far.are.right) step.2,
)
refused_step bytes rest below text number old new (Limit reached) few so_far first step =
    over_by bytes number so_far.lines text reached old (broken bytes rest below text number old few so_far first (reaching_breaks old text reached step)) so_far.are.right so_far.script_is step
refused_step bytes rest below text number old new NoMemory few so_far first step = tt

-- At the end of the bytes.
all_lines : (bytes : List ℕ) (number : ℕ) (script : Option Script) (so_far : IsReadTo bytes [] number script) → AreLines (split_lines bytes) so_far.lines
all_lines bytes number script so_far = subst (λ (t : List (List ℕ)). AreLines t so_far.lines) (sym (so_far.split ∙ append-nil so_far.texts)) so_far.are

pub script_read : (bytes : List ℕ) (number : ℕ) (script : Script) → length bytes ≤ most_bytes → IsReadTo bytes [] number (Some script) → IsScript bytes script
script_read bytes number script few so_far =
    let says = described 1 so_far.lines script so_far.are.right (sym so_far.script_is) in
    record { few = few; lines = so_far.lines; are = all_lines bytes number (Some script) so_far; clients = (says.some, says.clients); calls = says.calls; order = says.order }

pub clients_lacking : (bytes : List ℕ) (number : ℕ) → length bytes ≤ most_bytes → IsReadTo bytes [] number None → IsFaultFor bytes (number + 1) NoClients
clients_lacking bytes number few so_far = (
  inl (
    record { few = few; lines = so_far.lines; are = all_lines bytes number None so_far; none = undescribed 1 so_far.lines so_far.are.right (sym so_far.script_is) },
    omega (arith, so_far.count, ap length so_far.split, length-append so_far.texts []),
  ),
  refl,
)

-- Nothing is left to read.
pub read_all : (bytes rest : List ℕ) (number : ℕ) (script now : Option Script) → IsReadTo bytes rest number script → rest ≡ [] → script ≡ now → IsReadTo bytes [] number now
read_all bytes rest number script now so_far none same =
    subst (λ (o : Option Script). IsReadTo bytes [] number o) same (subst (λ (r : List ℕ). IsReadTo bytes r number script) none so_far)
