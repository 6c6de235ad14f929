-- A script has one answer at most.
use Rattle.std.proofs.Common.{◌≡◌, ℕ, zero, suc, ◌+◌, ◌<◌, ◌≤◌, List, [], ◌∷◌, take, Some, refl, sym, ◌∙◌, ap, subst}
use Rattle.std.proofs.Common.{arith, inl, inr, ⊎_elim}
use Rattle.std.specs.Prelude.{Result, Ok, Err, IfOk, IfErr, slice_get}
use Rattle.std.specs.List.{AllZip}
use Rattle.std.proofs.lemmas.List.{take-take}
use Rattle.std.proofs.lemmas.Bool.{cases_lt}
use Rattle.client_script.specs.declared.refused.ParseRefused.{ParseRefused}
use Rattle.client_script.specs.declared.refused.ParseRefused.TheVariants.{ScriptFault, Limit, NoMemory}
use Rattle.client_script.specs.Lines.{Line, Clients, CallLine, IsLineText, split_lines}
use Rattle.client_script.specs.Script.{Script, AreLines, IsScript, BreaksAt, PassesLimit, IsOverLimit, IsFaultAt}
use Rattle.client_script.specs.Script.{reached_by, clients_in, calls_in, order_in}
use Rattle.client_script.specs.Reading.{IsRefusedFor, IsUnlessNoMemory, IsFaultUnlessNoMemory}
use Rattle.client_script.proofs.OneMeaning.{one_meaning}
use Rattle.client_script.proofs.RightLines.{right_take}
use Rattle.client_script.proofs.WholeScript.{one_list}

zip_take : (len : ℕ) (texts : List (List ℕ)) (lines : List Line) → AllZip IsLineText texts lines → AllZip IsLineText (take len texts) (take len lines)
zip_take zero texts lines each = tt
zip_take (suc len) [] [] each = tt
zip_take (suc len) [] (line ∷ lines) each = absurd each
zip_take (suc len) (text ∷ texts) [] each = absurd each
zip_take (suc len) (text ∷ texts) (line ∷ lines) each = (each.0, zip_take len texts lines each.1)

-- The first lines of a script are lines of one.
lines_take : (len : ℕ) (texts : List (List ℕ)) (lines : List Line) → AreLines texts lines → AreLines (take len texts) (take len lines)
lines_take len texts lines are = record { each = zip_take len texts lines are.each; right = right_take len lines are.right }

-- Where all lines are right, none breaks a rule.
none_breaks : (bytes : List ℕ) (lines above : List Line) (number : ℕ) (text : List ℕ) → AreLines (split_lines bytes) lines → BreaksAt bytes number above text → ⊥
none_breaks bytes lines above number text are breaks = breaks.breaks (take (number + 1) lines) (lines_take (number + 1) (split_lines bytes) lines are)

-- One line is the first that breaks a rule.
not_before : (bytes : List ℕ) (number later : ℕ) (above upto : List Line) (text other : List ℕ) → BreaksAt bytes number above text → BreaksAt bytes later upto other → number < later → ⊥
not_before bytes number later above upto text other first second before =
    let within : number + 1 ≤ later = omega (arith, before) in
    first.breaks (take (number + 1) upto)
    (subst (λ (t : List (List ℕ)). AreLines t (take (number + 1) upto)) (take-take (number + 1) later (split_lines bytes) within)
    (lines_take (number + 1) (take later (split_lines bytes)) upto second.above))

pub one_break : (bytes : List ℕ) (number later : ℕ) (above upto : List Line) (text other : List ℕ) → BreaksAt bytes number above text → BreaksAt bytes later upto other → number ≡ later
one_break bytes number later above upto text other first second =
    ⊎_elim
    (λ (lt : number < later). absurd (not_before bytes number later above upto text other first second lt))
    (λ (ge : later ≤ number).
    ⊎_elim
    (λ (gt : later < number). absurd (not_before bytes later number upto above other text second first gt))
    (λ (le : number ≤ later). omega (arith, ge, le))
    (cases_lt later number))
    (cases_lt number later)

-- What stands above it, and its text.
same_above : (bytes : List ℕ) (number later : ℕ) (above upto : List Line) (text other : List ℕ) → BreaksAt bytes number above text → BreaksAt bytes later upto other → above ≡ upto
same_above bytes number later above upto text other first second =
    let same = one_break bytes number later above upto text other first second in
    one_list (take number (split_lines bytes)) above upto first.above.each
    (subst (λ n. AllZip IsLineText (take n (split_lines bytes)) upto) (sym same) second.above.each)

same_text : (bytes : List ℕ) (number later : ℕ) (above upto : List Line) (text other : List ℕ) → BreaksAt bytes number above text → BreaksAt bytes later upto other → text ≡ other
same_text bytes number later above upto text other first second =
    let same = one_break bytes number later above upto text other first second in
    let texts : Some text ≡ Some other = sym first.there ∙ ap (slice_get (split_lines bytes)) same ∙ second.there in
    cc texts

pub one_script : (bytes : List ℕ) (one other : Script) → IsScript bytes one → IsScript bytes other → one ≡ other
one_script bytes one other a b =
    let same = one_list (split_lines bytes) a.lines b.lines a.are.each b.are.each in
    λ i. record {
      clients = (a.clients.1 ∙ ap clients_in same ∙ sym b.clients.1) i;
      calls = (a.calls ∙ ap (calls_in 1) same ∙ sym b.calls) i;
      order = (a.order ∙ ap order_in same ∙ sym b.order) i;
    }

pub script_or_fault : (bytes : List ℕ) (script : Script) (line : ℕ) → IsScript bytes script → IsFaultAt bytes line → ⊥
script_or_fault bytes script line is (inl (lacks, at_end)) =
    let same = one_list (split_lines bytes) is.lines lacks.lines is.are.each lacks.are.each in
    omega (arith, is.clients.0, is.clients.1, ap clients_in same, lacks.none)
script_or_fault bytes script line is (inr (above, lines, text, at_line, breaks, no_limit)) = none_breaks bytes is.lines lines above text is.are breaks

pub script_or_limit : (bytes : List ℕ) (script : Script) → IsScript bytes script → IsOverLimit bytes → ⊥
script_or_limit bytes script is (inl many) = omega (arith, is.few, many)
script_or_limit bytes script is (inr (number, lines, text, breaks, passes)) = none_breaks bytes is.lines lines number text is.are breaks

pub one_fault : (bytes : List ℕ) (one other : ℕ) → IsFaultAt bytes one → IsFaultAt bytes other → one ≡ other
one_fault bytes one other (inl (lacks, at_end)) (inl (lacks_too, at_end_too)) = at_end ∙ sym at_end_too
one_fault bytes one other (inl (lacks, at_end)) (inr (above, lines, text, at_line, breaks, no_limit)) = absurd (none_breaks bytes lacks.lines lines above text lacks.are breaks)
one_fault bytes one other (inr (above, lines, text, at_line, breaks, no_limit)) (inl (lacks, at_end)) = absurd (none_breaks bytes lacks.lines lines above text lacks.are breaks)
one_fault bytes one other (inr (above, lines, text, at_line, breaks, no_limit)) (inr (up, upto, more, there, broken, nor_limit)) =
    at_line ∙ ap (λ n. n + 1) (one_break bytes above up lines upto text more breaks broken) ∙ sym there

pub fault_or_limit : (bytes : List ℕ) (line : ℕ) → IsFaultAt bytes line → IsOverLimit bytes → ⊥
fault_or_limit bytes line (inl (lacks, at_end)) (inl many) = omega (arith, lacks.few, many)
fault_or_limit bytes line (inl (lacks, at_end)) (inr (number, lines, text, breaks, passes)) = none_breaks bytes lacks.lines lines number text lacks.are breaks
fault_or_limit bytes line (inr (above, lines, text, at_line, breaks, no_limit)) (inl many) = omega (arith, breaks.few, many)
fault_or_limit bytes line (inr (above, lines, text, at_line, breaks, no_limit)) (inr (number, upto, more, broken, passes)) =
    let same = same_above bytes above number lines upto text more breaks broken in
    let spelled = same_text bytes above number lines upto text more breaks broken in
    no_limit (subst (λ (l : List Line). PassesLimit l text) (sym same) (subst (λ (t : List ℕ). PassesLimit upto t) (sym spelled) passes))

pub one_limit : (bytes : List ℕ) (one other : IsOverLimit bytes) → reached_by bytes one ≡ reached_by bytes other
one_limit bytes (inl many) (inl more) = refl
one_limit bytes (inl many) (inr (number, lines, text, breaks, passes)) = absurd (omega (arith, breaks.few, many))
one_limit bytes (inr (number, lines, text, breaks, passes)) (inl many) = absurd (omega (arith, breaks.few, many))
one_limit bytes (inr (number, lines, text, breaks, inl a)) (inr (later, upto, more, broken, inl b)) = refl
one_limit bytes (inr (number, lines, text, breaks, inr a)) (inr (later, upto, more, broken, inr b)) = refl
one_limit bytes (inr (number, lines, text, breaks, inl (count, is, above, none))) (inr (later, upto, more, broken, inr (actor, kind, id, fill, is_too, client, full))) =
    let spelled = same_text bytes number later lines upto text more breaks broken in
    let same : Clients count ≡ CallLine actor kind id fill = one_meaning more (Clients count) (CallLine actor kind id fill) (subst (λ (t : List ℕ). IsLineText t (Clients count)) spelled is) is_too in
    absurd (cc same)
one_limit bytes (inr (number, lines, text, breaks, inr (actor, kind, id, fill, is_too, client, full))) (inr (later, upto, more, broken, inl (count, is, above, none))) =
    let spelled = same_text bytes number later lines upto text more breaks broken in
    let same : Clients count ≡ CallLine actor kind id fill = one_meaning more (Clients count) (CallLine actor kind id fill) is (subst (λ (t : List ℕ). IsLineText t (CallLine actor kind id fill)) spelled is_too) in
    absurd (cc same)

-- So each answer comes wherever it is due.
module _ (bytes : List ℕ) where
  pub each_script : (result : Result Script ParseRefused) → IfOk result (IsScript bytes) → IfErr result (IsRefusedFor bytes) → (script : Script) → IsScript bytes script → IsUnlessNoMemory result (Ok script)
  each_script (Ok other) ok err script is = inl (ap Ok (one_script bytes other script ok is))
  each_script (Err (ScriptFault line why)) ok err script is = absurd (script_or_fault bytes script line is err.0)
  each_script (Err (Limit reached)) ok err script is = absurd (script_or_limit bytes script is err.0)
  each_script (Err NoMemory) ok err script is = inr refl

  pub each_fault : (result : Result Script ParseRefused) → IfOk result (IsScript bytes) → IfErr result (IsRefusedFor bytes) → (line : ℕ) → IsFaultAt bytes line → IsFaultUnlessNoMemory result line
  each_fault (Ok other) ok err line is = absurd (script_or_fault bytes other line ok is)
  each_fault (Err (ScriptFault other why)) ok err line is = inl (why, ap (λ n. Err (ScriptFault n why)) (one_fault bytes other line err.0 is))
  each_fault (Err (Limit reached)) ok err line is = absurd (fault_or_limit bytes line is err.0)
  each_fault (Err NoMemory) ok err line is = inr refl

  pub each_limit : (result : Result Script ParseRefused) → IfOk result (IsScript bytes) → IfErr result (IsRefusedFor bytes) → (over : IsOverLimit bytes)
      → IsUnlessNoMemory result (Err (Limit (reached_by bytes over)))
  each_limit (Ok other) ok err over = absurd (script_or_limit bytes other ok over)
  each_limit (Err (ScriptFault line why)) ok err over = absurd (fault_or_limit bytes line err.0 over)
  each_limit (Err (Limit reached)) ok err over = inl (ap (λ n. Err (Limit n)) (err.1 ∙ one_limit bytes err.0 over))
  each_limit (Err NoMemory) ok err over = inr refl
