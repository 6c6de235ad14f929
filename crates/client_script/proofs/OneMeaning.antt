-- A line has one meaning at most.
use Rattle.std.proofs.Common.{◌≡◌, ℕ, ◌+◌, ◌/◌, ◌%◌, ◌^◌, ◌<◌, List, [], ◌∷◌, ◌++◌, length, drop, get_or, Option, Some}
use Rattle.std.proofs.Common.{None, decimal, refl, sym, ◌∙◌, ap, subst, arith, append_assoc}
use Rattle.std.specs.Prelude.{codes, map, All, ⊤}
use Rattle.std.specs.Str.Parse.{digits_value}
use Rattle.std.proofs.lemmas.Bool.Decides.{nat_tests}
use Rattle.std.proofs.lemmas.List.Elements.{All-head, All-tail}
use Rattle.core_state.specs.declared.answer.Kind.{Kind}
use Rattle.core_state.specs.declared.answer.Kind.TheVariants.{Put, Get, Sum, Free, Sync, Attach, Copy, Scrub}
use Rattle.client_script.specs.declared.call.Fill.{Fill}
use Rattle.client_script.specs.declared.call.Fill.TheVariants.{Nothing, Pattern, Hex}
use Rattle.client_script.specs.Lines.{Line, Passed, Clients, CallLine, Order, IsLineText, IsPassedText, client_letter}
use Rattle.client_script.specs.Lines.{hex_digit, hex_text}
use Rattle.client_script.proofs.Numbers.{one_leading, one_number}

-- the calls that words may ask for
pub data Asked : Type 0 where
  OfPattern : (id len seed : ℕ) → Asked
  OfHex : (id : ℕ) (bytes : List ℕ) → Asked
  OfGet : (id : ℕ) → Asked
  OfSum : (id : ℕ) → Asked
  OfFree : (id : ℕ) → Asked
  OfSync : Asked
  OfAttach : Asked
  OfCopy : Asked

abbrev words_of : Asked → List ℕ
words_of (OfPattern id len seed) = codes "put " ++ (decimal id ++ 32 ∷ (decimal len ++ 32 ∷ decimal seed))
words_of (OfHex id bytes) = codes "puthex " ++ (decimal id ++ 32 ∷ hex_text bytes)
words_of (OfGet id) = codes "get " ++ decimal id
words_of (OfSum id) = codes "sum " ++ decimal id
words_of (OfFree id) = codes "free " ++ decimal id
words_of OfSync = codes "sync"
words_of OfAttach = codes "attach"
words_of OfCopy = codes "copy"

abbrev Fits : Asked → Type 0
Fits (OfPattern id len seed) = (id < 2 ^ 64) × (len < 2 ^ 64) × (seed < 2 ^ 64)
Fits (OfHex id bytes) = (id < 2 ^ 64) × All (λ byte. byte < 256) bytes
Fits (OfGet id) = id < 2 ^ 64
Fits (OfSum id) = id < 2 ^ 64
Fits (OfFree id) = id < 2 ^ 64
Fits OfSync = ⊤
Fits OfAttach = ⊤
Fits OfCopy = ⊤

-- a call's line
abbrev line_of : ℕ → Asked → Line
line_of actor (OfPattern id len seed) = CallLine actor Put (Some id) (Pattern len seed)
line_of actor (OfHex id bytes) = CallLine actor Put (Some id) (Hex bytes)
line_of actor (OfGet id) = CallLine actor Get (Some id) Nothing
line_of actor (OfSum id) = CallLine actor Sum (Some id) Nothing
line_of actor (OfFree id) = CallLine actor Free (Some id) Nothing
line_of actor OfSync = CallLine actor Sync None Nothing
line_of actor OfAttach = CallLine actor Attach None Nothing
line_of actor OfCopy = CallLine actor Copy None Nothing

-- A call's line is one of these.
pub record IsAsked (text : List ℕ) (actor : ℕ) (line : Line) : Type 0 where
  pub asked : Asked
  pub spelled : text ≡ client_letter actor ∷ (32 ∷ words_of asked)
  pub fits : Fits asked
  pub line_is : line ≡ line_of actor asked

asked_by_line : (text : List ℕ) (actor : ℕ) (kind : Kind) (id : Option ℕ) (fill : Fill) → IsLineText text (CallLine actor kind id fill) → IsAsked text actor (CallLine actor kind id fill)
asked_by_line text actor Put (Some id) (Pattern len seed) is = record {
  asked = OfPattern id len seed;
  spelled = is.spelled
      ∙ ap (λ (l : List ℕ). client_letter actor ∷ (32 ∷ (codes "put " ++ l)))
      (append_assoc (decimal id ++ codes " " ++ decimal len) (codes " ") (decimal seed)
      ∙ append_assoc (decimal id ++ codes " ") (decimal len) (codes " " ++ decimal seed)
      ∙ append_assoc (decimal id) (codes " ") (decimal len ++ (codes " " ++ decimal seed)));
  fits = (is.id_fits, omega (arith, is.fill_fits.1), is.fill_fits.2);
  line_is = refl;
}
asked_by_line text actor Put (Some id) (Hex bytes) is = record {
  asked = OfHex id bytes;
  spelled = is.spelled ∙ ap (λ (l : List ℕ). client_letter actor ∷ (32 ∷ (codes "puthex " ++ l))) (append_assoc (decimal id) (codes " ") (hex_text bytes));
  fits = (is.id_fits, is.fill_fits.2);
  line_is = refl;
}
asked_by_line text actor Get (Some id) Nothing is = record { asked = OfGet id; spelled = is.spelled; fits = is.id_fits; line_is = refl }
asked_by_line text actor Sum (Some id) Nothing is = record { asked = OfSum id; spelled = is.spelled; fits = is.id_fits; line_is = refl }
asked_by_line text actor Free (Some id) Nothing is = record { asked = OfFree id; spelled = is.spelled; fits = is.id_fits; line_is = refl }
asked_by_line text actor Sync None Nothing is = record { asked = OfSync; spelled = is.spelled; fits = tt; line_is = refl }
asked_by_line text actor Attach None Nothing is = record { asked = OfAttach; spelled = is.spelled; fits = tt; line_is = refl }
asked_by_line text actor Copy None Nothing is = record { asked = OfCopy; spelled = is.spelled; fits = tt; line_is = refl }
asked_by_line text actor Scrub None Nothing is = absurd is.served
asked_by_line text actor kind id fill is = absurd (omega (arith, is.some))

-- A number is spelled in one way, also behind a word.
same_number : (one other : ℕ) → one < 2 ^ 64 → other < 2 ^ 64 → decimal one ≡ decimal other → one ≡ other
same_number one other fits fits_too e = one_number (decimal one) one other (record { spelled = refl; fits = fits }) (record { spelled = e; fits = fits_too })

same_leading : (one other : ℕ) (rest more : List ℕ) → one < 2 ^ 64 → other < 2 ^ 64 → decimal one ++ 32 ∷ rest ≡ decimal other ++ 32 ∷ more → (one ≡ other) × (rest ≡ more)
same_leading one other rest more fits fits_too e =
    one_leading (decimal one ++ 32 ∷ rest) one other rest more (record { spelled = refl; fits = fits }) (record { spelled = e; fits = fits_too })

same_digit : (one other : ℕ) → one < 16 → other < 16 → hex_digit one ≡ hex_digit other → one ≡ other
same_digit one other fits fits_too e = grind (arith, nat_tests)

-- Bytes are spelled in one way.
same_bytes : (bytes others : List ℕ) → All (λ byte. byte < 256) bytes → All (λ byte. byte < 256) others → hex_text bytes ≡ hex_text others → bytes ≡ others
same_bytes [] [] fit fits e = refl
same_bytes [] (other ∷ others) fit fits e = absurd (omega (arith, ap length e))
same_bytes (byte ∷ bytes) [] fit fits e = absurd (omega (arith, ap length e))
same_bytes (byte ∷ bytes) (other ∷ others) fit fits e =
    let here = All-head (λ b. b < 256) byte bytes fit in
    let there = All-head (λ b. b < 256) other others fits in
    let high : byte / 16 ≡ other / 16 = same_digit (byte / 16) (other / 16) (omega (arith, here)) (omega (arith, there)) (ap (λ (l : List ℕ). get_or l 0 0) e) in
    let low : byte % 16 ≡ other % 16 = same_digit (byte % 16) (other % 16) (omega arith) (omega arith) (ap (λ (l : List ℕ). get_or l 1 0) e) in
    let first : byte ≡ other = omega (arith, high, low) in
    let rest : bytes ≡ others = same_bytes bytes others (All-tail (λ b. b < 256) byte bytes fit) (All-tail (λ b. b < 256) other others fits) (ap (drop 2) e) in
    λ i. first i ∷ rest i

-- Words ask for one call at most.
same_asked : (one other : Asked) → Fits one → Fits other → words_of one ≡ words_of other → one ≡ other
same_asked (OfPattern id len seed) (OfPattern other more last) fits fit e =
    let first = same_leading id other _ _ fits.0 fit.0 (ap (drop 4) e) in
    let second = same_leading len more _ _ fits.1 fit.1 first.1 in
    let third = same_number seed last fits.2 fit.2 second.1 in
    λ i. OfPattern (first.0 i) (second.0 i) (third i)
same_asked (OfHex id bytes) (OfHex other more) fits fit e =
    let first = same_leading id other _ _ fits.0 fit.0 (ap (drop 7) e) in
    let second = same_bytes bytes more fits.1 fit.1 first.1 in
    λ i. OfHex (first.0 i) (second i)
same_asked (OfGet id) (OfGet other) fits fit e = ap OfGet (same_number id other fits fit (ap (drop 4) e))
same_asked (OfSum id) (OfSum other) fits fit e = ap OfSum (same_number id other fits fit (ap (drop 4) e))
same_asked (OfFree id) (OfFree other) fits fit e = ap OfFree (same_number id other fits fit (ap (drop 5) e))
same_asked OfSync OfSync fits fit e = refl
same_asked OfAttach OfAttach fits fit e = refl
same_asked OfCopy OfCopy fits fit e = refl
same_asked one other fits fit e =
    let first = ap (λ (l : List ℕ). get_or l 0 0) e in
    let second = ap (λ (l : List ℕ). get_or l 1 0) e in
    let fourth = ap (λ (l : List ℕ). get_or l 3 0) e in
    absurd (omega (arith, first, second, fourth))

same_letters : (actors others : List ℕ) → map client_letter actors ≡ map client_letter others → actors ≡ others
same_letters [] [] e = refl
same_letters [] (other ∷ others) e = absurd (omega (arith, ap length e))
same_letters (actor ∷ actors) [] e = absurd (omega (arith, ap length e))
same_letters (actor ∷ actors) (other ∷ others) e =
    let letter : 97 + actor ≡ 97 + other = ap (λ (l : List ℕ). get_or l 0 0) e in
    let first : actor ≡ other = omega (arith, letter) in
    let rest : actors ≡ others = same_letters actors others (ap (drop 1) e) in
    λ i. first i ∷ rest i

same_calls : (text : List ℕ) (actor other : ℕ) (one two : Line) → IsAsked text actor one → IsAsked text other two → one ≡ two
same_calls text actor other one two a b =
    let letter : 97 + actor ≡ 97 + other = ap (λ (l : List ℕ). get_or l 0 0) (sym a.spelled ∙ b.spelled) in
    let first : actor ≡ other = omega (arith, letter) in
    let asked = same_asked a.asked b.asked a.fits b.fits (ap (drop 2) (sym a.spelled ∙ b.spelled)) in
    a.line_is ∙ (λ i. line_of (first i) (asked i)) ∙ sym b.line_is

-- What a text that is passed over begins with.
passed_first : (text : List ℕ) (byte : ℕ) (rest : List ℕ) → IsPassedText text → text ≡ byte ∷ rest → byte ≡ 35
passed_first text byte rest passed is = let fact : IsPassedText (byte ∷ rest) = subst IsPassedText is passed in fact

pub one_meaning : (text : List ℕ) (one other : Line) → IsLineText text one → IsLineText text other → one ≡ other
one_meaning text Passed Passed a b = refl
one_meaning text Passed (Clients count) a b = absurd (omega (arith, passed_first text 99 _ a b.1))
one_meaning text Passed (CallLine actor kind id fill) a b = absurd (omega (arith, passed_first text (97 + actor) _ a b.spelled))
one_meaning text Passed (Order actors) a b = absurd (omega (arith, passed_first text 111 _ a b.1))
one_meaning text (Clients count) Passed a b = absurd (omega (arith, passed_first text 99 _ b a.1))
one_meaning text (Clients count) (Clients other) a b =
    let digits : a.0 ≡ b.0 = ap (drop 8) (sym a.1 ∙ b.1) in
    ap Clients (sym a.2.value ∙ ap (digits_value 10) digits ∙ b.2.value)
one_meaning text (Clients count) (CallLine actor kind id fill) a b =
    let second : 108 ≡ 32 = ap (λ (l : List ℕ). get_or l 1 0) (sym a.1 ∙ b.spelled) in
    absurd (omega (arith, second))
one_meaning text (Clients count) (Order actors) a b =
    let first : 99 ≡ 111 = ap (λ (l : List ℕ). get_or l 0 0) (sym a.1 ∙ b.1) in
    absurd (omega (arith, first))
one_meaning text (CallLine actor kind id fill) Passed a b = absurd (omega (arith, passed_first text (97 + actor) _ b a.spelled))
one_meaning text (CallLine actor kind id fill) (Clients count) a b =
    let second : 108 ≡ 32 = ap (λ (l : List ℕ). get_or l 1 0) (sym b.1 ∙ a.spelled) in
    absurd (omega (arith, second))
one_meaning text (CallLine actor kind id fill) (CallLine other word number bytes) a b =
    same_calls text actor other _ _ (asked_by_line text actor kind id fill a) (asked_by_line text other word number bytes b)
one_meaning text (CallLine actor kind id fill) (Order actors) a b =
    let second : 114 ≡ 32 = ap (λ (l : List ℕ). get_or l 1 0) (sym b.1 ∙ a.spelled) in
    absurd (omega (arith, second))
one_meaning text (Order actors) Passed a b = absurd (omega (arith, passed_first text 111 _ b a.1))
one_meaning text (Order actors) (Clients count) a b =
    let first : 99 ≡ 111 = ap (λ (l : List ℕ). get_or l 0 0) (sym b.1 ∙ a.1) in
    absurd (omega (arith, first))
one_meaning text (Order actors) (CallLine actor kind id fill) a b =
    let second : 114 ≡ 32 = ap (λ (l : List ℕ). get_or l 1 0) (sym a.1 ∙ b.spelled) in
    absurd (omega (arith, second))
one_meaning text (Order actors) (Order others) a b =
    ap Order (same_letters actors others (ap (drop 6) (sym a.1 ∙ b.1)))
