-- The words of calls, part by part.
use Rattle.std.proofs.Common.{◌≡◌, ℕ, List, ◌∷◌, ◌++◌, drop, get_or, Option, Some, None, decimal, refl, sym, ◌∙◌, ap}
use Rattle.std.proofs.Common.{subst, arith, append_assoc}
use Rattle.std.specs.Prelude.{codes, MatchOption}
use Rattle.core_state.specs.declared.answer.Kind.{Kind}
use Rattle.core_state.specs.declared.answer.Kind.TheVariants.{Put, Get, Sum, Free, Sync, Attach, Copy, Scrub}
use Rattle.client_script.specs.declared.call.Fill.{Fill}
use Rattle.client_script.specs.declared.call.Fill.TheVariants.{Nothing, Pattern, Hex}
use Rattle.client_script.specs.declared.call.ScriptCall.{ScriptCall}
use Rattle.client_script.specs.Lines.{hex_text}
use Rattle.client_script.specs.Words.{IsLedByNumber, IsNumber, IsPattern, IsHex, IsHexWords, IsWords, HasNoCall}
use Rattle.client_script.proofs.Numbers.{one_leading}

-- What follows the first number of a pattern, and the second.
pub after_id : (text rest : List ℕ) (first id len seed : ℕ) → IsLedByNumber text first rest → IsPattern text id len seed → IsLedByNumber rest len (decimal seed)
after_id text rest first id len seed led is =
    let same = one_leading text first id rest (decimal len ++ 32 ∷ decimal seed) led (record { spelled = is.spelled; fits = is.id_fits }) in
    record { spelled = same.1; fits = omega (arith, is.few) }

pub after_len : (text rest last : List ℕ) (first second id len seed : ℕ) → IsLedByNumber text first rest → IsLedByNumber rest second last → IsPattern text id len seed → (second ≡ len) × IsNumber last seed
after_len text rest last first second id len seed led then is =
    let same = one_leading rest second len last (decimal seed) then (after_id text rest first id len seed led is) in
    (same.0, record { spelled = same.1; fits = is.seed_fits })

-- What follows the id of bytes.
pub after_hex_id : (text rest bytes : List ℕ) (first id : ℕ) → IsLedByNumber text first rest → IsHexWords text id bytes → IsHex rest bytes
after_hex_id text rest bytes first id led is =
    let same = one_leading text first id rest is.digits led is.led in
    subst (λ (l : List ℕ). IsHex l bytes) (sym same.1) is.hex

-- Words that begin with `puthex` begin with its first letter.
first_letter : (words rest more : List ℕ) (letter : ℕ) → words ≡ codes "puthex " ++ rest → words ≡ letter ∷ more → 112 ≡ letter
first_letter words rest more letter led is = ap (λ (l : List ℕ). get_or l 0 0) (sym led ∙ is)

-- Words that begin with `puthex` are those of bytes.
hex_of : (words rest : List ℕ) → words ≡ codes "puthex " ++ rest → (kind : Kind) (id : Option ℕ) (fill : Fill) → IsWords words kind id fill → (n : ℕ) × ((bytes : List ℕ) × IsHexWords rest n bytes)
hex_of words rest led Put (Some n) (Hex bytes) is =
    let tail : rest ≡ decimal n ++ codes " " ++ hex_text bytes = ap (drop 7) (sym led ∙ is.spelled) in (
      n,
      (
        bytes,
        record {
          digits = hex_text bytes;
          led = record { spelled = tail ∙ append_assoc (decimal n) (codes " ") (hex_text bytes); fits = is.id_fits };
          hex = record { spelled = refl; some = is.fill_fits.0; few = is.fill_fits.1; fit = is.fill_fits.2 };
        },
      ),
    )
hex_of words rest led Put (Some n) (Pattern len seed) is =
    let fourth : 104 ≡ 32 = ap (λ (l : List ℕ). get_or l 3 0) (sym led ∙ is.spelled) in
    absurd (omega (arith, fourth))
hex_of words rest led Get (Some n) Nothing is = absurd (omega (arith, first_letter words rest _ 103 led is.spelled))
hex_of words rest led Sum (Some n) Nothing is = absurd (omega (arith, first_letter words rest _ 115 led is.spelled))
hex_of words rest led Free (Some n) Nothing is = absurd (omega (arith, first_letter words rest _ 102 led is.spelled))
hex_of words rest led Sync None Nothing is = absurd (omega (arith, first_letter words rest _ 115 led is.spelled))
hex_of words rest led Attach None Nothing is = absurd (omega (arith, first_letter words rest _ 97 led is.spelled))
hex_of words rest led Copy None Nothing is = absurd (omega (arith, first_letter words rest _ 99 led is.spelled))
hex_of words rest led Scrub None Nothing is = absurd is.served
hex_of words rest led kind id fill is = absurd (omega (arith, is.some))

pub hex_read : (words rest : List ℕ) (line : ℕ) (found : Option ScriptCall) → words ≡ codes "puthex " ++ rest
    → MatchOption found ((id : ℕ) (bytes : List ℕ) → IsHexWords rest id bytes → ⊥)
    (λ call. (id : ℕ) × (bytes : List ℕ) × IsHexWords rest id bytes × (call ≡ record { line = line; kind = Put; id = Some id; fill = Hex bytes }))
    → MatchOption found (HasNoCall words) (λ call. (call.line ≡ line) × IsWords words call.kind call.id call.fill)
hex_read words rest line None led read = λ kind id fill is. let found = hex_of words rest led kind id fill is in read found.0 found.1.0 found.1.1
hex_read words rest line (Some call) led read =
    let id = read.0 in
    let bytes = read.1 in
    let words_are : IsWords words Put (Some id) (Hex bytes) = record {
      served = tt;
      some = omega arith;
      spelled = led
          ∙ ap (λ (l : List ℕ). codes "puthex " ++ l) (read.2.led.spelled ∙ ap (λ (l : List ℕ). decimal id ++ 32 ∷ l) read.2.hex.spelled)
          ∙ ap (λ (l : List ℕ). codes "puthex " ++ l) (sym (append_assoc (decimal id) (codes " ") (hex_text bytes)));
      id_fits = read.2.led.fits;
      fill_fits = (read.2.hex.some, read.2.hex.few, read.2.hex.fit);
    } in
    subst (λ (c : ScriptCall). (c.line ≡ line) × IsWords words c.kind c.id c.fill) (sym read.3) (refl, words_are)
