-- What is wrong with a line.
use Rattle.std.proofs.Common.{◌≡◌, ℕ, ◌+◌, ◌-◌, ◌≤◌, List, ◌∷◌, ◌++◌, true, Option, Some, None, refl, arith}
use Rattle.std.specs.Prelude.{codes, is_some, MatchOption}
use Rattle.client_script.specs.Lines.{Line, Clients, CallLine, Order, IsLineText}
use Rattle.client_script.specs.Words.{HasNoCall}
use Rattle.client_script.specs.Faults.{IsFaultOf}
use Rattle.client_script.specs.declared.line_fault.LineFault.TheVariants.{ClientCount, Turns}

-- A fact for an option that is something.
pub if_some : {A : Type 0} (o : Option A) (P : Type 0) (Q : A → Type 0) → MatchOption o P Q → is_some o ≡ true → (a : A) × Q a
if_some None P Q fact some = absurd (cc some)
if_some (Some a) P Q fact some = (a, fact)

-- A line that begins so, and means nothing.
pub no_count : (text word : List ℕ) → ((line : Line) → IsLineText text line → ⊥) → text ≡ codes "clients " ++ word → IsFaultOf None text ClientCount
no_count text word none is = (word, is, λ count spelled. absurd (none (Clients count) (word, is, spelled)))

pub no_turns : (count : ℕ) (text letters : List ℕ) → ((line : Line) → IsLineText text line → ⊥) → text ≡ codes "order " ++ letters → IsFaultOf (Some count) text Turns
no_turns count text letters none is = (count, refl, letters, is, λ actors spelled below. none (Order actors) spelled)

-- Words behind a letter make no call where the line means nothing.
pub no_words : (letter : ℕ) (words : List ℕ) → 97 ≤ letter → ((line : Line) → IsLineText (letter ∷ 32 ∷ words) line → ⊥) → HasNoCall words
no_words letter words low none kind id fill is =
    let same : letter ≡ 97 + (letter - 97) = omega (arith, low) in
    none (CallLine (letter - 97) kind id fill) (record {
      served = is.served;
      some = is.some;
      spelled = (λ i. same i ∷ 32 ∷ is.spelled i);
      id_fits = is.id_fits;
      fill_fits = is.fill_fits;
    })
