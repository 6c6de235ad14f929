-- A text is cut in one way.
use Rattle.std.proofs.Common.{◌≡◌, ℕ, ◌<◌, List, [], ◌∷◌, ◌++◌, length, get_or, refl, sym, ◌∙◌, ap, arith}
use Rattle.std.proofs.lemmas.List.{length-append, get_or_at}
use Rattle.std.specs.Prelude.{All, ◌≢◌, Option, IfNone, Some, None}
use Rattle.std.proofs.lemmas.List.Elements.{All-head, All-tail}
use Rattle.client_script.specs.Words.{IsCut}

same_parts : (byte : ℕ) (front other back rest : List ℕ) → All (λ b. b ≢ byte) front → All (λ b. b ≢ byte) other → front ++ byte ∷ back ≡ other ++ byte ∷ rest → (front ≡ other) × (back ≡ rest)
same_parts byte [] [] back rest none nor e = (refl, cc)
same_parts byte [] (y ∷ other) back rest none nor e = absurd (All-head (λ b. b ≢ byte) y other nor cc)
same_parts byte (x ∷ front) [] back rest none nor e = absurd (All-head (λ b. b ≢ byte) x front none cc)
same_parts byte (x ∷ front) (y ∷ other) back rest none nor e =
    let heads : x ≡ y = cc in
    let tails : front ++ byte ∷ back ≡ other ++ byte ∷ rest = cc in
    let same : (front ≡ other) × (back ≡ rest) =
    same_parts byte front other back rest (All-tail (λ b. b ≢ byte) x front none) (All-tail (λ b. b ≢ byte) y other nor) tails in
    (cc (heads, same.0), same.1)

pub one_cut : (text : List ℕ) (byte : ℕ) (front other back rest : List ℕ) → IsCut text byte front back → IsCut text byte other rest → (front ≡ other) × (back ≡ rest)
one_cut text byte front other back rest a b = same_parts byte front other back rest a.first b.first (sym a.whole ∙ b.whole)

-- A fact for an option that is nothing.
pub if_none : {A : Type 0} (o : Option A) (P : Type 0) → P → IfNone o P
if_none None P p = p
if_none (Some x) P p = tt

-- A text without this byte isn't cut.
pub no_cut : (text : List ℕ) (byte : ℕ) (front back : List ℕ) → All (λ b. b ≢ byte) text → IsCut text byte front back → ⊥
no_cut text byte front back none is =
    let within : length front < length text = omega (arith, ap length is.whole, length-append front (byte ∷ back)) in
    none (length front) byte within (ap (λ (l : List ℕ). get_or l (length front) byte) is.whole ∙ get_or_at front byte back byte (length front) refl)
