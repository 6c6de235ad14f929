-- Lines that say how many clients there are, or whose turn it is.
use Rattle.std.proofs.Common.{◌≡◌, ℕ, ◌+◌, ◌-◌, ◌<◌, ◌≤◌, List, [], ◌∷◌, ◌++◌, length, drop, get_or, refl, sym, ap}
use Rattle.std.proofs.Common.{subst, arith}
use Rattle.std.specs.Prelude.{codes, map, min, All}
use Rattle.std.proofs.lemmas.List.{length-map}
use Rattle.std.proofs.lemmas.List.Elements.{All-head, All-tail, All-same, All-map}
use Rattle.client_script.specs.Lines.{Line, Passed, Clients, CallLine, Order, IsLineText, IsNumberText, client_letter}
use Rattle.client_script.specs.Words.{IsCount}
use Rattle.client_script.specs.Meanings.{actors_of}

-- Letters are those of their clients.
pub letters_of_actors : (letters : List ℕ) → All (λ letter. 97 ≤ letter) letters → letters ≡ map client_letter (actors_of letters)
letters_of_actors [] each = refl
letters_of_actors (letter ∷ letters) each =
    let here = All-head (λ l. 97 ≤ l) letter letters each in
    let first : letter ≡ 97 + (letter - 97) = omega (arith, here) in
    λ i. first i ∷ letters_of_actors letters (All-tail (λ l. 97 ≤ l) letter letters each) i

each_is_letter : (actors : List ℕ) → All (λ letter. 97 ≤ letter) (map client_letter actors)
each_is_letter actors = All-map (λ letter. 97 ≤ letter) client_letter actors (λ k d within. omega arith)

-- A line that begins so gives turns, and one letter at least.
pub turns_of : (letters : List ℕ) (line : Line) → IsLineText (codes "order " ++ letters) line → (0 < length letters) × All (λ letter. 97 ≤ letter) letters
turns_of letters Passed is = absurd (omega (arith, is))
turns_of letters (Clients count) is =
    let first : 111 ≡ 99 = ap (λ (l : List ℕ). get_or l 0 0) is.1 in
    absurd (omega (arith, first))
turns_of letters (CallLine actor kind id fill) is =
    let second : 114 ≡ 32 = ap (λ (l : List ℕ). get_or l 1 0) is.spelled in
    absurd (omega (arith, second))
turns_of letters (Order actors) is =
    let same : letters ≡ map client_letter actors = ap (drop 6) is.1 in
    (omega (arith, ap length same, length-map actors client_letter, is.0), All-same (λ letter. 97 ≤ letter) letters (map client_letter actors) same (each_is_letter actors))

-- A line that begins so says how many clients there are.
pub count_of : (word : List ℕ) (line : Line) → IsLineText (codes "clients " ++ word) line → (count : ℕ) × IsCount word count
count_of word Passed is = absurd (omega (arith, is))
count_of word (Clients number) is =
    let same : word ≡ is.0 = ap (drop 8) is.1 in
    (min number 9, (number, subst (λ (l : List ℕ). IsNumberText l number) (sym same) is.2, refl))
count_of word (CallLine actor kind id fill) is =
    let second : 108 ≡ 32 = ap (λ (l : List ℕ). get_or l 1 0) is.spelled in
    absurd (omega (arith, second))
count_of word (Order actors) is =
    let first : 99 ≡ 111 = ap (λ (l : List ℕ). get_or l 0 0) is.1 in
    absurd (omega (arith, first))
