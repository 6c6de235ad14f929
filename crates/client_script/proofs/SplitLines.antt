-- The first line of a text.
use Rattle.std.proofs.Common.{◌≡◌, ◌≢◌, ℕ, ◌<◌, List, [], ◌∷◌, ◌++◌, length, cond, refl, ◌∙◌, ap, arith, ne_eqb}
use Rattle.std.specs.Prelude.{All}
use Rattle.std.proofs.lemmas.List.Elements.{All-head, All-tail}
use Rattle.client_script.specs.Lines.{split_lines, with_byte}

-- A byte that ends no line begins the first.
more_in_line : (byte : ℕ) (bytes : List ℕ) → byte ≢ 10 → split_lines (byte ∷ bytes) ≡ with_byte byte (split_lines bytes)
more_in_line byte bytes isnt = ap (λ b. cond b ([] ∷ split_lines bytes) (with_byte byte (split_lines bytes))) (ne_eqb byte 10 isnt)

-- A line that a newline ends.
pub split_front : (front back : List ℕ) → All (λ byte. byte ≢ 10) front → split_lines (front ++ 10 ∷ back) ≡ front ∷ split_lines back
split_front [] back none = refl
split_front (byte ∷ front) back none =
    more_in_line byte (front ++ 10 ∷ back) (All-head (λ b. b ≢ 10) byte front none)
    ∙ ap (with_byte byte) (split_front front back (All-tail (λ b. b ≢ 10) byte front none))

-- The last line, without its newline.
pub split_last : (text : List ℕ) → All (λ byte. byte ≢ 10) text → 0 < length text → split_lines text ≡ text ∷ []
split_last [] none some = absurd (omega (arith, some))
split_last (byte ∷ []) none some = more_in_line byte [] (All-head (λ b. b ≢ 10) byte [] none)
split_last (byte ∷ next ∷ text) none some =
    more_in_line byte (next ∷ text) (All-head (λ b. b ≢ 10) byte (next ∷ text) none)
    ∙ ap (with_byte byte) (split_last (next ∷ text) (All-tail (λ b. b ≢ 10) byte (next ∷ text) none) (omega arith))
