-- What a line means, as it is read.
use Rattle.std.specs.Prelude.{◌≡◌, ◌≢◌, ℕ, ◌-◌, ◌≤◌, List, ◌∷◌, map, min, All}
use Rattle.client_script.specs.declared.meaning.Meaning.{Meaning}
use Rattle.client_script.specs.declared.meaning.Meaning.TheVariants as meaning
use Rattle.client_script.specs.Lines.{Line, Passed, Clients, CallLine, Order, IsLineText, IsPassedText}

-- the clients of letters
abbrev pub actors_of : List ℕ → List ℕ
actors_of letters = map (λ letter. letter - 97) letters

-- A line of this number means so. Of more than 8 clients it says 9.
abbrev pub IsMeant : ℕ → List ℕ → Meaning → Type 0
IsMeant number text meaning.Passed = IsLineText text Passed
IsMeant number text (meaning.Clients count) =
    (clients : ℕ) × IsLineText text (Clients clients) × (count ≡ min clients 9)
IsMeant number text (meaning.Call actor call) =
    (call.line ≡ number) × IsLineText text (CallLine actor call.kind call.id call.fill)
IsMeant number text (meaning.Order letters) =
    All (λ letter. 97 ≤ letter) letters.now × IsLineText text (Order (actors_of letters.now))
IsMeant number text meaning.Broken = (line : Line) → IsLineText text line → ⊥

-- A text is neither passed over nor a call.
pub record IsSetting (text : List ℕ) : Type 0 where
  pub read : IsPassedText text → ⊥
  pub no_call : (letter : ℕ) (words : List ℕ) → text ≢ letter ∷ 32 ∷ words
