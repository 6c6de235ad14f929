-- Which calls of a bank in memory are listed to fail.
use Rattle.std.specs.Prelude.{◌≡◌, ◌⊎◌, ℕ, ◌≤◌, List, Contains, Any}

-- The device's call of this number is listed, or its calls fail from a number on that is no larger.
abbrev pub IsListedCall : List (ℕ × ℕ) → List (ℕ × ℕ) → ℕ → ℕ → Type 0
IsListedCall calls starts device number =
    Contains calls (device, number) ⊎ Any (λ s. (s.0 ≡ device) × (s.1 ≤ number)) starts
