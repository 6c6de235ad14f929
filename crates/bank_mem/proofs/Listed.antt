-- How sectors are listed as torn, over one entry more.
use Rattle.std.proofs.Common.{◌≡◌, ℕ, ◌+◌, ◌<◌, List, [], ◌∷◌, ◌++◌, length, take, get_or, cond, find, reverse, Option}
use Rattle.std.proofs.Common.{Some, sym, ◌∙◌, ap, option_map, Bool, true, false, refl}
use Rattle.std.proofs.lemmas.List.{reverse-append, take_more}
use Rattle.bank_mem.specs.declared.crash.Torn.{Torn}
use Rattle.bank_mem.specs.declared.crash.Tear.{Tear}
use Rattle.bank_mem.specs.Crash.{same_place, listed_as}

-- An entry names the sector.
abbrev names : Torn → ℕ → ℕ → Bool
names t d x = same_place (t.device, t.sector) (d, x)

-- The newest entry counts where it names the sector.
listed_push : (torn : List Torn) (t : Torn) (d x : ℕ)
    → listed_as (torn ++ t ∷ []) d x ≡ cond (names t d x) (Some t.how) (listed_as torn d x)
listed_push torn t d x =
    ap (λ (l : List Torn). option_map (λ (t : Torn). t.how) (find (λ (t : Torn). names t d x) l))
    (reverse-append torn (t ∷ []))
    ∙ first (names t d x) (find (λ (t : Torn). names t d x) (reverse torn))
  where
    first : (here : Bool) (other : Option Torn)
        → option_map (λ (t : Torn). t.how) (cond here (Some t) other)
        ≡ cond here (Some t.how) (option_map (λ (t : Torn). t.how) other)
    first true other = refl
    first false other = refl

-- The same of the entries up to one, where those before it are known.
pub listed_more : (torn : List Torn) (k : ℕ) (e : Torn) (d x : ℕ) (before : Option Tear)
    → k < length torn
    → before ≡ listed_as (take k torn) d x
    → cond (names (get_or torn k e) d x) (Some (get_or torn k e).how) before
    ≡ listed_as (take (k + 1) torn) d x
listed_more torn k e d x before below is =
    ap (λ (o : Option Tear). cond (names (get_or torn k e) d x) (Some (get_or torn k e).how) o) is
    ∙ sym (listed_push (take k torn) (get_or torn k e) d x)
    ∙ ap (λ (l : List Torn). listed_as l d x) (sym (take_more torn k e below))
