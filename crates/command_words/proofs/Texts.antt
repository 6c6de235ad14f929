-- The texts that are read of a subcommand's own words.
use Rattle.std.proofs.Common.{◌≡◌, ◌∙◌, ℕ, List, Option, Some, None, ap, sym}
use Rattle.std.specs.Prelude.{◌^◌, ◌<◌, option_map, decimal, IfSome, IfNone}
use Rattle.std.proofs.lemmas.Fmt.{decimal_injective}
use Rattle.std.specs.Borrow.{Bor}
use Rattle.clap.specs.Matches.{first_value}
use Rattle.clap.specs.Walk.{Row, Text, first_of, rows_of}
use Rattle.clap.specs.declared.parser.matches.Found.{Found}
use Rattle.clap.proofs.WalkLemmas.{first_value-rows}
use Rattle.command_words.specs.Served.{HasNumber}

module _ (found : Found) (id : Text) (got : Option (Bor Text))
    (is : option_map (λ s. s.now) got ≡ first_value found id) where
  pub text_read : (text : Bor Text) → got ≡ Some text → first_of id (rows_of found) ≡ Some text.now
  text_read text there = sym (first_value-rows found id) ∙ sym is ∙ ap (option_map (λ s. s.now)) there

  pub none_read : got ≡ None → first_of id (rows_of found) ≡ None
  none_read there = sym (first_value-rows found id) ∙ sym is ∙ ap (option_map (λ s. s.now)) there

-- A number that a text spells is the value.
pub number_read : (rows : List Row) (id text : Text) (got : Option ℕ) → first_of id rows ≡ Some text
    → IfSome got (λ n. text ≡ decimal n) → IfSome got (HasNumber rows id)
number_read rows id text (Some n) read is = read ∙ ap Some is
number_read rows id text None read is = tt

-- A text that spells none has no value.
pub no_number : (rows : List Row) (id text : Text) (n : ℕ) → first_of id rows ≡ Some text
    → (text ≡ decimal n → ⊥) → HasNumber rows id n → ⊥
no_number rows id text n read none is = none (some_same text (decimal n) (sym read ∙ is))
  where
    some_same : (one two : Text) → Some one ≡ Some two → one ≡ two
    some_same one two same = cc

pub none_because : {T P Q : Type 0} (o : Option T) → IfNone o P → (P → Q) → IfNone o Q
none_because None p then = then p
none_because (Some x) p then = tt

-- The value of an option is one number.
pub one_number : (rows : List Row) (id : Text) (m n : ℕ) → m < 2 ^ 64 → n < 2 ^ 64 → HasNumber rows id m
    → HasNumber rows id n → m ≡ n
one_number rows id m n m_fits n_fits one other =
    decimal_injective m n m_fits n_fits (some_same (decimal m) (decimal n) (sym one ∙ other))
  where
    some_same : (one two : Text) → Some one ≡ Some two → one ≡ two
    some_same one two same = cc
