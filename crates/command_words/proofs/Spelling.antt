-- Each command is taken as it is spelled in its one order.
use Rattle.std.proofs.Common.{◌∙◌, ℕ, ◌<◌, List, [], ◌∷◌, Bool, true, false, refl, sym, ap, subst, arith, codes}
use Rattle.std.specs.Prelude.{◌^◌, decimal}
use Rattle.clap.proofs.OnLiterals.{clap_on_literals}
use Rattle.command_words.specs.Words.{IsCommand, IsSize}
use Rattle.command_words.specs.Served.{IsServedAs, command_of}
use Rattle.command_words.specs.declared.command.NewPool.{NewPool}
use Rattle.command_words.specs.declared.command.ServedCommand.{ServedCommand}
use Rattle.command_words.specs.declared.command.ServedCommand.TheVariants as served
use Rattle.command_words.proofs.Digits.{plain_decimal}
use Rattle.command_words.proofs.Creating as creating

-- the words of a command, where the first is any
abbrev spelled_of : List ℕ → ServedCommand → List (List ℕ)
spelled_of first (served.Create s) = first ∷ codes "create" ∷ codes "--parity" ∷ decimal s.parity
    ∷ codes "--width" ∷ decimal s.width ∷ codes "--id" ∷ decimal s.id ∷ []
spelled_of first (served.Run false) = first ∷ codes "run" ∷ []
spelled_of first (served.Run true) = first ∷ codes "run" ∷ codes "--attach" ∷ []
spelled_of first served.Replay = first ∷ codes "replay" ∷ []
spelled_of first served.Status = first ∷ codes "status" ∷ []

run_served : (first : List ℕ) (attaches : Bool)
    → IsServedAs (spelled_of first (served.Run attaches)) (served.Run attaches)
unfolding clap_on_literals
run_served first false = record {
  rows = _;
  taken = record { faultless = refl; subcommand = refl };
  read = refl;
  in_range = tt;
}
run_served first true = record {
  rows = _;
  taken = record { faultless = refl; subcommand = refl };
  read = refl;
  in_range = tt;
}

replay_served : (first : List ℕ) → IsServedAs (spelled_of first served.Replay) served.Replay
unfolding clap_on_literals
replay_served first = record {
  rows = _;
  taken = record { faultless = refl; subcommand = refl };
  read = tt;
  in_range = tt;
}

status_served : (first : List ℕ) → IsServedAs (spelled_of first served.Status) served.Status
unfolding clap_on_literals
status_served first = record {
  rows = _;
  taken = record { faultless = refl; subcommand = refl };
  read = tt;
  in_range = tt;
}

create_served : (first : List ℕ) (s : NewPool) → IsSize s.parity s.width → s.id < 2 ^ 64
    → IsServedAs (spelled_of first (served.Create s)) (served.Create s)
create_served first s size id =
    let parity = plain_decimal s.parity (omega (arith, size)) in
    let width = plain_decimal s.width (omega (arith, size)) in
    let number = plain_decimal s.id id in
    record {
      rows = creating.rows first _ _ _ parity width number;
      taken = record {
        faultless = creating.faultless first _ _ _ parity width number;
        subcommand = creating.subcommand first _ _ _ parity width number;
      };
      read = record {
        parity = creating.parity_read first _ _ _ parity width number;
        width = creating.width_read first _ _ _ parity width number;
        id = creating.id_read first _ _ _ parity width number;
      };
      in_range = (size, id);
    }

pub spelled_served : (words : List (List ℕ)) (given : ServedCommand) → IsCommand words (command_of given)
    → IsServedAs words given
spelled_served words (served.Create s) is = subst (λ (all : List (List ℕ)). IsServedAs all (served.Create s))
    (sym (is.words_are ∙ ap (λ (rest : List (List ℕ)). is.first ∷ rest) is.spelled))
    (create_served is.first s is.in_range.0 is.in_range.1)
spelled_served words (served.Run false) is = subst (λ (all : List (List ℕ)). IsServedAs all (served.Run false))
    (sym (is.words_are ∙ ap (λ (rest : List (List ℕ)). is.first ∷ rest) is.spelled)) (run_served is.first false)
spelled_served words (served.Run true) is = subst (λ (all : List (List ℕ)). IsServedAs all (served.Run true))
    (sym (is.words_are ∙ ap (λ (rest : List (List ℕ)). is.first ∷ rest) is.spelled)) (run_served is.first true)
spelled_served words served.Replay is = subst (λ (all : List (List ℕ)). IsServedAs all served.Replay)
    (sym (is.words_are ∙ ap (λ (rest : List (List ℕ)). is.first ∷ rest) is.spelled)) (replay_served is.first)
spelled_served words served.Status is = subst (λ (all : List (List ℕ)). IsServedAs all served.Status)
    (sym (is.words_are ∙ ap (λ (rest : List (List ℕ)). is.first ∷ rest) is.spelled)) (status_served is.first)
