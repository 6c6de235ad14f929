-- A word that is no option is taken for the value that the option before it waits for.
use Rattle.std.proofs.Common.{◌≡◌, ℕ, List, [], ◌∷◌, None, false, refl, ap, ◌∙◌}
use Rattle.std.specs.Str.{bytes_eq}
use Rattle.clap.specs.Lexer.{long_of, short_of}
use Rattle.clap.specs.Walk.{Held, Names, Rule, Text, Walk, arg_by_id, option, option_word, walked}
use Rattle.clap.specs.Simple.{Shape}
use Rattle.clap.specs.Kinds.{Kinds, or_else}
use Rattle.clap.specs.Faults.{turn_fault, walk_fault}

-- a word that is no option
pub record IsPlain (word : List ℕ) : Type 0 where
  pub dashes : bytes_eq word (45 ∷ 45 ∷ []) ≡ false
  pub long : long_of word ≡ None
  pub short : short_of word ≡ None

-- a walk in which this option waits for its value
abbrev pub waits_for : Text → ℕ → Held → Walk
waits_for id position held =
    record { held = held; waiting = option id; position = position; is_trailing = false; stopped = None }

-- the walk once it has it
abbrev pub given_to : List Rule → Text → ℕ → Text → Held → Walk
given_to rules id position word held = record {
  held = (option_word (arg_by_id rules id) id word held).0;
  waiting = (option_word (arg_by_id rules id) id word held).1;
  position = position;
  is_trailing = false;
  stopped = None;
}

pub value_taken : (rules : List Rule) (names : Names) (id word : Text) (position : ℕ) (held : Held) → IsPlain word
    → walked rules names (waits_for id position held) word ≡ given_to rules id position word held
unfolding walked
value_taken rules names id word position held is = rw (is.dashes, is.long, is.short) refl

pub value_faultless : (s : Shape) (names : Names) (id word : Text) (position : ℕ) (held : Held) → IsPlain word
    → turn_fault s names (waits_for id position held) word ≡ []
value_faultless s names id word position held is = rw (is.dashes, is.long, is.short) refl

-- Where an option and its value are taken, the rest decides.
pub pair_faultless : (s : Shape) (names : Names) (now : Walk) (word id value : Text) (rest : List Text) (held : Held)
    → turn_fault s names now word ≡ [] → walked s.rules names now word ≡ waits_for id 1 held → IsPlain value
    → walk_fault s names (given_to s.rules id 1 value held) rest ≡ []
    → walk_fault s names now (word ∷ value ∷ rest) ≡ []
unfolding walk_fault
pair_faultless s names now word id value rest held taken waits is after =
    ap (λ (k : Kinds). or_else k (walk_fault s names (walked s.rules names now word) (value ∷ rest))) taken
    ∙ ap (λ (w : Walk). walk_fault s names w (value ∷ rest)) waits
    ∙ ap (λ (k : Kinds). or_else k (walk_fault s names (walked s.rules names (waits_for id 1 held) value) rest))
    (value_faultless s names id value 1 held is)
    ∙ ap (λ (w : Walk). walk_fault s names w rest) (value_taken s.rules names id value 1 held is)
    ∙ after

pub pair_taken : (rules : List Rule) (names : Names) (now : Walk) (word id value : Text) (held : Held)
    → walked rules names now word ≡ waits_for id 1 held → IsPlain value
    → walked rules names (walked rules names now word) value ≡ given_to rules id 1 value held
pair_taken rules names now word id value held waits is =
    ap (λ (w : Walk). walked rules names w value) waits ∙ value_taken rules names id value 1 held is
