-- The words of `create` with its options in their order, whatever their values are.
use Rattle.std.proofs.Common.{◌≡◌, ℕ, List, [], ◌∷◌, Some, false, refl, ◌∙◌, ap, codes}
use Rattle.clap.specs.Walk.{Row, Text, Walk, finished, first_of, nothing_held, walk, walk_from, walked}
use Rattle.clap.specs.Simple.{Shape, built_leaf, subcommand_of}
use Rattle.clap.specs.Faults.{fault_of, level_fault, turn_fault, walk_fault}
use Rattle.clap.proofs.OnLiterals.{clap_on_literals}
use Rattle.command_words.specs.Grammar.{command_words, create_words}
use Rattle.command_words.proofs.Values.{IsPlain, given_to, pair_faultless, pair_taken, waits_for}

abbrev shape : Shape
shape = built_leaf create_words.top

abbrev step : Walk → Text → Walk
step = walked shape.rules []

module _ (first a b d : List ℕ) (a_is : IsPlain a) (b_is : IsPlain b) (d_is : IsPlain d) where
  -- the walk where an option waits for its value, and where it has it
  abbrev wants_parity : Walk
  wants_parity = step (walk_from nothing_held) (codes "--parity")

  abbrev has_parity : Walk
  has_parity = given_to shape.rules (codes "parity") 1 a wants_parity.held

  abbrev wants_width : Walk
  wants_width = step has_parity (codes "--width")

  abbrev has_width : Walk
  has_width = given_to shape.rules (codes "width") 1 b wants_width.held

  abbrev wants_id : Walk
  wants_id = step has_width (codes "--id")

  abbrev has_id : Walk
  has_id = given_to shape.rules (codes "id") 1 d wants_id.held

  parity_waits : wants_parity ≡ waits_for (codes "parity") 1 wants_parity.held
  unfolding clap_on_literals
  parity_waits = refl

  width_waits : wants_width ≡ waits_for (codes "width") 1 wants_width.held
  unfolding clap_on_literals
  width_waits = refl

  id_waits : wants_id ≡ waits_for (codes "id") 1 wants_id.held
  unfolding clap_on_literals
  id_waits = refl

  abbrev behind : List Text
  behind = codes "--parity" ∷ a ∷ codes "--width" ∷ b ∷ codes "--id" ∷ d ∷ []

  walk_ends : walk shape.rules [] nothing_held behind ≡ has_id
  walk_ends =
      ap (λ (w : Walk). step (step (step (step w (codes "--width")) b) (codes "--id")) d)
      (pair_taken shape.rules [] (walk_from nothing_held) (codes "--parity") (codes "parity") a wants_parity.held
      parity_waits a_is)
      ∙ ap (λ (w : Walk). step (step w (codes "--id")) d)
      (pair_taken shape.rules [] has_parity (codes "--width") (codes "width") b wants_width.held width_waits b_is)
      ∙ pair_taken shape.rules [] has_width (codes "--id") (codes "id") d wants_id.held id_waits d_is

  parity_faultless : turn_fault shape [] (walk_from nothing_held) (codes "--parity") ≡ []
  unfolding clap_on_literals
  parity_faultless = refl

  width_faultless : turn_fault shape [] has_parity (codes "--width") ≡ []
  unfolding clap_on_literals
  width_faultless = refl

  id_faultless : turn_fault shape [] has_width (codes "--id") ≡ []
  unfolding clap_on_literals
  id_faultless = refl

  nothing_left : walk_fault shape [] has_id [] ≡ []
  unfolding walk_fault
  nothing_left = refl

  walk_faultless : walk_fault shape [] (walk_from nothing_held) behind ≡ []
  walk_faultless =
      pair_faultless shape [] (walk_from nothing_held) (codes "--parity") (codes "parity") a _ wants_parity.held
      parity_faultless parity_waits a_is
      (pair_faultless shape [] has_parity (codes "--width") (codes "width") b _ wants_width.held
      width_faultless width_waits b_is
      (pair_faultless shape [] has_width (codes "--id") (codes "id") d _ wants_id.held
      id_faultless id_waits d_is nothing_left))

  -- the words of `create` have no fault
  level_faultless : level_fault shape [] nothing_held behind false [] ≡ []
  unfolding clap_on_literals
  level_faultless = rw (walk_faultless, walk_ends) refl

  abbrev spelled : List Text
  spelled = first ∷ codes "create" ∷ behind

  -- what is read of them
  abbrev pub rows : List Row
  rows = finished shape.rules has_id.held

  pub faultless : fault_of command_words spelled ≡ []
  unfolding clap_on_literals
  faultless = rw level_faultless refl

  pub subcommand : subcommand_of command_words spelled ≡ Some (codes "create", rows)
  unfolding clap_on_literals
  subcommand = ap (λ (w : Walk). Some (codes "create", finished shape.rules w.held)) walk_ends

  pub parity_read : first_of (codes "parity") rows ≡ Some a
  unfolding clap_on_literals
  parity_read = refl

  pub width_read : first_of (codes "width") rows ≡ Some b
  unfolding clap_on_literals
  width_read = refl

  pub id_read : first_of (codes "id") rows ≡ Some d
  unfolding clap_on_literals
  id_read = refl
