-- Words are one command at most.
use Rattle.std.proofs.Common.{◌≡◌, ◌∙◌, ℕ, List, Some, refl, sym, ap, subst, arith, codes, length, get_or}
use Rattle.clap.specs.Walk.{Row}
use Rattle.command_words.specs.Served.{IsCreateRead, IsRead, IsServedAs, has_flag, name_of}
use Rattle.command_words.specs.declared.command.NewPool.{NewPool}
use Rattle.command_words.specs.declared.command.ServedCommand.{ServedCommand}
use Rattle.command_words.specs.declared.command.ServedCommand.TheVariants as served
use Rattle.command_words.proofs.Texts.{one_number}

-- The names of the subcommands differ.
create_no_run : codes "create" ≡ codes "run" → ⊥
create_no_run same = let long : 6 ≡ 3 = ap length same in omega (arith, long)

create_no_replay : codes "create" ≡ codes "replay" → ⊥
create_no_replay same = let letter : 99 ≡ 114 = ap (λ (l : List ℕ). get_or l 0 0) same in omega (arith, letter)

create_no_status : codes "create" ≡ codes "status" → ⊥
create_no_status same = let letter : 99 ≡ 115 = ap (λ (l : List ℕ). get_or l 0 0) same in omega (arith, letter)

run_no_replay : codes "run" ≡ codes "replay" → ⊥
run_no_replay same = let long : 3 ≡ 6 = ap length same in omega (arith, long)

run_no_status : codes "run" ≡ codes "status" → ⊥
run_no_status same = let long : 3 ≡ 6 = ap length same in omega (arith, long)

replay_no_status : codes "replay" ≡ codes "status" → ⊥
replay_no_status same = let letter : 114 ≡ 115 = ap (λ (l : List ℕ). get_or l 0 0) same in omega (arith, letter)

same_pool : (s t : NewPool) → s.parity ≡ t.parity → s.width ≡ t.width → s.id ≡ t.id → s ≡ t
same_pool s t parity width id =
    ap (λ (n : ℕ). record { parity = n; width = s.width; id = s.id }) parity
    ∙ ap (λ (n : ℕ). record { parity = t.parity; width = n; id = s.id }) width
    ∙ ap (λ (n : ℕ). record { parity = t.parity; width = t.width; id = n }) id

same_read : (one two : List ℕ × List Row) → Some one ≡ Some two → one ≡ two
same_read one two same = cc

-- Of two commands that words are, what was read is the same,
module _ (words : List (List ℕ)) (a b : ServedCommand) (is_a : IsServedAs words a) (is_b : IsServedAs words b) where
  all_alike : ◌≡◌ {A = List ℕ × List Row} (name_of a, is_a.rows) (name_of b, is_b.rows)
  all_alike = same_read (name_of a, is_a.rows) (name_of b, is_b.rows)
      (sym is_a.taken.subcommand ∙ is_b.taken.subcommand)

  name_is : name_of a ≡ name_of b
  name_is = ap (λ (all : List ℕ × List Row). all.0) all_alike

  read_alike : IsRead is_a.rows b
  read_alike = subst (λ (all : List ℕ × List Row). IsRead all.1 b) (sym all_alike) is_b.read

-- so they are the same.
pub one_command : (words : List (List ℕ)) (a b : ServedCommand) → IsServedAs words a → IsServedAs words b → a ≡ b
one_command words (served.Create s) (served.Create t) is_a is_b =
    let other : IsCreateRead is_a.rows t = read_alike words (served.Create s) (served.Create t) is_a is_b in
    ap served.Create (same_pool s t
    (one_number is_a.rows (codes "parity") s.parity t.parity
    (omega (arith, is_a.in_range.0)) (omega (arith, is_b.in_range.0)) is_a.read.parity other.parity)
    (one_number is_a.rows (codes "width") s.width t.width
    (omega (arith, is_a.in_range.0)) (omega (arith, is_b.in_range.0)) is_a.read.width other.width)
    (one_number is_a.rows (codes "id") s.id t.id is_a.in_range.1 is_b.in_range.1 is_a.read.id other.id))
one_command words (served.Run x) (served.Run y) is_a is_b =
    let other : y ≡ has_flag is_a.rows (codes "attach") = read_alike words (served.Run x) (served.Run y) is_a is_b in
    ap served.Run (is_a.read ∙ sym other)
one_command words served.Replay served.Replay is_a is_b = refl
one_command words served.Status served.Status is_a is_b = refl
one_command words (served.Create s) (served.Run y) is_a is_b =
    absurd (create_no_run (name_is words (served.Create s) (served.Run y) is_a is_b))
one_command words (served.Create s) served.Replay is_a is_b =
    absurd (create_no_replay (name_is words (served.Create s) served.Replay is_a is_b))
one_command words (served.Create s) served.Status is_a is_b =
    absurd (create_no_status (name_is words (served.Create s) served.Status is_a is_b))
one_command words (served.Run x) (served.Create t) is_a is_b =
    absurd (create_no_run (sym (name_is words (served.Run x) (served.Create t) is_a is_b)))
one_command words (served.Run x) served.Replay is_a is_b =
    absurd (run_no_replay (name_is words (served.Run x) served.Replay is_a is_b))
one_command words (served.Run x) served.Status is_a is_b =
    absurd (run_no_status (name_is words (served.Run x) served.Status is_a is_b))
one_command words served.Replay (served.Create t) is_a is_b =
    absurd (create_no_replay (sym (name_is words served.Replay (served.Create t) is_a is_b)))
one_command words served.Replay (served.Run y) is_a is_b =
    absurd (run_no_replay (sym (name_is words served.Replay (served.Run y) is_a is_b)))
one_command words served.Replay served.Status is_a is_b =
    absurd (replay_no_status (name_is words served.Replay served.Status is_a is_b))
one_command words served.Status (served.Create t) is_a is_b =
    absurd (create_no_status (sym (name_is words served.Status (served.Create t) is_a is_b)))
one_command words served.Status (served.Run y) is_a is_b =
    absurd (run_no_status (sym (name_is words served.Status (served.Run y) is_a is_b)))
one_command words served.Status served.Replay is_a is_b =
    absurd (replay_no_status (sym (name_is words served.Status served.Replay is_a is_b)))
