-- Words ask for one thing at most.
use Rattle.std.proofs.Common.{◌≡◌, ℕ, List}
use Rattle.command_words.specs.declared.command.NewPool.{NewPool}
use Rattle.command_words.specs.declared.command.ServedCommand.TheVariants as served
use Rattle.command_words.proofs.Uniqueness.{one_command}
use Rattle.raidzx_top.specs.Order.{served_by}
use Rattle.raidzx_top.specs.Served.{IsServedAs}
use Rattle.raidzx_top.specs.declared.order.Order.{Order}
use Rattle.raidzx_top.specs.declared.order.Order.TheVariants.{AsTheyCome, AsListed}

-- Words spell one new pool.
pub one_create : (words : List (List ℕ)) (s t : NewPool) → IsServedAs words (served.Create s)
    → IsServedAs words (served.Create t)
    → s ≡ t
one_create words s t is_s is_t = same_pool (one_command words (served.Create s) (served.Create t) is_s is_t)
  where
    same_pool : served.Create s ≡ served.Create t → s ≡ t
    same_pool same = cc

-- Those that ask for a script to be carried out make no pool,
pub create_no_script : (words : List (List ℕ)) (s : NewPool) (order : Order) → IsServedAs words (served.Create s)
    → IsServedAs words (served_by order) → ⊥
create_no_script words s (AsTheyCome attaches) create run =
    apart (one_command words (served.Create s) (served.Run attaches) create run)
  where
    apart : served.Create s ≡ served.Run attaches → ⊥
    apart same = cc
create_no_script words s AsListed create replay =
    apart (one_command words (served.Create s) served.Replay create replay)
  where
    apart : served.Create s ≡ served.Replay → ⊥
    apart same = cc

-- and ask for it in one manner.
pub one_manner : (words : List (List ℕ)) (order other : Order) → IsServedAs words (served_by order)
    → IsServedAs words (served_by other) → order ≡ other
one_manner words (AsTheyCome a) (AsTheyCome b) is_a is_b =
    alike (one_command words (served.Run a) (served.Run b) is_a is_b)
  where
    alike : served.Run a ≡ served.Run b → AsTheyCome a ≡ AsTheyCome b
    alike same = cc
one_manner words AsListed AsListed is same = λ i. AsListed
one_manner words (AsTheyCome attaches) AsListed run replay =
    absurd (apart (one_command words (served.Run attaches) served.Replay run replay))
  where
    apart : served.Run attaches ≡ served.Replay → ⊥
    apart same = cc
one_manner words AsListed (AsTheyCome attaches) replay run =
    absurd (apart (one_command words served.Replay (served.Run attaches) replay run))
  where
    apart : served.Replay ≡ served.Run attaches → ⊥
    apart same = cc

-- Those that ask what a pool's status is make no pool,
pub create_no_status : (words : List (List ℕ)) (s : NewPool) → IsServedAs words (served.Create s)
    → IsServedAs words served.Status → ⊥
create_no_status words s create status = apart (one_command words (served.Create s) served.Status create status)
  where
    apart : served.Create s ≡ served.Status → ⊥
    apart same = cc

-- and ask for no script to be carried out.
pub script_no_status : (words : List (List ℕ)) (order : Order) → IsServedAs words (served_by order)
    → IsServedAs words served.Status → ⊥
script_no_status words (AsTheyCome attaches) run status =
    apart (one_command words (served.Run attaches) served.Status run status)
  where
    apart : served.Run attaches ≡ served.Status → ⊥
    apart same = cc
script_no_status words AsListed replay status = apart (one_command words served.Replay served.Status replay status)
  where
    apart : served.Replay ≡ served.Status → ⊥
    apart same = cc
