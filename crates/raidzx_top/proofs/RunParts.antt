-- What a call of `run` or `replay` promises, put together from its parts.
use Rattle.std.proofs.Common.{◌≡◌, ◌≢◌, ⊎_elim, ℕ, List, [], Some, None, sym, subst}
use Rattle.bank_trait.specs.Causes.{FaultCounted}
use Rattle.bank_trait.specs.Disk.{Image, Disk}
use Rattle.core_open.specs.Failing.{HaveFailed}
use Rattle.core_open.specs.Holds.{HoldsImage}
use Rattle.core_open.proofs.Unhindered.{none_empty}
use Rattle.client_script.specs.Script.{IsOverLimit, IsFaultAt}
use Rattle.raidzx_top.specs.declared.order.Order.{Order}
use Rattle.raidzx_top.specs.declared.order.Order.TheVariants.{AsTheyCome, AsListed}
use Rattle.raidzx_top.specs.declared.status.Status.TheVariants as status
use Rattle.command_words.specs.declared.command.NewPool.{NewPool}
use Rattle.command_words.specs.declared.command.ServedCommand.{ServedCommand}
use Rattle.command_words.specs.declared.command.ServedCommand.TheVariants as served
use Rattle.raidzx_top.specs.Call.{TopCall, IsCarriedOut, MakesGroups, Opens, ReadsScript}
use Rattle.raidzx_top.specs.Order.{served_by}
use Rattle.raidzx_top.specs.Causes.{IsCause, IsFoundImage, IsReadWhole, IsOrNoMemory, IsFaultOrNoMemory, IsTooSmall}
use Rattle.raidzx_top.specs.Causes.{FindsNoPool, IsRefusedWhere}
use Rattle.raidzx_top.specs.Promises.{CallPromises, RunPromises, RunIsKept, LeavesNone, RunsUnhindered, CompletesAll}
use Rattle.raidzx_top.specs.RunText.{TextIsRight}
use Rattle.raidzx_top.specs.Served.{IsServedAs, command_of}
use Rattle.raidzx_top.specs.Words.{Command}
use Rattle.raidzx_top.proofs.NoStatus.{not_told}
use Rattle.raidzx_top.proofs.Spelling.{create_no_script, one_manner, script_no_status}
use Rattle.raidzx_top.proofs.Growing.{bank_may_grow}

-- the command that carries a script out in this manner
abbrev pub command_in : Order → Command
command_in order = command_of (served_by order)

-- It reads a script,
pub reads : (order : Order) → ReadsScript (command_in order)
reads (AsTheyCome attaches) = tt
reads AsListed = tt

-- opens a pool,
pub opens : (order : Order) → Opens (command_in order)
opens (AsTheyCome attaches) = tt
opens AsListed = tt

-- with a group of its own,
pub makes_groups : (order : Order) → MakesGroups (command_in order)
makes_groups (AsTheyCome attaches) = tt
makes_groups AsListed = tt

-- and has no size that may be too small.
no_size : (call : TopCall) (order : Order) → IsTooSmall call (command_in order) → ⊥
no_size call (AsTheyCome attaches) less = apart less.0 less.1
  where
    apart : (size : ℕ × ℕ) → None ≡ Some size → ⊥
    apart size same = cc
no_size call AsListed less = apart less.0 less.1
  where
    apart : (size : ℕ × ℕ) → None ≡ Some size → ⊥
    apart size same = cc

-- What an opening finds is what the bank holds at entry.
pub held_at_entry : (call : TopCall) (order : Order) (image : Image) → IsFoundImage call (command_in order) image
    → HoldsImage call.old image
held_at_entry call (AsTheyCome attaches) image found = subst (λ (disk : Disk). HoldsImage disk image) found.is found.holds
held_at_entry call AsListed image found = subst (λ (disk : Disk). HoldsImage disk image) found.is found.holds

-- What has to be shown of a script that a call carried out, or was to carry out, however it ended.
pub record IsRunEnd (order : Order) (call : TopCall) : Type 0 where
  pub cause : IsCause call (command_in order) call.status
  pub no_usage : call.status ≢ status.Usage
  pub no_small : call.status ≢ status.TooSmall
  pub limit : (bytes : List ℕ) → IsReadWhole call (command_in order) bytes → IsOverLimit bytes
      → IsOrNoMemory call status.Limit
  pub fault : (bytes : List ℕ) (line : ℕ) → IsReadWhole call (command_in order) bytes → IsFaultAt bytes line
      → IsFaultOrNoMemory call line
  pub no_pool : FindsNoPool call (command_in order) → IsOrNoMemory call status.NotPool
  pub refused : call.journal ≡ [] → (IsCarriedOut call → ⊥) → TextIsRight call []
  pub opened : call.journal ≢ [] → RunPromises order call
  pub unopened : call.journal ≡ [] → LeavesNone call
  pub carried_out : IsCarriedOut call → call.journal ≢ []
  pub completes : RunsUnhindered order call → CompletesAll order call

-- Where no device failed, none was silent.
pub none_silent : (old new : Disk) (silent : ℕ) → HaveFailed old new silent
    → ((device : ℕ) → FaultCounted (old.faults device) (new.faults device) → ⊥) → silent ≡ 0
none_silent old new silent failed quiet = none_empty silent (λ device has. quiet device (failed device has).1)

module _ (order : Order) (call : TopCall) (served_as : IsServedAs call.words (served_by order)) (ends : IsRunEnd order call) where
  no_create : {A : Type 0} → (made : NewPool) → IsServedAs call.words (served.Create made) → A
  no_create made is = absurd (create_no_script call.words made order is served_as)

  -- The words ask for this, and for nothing else.
  for_script : (P : Command → Type 0) → P (command_in order) → (given : ServedCommand) → IsServedAs call.words given
      → P (command_of given)
  for_script P right (served.Create made) is = no_create made is
  for_script P right (served.Run attaches) is =
      subst (λ (m : Order). P (command_in m)) (one_manner call.words order (AsTheyCome attaches) served_as is) right
  for_script P right served.Replay is =
      subst (λ (m : Order). P (command_in m)) (one_manner call.words order AsListed served_as is) right
  for_script P right served.Status is = absurd (script_no_status call.words order served_as is)

  -- What is promised in this manner is promised in each that the words ask for.
  kept : (other : Order) → RunIsKept other call
  kept other = record {
    opened = λ is some. subst (λ (m : Order). RunPromises m call) (one_manner call.words order other served_as is)
        (ends.opened some);
    unopened = λ is none. ends.unopened none;
    carried_out = λ is carried. ends.carried_out carried;
  }

  completing : (other : Order) → RunsUnhindered other call → CompletesAll other call
  completing other smooth =
      let same = one_manner call.words order other served_as smooth.served in
      subst (λ (m : Order). CompletesAll m call) same
      (ends.completes (subst (λ (m : Order). RunsUnhindered m call) (sym same) smooth))

  pub run_keeps_promises : CallPromises call
  run_keeps_promises = record {
    explains = record {
      cause = record {
        usage = λ usage. absurd (ends.no_usage usage);
        others = for_script (λ (c : Command). IsCause call c call.status) ends.cause;
      };
      comes = record {
        usage = λ none. absurd (none (served_by order, served_as));
        refused = for_script (λ (c : Command). IsRefusedWhere call c) (record {
          limit = ends.limit;
          fault = ends.fault;
          too_small = λ less. absurd (no_size call order less);
        });
        no_pool = λ command finds. for_script
            (λ (c : Command). FindsNoPool call c → IsOrNoMemory call status.NotPool)
            ends.no_pool finds.given finds.served
            (subst (λ (c : Command). FindsNoPool call c) (sym finds.command_is) finds);
      };
    };
    refuses = record {
      refused = ends.refused;
      quiet = λ none. absurd (none (served_by order, served_as));
      turns = λ none. (ends.unopened none).turns;
    };
    commands = record {
      create = record {
        created = λ made is. no_create made is;
        untouched = λ refusal. ⊎_elim (λ usage. absurd (ends.no_usage usage)) (λ small. absurd (ends.no_small small)) refusal;
      };
      run = λ attaches. kept (AsTheyCome attaches);
      replay = kept AsListed;
      told = not_told call (script_no_status call.words order served_as);
    };
    may_be_added = bank_may_grow call.new;
    unhindered = record {
      complete = record { done = λ made is fits quiet sink. no_create made is };
      completes = completing;
    };
  }
