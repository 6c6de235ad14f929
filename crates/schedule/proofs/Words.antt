-- The words that the proofs of this crate use, each from where it stands.
pub use Rattle.std.proofs.Common.{Bool, List, None, Option, Some, [], ap, append_assoc, arith, cond, drop, drop-cons}
pub use Rattle.std.proofs.Common.{eq-eqb, false, if◌then◌else◌, inl, inr, length, length-append, length-set, ne_eqb}
pub use Rattle.std.proofs.Common.{refl, rules, slice_index_or, slice_set, subst, suc, sym, zero, ℕ, ⊎_elim, ◌*◌, ◌++◌}
pub use Rattle.std.proofs.Common.{◌+◌, ◌-◌, ◌<◌, ◌∙◌, ◌∷◌, ◌≡◌, ◌≢◌, ◌≤◌, ◌⊎◌}
pub use Rattle.std.proofs.Math.Nat.{mul-le-mul_left}
pub use Rattle.std.proofs.Math.Seq.{take-length}
pub use Rattle.std.proofs.lemmas.Bool.{cases_eq, cases_lt, eqb-true, false≢true, le-ltb, lt-ltb, ltb-false, ltb-true}
pub use Rattle.std.proofs.lemmas.Bool.{true≢false}
pub use Rattle.std.proofs.lemmas.Bool.Decides.{nat_tests}
pub use Rattle.std.proofs.lemmas.Grind.{flat_map-append}
pub use Rattle.std.proofs.lemmas.List.{append-nil, drop_all, drop_more, get_or_past, length-map, length-replicate}
pub use Rattle.std.proofs.lemmas.List.{map-append, replicate_more, take-append-le, take_all, take_more}
pub use Rattle.std.proofs.lemmas.List.Elements.{All-filter, All-map, Contains-append_cases, Contains-append_left}
pub use Rattle.std.proofs.lemmas.List.Elements.{Contains-append_right}
pub use Rattle.std.proofs.lemmas.List.Filters.{length-filter_both, length-filter_more}
pub use Rattle.std.proofs.lemmas.List.Sums.{sum_by-append, sum_by-cons}
pub use Rattle.std.proofs.lemmas.Option.{get_or_from_slice_get, slice_get-get_or, slice_get-map, slice_get_read}
pub use Rattle.std.proofs.lemmas.Option.{slice_get_within}
pub use Rattle.std.proofs.lemmas.Result.{on_err_weaker, on_ok_weaker}
pub use Rattle.std.specs.List.{AllZip}
pub use Rattle.std.specs.Prelude.{All, Contains, Err, IsSome, IsTrue, Ok, OnErr, Result, count_by, filter, flat_map}
pub use Rattle.std.specs.Prelude.{get_or, is_some, map, nat_eq, nat_lt, not, option_and_then, option_map, replicate}
pub use Rattle.std.specs.Prelude.{slice_get, sum, take, true, unwrap_or, ⊤, ◌==◌}
pub use Rattle.std.specs.Set.{is_member, unique_keys}
pub use Rattle.bank_trait.proofs.Moments.{later_refl, later_trans}
pub use Rattle.bank_trait.proofs.Touches.{touches_then, touches_widen}
pub use Rattle.bank_trait.specs.Causes.{FaultCounted}
pub use Rattle.bank_trait.specs.Disk.{Disk, Image, Later, Lawful, Unchanged}
pub use Rattle.bank_trait.specs.Regions.{TouchesOnly}
pub use Rattle.bank_trait.specs.declared.Failed.{Failed}
pub use Rattle.width_map.specs.Births.{IsGrowing, NoneAbove, births_after, first_width}
pub use Rattle.width_map.specs.declared.birth.Birth.{Birth}
pub use Rattle.row_layout.specs.Layout.{allocated_of, rows_of}
pub use Rattle.reflow_mark.specs.Reflow.{Expands, sectors_of}
pub use Rattle.reflow_mark.specs.declared.reflow.Reflow.{Reflow}
pub use Rattle.range_locks.specs.Holds.{EndsHold, IsBusyBy}
pub use Rattle.range_locks.specs.Order.{exclusive_count, is_shared, shared_count}
pub use Rattle.range_locks.specs.declared.hold.Hold.{Hold}
pub use Rattle.range_locks.specs.declared.hold.HoldKind.{HoldKind}
pub use Rattle.range_locks.specs.declared.hold.HoldKind.TheVariants.{Exclusive, Shared}
pub use Rattle.block_record.specs.declared.entry.IndexEntry.{IndexEntry}
pub use Rattle.space_alloc.specs.Space.{Gains, HasNoFreeRun, HeldRun, Run, Space, after_group}
pub use Rattle.block_table.proofs.Counts.{held_is, known_split}
pub use Rattle.block_table.specs.Table.{IsFull, IsTable, ids_of, known_ids}
pub use Rattle.uberblock_ring.proofs.DeviceSets.{count_none, none_in}
pub use Rattle.uberblock_ring.specs.Devices.{IsWithin, count_of, has_device}
pub use Rattle.uberblock_ring.specs.Uberblock.{Uber, max_group}
pub use Rattle.uberblock_ring.specs.Valid.{IsRightUber}
pub use Rattle.attach_ring.proofs.Rings.{none_read, one_more_read}
pub use Rattle.attach_ring.specs.Ring.{HasReadRing, ReadsSlot, RingRead}
pub use Rattle.reconstruct.specs.Lost.{AreBytes}
pub use Rattle.core_state.proofs.Keeping.{knows_keep}
pub use Rattle.core_state.proofs.Knowing.{present}
pub use Rattle.core_state.proofs.Listed.{contains_cases, contains_head, contains_none, contains_tail}
pub use Rattle.core_state.proofs.Since.{since_now}
pub use Rattle.core_state.specs.Certain.{Knows}
pub use Rattle.core_state.specs.Collision.{MightStand}
pub use Rattle.core_state.specs.Committing.{Point, point_of}
pub use Rattle.core_state.specs.Journal.{Asked, Calls, CallsAreRight, Follows, GroupsAreRight, IsAsked, IsAttachOf}
pub use Rattle.core_state.specs.Journal.{IsComplete, IsWidthStep}
pub use Rattle.core_state.specs.JournalRoom.{Journal}
pub use Rattle.core_state.specs.Keeps.{HaveParity, Kept, Setting}
pub use Rattle.core_state.specs.Legal.{CallAt, GroupAt, IsAnswerOf, IsAnsweredGroup, IsGroupBefore, IsPrevious}
pub use Rattle.core_state.specs.Legal.{IsReadOf, IsRightAttach, IsRightCall, IsRightCopy, IsRightFree, IsRightRead}
pub use Rattle.core_state.specs.Map.{Map, PutBytes, SameMap, map_after, map_after_answer, map_of, with_block}
pub use Rattle.core_state.specs.Moment.{AwaitsAttach, Groups, IsBegunAfter, IsGroupOf, IsRowOf, KeepsRow, KeepsSince}
pub use Rattle.core_state.specs.Moment.{KeepsThroughout, groups_in, item_of}
pub use Rattle.core_state.specs.Shown.{Shape, Shows}
pub use Rattle.core_state.specs.World.{World}
pub use Rattle.core_state.specs.declared.answer.Answer.{Answer}
pub use Rattle.core_state.specs.declared.answer.Kind.{Kind}
pub use Rattle.core_state.specs.declared.item.Entry.{Entry}
pub use Rattle.core_state.specs.declared.item.Item.{Item}
pub use Rattle.core_state.specs.declared.item.Item.TheVariants.{Call, Group}
pub use Rattle.mark_choice.specs.CommitChoice.{births_of_commit, KeepsOrEnds}
pub use Rattle.core_commit.proofs.Beside.{committing_knows}
pub use Rattle.core_commit.proofs.Going.{in_use_before}
pub use Rattle.core_commit.proofs.Stepping.{ready_keeps, steps_same}
pub use Rattle.core_commit.specs.CommitTurns.{CommitRun, HasCalled}
pub use Rattle.core_commit.specs.Spared.{IsOnInUse}
pub use Rattle.core_commit.specs.Widening.{IsWidenable, widened_kept}
pub use Rattle.core_commit.specs.declared.commit_run.Stage.{Stage}
pub use Rattle.core_commit.specs.declared.commit_run.Stage.TheVariants.{Lays}
pub use Rattle.core_commit.specs.JoinRun.{JoinRun}
pub use Rattle.core_commit.specs.JoinTurns.{JoinSteps, guest_after}
pub use Rattle.core_commit.specs.declared.guest.Guest.{Guest}
pub use Rattle.core_commit.specs.declared.guest.Guest.TheVariants.{Lost}
pub use Rattle.core_commit.specs.declared.join_run.WhyDropped.{WhyDropped}
pub use Rattle.core_blocks.proofs.Listed.{found_id, found_listed}
pub use Rattle.core_blocks.proofs.Lists.{filter_was, first_listed, gains_cases, gains_item, gains_old, listed_cases}
pub use Rattle.core_blocks.proofs.Lists.{none_listed, rest_listed}
pub use Rattle.core_blocks.proofs.Usage.{adds_none, full_tight, uses_larger, uses_loaded}
pub use Rattle.core_blocks.specs.Blocks.{AreUnderWay, Blocks, IsUnderWay, put_run, puts_of, run_of}
pub use Rattle.core_blocks.specs.Growing.{grown_by}
pub use Rattle.core_blocks.specs.Puts.{HoldsBack, sectors_taken}
pub use Rattle.core_blocks.specs.Runs.{held_sectors}
pub use Rattle.core_blocks.specs.Usage.{IsTight, UsesAtMost, sectors_in}
pub use Rattle.core_state.proofs.Outs.{outs_then}
pub use Rattle.core_state.specs.Outs.{OnlyFailedGoOut}
pub use Rattle.core_open.proofs.Present.{present_held}
pub use Rattle.core_open.proofs.Joining.{since_longer}
pub use Rattle.core_open.proofs.Others.{read_touches}
pub use Rattle.width_map.proofs.Growing.{none_above_more}
pub use Rattle.core_open.proofs.Unchanged.{unchanged_none}
pub use Rattle.core_open.specs.Causes.{AreOutIn, AreOutOf, IsOutFor}
pub use Rattle.core_open.specs.Failing.{HaveFailed}
pub use Rattle.core_open.specs.Holds.{HoldsImage, shape_of}
pub use Rattle.core_open.specs.Opens.{IsWithinBelow, RenewsChoice, WritesInOrder}
pub use Rattle.core_open.specs.Regions.{IsOnBelow}
pub use Rattle.core_open.proofs.Banks.{count_grows}
pub use Rattle.core_open.proofs.Holding.{entry_held}
pub use Rattle.core_commit.proofs.NewBirth.{births_kept}
pub use Rattle.core_open.specs.Answered.{blocks_behind}
pub use Rattle.core_open.specs.Opening.{AreLoaded, IsBegunWith, MayBegin, OpensPool}
pub use Rattle.core_open.specs.Pool.{HasBank, HoldsMap, Pool, first_item, state_of}
pub use Rattle.core_turns.proofs.attach.Begins.{attach_joins_stands}
pub use Rattle.core_turns.proofs.attach.Beside.{IsBeforeCommit, attach_at_answer, attach_at_begin, attach_beside}
pub use Rattle.core_turns.proofs.attach.Beside.{attach_kept, attach_still}
pub use Rattle.core_turns.proofs.attach.Goes.{as_attach}
pub use Rattle.core_turns.proofs.attach.Signs.{attach_ends_stands, join_drops_since, join_drops_stands, join_goes_since}
pub use Rattle.core_turns.proofs.attach.Signs.{join_joins_since, join_joins_stands}
pub use Rattle.core_turns.proofs.attach.Stands.{attaching_calls, attaching_stands, join_goes_stands, look_stands}
pub use Rattle.core_turns.proofs.attach.Turns.{attaching_commit, reaching_on}
pub use Rattle.core_turns.proofs.state.Calls.{range_listed}
pub use Rattle.core_turns.proofs.sync.Ends.{commit_ends_calls, commit_ends_stands}
pub use Rattle.core_turns.proofs.sync.Goes.{turn_bank, turn_still}
pub use Rattle.core_turns.proofs.sync.Stands.{commit_begins_calls, commit_begins_stands, commit_steps_calls}
pub use Rattle.core_turns.proofs.sync.Stands.{commit_steps_since, commit_steps_stands}
pub use Rattle.core_turns.proofs.sync.Begins.{core_follows, core_rows, few_out, rests}
pub use Rattle.core_turns.proofs.state.Frames.{OnlyOut, calls_beside}
pub use Rattle.core_turns.proofs.free.Stands.{frees_calls, frees_stands}
pub use Rattle.core_turns.proofs.read.Calls.{get_begins_calls, get_ends_calls, get_reads_calls, get_solves_calls}
pub use Rattle.core_turns.proofs.read.Laws.{get_finds, get_tells}
pub use Rattle.core_turns.proofs.read.Stands.{get_begins_stands, get_ends_stands, get_reads_stands, get_solves_stands}
pub use Rattle.core_turns.proofs.read.Turns.{get_shared, reads_reaching}
pub use Rattle.core_turns.proofs.state.Holds.{KeepsAlone, below_all, count_ended, count_gained, keeps_ended}
pub use Rattle.core_turns.proofs.state.Holds.{keeps_gained, keeps_same, none_below, one_if}
pub use Rattle.core_turns.proofs.copy.Calls.{job_begins_calls, job_drops_calls, job_steps_calls}
pub use Rattle.core_turns.proofs.copy.Ends.{job_ends_calls, job_ends_commit, job_ends_stands}
pub use Rattle.core_turns.proofs.copy.Stands.{job_begins_alone, job_begins_stands, job_drops_alone, job_drops_stands}
pub use Rattle.core_turns.proofs.copy.Stands.{job_steps_since, job_steps_stands}
pub use Rattle.core_turns.proofs.put.Calls.{Rearranges, begins_rearranges, ends_rearranges, gives_up_rearranges}
pub use Rattle.core_turns.proofs.put.Calls.{put_begins_calls, put_ends_calls, put_fills_calls, put_gives_up_calls}
pub use Rattle.core_turns.proofs.put.Calls.{put_refused_calls, put_writes_calls}
pub use Rattle.core_turns.proofs.put.Ranges.{same_put}
pub use Rattle.core_turns.proofs.put.Stands.{put_begins_stands, put_ends_stands, put_fills_stands, put_gives_up_stands}
pub use Rattle.core_turns.proofs.put.Stands.{put_refused_stands, put_shared}
pub use Rattle.core_turns.proofs.put.Turns.{fills_of}
pub use Rattle.core_turns.proofs.put.Writes.{put_writes_since, put_writes_stands}
pub use Rattle.core_turns.proofs.state.StandFrames.{LeavesCommit, commit_still, out_leaves, since_read}
pub use Rattle.core_turns.proofs.state.Writes.{shown_one}
pub use Rattle.core_turns.specs.Damage.{undamaged}
pub use Rattle.core_turns.specs.Attaching.{AttachGoesOn, BeginsAttach, BeginsAttachSo, BeginsJoining, EndsAttach}
pub use Rattle.core_turns.specs.Attaching.{FindsFree, GoOutAndReach, HasNewDevice, HoldsAttach, IsAttachRefused}
pub use Rattle.core_turns.specs.Attaching.{IsAttachRunOf, IsDeviceRefused, IsMadeAt, IsMoreAttach, IsTooMany, OnlyGoOut}
pub use Rattle.core_turns.specs.Attaching.{ReadsNext, StepsAttach, StepsJoin, StopsAttach, WaitsForCommit}
pub use Rattle.core_turns.specs.Attaching.{attach_answer, attach_commit}
pub use Rattle.core_turns.specs.Committing.{AnswersGroup, BeginsCommit, BeginsCommitSo, DropsHold, IsCommitOf}
pub use Rattle.core_turns.specs.Committing.{IsSyncRefused, StepsCommit, TakesHold}
pub use Rattle.core_turns.specs.Copying.{BeginsJobSo, DropsJob, EndsJob, IsJobOf, IsJobRefused}
pub use Rattle.core_turns.specs.Core.{Core, CoreState, HasBankOf, IsCore, as_begun, at_disk, pool_at}
pub use Rattle.core_turns.specs.Freeing.{FreesBlock, map_after_free}
pub use Rattle.core_turns.specs.Getting.{AnswersSolved, BeginsGet, EndsGet, HasTooManyOut, IsGetOf, IsGetRefused}
pub use Rattle.core_turns.specs.Getting.{IsReadKind, IsReadRight, ReadsTurn, SolvesGet, hold_of}
pub use Rattle.core_turns.specs.Putting.{BeginsPutSo, BeginsPutTurn, EndsPut, FillsPut, GivesUp, GivesUpTurn}
pub use Rattle.core_turns.specs.Putting.{IsFillable, IsPutOf, IsPutRefused, IsStoppedPut, LeavesBlocks, StoresBlock}
pub use Rattle.core_turns.specs.Putting.{left_to_fill, to_fill_of}
pub use Rattle.core_turns.specs.Rounds.{BeginsRound, IsMoreRound, IsRoundBusy, IsRoundOf, IsRoundRefused, StepsCopy}
pub use Rattle.core_turns.specs.Steps.{turn_with}
pub use Rattle.core_turns.specs.TurnMap.{MapsTurn}
pub use Rattle.core_turns.specs.UnderWay.{AreCallsOf, Copying, GroupsStand, HoldingCall, Putting, Reading, SetsContent}
pub use Rattle.core_turns.specs.UnderWay.{Stands, TurnGoesOn, actor_of, ranges_of, shown_in, shown_of}
pub use Rattle.core_turns.specs.declared.attaching.AttachRun.{AttachRun}
pub use Rattle.core_turns.specs.declared.attaching.FreeDevice.{FreeDevice}
pub use Rattle.core_turns.specs.declared.attaching.AttachRun.TheVariants.{Checked, Joins, Reads, Signs}
pub use Rattle.core_turns.specs.declared.copying.CopyRun.{CopyRun}
pub use Rattle.core_turns.specs.declared.filling.Filled.{Filled}
pub use Rattle.core_turns.specs.declared.filling.ToFill.{ToFill}
pub use Rattle.core_turns.specs.declared.getting.GetRun.{GetRun}
pub use Rattle.core_turns.specs.declared.putting.PutRun.{PutRun}
pub use Rattle.core_turns.specs.declared.rounds.CopyRound.{CopyRound}
pub use Rattle.core_turns.specs.declared.rounds.CopyRound.TheVariants.{Commits, Copies, Rests}
pub use Rattle.core_turns.specs.declared.solving.Solved.{Solved}
pub use Rattle.core_turns.specs.declared.turn.Turn.{Turn}
pub use Rattle.core_turns.specs.declared.turn.Turn.TheVariants.{Busy, Done, More}
pub use Rattle.client_script.specs.InOrder.{IsNextCall, given_of}
pub use Rattle.client_script.specs.Lines.{fill_bytes, pattern_from}
pub use Rattle.client_script.specs.Script.{IsAllowed, MayHave, Placed, Script, asked_by, calls_of, handed_by}
pub use Rattle.client_script.specs.declared.call.ScriptCall.{ScriptCall}
pub use Rattle.journal_law.proofs.Distinct.{unique_among, unique_distinct}
pub use Rattle.journal_law.proofs.Grown.{first_has, group_before_first, group_before_grown, grown_has, last_there}
pub use Rattle.journal_law.proofs.Grown.{map_at_end, map_before, map_grown_call, map_grown_group, new_or_before}
pub use Rattle.journal_law.proofs.GrownAnswers.{answers_alone, answers_grown_call, answers_grown_group, each_grown_call}
pub use Rattle.journal_law.proofs.GrownAnswers.{each_grown_group}
pub use Rattle.journal_law.proofs.GrownGroups.{after_listed, group_alone, group_of_grown, groups_grown_call}
pub use Rattle.journal_law.proofs.GrownGroups.{groups_grown_group, latest_alone, latest_grown_call, latest_grown_group}
pub use Rattle.journal_law.proofs.GrownGroups.{width_step_where}
pub use Rattle.journal_law.proofs.GrownRun.{awaits_grown, each_grown, groups_begun, groups_call, groups_cut, groups_end}
pub use Rattle.journal_law.proofs.GrownRun.{groups_one, groups_with_call}
pub use Rattle.journal_law.proofs.ManyIds.{call_puts, held_or_put, one_too_many}
pub use Rattle.journal_law.proofs.Moments.{contains_one}
pub use Rattle.journal_law.proofs.NoSpace.{births_told_call, births_told_group, has_ended_call, has_ended_group}
pub use Rattle.journal_law.proofs.NoSpace.{largest, no_space_alike, no_space_alone, no_space_call, no_space_group}
pub use Rattle.journal_law.proofs.NoSpace.{taken_later, width_told_call, width_told_group}
pub use Rattle.journal_law.proofs.Parity.{opened_parity, parity_opened, parity_with}
pub use Rattle.journal_law.proofs.Rows.{row_among}
pub use Rattle.journal_law.specs.Caused.{HasTooManyIds, IsHeldOrPut}
pub use Rattle.journal_law.specs.FirstGroup.{BeginsAfter}
pub use Rattle.core_state.proofs.Reaching.{widest_reach, reaches_no_further, keeps_to_reach}
pub use Rattle.journal_law.specs.Moments.{KeepsLast, KeepsUntil}
pub use Rattle.journal_law.specs.NoSpace.{FindsNoSpace, IsBornBehind, NoSpaceIsCaused, has_ended, largest_size}
pub use Rattle.journal_law.specs.NoSpace.{length_put}
pub use Rattle.journal_law.specs.Parity.{HaveParityOf}
pub use Rattle.journal_law.specs.Points.{point_after, read_point}
pub use Rattle.schedule.specs.Caused.{AnswersAreCaused, FullIsCaused, IsAnswerCause}
pub use Rattle.schedule.specs.Clients.{Changes, ClientsAreAnswered, answered_of}
pub use Rattle.schedule.specs.Comes.{Comes, TakesTurn}
pub use Rattle.schedule.specs.Coming.{AttachesNone, GoesOnFor, HasToBear, IsSchedule, IsWorldOf, KeepsUsing, LeadTo}
pub use Rattle.schedule.specs.Coming.{StaysAsWide, IsRunFrom}
pub use Rattle.schedule.specs.Dropping.{HasDropCause, IsDropCause, IsToBeTold, WillTell}
pub use Rattle.schedule.specs.Fitting.{FitsCall, FitsSince, IsDeviceCause, IsGroupKind}
pub use Rattle.schedule.specs.InTurn.{Cursor, Goes, HasGone, HaveTaken, InOrder, InRest, InRound, IsCallOfScript}
pub use Rattle.schedule.specs.InTurn.{IsStepOf, IsTurnOf, Replay, ReplaySteps, after_round, cursor_after, has_left_at}
pub use Rattle.schedule.specs.InTurn.{has_turn_at, is_any_busy, is_busy_at, replay_at, replay_by, turn_at, turns_by}
pub use Rattle.schedule.specs.Live.{replay_in, turns_in}
pub use Rattle.schedule.specs.Moments.{KeepsOn, KeepsTurnByTurn, KeptSoFar, Past}
pub use Rattle.schedule.specs.Numbered.{GroupsAreNumbered, IsNumbered}
pub use Rattle.schedule.specs.OfLines.{FollowsLines, callers_in}
pub use Rattle.schedule.specs.Playing.{AreCopiers, AreSharers, CarriesOut, EndsAs, HasPlayed, HasRoomForAnswers}
pub use Rattle.schedule.specs.Playing.{HasRunOutOfTurns, IsReady, MakesRoom, UsesRoom, all_owed, calls_by}
pub use Rattle.schedule.specs.Playing.{owed, sharing_in, sharing_of, sharing_under, taken_for, taken_of}
pub use Rattle.schedule.specs.Recorded.{AllBelow, IsBegunAt, IsRightNext, Recorded}
pub use Rattle.schedule.specs.Replaying.{AreIdle, BeginsOne, HasComeRound, HasTurn, HaveBegun, IsAtRest, TakesOne}
pub use Rattle.schedule.specs.Replaying.{blank_client, blank_clients}
pub use Rattle.schedule.specs.Running.{AreGoing, HasBegun, HasBegunBy, HasBegunIn, HasContent, IsClient, IsGoing}
pub use Rattle.schedule.specs.Running.{IsHoldOf, IsTheirs, IsWorkFor, IsWorkOf, MakesCommit, Runs, call_of_client}
pub use Rattle.schedule.specs.Running.{calls_under_way, commit_in, held_by, held_under, setting_now}
pub use Rattle.schedule.specs.Turned.{AnswersAtOnce, Began, BeginsCall, BeginsWork, EndsPutting, EndsReading, Frees}
pub use Rattle.schedule.specs.Turned.{GoesOnBy, GoesOnPutting, GoesOnReading, HasDeviceFor, HasDeviceUnder, HasTableOf}
pub use Rattle.schedule.specs.Turned.{IsFilledIn, LacksRoom, LeavesBegun, LeavesGoing, MayGoOn, PutGoesOn}
pub use Rattle.schedule.specs.Turned.{ReadGoesOn, TurnState, Turned, Waits, Went, WorkGoesOn, WritesOn}
pub use Rattle.schedule.specs.Turned.{entry_for, group_by, group_for, group_with, listed_for, listed_of}
pub use Rattle.schedule.specs.Turned.{listed_on, listed_with, turn_state}
pub use Rattle.schedule.specs.Turns.{AreListedWith, IsListedWith, TurnTaken, Turns, bank_when, last_left, most_turns}
pub use Rattle.schedule.specs.Turns.{taken_by, turns_of}
pub use Rattle.schedule.specs.Using.{AreAtMost, AreLeft, AreRunsOf, AreUsed, HasToldWidths, HasUsedRuns, IsHeldIn}
pub use Rattle.schedule.specs.Using.{IsOpenSince, calls_among, sizes_left, sizes_of, sizes_put}
pub use Rattle.schedule.specs.WholeRun.{HasRun, HasRunInTurn, HasTakenTurns, RunKeeps, first_turns}
pub use Rattle.schedule.specs.Works.{begun_at, made_by, made_in}
pub use Rattle.schedule.specs.declared.client.Client.{Client}
pub use Rattle.schedule.specs.declared.client.UnderWay.{UnderWay}
pub use Rattle.schedule.specs.declared.client.Work.{Work}
pub use Rattle.schedule.specs.declared.progress.Progress.{Progress}
pub use Rattle.schedule.specs.declared.whole_run.Ended.{Ended}
pub use Rattle.schedule.specs.declared.whole_run.Ended.TheVariants.{Limit, NoMemory, Whole}
pub use Rattle.schedule.specs.declared.whole_run.Ran.{Ran}
