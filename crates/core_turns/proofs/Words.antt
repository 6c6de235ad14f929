-- The words that the proofs of this crate use, each from where it stands.
pub use Rattle.sha2.specs.Sha256.{sha256}
pub use Rattle.std.proofs.Common.{Bool, Err, List, None, Ok, Option, Result, Some, [], ap, append-nil, arith, false}
pub use Rattle.std.proofs.Common.{inl, inr, length, refl, rules, subst, sym, true, ℕ, ⊎_elim, ◌*◌, ◌++◌, ◌+◌, ◌-◌, ◌/◌}
pub use Rattle.std.proofs.Common.{◌<◌, ◌^◌, ◌∙◌, ◌∷◌, ◌≡◌, ◌≢◌, ◌≤◌, ◌⊎◌}
pub use Rattle.std.proofs.Math.Nat.{mul-le-mul_left, pow-le-pow_right}
pub use Rattle.std.proofs.lemmas.Bool.{cases_lt, true≢false}
pub use Rattle.std.proofs.lemmas.Bool.Decides.{nat_tests}
pub use Rattle.std.proofs.lemmas.Grind.{common_steps}
pub use Rattle.std.proofs.lemmas.List.Elements.{All-cons, All-nil, filter_map-append}
pub use Rattle.std.proofs.lemmas.List.Sums.{sum_by-append, sum_by-cons}
pub use Rattle.std.proofs.lemmas.Option.{slice_get-get_or, slice_get_within}
pub use Rattle.std.specs.Prelude.{Contains, OnErr, OnOk, cond, count_by, if◌then◌else◌, nat_le, slice_get}
pub use Rattle.std.specs.Prelude.{slice_index_or, sum_by, ◌==◌}
pub use Rattle.bank_trait.proofs.Moments.{later_refl}
pub use Rattle.bank_trait.proofs.Touches.{synced_touches, tells_later, touches_none, touches_widen, wrote_touches}
pub use Rattle.bank_trait.specs.Disk.{Continues, Disk, Later, Lawful, Unchanged}
pub use Rattle.bank_trait.specs.Regions.{Tells, TouchesOnly}
pub use Rattle.row_layout.proofs.Counts.{rows_few}
pub use Rattle.row_layout.proofs.Laws.{inside}
pub use Rattle.row_layout.specs.Layout.{IsColumn, IsLayout, Layout, allocated_of, columns_in, end_of, rows_of}
pub use Rattle.row_layout.specs.Layout.{sector_of, total_of}
pub use Rattle.row_layout.specs.Standing.{IsWithinLimits}
pub use Rattle.reflow_mark.specs.Reflow.{IsRightReflow, sectors_of}
pub use Rattle.reflow_mark.specs.Standing.{NeedsOld, stand_of}
pub use Rattle.reflow_mark.specs.declared.reflow.Reflow.{Reflow}
pub use Rattle.reflow_mark.specs.declared.reflow.State.{State}
pub use Rattle.reflow_mark.specs.declared.reflow.State.TheVariants.{Moved, Valid}
pub use Rattle.reflow_mark.specs.declared.stand.Stand.{Stand}
pub use Rattle.range_locks.specs.Holds.{EndsHold, HasSectors, IsClear, Overlaps}
pub use Rattle.range_locks.specs.Order.{exclusive_count, is_exclusive}
pub use Rattle.range_locks.specs.declared.hold.Hold.{Hold}
pub use Rattle.range_locks.specs.declared.hold.HoldKind.TheVariants.{Exclusive, Shared}
pub use Rattle.block_record.specs.Bytes.{IsDigest}
pub use Rattle.block_record.specs.Page.{IsIndex, index_page}
pub use Rattle.block_record.specs.declared.entry.IndexEntry.{IndexEntry}
pub use Rattle.shadow_write.proofs.Whole.{are_required}
pub use Rattle.shadow_write.specs.Required.{IsRequiredPlace, NeedsScratch, front_after_stop}
pub use Rattle.shadow_write.specs.Writes.{writes_of}
pub use Rattle.shadow_write.specs.declared.write.Write.{Write}
pub use Rattle.shadow_write.proofs.Within.{scratch_within, stop_asks_no_more}
pub use Rattle.shadow_write.specs.Band.{IsFrontOf, copied_of}
pub use Rattle.reflow_copier.specs.Jobs.{job_begin, job_end}
pub use Rattle.reflow_copier.specs.declared.job.Job.{Job}
pub use Rattle.reflow_copier.specs.declared.job.Job.TheVariants.{Fill}
pub use Rattle.space_alloc.specs.Space.{Gains, IsDropping}
pub use Rattle.block_table.proofs.Tables.{few_entries}
pub use Rattle.block_table.specs.Table.{ChangesOnly, IsTable, entry_of, without_one}
pub use Rattle.uberblock_ring.proofs.DeviceSets.{count_none, none_above, none_in}
pub use Rattle.uberblock_ring.proofs.Digest.{sha256_is_digest}
pub use Rattle.uberblock_ring.specs.Devices.{IsWithin, count_of, has_device}
pub use Rattle.uberblock_ring.specs.Uberblock.{Uber, max_group}
pub use Rattle.uberblock_ring.specs.Valid.{AreAlike, IsRightUber}
pub use Rattle.commit_job.specs.Stages.{plan_of}
pub use Rattle.attach_ring.proofs.Rings.{read_beside}
pub use Rattle.attach_ring.specs.Ring.{HasReadRing, RingRead}
pub use Rattle.reconstruct.specs.Columns.{column_bytes}
pub use Rattle.reconstruct.specs.Lost.{AreBytes, IsLeftOver}
pub use Rattle.reconstruct.specs.Rows.{Rows, column_at}
pub use Rattle.core_state.proofs.Keeping.{among_blocks}
pub use Rattle.core_state.proofs.Frames.{Nowhere, none_lost, unchanged_frames}
pub use Rattle.core_state.proofs.Knowing.{knows_frame}
pub use Rattle.core_state.proofs.Listed.{contains_cases, contains_head, contains_none, contains_tail}
pub use Rattle.core_state.proofs.Places.{IsDataSector, data_is_no_page, page_place}
pub use Rattle.core_state.proofs.Since.{row_at, since_more}
pub use Rattle.core_state.proofs.Touched.{touched_knows, touched_since}
pub use Rattle.core_state.specs.Certain.{Asks, IsSound, Knows}
pub use Rattle.core_state.specs.Committing.{Point, point_of}
pub use Rattle.core_state.specs.Free.{IsSpare}
pub use Rattle.core_state.specs.Index.{layout_of}
pub use Rattle.core_state.specs.JobTurns.{MayRun}
pub use Rattle.core_state.specs.Keeps.{Kept, Setting, blocks_of}
pub use Rattle.core_state.specs.Map.{Map, with_block}
pub use Rattle.core_state.specs.Moment.{IsRowOf, KeepsSince}
pub use Rattle.core_state.specs.Whole.{Cell, Excepted, IsAmong, IsCell, RightAt}
pub use Rattle.core_state.specs.declared.answer.Answer.{Answer}
pub use Rattle.core_state.specs.declared.answer.Kind.{Kind}
pub use Rattle.mark_choice.proofs.Clear.{choice_clear, next_mark_between}
pub use Rattle.mark_choice.proofs.Recording.{chooses}
pub use Rattle.mark_choice.proofs.Still.{choice_still}
pub use Rattle.mark_choice.specs.Clear.{HasNoShared}
pub use Rattle.mark_choice.specs.CommitChoice.{Chooses, IsChoiceIn, IsCommitChoice, IsWiderByOne, MayRecord, Widens}
pub use Rattle.mark_choice.specs.CommitChoice.{range_of_commit}
pub use Rattle.core_state.proofs.Joining.{reach_less}
pub use Rattle.core_copy.specs.Around.{IsCellIn, IsClose, StandAround}
pub use Rattle.core_copy.proofs.Advance.{around_alone, around_begins}
pub use Rattle.core_copy.proofs.Apart.{held_outside}
pub use Rattle.core_copy.proofs.Follows.{choice_widths, follows}
pub use Rattle.mark_choice.specs.CommitChoice.{KeepsOrEnds}
pub use Rattle.core_copy.specs.Behind.{FollowsOn, IsOutside, RowsStand, front_behind}
pub use Rattle.core_copy.proofs.Beside.{choice_moves, front_stays_behind, same_targets}
pub use Rattle.core_copy.proofs.Close.{cell_below, cell_close, sound_close}
pub use Rattle.core_copy.proofs.Due.{due_may_run}
pub use Rattle.core_copy.proofs.Fronts.{commit_clear, job_at_front, job_front, job_some, job_spare, range_below}
pub use Rattle.core_copy.proofs.Inside.{target_inside}
pub use Rattle.core_copy.proofs.Places.{rows_same, target_free}
pub use Rattle.core_copy.specs.Progress.{CopiesSector, IsOnPool, IsPlaceSoFar, IsTarget, MovesMark, call_count}
pub use Rattle.core_commit.proofs.Beside.{committing_cut, committing_knows, committing_touched, committing_unchanged}
pub use Rattle.core_commit.proofs.CommitTurns.{committing_begins, committing_done, committing_steps}
pub use Rattle.core_commit.proofs.Halves.{goes_on, sound_paged}
pub use Rattle.core_commit.proofs.Stepping.{ready_keeps, steps_same, steps_went}
pub use Rattle.core_commit.proofs.Touching.{touched_more, touched_none}
pub use Rattle.core_commit.proofs.Widening.{commit_widened, widened_right}
pub use Rattle.core_commit.specs.CommitTurns.{CommitRun, CommitSteps, HasEnded, IsBeside, IsCommitting, IsLaidDown}
pub use Rattle.core_commit.specs.CommitTurns.{shown_at, shown_by}
pub use Rattle.core_commit.specs.Ran.{FitsBank}
pub use Rattle.core_commit.specs.Spared.{IsOnInUse, SparesData}
pub use Rattle.core_commit.specs.Widening.{IsWidenable, MayWiden, widened_kept, widened_run, widened_uber}
pub use Rattle.core_commit.specs.declared.commit_run.CommitStep.{CommitStep}
pub use Rattle.core_commit.specs.declared.commit_run.CommitStep.TheVariants.{Called, Ended}
pub use Rattle.core_commit.specs.declared.commit_run.Stage.{Stage}
pub use Rattle.core_commit.specs.declared.commit_run.Stage.TheVariants.{Lays}
pub use Rattle.core_commit.proofs.Guests.{guest_beside, touched_leaves}
pub use Rattle.core_commit.proofs.Joins.{joining_goes_on}
pub use Rattle.core_commit.proofs.Spares.{free_is_blank, join_gone, join_spares}
pub use Rattle.core_commit.specs.JoinRun.{JoinRun}
pub use Rattle.core_commit.specs.JoinTurns.{JoinSteps}
pub use Rattle.core_commit.specs.Joining.{GuestSoFar, IsJoining}
pub use Rattle.core_commit.specs.declared.guest.Guest.TheVariants.{Laid}
pub use Rattle.core_commit.specs.declared.join_run.JoinStep.{JoinStep}
pub use Rattle.core_commit.specs.declared.join_run.WhyDropped.{WhyDropped}
pub use Rattle.core_blocks.proofs.Keeping.{blocks_kept}
pub use Rattle.core_blocks.proofs.Listed.{among_listed, found_id, found_listed, put_cases}
pub use Rattle.core_blocks.proofs.Lists.{first_listed, gains_cases, gains_item, gains_old, listed_cases, pairs_beside}
pub use Rattle.core_blocks.proofs.Lists.{pairs_gain, pairs_lose, rest_listed}
pub use Rattle.core_blocks.proofs.Runs.{clear_turned, free_of_taken}
pub use Rattle.core_blocks.proofs.Usage.{adds_held_back, adds_none, adds_taken_back}
pub use Rattle.core_blocks.specs.Blocks.{AreInStep, AreUnderWay, Blocks, IsListed, IsUnderWay, layout_run, put_run}
pub use Rattle.core_blocks.specs.Blocks.{range_of}
pub use Rattle.core_blocks.specs.Kept.{NoneFree, SparesAll}
pub use Rattle.core_blocks.specs.Puts.{BeginsPut, HoldsBack, IsAsBefore, IsPutCause, IsRangeFor, sectors_taken}
pub use Rattle.core_blocks.specs.Runs.{AreClear}
pub use Rattle.core_blocks.specs.declared.range.PutRange.{PutRange}
pub use Rattle.core_blocks.specs.declared.refused.PutRefused.{PutRefused}
pub use Rattle.core_client.proofs.Below.{below_by_write}
pub use Rattle.core_client.proofs.Decoded.{damaged_alike, decoded_alike, left_decoded, left_undamaged}
pub use Rattle.core_client.proofs.BlockTurns.{listed_at, read_begun, read_left_over, read_lost_few, read_more}
pub use Rattle.core_client.proofs.BlockTurns.{read_stays, read_with_more, written_all, written_more, written_none}
pub use Rattle.core_client.proofs.BlockTurns.{written_stays}
pub use Rattle.core_state.proofs.SpotReads.{outs_by_step}
pub use Rattle.core_state.proofs.Outs.{outs_called, outs_none}
pub use Rattle.core_client.proofs.Places.{close_to_end, in_pool, one_sector, widths_of}
pub use Rattle.core_client.proofs.Stored.{plan_below, plan_inside}
pub use Rattle.core_client.specs.BlockTurns.{BlockRead, BlockWrite, IsAtColumn, IsColumnOf, IsReadBegun}
pub use Rattle.core_client.specs.Got.{HasLostFew}
pub use Rattle.core_state.specs.Outs.{OnlyFailedGoOut}
pub use Rattle.core_state.specs.PoolBank.{HasPool}
pub use Rattle.core_client.specs.Pool.{IsInPool, IsRightBlock}
pub use Rattle.core_client.specs.Reading.{spot_in, spot_of}
pub use Rattle.core_client.specs.Writing.{IsMade, IsOnBank, IsPassedOrMade, IsPlaceOf, IsPlanOf}
pub use Rattle.core_state.specs.declared.spot.Spot.{Spot}
pub use Rattle.core_copy.proofs.Choosing.{run_leaves_choice}
pub use Rattle.core_copy.proofs.Holding.{begun_goes_on, present_in, right_begins, run_begins, run_beside, run_ends}
pub use Rattle.core_copy.proofs.Holding.{run_stays, run_steps, step_goes_on, target_at}
pub use Rattle.core_copy.proofs.Moving.{moved_goes_on, moved_holds}
pub use Rattle.core_copy.specs.Closed.{IsClosed}
pub use Rattle.core_copy.specs.Holding.{GoesOnIn, HoldsJob}
pub use Rattle.core_copy.specs.JobRun.{HoldsRead, JobRun, JobSteps, begun_run, present_sector, target_spot}
pub use Rattle.core_open.proofs.Others.{read_touches}
pub use Rattle.width_map.proofs.Growing.{none_above_more}
pub use Rattle.core_open.proofs.Unchanged.{unchanged_none}
pub use Rattle.core_open.proofs.Unhindered.{none_empty}
pub use Rattle.core_open.proofs.Answered.{answered_block, answered_in_pool, answered_kept, answered_layout}
pub use Rattle.core_open.proofs.Answered.{answered_map, answered_pool, answered_range, answered_spares, answered_step}
pub use Rattle.core_open.proofs.Answered.{answered_under, may_grow_now}
pub use Rattle.core_open.proofs.Banks.{bank_later, count_grows}
pub use Rattle.core_open.proofs.Committing.{may_commit}
pub use Rattle.core_open.proofs.Frees.{freed_holds, none_freed_holds}
pub use Rattle.core_blocks.specs.Growing.{MayGrow}
pub use Rattle.core_open.proofs.Holding.{block_stays, listed_in_pool, put_holds}
pub use Rattle.core_open.proofs.Layouts.{blocks_apart, entry_in_pool, sector_inside}
pub use Rattle.core_open.proofs.NextGroup.{IsReady, ready}
pub use Rattle.core_open.proofs.PutRanges.{entry_layout, entry_range, range_in_pool, tells_at}
pub use Rattle.core_open.specs.Answered.{answered_by, blocks_behind}
pub use Rattle.core_commit.specs.NextUber.{next_uber}
pub use Rattle.core_open.specs.NextGroup.{uber_for}
pub use Rattle.core_open.specs.Pool.{HasBank, HoldsMap, IsPool, Pool, ReadsAs, pool_of, state_of}
pub use Rattle.core_turns.specs.Attaching.{AttachGoesOn, BeginsJoining, EndsAttach, GoOutAndReach, HasNewDevice}
pub use Rattle.core_turns.specs.Attaching.{HoldsAttach, IsAttachCommit, IsAttachRunOf, MayReachOn, OnlyGoOut}
pub use Rattle.core_turns.specs.Attaching.{StepsAttach, StepsJoin, StopsAttach}
pub use Rattle.core_turns.specs.Committing.{AnswersGroup, BeginsCommit, BeginsCommitSo, DropsHold, IsCommitOf}
pub use Rattle.core_turns.specs.Committing.{IsHeldAlone, StepsCommit, TakesHold, commit_of, hold_for}
pub use Rattle.core_turns.specs.Copying.{BeginsJobSo, CopiesCells, DropsJob, EndsJob, IsDue, IsJobOf, StepsJob}
pub use Rattle.core_turns.specs.Copying.{hold_for_job}
pub use Rattle.core_turns.specs.Core.{Core, CoreState, HasBankOf, IsCore, alone_below, as_begun, at_disk}
pub use Rattle.core_turns.specs.Core.{is_alone_below, jobs_begun, pool_at, reaching}
pub use Rattle.core_turns.specs.Freeing.{FreesBlock, map_after_free}
pub use Rattle.core_turns.specs.Getting.{AnswersSolved, BeginsGet, EndsGet, FindsGet, HasSameRow, HasTooManyOut}
pub use Rattle.core_turns.specs.Getting.{HoldsGet, IsGetOf, IsMoreOf, IsReadKind, IsReadRight, IsSolved, IsSolvedAs}
pub use Rattle.core_turns.specs.Getting.{KeepsGet, ReadsTurn, SolvesGet, TellsGet, answer_of, hold_of, to_solve_of}
pub use Rattle.core_turns.specs.Getting.{question_for, pool_widths}
pub use Rattle.core_turns.specs.Putting.{AsksAlike, BeginsPutSo, BeginsPutTurn, FillsPut, GivesUp, HoldsPut}
pub use Rattle.core_turns.specs.Putting.{IsFilledWith, IsMorePut, IsPutOf, LeavesBlocks, StoresBlock, WritesNext}
pub use Rattle.core_turns.specs.Putting.{WritesOne, ChecksNext, WritesTurn, filled_entry, hold_on, looked_at, mend_at}
pub use Rattle.core_turns.specs.Putting.{refused_turn, written_once}
pub use Rattle.core_turns.specs.Scrubbing.{BeginsBlock, DropsBlock, FindsBlock, HoldsScrub, IsGoneOver, IsMoreScrub}
pub use Rattle.core_turns.specs.Scrubbing.{IsScrubOf, LeavesBlock, LooksOne, LooksTurn, MayMend, MendsOne, MendsTurn}
pub use Rattle.core_turns.specs.Scrubbing.{ReadsBlock, has_sector, mended_of}
pub use Rattle.core_turns.specs.declared.block_scrub.BlockScrub.{BlockScrub}
pub use Rattle.core_turns.specs.Rounds.{BeginsRound, IsRoundOf, StepsCopy}
pub use Rattle.core_turns.specs.Steps.{turn_with}
pub use Rattle.core_turns.specs.Damage.{Damage, IsDamage, ListsDamage, undamaged}
pub use Rattle.core_turns.specs.UnderWay.{AreBeside, AreCallsOf, AreReadOfMap, CommitStands, Copying, GroupsStand}
pub use Rattle.core_turns.specs.UnderWay.{HaveNoneInCommon, HoldingCall, HoldsCall, IsCallOfCore, IsReadBy, IsReader}
pub use Rattle.core_turns.specs.UnderWay.{Scrubbing, LiesInPool, NoCommitStands, PutsSpare, entry_read, Putting}
pub use Rattle.core_turns.specs.UnderWay.{Reading, SetsContent, ShareNoSector, Stands, TurnGoesOn, actor_of}
pub use Rattle.core_turns.specs.UnderWay.{hold_of_call, ranges_of, shown_in, shown_of}
pub use Rattle.core_turns.specs.declared.attaching.AttachRun.{AttachRun}
pub use Rattle.core_turns.specs.declared.attaching.FreeDevice.{FreeDevice}
pub use Rattle.core_turns.specs.declared.attaching.AttachRun.TheVariants.{Checked, Joins, Reads, Signs}
pub use Rattle.core_turns.specs.declared.copying.CopyRun.{CopyRun}
pub use Rattle.core_turns.specs.declared.filling.Filled.{Filled}
pub use Rattle.core_turns.specs.declared.getting.GetRun.{GetRun}
pub use Rattle.core_turns.specs.declared.getting.OutOfMemory.{OutOfMemory}
pub use Rattle.core_turns.specs.declared.putting.PutRun.{PutRun}
pub use Rattle.core_turns.specs.declared.rounds.CopyRound.{CopyRound}
pub use Rattle.core_turns.specs.declared.rounds.CopyRound.TheVariants.{Commits, Copies, Rests}
pub use Rattle.core_turns.specs.declared.solving.Solved.{Solved}
pub use Rattle.core_turns.specs.declared.solving.Solved.TheVariants.{Bytes, Damaged, NotYet}
pub use Rattle.core_turns.specs.declared.turn.Turn.{Turn}
pub use Rattle.core_turns.specs.declared.turn.Turn.TheVariants.{Busy, Done, More}
