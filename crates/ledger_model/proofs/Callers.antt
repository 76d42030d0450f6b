-- The lemmas on contents, entries and events that callers cite.
pub use Rattle.ledger_model.proofs.Ids.{IsFoldedId-folded}
pub use Rattle.ledger_model.proofs.Keys.{key_total, exact_keys}
pub use Rattle.ledger_model.proofs.Rising.{first, second, less, turned, below_at, below_less, find_below, live_rising}
pub use Rattle.ledger_model.proofs.Events.{same_event-Decides}
pub use Rattle.ledger_model.proofs.ListedRuns.{entries_after_is}
pub use Rattle.ledger_model.proofs.LedgerLemmas.{found_live, found_voided}
pub use Rattle.ledger_model.proofs.Deliveries.{Room, room}
pub use Rattle.ledger_model.proofs.ReachedContents.{IsCounted, is_counted}
pub use Rattle.ledger_model.proofs.SumLemmas.{among_back, among_front, sum_by-map, sum_by-flat_map, sum_by-filter_cons, key_or_none, put_in-same, put_in-below, put_in-above, rising-AreRising, rising-IsIn}
pub use Rattle.ledger_model.proofs.Bounds.{IsEntry, AreEntries, AreKept, AreKept-reached}
pub use Rattle.ledger_model.proofs.FigureBounds.{few_toward, figures_within, length-in_order, live_and_voided}
pub use Rattle.ledger_model.proofs.GapLemmas.{gaps-AreGaps}
pub use Rattle.ledger_model.proofs.NumberLemmas.{rising_from_sorted}
pub use Rattle.ledger_model.proofs.Splices.{followed_cut, followed_sums, few_across, few_between}
pub use Rattle.ledger_model.proofs.OneMoreByCommand.{delivered_more, restored_more, voided_less, erased_same}
pub use Rattle.ledger_model.proofs.OneMore.{passed_sum, live_with, live_without, live_else, pairs_with, pairs_without, pairs_else, pairs_less_kept, pairs_more_kept, less_kept, more_kept, few_moved, transaction_moved, station_moved, transaction_sums, by_transaction_sums, station_sums, evse_else, evse_counts}
pub use Rattle.ledger_model.proofs.OneMoreFigures.{events_more, transactions_more, complete_more, missing_more, energy_at_more, voided_delivered, voided_restored, voided_voided, voided_erased}
pub use Rattle.ledger_model.proofs.KeysByNumber.{own_before_key, own_behind_key}
pub use Rattle.ledger_model.proofs.InTimeLemmas.{AreFrom, AreUpTo, later_from, put-behind, put-first, put-front, put-passed, put-sum, put_rises, rest_from, cons_rises, tail_rises, in_time-passed, in_time-rises, in_time-map, in_time-sum}
pub use Rattle.ledger_model.proofs.OrderLemmas.{others_stay, own_numbered, less_numbered, numbered_readings, order-nil, station_moves, transaction_moves}
pub use Rattle.ledger_model.proofs.RunLemmas.{AreForeign, AreOwn, foreign_passed, no_runs, own_passed, runs_foreign, runs_own}
