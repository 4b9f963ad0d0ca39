-- What other crates cite of this crate's proofs. Declares nothing.
pub use Rattle.shape_base.proofs.Tests.{Decides-same_text, Decides-same_value, Decides-same_row, Decides-same_column, Decides-same_def, Decides-same_cell}
pub use Rattle.shape_base.proofs.MapLaws.{text_cmp, exact, tied, same_from_tied, tied_self, insert_twice, remove_inserted}
pub use Rattle.shape_base.proofs.Maps.{Texts, get_in, insert_in, remove_in, entries_in}
pub use Rattle.shape_base.proofs.KeyText.{IsApart, quoted_split, values_tell}
pub use Rattle.shape_base.proofs.Utf8Key.{IsUtf8-quoted}
pub use Rattle.shape_base.proofs.Commits.{fold_from-append}
pub use Rattle.shape_base.proofs.Offsets.{before_trans, not_before_itself, before_least, not_before_less, rises_front, rises_back, last_least, last_offset-append, upto_none, upto_last, rises_from, upto_more, upto_past, rises_past, rises-append, rises_more, upto_front, upto_start}
pub use Rattle.shape_base.proofs.Rising.{lsn_of, before_lsn, lsn_before, before_pos, whole_rises, offsets_rise, commits_rise, unseen_rise, over_rises}
pub use Rattle.shape_base.proofs.Growing.{log_front, log_grows, point_rises}
pub use Rattle.shape_base.proofs.Meanings.{changes_alike, past_alike, unseen_alike, drop_alike, take_alike, length_alike, same_meaning}
pub use Rattle.shape_base.proofs.LogLaw.{log_fold}
pub use Rattle.shape_base.proofs.EndLaw.{same_end}
pub use Rattle.shape_base.proofs.SameLog.{same_log}
pub use Rattle.shape_base.proofs.ChunkLaws.{full_is, chunks_cut, chunks_stay}
pub use Rattle.shape_base.proofs.RegistryLaws.{was_registered-append, was_registered_under-append, was_removed-append, had_ready-append, legal_next, legal_front, legal_follows}
pub use Rattle.shape_base.proofs.KeyText.{all_key_texts_tell, key_texts_tell}
pub use Rattle.shape_base.proofs.Commits.{keyed_from, fold-emit, truths_changed}
pub use Rattle.shape_base.proofs.Shown.{map_of}
