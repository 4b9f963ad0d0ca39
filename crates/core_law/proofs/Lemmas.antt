-- What other crates cite of the proofs here.
pub use Rattle.core_law.proofs.Lists.{place_stays, one_more, last_place}
pub use Rattle.core_law.proofs.Worlds.{found_ready}
pub use Rattle.core_law.proofs.Readers.{catalog_length}
pub use Rattle.core_law.proofs.Runs.{after_both, after_one_more, reached_next}
pub use Rattle.core_law.proofs.Settled.{answered_at_once}
pub use Rattle.core_law.proofs.Staying.{replies_stay}
pub use Rattle.core_law.proofs.Rising.{exchanges_rise}
pub use Rattle.core_law.proofs.Dropping.{drops_exactly}
pub use Rattle.core_law.proofs.Waiting.{waits_for_one, others_wait}
pub use Rattle.core_law.proofs.Reaching.{roles_are_given}
pub use Rattle.core_law.proofs.Texts.{replies_have_texts}
pub use Rattle.core_law.proofs.Saying.{replies_say}
