-- What other crates cite of the proofs here.
pub use Rattle.http_edge.proofs.Logs.{whole_rises_at, front_at, grows_at, point_rises_at, folds_at, ready_later, under_later}
pub use Rattle.http_edge.proofs.Pages.{upto_page}
pub use Rattle.http_edge.proofs.Fairness.{lawful_is_fair}
pub use Rattle.http_edge.proofs.TellLaws.{some_same, handle_same, offset_same, start_apart}
pub use Rattle.http_edge.proofs.HeadTells.{more_behind, none_behind, none_without, none_ever}
