-- What other crates cite of the proofs here.
pub use Rattle.shape_json.proofs.Answers.{pages_are_asked, gone_names_ready}
pub use Rattle.shape_json.proofs.Once.{body_once}
pub use Rattle.shape_json.proofs.Pages.{page_stays, page_is_front}
pub use Rattle.shape_json.proofs.PlainLogs.{plain_front, plain_back, log_is_plain, taken_is_plain}
