use Rattle.shape_json.proofs.Pages.{page_is_front}
use Rattle.shape_json.proofs.laws.page_is_front.Goals as goal

pub returns : goal.returns
returns c = page_is_front
