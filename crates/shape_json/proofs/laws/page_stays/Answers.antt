use Rattle.shape_json.proofs.Pages.{page_stays}
use Rattle.shape_json.proofs.laws.page_stays.Goals as goal

pub returns : goal.returns
returns c = page_stays
