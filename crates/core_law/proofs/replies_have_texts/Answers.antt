use Rattle.core_law.proofs.Texts.{replies_have_texts}
use Rattle.core_law.proofs.replies_have_texts.Goals as goal

pub returns : goal.returns
returns c = replies_have_texts
