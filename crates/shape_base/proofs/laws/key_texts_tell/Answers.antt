use Rattle.shape_base.proofs.KeyText.{all_key_texts_tell}
use Rattle.shape_base.proofs.laws.key_texts_tell.Goals as goal

pub returns : goal.returns
returns c = all_key_texts_tell
