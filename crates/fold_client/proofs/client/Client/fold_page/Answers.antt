use Rattle.std.proofs.Common.{◌≡◌, List, Option, subst, IsSomeAnd}
use Rattle.shape_base.specs.declared.entry.Entry.{Entry}
use Rattle.shape_base.specs.Log.{first_fault}
use Rattle.fold_client.specs.declared.rows.Fault.{Fault}
use Rattle.fold_client.specs.Rows.{IsFolded}
use Rattle.fold_client.specs.Taking.{held_by}
use Rattle.fold_client.proofs.Taking.{page_fault}
use Rattle.fold_client.proofs.client.Client.fold_page.Goals as goal

pub returns-in-Ok-Some-clause-meets : goal.returns-in-Ok-Some-clause-meets
returns-in-Ok-Some-clause-meets c =
    let f = c.in-Ok-Some.fault in
    let bad = subst (λ (o : Option Fault). IsFolded c.into_vec.result.items c.args.self.now.rows c.fold.new.self o) c.in-Ok-Some.field-0-is c.in-Ok-Some.ensures in
    let fault = subst (λ (es : List Entry). IsSomeAnd (first_fault es c.args.self.now.rows) (λ e. (e.offset ≡ f.offset) × (e.key ≡ f.key))) c.into_vec.ensures bad.1 in
    page_fault (held_by c.args.self.now) c.args.handle.now c.args.end c.args.cursor c.args.body f.offset f.key c.fold.new.self bad.0 fault
