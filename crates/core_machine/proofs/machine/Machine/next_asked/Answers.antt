use Rattle.std.proofs.Common.{◌≡◌, ◌∙◌, ◌<◌, length, List, sym, ap, subst, Option, None, Some}
use Rattle.std.specs.Prelude.{slice_get}
use Rattle.std.specs.Option.{option_map}
use Rattle.shape_base.specs.declared.ask.Ask.{Ask}
use Rattle.http_edge.specs.Lawful.{AsksFor, Refuses}
use Rattle.core_law.specs.Situation.{Customer, held_of}
use Rattle.core_clients.specs.Placing.{placed_ask}
use Rattle.core_exchanges.specs.declared.exchange.Asked.TheVariants as asks
use Rattle.core_machine.specs.declared.first.First.{First}
use Rattle.core_machine.specs.declared.first.First.TheVariants as firsts
use Rattle.core_machine.specs.Firsts.{code_of}
use Rattle.core_machine.specs.Customers.{IsNextAsked}
use Rattle.core_machine.proofs.Receiving.{first_there, nobody_there, asks_next, refuses_next, served_there, some_there}
use Rattle.core_machine.proofs.machine.Machine.next_asked.Goals as goal

pub returns-in-Some : goal.returns-in-Some
returns-in-Some c o s h =
    let m = c.args.self.now in
    let n = c.args.client in
    let first = firsts.AsksFor c.in-Some-AsksFor.ask in
    let at : slice_get m.asks.items n ≡ Some first = ap (λ (xs : List First). slice_get xs n) (sym c.as_slice.ensures.value) ∙ sym c.in-Some-AsksFor.ensures ∙ ap (λ (x : First). Some x) c.in-Some-AsksFor.field-0-is in
    first_there o s m n first h at (λ cust there asked.
    let e : c.in-Some.ask ≡ placed_ask (held_of cust) c.in-Some-AsksFor.ask = some_there (sym c.in-Some.is ∙ c.in_ok-ask-in-Some-AsksFor.ensures s.customers h.clients ∙ ap (option_map (λ (x : Customer). placed_ask (held_of x) c.in-Some-AsksFor.ask)) there) in
    subst (λ (a : Option Customer). IsNextAsked m (Some (asks.AsksFor c.in-Some.ask)) a) (sym there)
    (ap (λ (a : Ask). AsksFor a) e ∙ asks_next cust c.in-Some-AsksFor.ask asked, subst (λ (a : Ask). a.table < length m.server.tables) (sym e) (served_there o s m n first h at)))

pub returns-in-Some-Refused : goal.returns-in-Some-Refused
returns-in-Some-Refused c o s h =
    let m = c.args.self.now in
    let n = c.args.client in
    let first = firsts.Refused c.in-Some-Refused.refusal in
    let at : slice_get m.asks.items n ≡ Some first = ap (λ (xs : List First). slice_get xs n) (sym c.as_slice.ensures.value) ∙ sym c.in-Some-Refused.ensures ∙ ap (λ (x : First). Some x) c.in-Some-Refused.field-0-is in
    first_there o s m n first h at (λ cust there asked.
    subst (λ (a : Option Customer). IsNextAsked m (Some (asks.Refused c.code_of.result)) a) (sym there)
    (ap (λ code. Refuses code) c.code_of.ensures ∙ refuses_next cust (code_of c.in-Some-Refused.refusal) asked, tt))

pub returns-in-None : goal.returns-in-None
returns-in-None c o s h =
    let m = c.args.self.now in
    let n = c.args.client in
    subst (λ (a : Option Customer). IsNextAsked m None a) (sym (nobody_there o s m n h (ap (λ (xs : List First). slice_get xs n) (sym c.as_slice.ensures.value) ∙ sym c.in-None.ensures))) tt
