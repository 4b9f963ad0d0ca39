use Rattle.std.proofs.Common.{refl, sym, subst}
use Rattle.std.specs.List.{AllByRecursion}
use Rattle.core_server.specs.Standing.{Stands, IsNew}
use Rattle.core_server.specs.Committing.{IsTakenUp}
use Rattle.core_server.proofs.Reaching.{goes_on, away, removed_is, quiet_is, loud_is, definition_new}
use Rattle.core_server.proofs.server.Server.reach.Goals as goal

pub redefine_by-requires-clause-situated : goal.redefine_by-requires-clause-situated
redefine_by-requires-clause-situated c = let d = c.requires.due in let s = c.args.self.now in let t = c.take_up.new.self in
    let u = subst (λ a. IsTakenUp d.options d.situation c.args.tx.now c.args.number s t a) c.in-Some.is ((c.in_ok-effect.ensures).taken d.options d.situation d.stands d.later) in record {
      options = d.options;
      situation = _;
      stands = away d.options d.situation c.args.tx.now c.args.number s t c.in-Some.effect d.stands u _ c.in-Some-cause.cause c.in-Some-cause.is refl refl refl
          (λ start es h live. c.remove_from.ensures.removed start es h live) c.remove_from.ensures.catalog c.remove_from.ensures.kept refl;
    }

pub redefine_by-requires-clause-new : goal.redefine_by-requires-clause-new
redefine_by-requires-clause-new c = let d = c.requires.due in let s = c.args.self.now in let t = c.take_up.new.self in
    let u = subst (λ a. IsTakenUp d.options d.situation c.args.tx.now c.args.number s t a) c.in-Some.is ((c.in_ok-effect.ensures).taken d.options d.situation d.stands d.later) in
    definition_new (IsNew t.tables) d.options d.situation c.args.tx.now c.args.number s t c.in-Some.effect u (subst (λ tables. AllByRecursion (IsNew tables) c.args.tx.now.defs) (sym (c.in_ok-effect.ensures).tables) c.requires.new)

pub returns-in-None-clause-reached : goal.returns-in-None-clause-reached
returns-in-None-clause-reached c = λ o v h new. let s = c.args.self.now in let t = c.take_up.new.self in
    let u = subst (λ a. IsTakenUp o v c.args.tx.now c.args.number s t a) c.in-Some.is ((c.in_ok-effect.ensures).taken o v h new) in
    goes_on o v c.args.tx.now c.args.number s t c.in-Some.effect h u new.noted c.in-None.is

pub returns-in-None-clause-told : goal.returns-in-None-clause-told
returns-in-None-clause-told c = λ o v h new quiet. let s = c.args.self.now in let t = c.take_up.new.self in
    let u = subst (λ a. IsTakenUp o v c.args.tx.now c.args.number s t a) c.in-Some.is ((c.in_ok-effect.ensures).taken o v h new) in
    quiet_is o v c.args.tx.now c.args.number s t c.in-Some.effect h u quiet

pub returns-in-None-clause-only : goal.returns-in-None-clause-only
returns-in-None-clause-only c = λ o v h new loud same. let s = c.args.self.now in let t = c.take_up.new.self in
    let u = subst (λ a. IsTakenUp o v c.args.tx.now c.args.number s t a) c.in-Some.is ((c.in_ok-effect.ensures).taken o v h new) in
    loud_is o v c.args.tx.now c.args.number s t c.in-Some.effect h u loud same

pub returns-in-Some-cause-clause-only : goal.returns-in-Some-cause-clause-only
returns-in-Some-cause-clause-only c = λ o v h new loud same. let s = c.args.self.now in let t = c.take_up.new.self in
    let u = subst (λ a. IsTakenUp o v c.args.tx.now c.args.number s t a) c.in-Some.is ((c.in_ok-effect.ensures).taken o v h new) in
    loud_is o v c.args.tx.now c.args.number s t c.in-Some.effect h u loud same

pub returns-in-Some-cause-clause-reached : goal.returns-in-Some-cause-clause-reached
returns-in-Some-cause-clause-reached c = λ o v h new. let s = c.args.self.now in let t = c.take_up.new.self in
    let u = subst (λ a. IsTakenUp o v c.args.tx.now c.args.number s t a) c.in-Some.is ((c.in_ok-effect.ensures).taken o v h new) in
    subst (λ w. Stands o w c.redefine_by.new.self) (sym (removed_is o v c.args.tx.now c.args.number s t c.in-Some.effect h u c.in-Some-cause.cause c.in-Some-cause.is))
    (c.redefine_by.ensures.stands o _ (away o v c.args.tx.now c.args.number s t c.in-Some.effect h u _ c.in-Some-cause.cause c.in-Some-cause.is refl refl refl
    (λ start es h live. c.remove_from.ensures.removed start es h live) c.remove_from.ensures.catalog c.remove_from.ensures.kept refl))
