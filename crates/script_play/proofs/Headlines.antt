-- Each play of a script is right.
use Rattle.std.proofs.Common.{◌≡◌, ℕ, ◌+◌, true, List, [], ◌∷◌, ◌++◌, refl, sym, ◌∙◌, ap, subst, arith, IfSome}
use Rattle.std.specs.List.{slice_get}
use Rattle.shape_base.specs.declared.definition.TableDef.{TableDef}
use Rattle.shape_base.specs.Handle.{is_run}
use Rattle.shape_registry.specs.Registry.{ArePlaced}
use Rattle.core_events.specs.declared.event.Event.{Event}
use Rattle.core_events.specs.declared.out.Out.{Out}
use Rattle.core_events.specs.declared.out.StepError.TheVariants as errors
use Rattle.core_law.specs.Situation.{Options}
use Rattle.core_law.specs.Laws as law
use Rattle.sync_core.specs.Reading.{Reading}
use Rattle.sync_core.specs.Run.{Situation, at_start, Turn, Goes, Stops, IsRead, turned}
use Rattle.core_run.specs.Laws as runs
use Rattle.core_run.specs.Calls as calls
use Rattle.script.specs.declared.table.Declaration.{Declaration}
use Rattle.script_play.specs.Tables.{catalog_of}
use Rattle.script_play.specs.Script.{script_of}
use Rattle.script_play.specs.Played.{IsStart, Halt, Plays, GoesBy}
use Rattle.script_play.proofs.Catalogs.{placed_from}
use Rattle.script_play.specs.Headline.{events_of, Took, StopsAt, Headline}

-- ---- the start

placed : (ds : List Declaration) → ArePlaced (catalog_of 0 ds)
placed ds place = let e : 0 + place ≡ place = omega arith in subst (λ n. IfSome (slice_get (catalog_of 0 ds) place) (λ (t : TableDef). t.table ≡ n)) e (placed_from 0 ds place)

-- A core that a script starts is one of `core_law`.
starts : (words : List (List ℕ)) (tables : List Declaration) (o : Options) → IsStart words tables o → law.IsStart o
starts words tables o start = record {
  run = subst (λ run. is_run run ≡ true) (sym start.run) refl;
  placed = subst ArePlaced (sym start.catalog) (placed tables);
}

-- ---- the events that were taken

stopped : (o : Options) (s : Situation) (e : ℕ × Event) (es : List (ℕ × Event)) (outs : List Out) (halt : Halt) → outs ≡ [] → StopsAt e.0 halt → Took o s (e ∷ es) outs halt
stopped o s e es outs halt none at = record { taken = []; others = e ∷ es; are = refl; steps = []; next = s; leads = refl; said = []; put = tt; all = none; leaves = at }

took_by : (o : Options) (s : Situation) (e : ℕ × Event) (es : List (ℕ × Event)) (outs : List Out) (halt : Halt) (r : Reading) (turn : Turn) → IsRead o s e.1 r → turned o s e.1 r ≡ turn → ((next : Situation) (more : List Out) → Plays o next es more halt → Took o next es more halt)
    → GoesBy (λ next. Plays o next es) e.0 turn outs halt → Took o s (e ∷ es) outs halt
took_by o s e es outs halt r (Goes refusal expected next) read same rest goes =
    let t = rest next goes.more goes.rest in
    record {
      taken = e ∷ t.taken;
      others = t.others;
      are = ap (λ xs. e ∷ xs) t.are;
      steps = record { reading = r; refusal = refusal; outs = expected; after = next } ∷ t.steps;
      next = t.next;
      leads = (record { read = read; goes = same }, t.leads);
      said = goes.now ∷ t.said;
      put = (goes.puts, t.put);
      all = goes.are ∙ ap (λ xs. goes.now ++ xs) t.all;
      leaves = t.leaves;
    }
took_by o s e es outs halt r (Stops (errors.Unfit cause)) read same rest goes = stopped o s e es outs halt goes.0 (subst (StopsAt e.0) (sym goes.1) refl)
took_by o s e es outs halt r (Stops errors.TooManyExchanges) read same rest goes = stopped o s e es outs halt goes.0 (subst (StopsAt e.0) (sym goes.1) tt)
took_by o s e es outs halt r (Stops errors.OutOfMemory) read same rest goes = absurd goes

took : (o : Options) (s : Situation) (events : List (ℕ × Event)) (outs : List Out) (halt : Halt) → Plays o s events outs halt → Took o s events outs halt
took o s [] outs halt plays = record { taken = []; others = []; are = refl; steps = []; next = s; leads = refl; said = []; put = tt; all = plays.0; leaves = plays.1 }
took o s (e ∷ es) outs halt plays = took_by o s e es outs halt plays.0 (turned o s e.1 plays.0) plays.1.0 refl (λ next more p. took o next es more halt p) plays.1.1

-- ---- the headline

pub headline : calls.AnswersAreRight → runs.Headline → Headline
headline answers right words items outs ending p =
    let t = took p.options at_start (script_of items).events outs p.halt p.plays in
    let start = starts words (script_of items).tables p.options p.start in
    record {
      options = p.options;
      start = p.start;
      halt = p.halt;
      ends = p.ends;
      took = t;
      right = λ h step told. record {
        answers = answers p.options h step (events_of t.taken) t.steps t.next t.said start t.leads t.put told;
        shapes = (right p.options h step (events_of t.taken) t.steps t.next start t.leads told).shapes;
      };
    }
