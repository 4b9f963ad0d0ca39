-- The world that a server tells is good.
use Rattle.std.proofs.Common.{◌≡◌, ℕ, Bool, true, false, ◌||◌, List, refl, sym, ◌∙◌, ap, subst, Option, None, Some}
use Rattle.std.specs.Bool.{if◌then◌else◌}
use Rattle.std.specs.List.{slice_get}
use Rattle.std.specs.Option.{option_map, option_or}
use Rattle.std.specs.Prelude.{is_none}
use Rattle.shape_base.specs.declared.ask.Ask.{Ask}
use Rattle.shape_base.specs.declared.definition.TableDef.{TableDef}
use Rattle.shape_base.specs.declared.history.History.{History}
use Rattle.shape_base.specs.declared.served.Served.{Served}
use Rattle.shape_base.specs.Tables.{place_of, key_places}
use Rattle.shape_base.specs.Snapshot.{Snapshot, IsTakenAt, definition_in}
use Rattle.shape_base.specs.Shape.{Knows, IsTest}
use Rattle.shape_base.specs.RegistryHistory.{had_ready}
use Rattle.shape_base.proofs.Lemmas.{Decides-same_def}
use Rattle.shape_json.specs.ShapeHistory.{Reader}
use Rattle.column_names.specs.Names.{has_name_twice}
use Rattle.shape_def.specs.declared.faults.DefError.{DefError}
use Rattle.shape_def.specs.Identity.{Names}
use Rattle.shape_def.specs.Clauses.{unread_under, refusal_of_clause}
use Rattle.shape_def.specs.Definition.{selected_places, is_key_missing, refusal_of_choice, refusal_of, knows_of, knows_by, knows_with, knows_for}
use Rattle.shape_def.proofs.Refusals.{is_test}
use Rattle.http_edge.specs.World.{IsGoodShape, IsGoodKept, IsGoodWorld}
use Rattle.core_law.specs.Situation.{Options, Shape, Server, shape_at, kept_by, kept_of, world_of, reader_under}
use Rattle.core_law.specs.Laws.{IsTold, AreOfRequests}
use Rattle.core_law.proofs.Lists.{some_same}
use Rattle.core_law.proofs.Server.{IsShape, FitsShape, Sound}

-- ---- what a definition knows

record KnowsParts (tables : List Served) (table : ℕ) (d : TableDef) (s : Knows) : Type 0 where
  served : slice_get tables table ≡ Some s.served
  definition : s.definition ≡ d
  test : IsTest s

either_false : (a b : Bool) → (a || b) ≡ false → (a ≡ false) × (b ≡ false)
either_false true b h = cc
either_false false b h = (refl, h)

record IsAllowed (served : Served) (d : TableDef) (chosen : Option Names) : Type 0 where
  once : has_name_twice d.columns ≡ false
  choice : refusal_of_choice (place_of d.columns) served.key chosen ≡ None

or_none : (a b : Option DefError) → option_or a b ≡ None → a ≡ None
or_none None b e = refl
or_none (Some error) b e = cc

allowed_if : (served : Served) (d : TableDef) (chosen : Option Names) (clause : Option (List ℕ)) (missing : Bool) (error : DefError) → is_key_missing served d ≡ missing
    → (if missing then Some error else option_or (refusal_of_choice (place_of d.columns) served.key chosen) (refusal_of_clause d.columns clause)) ≡ None → IsAllowed served d chosen
allowed_if served d chosen clause true error is e = cc
allowed_if served d chosen clause false error is e = record { once = (either_false (has_name_twice d.columns) (is_none (key_places served d)) is).0; choice = or_none _ (refusal_of_clause d.columns clause) e }

allowed : (served : Served) (d : TableDef) (chosen : Option Names) (clause : Option (List ℕ)) → refusal_of served d chosen clause ≡ None → IsAllowed served d chosen
allowed served d chosen clause e = allowed_if served d chosen clause (is_key_missing served d) _ refl e

keyed_parts : (tables : List Served) (table : ℕ) (d : TableDef) (chosen : Option Names) (clause : Option (List ℕ)) (served : Served) (key : Option (List ℕ)) (s : Knows) → slice_get tables table ≡ Some served → IsAllowed served d chosen → key_places served d ≡ key
    → option_map (λ key. knows_of served d key (selected_places d chosen) clause) key ≡ Some s → KnowsParts tables table d s
keyed_parts tables table d chosen clause served None s at free is e = cc
keyed_parts tables table d chosen clause served (Some key) s at free is e =
    subst (KnowsParts tables table d) (some_same (knows_of served d key (selected_places d chosen) clause) s e)
    (record { served = at; definition = refl; test = is_test served served d d key (selected_places d chosen) chosen clause (place_of d.columns) refl refl is free.once refl free.choice })

by_parts : (tables : List Served) (table : ℕ) (d : TableDef) (chosen : Option Names) (clause : Option (List ℕ)) (served : Served) (refused : Option DefError) (s : Knows) → slice_get tables table ≡ Some served → refusal_of served d chosen clause ≡ refused → knows_by served d chosen clause refused ≡ Some s → KnowsParts tables table d s
by_parts tables table d chosen clause served (Some error) s at is e = cc
by_parts tables table d chosen clause served None s at is e = keyed_parts tables table d chosen clause served (key_places served d) s at (allowed served d chosen clause is) refl e

with_parts : (tables : List Served) (table : ℕ) (d : TableDef) (chosen : Option Names) (clause : Option (List ℕ)) (served : Option Served) (s : Knows) → slice_get tables table ≡ served → knows_with d chosen clause served ≡ Some s → KnowsParts tables table d s
with_parts tables table d chosen clause None s at e = cc
with_parts tables table d chosen clause (Some served) s at e = by_parts tables table d chosen clause served (refusal_of served d chosen clause) s at refl e

knows_parts : (tables : List Served) (table : ℕ) (d : TableDef) (chosen : Option Names) (clause : Option (List ℕ)) (s : Knows) → knows_for tables table d chosen clause ≡ Some s → KnowsParts tables table d s
unfolding knows_for
knows_parts tables table d chosen clause s e = with_parts tables table d chosen clause (slice_get tables table) s refl e

reader_parts_of : (o : Options) (ask : Ask) (d : TableDef) (knows : Option Knows) (r : Reader) → knows_for o.tables ask.table d ask.columns ask.clause ≡ knows → option_map (λ knows. record { knows = knows; unread = unread_under knows.definition.columns ask.clause }) knows ≡ Some r → KnowsParts o.tables ask.table d r.knows
reader_parts_of o ask d None r is e = cc
reader_parts_of o ask d (Some s) r is e = subst (λ (x : Reader). KnowsParts o.tables ask.table d x.knows) (some_same _ r e) (knows_parts o.tables ask.table d ask.columns ask.clause s is)

reader_parts : (o : Options) (ask : Ask) (d : TableDef) (r : Reader) → reader_under o ask d ≡ Some r → KnowsParts o.tables ask.table d r.knows
reader_parts o ask d r e = reader_parts_of o ask d (knows_for o.tables ask.table d ask.columns ask.clause) r refl e

-- what a shape knows meets the laws of a test
pub shape_test : (o : Options) (v : Server) (n : ℕ) (x : Shape) → IsShape o v n x → IsTest x.reader.knows
shape_test o v n x is = (reader_parts o x.ask is.definition x.reader is.reads).test

-- ---- the world is good

good_shape : (o : Options) (h : History) (step : ℕ → ℕ) (z : Server) (n : ℕ) (x : Shape) (snap : Snapshot) → IsTold o h step z → had_ready z.registry n ≡ true → shape_at z.shapes n ≡ Some x → Rattle.shape_json.specs.ShapeHistory.snapshot_in x.events ≡ Some snap → IsShape o z n x → FitsShape z.commits x.reader x.before snap
    → IsGoodShape h (record { knows = x.reader.knows; snapshot = snap.rows; step = step n })
good_shape o h step z n x snap told ready at came is fits =
    let p = reader_parts o x.ask is.definition x.reader is.reads in
    let honest = told.honest n x snap ready at came in
    record {
      served = ap (λ tables. slice_get tables x.reader.knows.definition.table) told.tables ∙ ap (λ (d : TableDef). slice_get o.tables d.table) p.definition ∙ ap (slice_get o.tables) is.placed ∙ p.served;
      test = p.test;
      honest = subst (λ d. IsTakenAt h d snap.rows (step n)) ((Decides-same_def (definition_in snap x.reader.knows.definition.table) x.reader.knows.definition).0 fits.definition) honest.honest.taken;
      truths = fits.truths;
      offsets = honest.offsets;
    }

pub good_world : (o : Options) (h : History) (step : ℕ → ℕ) (z : Server) → IsTold o h step z → Sound o z → IsGoodWorld (world_of o h step z)
good_world o h step z told sound = record {
  history = told.good;
  shapes = λ n ready.
      let st = sound.ready n ready in
      subst (IsGoodKept h) (sym (ap (kept_of (step n)) st.at ∙ ap (kept_by st.shape.reader (step n)) st.is))
      (good_shape o h step z n st.shape st.snapshot told ready st.at st.is (sound.shapes n st.shape st.at) st.fits);
}

-- The shape of a number is that of a request with its identity.
pub of_requests : (o : Options) (z : Server) → Sound o z → AreOfRequests o z
of_requests o z sound identity number registered =
    let named = sound.named identity number registered in
    let is = sound.shapes number named.shape named.at in
    record { shape = named.shape; there = named.at; identity_is = named.same; definition = is.definition; reads = is.reads }
