-- All rows, one after the other; and the pieces of each dialogue.
use Rattle.std.proofs.Common.{◌≡◌, inl, inr, ℕ, List, [], ◌∷◌, Option, Some, None, Result, Ok, Err, refl, sym, ap, subst, ◌∙◌}
use Rattle.shape_base.specs.declared.value.Value as values
use Rattle.shape_base.specs.declared.served.Served.{Served}
use Rattle.pg_dialogue.specs.declared.login.Login.{Login}
use Rattle.pg_dialogue.specs.declared.wire_error.WireError.{WireError}
use Rattle.pg_dialogue.specs.declared.wanted.Wanted.TheVariants.{Authentication, Started, Completed, Ready, SnapshotColumn, SnapshotText, TableColumns, TableRow, CopyBoth}
use Rattle.pg_dialogue.specs.declared.wanted.Told.{Told}
use Rattle.pg_dialogue.specs.Messages.{Said, Silent, Broken, Says, behind}
use Rattle.pg_dialogue.specs.Replies.{Reply, reply}
use Rattle.pg_dialogue.specs.Dialogue.{Heard, Wants, Refused, Met, met, met_with, then_heard, Exchange, talk, error_of, Ends}
use Rattle.pg_dialogue.specs.Dialogues.{nothing_told, row_or_ready, row_or_end, next_row, Rows, no_row, row_then, rows_then, all_rows, opening, closing, describing, streaming, keeping}
use Rattle.pg_dialogue.specs.Queries.{startup, replication_startup, begin_query, snapshot_query, select_query, describe_query, commit_query, start_query}
use Rattle.pg_dialogue.specs.Links.{to_come, Takes, Reads}
use Rattle.pg_dialogue.specs.Outcomes.{IsRow, IsEnd, Finishes}
use Rattle.pg_dialogue.proofs.Hearing.{ends_as, then_ends}

by_met : Heard → Rows
by_met (Met told place rest) = row_then (all_rows rest) rest told told.row
by_met (Wants place) = no_row (Wants place)
by_met (Refused error) = no_row (Refused error)

rows_by : (rest : Said) (place : ℕ) (r : Reply) → all_rows rest ≡ by_met (met rest TableRow nothing_told) → rows_then (all_rows rest) rest r ≡ by_met (met_with (met rest) TableRow nothing_told place rest r)
unfolding by_met
rows_by rest place (Ok None) h = h
rows_by rest place (Ok (Some news)) h = refl
rows_by rest place (Err error) h = refl

rows_met : (s : Said) → all_rows s ≡ by_met (met s TableRow nothing_told)
unfolding by_met all_rows met
rows_met (Silent place) = refl
rows_met (Broken place) = refl
rows_met (Says place kind payload rest) = rows_by rest (behind place payload) (reply TableRow place kind payload) (rows_met rest)

-- a row is passed over
pub row_passed : (s rest : Said) (row : List values.Value) (place : ℕ) → IsRow s row place rest → (all_rows s).end ≡ (all_rows rest).end
unfolding by_met
row_passed s rest row place h =
    ap (λ (r : Rows). r.end) (rows_met s ∙ ap by_met h.heard ∙ ap (row_then (all_rows rest) rest h.told) h.is)

-- the rows end
pub rows_over : (s rest : Said) (place : ℕ) → IsEnd s place rest → (told : Told) × ((all_rows s).end ≡ Met told place rest)
unfolding by_met
rows_over s rest place h =
    (h.last, ap (λ (r : Rows). r.end) (rows_met s ∙ ap by_met h.heard ∙ ap (row_then (all_rows h.others) h.others h.told) h.none) ∙ h.ready)

ready_then : (r : Rows) (rest : Said) (told : Told) (o : Option (List values.Value)) (place : ℕ) (error : WireError) → error_of (row_or_ready told o place rest) ≡ Some error → error_of (row_then r rest told o).end ≡ Some error
ready_then r rest told (Some row) place error e = absurd cc
ready_then r rest told None place error e = e

stopped_by : (h : Heard) (error : WireError) → error_of (then_heard h row_or_end) ≡ Some error → error_of (by_met h).end ≡ Some error
unfolding by_met
stopped_by (Wants place) error e = e
stopped_by (Refused x) error e = e
stopped_by (Met told place rest) error e = ready_then (all_rows rest) rest told told.row place error e

pub rows_stop : (s : Said) (error : WireError) → Ends error (next_row s) → Ends error (all_rows s).end
rows_stop s error (inl h) = inl h
rows_stop s error (inr (inl h)) = inr (inl h)
rows_stop s error (inr (inr h)) = inr (inr (ap (λ (r : Rows). error_of r.end) (rows_met s) ∙ stopped_by (met s TableRow nothing_told) error h))

-- the row or the readiness that was waited for
pub row_stops : (s : Said) (error : WireError) → Ends error (met s TableRow nothing_told) → Ends error (next_row s)
row_stops s error h = then_ends error (met s TableRow nothing_told) row_or_end h

pub ready_stops : (s others : Said) (told : Told) (place : ℕ) (error : WireError) → met s TableRow nothing_told ≡ Met told place others → told.row ≡ None → Ends error (met others Ready told) → Ends error (next_row s)
ready_stops s others told place error m none h =
    ends_as error (next_row s) (met others Ready told) (ap (λ (x : Heard). then_heard x row_or_end) m ∙ ap (λ (o : Option (List values.Value)). row_or_ready told o place others) none) h

-- ---- the pieces of each dialogue

pub opening_is : (login : Login) (table : Served) (a b c d : List ℕ) → a ≡ startup login → b ≡ begin_query → c ≡ snapshot_query → d ≡ select_query table
    → (record { sent = a; wanted = Authentication ∷ Started ∷ [] } ∷ record { sent = b; wanted = Completed ∷ Ready ∷ [] } ∷ record { sent = c; wanted = SnapshotColumn ∷ SnapshotText ∷ Completed ∷ Ready ∷ [] } ∷ record { sent = d; wanted = TableColumns ∷ [] } ∷ []) ≡ opening login table
unfolding opening
opening_is login table a b c d p q r s = rw (p, q, r, s) refl

pub describing_is : (login : Login) (table : Served) (a b : List ℕ) → a ≡ startup login → b ≡ describe_query table
    → (record { sent = a; wanted = Authentication ∷ Started ∷ [] } ∷ record { sent = b; wanted = TableColumns ∷ [] } ∷ []) ≡ describing login table
unfolding describing
describing_is login table a b p q = rw (p, q) refl

pub streaming_is : (login : Login) (a b : List ℕ) → a ≡ replication_startup login → b ≡ start_query login
    → (record { sent = a; wanted = Authentication ∷ Started ∷ [] } ∷ record { sent = b; wanted = CopyBoth ∷ [] } ∷ []) ≡ streaming login
unfolding streaming
streaming_is login a b p q = rw (p, q) refl

pub closing_is : (a : List ℕ) → a ≡ commit_query → (record { sent = a; wanted = Completed ∷ Ready ∷ [] } ∷ []) ≡ closing
unfolding closing
closing_is a p = rw p refl

-- a dialogue that begins with nothing told and nothing given
pub same_talk : (es all : List Exchange) (told : Told) (p : ℕ) (left : List ℕ) → es ≡ all → told ≡ nothing_told → p ≡ 0 → talk all nothing_told 0 (to_come 0 left) ≡ talk es told p (to_come p left)
same_talk es all told p left a b c = rw (a, b, c) refl

pub closing_at : (es all : List Exchange) (told : Told) (p q : ℕ) (left : List ℕ) → es ≡ all → told ≡ nothing_told → p ≡ q → talk all nothing_told q (to_come q left) ≡ talk es told p (to_come p left)
closing_at es all told p q left a b c = rw (a, b, c) refl

pub kept_met : (told later : Told) (h end : Heard) (place behind : ℕ) (said rest : Said) → h ≡ Met told place said → end ≡ Met later behind rest → (all_rows said).end ≡ end → then_heard h (λ t p r. keeping t (all_rows r).end) ≡ Met told behind rest
kept_met told later h end place behind said rest m e s = ap (λ (x : Heard). then_heard x (λ t p r. keeping t (all_rows r).end)) m ∙ ap (keeping told) (s ∙ e)

keeping_stops : (told : Told) (h : Heard) (error : WireError) → error_of h ≡ Some error → error_of (keeping told h) ≡ Some error
keeping_stops told (Wants place) error e = e
keeping_stops told (Refused x) error e = e
keeping_stops told (Met later place rest) error e = absurd cc

-- the rows of a description end early
pub kept_stops : (told : Told) (h : Heard) (place : ℕ) (said : Said) (error : WireError) → h ≡ Met told place said → Ends error (all_rows said).end → Ends error (then_heard h (λ t p r. keeping t (all_rows r).end))
kept_stops told h place said error m (inl e) = inl e
kept_stops told h place said error m (inr (inl e)) = inr (inl e)
kept_stops told h place said error m (inr (inr e)) = inr (inr (ap (λ (x : Heard). error_of (then_heard x (λ t p r. keeping t (all_rows r).end))) m ∙ keeping_stops told (all_rows said).end error e))

-- the end of a dialogue that answers nothing
pub finishes : (r : Result (Unit {0}) WireError) (heard now : Heard) (told : Told) (p p0 place : ℕ) (given left given' left' : List ℕ) → heard ≡ now → p ≡ p0 → Reads r now told place (to_come place left') → Takes given left p given' left' place → Finishes r heard given left p0 given' left'
finishes (Ok x) heard now told p p0 place given left given' left' e same h t = (told, record { place' = place; met = e ∙ h; took = subst (λ (n : ℕ). Takes given left n given' left' place) same t })
finishes (Err error) heard now told p p0 place given left given' left' e same h t = ends_as error heard now e h

-- ---- one row, read from a link

pub row_stops_at : (p q : ℕ) (left : List ℕ) (told : Told) (error : WireError) → p ≡ q → told ≡ nothing_told → Ends error (met (to_come p left) TableRow told) → Ends error (next_row (to_come q left))
row_stops_at p q left told error same nothing h = row_stops (to_come q left) error (subst (λ (x : Told). Ends error (met (to_come q left) TableRow x)) nothing (subst (λ (n : ℕ). Ends error (met (to_come n left) TableRow told)) same h))

met_at : (p q : ℕ) (left : List ℕ) (told told1 : Told) (place : ℕ) (rest : Said) → p ≡ q → told ≡ nothing_told → met (to_come p left) TableRow told ≡ Met told1 place rest → met (to_come q left) TableRow nothing_told ≡ Met told1 place rest
met_at p q left told told1 place rest same nothing h = ap (λ (n : ℕ). met (to_come n left) TableRow nothing_told) (sym same) ∙ ap (met (to_come p left) TableRow) (sym nothing) ∙ h

pub is_row : (p q : ℕ) (left : List ℕ) (told told1 : Told) (row : List values.Value) (place : ℕ) (rest : Said) → p ≡ q → told ≡ nothing_told → met (to_come p left) TableRow told ≡ Met told1 place rest → told1.row ≡ Some row → IsRow (to_come q left) row place rest
is_row p q left told told1 row place rest same nothing h is = record { told = told1; heard = met_at p q left told told1 place rest same nothing h; is = is }

same_told : (told : Told) → told.row ≡ None → told ≡ record { head = told.head; row = None }
same_told told none = ap (λ (o : Option (List values.Value)). record { head = told.head; row = o }) none

pub is_end : (p q : ℕ) (left : List ℕ) (told told1 last : Told) (behind place : ℕ) (others rest : Said) → p ≡ q → told ≡ nothing_told → met (to_come p left) TableRow told ≡ Met told1 behind others → told1.row ≡ None
    → met others Ready (record { head = told1.head; row = None }) ≡ Met last place rest → IsEnd (to_come q left) place rest
is_end p q left told told1 last behind place others rest same nothing h none k = record {
  told = told1;
  behind = behind;
  others = others;
  heard = met_at p q left told told1 behind others same nothing h;
  none = none;
  last = last;
  ready = ap (met others Ready) (same_told told1 none) ∙ k;
}

pub ready_stops_at : (p q : ℕ) (left : List ℕ) (told told1 : Told) (behind : ℕ) (others : Said) (error : WireError) → p ≡ q → told ≡ nothing_told → met (to_come p left) TableRow told ≡ Met told1 behind others → told1.row ≡ None
    → Ends error (met others Ready (record { head = told1.head; row = None })) → Ends error (next_row (to_come q left))
ready_stops_at p q left told told1 behind others error same nothing h none k =
    ready_stops (to_come q left) others told1 behind error (met_at p q left told told1 behind others same nothing h) none (ends_as error (met others Ready told1) (met others Ready (record { head = told1.head; row = None })) (ap (met others Ready) (same_told told1 none)) k)
