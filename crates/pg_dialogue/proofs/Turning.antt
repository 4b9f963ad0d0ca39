-- What is still to come of a snapshot's dialogue, before a message and behind it.
use Rattle.std.proofs.Common.{◌≡◌, inl, inr, ℕ, ◌+◌, eqb, List, [], ◌∷◌, drop, Option, None, Some, Ok, Err, refl, sym, ap, ◌∙◌}
use Rattle.std.proofs.lemmas.Bool.{cases_Bool, eqb-true}
use Rattle.shape_base.specs.declared.value.Value as values
use Rattle.pg_dialogue.specs.declared.wire_error.WireError.{WireError}
use Rattle.pg_dialogue.specs.declared.wire_error.WireError.TheVariants.{BadReply}
use Rattle.pg_dialogue.specs.declared.wanted.Wanted.{Wanted}
use Rattle.pg_dialogue.specs.declared.wanted.Wanted.TheVariants.{TableRow}
use Rattle.pg_dialogue.specs.declared.wanted.News.{News}
use Rattle.pg_dialogue.specs.declared.wanted.Told.{Told}
use Rattle.pg_dialogue.specs.declared.snap_reader.SnapStep.{SnapStep}
use Rattle.pg_dialogue.specs.declared.snap_reader.SnapStep.TheVariants as steps
use Rattle.pg_dialogue.specs.declared.snap_reader.Stage.{Stage}
use Rattle.pg_dialogue.specs.declared.snap_reader.Stage.TheVariants.{Opening, Rows, Closing, Over}
use Rattle.pg_dialogue.specs.Messages.{Said, Silent, Broken, Says, behind}
use Rattle.pg_dialogue.specs.Replies.{Reply, reply}
use Rattle.pg_dialogue.specs.Dialogue as dialogue
use Rattle.pg_dialogue.specs.Dialogue.{Heard, Met, noted, met, then_heard, answered}
use Rattle.pg_dialogue.specs.Dialogues.{nothing_told, row_then, rows_then, all_rows}
use Rattle.pg_dialogue.specs.Course.{opening_wanted, Wants, Refused, Done, Course, stand_of, only, behind_head, behind_opening}
use Rattle.pg_dialogue.specs.Pieces.{behind_rows, course_at, pause_at, Awaits, opened, row_or_closing, closed, turned}
use Rattle.pg_dialogue.proofs.Hearing.{met_passed, met_news, met_refused}

-- ---- the first of some messages

abbrev FirstIs : List Wanted → Wanted → List Wanted → Type 0
FirstIs wanted w ws = wanted ≡ w ∷ ws

answered_first : (wanted : List Wanted) (w : Wanted) (ws : List Wanted) (told : Told) (p : ℕ) (s : Said) → FirstIs wanted w ws → answered wanted told p s ≡ then_heard (met s w told) (answered ws)
unfolding answered
answered_first wanted w ws told p s e = ap (λ (xs : List Wanted). answered xs told p s) e

hears_on : (wanted : List Wanted) (w : Wanted) (ws : List Wanted) (told : Told) (p q : ℕ) (s rest : Said) → FirstIs wanted w ws → met s w told ≡ met rest w told → answered wanted told p s ≡ answered wanted told q rest
hears_on wanted w ws told p q s rest e m =
    answered_first wanted w ws told p s e ∙ ap (λ (h : Heard). then_heard h (answered ws)) m ∙ sym (answered_first wanted w ws told q rest e)

hears_news : (wanted : List Wanted) (w : Wanted) (ws : List Wanted) (told later : Told) (p q : ℕ) (s rest : Said) → FirstIs wanted w ws → met s w told ≡ Met later q rest → answered wanted told p s ≡ answered ws later q rest
hears_news wanted w ws told later p q s rest e m =
    answered_first wanted w ws told p s e ∙ ap (λ (h : Heard). then_heard h (answered ws)) m

hears_refusal : (wanted : List Wanted) (w : Wanted) (ws : List Wanted) (told : Told) (p : ℕ) (s : Said) (error : WireError) → FirstIs wanted w ws → met s w told ≡ dialogue.Refused error → answered wanted told p s ≡ dialogue.Refused error
hears_refusal wanted w ws told p s error e m =
    answered_first wanted w ws told p s e ∙ ap (λ (h : Heard). then_heard h (answered ws)) m

hears_silence : (wanted : List Wanted) (w : Wanted) (ws : List Wanted) (told : Told) (p place : ℕ) (s : Said) → FirstIs wanted w ws → s ≡ Silent place → answered wanted told p s ≡ dialogue.Wants place
unfolding met
hears_silence wanted w ws told p place s e m =
    answered_first wanted w ws told p s e ∙ ap (λ (x : Said). then_heard (met x w told) (answered ws)) m

hears_broken : (wanted : List Wanted) (w : Wanted) (ws : List Wanted) (told : Told) (p place : ℕ) (s : Said) → FirstIs wanted w ws → s ≡ Broken place → answered wanted told p s ≡ dialogue.Refused (BadReply place)
unfolding met
hears_broken wanted w ws told p place s e m =
    answered_first wanted w ws told p s e ∙ ap (λ (x : Said). then_heard (met x w told) (answered ws)) m

-- ---- rows

rows_says : (s rest : Said) (place kind : ℕ) (payload : List ℕ) (r : Reply) → s ≡ Says place kind payload rest → reply TableRow place kind payload ≡ r → all_rows s ≡ rows_then (all_rows rest) rest r
unfolding all_rows
rows_says s rest place kind payload r e h = ap all_rows e ∙ ap (rows_then (all_rows rest) rest) h

rows_silent : (place : ℕ) (s : Said) → s ≡ Silent place → behind_head (all_rows s) ≡ only (Wants place)
unfolding all_rows
rows_silent place s e = ap (λ (x : Said). behind_head (all_rows x)) e

rows_broken : (place : ℕ) (s : Said) → s ≡ Broken place → behind_head (all_rows s) ≡ only (Refused (BadReply place))
unfolding all_rows
rows_broken place s e = ap (λ (x : Said). behind_head (all_rows x)) e

-- ---- a stage and a message

-- it is passed over
pub at_passed : (stage : Stage) (told : Told) (w : Wanted) (p q place kind : ℕ) (payload : List ℕ) (s rest : Said) → Awaits stage (Some w) → s ≡ Says place kind payload rest → reply w place kind payload ≡ Ok None
    → course_at stage told p s ≡ course_at stage told q rest
at_passed (Opening n) told w p q place kind payload s rest a e r =
    ap behind_opening (hears_on (drop n opening_wanted) w (drop (n + 1) opening_wanted) told p q s rest a (met_passed s rest w told place kind payload e r))
at_passed Rows told w p q place kind payload s rest a e r =
    ap behind_head (rows_says s rest place kind payload (Ok None) e (ap (λ (x : Wanted). reply x place kind payload) (sym a) ∙ r))
at_passed (Closing n) told w p q place kind payload s rest a e r =
    ap (λ (h : Heard). only (stand_of h)) (hears_on (drop n behind_rows) w (drop (n + 1) behind_rows) told p q s rest a (met_passed s rest w told place kind payload e r))
at_passed Over told w p q place kind payload s rest a e r = absurd a

-- it is refused
pub at_refused : (stage : Stage) (told : Told) (w : Wanted) (p place kind : ℕ) (payload : List ℕ) (s rest : Said) (error : WireError) → Awaits stage (Some w) → s ≡ Says place kind payload rest → reply w place kind payload ≡ Err error
    → course_at stage told p s ≡ only (Refused error)
at_refused (Opening n) told w p place kind payload s rest error a e r =
    ap behind_opening (hears_refusal (drop n opening_wanted) w (drop (n + 1) opening_wanted) told p s error a (met_refused s rest w told error place kind payload e r))
at_refused Rows told w p place kind payload s rest error a e r =
    ap behind_head (rows_says s rest place kind payload (Err error) e (ap (λ (x : Wanted). reply x place kind payload) (sym a) ∙ r))
at_refused (Closing n) told w p place kind payload s rest error a e r =
    ap (λ (h : Heard). only (stand_of h)) (hears_refusal (drop n behind_rows) w (drop (n + 1) behind_rows) told p s error a (met_refused s rest w told error place kind payload e r))
at_refused Over told w p place kind payload s rest error a e r = absurd a

-- a length that is too small
pub at_broken : (stage : Stage) (told : Told) (w : Wanted) (p place : ℕ) (s : Said) → Awaits stage (Some w) → s ≡ Broken place → course_at stage told p s ≡ only (Refused (BadReply place))
at_broken (Opening n) told w p place s a e = ap behind_opening (hears_broken (drop n opening_wanted) w (drop (n + 1) opening_wanted) told p place s a e)
at_broken Rows told w p place s a e = rows_broken place s e
at_broken (Closing n) told w p place s a e = ap (λ (h : Heard). only (stand_of h)) (hears_broken (drop n behind_rows) w (drop (n + 1) behind_rows) told p place s a e)
at_broken Over told w p place s a e = absurd a

-- no message
pub at_silent : (stage : Stage) (told : Told) (w : Wanted) (p place : ℕ) (s : Said) → Awaits stage (Some w) → s ≡ Silent place → course_at stage told p s ≡ only (pause_at stage place)
at_silent (Opening n) told w p place s a e = ap behind_opening (hears_silence (drop n opening_wanted) w (drop (n + 1) opening_wanted) told p place s a e)
at_silent Rows told w p place s a e = rows_silent place s e
at_silent (Closing n) told w p place s a e = ap (λ (h : Heard). only (stand_of h)) (hears_silence (drop n behind_rows) w (drop (n + 1) behind_rows) told p place s a e)
at_silent Over told w p place s a e = absurd a

-- ---- a message that is waited for

-- this step, and then this course
abbrev pub step_then : Option SnapStep → Course → Course
step_then None c = c
step_then (Some (steps.Head head)) c = record c { head = Some head }
step_then (Some (steps.Row row)) c = record c { rows = row ∷ c.rows }
step_then (Some steps.Done) c = c

open_last : (told : Told) (q : ℕ) (rest : Said) → behind_opening (answered [] told q rest) ≡ record (behind_head (all_rows rest)) { head = Some told.head }
unfolding answered
open_last told q rest = refl

open_by : (n : ℕ) (told : Told) (q : ℕ) (rest : Said) → behind_opening (answered (drop (n + 1) opening_wanted) told q rest) ≡ step_then (opened n told).step (course_at (opened n told).stage (opened n told).told q rest)
open_by n told q rest =
    elim (cases_Bool (eqb (n + 1) 9)) [
      | inl t ↦ rw (eqb-true (n + 1) 9 t) (open_last told q rest)
      | inr f ↦ rw f refl
    ]

close_last : (told : Told) (q : ℕ) (rest : Said) → only (stand_of (answered [] told q rest)) ≡ only Done
unfolding answered
close_last told q rest = refl

close_by : (n : ℕ) (told : Told) (q : ℕ) (rest : Said) → only (stand_of (answered (drop (n + 1) behind_rows) told q rest)) ≡ step_then (closed n told).step (course_at (closed n told).stage (closed n told).told q rest)
close_by n told q rest =
    elim (cases_Bool (eqb (n + 1) 3)) [
      | inl t ↦ rw (eqb-true (n + 1) 3 t) (close_last told q rest)
      | inr f ↦ rw f refl
    ]

row_by : (old told : Told) (q : ℕ) (rest : Said) (o : Option (List values.Value))
    → behind_head (row_then (all_rows rest) rest told o) ≡ step_then (row_or_closing old told o).step (course_at (row_or_closing old told o).stage (row_or_closing old told o).told q rest)
unfolding answered
row_by old told q rest (Some row) = refl
row_by old told q rest None = refl

pub at_news : (stage : Stage) (told : Told) (w : Wanted) (p q place kind : ℕ) (payload : List ℕ) (s rest : Said) (news : News) → Awaits stage (Some w) → behind place payload ≡ q → s ≡ Says place kind payload rest → reply w place kind payload ≡ Ok (Some news)
    → course_at stage told p s ≡ step_then (turned stage told news).step (course_at (turned stage told news).stage (turned stage told news).told q rest)
at_news (Opening n) told w p q place kind payload s rest news a b e r =
    ap behind_opening (hears_news (drop n opening_wanted) w (drop (n + 1) opening_wanted) told (noted told news) p q s rest a (met_news s rest w told news place kind payload e r ∙ ap (λ (x : ℕ). Met (noted told news) x rest) b))
    ∙ open_by n (noted told news) q rest
at_news Rows told w p q place kind payload s rest news a b e r =
    ap behind_head (rows_says s rest place kind payload (Ok (Some news)) e (ap (λ (x : Wanted). reply x place kind payload) (sym a) ∙ r)) ∙ row_by told (noted nothing_told news) q rest (noted nothing_told news).row
at_news (Closing n) told w p q place kind payload s rest news a b e r =
    ap (λ (h : Heard). only (stand_of h)) (hears_news (drop n behind_rows) w (drop (n + 1) behind_rows) told (noted told news) p q s rest a (met_news s rest w told news place kind payload e r ∙ ap (λ (x : ℕ). Met (noted told news) x rest) b))
    ∙ close_by n (noted told news) q rest
at_news Over told w p q place kind payload s rest news a b e r = absurd a
