-- Later bytes come behind what the server said, and change nothing of it.
use Rattle.std.proofs.Common.{◌≡◌, ◌⊎◌, inl, inr, ℕ, zero, suc, ◌<◌, ◌≤◌, List, [], ◌∷◌, ◌++◌, length, Option, None, Some, Ok, Err, refl, sym, ap, subst, ◌∙◌, arith}
use Rattle.shape_base.specs.declared.value.Value as values
use Rattle.pg_dialogue.specs.declared.login.SnapHead.{SnapHead}
use Rattle.pg_dialogue.specs.declared.wire_error.WireError.TheVariants.{BadReply}
use Rattle.pg_dialogue.specs.declared.wanted.Wanted.{Wanted}
use Rattle.pg_dialogue.specs.declared.wanted.Wanted.TheVariants.{Ready, TableRow}
use Rattle.pg_dialogue.specs.declared.wanted.Told.{Told}
use Rattle.pg_dialogue.specs.Messages.{First, Unfinished, TooSmall, Whole, first_of, Said, Silent, Broken, Says, behind, said_then, said}
use Rattle.pg_dialogue.specs.Replies.{Reply, reply}
use Rattle.pg_dialogue.specs.Dialogue as dialogue
use Rattle.pg_dialogue.specs.Dialogue.{Heard, Met, noted, met, met_with, then_heard, answered}
use Rattle.pg_dialogue.specs.Dialogues.{nothing_told, no_row, row_then, rows_then, all_rows}
use Rattle.pg_dialogue.specs.Dialogues.{Rows as RowList}
use Rattle.pg_dialogue.specs.Course.{opening_wanted, closing_wanted, Stand, Wants, stand_of, behind_head, behind_opening, Grows, CoursesGrow}
use Rattle.pg_dialogue.proofs.Saying.{first_rest, said_step}
use Rattle.pg_dialogue.proofs.Firsts.{same_first}

-- ---- messages

-- the messages of the one stand first in the other, and it ends as the other does, unless it only ends for want of bytes
abbrev Longer : Said → Said → Type 0
Longer (Silent place) t = Unit {0}
Longer (Broken place) t = t ≡ Broken place
Longer (Says place kind payload rest) t = (later : Said) × (t ≡ Says place kind payload later) × Longer rest later

by_first : (place : ℕ) (bytes more : List ℕ) (f : First) → first_of bytes ≡ f → ((q : ℕ) (rest : List ℕ) → length rest < length bytes → Longer (said q rest) (said q (rest ++ more))) → Longer (said place bytes) (said place (bytes ++ more))
by_first place bytes more Unfinished e later = subst (λ (s : Said). Longer s (said place (bytes ++ more))) (sym (said_step place bytes ∙ ap (said_then said place bytes) e)) tt
by_first place bytes more TooSmall e later =
    subst (λ (s : Said). Longer s (said place (bytes ++ more))) (sym (said_step place bytes ∙ ap (said_then said place bytes) e))
    (said_step place (bytes ++ more) ∙ ap (said_then said place (bytes ++ more)) (same_first bytes more TooSmall e (λ h. cc)))
by_first place bytes more (Whole kind payload rest) e later =
    subst (λ (s : Said). Longer s (said place (bytes ++ more))) (sym (said_step place bytes ∙ ap (said_then said place bytes) e)) (
      said (behind place payload) (rest ++ more),
      said_step place (bytes ++ more) ∙ ap (said_then said place (bytes ++ more)) (same_first bytes more (Whole kind payload rest) e (λ h. cc)),
      later (behind place payload) rest (omega (arith, first_rest bytes kind payload rest e)),
    )

said_within_longer : (n place : ℕ) (bytes more : List ℕ) → length bytes ≤ n → Longer (said place bytes) (said place (bytes ++ more))
said_within_longer zero place bytes more le = by_first place bytes more (first_of bytes) refl (λ q rest lt. absurd (omega (arith, le, lt)))
said_within_longer (suc n) place bytes more le = by_first place bytes more (first_of bytes) refl (λ q rest lt. said_within_longer n q rest more (omega (arith, le, lt)))

said_longer : (place : ℕ) (bytes more : List ℕ) → Longer (said place bytes) (said place (bytes ++ more))
said_longer place bytes more = said_within_longer (length bytes) place bytes more (omega arith)

-- ---- what is heard

abbrev HeardLonger : Heard → Heard → Type 0
HeardLonger (dialogue.Wants place) k = Unit {0}
HeardLonger (dialogue.Refused error) k = k ≡ dialogue.Refused error
HeardLonger (Met told place rest) k = (later : Said) × (k ≡ Met told place later) × Longer rest later

by_reply : (one two : Wanted → Told → Heard) (w : Wanted) (told : Told) (q : ℕ) (rest later : Said) (r : Reply) → Longer rest later → HeardLonger (one w told) (two w told) → HeardLonger (met_with one w told q rest r) (met_with two w told q later r)
by_reply one two w told q rest later (Ok None) l h = h
by_reply one two w told q rest later (Ok (Some news)) l h = (later, refl, l)
by_reply one two w told q rest later (Err error) l h = refl

met_longer : (s t : Said) (w : Wanted) (told : Told) → Longer s t → HeardLonger (met s w told) (met t w told)
unfolding met
met_longer (Silent place) t w told l = tt
met_longer (Broken place) t w told l = ap (λ (x : Said). met x w told) l
met_longer (Says place kind payload rest) t w told l =
    subst (λ (x : Said). HeardLonger (met_with (met rest) w told (behind place payload) rest (reply w place kind payload)) (met x w told)) (sym l.1)
    (by_reply (met rest) (met l.0) w told (behind place payload) rest l.0 (reply w place kind payload) l.2 (met_longer rest l.0 w told l.2))

then_longer : (h k : Heard) (next : Told → ℕ → Said → Heard) → HeardLonger h k → ((told : Told) (p : ℕ) (s t : Said) → Longer s t → HeardLonger (next told p s) (next told p t)) → HeardLonger (then_heard h next) (then_heard k next)
then_longer (dialogue.Wants place) k next l n = tt
then_longer (dialogue.Refused error) k next l n = ap (λ (x : Heard). then_heard x next) l
then_longer (Met told place rest) k next l n = subst (λ (x : Heard). HeardLonger (next told place rest) (then_heard x next)) (sym l.1) (n told place rest l.0 l.2)

answered_longer : (wanted : List Wanted) (told : Told) (p : ℕ) (s t : Said) → Longer s t → HeardLonger (answered wanted told p s) (answered wanted told p t)
unfolding answered
answered_longer [] told p s t l = (t, refl, l)
answered_longer (w ∷ ws) told p s t l = then_longer (met s w told) (met t w told) (answered ws) (met_longer s t w told l) (λ told p s t l. answered_longer ws told p s t l)

-- ---- rows

abbrev IsOpen : Heard → Type 0
IsOpen (dialogue.Wants place) = Unit {0}
IsOpen (dialogue.Refused error) = ⊥
IsOpen (Met told place rest) = ⊥

record RowsLonger (one two : RowList) : Type 0 where
  pub rows : (later : List (List values.Value)) × (two.rows ≡ one.rows ++ later)
  pub end : HeardLonger one.end two.end
  pub all : IsOpen one.end ⊎ (two.rows ≡ one.rows)

row_longer : (one two : RowList) (row : List values.Value) → RowsLonger one two → RowsLonger (record { rows = row ∷ one.rows; end = one.end }) (record { rows = row ∷ two.rows; end = two.end })
row_longer one two row l = record {
  rows = (l.rows.0, ap (λ (rs : List (List values.Value)). row ∷ rs) l.rows.1);
  end = l.end;
  all = elim l.all [
    | inl h ↦ inl h
    | inr h ↦ inr (ap (λ (rs : List (List values.Value)). row ∷ rs) h)
  ];
}

end_longer : (h k : Heard) → HeardLonger h k → RowsLonger (no_row h) (no_row k)
end_longer h k l = record { rows = ([], refl); end = l; all = inr refl }

by_row : (one two : RowList) (rest later : Said) (told : Told) (o : Option (List values.Value)) → Longer rest later → RowsLonger one two → RowsLonger (row_then one rest told o) (row_then two later told o)
by_row one two rest later told (Some row) l r = row_longer one two row r
by_row one two rest later told None l r = end_longer (met rest Ready told) (met later Ready told) (met_longer rest later Ready told l)

by_rows : (one two : RowList) (rest later : Said) (r : Reply) → Longer rest later → RowsLonger one two → RowsLonger (rows_then one rest r) (rows_then two later r)
by_rows one two rest later (Ok None) l h = h
by_rows one two rest later (Ok (Some news)) l h = by_row one two rest later (noted nothing_told news) (noted nothing_told news).row l h
by_rows one two rest later (Err error) l h = end_longer (dialogue.Refused error) (dialogue.Refused error) refl

rows_longer : (s t : Said) → Longer s t → RowsLonger (all_rows s) (all_rows t)
unfolding all_rows
rows_longer (Silent place) t l = record { rows = ((all_rows t).rows, refl); end = tt; all = inl tt }
rows_longer (Broken place) t l =
    subst (λ (x : Said). RowsLonger (no_row (dialogue.Refused (BadReply place))) (all_rows x)) (sym l) (end_longer (dialogue.Refused (BadReply place)) (dialogue.Refused (BadReply place)) refl)
rows_longer (Says place kind payload rest) t l =
    subst (λ (x : Said). RowsLonger (rows_then (all_rows rest) rest (reply TableRow place kind payload)) (all_rows x)) (sym l.1)
    (by_rows (all_rows rest) (all_rows l.0) rest l.0 (reply TableRow place kind payload) l.2 (rows_longer rest l.0 l.2))

-- ---- the course

abbrev NotOpen : Stand → Type 0
NotOpen stand = (place : ℕ) → stand ≡ Wants place → ⊥

still_open : (h : Heard) (next : Told → ℕ → Said → Heard) → IsOpen h → NotOpen (stand_of (then_heard h next)) → ⊥
still_open (dialogue.Wants place) next i n = n place refl
still_open (dialogue.Refused error) next i n = i
still_open (Met told place rest) next i n = i

stand_stays : (h k : Heard) → HeardLonger h k → NotOpen (stand_of h) → stand_of k ≡ stand_of h
stand_stays (dialogue.Wants place) k l n = absurd (n place refl)
stand_stays (dialogue.Refused error) k l n = ap stand_of l
stand_stays (Met told place rest) k l n = ap stand_of l.1

same_rows : (one two : RowList) (head : Option SnapHead) → RowsLonger one two → NotOpen (behind_head one).stand → (rows : two.rows ≡ one.rows) → record (behind_head two) { head = head } ≡ record (behind_head one) { head = head }
same_rows one two head l n rows =
    let stand : (behind_head two).stand ≡ (behind_head one).stand
    = stand_stays (then_heard one.end (answered closing_wanted)) (then_heard two.end (answered closing_wanted)) (then_longer one.end two.end (answered closing_wanted) l.end (λ told p s t l. answered_longer closing_wanted told p s t l)) n in
    rw (rows, stand) refl

rows_grow : (one two : RowList) (head : SnapHead) → RowsLonger one two → Grows (record (behind_head one) { head = Some head }) (record (behind_head two) { head = Some head })
rows_grow one two head l = record {
  head = λ x e. e;
  rows = l.rows;
  stays = λ n. elim l.all [
    | inl h ↦ absurd (still_open one.end (answered closing_wanted) h n)
    | inr h ↦ same_rows one two (Some head) l n h
  ];
}

grows_by : (h k : Heard) → HeardLonger h k → Grows (behind_opening h) (behind_opening k)
grows_by (dialogue.Wants place) k l = record { head = λ x e. absurd cc; rows = ((behind_opening k).rows, refl); stays = λ n. absurd (n place refl) }
grows_by (dialogue.Refused error) k l =
    subst (λ (x : Heard). Grows (behind_opening (dialogue.Refused error)) (behind_opening x)) (sym l) (record { head = λ x e. e; rows = ([], refl); stays = λ n. refl })
grows_by (Met told place rest) k l =
    subst (λ (x : Heard). Grows (behind_opening (Met told place rest)) (behind_opening x)) (sym l.1) (rows_grow (all_rows rest) (all_rows l.0) told.head (rows_longer rest l.0 l.2))

pub courses_longer : CoursesGrow
courses_longer bytes more = grows_by _ _ (answered_longer opening_wanted nothing_told 0 (said 0 bytes) (said 0 (bytes ++ more)) (said_longer 0 bytes more))
