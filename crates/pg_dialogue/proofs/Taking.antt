-- A snapshot's dialogue that is read while its bytes come in pieces has the course of all the bytes.
use Rattle.std.proofs.Common.{◌≡◌, ◌⊎◌, inl, inr, ℕ, ◌+◌, ◌<◌, ◌≤◌, Bool, true, false, cond, eqb, List, [], ◌∷◌, ◌++◌, length, drop, Option, None, Some, Ok, Err, refl, sym, ap, subst, ◌∙◌, append_assoc, arith}
use Rattle.std.specs.Prelude.{slice_range}
use Rattle.std.specs.Option.{is_some, option_or}
use Rattle.std.proofs.lemmas.List.{append-nil, length-append, length-drop}
use Rattle.shape_base.specs.declared.value.Value as values
use Rattle.pg_dialogue.specs.declared.login.SnapHead.{SnapHead}
use Rattle.pg_dialogue.specs.declared.wire_error.WireError.{WireError}
use Rattle.pg_dialogue.specs.declared.wire_error.WireError.TheVariants.{OutOfMemory, BadReply}
use Rattle.pg_dialogue.specs.declared.wanted.Wanted.{Wanted}
use Rattle.pg_dialogue.specs.declared.wanted.News.{News}
use Rattle.pg_dialogue.specs.declared.wanted.Told.{Told}
use Rattle.pg_dialogue.specs.declared.snap_reader.SnapStep.{SnapStep}
use Rattle.pg_dialogue.specs.declared.snap_reader.SnapStep.TheVariants as steps
use Rattle.pg_dialogue.specs.declared.snap_reader.Stage.{Stage}
use Rattle.pg_dialogue.specs.declared.snap_reader.Stage.TheVariants.{Opening, Rows, Closing, Over}
use Rattle.pg_dialogue.specs.declared.snap_reader.Turn.TheVariants.{Moved}
use Rattle.pg_dialogue.specs.Messages.{Said, behind, TooSmall, Unfinished, first_of, said}
use Rattle.pg_dialogue.specs.Replies.{reply}
use Rattle.pg_dialogue.specs.Dialogue.{noted}
use Rattle.pg_dialogue.specs.Dialogues.{nothing_told}
use Rattle.pg_dialogue.specs.Course.{Stand, Refused, Done, Course, only, course_of, is_said}
use Rattle.pg_dialogue.specs.Reached.{Reached}
use Rattle.pg_dialogue.specs.Pieces.{Given, nothing_given, with_step, MayCome, as_given, IsFront, open_stand, course_at, course_from, after, HasGiven, Took, pause_at, pause, Awaits, IsWhole, Turned, row_or_closing, turned, Leads, Stepped, StepRefused}
use Rattle.pg_dialogue.proofs.Causes.{said_by}
use Rattle.pg_dialogue.proofs.Firsts.{says_whole, says_broken, says_nothing, payload_size}
use Rattle.pg_dialogue.proofs.Turning.{step_then, at_passed, at_refused, at_broken, at_silent, at_news}

-- ---- what was given, and what a message gives

-- a step that is given and one that is still to come
moved : (g : Given) (step : Option SnapStep) (c : Course) → MayCome g step → after g (step_then step c) ≡ after (with_step g step) c
moved g None c m = refl
moved g (Some (steps.Head head)) c m = ap (λ (o : Option SnapHead). record { head = option_or o (Some head); rows = g.rows ++ c.rows; stand = c.stand }) m
moved g (Some (steps.Row row)) c m = ap (λ (rows : List (List values.Value)). record { head = option_or g.head c.head; rows = rows; stand = c.stand }) (sym (append_assoc g.rows (row ∷ []) c.rows))
moved g (Some steps.Done) c m = refl

either : (P : Turned → Type 0) (b : Bool) (x y : Turned) → P x → P y → P (cond b x y)
either P true x y p q = p
either P false x y p q = q

may_row : (old told : Told) (o : Option (List values.Value)) (g : Given) → HasGiven Rows g → MayCome g (row_or_closing old told o).step
may_row old told (Some row) g h = h
may_row old told None g h = tt

may : (stage : Stage) (told : Told) (news : News) (g : Given) → HasGiven stage g → MayCome g (turned stage told news).step
may (Opening n) told news g h = either (λ t. MayCome g t.step) (eqb (n + 1) 9) _ _ (ap (λ (x : Given). x.head) h) tt
may Rows told news g h = may_row told (noted nothing_told news) (noted nothing_told news).row g h
may (Closing n) told news g h = either (λ t. MayCome g t.step) (eqb (n + 1) 3) _ _ h tt
may Over told news g h = tt

has_row : (old told : Told) (o : Option (List values.Value)) (g : Given) → HasGiven Rows g → HasGiven (row_or_closing old told o).stage (with_step g (row_or_closing old told o).step)
has_row old told (Some row) g h = h
has_row old told None g h = h

has : (stage : Stage) (told : Told) (news : News) (g : Given) → HasGiven stage g → HasGiven (turned stage told news).stage (with_step g (turned stage told news).step)
has (Opening n) told news g h = either (λ t. HasGiven t.stage (with_step g t.step)) (eqb (n + 1) 9) _ _ (refl, ap (λ (x : Given). x.done) h) h
has Rows told news g h = has_row told (noted nothing_told news) (noted nothing_told news).row g h
has (Closing n) told news g h = either (λ t. HasGiven t.stage (with_step g t.step)) (eqb (n + 1) 3) _ _ (h.0, refl) h
has Over told news g h = h

-- ---- one message

abbrev pub behind_message : Reached → ℕ → Reached
behind_message r size = record r { place = r.place + size; rest = drop size r.rest }

abbrev pub turned_at : Reached → News → Reached
turned_at r news = let t = turned r.stage r.told news in record r { stage = t.stage; told = t.told }

count_of : (r : Reached) (size : ℕ) → size ≤ length r.rest → r.place + length r.rest ≡ r.place + size + length (drop size r.rest)
count_of r size inside = omega (arith, inside, length-drop size r.rest)

pub smaller : (r : Reached) (kind size : ℕ) → IsWhole r.rest kind size → length (drop size r.rest) < length r.rest
smaller r kind size w = omega (arith, w.some, w.inside, length-drop size r.rest)

pub leads_passed : (r : Reached) (wanted : Wanted) (kind size : ℕ) → Awaits r.stage (Some wanted) → IsWhole r.rest kind size → reply wanted r.place kind (slice_range r.rest 5 size) ≡ Ok None → Leads r None (behind_message r size)
leads_passed r wanted kind size a w e = record {
  ahead = λ g h more. ap (after g) (at_passed r.stage r.told wanted r.place (r.place + size) r.place kind (slice_range r.rest 5 size) (said r.place (r.rest ++ more)) (said (r.place + size) (drop size r.rest ++ more)) a (says_whole r.place kind size r.rest more w) e);
  has = λ g h. h;
  may = λ g h. tt;
  count = count_of r size w.inside;
}

pub leads_news : (r : Reached) (wanted : Wanted) (kind size : ℕ) (news : News) → Awaits r.stage (Some wanted) → IsWhole r.rest kind size → reply wanted r.place kind (slice_range r.rest 5 size) ≡ Ok (Some news)
    → Leads r (turned r.stage r.told news).step (turned_at (behind_message r size) news)
leads_news r wanted kind size news a w h =
    let payload = slice_range r.rest 5 size in
    let place : behind r.place payload ≡ r.place + size = omega (arith, w.some, payload_size r.rest size w.some w.inside) in
    record {
      ahead = λ g given more.
          ap (after g) (at_news r.stage r.told wanted r.place (r.place + size) r.place kind payload (said r.place (r.rest ++ more)) (said (r.place + size) (drop size r.rest ++ more)) news a place (says_whole r.place kind size r.rest more w) h)
          ∙ moved g (turned r.stage r.told news).step _ (may r.stage r.told news g given);
      has = λ g given. has r.stage r.told news g given;
      may = λ g given. may r.stage r.told news g given;
      count = count_of r size w.inside;
    }

same_reply : (r : Reached) (wanted : Wanted) (kind size place : ℕ) (bytes : List ℕ) → place ≡ r.place → bytes ≡ r.rest → reply wanted r.place kind (slice_range r.rest 5 size) ≡ reply wanted place kind (slice_range bytes 5 size)
same_reply r wanted kind size place bytes p b = rw (p, b) refl

pub steps_passed : (r now : Reached) (wanted : Wanted) (kind size place : ℕ) (bytes : List ℕ) → Awaits r.stage (Some wanted) → IsWhole r.rest kind size → place ≡ r.place → bytes ≡ r.rest → reply wanted place kind (slice_range bytes 5 size) ≡ Ok None
    → now ≡ behind_message r size → Stepped r (Moved None) now
steps_passed r now wanted kind size place bytes a w p b e same =
    subst (λ (x : Reached). Stepped r (Moved None) x) (sym same) (leads_passed r wanted kind size a w (same_reply r wanted kind size place bytes p b ∙ e), smaller r kind size w)

pub steps_news : (r mid now : Reached) (wanted : Wanted) (kind size place : ℕ) (bytes : List ℕ) (news : News) (step : Option SnapStep) → Awaits r.stage (Some wanted) → IsWhole r.rest kind size → place ≡ r.place → bytes ≡ r.rest
    → reply wanted place kind (slice_range bytes 5 size) ≡ Ok (Some news) → mid ≡ behind_message r size → step ≡ (turned mid.stage mid.told news).step → now ≡ turned_at mid news → Stepped r (Moved step) now
steps_news r mid now wanted kind size place bytes news step a w p b e m s same =
    rw (same, s, m) (leads_news r wanted kind size news a w (same_reply r wanted kind size place bytes p b ∙ e), smaller r kind size w)

pub refused_message : (r : Reached) (wanted : Wanted) (kind size place : ℕ) (bytes : List ℕ) (error : WireError) → Awaits r.stage (Some wanted) → IsWhole r.rest kind size → place ≡ r.place → bytes ≡ r.rest
    → (error ≡ OutOfMemory) ⊎ (reply wanted place kind (slice_range bytes 5 size) ≡ Err error) → StepRefused r error
refused_message r wanted kind size place bytes error a w p b (inl h) = inl h
refused_message r wanted kind size place bytes error a w p b (inr h) =
    let e : reply wanted r.place kind (slice_range r.rest 5 size) ≡ Err error = same_reply r wanted kind size place bytes p b ∙ h in
    inr (
      said_by wanted r.place kind (slice_range r.rest 5 size) error e,
      λ more. at_refused r.stage r.told wanted r.place r.place kind (slice_range r.rest 5 size) (said r.place (r.rest ++ more)) (said (r.place + size) (drop size r.rest ++ more)) error a (says_whole r.place kind size r.rest more w) e,
    )

pub refused_length : (r : Reached) (wanted : Wanted) (place : ℕ) (bytes : List ℕ) (error : WireError) → Awaits r.stage (Some wanted) → place ≡ r.place → bytes ≡ r.rest → first_of bytes ≡ TooSmall → error ≡ BadReply place → StepRefused r error
refused_length r wanted place bytes error a p b f e = inr (
  ap is_said e,
  λ more.
      at_broken r.stage r.told wanted r.place r.place (said r.place (r.rest ++ more)) a (says_broken r.place r.rest more (ap first_of (sym b) ∙ f)) ∙ ap (λ (x : WireError). only (Refused x)) (ap BadReply (sym p) ∙ sym e),
)

pub pauses : (r : Reached) (wanted : Wanted) (bytes : List ℕ) → Awaits r.stage (Some wanted) → bytes ≡ r.rest → first_of bytes ≡ Unfinished → course_from r [] ≡ pause r
pauses r wanted bytes a b f =
    at_silent r.stage r.told wanted r.place (r.place + length r.rest) (said r.place (r.rest ++ [])) a (ap (said r.place) (append-nil r.rest) ∙ says_nothing r.place r.rest (ap first_of (sym b) ∙ f))

pauses_at : (stage : Stage) (told : Told) (p q : ℕ) (s : Said) → Awaits stage None → course_at stage told p s ≡ only (pause_at stage q)
pauses_at (Opening n) told p q s a = absurd a
pauses_at Rows told p q s a = absurd a
pauses_at (Closing n) told p q s a = absurd a
pauses_at Over told p q s a = refl

pub pauses_over : (r : Reached) → Awaits r.stage None → course_from r [] ≡ pause r
pauses_over r a = pauses_at r.stage r.told r.place (r.place + length r.rest) (said r.place (r.rest ++ [])) a

-- ---- any number of messages

pub leads_self : (r : Reached) → Leads r None r
leads_self r = record { ahead = λ g given more. refl; has = λ g given. given; may = λ g given. tt; count = refl }

pub leads_then : (a b c : Reached) (step : Option SnapStep) → Leads a None b → Leads b step c → Leads a step c
leads_then a b c step p q = record {
  ahead = λ g given more. p.ahead g given more ∙ q.ahead g (p.has g given) more;
  has = λ g given. q.has g (p.has g given);
  may = λ g given. q.may g (p.has g given);
  count = p.count ∙ q.count;
}

not_done : (g : Given) (step : Option SnapStep) → (with_step g step).done ≡ false → g.done ≡ false
not_done g None d = d
not_done g (Some (steps.Head head)) d = d
not_done g (Some (steps.Row row)) d = d
not_done g (Some steps.Done) d = absurd cc

pub took_then : (fed : List ℕ) (g : Given) (old new : Reached) (step : Option SnapStep) → Took fed g old → Leads old step new → Took fed (with_step g step) new
took_then fed g old new step t l = record {
  ahead = λ more. t.ahead more ∙ l.ahead g t.has more;
  has = l.has g t.has;
  count = λ d. sym l.count ∙ t.count (not_done g step d);
}

-- ---- more bytes

pub took_new : Took [] nothing_given (record { place = 0; rest = []; stage = Opening 0; told = nothing_told })
took_new = record { ahead = λ more. refl; has = refl; count = λ d. refl }

pub took_fed : (fed piece rest : List ℕ) (g : Given) (old : Reached) → rest ≡ old.rest ++ piece → Took fed g old → Took (fed ++ piece) g (record old { rest = rest })
took_fed fed piece rest g old e t = record {
  ahead = λ more.
      ap course_of (append_assoc fed piece more) ∙ t.ahead (piece ++ more)
      ∙ ap (λ (bytes : List ℕ). after g (course_at old.stage old.told old.place (said old.place bytes))) (sym (append_assoc old.rest piece more) ∙ ap (λ (bytes : List ℕ). bytes ++ more) (sym e));
  has = t.has;
  count = λ d. omega (arith, t.count d, ap length e, length-append old.rest piece, length-append fed piece);
}

over_same : (stage : Stage) (told : Told) (p : ℕ) (s t : Said) → stage ≡ Over → course_at stage told p s ≡ course_at stage told p t
over_same stage told p s t e = ap (λ (x : Stage). course_at x told p s) e ∙ sym (ap (λ (x : Stage). course_at x told p t) e)

pub took_over : (fed piece : List ℕ) (g : Given) (r : Reached) → r.stage ≡ Over → Took fed g r → Took (fed ++ piece) g r
took_over fed piece g r e t =
    let last : HasGiven Over g = subst (λ (x : Stage). HasGiven x g) e t.has in
    record {
      ahead = λ more.
          ap course_of (append_assoc fed piece more) ∙ t.ahead (piece ++ more)
          ∙ ap (after g) (over_same r.stage r.told r.place (said r.place (r.rest ++ (piece ++ more))) (said r.place (r.rest ++ more)) e);
      has = t.has;
      count = λ d. absurd (let k = sym d ∙ last.1 in cc);
    }

-- ---- what is known of the course

or_none : (o : Option SnapHead) → option_or o None ≡ o
or_none None = refl
or_none (Some head) = refl

plain : (g : Given) (stand : Stand) → after g (only stand) ≡ as_given g stand
plain g stand = rw (or_none g.head, append-nil g.rows) refl

stands : (stage : Stage) (g : Given) (n m : ℕ) → HasGiven stage g → (g.done ≡ false → n ≡ m) → pause_at stage n ≡ open_stand g.done m
stands (Opening k) g n m h e = let d : g.done ≡ false = ap (λ (x : Given). x.done) h in rw (d, e d) refl
stands Rows g n m h e = rw (h.1, e h.1) refl
stands (Closing k) g n m h e = rw (h.1, e h.1) refl
stands Over g n m h e = rw h.1 refl

pub took_all : (fed : List ℕ) (g : Given) (now : Reached) → Took fed g now → course_from now [] ≡ pause now → course_of fed ≡ as_given g (open_stand g.done (length fed))
took_all fed g now t p =
    ap course_of (sym (append-nil fed)) ∙ t.ahead [] ∙ ap (after g) p ∙ plain g (pause_at now.stage (now.place + length now.rest))
    ∙ ap (as_given g) (stands now.stage g (now.place + length now.rest) (length fed) t.has t.count)

pub took_refused : (fed more : List ℕ) (g : Given) (now : Reached) (error : WireError) → Took fed g now → ((more : List ℕ) → course_from now more ≡ only (Refused error)) → course_of (fed ++ more) ≡ as_given g (Refused error)
took_refused fed more g now error t h = t.ahead more ∙ ap (after g) (h more) ∙ plain g (Refused error)

some_or : (o p : Option SnapHead) → is_some o ≡ true → option_or o p ≡ o
some_or None p e = absurd cc
some_or (Some head) p e = refl

done_at : (stage : Stage) (told : Told) (p : ℕ) (s : Said) (g : Given) → HasGiven stage g → g.done ≡ true → after g (course_at stage told p s) ≡ as_given g Done
done_at (Opening n) told p s g h d = absurd (let k = sym (ap (λ (x : Given). x.done) h) ∙ d in cc)
done_at Rows told p s g h d = absurd (let k = sym h.1 ∙ d in cc)
done_at (Closing n) told p s g h d = absurd (let k = sym h.1 ∙ d in cc)
done_at Over told p s g h d = plain g Done

front_at : (now : Reached) (g : Given) (more : List ℕ) → HasGiven now.stage g → IsFront g (after g (course_from now more))
front_at now g more h = record {
  head = λ e. some_or g.head (course_from now more).head e;
  rows = ((course_from now more).rows, refl);
  done = λ d. done_at now.stage now.told now.place (said now.place (now.rest ++ more)) g h d;
}

pub took_front : (fed more : List ℕ) (g : Given) (now : Reached) → Took fed g now → IsFront g (course_of (fed ++ more))
took_front fed more g now t = subst (IsFront g) (sym (t.ahead more)) (front_at now g more t.has)

over_by : (stage : Stage) (g : Given) → HasGiven stage g → g.done ≡ true → stage ≡ Over
over_by (Opening n) g h d = absurd (let k = sym (ap (λ (x : Given). x.done) h) ∙ d in cc)
over_by Rows g h d = absurd (let k = sym h.1 ∙ d in cc)
over_by (Closing n) g h d = absurd (let k = sym h.1 ∙ d in cc)
over_by Over g h d = refl

pub took_done : (fed : List ℕ) (g : Given) (now : Reached) → Took fed g now → g.done ≡ true → now.stage ≡ Over
took_done fed g now t d = over_by now.stage g t.has d
