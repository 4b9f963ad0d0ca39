-- What the rounds of a play come to, one for each record.
use Rattle.std.proofs.Common.{◌≡◌, ℕ, Bool, true, false, List, [], ◌∷◌, ◌++◌, length, take, Some, None, refl, sym, ap, subst, ◌∙◌, append_assoc, arith}
use Rattle.std.specs.Prelude.{Ok, Err}
use Rattle.std.proofs.lemmas.List.{append-nil, length-append}
use Rattle.std.proofs.lemmas.Grind.{flat_map-append}
use Rattle.std.proofs.Math.Seq.{drop-length}
use Rattle.shape_base.specs.Outside.{AddsFront}
use Rattle.shape_base.specs.declared.limits.Limits.{Limits}
use Rattle.core_events.specs.declared.out.Out.{Out}
use Rattle.script.specs.declared.reading.ReadStop.{ReadStop}
use Rattle.script.specs.declared.reading.ReadStop.TheVariants as reads
use Rattle.script.specs.Records.{Item}
use Rattle.script.specs.Items.{item_at, items_of}
use Rattle.script.specs.Lines.{out_text, outs_text}
use Rattle.script.specs.Reading.{Consumes, since}
use Rattle.script.proofs.Filling.{seen_of, since_step}
use Rattle.script_play.specs.declared.playing.Stage.{Stage}
use Rattle.script_play.specs.declared.stop.Stop.{Stop}
use Rattle.script_play.specs.declared.stop.Stop.TheVariants as stops
use Rattle.script_play.specs.Settings.{AreLimits}
use Rattle.script_play.specs.Script.{size_of}
use Rattle.script_play.specs.Played.{Ending, Ended, Refused, TooMany, Unended, IsPlayed, last_line, text_of}
use Rattle.script_play.specs.Playing.{IsStaged, IsSound, IsNextStage, IsLast, IsEnd, IsCutShort, IsTurn}
use Rattle.script_play.specs.Replaying.{stop_of_read, answer_for, IsWhole, IsPart, IsReadOff, CameOut}
use Rattle.script_play.proofs.ItemLists.{no_items, one_item}
use Rattle.script_play.proofs.Turns.{unended, under_staged}

-- ---- what was written

-- where the sink tells, so much was written since the start
abbrev pub Whole : Bool → List ℕ → List ℕ → List ℕ → Type 0
Whole tells old new text = tells ≡ true → new ≡ old ++ text

-- or a front of it
abbrev pub Front : Bool → List ℕ → List ℕ → List ℕ → Type 0
Front tells old new text = tells ≡ true → AddsFront old new text

pub nothing_written : (tells : Bool) (old : List ℕ) → Whole tells old old []
nothing_written tells old t = sym (append-nil old)

whole_more : (tells : Bool) (old now new a b : List ℕ) → Whole tells old now a → Whole tells now new b → Whole tells old new (a ++ b)
whole_more tells old now new a b h k t = k t ∙ ap (λ xs. xs ++ b) (h t) ∙ append_assoc old a b

whole_front : (old now new a b : List ℕ) → now ≡ old ++ a → AddsFront now new b → AddsFront old new (a ++ b)
whole_front old now new a b h k = record {
  longer = omega (arith, k.longer, ap length h, length-append old a);
  more = k.more;
  whole = k.whole ∙ ap (λ xs. xs ++ b) h ∙ append_assoc old a b;
}

front_more : (tells : Bool) (old now new a b : List ℕ) → Whole tells old now a → Front tells now new b → Front tells old new (a ++ b)
front_more tells old now new a b h k t = whole_front old now new a b (h t) (k t)

outs_append : (outs now : List Out) → outs_text (outs ++ now) ≡ outs_text outs ++ outs_text now
outs_append outs now = flat_map-append out_text outs now

text_append : (outs now : List Out) (ending : Ending) → text_of (outs ++ now) ending ≡ outs_text outs ++ text_of now ending
text_append outs now ending = ap (λ xs. xs ++ last_line ending) (outs_append outs now) ∙ append_assoc (outs_text outs) (outs_text now) (last_line ending)

whole_no_more : (tells : Bool) (old now new a : List ℕ) → Whole tells old now a → Whole tells now new [] → Whole tells old new a
whole_no_more tells old now new a h k = subst (Whole tells old new) (append-nil a) (whole_more tells old now new a [] h k)

-- ---- a round

-- The bytes that were read are whole records, which are played, and what they put out was written.
pub record IsRound (words : List (List ℕ)) (seen : List ℕ) (stage : Stage) (Writes : List ℕ → Type 0) : Type 0 where
  pub first : List Item
  pub outs : List Out
  pub items : (rest : List ℕ) → items_of (seen ++ rest) ≡ first ++ items_of rest
  pub staged : IsStaged words stage.declared.items stage.core (length seen) first outs
  pub written : Writes (outs_text outs)

pub first_round : (words : List (List ℕ)) (stage : Stage) (given : List ℕ) (Writes : List ℕ → Type 0) → IsStaged words stage.declared.items stage.core 0 [] [] → Writes [] → IsRound words (since given given) stage Writes
first_round words stage given Writes staged written =
    let none : since given given ≡ [] = drop-length given in
    record {
      first = [];
      outs = [];
      items = λ rest. ap (λ (xs : List ℕ). items_of (xs ++ rest)) none;
      staged = subst (λ (n : ℕ). IsStaged words stage.declared.items stage.core n [] []) (sym (ap length none)) staged;
      written = written;
    }

-- the records of what was read so far and of what comes with the next one
items_on : (words : List (List ℕ)) (seen piece rest : List ℕ) (stage : Stage) (Writes : List ℕ → Type 0) (item : Item) (r : IsRound words seen stage Writes) → ((rest : List ℕ) → item_at (piece ++ rest) ≡ Some (item, rest))
    → items_of ((seen ++ piece) ++ rest) ≡ r.first ++ item ∷ items_of rest
items_on words seen piece rest stage Writes item r next =
    ap items_of (append_assoc seen piece rest) ∙ r.items (piece ++ rest) ∙ ap (λ (xs : List Item). r.first ++ xs) (one_item (piece ++ rest) item rest (next rest))

pub next_round : (words : List (List ℕ)) (seen piece both old now new : List ℕ) (tells : Bool) (stage stage' : Stage) (item : Item) (place : ℕ) (r : IsRound words seen stage (Whole tells old now)) → both ≡ seen ++ piece → length piece ≡ size_of item → place ≡ length seen
    → ((rest : List ℕ) → item_at (piece ++ rest) ≡ Some (item, rest)) → IsNextStage words stage' place r.first item r.outs (Whole tells now new) → IsRound words both stage' (Whole tells old new)
next_round words seen piece both old now new tells stage stage' item place r is size at next n = record {
  first = r.first ++ item ∷ [];
  outs = r.outs ++ n.now;
  items = λ rest. ap (λ (xs : List ℕ). items_of (xs ++ rest)) is ∙ items_on words seen piece rest stage (Whole tells old now) item r next ∙ sym (append_assoc r.first (item ∷ []) (items_of rest));
  staged = subst (λ (n' : ℕ). IsStaged words stage'.declared.items stage'.core n' (r.first ++ item ∷ []) (r.outs ++ n.now)) (omega (arith, ap length is, length-append seen piece, size, at)) n.staged;
  written = subst (Whole tells old new) (sym (outs_append r.outs n.now)) (whole_more tells old now new (outs_text r.outs) (outs_text n.now) r.written n.written);
}

-- ---- no further record

-- the records so far are played as far as they come
played_so_far : (words : List (List ℕ)) (seen : List ℕ) (stage : Stage) (Writes : List ℕ → Type 0) (l : Limits) (r : IsRound words seen stage Writes) → IsSound stage → AreLimits words l → IsPlayed words r.first r.outs Unended
played_so_far words seen stage Writes l r sound limits = unended words stage.declared.items _ (length seen) r.first r.outs (under_staged words stage.declared.items l stage.core (length seen) r.first r.outs sound.keys limits r.staged)

unended_text : (words : List (List ℕ)) (seen : List ℕ) (stage : Stage) (Writes : List ℕ → Type 0) (r : IsRound words seen stage Writes) → Writes (text_of r.outs Unended)
unended_text words seen stage Writes r = subst Writes (sym (append-nil (outs_text r.outs))) r.written

-- all records that are there were read
pub all_read : (words : List (List ℕ)) (seen piece : List ℕ) (items : List Item) (stage : Stage) (Writes : List ℕ → Type 0) (Ends : Ending → Type 0) (l : Limits) (r : IsRound words seen stage Writes) → IsSound stage → AreLimits words l
    → items ≡ items_of (seen ++ piece) → item_at piece ≡ None → Ends Unended → IsWhole words items Ends Writes
all_read words seen piece items stage Writes Ends l r sound limits are none ends = record {
  outs = r.outs;
  ending = Unended;
  ends = ends;
  played = subst (λ (is : List Item). IsPlayed words is r.outs Unended) (sym (are ∙ r.items piece ∙ ap (λ (xs : List Item). r.first ++ xs) (no_items piece none) ∙ append-nil r.first)) (played_so_far words seen stage Writes l r sound limits);
  written = unended_text words seen stage Writes r;
}

-- reading failed before a further record
pub read_off : (words : List (List ℕ)) (seen piece rest : List ℕ) (items read : List Item) (stage : Stage) (Writes : List ℕ → Type 0) (l : Limits) (r : IsRound words seen stage Writes) → IsSound stage → AreLimits words l
    → items ≡ items_of ((seen ++ piece) ++ rest) → read ≡ items_of (seen ++ piece) → item_at piece ≡ None → IsReadOff words items read Writes
read_off words seen piece rest items read stage Writes l r sound limits are came none = record {
  others = items_of (piece ++ rest);
  are = are ∙ ap items_of (append_assoc seen piece rest) ∙ r.items (piece ++ rest) ∙ ap (λ (xs : List Item). xs ++ items_of (piece ++ rest)) (sym (came ∙ r.items piece ∙ ap (λ (xs : List Item). r.first ++ xs) (no_items piece none) ∙ append-nil r.first));
  whole = all_read words seen piece read stage Writes (λ ending. ending ≡ Unended) l r sound limits came none refl;
}

-- some records were played
some_played : (words : List (List ℕ)) (seen rest : List ℕ) (items : List Item) (stage : Stage) (Writes : List ℕ → Type 0) (l : Limits) (r : IsRound words seen stage Writes) → IsSound stage → AreLimits words l → items ≡ items_of (seen ++ rest) → IsPart words items Writes
some_played words seen rest items stage Writes l r sound limits are = record {
  first = r.first;
  others = items_of rest;
  are = are ∙ r.items rest;
  outs = r.outs;
  ending = Unended;
  played = played_so_far words seen stage Writes l r sound limits;
  written = unended_text words seen stage Writes r;
}

-- ---- a record that ends it

-- all of its text was written
ended_by : (words : List (List ℕ)) (seen piece rest old now new line : List ℕ) (items : List Item) (tells : Bool) (stage : Stage) (item : Item) (ending : Ending) (Ends : Ending → Type 0) (r : IsRound words seen stage (Whole tells old now))
    → items ≡ items_of ((seen ++ piece) ++ rest) → ((rest : List ℕ) → item_at (piece ++ rest) ≡ Some (item, rest)) → IsLast words r.first item r.outs ending → line ≡ last_line ending → Whole tells now new line → Ends ending → IsWhole words items Ends (Whole tells old new)
ended_by words seen piece rest old now new line items tells stage item ending Ends r are next last is written ends = record {
  outs = r.outs;
  ending = ending;
  ends = ends;
  played = subst (λ (xs : List Item). IsPlayed words xs r.outs ending) (sym (are ∙ items_on words seen piece rest stage (Whole tells old now) item r next)) (last.played (items_of rest));
  written = subst (λ (xs : List ℕ). Whole tells old new (outs_text r.outs ++ xs)) is (whole_more tells old now new (outs_text r.outs) line r.written written);
}

cut_short : (words : List (List ℕ)) (seen piece rest old now new : List ℕ) (items : List Item) (tells : Bool) (stage : Stage) (item : Item) (r : IsRound words seen stage (Whole tells old now))
    → items ≡ items_of ((seen ++ piece) ++ rest) → ((rest : List ℕ) → item_at (piece ++ rest) ≡ Some (item, rest)) → IsCutShort words r.first item r.outs (Front tells now new) → IsPart words items (Front tells old new)
cut_short words seen piece rest old now new items tells stage item r are next cut = record {
  first = r.first ++ item ∷ [];
  others = items_of rest;
  are = are ∙ items_on words seen piece rest stage (Whole tells old now) item r next ∙ sym (append_assoc r.first (item ∷ []) (items_of rest));
  outs = r.outs ++ cut.now;
  ending = cut.ending;
  played = cut.played;
  written = subst (Front tells old new) (sym (text_append r.outs cut.now cut.ending)) (front_more tells old now new (outs_text r.outs) (text_of cut.now cut.ending) r.written cut.written);
}

-- nothing was written for want of memory
lost_memory : (words : List (List ℕ)) (seen rest old now new : List ℕ) (items : List Item) (tells : Bool) (stage : Stage) (l : Limits) (r : IsRound words seen stage (Whole tells old now)) → IsSound stage → AreLimits words l
    → items ≡ items_of (seen ++ rest) → Whole tells now new [] → IsPart words items (Whole tells old new)
lost_memory words seen rest old now new items tells stage l r sound limits are none = record {
  first = r.first;
  others = items_of rest;
  are = are ∙ r.items rest;
  outs = r.outs;
  ending = Unended;
  played = played_so_far words seen stage (Whole tells old now) l r sound limits;
  written = whole_no_more tells old now new (text_of r.outs Unended) (unended_text words seen stage (Whole tells old now) r) none;
}

-- the stage stands at a place
pub staged_at : (words : List (List ℕ)) (seen : List ℕ) (stage : Stage) (Writes : List ℕ → Type 0) (place : ℕ) (r : IsRound words seen stage Writes) → length seen ≡ place → IsStaged words stage.declared.items stage.core place r.first r.outs
staged_at words seen stage Writes place r at = subst (λ (n : ℕ). IsStaged words stage.declared.items stage.core n r.first r.outs) at r.staged

pub record_ends : (words : List (List ℕ)) (seen piece rest old now new : List ℕ) (items read : List Item) (longer tells : Bool) (stage : Stage) (item : Item) (u : Unit {0}) (r : IsRound words seen stage (Whole tells old now))
    → items ≡ items_of ((seen ++ piece) ++ rest) → ((rest : List ℕ) → item_at (piece ++ rest) ≡ Some (item, rest)) → IsEnd words r.first item r.outs (Whole tells now new) → CameOut words items read longer (Whole tells old new) (Front tells old new) (Ok u)
record_ends words seen piece rest old now new items read longer tells stage item u r are next e = ended_by words seen piece rest old now new _ items tells stage item (Ended e.exchanges) (λ ending. answer_for ending longer ≡ Ok u) r are next e.last refl e.written refl

pub record_stops : (words : List (List ℕ)) (seen piece rest old now new : List ℕ) (items read : List Item) (longer tells : Bool) (stage stage' : Stage) (item : Item) (l : Limits) (place : ℕ) (stop : Stop) (r : IsRound words seen stage (Whole tells old now)) → IsSound stage → AreLimits words l
    → items ≡ items_of ((seen ++ piece) ++ rest) → ((rest : List ℕ) → item_at (piece ++ rest) ≡ Some (item, rest)) → IsTurn words place r.first item r.outs (Whole tells now new) (Front tells now new) stage' (Err stop)
    → CameOut words items read longer (Whole tells old new) (Front tells old new) (Err stop)
record_stops words seen piece rest old now new items read longer tells stage stage' item l place stops.OutOfMemory r sound limits are next turn = lost_memory words seen (piece ++ rest) old now new items tells stage l r sound limits (are ∙ ap items_of (append_assoc seen piece rest)) turn
record_stops words seen piece rest old now new items read longer tells stage stage' item l place stops.WriteFault r sound limits are next turn = cut_short words seen piece rest old now new items tells stage item r are next turn
record_stops words seen piece rest old now new items read longer tells stage stage' item l place stops.ReadFault r sound limits are next turn = absurd turn
record_stops words seen piece rest old now new items read longer tells stage stage' item l place stops.Usage r sound limits are next turn = absurd turn
record_stops words seen piece rest old now new items read longer tells stage stage' item l place (stops.BadScript p cause) r sound limits are next turn =
    ended_by words seen piece rest old now new [] items tells stage item (Refused p cause) (λ ending. answer_for ending longer ≡ Err (stops.BadScript p cause)) r are next turn.0 refl turn.1 refl
record_stops words seen piece rest old now new items read longer tells stage stage' item l place stops.Unfinished r sound limits are next turn = absurd turn
record_stops words seen piece rest old now new items read longer tells stage stage' item l place stops.TooLong r sound limits are next turn = absurd turn
record_stops words seen piece rest old now new items read longer tells stage stage' item l place stops.TooManyExchanges r sound limits are next turn =
    ended_by words seen piece rest old now new [] items tells stage item TooMany (λ ending. answer_for ending longer ≡ Err stops.TooManyExchanges) r are next turn.0 refl turn.1 refl

-- ---- the end of what is read

pub stops_short : (words : List (List ℕ)) (items read : List Item) (longer more : Bool) (Writes Cuts : List ℕ → Type 0) → longer ≡ more → IsWhole words items (λ ending. ending ≡ Unended) Writes → more ≡ true → CameOut words items read longer Writes Cuts (Err stops.TooLong)
stops_short words items read longer more Writes Cuts e w t = record { outs = w.outs; ending = w.ending; ends = ap (λ ending. answer_for ending longer) w.ends ∙ ap (answer_for Unended) (e ∙ t); played = w.played; written = w.written }

pub stops_unended : (words : List (List ℕ)) (items read : List Item) (longer more : Bool) (Writes Cuts : List ℕ → Type 0) → longer ≡ more → IsWhole words items (λ ending. ending ≡ Unended) Writes → more ≡ false → CameOut words items read longer Writes Cuts (Err stops.Unfinished)
stops_unended words items read longer more Writes Cuts e w f = record { outs = w.outs; ending = w.ending; ends = ap (λ ending. answer_for ending longer) w.ends ∙ ap (answer_for Unended) (e ∙ f); played = w.played; written = w.written }

-- no further record was read, for want of memory or since reading failed
pub not_read : (words : List (List ℕ)) (seen piece rest old now : List ℕ) (items read : List Item) (longer tells : Bool) (stage : Stage) (l : Limits) (e : ReadStop) (r : IsRound words seen stage (Whole tells old now)) → IsSound stage → AreLimits words l
    → items ≡ items_of ((seen ++ piece) ++ rest) → read ≡ items_of (seen ++ piece) → (e ≡ reads.ReadFault → item_at piece ≡ None) → CameOut words items read longer (Whole tells old now) (Front tells old now) (Err (stop_of_read e))
not_read words seen piece rest old now items read longer tells stage l reads.OutOfMemory r sound limits are came none = some_played words seen (piece ++ rest) items stage (Whole tells old now) l r sound limits (are ∙ ap items_of (append_assoc seen piece rest))
not_read words seen piece rest old now items read longer tells stage l reads.ReadFault r sound limits are came none = read_off words seen piece rest items read stage (Whole tells old now) l r sound limits are came (none refl)

-- what is read of so many bytes is what came, and what still may come
pub items_within : {g l g1 l1 g2 l2 : List ℕ} {b b1 b2 : ℕ} → Consumes g l b g1 l1 b1 → Consumes g1 l1 b1 g2 l2 b2 → items_of (take b l) ≡ items_of ((since g g1 ++ since g1 g2) ++ take b2 l2)
items_within {g} {l} {g1} {l1} {g2} {l2} {b} {b1} {b2} c d = ap items_of (seen_of c ∙ ap (λ (xs : List ℕ). since g g1 ++ xs) (seen_of d) ∙ sym (append_assoc (since g g1) (since g1 g2) (take b2 l2)))

-- where nothing more comes, that is all
pub items_all : {g l g1 l1 g2 l2 : List ℕ} {b b1 b2 : ℕ} → Consumes g l b g1 l1 b1 → Consumes g1 l1 b1 g2 l2 b2 → take b2 l2 ≡ [] → items_of (take b l) ≡ items_of (since g g1 ++ since g1 g2)
items_all {g} {l} {g1} {l1} {g2} c d none = items_within c d ∙ ap (λ (xs : List ℕ). items_of ((since g g1 ++ since g1 g2) ++ xs)) none ∙ ap items_of (append-nil (since g g1 ++ since g1 g2))

pub items_read : {g l g1 l1 : List ℕ} {b b1 : ℕ} (g2 : List ℕ) → Consumes g l b g1 l1 b1 → g2 ≡ g1 ++ since g1 g2 → items_of (since g g2) ≡ items_of (since g g1 ++ since g1 g2)
items_read {g} {l} {g1} g2 c e = ap items_of (since_step g2 (since g1 g2) c e)
