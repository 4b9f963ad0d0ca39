-- Whatever was written is right.
use Rattle.std.proofs.Common.{◌≡◌, ℕ, Bool, true, List, [], ◌++◌, length, sym, ap, ◌∙◌, arith}
use Rattle.std.specs.Prelude.{Result, Ok, Err}
use Rattle.std.proofs.lemmas.List.{append-nil, length-append}
use Rattle.shape_base.specs.Outside.{AddsFront}
use Rattle.script.specs.Records.{Item}
use Rattle.script_play.specs.declared.stop.Stop.{Stop}
use Rattle.script_play.specs.declared.stop.Stop.TheVariants as stops
use Rattle.script_play.specs.Played.{Ending, text_of}
use Rattle.script_play.specs.Headline.{Headline}
use Rattle.script_play.specs.Replaying.{IsWhole, IsPart, CameOut}
use Rattle.shape_replay.specs.Headline.{IsHeadline}

-- where the sink tells, a text was written since the start; or a front of it
abbrev pub Writes : Bool → List ℕ → List ℕ → List ℕ → Type 0
Writes tells old new text = tells ≡ true → new ≡ old ++ text

abbrev pub Cuts : Bool → List ℕ → List ℕ → List ℕ → Type 0
Cuts tells old new text = tells ≡ true → AddsFront old new text

all_of : (old new text : List ℕ) → new ≡ old ++ text → AddsFront old new text
all_of old new text e = record { longer = omega (arith, ap length e, length-append old text); more = []; whole = append-nil new ∙ e }

of_whole : Headline → (words : List (List ℕ)) (items read others : List Item) (Ends : Ending → Type 0) (tells : Bool) (old new : List ℕ) → tells ≡ true → items ≡ read ++ others → IsWhole words read Ends (Writes tells old new) → IsHeadline words items old new
of_whole law words items read others Ends tells old new t are w = record {
  first = read;
  others = others;
  are = are;
  outs = w.outs;
  ending = w.ending;
  written = all_of old new (text_of w.outs w.ending) (w.written t);
  right = law words read w.outs w.ending w.played;
}

of_part : Headline → (words : List (List ℕ)) (items : List Item) (old new : List ℕ) (W : List ℕ → Type 0) → ((text : List ℕ) → W text → AddsFront old new text) → IsPart words items W → IsHeadline words items old new
of_part law words items old new W front p = record {
  first = p.first;
  others = p.others;
  are = p.are;
  outs = p.outs;
  ending = p.ending;
  written = front (text_of p.outs p.ending) p.written;
  right = law words p.first p.outs p.ending p.played;
}

pub headline_of : Headline → (words : List (List ℕ)) (items read : List Item) (longer tells : Bool) (old new : List ℕ) (answer : Result (Unit {0}) Stop) → tells ≡ true → CameOut words items read longer (Writes tells old new) (Cuts tells old new) answer → IsHeadline words items old new
headline_of law words items read longer tells old new (Ok u) t w = of_whole law words items items [] _ tells old new t (sym (append-nil items)) w
headline_of law words items read longer tells old new (Err stops.OutOfMemory) t p = of_part law words items old new (Writes tells old new) (λ text written. all_of old new text (written t)) p
headline_of law words items read longer tells old new (Err stops.WriteFault) t p = of_part law words items old new (Cuts tells old new) (λ text written. written t) p
headline_of law words items read longer tells old new (Err stops.ReadFault) t r = of_whole law words items read r.others _ tells old new t r.are r.whole
headline_of law words items read longer tells old new (Err stops.Usage) t w = absurd w
headline_of law words items read longer tells old new (Err (stops.BadScript place cause)) t w = of_whole law words items items [] _ tells old new t (sym (append-nil items)) w
headline_of law words items read longer tells old new (Err stops.Unfinished) t w = of_whole law words items items [] _ tells old new t (sym (append-nil items)) w
headline_of law words items read longer tells old new (Err stops.TooLong) t w = of_whole law words items items [] _ tells old new t (sym (append-nil items)) w
headline_of law words items read longer tells old new (Err stops.TooManyExchanges) t w = of_whole law words items items [] _ tells old new t (sym (append-nil items)) w
