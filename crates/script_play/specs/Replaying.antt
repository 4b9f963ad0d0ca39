-- How a script comes out that is read from its bytes, and what is written of it.
use Rattle.std.specs.Prelude.{◌≡◌, ℕ, Bool, true, false, List, ◌++◌, Result, Ok, Err}
use Rattle.core_events.specs.declared.out.Out.{Out}
use Rattle.script.specs.declared.reading.ReadStop.{ReadStop}
use Rattle.script.specs.declared.reading.ReadStop.TheVariants as reads
use Rattle.script.specs.Records.{Item}
use Rattle.script_play.specs.declared.stop.Stop.{Stop}
use Rattle.script_play.specs.declared.stop.Stop.TheVariants as stops
use Rattle.script_play.specs.Played.{Ending, Ended, Refused, TooMany, Unended, IsPlayed, text_of}

-- why no record was read
abbrev pub stop_of_read : ReadStop → Stop
stop_of_read reads.OutOfMemory = stops.OutOfMemory
stop_of_read reads.ReadFault = stops.ReadFault

-- What is answered where a script ends so; longer: there are bytes past the limit.
abbrev pub answer_for : Ending → Bool → Result (Unit {0}) Stop
answer_for (Ended exchanges) longer = Ok tt
answer_for (Refused place cause) longer = Err (stops.BadScript place cause)
answer_for TooMany longer = Err stops.TooManyExchanges
answer_for Unended true = Err stops.TooLong
answer_for Unended false = Err stops.Unfinished

-- these records were played until they ended so, and their whole text was written
pub record IsWhole (words : List (List ℕ)) (items : List Item) (Ends : Ending → Type 0) (Writes : List ℕ → Type 0) : Type 0 where
  pub outs : List Out
  pub ending : Ending
  pub ends : Ends ending
  pub played : IsPlayed words items outs ending
  pub written : Writes (text_of outs ending)

-- the first of these records were played, and so much was written of their text
pub record IsPart (words : List (List ℕ)) (items : List Item) (Writes : List ℕ → Type 0) : Type 0 where
  pub first : List Item
  pub others : List Item
  pub are : items ≡ first ++ others
  pub outs : List Out
  pub ending : Ending
  pub played : IsPlayed words first outs ending
  pub written : Writes (text_of outs ending)

-- the records that were read are the first of these, and their whole text was written
pub record IsReadOff (words : List (List ℕ)) (items read : List Item) (Writes : List ℕ → Type 0) : Type 0 where
  pub others : List Item
  pub are : items ≡ read ++ others
  pub whole : IsWhole words read (λ ending. ending ≡ Unended) Writes

-- How a script of these records came out, of which those were read: by its end, with its whole text; with the whole text of the records that were read, where reading failed;
-- with the whole text of the first records, where memory ran out; or with a front of it, where writing failed.
abbrev pub CameOut : List (List ℕ) → List Item → List Item → Bool → (List ℕ → Type 0) → (List ℕ → Type 0) → Result (Unit {0}) Stop → Type 0
CameOut words items read longer Writes Cuts (Err stops.OutOfMemory) = IsPart words items Writes
CameOut words items read longer Writes Cuts (Err stops.WriteFault) = IsPart words items Cuts
CameOut words items read longer Writes Cuts (Err stops.ReadFault) = IsReadOff words items read Writes
CameOut words items read longer Writes Cuts (Err stops.Usage) = ⊥
CameOut words items read longer Writes Cuts result = IsWhole words items (λ ending. answer_for ending longer ≡ result) Writes
