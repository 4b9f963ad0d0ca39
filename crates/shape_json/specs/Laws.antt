-- Laws over the definitions.
use Rattle.std.specs.Prelude.{◌≡◌, ℕ, ◌+◌, List, [], ◌∷◌, ◌++◌, Option, None, Some, length, map, take, drop, true, false, is_some, if◌then◌else◌}
use Rattle.std.specs.List.{sum, list_any}
use Rattle.shape_base.specs.declared.history.History.{History}
use Rattle.shape_base.specs.declared.offset.Offset.{Offset}
use Rattle.shape_base.specs.declared.entry.Entry.{Entry}
use Rattle.shape_base.specs.declared.handle.Handle.{Handle}
use Rattle.shape_base.specs.declared.ask.Ask.{Ask}
use Rattle.shape_base.specs.declared.change.Tx.{Tx}
use Rattle.shape_base.specs.declared.limits.Limits.{Limits}
use Rattle.shape_base.specs.Tables.{Table, Own, commits_of}
use Rattle.shape_base.specs.Visibility.{Visibility}
use Rattle.shape_base.specs.Snapshot.{Snapshot, IsHonest, shows_last}
use Rattle.shape_base.specs.Shape.{Knows, IsTest, stops}
use Rattle.shape_base.specs.Log.{log_of, log_over, log_taken}
use Rattle.shape_base.specs.Transactions.{meaning}
use Rattle.shape_json.specs.declared.control.Control.{Control}
use Rattle.shape_json.specs.Body.{inner_text, body_text}
use Rattle.shape_json.specs.Plain.{ArePlain}
use Rattle.shape_json.specs.Reading.{HaveOffsets}
use Rattle.shape_json.specs.Page.{Part, page_of, sizes_of, IsPage}
use Rattle.shape_json.specs.Answer.{Situation, Paged, Gone, answer_of, IsPaged, IsGone}
use Rattle.shape_json.specs.ShapeHistory.{Reader, ShapeEvent, Took, snapshot_in, taken, log_after, or_else, first_stop, entries_in, is_passed, drop_at, drop_of}

-- Bodies of plain entries with one text are one body.
abbrev pub BodiesTell : Type 0
BodiesTell = (es fs : List Entry) (c d : Control) → ArePlain es → ArePlain fs → HaveOffsets es → HaveOffsets fs → body_text es c ≡ body_text fs d → (es ≡ fs) × (c ≡ d)

-- The text of entries is as long as their texts together, and a comma for each but one.
abbrev pub SizesAdd : Type 0
SizesAdd = (e : Entry) (es : List Entry) → length (inner_text (e ∷ es)) ≡ sum (sizes_of (e ∷ es)) + length es

-- The log of a shape's history is the log that a server keeps, where its commits do what those of the history after commit q up to commit n do.
abbrev pub LogIsTaken : Type 0
LogIsTaken = (h : History) (s : Knows) (snapshot : Snapshot) (events : List ShapeEvent) (q n : ℕ) → map meaning (taken events) ≡ map meaning (drop q (take n (commits_of h.steps)))
    → log_after s snapshot events ≡ log_taken h s snapshot.visibility snapshot.rows q n

-- Where the snapshot is honest for k and shows the last commit taken before it, that log is the log of the definitions.
abbrev pub LogIsOf : Type 0
LogIsOf = (h : History) (s : Knows) (snapshot : Snapshot) (events : List ShapeEvent) (k q n : ℕ) → map meaning (taken events) ≡ map meaning (drop q (take n (commits_of h.steps)))
    → IsHonest h s.definition.table snapshot k q → shows_last h snapshot.visibility q ≡ true → log_after s snapshot events ≡ log_of h s snapshot.rows k n

-- A commit has a cause to stop a shape exactly where some change of it stops the shape.
abbrev pub StopsHaveCause : Type 0
StopsHaveCause = (r : Reader) (lsn : ℕ) (cs : List Own) → is_some (first_stop r lsn cs) ≡ list_any (stops r.knows) cs

-- A page that ends a closed chunk is the same for every later log.
abbrev pub PageStays : Type 0
PageStays = (least : ℕ) (log more : List Entry) (o : Offset) → (page_of least log o).up_to_date ≡ false → page_of least (log ++ more) o ≡ page_of least log o

-- A page is the front of what is past the offset, and all of it where it is up to date.
abbrev pub PageIsFront : Type 0
PageIsFront = (least : ℕ) (log : List Entry) (o : Offset) → IsPage log o (page_of least log o)

-- With one event more a shape is dropped by an earlier event, or else by this one.
abbrev pub DropNext : Type 0
DropNext = (r : Reader) (l : Limits) (events : List ShapeEvent) (event : ShapeEvent) → drop_of r l (events ++ event ∷ []) ≡ or_else (drop_of r l events) (drop_at r l events event)

-- A commit that comes to a ready shape and does not drop it adds nothing to its log, where it is passed over, and else its entries.
abbrev pub TookAdds : Type 0
TookAdds = (r : Reader) (l : Limits) (snapshot : Snapshot) (events : List ShapeEvent) (tx : Tx) (others : ℕ) → snapshot_in events ≡ Some snapshot → drop_of r l (events ++ Took tx others ∷ []) ≡ None
    → log_after r.knows snapshot (events ++ Took tx others ∷ []) ≡ log_after r.knows snapshot events ++ (if is_passed snapshot (taken events) tx then [] else entries_in r.knows tx)

-- The entries of a log are plain.
abbrev pub LogIsPlain : Type 0
LogIsPlain = (h : History) (s : Knows) (snapshot : Table) (k n : ℕ) → IsTest s → ArePlain (log_of h s snapshot k n)

-- The entries of a log over a snapshot and commits are plain.
abbrev pub TakenIsPlain : Type 0
TakenIsPlain = (s : Knows) (v : Visibility) (snapshot : Table) (txs : List Tx) → IsTest s → ArePlain (log_over s v snapshot txs)

-- A page is of a ready handle of the request's identity, after the offset that was asked for.
abbrev pub PagesAreAsked : Type 0
PagesAreAsked = (s : Situation) (ask : Ask) (handle : Handle) (from : Offset) (page : Part) → answer_of s ask ≡ Paged handle from page → IsPaged s ask handle from page

-- Where a handle is gone, the one that is named in its place is ready under the request's identity.
abbrev pub GoneNamesReady : Type 0
GoneNamesReady = (s : Situation) (ask : Ask) (named : Option Handle) → answer_of s ask ≡ Gone named → IsGone s ask named
