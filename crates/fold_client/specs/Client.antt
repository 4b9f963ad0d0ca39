-- The folding client: what it holds, and what it makes of a reply.
use Rattle.std.specs.Prelude.{◌≡◌, ℕ, Bool, true, false, not, ◌&&◌, ◌||◌, ◌==◌, nat_lt, if◌then◌else◌, List, Option, None, Some, IfSome, is_none}
use Rattle.std.specs.FinMap as fin
use Rattle.shape_base.specs.declared.offset.Offset.{Offset}
use Rattle.shape_base.specs.declared.offset.Offset.TheVariants.{Start, At}
use Rattle.shape_base.specs.declared.entry.Entry.{Entry}
use Rattle.shape_base.specs.declared.handle.Handle.{Handle}
use Rattle.shape_base.specs.declared.reply.Reply.{Reply}
use Rattle.shape_base.specs.Tables.{same_text}
use Rattle.shape_base.specs.Shape.{Map}
use Rattle.shape_base.specs.Offsets.{rises_after, end_from}
use Rattle.shape_base.specs.Log.{fold_from, first_fault, last_offset}
use Rattle.shape_json.specs.declared.control.Control.{Control}
use Rattle.shape_json.specs.declared.control.Control.TheVariants as controls
use Rattle.shape_json.specs.Body.{body_text}
use Rattle.fold_client.specs.declared.body.Body.{Body}
use Rattle.shape_json.specs.Plain.{ArePlain}
use Rattle.shape_json.specs.Reading.{HaveOffsets}

-- What a client holds: its handle, the one that it left, where its next page begins, the cursor of an up-to-date reply that it took last, and its rows.
pub record Held : Type 0 where
  pub handle : Option Handle
  pub left : Option Handle
  pub offset : Offset
  pub cursor : Option ℕ
  pub rows : Map

abbrev pub nothing_held : Held
nothing_held = record { handle = None; left = None; offset = Start; cursor = None; rows = fin.empty }

-- ---- what a body says

-- What the text of a body says: nothing, or its entries and its control. What was written of plain entries says just these.
pub record Says (text : List ℕ) (body : Option Body) : Type 0 where
  pub read : IfSome body (λ b. (text ≡ body_text b.entries b.control) × ArePlain b.entries × HaveOffsets b.entries)
  pub back : (entries : List Entry) (control : Control) → ArePlain entries → HaveOffsets entries → text ≡ body_text entries control → body ≡ Some (record { entries = entries; control = control })

abbrev pub is_refetch : Control → Bool
is_refetch controls.Nothing = false
is_refetch controls.UpToDate = false
is_refetch controls.MustRefetch = true

abbrev pub is_current : Control → Bool
is_current controls.Nothing = false
is_current controls.UpToDate = true
is_current controls.MustRefetch = false

-- ---- what a client makes of a reply

pub data Outcome : Type 0 where
  UpToDate : Outcome
  More : Outcome
  Refetch : Outcome
  ServerRefused : (status : ℕ) → Outcome
  BadReply : Outcome
  ForeignHandle : (asked got : Handle) → Outcome
  BadFold : (offset : Offset) (key : List ℕ) → Outcome

-- what it holds then, and what it answers
pub record After : Type 0 where
  pub held : Held
  pub outcome : Outcome

-- a refusal leaves what it holds
abbrev pub refused : Held → Outcome → After
refused c outcome = record { held = c; outcome = outcome }

-- a handle is above the one that was left: it is of another run, or has a greater number
abbrev pub is_above : Handle → Handle → Bool
is_above left h = not (same_text h.run left.run) || nat_lt left.number h.number

-- the handle that a conflict leads to, by the one that was left
abbrev pub next_handle : Option Handle → Option Handle → Option Handle
next_handle left None = None
next_handle None (Some h) = Some h
next_handle (Some l) (Some h) = if is_above l h then Some h else None

-- the handle that a conflict leaves: the present one, or else the one that was left before
abbrev pub left_by : Option Handle → Option Handle → Option Handle
left_by None left = left
left_by (Some h) left = Some h

-- it starts again
abbrev pub begun_anew : Option Handle → Option Handle → Held
begun_anew left named = record { handle = next_handle left named; left = left; offset = Start; cursor = None; rows = fin.empty }

-- a conflict, which may name another handle
abbrev pub refetched : Held → Option Handle → After
refetched c named = record { held = begun_anew (left_by c.handle c.left) named; outcome = Refetch }

-- a page without a present handle names the one that was left, or one before it
abbrev pub comes_back : Option Handle → Option Handle → Option Handle → Bool
comes_back (Some h) left got = false
comes_back None None got = false
comes_back None (Some l) None = false
comes_back None (Some l) (Some h) = not (is_above l h)

abbrev pub same_offset : Offset → Offset → Bool
same_offset Start Start = true
same_offset Start (At b j) = false
same_offset (At a i) Start = false
same_offset (At a i) (At b j) = (a == b) && (i == j)

-- Must-refetch, up to date without a cursor, offsets that do not rise from the one that was asked for, or another end than the last entry's.
abbrev pub is_bad : Offset → Offset → Option ℕ → Body → Bool
is_bad asked end cursor body = is_refetch body.control || ((is_current body.control && is_none cursor) || (not (rises_after asked body.entries) || not (same_offset end (last_offset (end_from asked) body.entries))))

abbrev pub same_handle : Handle → Handle → Bool
same_handle a b = (a.number == b.number) && same_text a.run b.run

-- the refusal at the first entry that does not find what it needs
abbrev pub fault_at : Option Entry → Outcome
fault_at None = More
fault_at (Some e) = BadFold e.offset e.key

-- the page is taken where its entries can be folded
abbrev pub with_rows : Held → Handle → Offset → Option ℕ → Body → Option Map → After
with_rows c h end cursor body None = refused c (fault_at (first_fault body.entries c.rows))
with_rows c h end cursor body (Some rows) = record {
  held = record { handle = Some h; left = c.left; offset = end; cursor = if is_current body.control then cursor else None; rows = rows };
  outcome = if is_current body.control then UpToDate else More;
}

abbrev pub with_handle : Held → Option Handle → Handle → Offset → Option ℕ → Body → After
with_handle c None h end cursor body = with_rows c h end cursor body (fold_from body.entries c.rows)
with_handle c (Some asked) h end cursor body = if same_handle asked h then with_rows c h end cursor body (fold_from body.entries c.rows) else refused c (ForeignHandle asked h)

abbrev pub with_parts : Held → Option ℕ → Option Handle → Option Offset → Option Body → After
with_parts c cursor None end body = refused c BadReply
with_parts c cursor (Some h) None body = refused c BadReply
with_parts c cursor (Some h) (Some end) None = refused c BadReply
with_parts c cursor (Some h) (Some end) (Some body) = if is_bad c.offset end cursor body then refused c BadReply else with_handle c c.handle h end cursor body

-- What a client makes of a reply whose body says this.
abbrev pub take_reply : Held → Reply → Option Body → After
take_reply c reply body = if reply.status == 409 then refetched c reply.handle
    else if reply.status == 200
    then if comes_back c.handle c.left reply.handle then refetched c None else with_parts c reply.cursor reply.handle reply.offset body
    else refused c (ServerRefused reply.status)
