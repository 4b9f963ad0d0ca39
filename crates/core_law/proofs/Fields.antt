-- The parts of a client's target are ones that their texts are read back to.
use Rattle.std.proofs.Common.{ℕ, ◌^◌, ◌<◌, Bool, true, false, Option, None, Some, IfSome}
use Rattle.std.specs.Bool.{if◌then◌else◌}
use Rattle.std.specs.Prelude.{◌==◌}
use Rattle.shape_base.specs.declared.handle.Handle.{Handle}
use Rattle.shape_base.specs.declared.offset.Offset.{Offset}
use Rattle.shape_base.specs.declared.reply.Reply.{Reply}
use Rattle.shape_base.specs.Handle.{IsHandle}
use Rattle.shape_base.specs.OffsetText.{IsOffset}
use Rattle.shape_base.specs.Shape.{Map}
use Rattle.shape_base.specs.Log.{fold_from}
use Rattle.fold_client.specs.declared.body.Body.{Body}
use Rattle.fold_client.specs.Client.{Held, nothing_held, is_above, next_handle, left_by, begun_anew, comes_back, is_bad, is_current, same_handle, fault_at, with_rows, with_handle, with_parts, take_reply}

-- what a client holds has texts that are read back
pub record HasFields (c : Held) : Type 0 where
  pub handle : IfSome c.handle IsHandle
  pub left : IfSome c.left IsHandle
  pub offset : IsOffset c.offset
  pub cursor : IfSome c.cursor (λ n. n < 2 ^ 64)

-- a reply gives only such
pub record HasReplyFields (r : Reply) : Type 0 where
  pub handle : IfSome r.handle IsHandle
  pub offset : IfSome r.offset IsOffset
  pub cursor : IfSome r.cursor (λ n. n < 2 ^ 64)

-- ---- a reply is taken

fields_refused : (c : Held) → HasFields c → HasFields c
fields_refused c h = h

left_fields : (handle left : Option Handle) → IfSome handle IsHandle → IfSome left IsHandle → IfSome (left_by handle left) IsHandle
left_fields None left h k = k
left_fields (Some x) left h k = h

next_if : (h : Handle) (b : Bool) → IsHandle h → IfSome (if b then Some h else None) IsHandle
next_if h true is = is
next_if h false is = tt

next_fields : (left named : Option Handle) → IfSome named IsHandle → IfSome (next_handle left named) IsHandle
next_fields left None h = tt
next_fields None (Some x) h = h
next_fields (Some l) (Some x) h = next_if x (is_above l x) h

anew_fields : (left named : Option Handle) → IfSome left IsHandle → IfSome named IsHandle → HasFields (begun_anew left named)
anew_fields left named h k = record { handle = next_fields left named k; left = h; offset = tt; cursor = tt }

cursor_if : (cursor : Option ℕ) (b : Bool) → IfSome cursor (λ n. n < 2 ^ 64) → IfSome (if b then cursor else None) (λ n. n < 2 ^ 64)
cursor_if cursor true h = h
cursor_if cursor false h = tt

rows_fields : (c : Held) (h : Handle) (end : Offset) (cursor : Option ℕ) (body : Body) (rows : Option Map) → HasFields c → IsHandle h → IsOffset end → IfSome cursor (λ n. n < 2 ^ 64) → HasFields (with_rows c h end cursor body rows).held
rows_fields c h end cursor body None f is at counts = f
rows_fields c h end cursor body (Some rows) f is at counts = record { handle = is; left = f.left; offset = at; cursor = cursor_if cursor (is_current body.control) counts }

handle_if : (c : Held) (asked h : Handle) (end : Offset) (cursor : Option ℕ) (body : Body) (b : Bool) → HasFields c → IsHandle h → IsOffset end → IfSome cursor (λ n. n < 2 ^ 64)
    → HasFields (if b then with_rows c h end cursor body (fold_from body.entries c.rows) else Rattle.fold_client.specs.Client.refused c (Rattle.fold_client.specs.Client.ForeignHandle asked h)).held
handle_if c asked h end cursor body true f is at counts = rows_fields c h end cursor body (fold_from body.entries c.rows) f is at counts
handle_if c asked h end cursor body false f is at counts = f

handle_fields : (c : Held) (present : Option Handle) (h : Handle) (end : Offset) (cursor : Option ℕ) (body : Body) → HasFields c → IsHandle h → IsOffset end → IfSome cursor (λ n. n < 2 ^ 64) → HasFields (with_handle c present h end cursor body).held
handle_fields c None h end cursor body f is at counts = rows_fields c h end cursor body (fold_from body.entries c.rows) f is at counts
handle_fields c (Some asked) h end cursor body f is at counts = handle_if c asked h end cursor body (same_handle asked h) f is at counts

parts_if : (c : Held) (h : Handle) (end : Offset) (cursor : Option ℕ) (body : Body) (b : Bool) → HasFields c → IsHandle h → IsOffset end → IfSome cursor (λ n. n < 2 ^ 64)
    → HasFields (if b then Rattle.fold_client.specs.Client.refused c Rattle.fold_client.specs.Client.BadReply else with_handle c c.handle h end cursor body).held
parts_if c h end cursor body true f is at counts = f
parts_if c h end cursor body false f is at counts = handle_fields c c.handle h end cursor body f is at counts

parts_fields : (c : Held) (cursor : Option ℕ) (handle : Option Handle) (end : Option Offset) (body : Option Body) → HasFields c → IfSome handle IsHandle → IfSome end IsOffset → IfSome cursor (λ n. n < 2 ^ 64) → HasFields (with_parts c cursor handle end body).held
parts_fields c cursor None end body f h k l = f
parts_fields c cursor (Some x) None body f h k l = f
parts_fields c cursor (Some x) (Some end) None f h k l = f
parts_fields c cursor (Some x) (Some end) (Some body) f h k l = parts_if c x end cursor body (is_bad c.offset end cursor body) f h k l

page_if : (c : Held) (r : Reply) (body : Option Body) (b : Bool) → HasFields c → HasReplyFields r
    → HasFields (if b then Rattle.fold_client.specs.Client.refetched c None else with_parts c r.cursor r.handle r.offset body).held
page_if c r body true f g = anew_fields (left_by c.handle c.left) None (left_fields c.handle c.left f.handle f.left) tt
page_if c r body false f g = parts_fields c r.cursor r.handle r.offset body f g.handle g.offset g.cursor

taken_if : (c : Held) (r : Reply) (body : Option Body) (a b : Bool) → HasFields c → HasReplyFields r
    → HasFields (if a then Rattle.fold_client.specs.Client.refetched c r.handle else if b then if comes_back c.handle c.left r.handle then Rattle.fold_client.specs.Client.refetched c None else with_parts c r.cursor r.handle r.offset body else Rattle.fold_client.specs.Client.refused c (Rattle.fold_client.specs.Client.ServerRefused r.status)).held
taken_if c r body true b f g = anew_fields (left_by c.handle c.left) r.handle (left_fields c.handle c.left f.handle f.left) g.handle
taken_if c r body false true f g = page_if c r body (comes_back c.handle c.left r.handle) f g
taken_if c r body false false f g = f

pub taken_fields : (c : Held) (r : Reply) (body : Option Body) → HasFields c → HasReplyFields r → HasFields (take_reply c r body).held
taken_fields c r body f g = taken_if c r body (r.status == 409) (r.status == 200) f g

pub nothing_fields : HasFields nothing_held
nothing_fields = record { handle = tt; left = tt; offset = tt; cursor = tt }
