-- The target of a client's next request (RFC 9112, section 3.2).
use Rattle.std.specs.Prelude.{ℕ, List, [], ◌++◌, Option, None, Some, codes, decimal}
use Rattle.std.specs.Option.{option_map}
use Rattle.form_urlencoded.specs.Form.{append_pair}
use Rattle.shape_base.specs.declared.handle.Handle.{Handle}
use Rattle.shape_base.specs.declared.offset.Offset.{Offset}
use Rattle.shape_base.specs.Handle.{handle_text}
use Rattle.shape_base.specs.OffsetText.{offset_text}
use Rattle.fold_client.specs.declared.client.Query.{Query}
use Rattle.fold_client.specs.Client.{Held}

-- the form with one more parameter, where it has a value
abbrev pub with_value : List ℕ → List ℕ → Option (List ℕ) → List ℕ
with_value form name None = form
with_value form name (Some value) = append_pair form name value

-- the handle that was left, where there is no present one
abbrev pub left_alone : Option Handle → Option Handle → Option Handle
left_alone None left = left
left_alone (Some h) left = None

-- after a reply that was up to date: live, with its cursor
abbrev pub with_cursor : List ℕ → Option ℕ → List ℕ
with_cursor form None = form
with_cursor form (Some cursor) = append_pair (append_pair form (codes "live") (codes "true")) (codes "cursor") (decimal cursor)

-- what is asked for
abbrev pub query_form : Query → List ℕ
query_form q = with_value (with_value (append_pair [] (codes "table") q.table) (codes "columns") q.columns) (codes "where") q.clause

-- and of which log, from where on
abbrev pub place_form : List ℕ → Option Handle → Option Handle → Offset → List ℕ
place_form form handle left offset = append_pair (with_value (with_value form (codes "handle") (option_map handle_text handle)) (codes "left") (option_map handle_text left)) (codes "offset") (offset_text offset)

-- The path, and the parameters as a web form: the table, the columns and the clause where the query has them, the present handle or else the one that was left, the offset, and after an up-to-date reply live and its cursor.
abbrev pub target_text : Query → Held → List ℕ
target_text q c = codes "/v1/shape?" ++ with_cursor (place_form (query_form q) c.handle (left_alone c.handle c.left) c.offset) c.cursor
