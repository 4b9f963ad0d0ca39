-- The messages and their bytes, in the order and the words of the PostgreSQL manual, 55.9 Logical Replication Message Formats.
use Rattle.std.specs.Prelude.{ℕ, List, ◌⊎◌}
use Rattle.std.proofs.Common.{inl, inr}
use Rattle.byte_format.specs.Format.{Format, Spelling, tagged, unspelled, Branches, branch, no_branch, choice, byte, int32, int64, string, chunk, nothing, counted, counted_past, after, alt, named, ◌&◌}
use Rattle.pgout.specs.declared.message.Field.{Field}
use Rattle.pgout.specs.declared.message.Field.TheVariants.{Null, Unsent, Chars, Binary}
use Rattle.pgout.specs.declared.message.ColumnSent.{ColumnSent}
use Rattle.pgout.specs.declared.message.Before.TheVariants.{Absent, Key, Whole}
use Rattle.pgout.specs.declared.message.Message.{Message}
use Rattle.pgout.specs.declared.message.Message.TheVariants.{Begin, Logical, Commit, Origin, Relation, TypeName, Insert, Update, Delete, Truncate}

-- ---- the parts of messages

-- 55.9 TupleData, a column: Byte1('n') null; or Byte1('u') unchanged and not sent; or Byte1('t') text, or Byte1('b') binary, with Int32 length and the bytes.
abbrev pub sent_field : Field → Spelling
sent_field Null = tagged 110 nothing tt
sent_field Unsent = tagged 117 nothing tt
sent_field (Chars value) = tagged 116 chunk value
sent_field (Binary value) = tagged 98 chunk value

abbrev pub field_branches : Branches Field
field_branches = branch 110 nothing (λ x. Null) (branch 117 nothing (λ x. Unsent) (branch 116 chunk Chars (branch 98 chunk Binary no_branch)))

abbrev pub field : Format Field
field = choice sent_field field_branches

-- 55.9 TupleData: Int16 number of columns, and the columns.
abbrev pub tuple : Format (List Field)
tuple = counted field

abbrev pub column_of : ℕ × (List ℕ × (ℕ × ℕ)) → ColumnSent
column_of x = record { flags = x.0; name = x.1.0; oid = x.1.1.0; modifier = x.1.1.1 }

abbrev pub parts_of : ColumnSent → ℕ × (List ℕ × (ℕ × ℕ))
parts_of c = (c.flags, (c.name, (c.oid, c.modifier)))

-- 55.9 Relation, a column: Int8 flags, String name, Int32 OID of its type, Int32 type modifier.
abbrev pub column : Format ColumnSent
column = named column_of parts_of (byte & string & int32 & int32)

-- an old row, if any, and a new one
abbrev pub Rows : Type 0
Rows = (List Field × List Field) ⊎ ((List Field × List Field) ⊎ List Field)

-- ---- what follows the first byte

-- 55.9 Begin: Byte1('B'), Int64 final LSN, Int64 commit timestamp, Int32 xid.
abbrev pub begin : Format (ℕ × (ℕ × ℕ))
begin = int64 & int64 & int32

-- 55.9 Message: Byte1('M'), Int8 flags, Int64 LSN, String prefix, Int32 length of the content, and the content.
abbrev pub logical : Format (ℕ × (ℕ × (List ℕ × List ℕ)))
logical = byte & int64 & string & chunk

-- 55.9 Commit: Byte1('C'), Int8 flags, Int64 LSN of the commit, Int64 end LSN, Int64 commit timestamp.
abbrev pub commit : Format (ℕ × (ℕ × (ℕ × ℕ)))
commit = byte & int64 & int64 & int64

-- 55.9 Origin: Byte1('O'), Int64 LSN of the commit on the origin server, String name.
abbrev pub origin : Format (ℕ × List ℕ)
origin = int64 & string

-- 55.9 Relation: Byte1('R'), Int32 OID, String namespace, String name, Int8 replica identity, Int16 number of columns, and the columns.
abbrev pub relation : Format (ℕ × (List ℕ × (List ℕ × (ℕ × List ColumnSent))))
relation = int32 & string & string & byte & counted column

-- 55.9 Type: Byte1('Y'), Int32 OID, String namespace, String name.
abbrev pub type_name : Format (ℕ × (List ℕ × List ℕ))
type_name = int32 & string & string

-- 55.9 Insert: Byte1('I'), Int32 OID, Byte1('N'), TupleData of the new row.
abbrev pub insert : Format (ℕ × List Field)
insert = int32 & after 78 tuple

-- 55.9 Update: Byte1('U'), Int32 OID, optionally Byte1('K') and TupleData of the old key or Byte1('O') and TupleData of the old row, Byte1('N'), TupleData of the new row.
abbrev pub update : Format (ℕ × Rows)
update = int32 & alt 75 (tuple & after 78 tuple) (alt 79 (tuple & after 78 tuple) (after 78 tuple))

-- 55.9 Delete: Byte1('D'), Int32 OID, Byte1('K') and TupleData of the old key or Byte1('O') and TupleData of the old row.
abbrev pub delete : Format (ℕ × (List Field ⊎ List Field))
delete = int32 & alt 75 tuple (after 79 tuple)

-- 55.9 Truncate: Byte1('T'), Int32 number of relations, Int8 option bits, and an Int32 OID for each relation.
abbrev pub truncate : Format (ℕ × List ℕ)
truncate = counted_past byte int32

-- ---- the messages, each with its first byte

abbrev pub sent : Message → Spelling
sent (Begin lsn time xid) = tagged 66 begin (lsn, (time, xid))
sent (Logical flags lsn prefix content) = tagged 77 logical (flags, (lsn, (prefix, content)))
sent (Commit flags lsn end time) = tagged 67 commit (flags, (lsn, (end, time)))
sent (Origin lsn name) = tagged 79 origin (lsn, name)
sent (Relation oid ns name identity columns) = tagged 82 relation (oid, (ns, (name, (identity, columns))))
sent (TypeName oid ns name) = tagged 89 type_name (oid, (ns, name))
sent (Insert oid row) = tagged 73 insert (oid, row)
sent (Update oid (Key old) row) = tagged 85 update (oid, inl (old, row))
sent (Update oid (Whole old) row) = tagged 85 update (oid, inr (inl (old, row)))
sent (Update oid Absent row) = tagged 85 update (oid, inr (inr row))
sent (Delete oid (Key old)) = tagged 68 delete (oid, inl old)
sent (Delete oid (Whole old)) = tagged 68 delete (oid, inr old)
sent (Delete oid Absent) = unspelled
sent (Truncate options oids) = tagged 84 truncate (options, oids)

-- ---- the messages that readers make

abbrev pub made_begin : ℕ × (ℕ × ℕ) → Message
made_begin x = Begin x.0 x.1.0 x.1.1

abbrev pub made_logical : ℕ × (ℕ × (List ℕ × List ℕ)) → Message
made_logical x = Logical x.0 x.1.0 x.1.1.0 x.1.1.1

abbrev pub made_commit : ℕ × (ℕ × (ℕ × ℕ)) → Message
made_commit x = Commit x.0 x.1.0 x.1.1.0 x.1.1.1

abbrev pub made_origin : ℕ × List ℕ → Message
made_origin x = Origin x.0 x.1

abbrev pub made_relation : ℕ × (List ℕ × (List ℕ × (ℕ × List ColumnSent))) → Message
made_relation x = Relation x.0 x.1.0 x.1.1.0 x.1.1.1.0 x.1.1.1.1

abbrev pub made_type_name : ℕ × (List ℕ × List ℕ) → Message
made_type_name x = TypeName x.0 x.1.0 x.1.1

abbrev pub made_insert : ℕ × List Field → Message
made_insert x = Insert x.0 x.1

abbrev pub updated : ℕ → Rows → Message
updated oid (inl rows) = Update oid (Key rows.0) rows.1
updated oid (inr (inl rows)) = Update oid (Whole rows.0) rows.1
updated oid (inr (inr row)) = Update oid Absent row

abbrev pub made_update : ℕ × Rows → Message
made_update x = updated x.0 x.1

abbrev pub deleted : ℕ → List Field ⊎ List Field → Message
deleted oid (inl old) = Delete oid (Key old)
deleted oid (inr old) = Delete oid (Whole old)

abbrev pub made_delete : ℕ × (List Field ⊎ List Field) → Message
made_delete x = deleted x.0 x.1

abbrev pub made_truncate : ℕ × List ℕ → Message
made_truncate x = Truncate x.0 x.1

abbrev pub rows_kinds : Branches Message
rows_kinds = branch 73 insert made_insert (branch 85 update made_update (branch 68 delete made_delete (branch 84 truncate made_truncate no_branch)))

abbrev pub kinds : Branches Message
kinds = branch 66 begin made_begin (branch 77 logical made_logical (branch 67 commit made_commit (branch 79 origin made_origin (branch 82 relation made_relation (branch 89 type_name made_type_name rows_kinds)))))

abbrev pub message : Format Message
message = choice sent kinds

-- the one spelling of a message
abbrev pub spelled : Message → List ℕ
spelled m = message.spell m

-- What has a spelling: names and prefixes hold no zero byte, rows and columns are fewer than 2^16 and relations of a Truncate fewer than 2^32, values and
-- contents are shorter than 2^32 bytes, and a Delete has an old row.
abbrev pub Fits : Message → Type 0
Fits m = message.Fits m
