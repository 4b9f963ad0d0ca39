-- Each message is read from its spelling, and a reader that stops has the first wrong byte: one line for each kind.
use Rattle.std.proofs.Common.{◌≡◌, ℕ, List, ◌∷◌, refl, ap, inl, inr, ◌⊎◌}
use Rattle.byte_format.specs.Format.{mapped, after, ◌&◌}
use Rattle.byte_format.proofs.Codec.{IsRenaming}
use Rattle.byte_format.proofs.Places.{IsPlaced, byte_placed, int32_placed, int64_placed, string_placed, nothing_placed, pair_placed, after_placed, named_placed}
use Rattle.byte_format.proofs.Lists.{chunk_placed, counted_placed, counted_past_placed}
use Rattle.byte_format.proofs.Choice.{IsReadAgain, IsBranching, branch_is, no_branch_is, choice_placed, alt_placed, after_apart, alt_apart}
use Rattle.pgout.specs.declared.message.Field.{Field}
use Rattle.pgout.specs.declared.message.Field.TheVariants.{Null, Unsent, Chars, Binary}
use Rattle.pgout.specs.declared.message.Before.TheVariants.{Absent, Key, Whole}
use Rattle.pgout.specs.declared.message.Message.TheVariants.{Begin, Logical, Commit, Origin, Relation, TypeName, Insert, Update, Delete, Truncate}
use Rattle.pgout.specs.Grammar.{sent_field, field_branches, field, column_of, parts_of, tuple, column, Rows, begin, logical, commit, origin, relation, type_name, insert, update, delete, truncate, made_begin, made_logical, made_commit, made_origin, made_relation, made_type_name, made_insert, updated, made_update, deleted, made_delete, made_truncate, sent, rows_kinds, kinds, message}

-- ---- the parts of messages

field_again : IsReadAgain sent_field field_branches
field_again Null rest h = refl
field_again Unsent rest h = refl
field_again (Chars value) rest h = ap (mapped Chars) (chunk_placed.codec.again value rest h)
field_again (Binary value) rest h = ap (mapped Binary) (chunk_placed.codec.again value rest h)

field_placed : IsPlaced field
field_placed =
    choice_placed field_again
    (branch_is 110 (λ x. Null) (record { spell = λ x. refl; fits = λ x h. h }) nothing_placed
    (branch_is 117 (λ x. Unsent) (record { spell = λ x. refl; fits = λ x h. h }) nothing_placed
    (branch_is 116 Chars (record { spell = λ x. refl; fits = λ x h. h }) chunk_placed
    (branch_is 98 Binary (record { spell = λ x. refl; fits = λ x h. h }) chunk_placed
    (no_branch_is Null tt)))))
    Null tt

tuple_placed : IsPlaced tuple
tuple_placed = counted_placed field_placed

column_named : IsRenaming column_of parts_of
column_named = record { there = λ c. refl; back = λ x. refl }

column_placed : IsPlaced column
column_placed = named_placed column_named (pair_placed byte_placed (pair_placed string_placed (pair_placed int32_placed int32_placed)))

-- ---- what follows the first byte

begin_placed : IsPlaced begin
begin_placed = pair_placed int64_placed (pair_placed int64_placed int32_placed)

logical_placed : IsPlaced logical
logical_placed = pair_placed byte_placed (pair_placed int64_placed (pair_placed string_placed chunk_placed))

commit_placed : IsPlaced commit
commit_placed = pair_placed byte_placed (pair_placed int64_placed (pair_placed int64_placed int64_placed))

origin_placed : IsPlaced origin
origin_placed = pair_placed int64_placed string_placed

relation_placed : IsPlaced relation
relation_placed = pair_placed int32_placed (pair_placed string_placed (pair_placed string_placed (pair_placed byte_placed (counted_placed column_placed))))

type_name_placed : IsPlaced type_name
type_name_placed = pair_placed int32_placed (pair_placed string_placed string_placed)

insert_placed : IsPlaced insert
insert_placed = pair_placed int32_placed (after_placed 78 tuple_placed)

update_placed : IsPlaced update
update_placed =
    pair_placed int32_placed
    (alt_placed 75 (pair_placed tuple_placed (after_placed 78 tuple_placed))
    (alt_placed 79 (pair_placed tuple_placed (after_placed 78 tuple_placed)) (after_placed 78 tuple_placed) (after_apart 79 78 tuple refl))
    (alt_apart 75 79 (tuple & after 78 tuple) (after 78 tuple) refl (after_apart 75 78 tuple refl)))

delete_placed : IsPlaced delete
delete_placed = pair_placed int32_placed (alt_placed 75 tuple_placed (after_placed 79 tuple_placed) (after_apart 75 79 tuple refl))

truncate_placed : IsPlaced truncate
truncate_placed = counted_past_placed byte_placed int32_placed

-- ---- the messages

message_again : IsReadAgain sent kinds
message_again (Begin lsn time xid) rest h = ap (mapped made_begin) (begin_placed.codec.again (lsn, (time, xid)) rest h)
message_again (Logical flags lsn prefix content) rest h = ap (mapped made_logical) (logical_placed.codec.again (flags, (lsn, (prefix, content))) rest h)
message_again (Commit flags lsn end time) rest h = ap (mapped made_commit) (commit_placed.codec.again (flags, (lsn, (end, time))) rest h)
message_again (Origin lsn name) rest h = ap (mapped made_origin) (origin_placed.codec.again (lsn, name) rest h)
message_again (Relation oid ns name identity columns) rest h = ap (mapped made_relation) (relation_placed.codec.again (oid, (ns, (name, (identity, columns)))) rest h)
message_again (TypeName oid ns name) rest h = ap (mapped made_type_name) (type_name_placed.codec.again (oid, (ns, name)) rest h)
message_again (Insert oid row) rest h = ap (mapped made_insert) (insert_placed.codec.again (oid, row) rest h)
message_again (Update oid (Key old) row) rest h = ap (mapped made_update) (update_placed.codec.again (oid, inl (old, row)) rest h)
message_again (Update oid (Whole old) row) rest h = ap (mapped made_update) (update_placed.codec.again (oid, inr (inl (old, row))) rest h)
message_again (Update oid Absent row) rest h = ap (mapped made_update) (update_placed.codec.again (oid, inr (inr row)) rest h)
message_again (Delete oid (Key old)) rest h = ap (mapped made_delete) (delete_placed.codec.again (oid, inl old) rest h)
message_again (Delete oid (Whole old)) rest h = ap (mapped made_delete) (delete_placed.codec.again (oid, inr old) rest h)
message_again (Delete oid Absent) rest h = absurd h
message_again (Truncate options oids) rest h = ap (mapped made_truncate) (truncate_placed.codec.again (options, oids) rest h)

updated_bytes : (oid : ℕ) (rows : Rows) → (sent (updated oid rows)).bytes ≡ 85 ∷ update.spell (oid, rows)
updated_bytes oid (inl rows) = refl
updated_bytes oid (inr (inl rows)) = refl
updated_bytes oid (inr (inr row)) = refl

updated_fits : (oid : ℕ) (rows : Rows) → update.Fits (oid, rows) → (sent (updated oid rows)).Fits
updated_fits oid (inl rows) h = h
updated_fits oid (inr (inl rows)) h = h
updated_fits oid (inr (inr row)) h = h

deleted_bytes : (oid : ℕ) (old : List Field ⊎ List Field) → (sent (deleted oid old)).bytes ≡ 68 ∷ delete.spell (oid, old)
deleted_bytes oid (inl old) = refl
deleted_bytes oid (inr old) = refl

deleted_fits : (oid : ℕ) (old : List Field ⊎ List Field) → delete.Fits (oid, old) → (sent (deleted oid old)).Fits
deleted_fits oid (inl old) h = h
deleted_fits oid (inr old) h = h

rows_kinds_are : IsBranching message rows_kinds
rows_kinds_are =
    branch_is 73 made_insert (record { spell = λ x. refl; fits = λ x h. h }) insert_placed
    (branch_is 85 made_update (record { spell = λ x. updated_bytes x.0 x.1; fits = λ x h. updated_fits x.0 x.1 h }) update_placed
    (branch_is 68 made_delete (record { spell = λ x. deleted_bytes x.0 x.1; fits = λ x h. deleted_fits x.0 x.1 h }) delete_placed
    (branch_is 84 made_truncate (record { spell = λ x. refl; fits = λ x h. h }) truncate_placed
    (no_branch_is (made_begin begin_placed.some) begin_placed.some_fits))))

pub message_placed : IsPlaced message
message_placed =
    choice_placed message_again
    (branch_is 66 made_begin (record { spell = λ x. refl; fits = λ x h. h }) begin_placed
    (branch_is 77 made_logical (record { spell = λ x. refl; fits = λ x h. h }) logical_placed
    (branch_is 67 made_commit (record { spell = λ x. refl; fits = λ x h. h }) commit_placed
    (branch_is 79 made_origin (record { spell = λ x. refl; fits = λ x h. h }) origin_placed
    (branch_is 82 made_relation (record { spell = λ x. refl; fits = λ x h. h }) relation_placed
    (branch_is 89 made_type_name (record { spell = λ x. refl; fits = λ x h. h }) type_name_placed rows_kinds_are))))))
    (made_begin begin_placed.some) begin_placed.some_fits
