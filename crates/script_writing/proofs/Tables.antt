-- Declared tables are read back from their bytes.
use Rattle.std.proofs.Common.{◌≡◌, ℕ, suc, ◌+◌, Bool, true, false, cond, List, [], ◌∷◌, ◌++◌, length, Option, None, Some, Ok, refl, sym, ap, subst, ◌∙◌, arith}
use Rattle.std.specs.Prelude.{not, slice_get}
use Rattle.std.specs.Option.{option_map, option_and_then}
use Rattle.std.specs.Int.{w16, w32}
use Rattle.std.proofs.lemmas.Bool.{eqb-true}
use Rattle.byte_format.specs.Format.{Read, number_at, times}
use Rattle.shape_base.specs.declared.definition.Column.{Column}
use Rattle.shape_base.specs.Tables.{place_of, same_text}
use Rattle.shape_base.proofs.Tests.{Decides-same_text}
use Rattle.column_names.specs.Names.{has_name_twice}
use Rattle.script.specs.Texts.{text_at}
use Rattle.script.specs.Rows.{columns_at}
use Rattle.script.specs.Tables.{places_at, placed_at, picked, before, is_key, declared}
use Rattle.script.specs.Records.{table_in}
use Rattle.script.specs.declared.table.Declaration.{Declaration}
use Rattle.script.specs.declared.table.Placed.{Placed}
use Rattle.script.specs.declared.record.Record.TheVariants.{Table}
use Rattle.script_writing.specs.Parts.{Spelling, ◌&◌, int16, int32, text, all, short_list, column}
use Rattle.script_writing.specs.Tables.{has_type, placed, key_column, key_places, is_declared, table}
use Rattle.script_writing.proofs.Reading.{both, IsRead, on, then, last, whole, int16_read, int32_read, text_read, columns_read, times_cons, times_nil, all_bytes}

-- the place of a name has a column of that name
record Named (cs : List Column) (name : List ℕ) (p : ℕ) : Type 0 where
  column : Column
  there : slice_get cs p ≡ Some column
  same : column.name ≡ name

named_later : (c : Column) (cs : List Column) (name : List ℕ) (p : ℕ) (o : Option ℕ) → ((q : ℕ) → o ≡ Some q → Named cs name q) → option_map (λ (q : ℕ). q + 1) o ≡ Some p → Named (c ∷ cs) name p
named_later c cs name p None ih e = absurd cc
named_later c cs name p (Some q) ih e =
    let n = ih q refl in
    let one : q + 1 ≡ p = cc in
    let is : suc q ≡ p = omega (arith, one) in
    subst (λ (r : ℕ). Named (c ∷ cs) name r) is (record { column = n.column; there = n.there; same = n.same })

named_here : (c : Column) (cs : List Column) (name : List ℕ) (p : ℕ) (b : Bool) → same_text name c.name ≡ b → ((q : ℕ) → place_of cs name ≡ Some q → Named cs name q) → cond b (Some 0) (option_map (λ (q : ℕ). q + 1) (place_of cs name)) ≡ Some p → Named (c ∷ cs) name p
named_here c cs name p true is ih e =
    let zero_is : 0 ≡ p = cc in
    subst (λ (r : ℕ). Named (c ∷ cs) name r) zero_is (record { column = c; there = refl; same = sym ((Decides-same_text name c.name).0 is) })
named_here c cs name p false is ih e = named_later c cs name p (place_of cs name) ih e

named : (cs : List Column) (name : List ℕ) (p : ℕ) → place_of cs name ≡ Some p → Named cs name p
named [] name p e = absurd cc
named (c ∷ cs) name p e = named_here c cs name p (same_text name c.name) refl (λ q. named cs name q) e

has_it : (k : Column) (o : Option Column) (c : Column) → o ≡ Some c → has_type o k.oid ≡ true → c.oid ≡ k.oid
has_it k None c e h = absurd cc
has_it k (Some d) c e h = let same : d ≡ c = cc in ap (λ (x : Column). x.oid) (sym same) ∙ eqb-true d.oid k.oid h

same_column : (c k : Column) → c.name ≡ k.name → c.oid ≡ k.oid → c ≡ k
same_column c k a b =
    let with_name : List ℕ → Column = λ name. record { name = name; oid = c.oid } in
    let with_oid : ℕ → Column = λ oid. record { name = k.name; oid = oid } in
    ap with_name a ∙ ap with_oid b

found : (columns : List Column) (k : Column) (p : ℕ) → place_of columns k.name ≡ Some p → has_type (slice_get columns p) k.oid ≡ true → slice_get columns p ≡ Some k
found columns k p e h =
    let n = named columns k.name p e in
    n.there ∙ ap Some (same_column n.column k n.same (has_it k (slice_get columns p) n.column n.there h))

-- what is read of a column of the key
record KeyRead (columns : List Column) (k : Column) (s : Spelling) : Type 0 where
  place : ℕ
  read : IsRead (number_at w16) s place
  picks : slice_get columns place ≡ Some k

placed_read : (columns : List Column) (k : Column) (o : Option ℕ) → place_of columns k.name ≡ o → (placed columns k o).fits ≡ true → KeyRead columns k (placed columns k o)
placed_read columns k None e h = absurd (let w : false ≡ true = h in cc)
placed_read columns k (Some p) e h =
    let f = both (has_type (slice_get columns p) k.oid) (int16 p).fits h in
    record { place = p; read = int16_read p f.1; picks = found columns k p e f.0 }

record KeysRead (columns key : List Column) : Type 0 where
  places : List ℕ
  read : IsRead (times (number_at w16) (length key)) (all (key_column columns) key) places
  picks : picked columns places ≡ Some key

keys_read : (columns key : List Column) → (all (key_column columns) key).fits ≡ true → KeysRead columns key
keys_read columns [] h = record { places = []; read = λ rest. times_nil (number_at w16) rest; picks = refl }
keys_read columns (k ∷ ks) h =
    let f : Column → Spelling = key_column columns in
    let e = both (f k).fits (all f ks).fits h in
    let one = placed_read columns k (place_of columns k.name) refl e.0 in
    let others = keys_read columns ks e.1 in
    record {
      places = one.place ∷ others.places;
      read = λ rest.
          ap (λ (bs : List ℕ). times (number_at w16) (suc (length ks)) (bs ++ rest)) (all_bytes f k ks)
          ∙ times_cons (number_at w16) (f k) (all f ks) one.place (length ks) others.places one.read others.read rest;
      picks = ap (λ (o : Option Column). before o (picked columns others.places)) one.picks ∙ ap (before (Some k)) others.picks;
    }

abbrev pub with_places : List ℕ → List ℕ → ℕ → List Column → List ℕ → Placed
with_places ns name oid columns places = record { ns = ns; name = name; oid = oid; columns = columns; key = places }

abbrev pub on_columns : List ℕ → List ℕ → ℕ → List Column → List ℕ → Read Placed
on_columns ns name oid columns = on places_at (λ places bytes. Ok (with_places ns name oid columns places, bytes))

abbrev pub on_oid : List ℕ → List ℕ → ℕ → List ℕ → Read Placed
on_oid ns name oid = on columns_at (on_columns ns name oid)

abbrev pub on_name : List ℕ → List ℕ → List ℕ → Read Placed
on_name ns name = on (number_at w32) (on_oid ns name)

abbrev pub on_namespace : List ℕ → List ℕ → Read Placed
on_namespace ns = on text_at (on_name ns)

is_false : (b : Bool) → not b ≡ true → b ≡ false
is_false true h = absurd cc
is_false false h = refl

declared_again : (d : Declaration) (places : List ℕ) → is_declared d ≡ true → picked d.columns places ≡ Some d.key → declared (with_places d.ns d.name d.oid d.columns places) ≡ Some d
unfolding declared
declared_again d places h e =
    let b = both (not (has_name_twice d.columns)) (is_key d.key) h in
    rw (is_false (has_name_twice d.columns) b.0, e, b.1) refl

pub table_read : (d : Declaration) → (table d).fits ≡ true → table_in (table d).bytes ≡ Some (Table d)
table_read d h =
    let inside : Spelling = text d.ns & text d.name & int32 d.oid & short_list column d.columns & key_places d.columns d.key in
    let a = both (is_declared d) inside.fits h in
    let b = both (text d.ns).fits (text d.name & int32 d.oid & short_list column d.columns & key_places d.columns d.key).fits a.1 in
    let c = both (text d.name).fits (int32 d.oid & short_list column d.columns & key_places d.columns d.key).fits b.1 in
    let e = both (int32 d.oid).fits (short_list column d.columns & key_places d.columns d.key).fits c.1 in
    let f = both (short_list column d.columns).fits (key_places d.columns d.key).fits e.1 in
    let g = both (int16 (length d.key)).fits (all (key_column d.columns) d.key).fits f.1 in
    let keys = keys_read d.columns d.key g.1 in
    let p : Placed = with_places d.ns d.name d.oid d.columns keys.places in
    let key_is : IsRead places_at (key_places d.columns d.key) keys.places = then (number_at w16) (times (number_at w16)) (int16 (length d.key)) (all (key_column d.columns) d.key) (length d.key) keys.places (int16_read (length d.key) g.0) keys.read in
    let key_last = last places_at (with_places d.ns d.name d.oid d.columns) (key_places d.columns d.key) keys.places key_is in
    let from_columns = then columns_at (on_columns d.ns d.name d.oid) (short_list column d.columns) (key_places d.columns d.key) d.columns p (columns_read d.columns f.0) key_last in
    let from_oid = then (number_at w32) (on_oid d.ns d.name) (int32 d.oid) (short_list column d.columns & key_places d.columns d.key) d.oid p (int32_read d.oid e.0) from_columns in
    let from_name = then text_at (on_name d.ns) (text d.name) (int32 d.oid & short_list column d.columns & key_places d.columns d.key) d.name p (text_read d.name c.0) from_oid in
    let from_namespace = then text_at on_namespace (text d.ns) (text d.name & int32 d.oid & short_list column d.columns & key_places d.columns d.key) d.ns p (text_read d.ns b.0) from_name in
    ap (λ (o : Option Placed). option_map Table (option_and_then declared o)) (whole placed_at inside p from_namespace) ∙ ap (option_map Table) (declared_again d keys.places a.0 keys.picks)
