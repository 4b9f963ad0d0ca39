-- A declared table that is read of bytes is spelled by these bytes.
use Rattle.std.proofs.Common.{◌≡◌, ℕ, zero, suc, ◌+◌, Bool, true, false, cond, List, [], ◌∷◌, ◌++◌, length, Option, None, Some, Ok, refl, sym, ap, subst, ◌∙◌, arith, ◌&&◌, ◌||◌, inl, inr}
use Rattle.std.specs.Prelude.{not, slice_get, is_some}
use Rattle.std.specs.Option.{option_map, option_and_then}
use Rattle.std.specs.Int.{w16, w32, to_be_bytes}
use Rattle.byte_format.specs.Format.{Read, number_at}
use Rattle.byte_format.proofs.Codec.{IsBytes, bind_ok, ok_is, chosen, eqb-same}
use Rattle.shape_base.specs.declared.definition.Column.{Column}
use Rattle.shape_base.specs.Tables.{place_of, same_text}
use Rattle.shape_base.proofs.Tests.{Decides-same_text}
use Rattle.column_names.specs.Names.{has_name_twice}
use Rattle.script.specs.Texts.{text_at}
use Rattle.script.specs.Rows.{columns_at}
use Rattle.script.specs.Tables.{places_at, placed_at, picked, before, is_key, with_key, declared}
use Rattle.script.specs.Records.{all_of}
use Rattle.script.specs.declared.table.Declaration.{Declaration}
use Rattle.script.specs.declared.table.Placed.{Placed}
use Rattle.script_writing.specs.Parts.{Spelling, ◌&◌, int16, int32, text, all, short_list, column}
use Rattle.script_writing.specs.Tables.{has_type, placed, key_column, key_places, is_declared, table}
use Rattle.script_writing.proofs.Reading.{both, all_bytes}
use Rattle.script_writing.proofs.Tables.{with_places, on_columns, on_oid, on_name, on_namespace}
use Rattle.script_writing.proofs.Choices.{some_is, then_is}
use Rattle.script_writing.proofs.Taking.{passed, IsTaken, AreTaken, IsAllTaken, joined, int16_taken, int32_taken, text_taken, short_list_taken, columns_taken, whole_taken}

abbrev parts_of : Placed → Spelling
parts_of p = text p.ns & text p.name & int32 p.oid & short_list column p.columns & short_list int16 p.key

placed_taken : AreTaken placed_at parts_of
placed_taken bytes p rest h e =
    let a = bind_ok (text_at bytes) (λ ns. on_namespace ns.0 ns.1) (p, rest) e in
    let b = bind_ok (text_at a.0.1) (λ name. on_name a.0.0 name.0 name.1) (p, rest) a.2 in
    let c = bind_ok (number_at w32 b.0.1) (λ oid. on_oid a.0.0 b.0.0 oid.0 oid.1) (p, rest) b.2 in
    let d = bind_ok (columns_at c.0.1) (λ columns. on_columns a.0.0 b.0.0 c.0.0 columns.0 columns.1) (p, rest) c.2 in
    let with_key : List ℕ × List ℕ → Read Placed = λ places. Ok (with_places a.0.0 b.0.0 c.0.0 d.0.0 places.0, places.1) in
    let f = bind_ok (places_at d.0.1) with_key (p, rest) d.2 in
    let t = text_taken bytes a.0.0 a.0.1 h a.1 in
    let u = text_taken a.0.1 b.0.0 b.0.1 t.in_range b.1 in
    let v = int32_taken b.0.1 c.0.0 c.0.1 u.in_range c.1 in
    let w = columns_taken c.0.1 d.0.0 d.0.1 v.in_range d.1 in
    let x = short_list_taken (number_at w16) int16 int16_taken d.0.1 f.0.0 f.0.1 w.in_range f.1 in
    let last = joined (short_list column d.0.0) (short_list int16 f.0.0) c.0.1 d.0.1 f.0.1 w x in
    let from_oid = joined (int32 c.0.0) (short_list column d.0.0 & short_list int16 f.0.0) b.0.1 c.0.1 f.0.1 v last in
    let from_name = joined (text b.0.0) (int32 c.0.0 & short_list column d.0.0 & short_list int16 f.0.0) a.0.1 b.0.1 f.0.1 u from_oid in
    let from_namespace = joined (text a.0.0) (text b.0.0 & int32 c.0.0 & short_list column d.0.0 & short_list int16 f.0.0) bytes a.0.1 f.0.1 t from_name in
    subst (λ (y : Placed × List ℕ). IsTaken (parts_of y.0) bytes y.1) (ok_is (with_places a.0.0 b.0.0 c.0.0 d.0.0 f.0.0, f.0.1) (p, rest) f.2) from_namespace

-- ---- the key

either_false : (a b : Bool) → (a || b) ≡ false → (a ≡ false) × (b ≡ false)
either_false true b h = absurd cc
either_false false b h = (refl, h)

later_place : (c d : Column) (cs : List Column) (p : ℕ) (b : Bool) → same_text c.name d.name ≡ b → is_some (place_of cs d.name) ≡ false → place_of cs c.name ≡ Some p → cond b (Some 0) (option_map (λ (q : ℕ). q + 1) (place_of cs c.name)) ≡ Some (suc p)
later_place c d cs p true is none e =
    let name : c.name ≡ d.name = (Decides-same_text c.name d.name).0 is in
    let found : place_of cs d.name ≡ Some p = ap (place_of cs) (sym name) ∙ e in
    absurd (let w : is_some (place_of cs d.name) ≡ true = ap is_some found in cc)
later_place c d cs p false is none e = ap (option_map (λ (q : ℕ). q + 1)) e ∙ ap Some (let w : p + 1 ≡ suc p = omega arith in w)

first_place : (cs : List Column) (p : ℕ) (c : Column) → has_name_twice cs ≡ false → slice_get cs p ≡ Some c → place_of cs c.name ≡ Some p
first_place [] p c h e = absurd cc
first_place (d ∷ cs) zero c h e =
    let same : d ≡ c = some_is d c e in
    let name : same_text c.name d.name ≡ true = (Decides-same_text c.name d.name).1 (ap (λ (x : Column). x.name) (sym same)) in
    rw name refl
first_place (d ∷ cs) (suc p) c h e =
    let f = either_false (is_some (place_of cs d.name)) (has_name_twice cs) h in
    later_place c d cs p (same_text c.name d.name) refl f.0 (first_place cs p c f.1 e)

both_there : (o : Option Column) (q : Option (List Column)) (key : List Column) → before o q ≡ Some key → (c : Column) × (cs : List Column) × (o ≡ Some c) × (q ≡ Some cs) × ((c ∷ cs) ≡ key)
both_there None q key e = absurd cc
both_there (Some c) None key e = absurd cc
both_there (Some c) (Some cs) key e = (c, cs, refl, refl, some_is (c ∷ cs) key e)

-- the key's columns are written by these places
record AreSame (columns key : List Column) (places : List ℕ) : Type 0 where
  count : length key ≡ length places
  bytes : (all (key_column columns) key).bytes ≡ (all int16 places).bytes
  fits : (all (key_column columns) key).fits ≡ true

same_places : (columns key : List Column) (places : List ℕ) → has_name_twice columns ≡ false → picked columns places ≡ Some key → (all int16 places).fits ≡ true → AreSame columns key places
same_places columns key [] h e fits = subst (λ (k : List Column). AreSame columns k []) (some_is [] key e) (record { count = refl; bytes = refl; fits = refl })
same_places columns key (p ∷ ps) h e fits =
    let a = both_there (slice_get columns p) (picked columns ps) key e in
    let f = both (int16 p).fits (all int16 ps).fits fits in
    let others = same_places columns a.1 ps h a.3 f.1 in
    let place : place_of columns a.0.name ≡ Some p = first_place columns p a.0 h a.2 in
    let one : key_column columns a.0 ≡ placed columns a.0 (Some p) = ap (placed columns a.0) place in
    let typed : has_type (slice_get columns p) a.0.oid ≡ true = ap (λ (o : Option Column). has_type o a.0.oid) a.2 ∙ eqb-same a.0.oid in
    let it_fits : (placed columns a.0 (Some p)).fits ≡ true = passed (has_type (slice_get columns p) a.0.oid) (int16 p).fits typed f.0 in
    let it_bytes : (key_column columns a.0).bytes ≡ (int16 p).bytes = ap (λ (s : Spelling). s.bytes) one in
    subst (λ (k : List Column). AreSame columns k (p ∷ ps)) a.4
    (record {
      count = ap suc others.count;
      bytes =
          all_bytes (key_column columns) a.0 a.1
          ∙ ap (λ (bs : List ℕ). bs ++ (all (key_column columns) a.1).bytes) it_bytes
          ∙ ap (λ (bs : List ℕ). (int16 p).bytes ++ bs) others.bytes
          ∙ sym (all_bytes int16 p ps);
      fits = passed (key_column columns a.0).fits (all (key_column columns) a.1).fits (ap (λ (s : Spelling). s.fits) one ∙ it_fits) others.fits;
    })

-- what was declared
record Was (p : Placed) (d : Declaration) : Type 0 where
  key : List Column
  once : has_name_twice p.columns ≡ false
  picks : picked p.columns p.key ≡ Some key
  is_one : is_key key ≡ true
  is : record { ns = p.ns; name = p.name; oid = p.oid; columns = p.columns; key = key } ≡ d

declared_was : (p : Placed) (d : Declaration) → declared p ≡ Some d → Was p d
unfolding declared
declared_was p d e =
    elim (chosen (has_name_twice p.columns) None (option_and_then (with_key p) (picked p.columns p.key)) (Some d) e) [
      | inl k ↦ absurd (let w = k.1 in cc)
      | inr k ↦
          let a = then_is (with_key p) (picked p.columns p.key) d k.1 in
          let made : Declaration = record { ns = p.ns; name = p.name; oid = p.oid; columns = p.columns; key = a.0 } in
          elim (chosen (is_key a.0) (Some made) None (Some d) a.2) [
            | inl m ↦ record { key = a.0; once = k.0; picks = a.1; is_one = m.0; is = some_is made d m.1 }
            | inr m ↦ absurd (let w = m.1 in cc)
          ]
    ]

none_twice : (b c : Bool) → b ≡ false → c ≡ true → (not b && c) ≡ true
none_twice b c p q = rw (p, q) refl

pub table_taken : (bytes : List ℕ) (d : Declaration) → IsBytes bytes → option_and_then declared (all_of (placed_at bytes)) ≡ Some d → IsAllTaken (table d) bytes
table_taken bytes d h e =
    let a = then_is declared (all_of (placed_at bytes)) d e in
    let p : Placed = a.0 in
    let w = whole_taken placed_at parts_of placed_taken bytes p h a.1 in
    let b = both (text p.ns).fits (text p.name & int32 p.oid & short_list column p.columns & short_list int16 p.key).fits w.fits in
    let c = both (text p.name).fits (int32 p.oid & short_list column p.columns & short_list int16 p.key).fits b.1 in
    let f = both (int32 p.oid).fits (short_list column p.columns & short_list int16 p.key).fits c.1 in
    let g = both (short_list column p.columns).fits (short_list int16 p.key).fits f.1 in
    let i = both (int16 (length p.key)).fits (all int16 p.key).fits g.1 in
    let was = declared_was p d a.2 in
    let same = same_places p.columns was.key p.key was.once was.picks i.1 in
    let front : List ℕ → List ℕ = λ bs. (text p.ns).bytes ++ ((text p.name).bytes ++ ((int32 p.oid).bytes ++ ((short_list column p.columns).bytes ++ bs))) in
    let key_bytes : (short_list int16 p.key).bytes ≡ (key_places p.columns was.key).bytes =
    ap (λ (n : ℕ). to_be_bytes w16 n ++ (all int16 p.key).bytes) (sym same.count) ∙ ap (λ (bs : List ℕ). to_be_bytes w16 (length was.key) ++ bs) (sym same.bytes) in
    let key_fits : (key_places p.columns was.key).fits ≡ true = passed (int16 (length was.key)).fits (all (key_column p.columns) was.key).fits (ap (λ (n : ℕ). (int16 n).fits) same.count ∙ i.0) same.fits in
    let inside = passed (text p.ns).fits (text p.name & int32 p.oid & short_list column p.columns & key_places p.columns was.key).fits b.0
    (passed (text p.name).fits (int32 p.oid & short_list column p.columns & key_places p.columns was.key).fits c.0
    (passed (int32 p.oid).fits (short_list column p.columns & key_places p.columns was.key).fits f.0 (passed (short_list column p.columns).fits (key_places p.columns was.key).fits g.0 key_fits))) in
    let made : Declaration = record { ns = p.ns; name = p.name; oid = p.oid; columns = p.columns; key = was.key } in
    let one : IsAllTaken (table made) bytes = record { is = w.is ∙ ap front key_bytes; fits = passed (is_declared made) _ (none_twice (has_name_twice p.columns) (is_key was.key) was.once was.is_one) inside } in
    subst (λ (y : Declaration). IsAllTaken (table y) bytes) was.is one
