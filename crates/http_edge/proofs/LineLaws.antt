-- Lines that end in CR LF.
use Rattle.std.proofs.Common.{◌≡◌, ℕ, Bool, true, false, List, [], ◌∷◌, ◌++◌, Option, Some, None, IfSome, refl, sym, ap, ◌∙◌, option_map, arith, append_assoc, codes}
use Rattle.std.proofs.lemmas.Bool.Decides.{nat_tests}
use Rattle.shape_base.specs.Decimal.{LacksByte, IsSplit}
use Rattle.http_edge.specs.ReplyLines.{behind, to_end, value_of, value_if, flag_of, flags_in, fixed_text, optional_text, flags_text, lines_text, Fixed, Optional, Lines, fixed_in, optional_in, lines_in}
use Rattle.http_edge.specs.ReplyText.{line, line_if}
use Rattle.http_edge.proofs.ChainLaws.{fixed_made, optional_made, lines_made}

-- ---- fronts

pub behind_front : (front rest : List ℕ) → behind front (front ++ rest) ≡ Some rest
unfolding behind
behind_front [] rest = refl
behind_front (b ∷ front) rest = grind (arith, nat_tests, behind_front front rest)

-- ---- values up to the end of their line

abbrev Parts : Type 0
Parts = List ℕ × List ℕ

onto : (c : ℕ) (front : List ℕ) (o : Option (List ℕ)) → option_map {U = Parts} (λ parts. (c ∷ parts.0, parts.1)) (option_map {U = Parts} (λ rest. (front, rest)) o) ≡ option_map {U = Parts} (λ rest. (c ∷ front, rest)) o
onto c front None = refl
onto c front (Some rest) = refl

pub to_end_split : (before after : List ℕ) → LacksByte 13 before → to_end (before ++ 13 ∷ after) ≡ option_map (λ rest. (before, rest)) (behind (10 ∷ []) after)
unfolding to_end
to_end_split [] after lacks = refl
to_end_split (b ∷ before) after lacks = grind (arith, nat_tests, lacks.0, to_end_split before after lacks.1, onto b before (behind (10 ∷ []) after))

pub to_end_lacks : (text : List ℕ) → LacksByte 13 text → to_end text ≡ None
unfolding to_end
to_end_lacks [] lacks = refl
to_end_lacks (b ∷ text) lacks = grind (arith, nat_tests, lacks.0, to_end_lacks text lacks.1)

pub split_to_end : (text before after : List ℕ) → IsSplit 13 text before after → to_end text ≡ option_map (λ rest. (before, rest)) (behind (10 ∷ []) after)
split_to_end text before after split = ap to_end split.whole ∙ to_end_split before after split.first

to_end_line : (value rest : List ℕ) → LacksByte 13 value → to_end (value ++ 13 ∷ 10 ∷ rest) ≡ Some (value, rest)
unfolding behind
to_end_line value rest lacks = to_end_split value (10 ∷ rest) lacks

pub line_at : (name value rest : List ℕ) → line name value ++ rest ≡ name ++ (value ++ 13 ∷ 10 ∷ rest)
line_at name value rest = simp append_assoc

pub value_of_line : (name value rest : List ℕ) → LacksByte 13 value → value_of name (line name value ++ rest) ≡ Some (value, rest)
unfolding value_of
value_of_line name value rest lacks = rw (line_at name value rest, behind_front name (value ++ 13 ∷ 10 ∷ rest)) (to_end_line value rest lacks)

pub value_if_line : (name rest : List ℕ) (o : Option (List ℕ)) → IfSome o (LacksByte 13) → behind name rest ≡ None → value_if name (line_if name (λ value. value) o ++ rest) ≡ Some (o, rest)
unfolding value_if
value_if_line name rest None lacks absent = rw absent refl
value_if_line name rest (Some value) lacks absent = rw (line_at name value rest, behind_front name (value ++ 13 ∷ 10 ∷ rest), to_end_line value rest lacks) refl

-- ---- lines that are absent

absent_flags : (name rest : List ℕ) (a c : Bool) → behind (101 ∷ name) (flags_text a c rest) ≡ None
unfolding behind
absent_flags name rest true true = refl
absent_flags name rest true false = refl
absent_flags name rest false true = refl
absent_flags name rest false false = refl

schema_absent : (rest : List ℕ) (a c : Bool) (o : Option (List ℕ)) → behind (codes "electric-schema: ") (line_if (codes "electric-cursor: ") (λ value. value) o ++ flags_text a c rest) ≡ None
unfolding behind
schema_absent rest a c None = absent_flags (codes "lectric-schema: ") rest a c
schema_absent rest a c (Some value) = refl

offset_absent_cursor : (rest : List ℕ) (a c : Bool) (o : Option (List ℕ)) → behind (codes "electric-offset: ") (line_if (codes "electric-cursor: ") (λ value. value) o ++ flags_text a c rest) ≡ None
unfolding behind
offset_absent_cursor rest a c None = absent_flags (codes "lectric-offset: ") rest a c
offset_absent_cursor rest a c (Some value) = refl

offset_absent : (rest : List ℕ) (a c : Bool) (s o : Option (List ℕ)) → behind (codes "electric-offset: ") (line_if (codes "electric-schema: ") (λ value. value) s ++ (line_if (codes "electric-cursor: ") (λ value. value) o ++ flags_text a c rest)) ≡ None
unfolding behind
offset_absent rest a c None o = offset_absent_cursor rest a c o
offset_absent rest a c (Some value) o = refl

handle_absent_cursor : (rest : List ℕ) (a c : Bool) (o : Option (List ℕ)) → behind (codes "electric-handle: ") (line_if (codes "electric-cursor: ") (λ value. value) o ++ flags_text a c rest) ≡ None
unfolding behind
handle_absent_cursor rest a c None = absent_flags (codes "lectric-handle: ") rest a c
handle_absent_cursor rest a c (Some value) = refl

handle_absent_schema : (rest : List ℕ) (a c : Bool) (s o : Option (List ℕ)) → behind (codes "electric-handle: ") (line_if (codes "electric-schema: ") (λ value. value) s ++ (line_if (codes "electric-cursor: ") (λ value. value) o ++ flags_text a c rest)) ≡ None
unfolding behind
handle_absent_schema rest a c None o = handle_absent_cursor rest a c o
handle_absent_schema rest a c (Some value) o = refl

handle_absent : (rest : List ℕ) (a c : Bool) (f s o : Option (List ℕ)) → behind (codes "electric-handle: ") (line_if (codes "electric-offset: ") (λ value. value) f ++ (line_if (codes "electric-schema: ") (λ value. value) s ++ (line_if (codes "electric-cursor: ") (λ value. value) o ++ flags_text a c rest))) ≡ None
unfolding behind
handle_absent rest a c None s o = handle_absent_schema rest a c s o
handle_absent rest a c (Some value) s o = refl

-- ---- the lines of a head

-- no value has a CR
pub record AreFixed (f : Fixed) : Type 0 where
  pub status : LacksByte 13 f.status
  pub kind : LacksByte 13 f.kind
  pub length : LacksByte 13 f.length
  pub cache : LacksByte 13 f.cache

pub record AreOptional (o : Optional) : Type 0 where
  pub handle : IfSome o.handle (LacksByte 13)
  pub offset : IfSome o.offset (LacksByte 13)
  pub schema : IfSome o.schema (LacksByte 13)
  pub cursor : IfSome o.cursor (LacksByte 13)

fixed_read : (f : Fixed) (rest : List ℕ) → AreFixed f → fixed_in (fixed_text f rest) ≡ Some (f, rest)
fixed_read f rest are = sym (fixed_made _ _ _ _ _ _ _ _ _ (sym (value_of_line (codes "HTTP/1.1 ") f.status _ are.status)) (sym (value_of_line (codes "content-type: ") f.kind _ are.kind))
    (sym (value_of_line (codes "content-length: ") f.length _ are.length)) (sym (value_of_line (codes "cache-control: ") f.cache rest are.cache)))

optional_read : (o : Optional) (rest : List ℕ) (a c : Bool) → AreOptional o → optional_in (optional_text o (flags_text a c rest)) ≡ Some (o, flags_text a c rest)
optional_read o rest a c are = sym (optional_made _ _ _ _ _ _ _ _ _
    (sym (value_if_line (codes "electric-handle: ") _ o.handle are.handle (handle_absent rest a c o.offset o.schema o.cursor)))
    (sym (value_if_line (codes "electric-offset: ") _ o.offset are.offset (offset_absent rest a c o.schema o.cursor)))
    (sym (value_if_line (codes "electric-schema: ") _ o.schema are.schema (schema_absent rest a c o.cursor)))
    (sym (value_if_line (codes "electric-cursor: ") _ o.cursor are.cursor (absent_flags (codes "lectric-cursor: ") rest a c))))

flags_read : (a c : Bool) (rest : List ℕ) → flags_in (flags_text a c rest) ≡ Some ((a, c), rest)
unfolding flags_in flag_of behind
flags_read true true rest = refl
flags_read true false rest = refl
flags_read false true rest = refl
flags_read false false rest = refl

-- The lines are read back, whatever follows.
pub lines_read : (l : Lines) (rest : List ℕ) → AreFixed l.fixed → AreOptional l.optional → lines_in (lines_text l rest) ≡ Some (l, rest)
unfolding lines_text
lines_read l rest fixed optional = sym (lines_made _ _ _ _ _ _ _ _ (sym (fixed_read l.fixed _ fixed)) (sym (optional_read l.optional rest l.allow l.close optional)) (sym (flags_read l.allow l.close rest)))
