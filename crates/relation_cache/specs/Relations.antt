-- Relations by their object identifiers.
use Rattle.std.specs.Prelude.{ℕ, List, refl}
use Rattle.std.specs.Ordering.{nat_cmp}
use Rattle.std.specs.Coded.{Coded, code_by, coded×, coded_ℕ, coded_list}
use Rattle.std.specs.FinMap as map
use Rattle.shape_base.specs.declared.definition.Column.{Column}
use Rattle.relation_cache.specs.declared.relation.Relation.{Relation}

-- the map from each identifier to the last relation that was put with it
abbrev pub ByOid : Type 0
ByOid = map.FinMap nat_cmp Relation

abbrev pub texts_code : Coded (List ℕ × List ℕ)
texts_code = coded× (coded_list coded_ℕ) (coded_list coded_ℕ)

abbrev pub column_code : Coded Column
column_code = code_by (List ℕ × ℕ) (coded× (coded_list coded_ℕ) coded_ℕ) (λ c. (c.name, c.oid)) (λ x. record { name = x.0; oid = x.1 }) (λ _. refl)

abbrev pub relation_code : Coded Relation
relation_code = code_by ((List ℕ × List ℕ) × (ℕ × List Column)) (coded× texts_code (coded× coded_ℕ (coded_list column_code)))
    (λ r. ((r.ns, r.name), (r.oid, r.columns))) (λ x. record { oid = x.1.0; ns = x.0.0; name = x.0.1; columns = x.1.1 }) (λ _. refl)

abbrev pub by_oid_code : Coded ByOid
by_oid_code = map.code coded_ℕ relation_code
