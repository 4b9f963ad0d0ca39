-- Three-valued logic (PostgreSQL manual 9.1).
use Rattle.std.specs.Prelude.{Bool, true, false, List, if◌then◌else◌}
use Rattle.std.specs.List.{list_any}
use Rattle.shape_base.specs.declared.truth.Tri.{Tri}
use Rattle.shape_base.specs.declared.truth.Tri.TheVariants.{True, False, Unknown}

abbrev pub of_bool : Bool → Tri
of_bool true = True
of_bool false = False

abbrev pub is_true : Tri → Bool
is_true True = true
is_true False = false
is_true Unknown = false

abbrev pub is_false : Tri → Bool
is_false True = false
is_false False = true
is_false Unknown = false

abbrev pub is_unknown : Tri → Bool
is_unknown True = false
is_unknown False = false
is_unknown Unknown = true

abbrev pub not_of : Tri → Tri
not_of True = False
not_of False = True
not_of Unknown = Unknown

-- false where a member is false, else unknown where one is unknown, else true
abbrev pub all_of : List Tri → Tri
all_of members = if list_any is_false members then False else if list_any is_unknown members then Unknown else True

-- true where a member is true, else unknown where one is unknown, else false
abbrev pub any_of : List Tri → Tri
any_of members = if list_any is_true members then True else if list_any is_unknown members then Unknown else False

-- NOT of it where the form is negated
abbrev pub negated : Bool → Tri → Tri
negated true t = not_of t
negated false t = t

-- OR and AND of two
abbrev pub or_of : Tri → Tri → Tri
or_of True b = True
or_of False b = b
or_of Unknown True = True
or_of Unknown False = Unknown
or_of Unknown Unknown = Unknown

abbrev pub and_of : Tri → Tri → Tri
and_of False b = False
and_of True b = b
and_of Unknown False = False
and_of Unknown True = Unknown
and_of Unknown Unknown = Unknown
