-- The texts of entries and bodies are what is printed of their JSON values.
use Rattle.std.proofs.Common.{◌≡◌, ℕ, List, [], ◌∷◌, ◌++◌, Bool, true, false, map, refl, sym, ap, ◌∙◌, codes, append_assoc}
use Rattle.std.specs.List.{flat_map}
use Rattle.json.specs.Token.{Token, begin_object, end_object, begin_array, end_array}
use Rattle.json.specs.Token as token
use Rattle.json.specs.Print.{print, print_from, separator, escape_byte, quoted}
use Rattle.json.specs.Json.{Json, null, string, array, object, Items, no_items, item, Members, no_members, member}
use Rattle.json.specs.Tree.{json_tokens, items_tokens, members_tokens}
use Rattle.shape_base.specs.declared.value.Value.{Value}
use Rattle.shape_base.specs.declared.value.Value.TheVariants.{Null, Words}
use Rattle.shape_base.specs.declared.entry.Op.{Op}
use Rattle.shape_base.specs.declared.entry.Op.TheVariants.{Insert, Update, Delete}
use Rattle.shape_base.specs.declared.entry.Cell.{Cell}
use Rattle.shape_base.specs.declared.entry.Entry.{Entry}
use Rattle.shape_base.specs.OffsetText.{offset_text}
use Rattle.shape_json.specs.declared.control.Control.{Control}
use Rattle.shape_json.specs.declared.control.Control.TheVariants.{Nothing, UpToDate, MustRefetch}
use Rattle.shape_json.specs.Body.{joined, value_text, cell_text, cells_text, operation, entry_text, control_texts, body_text}
use Rattle.shape_json.proofs.Writing.{more}

-- ---- the JSON values

abbrev pub value_json : Value → Json
value_json Null = null
value_json (Words words) = string words

abbrev pub cells_json : List Cell → Members
cells_json [] = no_members
cells_json (c ∷ cells) = member c.name (value_json c.value) (cells_json cells)

abbrev pub headers_json : Op → Json
headers_json op = object (member (codes "operation") (string (operation op)) no_members)

abbrev pub entry_json : Entry → Json
entry_json e = object (member (codes "headers") (headers_json e.op) (member (codes "key") (string e.key) (member (codes "offset") (string (offset_text e.offset)) (member (codes "value") (object (cells_json e.cells)) no_members))))

abbrev pub said_json : List ℕ → Json
said_json word = object (member (codes "headers") (object (member (codes "control") (string word) no_members)) no_members)

abbrev pub control_json : Control → Items
control_json Nothing = no_items
control_json UpToDate = item (said_json (codes "up-to-date")) no_items
control_json MustRefetch = item (said_json (codes "must-refetch")) no_items

abbrev pub items_json : List Entry → Control → Items
items_json [] control = control_json control
items_json (e ∷ es) control = item (entry_json e) (items_json es control)

abbrev pub body_json : List Entry → Control → Json
body_json es control = array (items_json es control)

-- ---- what is printed of them

three : (a b c d : List ℕ) → a ++ (b ++ (c ++ d)) ≡ ((a ++ b) ++ c) ++ d
three a b c d = sym (append_assoc a b (c ++ d)) ∙ sym (append_assoc (a ++ b) c d)

printed_value : (v : Value) (rest : List Token) → print_from false (json_tokens (value_json v) ++ rest) ≡ value_text v ++ print_from true rest
unfolding print_from
printed_value Null rest = refl
printed_value (Words words) rest = refl

-- a cell behind a bracket or a comma
printed_cell : (c : Cell) (rest : List Token) → quoted c.name ++ 58 ∷ [] ++ print_from false (json_tokens (value_json c.value) ++ rest) ≡ cell_text c ++ print_from true rest
printed_cell c rest = ap (λ (l : List ℕ). quoted c.name ++ 58 ∷ [] ++ l) (printed_value c.value rest) ∙ sym (append_assoc (quoted c.name ++ 58 ∷ []) (value_text c.value) (print_from true rest))

tokens_once : (c : Cell) (cells : List Cell) (rest : List Token) → members_tokens (cells_json (c ∷ cells)) ++ rest ≡ token.key c.name ∷ (json_tokens (value_json c.value) ++ (members_tokens (cells_json cells) ++ rest))
tokens_once c cells rest = ap (λ (l : List Token). token.key c.name ∷ l) (append_assoc (json_tokens (value_json c.value)) (members_tokens (cells_json cells)) rest)

printed_more : (cells : List Cell) (rest : List Token) → print_from true (members_tokens (cells_json cells) ++ rest) ≡ more cell_text cells ++ 125 ∷ print_from true rest
unfolding print_from
printed_more [] rest = refl
printed_more (c ∷ cells) rest =
    ap (print_from true) (tokens_once c cells rest)
    ∙ ap (λ (l : List ℕ). 44 ∷ l) (printed_cell c (members_tokens (cells_json cells) ++ rest) ∙ ap (λ (l : List ℕ). cell_text c ++ l) (printed_more cells rest) ∙ sym (append_assoc (cell_text c) (more cell_text cells) (125 ∷ print_from true rest)))

printed_cells : (cells : List Cell) (rest : List Token) → print_from false (members_tokens (cells_json cells) ++ rest) ≡ joined (map cell_text cells) ++ 125 ∷ print_from true rest
unfolding print_from
printed_cells [] rest = refl
printed_cells (c ∷ cells) rest =
    ap (print_from false) (tokens_once c cells rest)
    ∙ printed_cell c (members_tokens (cells_json cells) ++ rest) ∙ ap (λ (l : List ℕ). cell_text c ++ l) (printed_more cells rest) ∙ sym (append_assoc (cell_text c) (more cell_text cells) (125 ∷ print_from true rest))

-- six texts, one behind the other
six : (a b c d e f rest : List ℕ) → a ++ (b ++ (c ++ (d ++ (e ++ (f ++ rest))))) ≡ (((((a ++ b) ++ c) ++ d) ++ e) ++ f) ++ rest
six a b c d e f rest =
    sym (append_assoc a b (c ++ (d ++ (e ++ (f ++ rest))))) ∙ sym (append_assoc (a ++ b) c (d ++ (e ++ (f ++ rest)))) ∙ sym (append_assoc ((a ++ b) ++ c) d (e ++ (f ++ rest)))
    ∙ sym (append_assoc (((a ++ b) ++ c) ++ d) e (f ++ rest)) ∙ sym (append_assoc ((((a ++ b) ++ c) ++ d) ++ e) f rest)

-- from an entry's key on
printed_key : (e : Entry) (rest : List Token)
    → quoted e.key ++ print_from true (token.key (codes "offset") ∷ token.string (offset_text e.offset) ∷ token.key (codes "value") ∷ begin_object ∷ (members_tokens (cells_json e.cells) ++ (end_object ∷ rest)))
    ≡ quoted e.key ++ codes ",\"offset\":" ++ quoted (offset_text e.offset) ++ codes ",\"value\":" ++ cells_text e.cells ++ codes "}" ++ print_from true rest
unfolding print_from escape_byte
printed_key e rest =
    ap (λ (l : List ℕ). quoted e.key ++ (codes ",\"offset\":" ++ (quoted (offset_text e.offset) ++ (codes ",\"value\":" ++ 123 ∷ l)))) (printed_cells e.cells (end_object ∷ rest) ∙ sym (append_assoc (joined (map cell_text e.cells)) (125 ∷ []) (125 ∷ print_from true rest)))
    ∙ six (quoted e.key) (codes ",\"offset\":") (quoted (offset_text e.offset)) (codes ",\"value\":") (cells_text e.cells) (codes "}") (print_from true rest)

entry_tokens : Op → Entry → List Token → List Token
entry_tokens op e rest = begin_object ∷ token.key (codes "headers") ∷ begin_object ∷ token.key (codes "operation") ∷ token.string (operation op) ∷ end_object ∷ token.key (codes "key") ∷ token.string e.key
    ∷ token.key (codes "offset") ∷ token.string (offset_text e.offset) ∷ token.key (codes "value") ∷ begin_object ∷ (members_tokens (cells_json e.cells) ++ (end_object ∷ rest))

entry_tokens_are : (e : Entry) (rest : List Token) → json_tokens (entry_json e) ++ rest ≡ entry_tokens e.op e rest
unfolding entry_tokens
entry_tokens_are e rest =
    ap (λ (l : List Token). begin_object ∷ token.key (codes "headers") ∷ begin_object ∷ token.key (codes "operation") ∷ token.string (operation e.op) ∷ end_object ∷ token.key (codes "key") ∷ token.string e.key
    ∷ token.key (codes "offset") ∷ token.string (offset_text e.offset) ∷ token.key (codes "value") ∷ begin_object ∷ l)
    (append_assoc (members_tokens (cells_json e.cells)) (end_object ∷ []) rest)

printed_by : (op : Op) (e : Entry) (b : Bool) (rest : List Token)
    → print_from b (entry_tokens op e rest)
    ≡ separator b begin_object ++ (codes "{\"headers\":{\"operation\":\"" ++ operation op ++ codes "\"},\"key\":" ++ quoted e.key ++ codes ",\"offset\":" ++ quoted (offset_text e.offset) ++ codes ",\"value\":" ++ cells_text e.cells ++ codes "}" ++ print_from true rest)
unfolding print_from escape_byte entry_tokens
printed_by Insert e b rest = ap (λ (l : List ℕ). separator b begin_object ++ (codes "{\"headers\":{\"operation\":\"insert\"},\"key\":" ++ l)) (printed_key e rest)
printed_by Update e b rest = ap (λ (l : List ℕ). separator b begin_object ++ (codes "{\"headers\":{\"operation\":\"update\"},\"key\":" ++ l)) (printed_key e rest)
printed_by Delete e b rest = ap (λ (l : List ℕ). separator b begin_object ++ (codes "{\"headers\":{\"operation\":\"delete\"},\"key\":" ++ l)) (printed_key e rest)

printed_entry : (e : Entry) (b : Bool) (rest : List Token) → print_from b (json_tokens (entry_json e) ++ rest) ≡ separator b begin_object ++ (entry_text e ++ print_from true rest)
printed_entry e b rest = ap (print_from b) (entry_tokens_are e rest) ∙ printed_by e.op e b rest

printed_items : (es : List Entry) (control : Control) → print_from true (items_tokens (items_json es control)) ≡ flat_map (λ (next : List ℕ). 44 ∷ next) (map entry_text es ++ control_texts control) ++ 93 ∷ []
unfolding print_from escape_byte
printed_items [] Nothing = refl
printed_items [] UpToDate = refl
printed_items [] MustRefetch = refl
printed_items (e ∷ es) control =
    printed_entry e true (items_tokens (items_json es control)) ∙ ap (λ (l : List ℕ). 44 ∷ (entry_text e ++ l)) (printed_items es control)
    ∙ ap (λ (l : List ℕ). 44 ∷ l) (sym (append_assoc (entry_text e) (flat_map (λ (next : List ℕ). 44 ∷ next) (map entry_text es ++ control_texts control)) (93 ∷ [])))

pub printed_body : (es : List Entry) (control : Control) → print (json_tokens (body_json es control)) ≡ body_text es control
unfolding print_from escape_byte
printed_body [] Nothing = refl
printed_body [] UpToDate = refl
printed_body [] MustRefetch = refl
printed_body (e ∷ es) control =
    ap (λ (l : List ℕ). 91 ∷ l)
    (printed_entry e false (items_tokens (items_json es control)) ∙ ap (λ (l : List ℕ). entry_text e ++ l) (printed_items es control)
    ∙ sym (append_assoc (entry_text e) (flat_map (λ (next : List ℕ). 44 ∷ next) (map entry_text es ++ control_texts control)) (93 ∷ [])))
