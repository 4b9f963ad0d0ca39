-- The lines of a head from the lines one after another.
use Rattle.std.proofs.Common.{◌≡◌, ℕ, Bool, List, Option, Some, None, ◌++◌, ◌∙◌, ap, refl, sym, codes}
use Rattle.http_edge.specs.ReplyLines.{value_of, value_if, fixed_in, optional_in, flags_in, lines_in, fixed_text, Fixed, Optional}
use Rattle.http_edge.specs.ReplyText.{line}

pub fixed_made : (text a ta b tb c tc d td : List ℕ) → Some (a, ta) ≡ value_of (codes "HTTP/1.1 ") text → Some (b, tb) ≡ value_of (codes "content-type: ") ta
    → Some (c, tc) ≡ value_of (codes "content-length: ") tb → Some (d, td) ≡ value_of (codes "cache-control: ") tc
    → Some (record { status = a; kind = b; length = c; cache = d }, td) ≡ fixed_in text
unfolding fixed_in
fixed_made text a ta b tb c tc d td e f g h = rw (sym e, sym f, sym g, sym h) refl

pub optional_made : (text ta tb tc td : List ℕ) (a b c d : Option (List ℕ)) → Some (a, ta) ≡ value_if (codes "electric-handle: ") text → Some (b, tb) ≡ value_if (codes "electric-offset: ") ta
    → Some (c, tc) ≡ value_if (codes "electric-schema: ") tb → Some (d, td) ≡ value_if (codes "electric-cursor: ") tc
    → Some (record { handle = a; offset = b; schema = c; cursor = d }, td) ≡ optional_in text
unfolding optional_in
optional_made text ta tb tc td a b c d e f g h = rw (sym e, sym f, sym g, sym h) refl

pub lines_made : (text ta tb tc : List ℕ) (a : Fixed) (b : Optional) (allow close : Bool) → Some (a, ta) ≡ fixed_in text → Some (b, tb) ≡ optional_in ta → Some ((allow, close), tc) ≡ flags_in tb
    → Some (record { fixed = a; optional = b; allow = allow; close = close }, tc) ≡ lines_in text
unfolding lines_in
lines_made text ta tb tc a b allow close e f g = rw (sym e, sym f, sym g) refl

pub fixed_whole : (text a ta b tb c tc d td : List ℕ) → text ≡ line (codes "HTTP/1.1 ") a ++ ta → ta ≡ line (codes "content-type: ") b ++ tb → tb ≡ line (codes "content-length: ") c ++ tc → tc ≡ line (codes "cache-control: ") d ++ td
    → text ≡ fixed_text (record { status = a; kind = b; length = c; cache = d }) td
fixed_whole text a ta b tb c tc d td e f g h =
    e ∙ ap (λ t. line (codes "HTTP/1.1 ") a ++ t) (f ∙ ap (λ t. line (codes "content-type: ") b ++ t) (g ∙ ap (λ t. line (codes "content-length: ") c ++ t) h))

pub optional_none : (text ta tb tc : List ℕ) (a b c : Option (List ℕ)) → Some (a, ta) ≡ value_if (codes "electric-handle: ") text → Some (b, tb) ≡ value_if (codes "electric-offset: ") ta
    → Some (c, tc) ≡ value_if (codes "electric-schema: ") tb → None ≡ value_if (codes "electric-cursor: ") tc → None ≡ optional_in text
unfolding optional_in
optional_none text ta tb tc a b c e f g h = rw (sym e, sym f, sym g, sym h) refl
