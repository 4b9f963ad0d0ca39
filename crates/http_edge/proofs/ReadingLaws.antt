-- Heads and bodies, read back.
use Rattle.std.proofs.Common.{◌≡◌, ℕ, ◌+◌, ◌-◌, length-append, length-take, ◌<◌, ◌≤◌, ◌^◌, Bool, true, false, ◌||◌, is_some, List, [], ◌∷◌, ◌++◌, length, take, drop, Option, Some, None, refl, sym, ap, subst, ◌∙◌, arith, append_assoc, option_map, codes, decimal, ◌==◌, if◌then◌else◌}
use Rattle.std.proofs.lemmas.List.{take-append-drop}
use Rattle.std.proofs.lemmas.Fmt.{decimal_injective}
use Rattle.std.specs.Str.{IsUtf8}
use Rattle.shape_base.specs.declared.reply.Reply.{Reply}
use Rattle.shape_base.specs.Handle.{handle_text}
use Rattle.shape_base.specs.OffsetText.{offset_text}
use Rattle.http_edge.specs.declared.reply_head.ReplyHead.{ReplyHead}
use Rattle.http_edge.specs.ReplyText.{crlf, line, line_if, status_text, cache_text, allow_line, close_line, IsReplyHead, head_text, head_of}
use Rattle.http_edge.specs.ReplyLines.{behind, flag_text, optional_text, flags_text, lines_text, lines_in, lines_of, Lines}
use Rattle.http_edge.specs.ReplyValues.{AreLinesOf}
use Rattle.http_edge.specs.ReplyAnswer.{has_end, Begins, HasNoReply, IsRead}
use Rattle.http_edge.proofs.LineLaws.{lines_read, line_at}
use Rattle.http_edge.proofs.ValueLaws.{fixed_lacks, optional_lacks}

-- ---- the text of a head is that of its lines

regroup : (a b c d e f g h i j k rest : List ℕ) → (a ++ b ++ c ++ d ++ e ++ f ++ g ++ h ++ i ++ j ++ k) ++ rest ≡ a ++ (b ++ (c ++ (d ++ (e ++ (f ++ (g ++ (h ++ (i ++ (j ++ (k ++ rest))))))))))
regroup a b c d e f g h i j k rest = simp append_assoc

mapped : {A : Type 0} (name : List ℕ) (text : A → List ℕ) (o : Option A) → line_if name text o ≡ line_if name (λ value. value) (option_map text o)
mapped name text None = refl
mapped name text (Some value) = refl

flagged : (b : Bool) (words : List ℕ) → (if b then words else []) ≡ flag_text b words
flagged true words = refl
flagged false words = refl

pub head_lines : (h : ReplyHead) (rest : List ℕ) → head_text h ++ rest ≡ lines_text (lines_of h) rest
unfolding head_text lines_text
head_lines h rest =
    regroup (line (codes "HTTP/1.1 ") (status_text h.status)) (line (codes "content-type: ") (codes "application/json")) (line (codes "content-length: ") (decimal h.length)) (line (codes "cache-control: ") (cache_text h.max_age))
    (line_if (codes "electric-handle: ") handle_text h.handle) (line_if (codes "electric-offset: ") offset_text h.offset) (line_if (codes "electric-schema: ") (λ schema. schema) h.schema) (line_if (codes "electric-cursor: ") decimal h.cursor)
    (allow_line h.status) (close_line h.close) crlf rest
    ∙ (λ i. line (codes "HTTP/1.1 ") (status_text h.status) ++ (line (codes "content-type: ") (codes "application/json") ++ (line (codes "content-length: ") (decimal h.length) ++ (line (codes "cache-control: ") (cache_text h.max_age)
    ++ (mapped (codes "electric-handle: ") handle_text h.handle i ++ (mapped (codes "electric-offset: ") offset_text h.offset i ++ (line_if (codes "electric-schema: ") (λ schema. schema) h.schema ++ (mapped (codes "electric-cursor: ") decimal h.cursor i
    ++ (flagged (h.status == 405) (codes "allow: GET\r\n") i ++ (flagged h.close (codes "connection: close\r\n") i ++ (crlf ++ rest)))))))))))

pub begins_lines : (input : List ℕ) (h : ReplyHead) (rest : List ℕ) → Begins input h rest → lines_in input ≡ Some (lines_of h, rest)
begins_lines input h rest b = ap lines_in (b.whole ∙ head_lines h rest) ∙ lines_read (lines_of h) rest (fixed_lacks h b.good) (optional_lacks h b.good)

pub lines_begin : (input : List ℕ) (l : Lines) (h : ReplyHead) (rest : List ℕ) → input ≡ lines_text l rest → AreLinesOf l h → Begins input h rest
lines_begin input l h rest e are = record { good = are.good; whole = e ∙ ap (λ x. lines_text x rest) are.are ∙ sym (head_lines h rest) }

-- ---- a head has an empty line

or_right : (a b : Bool) → b ≡ true → (a || b) ≡ true
or_right true b e = refl
or_right false b e = e

end_after : (a b : List ℕ) → has_end b ≡ true → has_end (a ++ b) ≡ true
unfolding has_end
end_after [] b e = e
end_after (x ∷ a) b e = or_right (is_some (behind (codes "\r\n\r\n") (x ∷ (a ++ b)))) (has_end (a ++ b)) (end_after a b e)

end_at : (rest : List ℕ) → has_end (13 ∷ 10 ∷ 13 ∷ 10 ∷ rest) ≡ true
unfolding has_end behind
end_at rest = refl

-- behind a line, the rest of a head has an empty line
abbrev Ends : List ℕ → Type 0
Ends text = has_end (13 ∷ 10 ∷ text) ≡ true

ends_flags : (a c : Bool) (rest : List ℕ) → Ends (flags_text a c rest)
ends_flags true true rest = end_after (codes "\r\nallow: GET\r\nconnection: close") _ (end_at rest)
ends_flags true false rest = end_after (codes "\r\nallow: GET") _ (end_at rest)
ends_flags false true rest = end_after (codes "\r\nconnection: close") _ (end_at rest)
ends_flags false false rest = end_at rest

ends_line : (name value text : List ℕ) → Ends text → has_end (line name value ++ text) ≡ true
ends_line name value text e = subst (λ x. has_end x ≡ true) (sym (line_at name value text)) (end_after name _ (end_after value _ e))

ends_if : (name text : List ℕ) (o : Option (List ℕ)) → Ends text → Ends (line_if name (λ value. value) o ++ text)
ends_if name text None e = e
ends_if name text (Some value) e = end_after (13 ∷ 10 ∷ []) _ (ends_line name value text e)

pub lines_end : (l : Lines) (rest : List ℕ) → has_end (lines_text l rest) ≡ true
unfolding lines_text
lines_end l rest =
    let flags = ends_flags l.allow l.close rest in
    let optional : Ends (optional_text l.optional (flags_text l.allow l.close rest)) = ends_if (codes "electric-handle: ") _ l.optional.handle (ends_if (codes "electric-offset: ") _ l.optional.offset (ends_if (codes "electric-schema: ") _ l.optional.schema (ends_if (codes "electric-cursor: ") _ l.optional.cursor flags))) in
    end_after (line (codes "HTTP/1.1 ") l.fixed.status) _ (end_after (line (codes "content-type: ") l.fixed.kind) _ (end_after (line (codes "content-length: ") l.fixed.length) _ (ends_line (codes "cache-control: ") l.fixed.cache _ optional)))

-- ---- what is refused

abbrev LinesRead : Type 0
LinesRead = Lines × List ℕ

abbrev got : LinesRead → Option LinesRead → LinesRead
got d None = d
got d (Some x) = x

abbrev Absent : Option LinesRead → Type 0
Absent None = Unit {0}
Absent (Some x) = ⊥

pub same_lines : (l m : Lines) (r s : List ℕ) → ◌≡◌ {A = Option LinesRead} (Some (l, r)) (Some (m, s)) → (l ≡ m) × (r ≡ s)
same_lines l m r s e = (ap (λ o. (got (l, r) o).0) e, ap (λ o. (got (l, r) o).1) e)

pub no_lines : (input : List ℕ) → None ≡ lines_in input → HasNoReply input
no_lines input none h rest b = absurd (subst Absent (none ∙ begins_lines input h rest b) tt)

pub bad_values : (input : List ℕ) (l : Lines) (rest : List ℕ) → Some (l, rest) ≡ lines_in input → ((head : ReplyHead) → AreLinesOf l head → ⊥) → HasNoReply input
bad_values input l rest is none h more b = let same = (same_lines l (lines_of h) rest more (is ∙ begins_lines input h more b)).0 in absurd (none h (record { good = b.good; are = same }))

pub no_body : (input : List ℕ) (head : ReplyHead) (rest : List ℕ) → Begins input head rest → head.length ≤ length rest → ¬ (IsUtf8 (take head.length rest)) → HasNoReply input
no_body input head rest begins long none h more b =
    let both = same_lines (lines_of head) (lines_of h) rest more (sym (begins_lines input head rest begins) ∙ begins_lines input h more b) in
    let same = both.0 in
    let r = both.1 in
    let n : head.length ≡ h.length = decimal_injective head.length h.length begins.good.length b.good.length (ap (λ (x : Lines). x.fixed.length) same) in
    (subst (λ (x : ℕ). x ≤ length more) n (subst (λ (t : List ℕ). head.length ≤ length t) r long), λ u. none (subst (λ (x : ℕ). IsUtf8 (take x rest)) (sym n) (subst (λ (t : List ℕ). IsUtf8 (take h.length t)) (sym r) u)))

pub bad_answer : (input : List ℕ) (l : Lines) (rest : List ℕ) → Some (l, rest) ≡ lines_in input → input ≡ lines_text l rest → ((head : ReplyHead) → AreLinesOf l head → ⊥) → (has_end input ≡ true) × HasNoReply input
bad_answer input l rest is whole none = (ap has_end whole ∙ lines_end l rest, bad_values input l rest is none)

pub no_body_answer : (input : List ℕ) (head : ReplyHead) (rest : List ℕ) → Begins input head rest → head.length ≤ length rest → ¬ (IsUtf8 (take head.length rest)) → (has_end input ≡ true) × HasNoReply input
no_body_answer input head rest begins long none = (ap has_end (begins.whole ∙ head_lines head rest) ∙ lines_end (lines_of head) rest, no_body input head rest begins long none)

-- ---- a search for the empty line

pub end_stop : (text : List ℕ) → text ≡ [] → has_end text ≡ false
unfolding has_end
end_stop text e = ap has_end e

pub end_pass : (text : List ℕ) (b : ℕ) (others : List ℕ) → text ≡ b ∷ others → is_some (behind (codes "\r\n\r\n") text) ≡ false → has_end text ≡ has_end others
unfolding has_end
end_pass text b others e none = ap has_end e ∙ ap (λ x. x || has_end others) (ap (λ t. is_some (behind (codes "\r\n\r\n") t)) (sym e) ∙ none)

pub end_found : (text : List ℕ) (b : ℕ) (others : List ℕ) → text ≡ b ∷ others → is_some (behind (codes "\r\n\r\n") text) ≡ true → has_end text ≡ true
unfolding has_end
end_found text b others e some = ap has_end e ∙ ap (λ x. x || has_end others) (ap (λ t. is_some (behind (codes "\r\n\r\n") t)) (sym e) ∙ some)

-- ---- a reply that was read

abbrev pub reply_of : ReplyHead → List ℕ → Reply
reply_of head body = record { status = head.status; handle = head.handle; offset = head.offset; schema = head.schema; cursor = head.cursor; max_age = head.max_age; body = body }

head_again : (head : ReplyHead) (body : List ℕ) → length body ≡ head.length → head_of (reply_of head body) head.close ≡ head
head_again head body e = λ i. record { status = head.status; length = e i; max_age = head.max_age; handle = head.handle; offset = head.offset; schema = head.schema; cursor = head.cursor; close = head.close }

good_again : (head : ReplyHead) (body : List ℕ) → length body ≡ head.length → IsReplyHead head → IsReplyHead (head_of (reply_of head body) false)
good_again head body e good = record { status = good.status; length = subst (λ (x : ℕ). x < 2 ^ 64) (sym e) good.length; max_age = good.max_age; handle = good.handle; offset = good.offset; schema = good.schema; cursor = good.cursor }

cut_long : (k : ℕ) (rest : List ℕ) → k ≤ length rest → length (take k rest) ≡ k
cut_long k rest long = omega (arith, length-take {A = ℕ})

pub read_whole : (input : List ℕ) (head : ReplyHead) (rest body : List ℕ) (r : Reply) (n : ℕ) → Begins input head rest → head.length ≤ length rest → body ≡ take head.length rest → IsUtf8 body → r ≡ reply_of head body → n ≡ (length input - length rest) + head.length → IsRead input r n
read_whole input head rest body r n begins long is utf8 e is_n =
    subst (λ (x : Reply). IsRead input x n) (sym e) (record {
      close = head.close;
      rest = drop head.length rest;
      good = (good_again head body same begins.good, utf8);
      whole = whole;
      long = is_n ∙ counted;
    })
  where
    same : length body ≡ head.length
    same = ap length is ∙ cut_long head.length rest long

    text : head_text (head_of (reply_of head body) head.close) ≡ head_text head
    text = ap head_text (head_again head body same)

    whole : input ≡ (head_text (head_of (reply_of head body) head.close) ++ body) ++ drop head.length rest
    whole = begins.whole ∙ ap (λ x. head_text head ++ x) (sym (take-append-drop head.length rest)) ∙ sym (append_assoc (head_text head) (take head.length rest) (drop head.length rest)) ∙ ap (λ x. (head_text head ++ x) ++ drop head.length rest) (sym is) ∙ ap (λ x. (x ++ body) ++ drop head.length rest) (sym text)

    counted : (length input - length rest) + head.length ≡ length (head_text (head_of (reply_of head body) head.close) ++ body)
    counted =
        let a : length input ≡ length (head_text head) + length rest = ap length begins.whole ∙ length-append (head_text head) rest in
        let b : length (head_text (head_of (reply_of head body) head.close) ++ body) ≡ length (head_text head) + length body = length-append (head_text (head_of (reply_of head body) head.close)) body ∙ ap (λ x. length x + length body) text in
        omega (arith, a, b, same)
