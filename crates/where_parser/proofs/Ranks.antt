-- Which reader calls which at one nesting, and the loop over the members of a list.
use Rattle.std.proofs.Common.{◌≡◌, ℕ, zero, suc, ◌≤◌, ◌<◌, ◌-◌, List, [], ◌∷◌, ◌++◌, length, true, false, cond, refl, sym, ap, ◌∙◌, append_assoc, arith}
use Rattle.std.proofs.lemmas.List.{append-nil}
use Rattle.where_lexer.specs.declared.token.Token.{Token}
use Rattle.where_parser.specs.declared.word.Joint.{Joint}
use Rattle.where_parser.specs.declared.word.Joint.TheVariants as joints
use Rattle.where_parser.specs.declared.stop.Stop.{Stop}
use Rattle.where_parser.specs.declared.stop.Stop.TheVariants as stops
use Rattle.where_parser.specs.View.{Fails}
use Rattle.where_grammar.specs.Tree.{Tree, NotOf}
use Rattle.ll_rules.specs.Rules.{Fault, Syntax, TooDeep, one_read, barred, Answer, Read, Refuse, then, leads, more}
use Rattle.where_grammar.specs.Grammar.{atom, a_not, is_over, an_open, an_and, has, not, plain, goes_is, all_of}
use Rattle.where_parser.specs.Parts.{member, joint, joint_ends, IsJoined, read_member, read_others, read_not, read_is, with_front}
use Rattle.ll_rules.proofs.Lemmas.{Lawful, more_step, more_stop, read_shorter, tail}
use Rattle.where_grammar.proofs.Lemmas.{negation, atom_over, least_atom_lawful, atom_over_lawful, not_lawful, not_ends, members_lawful, and_is}

abbrev pub rank : Joint → ℕ
rank joints.Comma = 2
rank joints.And = 11
rank joints.Or = 14

pub atom_lawful : (depth : ℕ) → Lawful (atom depth)
unfolding atom
atom_lawful zero = least_atom_lawful
atom_lawful (suc depth) = atom_over_lawful (not depth) (not_lawful depth) (not_ends depth)

pub member_lawful : (kind : Joint) (depth : ℕ) → Lawful (member kind depth)
member_lawful joints.Comma depth = atom_lawful depth
member_lawful joints.And depth = not_lawful depth
member_lawful joints.Or depth = members_lawful (has an_and) goes_is (not depth) all_of and_is (not_lawful depth) (not_ends depth)

pub member_shorter : (kind : Joint) (depth : ℕ) (tokens : List Token) (tree : Tree) (rest : List Token) → read_member kind depth tokens ≡ Read tree rest → length rest ≤ length tokens
unfolding read_member
member_shorter kind depth tokens tree rest e = read_shorter (member kind depth) (member_lawful kind depth) tokens tree rest e

-- where no word joins a further member
pub others_stop : (kind : Joint) (depth : ℕ) (tokens : List Token) → leads (joint kind) tokens ≡ false → read_others kind depth tokens ≡ Read [] tokens
unfolding read_others
others_stop kind depth tokens e = more_stop (joint kind) (member kind depth) (length tokens) tokens e

pub others_refused : (kind : Joint) (depth : ℕ) (t : Token) (tokens : List Token) (fault : Fault) (rest : List Token) → joint kind t ≡ true → read_member kind depth tokens ≡ Refuse fault rest → read_others kind depth (t ∷ tokens) ≡ Refuse fault rest
unfolding read_others read_member
others_refused kind depth t tokens fault rest e f =
    more_step (joint kind) (member kind depth) (joint_ends kind) (member_lawful kind depth) t tokens
    ∙ ap (λ b. cond b ((tail (joint kind) (member kind depth) (joint_ends kind)).read tokens) (Read [] (t ∷ tokens))) e
    ∙ ap (λ x. then x (λ a r. then ((more (joint kind) (member kind depth) (joint_ends kind)).read r) (λ bs end. Read (a ∷ bs) end))) f

pub front_more : (front : List Tree) (tree : Tree) (x : Answer Token (List Tree)) → with_front front (then x (λ bs end. Read (tree ∷ bs) end)) ≡ with_front (front ++ tree ∷ []) x
front_more front tree (Read all rest) = ap (λ u. Read u rest) (sym (append_assoc front (tree ∷ []) all))
front_more front tree (Refuse fault rest) = refl

pub others_more : (kind : Joint) (depth : ℕ) (front : List Tree) (t : Token) (tokens : List Token) (tree : Tree) (rest : List Token) → joint kind t ≡ true → read_member kind depth tokens ≡ Read tree rest → with_front front (read_others kind depth (t ∷ tokens)) ≡ with_front (front ++ tree ∷ []) (read_others kind depth rest)
unfolding read_others read_member
others_more kind depth front t tokens tree rest e f =
    ap (λ x. with_front front x) (more_step (joint kind) (member kind depth) (joint_ends kind) (member_lawful kind depth) t tokens
    ∙ ap (λ b. cond b ((tail (joint kind) (member kind depth) (joint_ends kind)).read tokens) (Read [] (t ∷ tokens))) e
    ∙ ap (λ x. then x (λ a r. then ((more (joint kind) (member kind depth) (joint_ends kind)).read r) (λ bs end. Read (a ∷ bs) end))) f)
    ∙ front_more front tree ((more (joint kind) (member kind depth) (joint_ends kind)).read rest)

-- NOT words

pub not_other : (depth : ℕ) (tokens : List Token) → leads (has a_not) tokens ≡ false → read_not depth tokens ≡ read_is depth tokens
unfolding read_not read_is not atom
not_other zero tokens e = ap (λ b. cond b (Refuse TooDeep tokens) ((is_over (barred (has an_open) plain)).read tokens)) e
not_other (suc depth) tokens e = ap (λ b. cond b ((negation (not depth)).read tokens) ((is_over (atom_over (not depth))).read tokens)) e

pub not_barred : (depth : ℕ) (tokens : List Token) → depth ≡ 0 → leads (has a_not) tokens ≡ true → read_not depth tokens ≡ Refuse TooDeep tokens
unfolding read_not not
not_barred zero tokens z e = ap (λ b. cond b (Refuse TooDeep tokens) ((is_over (barred (has an_open) plain)).read tokens)) e
not_barred (suc depth) tokens z e = absurd (omega arith)

pub not_inner : (depth : ℕ) (tokens rest : List Token) → leads (has a_not) tokens ≡ true → one_read a_not tokens ≡ Read tt rest → read_not (suc depth) tokens ≡ then (read_not depth rest) (λ tree r. Read (NotOf tree) r)
unfolding read_not not
not_inner depth tokens rest e f =
    ap (λ b. cond b ((negation (not depth)).read tokens) ((is_over (atom_over (not depth))).read tokens)) e
    ∙ ap (λ x. then x (λ m r. then ((not depth).read r) (λ tree s. Read (NotOf tree) s))) f

pub not_read : (depth : ℕ) (tokens rest : List Token) (tree : Tree) (end : List Token) → 0 < depth → leads (has a_not) tokens ≡ true → one_read a_not tokens ≡ Read tt rest → read_not (depth - 1) rest ≡ Read tree end → read_not depth tokens ≡ Read (NotOf tree) end
not_read depth tokens rest tree end p e f g =
    let s : depth ≡ suc (depth - 1) = omega arith in
    ap (λ n. read_not n tokens) s ∙ not_inner (depth - 1) tokens rest e f ∙ ap (λ x. then x (λ t r. Read (NotOf t) r)) g

pub not_refused : (depth : ℕ) (tokens rest : List Token) (fault : Fault) (end : List Token) → 0 < depth → leads (has a_not) tokens ≡ true → one_read a_not tokens ≡ Read tt rest → read_not (depth - 1) rest ≡ Refuse fault end → read_not depth tokens ≡ Refuse fault end
not_refused depth tokens rest fault end p e f g =
    let s : depth ≡ suc (depth - 1) = omega arith in
    ap (λ n. read_not n tokens) s ∙ not_inner (depth - 1) tokens rest e f ∙ ap (λ x. then x (λ t r. Read (NotOf t) r)) g

-- the loop over the members

pub joined_refused : (kind : Joint) (depth : ℕ) (front : List Tree) (tokens inside : List Token) (fault : Fault) (rest : List Token) → IsJoined kind tokens inside → read_member kind depth inside ≡ Refuse fault rest → with_front front (read_others kind depth tokens) ≡ Refuse fault rest
joined_refused kind depth front tokens inside fault rest j e =
    ap (λ u. with_front front (read_others kind depth u)) j.cut ∙ ap (λ x. with_front front x) (others_refused kind depth j.token inside fault rest j.passes e)

pub joined_more : (kind : Joint) (depth : ℕ) (front : List Tree) (tokens inside : List Token) (tree : Tree) (rest : List Token) → IsJoined kind tokens inside → read_member kind depth inside ≡ Read tree rest → with_front (front ++ tree ∷ []) (read_others kind depth rest) ≡ with_front front (read_others kind depth tokens)
joined_more kind depth front tokens inside tree rest j e =
    sym (ap (λ u. with_front front (read_others kind depth u)) j.cut ∙ others_more kind depth front j.token inside tree rest j.passes e)

pub joined_shorter : (kind : Joint) (depth : ℕ) (tokens inside : List Token) (tree : Tree) (rest : List Token) → IsJoined kind tokens inside → read_member kind depth inside ≡ Read tree rest → length rest < length tokens
joined_shorter kind depth tokens inside tree rest j e =
    let s : length rest ≤ length inside = member_shorter kind depth inside tree rest e in
    let c : length tokens ≡ suc (length inside) = ap length j.cut in
    omega arith

pub joined_stop : (kind : Joint) (depth : ℕ) (front : List Tree) (tokens : List Token) → leads (joint kind) tokens ≡ false → with_front front (read_others kind depth tokens) ≡ Read front tokens
joined_stop kind depth front tokens e =
    ap (λ x. with_front front x) (others_stop kind depth tokens e) ∙ ap (λ u. Read u tokens) (append-nil front)

pub joined_fails : (kind : Joint) (depth : ℕ) (front : List Tree) (tokens inside whole : List Token) (stop : Stop) → IsJoined kind tokens inside → with_front front (read_others kind depth tokens) ≡ read_others kind depth whole → Fails stop (read_member kind depth inside) → Fails stop (read_others kind depth whole)
joined_fails kind depth front tokens inside whole stops.Memory j i e = tt
joined_fails kind depth front tokens inside whole (stops.Syntax rest) j i e = sym i ∙ joined_refused kind depth front tokens inside Syntax rest.now j e
joined_fails kind depth front tokens inside whole (stops.TooDeep rest) j i e = sym i ∙ joined_refused kind depth front tokens inside TooDeep rest.now j e
