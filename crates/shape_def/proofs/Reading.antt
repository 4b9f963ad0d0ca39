-- What parsing and checking say of a clause's text.
use Rattle.std.proofs.Common.{◌≡◌, ℕ, List, length, refl, sym, ◌∙◌, ap, subst, Option, None, Some, Result, Ok, Err, MatchResult}
use Rattle.std.specs.Option.{option_map}
use Rattle.shape_base.specs.declared.definition.Column.{Column}
use Rattle.shape_base.specs.declared.truth.Tri.{Tri}
use Rattle.shape_base.specs.declared.truth.Tri.TheVariants.{True}
use Rattle.shape_base.specs.declared.row_test.BadValue.{BadValue}
use Rattle.shape_base.specs.Tables.{Values}
use Rattle.shape_base.specs.Shape.{IsLeast}
use Rattle.where_grammar.specs.Tree.{Tree}
use Rattle.where_grammar.specs.Clause.{IsClauseText}
use Rattle.where_parser.specs.declared.parsing.ParseError.{ParseError}
use Rattle.where_parser.specs.declared.parsing.ParseError.TheVariants as parsing
use Rattle.where_parser.specs.Whole.{IsTreeOf, IsSyntaxAt, IsDeepAt}
use Rattle.where_parser.proofs.Lemmas.{tree_answer, syntax_answer, deep_answer, tree_said, syntax_said, deep_said, memory_not_said}
use Rattle.where_eval.specs.declared.checked.Checked.{Checked}
use Rattle.where_eval.specs.declared.faults.CheckError.{CheckError}
use Rattle.where_eval.specs.declared.faults.CheckError.TheVariants as checking
use Rattle.where_eval.specs.Checked.{IsChecked, IsCheck, IsTruth, width}
use Rattle.shape_def.specs.Clauses.{answer_in, truth_by, truth_under, unread_by, unread_under, of_parse, of_check, refusal_by}
use Rattle.shape_def.specs.Definition.{IsRefusal}
use Rattle.shape_def.specs.Held.{IsHeldFor, IsHeld}
use Rattle.shape_def.specs.Laws.{FollowsTheGrammar, AnswersFollowTheGrammar}

clause_answer : (text : List ℕ) (tree : Tree) → IsClauseText 64 text tree → answer_in text ≡ Ok tree
unfolding answer_in
clause_answer text tree h = tree_answer text tree h

answer_tree : (text : List ℕ) (tree : Tree) → IsTreeOf text tree → answer_in text ≡ Ok tree
answer_tree text tree h = clause_answer text tree h.clause

answer_syntax : (text : List ℕ) (place : ℕ) → IsSyntaxAt text place → answer_in text ≡ Err (parsing.Syntax place)
unfolding answer_in
answer_syntax text place h = syntax_answer text place h

answer_deep : (text : List ℕ) (place : ℕ) → IsDeepAt text place → answer_in text ≡ Err (parsing.TooDeep place)
unfolding answer_in
answer_deep text place h = deep_answer text place h

answer_follows : (text : List ℕ) → FollowsTheGrammar text
unfolding answer_in
answer_follows text = record {
  tree = λ tree. (λ e. (tree_said text tree e).clause, clause_answer text tree);
  syntax = λ place. (syntax_said text place, answer_syntax text place);
  too_deep = λ place. (deep_said text place, answer_deep text place);
  answered = memory_not_said text;
}

pub follows_the_grammar : AnswersFollowTheGrammar
follows_the_grammar text = answer_follows text

pub parse_refused : (c : List Column) (text : List ℕ) (e : ParseError) → ((place : ℕ) → e ≡ parsing.Syntax place → IsSyntaxAt text place) → ((place : ℕ) → e ≡ parsing.TooDeep place → IsDeepAt text place) → IsRefusal (refusal_by c (answer_in text)) (of_parse e)
parse_refused c text parsing.OutOfMemory syntax deep = tt
parse_refused c text (parsing.Syntax place) syntax deep = ap (refusal_by c) (answer_syntax text place (syntax place refl))
parse_refused c text (parsing.TooDeep place) syntax deep = ap (refusal_by c) (answer_deep text place (deep place refl))

pub check_refused : (c : List Column) (text : List ℕ) (tree : Tree) (e : CheckError) → IsTreeOf text tree → IsCheck c tree (Err e) → IsRefusal (refusal_by c (answer_in text)) (of_check e)
check_refused c text tree checking.OutOfMemory h k = tt
check_refused c text tree (checking.UnknownColumn atom) h k = ap (refusal_by c) (answer_tree text tree h) ∙ ap (option_map of_check) k
check_refused c text tree (checking.TypeMismatch atom) h k = ap (refusal_by c) (answer_tree text tree h) ∙ ap (option_map of_check) k
check_refused c text tree (checking.BadLiteral atom) h k = ap (refusal_by c) (answer_tree text tree h) ∙ ap (option_map of_check) k

pub is_held : (c : List Column) (text : List ℕ) (tree : Tree) (checked held : Checked) → IsTreeOf text tree → IsCheck c tree (Ok checked) → held ≡ checked → IsHeldFor c text held × (refusal_by c (answer_in text) ≡ None)
is_held c text tree checked held h k is = (record { tree = tree; read = answer_tree text tree h; checked = subst (λ (x : Checked). IsChecked x c tree) (sym is) k }, ap (refusal_by c) (answer_tree text tree h) ∙ ap (option_map of_check) k.faultless)

-- what is held

pub held_alone : (c : List Column) (clause : Option (List ℕ)) (row : Values) (o : Option Checked) → o ≡ None → IsHeld c clause o → truth_under c clause row ≡ Some True
held_alone c None row o none h = refl
held_alone c (Some text) row o none h = let no : IsHeld c (Some text) None = subst (IsHeld c (Some text)) none h in absurd no

abbrev pub Answers : List Column → Option (List ℕ) → Values → Result Tri BadValue → Type 0
Answers c clause row result = MatchResult result (λ tri. truth_under c clause row ≡ Some tri) (λ e. (truth_under c clause row ≡ None) × IsLeast (unread_under c clause row) e.column)

answers_text : (c : List Column) (text : List ℕ) (tree : Tree) (row : Values) (result : Result Tri BadValue) → answer_in text ≡ Ok tree → IsTruth c tree row result → Answers c (Some text) row result
answers_text c text tree row (Ok tri) is h = ap (λ a. truth_by c a row) is ∙ h
answers_text c text tree row (Err bad) is h = (ap (λ a. truth_by c a row) is ∙ h.0, subst (λ a. IsLeast (unread_by c a row) bad.column) (sym is) h.1)

pub held_answers : (c : List Column) (clause : Option (List ℕ)) (row : Values) (o : Option Checked) (checked : Checked) (result : Result Tri BadValue) → o ≡ Some checked → IsHeld c clause o
    → ((cs : List Column) (tree : Tree) → IsChecked checked cs tree → IsTruth cs tree row result) → Answers c clause row result
held_answers c None row o checked result some h k = let no : IsHeld c None (Some checked) = subst (IsHeld c None) some h in absurd no
held_answers c (Some text) row o checked result some h k = let held : IsHeldFor c text checked = subst (IsHeld c (Some text)) some h in answers_text c text held.tree row result held.read (k c held.tree held.checked)

pub held_width : (c : List Column) (clause : Option (List ℕ)) (n : ℕ) (o : Option Checked) (checked : Checked) → o ≡ Some checked → IsHeld c clause o → n ≡ length c → n ≡ width checked
held_width c None n o checked some h wide = let no : IsHeld c None (Some checked) = subst (IsHeld c None) some h in absurd no
held_width c (Some text) n o checked some h wide = let held : IsHeldFor c text checked = subst (IsHeld c (Some text)) some h in wide ∙ sym held.checked.wide
