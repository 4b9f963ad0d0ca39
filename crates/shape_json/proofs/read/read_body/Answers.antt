use Rattle.std.proofs.Common.{◌≡◌, List, ap, sym, ◌∙◌, true, false, true≢false, IsTrue}
use Rattle.std.specs.List.{list_all}
use Rattle.serde_json.specs.Read.{read}
use Rattle.serde_json.specs.View.{view}
use Rattle.shape_base.specs.declared.entry.Entry.{Entry}
use Rattle.shape_json.specs.declared.control.Control.{Control}
use Rattle.shape_json.specs.Body.{body_text}
use Rattle.shape_json.specs.Plain.{is_plain}
use Rattle.shape_json.specs.Reading.{body_data}
use Rattle.shape_json.proofs.ReadBack.{read_back}
use Rattle.shape_json.proofs.read.read_body.Goals as goal

pub returns-in-Err-clause-back : goal.returns-in-Err-clause-back
returns-in-Err-clause-back c es said plain offsets utf8 h = c.in-Err.ensures (body_data es said) utf8 (ap read h ∙ read_back es said plain)

pub returns-in-Err-body_of-clause-back : goal.returns-in-Err-body_of-clause-back
returns-in-Err-body_of-clause-back c es said plain offsets utf8 h =
    let found : view c.in-Ok.value ≡ body_data es said = c.in-Ok.ensures (body_data es said) utf8 (ap read h ∙ read_back es said plain) in
    c.in-Err-body_of.ensures es said offsets found

pub returns-then-not-are_plain-clause-back : goal.returns-then-not-are_plain-clause-back
returns-then-not-are_plain-clause-back c es said plain offsets utf8 h =
    let found : view c.in-Ok.value ≡ body_data es said = c.in-Ok.ensures (body_data es said) utf8 (ap read h ∙ read_back es said plain) in
    let same = c.in-Ok-body_of.ensures es said offsets found in
    let all : c.are_plain.result ≡ true = c.are_plain.ensures ∙ ap (list_all is_plain) (c.as_slice.ensures ∙ ap (λ p. p.0) same) ∙ plain in
    let no : true ≡ false = sym all ∙ c.if-not-are_plain.true in
    absurd (true≢false no)

pub returns-then-not-branch-clause-back : goal.returns-then-not-branch-clause-back
returns-then-not-branch-clause-back c es said plain offsets utf8 h =
    let found : view c.in-Ok.value ≡ body_data es said = c.in-Ok.ensures (body_data es said) utf8 (ap read h ∙ read_back es said plain) in
    let same = c.in-Ok-body_of.ensures es said offsets found in
    let unequal : c.in_ok-is_body.field-0 ≡ false = c.if-not-branch.true in
    let equal : IsTrue c.in_ok-is_body.field-0 = c.in_ok-is_body.ensures.1 (h ∙ ap (λ (p : List Entry × Control). body_text p.0 p.1) (sym same)) in
    let no : true ≡ false = sym equal ∙ unequal in
    absurd (true≢false no)

pub returns-clause-back : goal.returns-clause-back
returns-clause-back c es said plain offsets utf8 h =
    let found : view c.in-Ok.value ≡ body_data es said = c.in-Ok.ensures (body_data es said) utf8 (ap read h ∙ read_back es said plain) in
    c.in-Ok-body_of.ensures es said offsets found
