-- Requests that wait.
use Rattle.std.proofs.Common.{◌≡◌, ◌∙◌, ℕ, Bool, true, false, true≢false, List, [], ◌∷◌, ◌++◌, length, refl, sym, ap, subst, arith}
use Rattle.std.specs.Prelude.{◌&&◌, ◌==◌}
use Rattle.std.proofs.lemmas.Bool.{and_parts, eqb-true, eq-eqb}
use Rattle.shape_base.specs.declared.entry.Entry.{Entry}
use Rattle.shape_base.specs.declared.offset.Offset.{Offset}
use Rattle.shape_base.specs.declared.offset.Offset.TheVariants.{At}
use Rattle.shape_base.specs.declared.page.Page.{Page}
use Rattle.shape_base.specs.Offsets.{past}
use Rattle.shape_base.specs.Log.{end_of}
use Rattle.shape_log.specs.Texts as texts
use Rattle.shape_json.specs.Page.{page_of}
use Rattle.shape_json.proofs.Lemmas.{page_is_front}
use Rattle.chunked_log.specs.Chunked.{Chunked, Holds, Carries}
use Rattle.chunked_log.proofs.Lemmas.{last_is}
use Rattle.shape_state.specs.Answers.{waits}

pub same_end : (log : Chunked) (entries : List Entry) → Holds log entries → texts.end_of log.offsets ≡ end_of entries
same_end log entries held = ap texts.end_of held.offsets ∙ last_is (At 0 0) entries

pub both_true : (live late : Bool) (count : ℕ) → (waits live late && (count == 0)) ≡ true → (waits live late ≡ true) × (count ≡ 0)
both_true live late count h = let p = and_parts (waits live late) (count == 0) h in (p.0, eqb-true count 0 p.1)

front_none : (es rest : List Entry) → [] ≡ es ++ rest → length es ≡ 0
front_none [] rest e = refl
front_none (x ∷ es) rest e = cc

pub no_more : (log : Chunked) (entries : List Entry) (o : Offset) (live late : Bool) (page : Page) → Carries page (page_of log.least entries o) → (waits live late && (page.count == 0)) ≡ false → waits live late ≡ true → past o entries ≡ [] → ⊥
no_more log entries o live late page carries more waiting none =
    let front = page_is_front log.least entries o in
    let count : page.count ≡ 0 = carries.count ∙ front_none (page_of log.least entries o).entries front.rest (sym none ∙ front.cut) in
    true≢false (sym (ap (λ (b : Bool). b && (page.count == 0)) waiting ∙ eq-eqb page.count 0 count) ∙ more)
