-- The law at one call of the client.
use Rattle.std.specs.Option.{option_and_then}
use Rattle.std.proofs.Common.{◌≡◌, ℕ, List, [], ◌∷◌, refl, sym, ◌∙◌, ap, subst, Option, None, Some, IsSomeAnd, Result, Ok, Err}
use Rattle.shape_base.specs.declared.reply.Reply.{Reply}
use Rattle.shape_base.specs.declared.offset.Offset.{Offset}
use Rattle.shape_base.specs.declared.entry.Entry.{Entry}
use Rattle.shape_base.specs.Shape.{Map}
use Rattle.shape_base.specs.Log.{fold_op, fold_from, fault_or, first_fault}
use Rattle.http_edge.specs.World.{World}
use Rattle.fold_client.specs.declared.client.Taken.{Taken}
use Rattle.fold_client.specs.declared.client.Taken.TheVariants.{UpToDate, More, Refetch}
use Rattle.fold_client.specs.declared.client.TakeError.{TakeError}
use Rattle.fold_client.specs.declared.client.TakeError.TheVariants.{BadReply, ForeignHandle, BadFold, ServerRefused, OutOfMemory}
use Rattle.shape_base.specs.declared.handle.Handle.{Handle}
use Rattle.fold_client.specs.Client.{Held, Outcome, After, take_reply, Says, fault_at, refused, with_rows}
use Rattle.fold_client.specs.Client as law
use Rattle.fold_client.specs.declared.body.Body.{Body}
use Rattle.fold_client.specs.Following.{IsFairFor, Following, start, follow, followed, IsRight}
use Rattle.fold_client.specs.Taking.{Meets, IsRightly, IsLawfulTake}
use Rattle.fold_client.proofs.Steps.{client_law}

right_by : (w : World) (identity : List ℕ) (old next : Following) (n : ℕ) (t u : Outcome) → t ≡ u → IsRight w identity old next n t → IsRight w identity old next n u
right_by w identity old next n t u e h = subst (IsRight w identity old next n) e h

rightly : (w : World) (identity : List ℕ) (old next : Following) (n : ℕ) (after : After) (before now : Held) (result : Result Taken TakeError) → next.held ≡ after.held → IsRight w identity old next n after.outcome → Meets after before result now → IsRightly w identity old next n before result now
rightly w identity old next n after before now (Ok UpToDate) e right meets = (right_by w identity old next n after.outcome law.UpToDate (ap (λ (a : After). a.outcome) meets) right, sym (e ∙ ap (λ (a : After). a.held) meets))
rightly w identity old next n after before now (Ok More) e right meets = sym (e ∙ ap (λ (a : After). a.held) meets)
rightly w identity old next n after before now (Ok Refetch) e right meets = sym (e ∙ ap (λ (a : After). a.held) meets)
rightly w identity old next n after before now (Err BadReply) e right meets = right_by w identity old next n after.outcome law.BadReply (ap (λ (a : After). a.outcome) meets.0) right
rightly w identity old next n after before now (Err (ForeignHandle asked got)) e right meets = right_by w identity old next n after.outcome (law.ForeignHandle asked got) (ap (λ (a : After). a.outcome) meets.0) right
rightly w identity old next n after before now (Err (BadFold offset key)) e right meets = right_by w identity old next n after.outcome (law.BadFold offset key) (ap (λ (a : After). a.outcome) meets.0) right
rightly w identity old next n after before now (Err (ServerRefused status)) e right meets = (meets.1, sym (e ∙ ap (λ (a : After). a.held) meets.0))
rightly w identity old next n after before now (Err OutOfMemory) e right meets = meets

pub lawful_take : (before now : Held) (reply : Reply) (result : Result Taken TakeError) → ((body : Option Body) → Says reply.body body → Meets (take_reply before reply body) before result now) → IsLawfulTake before reply result now
lawful_take before now reply result meets w identity xs x good fair is same next =
    let old = followed start xs in
    let right = (client_law w identity xs good fair).1 x (subst (λ (c : Held). IsFairFor w identity c x) is next) in
    let here : Meets (take_reply before x.given.reply x.body) before result now = subst (λ (r : Reply). Meets (take_reply before r x.body) before result now) (sym same) (meets x.body (subst (λ (r : Reply). Says r.body x.body) same next.says)) in
    rightly w identity (followed start xs) (follow (followed start xs) x) x.given.shown (take_reply (followed start xs).held x.given.reply x.body) before now result refl right (subst (λ (c : Held). Meets (take_reply c x.given.reply x.body) before result now) is here)

-- ---- entries that cannot be folded

no_fold : (e : Entry) (es : List Entry) (o : Option Map) (x : Entry) → ((m : Map) → first_fault es m ≡ Some x → fold_from es m ≡ None) → fault_or e (first_fault es) o ≡ Some x → option_and_then (fold_from es) o ≡ None
no_fold e es None x later h = refl
no_fold e es (Some m) x later h = later m h

pub not_folded : (es : List Entry) (m : Map) (x : Entry) → first_fault es m ≡ Some x → fold_from es m ≡ None
not_folded [] m x h = cc
not_folded (e ∷ es) m x h = no_fold e es (fold_op e.op e.key e.cells m) x (λ next more. not_folded es next x more) h

-- the page is refused at its first fault
faulted : (es : List Entry) (m : Map) (o : Option Entry) (offset : Offset) (key : List ℕ) → first_fault es m ≡ o → IsSomeAnd o (λ e. (e.offset ≡ offset) × (e.key ≡ key)) → (fold_from es m ≡ None) × (fault_at (first_fault es m) ≡ law.BadFold offset key)
faulted es m None offset key is h = absurd h
faulted es m (Some e) offset key is h = (not_folded es m e is, ap fault_at is ∙ ap (λ (o : Offset). law.BadFold o e.key) h.0 ∙ ap (law.BadFold offset) h.1)

pub bad_fold : (es : List Entry) (m : Map) (offset : Offset) (key : List ℕ) → IsSomeAnd (first_fault es m) (λ e. (e.offset ≡ offset) × (e.key ≡ key)) → (fold_from es m ≡ None) × (fault_at (first_fault es m) ≡ law.BadFold offset key)
bad_fold es m offset key h = faulted es m (first_fault es m) offset key refl h

pub page_fault : (c : Held) (h : Handle) (end : Offset) (cursor : Option ℕ) (body : Body) (offset : Offset) (key : List ℕ) (now : Map) → now ≡ c.rows → IsSomeAnd (first_fault body.entries c.rows) (λ e. (e.offset ≡ offset) × (e.key ≡ key))
    → Meets (with_rows c h end cursor body (fold_from body.entries c.rows)) c (Err (BadFold offset key)) (record { handle = c.handle; left = c.left; offset = c.offset; cursor = c.cursor; rows = now })
page_fault c h end cursor body offset key now same fault =
    let f = bad_fold body.entries c.rows offset key fault in
    subst (λ (rows : Map). Meets (with_rows c h end cursor body (fold_from body.entries c.rows)) c (Err (BadFold offset key)) (record { handle = c.handle; left = c.left; offset = c.offset; cursor = c.cursor; rows = rows })) (sym same)
    (ap (with_rows c h end cursor body) f.0 ∙ ap (refused c) f.1, refl)
