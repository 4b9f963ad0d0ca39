-- Each reply that is given now is lawful in the world that a later server tells, and its body says what was written.
use Rattle.std.proofs.Common.{◌≡◌, ℕ, Bool, true, false, List, [], ◌∷◌, length, refl, sym, ◌∙◌, ap, subst, arith, Option, None, Some}
use Rattle.std.specs.Bool.{if◌then◌else◌}
use Rattle.std.specs.Option.{option_map}
use Rattle.std.specs.Prelude.{find, filter, cond}
use Rattle.shape_base.specs.declared.ask.Ask.{Ask}
use Rattle.shape_base.specs.declared.ask.Named.TheVariants.{Absent}
use Rattle.shape_base.specs.declared.cause.Cause.TheVariants as causes
use Rattle.shape_base.specs.declared.entry.Entry.{Entry}
use Rattle.shape_base.specs.declared.handle.Handle.{Handle}
use Rattle.shape_base.specs.declared.history.History.{History}
use Rattle.shape_base.specs.declared.offset.Offset.{Offset}
use Rattle.shape_base.specs.declared.reply.Reply.{Reply}
use Rattle.shape_base.specs.declared.registry_event.RegistryEvent.{RegistryEvent}
use Rattle.shape_base.specs.Tables.{same_text}
use Rattle.shape_base.specs.RegistryHistory.{Registration, live_registrations, had_ready, was_removed, was_registered_under, removal_of, ready_under, live_under}
use Rattle.shape_json.specs.declared.control.Control.{Control}
use Rattle.shape_json.specs.declared.control.Control.TheVariants.{MustRefetch}
use Rattle.shape_json.specs.Body.{body_text}
use Rattle.shape_json.specs.Plain.{ArePlain}
use Rattle.shape_json.specs.Reading.{HaveOffsets}
use Rattle.shape_json.specs.Page.{Part, IsPage}
use Rattle.shape_json.specs.Answer.{Answer, Paged, Gone, OffsetAhead, NotYet, Starting, Unregistered, answer_first, answer_named, answer_of}
use Rattle.shape_json.proofs.Lemmas.{pages_are_asked, page_is_front, body_once}
use Rattle.http_edge.specs.declared.error_code.ErrorCode.{ErrorCode}
use Rattle.http_edge.specs.declared.error_code.ErrorCode.TheVariants as codes
use Rattle.http_edge.specs.Refusals.{error_body}
use Rattle.http_edge.specs.World.{World, Given, log_at, situation, IsGoodWorld}
use Rattle.http_edge.specs.Lawful.{Asked, Refuses, AsksFor, control_of, reply_of, refusal_to_register, is_of_snapshot, IsLawful, BeforeHandle, ByAnswer, NotRegistered, BySnapshot, ByLoss}
use Rattle.http_edge.proofs.Lemmas.{ready_later}
use Rattle.http_edge.proofs.Logs.{rises_at, plain_at, offsets_at}
use Rattle.http_edge.proofs.Pages.{alike_itself}
use Rattle.fold_client.specs.declared.body.Body.{Body}
use Rattle.fold_client.specs.Client.{Says}
use Rattle.core_law.specs.Situation.{Options, Server, Role, Reads, Waits, Owns, HasNone, answers_from, world_of, known_of}
use Rattle.core_law.specs.Steps.{Written, refused_with, written_as, answered, written_to, reply_now}
use Rattle.core_law.specs.Laws.{IsTold}
use Rattle.core_law.proofs.Lists.{some_same}
use Rattle.core_law.proofs.Server.{Sound, Extends}
use Rattle.core_law.proofs.Worlds.{seen_is, answer_is, reply_is}

-- ---- what an exchange waits for

-- it asked for a part without a handle, and that number was registered under its identity
pub record HasWait (v : Server) (asked : Asked) (n : ℕ) : Type 0 where
  pub ask : Ask
  pub is : asked ≡ AsksFor ask
  pub first : ask.named ≡ Absent
  pub under : was_registered_under v.registry ask.identity n ≡ true

abbrev pub HasRole : Server → Asked → Role → Type 0
HasRole v asked Reads = Unit {0}
HasRole v asked (Waits n) = HasWait v asked n
HasRole v asked (Owns n) = HasWait v asked n
HasRole v asked HasNone = Unit {0}

-- ---- lawful replies

abbrev pub given_of : Server → Written → Given
given_of v w = record { reply = w.reply; seen = length v.registry; shown = length v.commits }

record IsWritten (reply : Option Reply) (body : Option Body) (w : Written) : Type 0 where
  pub is : reply ≡ Some w.reply
  pub says : w.body ≡ body

written_parts : (reply : Option Reply) (body : Option Body) (w : Written) → option_map (λ reply. record { reply = reply; body = body }) reply ≡ Some w → IsWritten reply body w
written_parts None body w e = cc
written_parts (Some reply) body w e = let same : record { reply = reply; body = body } ≡ w = some_same _ w e in record { is = ap (λ (x : Written). Some x.reply) same; says = ap (λ (x : Written). x.body) (sym same) }

refused_lawful : (w : World) (v : Server) (code : ErrorCode) (x : Written) → refused_with code ≡ x → IsLawful w (Refuses code) (given_of v x)
refused_lawful w v code x e = BeforeHandle code refl (ap (λ (y : Written). y.reply) (sym e))

module _ (o : Options) (h : History) (step : ℕ → ℕ) (v z : Server) (told : IsTold o h step z) (sound : Sound o v) (on : Extends v z) where
  answered_lawful : (late : Bool) (ask : Ask) (x : Written) → answered o v late ask ≡ Some x → IsLawful (world_of o h step z) (AsksFor ask) (given_of v x)
  answered_lawful late ask x e =
      let w = world_of o h step z in
      let p = written_parts (reply_of (known_of o v) ask (answer_of (answers_from o v late) ask)) _ x e in
      ByAnswer ask late refl (ap (reply_of w ask) (sym (answer_is o h step v z late (given_of v x) ask refl refl told sound on)) ∙ sym (reply_is o h step v z late ask (answer_of (answers_from o v late) ask) refl sound on) ∙ p.is)

  to_lawful : (late : Bool) (asked : Asked) (x : Written) → written_to o v late asked ≡ Some x → IsLawful (world_of o h step z) asked (given_of v x)
  to_lawful late (Refuses code) x e = refused_lawful (world_of o h step z) v code x (some_same _ x e)
  to_lawful late (AsksFor ask) x e = answered_lawful late ask x e

  lost_lawful : (late : Bool) (asked : Asked) (n : ℕ) (x : Written) (b : Bool) → was_removed v.registry n ≡ b → HasWait v asked n → (if b then Some (refused_with codes.SnapshotLost) else written_to o v late asked) ≡ Some x → IsLawful (world_of o h step z) asked (given_of v x)
  lost_lawful late asked n x true gone has e = ByLoss has.ask n has.is (record {
    first = has.first;
    under = ap (λ es. was_registered_under es has.ask.identity n) (seen_is v z on) ∙ has.under;
    removed = ap (λ es. was_removed es n) (seen_is v z on) ∙ gone;
  }) (ap (λ (y : Written). y.reply) (sym (some_same _ x e)))
  lost_lawful late asked n x false gone has e = to_lawful late asked x e

  pub lawful_now : (late : Bool) (asked : Asked) (role : Role) (x : Written) → HasRole v asked role → reply_now o v late asked role ≡ Some x → IsLawful (world_of o h step z) asked (given_of v x)
  lawful_now late asked Reads x has e = to_lawful late asked x e
  lawful_now late asked (Waits n) x has e = lost_lawful late asked n x (was_removed v.registry n) refl has e
  lawful_now late asked (Owns n) x has e = lost_lawful late asked n x (was_removed v.registry n) refl has e
  lawful_now late asked HasNone x has e = cc

  -- ---- no shape can be registered

  none_first : (ask : Ask) (ready live : Option ℕ) → ready ≡ None → live ≡ None → answer_first (answers_from o v false) ready live ≡ Unregistered
  none_first ask ready live e f = ap (λ r. answer_first (answers_from o v false) r live) e ∙ ap (answer_first (answers_from o v false) None) f

  pub unregistered : (ask : Ask) (code : ErrorCode) → ask.named ≡ Absent → live_under v.registry ask.identity ≡ None → ready_under v.registry ask.identity ≡ None → refusal_to_register (known_of o v) v.registry ask ≡ Some code
      → IsLawful (world_of o h step z) (AsksFor ask) (given_of v (refused_with code))
  unregistered ask code first none unready why =
      let w = world_of o h step z in
      let g = given_of v (refused_with code) in
      let found : answer_of (answers_from o v false) ask ≡ Unregistered = ap (answer_named (answers_from o v false) ask) first ∙ none_first ask (ready_under v.registry ask.identity) (live_under v.registry ask.identity) unready none in
      NotRegistered ask code refl (sym (answer_is o h step v z false g ask refl refl told sound on) ∙ found)
      (ap (λ es. refusal_to_register w es ask) (seen_is v z on) ∙ ap (λ tables. refusal_to_register (record { history = record { tables = tables; defs = []; base = []; steps = [] }; start = w.start; events = v.registry; shapes = w.shapes; chunk = w.chunk }) v.registry ask) told.tables ∙ why) refl

  -- ---- a snapshot is refused

  pub snapshot_lawful : (asked : Asked) (n : ℕ) (code : ErrorCode) → HasWait v asked n → was_removed v.registry n ≡ true → option_map (λ r. r.cause) (removal_of v.registry n) ≡ Some causes.SnapshotFailed → is_of_snapshot code ≡ true
      → IsLawful (world_of o h step z) asked (given_of v (refused_with code))
  snapshot_lawful asked n code has gone failed own = BySnapshot has.ask n code has.is (record {
    first = has.first;
    under = ap (λ es. was_registered_under es has.ask.identity n) (seen_is v z on) ∙ has.under;
    removed = ap (λ es. was_removed es n) (seen_is v z on) ∙ gone;
  }) (ap (λ es. option_map (λ r. r.cause) (removal_of es n)) (seen_is v z on) ∙ failed) own refl

-- what is not live under an identity is not ready under it
find_pick : {A : Type 0} (p q : A → Bool) (x : A) (xs : List A) (a b : Bool) → p x ≡ a → cond a (Some x) (find p xs) ≡ None → (find p xs ≡ None → find p (filter q xs) ≡ None) → find p (cond b (x ∷ filter q xs) (filter q xs)) ≡ None
find_pick p q x xs true b is f more = cc
find_pick p q x xs false true is f more = ap (λ c. cond c (Some x) (find p (filter q xs))) is ∙ more f
find_pick p q x xs false false is f more = more f

find_filter : {A : Type 0} (p q : A → Bool) (xs : List A) → find p xs ≡ None → find p (filter q xs) ≡ None
find_filter p q [] e = refl
find_filter p q (x ∷ xs) e = find_pick p q x xs (p x) (q x) refl e (find_filter p q xs)

none_mapped : {A B : Type 0} (f : A → B) (o : Option A) → option_map f o ≡ None → o ≡ None
none_mapped f None e = refl
none_mapped f (Some x) e = cc

pub unready : (es : List RegistryEvent) (identity : List ℕ) → live_under es identity ≡ None → ready_under es identity ≡ None
unready es identity e = ap (option_map (λ (r : Registration). r.number)) (find_filter (λ (r : Registration). same_text r.identity identity) (λ (r : Registration). had_ready es r.number) (live_registrations es) (none_mapped (λ (r : Registration). r.number) _ e))

-- ---- bodies

abbrev first_byte : List ℕ → ℕ
first_byte [] = 0
first_byte (b ∷ bytes) = b

-- the body of a refusal is an object, and no array
refusal_says : (code : ErrorCode) → Says (error_body code) None
refusal_says code = record { read = tt; back = λ entries control plain offsets e. let differs : 123 ≡ 91 = ap first_byte e in absurd (omega (arith, differs)) }

entries_say : (entries : List Entry) (control : Control) → ArePlain entries → HaveOffsets entries → Says (body_text entries control) (Some (record { entries = entries; control = control }))
entries_say entries control plain offsets = record {
  read = (refl, plain, offsets);
  back = λ others other p q e. let same = body_once entries others control other plain p offsets q e in ap (λ es. Some (record { entries = es; control = control })) same.0 ∙ ap (λ c. Some (record { entries = others; control = c })) same.1;
}

abbrev pub AreRead : Part → Type 0
AreRead page = ArePlain page.entries × HaveOffsets page.entries

-- the entries of a page can be read back
page_read : (w : World) (g : Given) (late : Bool) (ask : Ask) (handle : Handle) (from : Offset) (page : Part) → IsGoodWorld w → answer_of (situation w g late) ask ≡ Paged handle from page → AreRead page
page_read w g late ask handle from page good e =
    let p = pages_are_asked (situation w g late) ask handle from page e in
    let ready = ready_later w g.seen handle.number p.ready in
    let front : IsPage (log_at w handle.number g.shown) from page = subst (λ (x : Part). IsPage (log_at w handle.number g.shown) from x) (sym p.is) (page_is_front w.chunk (log_at w handle.number g.shown) from) in
    let alike = alike_itself (log_at w handle.number g.shown) from page (plain_at w handle.number g.shown good ready) (offsets_at w handle.number g.shown good ready) (rises_at w handle.number g.shown good) p.there front in
    (alike.plain, alike.offsets)

-- each page that is answered can be read back
abbrev pub PagesAreRead : Options → Server → Type 0
PagesAreRead o v = (late : Bool) (ask : Ask) (handle : Handle) (from : Offset) (page : Part) → answer_of (answers_from o v late) ask ≡ Paged handle from page → AreRead page

-- those of a server that a history and its steps tell are
pub told_pages : (o : Options) (h : History) (step : ℕ → ℕ) (v z : Server) → IsTold o h step z → Sound o v → Extends v z → IsGoodWorld (world_of o h step z) → PagesAreRead o v
told_pages o h step v z told sound on good late ask handle from page e =
    let g = given_of v (refused_with codes.OffsetAhead) in
    page_read (world_of o h step z) g late ask handle from page good (sym (answer_is o h step v z late g ask refl refl told sound on) ∙ e)

abbrev SaysIt : Written → Type 0
SaysIt x = Says x.reply.body x.body

says_answer : (o : Options) (v : Server) (late : Bool) (ask : Ask) (answer : Answer) (x : Written) → PagesAreRead o v → answer_of (answers_from o v late) ask ≡ answer → written_as o v ask answer ≡ Some x → SaysIt x
says_answer o v late ask (Paged handle from page) x read e gives = let r = read late ask handle from page e in subst SaysIt (some_same _ x gives) (entries_say page.entries (control_of page.up_to_date) r.0 r.1)
says_answer o v late ask (Gone named) x read e gives = subst SaysIt (some_same _ x gives) (entries_say [] MustRefetch refl tt)
says_answer o v late ask (OffsetAhead end) x read e gives = subst SaysIt (some_same _ x gives) (refusal_says codes.OffsetAhead)
says_answer o v late ask NotYet x read e gives = cc
says_answer o v late ask (Starting n) x read e gives = cc
says_answer o v late ask Unregistered x read e gives = cc

says_to : (o : Options) (v : Server) (late : Bool) (asked : Asked) (x : Written) → PagesAreRead o v → written_to o v late asked ≡ Some x → SaysIt x
says_to o v late (Refuses code) x read e = subst SaysIt (some_same _ x e) (refusal_says code)
says_to o v late (AsksFor ask) x read e = says_answer o v late ask (answer_of (answers_from o v late) ask) x read refl e

says_unless : (o : Options) (v : Server) (late : Bool) (asked : Asked) (x : Written) (b : Bool) → PagesAreRead o v → (if b then Some (refused_with codes.SnapshotLost) else written_to o v late asked) ≡ Some x → SaysIt x
says_unless o v late asked x true read e = subst SaysIt (some_same _ x e) (refusal_says codes.SnapshotLost)
says_unless o v late asked x false read e = says_to o v late asked x read e

pub says_now : (o : Options) (v : Server) (late : Bool) (asked : Asked) (role : Role) (x : Written) → PagesAreRead o v → reply_now o v late asked role ≡ Some x → Says x.reply.body x.body
says_now o v late asked Reads x read e = says_to o v late asked x read e
says_now o v late asked (Waits n) x read e = says_unless o v late asked x (was_removed v.registry n) read e
says_now o v late asked (Owns n) x read e = says_unless o v late asked x (was_removed v.registry n) read e
says_now o v late asked HasNone x read e = cc

pub refused_says : (code : ErrorCode) → Says (refused_with code).reply.body (refused_with code).body
refused_says code = refusal_says code
