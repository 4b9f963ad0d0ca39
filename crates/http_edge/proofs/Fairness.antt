-- A lawful reply is fair.
use Rattle.std.proofs.Common.{◌≡◌, ◌≤◌, Bool, List, ◌++◌, length, refl, sym, ◌∙◌, ap, subst, Option, Some}
use Rattle.std.proofs.lemmas.List.{take-append-le}
use Rattle.shape_base.specs.declared.ask.Ask.{Ask}
use Rattle.shape_base.specs.declared.reply.Reply.{Reply}
use Rattle.shape_base.specs.declared.registry_event.RegistryEvent.{RegistryEvent}
use Rattle.shape_json.specs.Page.{Part, IsPage}
use Rattle.shape_json.specs.Answer.{Answer, Paged, Gone, OffsetAhead, NotYet, Starting, Unregistered, answer_of}
use Rattle.shape_json.proofs.Lemmas.{pages_are_asked, page_is_front}
use Rattle.http_edge.specs.declared.error_code.ErrorCode.{ErrorCode}
use Rattle.http_edge.specs.declared.error_code.ErrorCode.TheVariants as codes
use Rattle.http_edge.specs.Refusals.{refusal}
use Rattle.http_edge.specs.World.{World, Given, situation, log_at, IsGoodWorld}
use Rattle.http_edge.specs.Lawful.{Asked, AsksFor, reply_of, BeforeHandle, ByAnswer, NotRegistered, BySnapshot, ByLoss, WantOfMemory}
use Rattle.http_edge.specs.Fair.{IsRefusal, IsFair, FairPage, FairConflict, FairRefusal}
use Rattle.http_edge.specs.Laws.{LawfulIsFair, FairStays}
use Rattle.http_edge.proofs.Pages.{alike_itself}
use Rattle.http_edge.proofs.Logs.{rises_at, plain_at, offsets_at, ready_later}

refuses : (code : ErrorCode) → IsRefusal (refusal code)
refuses codes.HeadTooLong = record { no_page = refl; no_conflict = refl }
refuses codes.BadHead = record { no_page = refl; no_conflict = refl }
refuses codes.BodyRefused = record { no_page = refl; no_conflict = refl }
refuses codes.MethodRefused = record { no_page = refl; no_conflict = refl }
refuses codes.PathUnknown = record { no_page = refl; no_conflict = refl }
refuses codes.BadEscape = record { no_page = refl; no_conflict = refl }
refuses codes.RepeatedParameter = record { no_page = refl; no_conflict = refl }
refuses codes.MissingTable = record { no_page = refl; no_conflict = refl }
refuses codes.TableNotServed = record { no_page = refl; no_conflict = refl }
refuses codes.WhereTooLong = record { no_page = refl; no_conflict = refl }
refuses (codes.WhereSyntax place) = record { no_page = refl; no_conflict = refl }
refuses codes.BadOffset = record { no_page = refl; no_conflict = refl }
refuses codes.HandleNeeded = record { no_page = refl; no_conflict = refl }
refuses codes.LiveAtStart = record { no_page = refl; no_conflict = refl }
refuses codes.OffsetAhead = record { no_page = refl; no_conflict = refl }
refuses codes.UnknownColumn = record { no_page = refl; no_conflict = refl }
refuses codes.KeyNotSelected = record { no_page = refl; no_conflict = refl }
refuses (codes.WhereType atom) = record { no_page = refl; no_conflict = refl }
refuses (codes.SnapshotRefused detail) = record { no_page = refl; no_conflict = refl }
refuses codes.SnapshotLink = record { no_page = refl; no_conflict = refl }
refuses codes.SnapshotLost = record { no_page = refl; no_conflict = refl }
refuses codes.DefinitionChanged = record { no_page = refl; no_conflict = refl }
refuses (codes.SnapshotStale last xmax) = record { no_page = refl; no_conflict = refl }
refuses (codes.TooManyShapes limit live) = record { no_page = refl; no_conflict = refl }
refuses (codes.ShapeTooLarge bytes limit) = record { no_page = refl; no_conflict = refl }
refuses codes.OutOfMemory = record { no_page = refl; no_conflict = refl }

fair_refusal : (w : World) (asked : Asked) (g : Given) (code : ErrorCode) → g.reply ≡ refusal code → IsFair w asked g
fair_refusal w asked g code gives = FairRefusal (subst IsRefusal (sym gives) (refuses code))

some_same : (a b : Reply) → ◌≡◌ {A = Option Reply} (Some a) (Some b) → b ≡ a
some_same a b e = cc

fair_answer : (w : World) (asked : Asked) (g : Given) (ask : Ask) (late : Bool) (answer : Answer) → IsGoodWorld w → asked ≡ AsksFor ask → answer_of (situation w g late) ask ≡ answer → reply_of w ask answer ≡ Some g.reply → IsFair w asked g
fair_answer w asked g ask late (Paged handle from page) good is e gives =
    let p = pages_are_asked (situation w g late) ask handle from page e in
    let ready = ready_later w g.seen handle.number p.ready in
    let front : IsPage (log_at w handle.number g.shown) from page = subst (λ (x : Part). IsPage (log_at w handle.number g.shown) from x) (sym p.is) (page_is_front w.chunk (log_at w handle.number g.shown) from) in
    FairPage ask late handle from page page.entries is e
    (alike_itself (log_at w handle.number g.shown) from page (plain_at w handle.number g.shown good ready) (offsets_at w handle.number g.shown good ready) (rises_at w handle.number g.shown good) p.there front)
    (some_same _ g.reply gives)
fair_answer w asked g ask late (Gone named) good is e gives = FairConflict ask late named is e (some_same _ g.reply gives)
fair_answer w asked g ask late (OffsetAhead end) good is e gives = fair_refusal w asked g codes.OffsetAhead (some_same _ g.reply gives)
fair_answer w asked g ask late NotYet good is e gives = cc
fair_answer w asked g ask late (Starting number) good is e gives = cc
fair_answer w asked g ask late Unregistered good is e gives = cc

pub lawful_is_fair : LawfulIsFair
lawful_is_fair w asked g good (BeforeHandle code is gives) = fair_refusal w asked g code gives
lawful_is_fair w asked g good (ByAnswer ask late is gives) = fair_answer w asked g ask late (answer_of (situation w g late) ask) good is refl gives
lawful_is_fair w asked g good (NotRegistered ask code is none why gives) = fair_refusal w asked g code gives
lawful_is_fair w asked g good (BySnapshot ask number code is lost failed why gives) = fair_refusal w asked g code gives
lawful_is_fair w asked g good (ByLoss ask number is lost gives) = fair_refusal w asked g codes.SnapshotLost gives
lawful_is_fair w asked g good (WantOfMemory gives) = fair_refusal w asked g codes.OutOfMemory gives

-- the situation is the same, however much happens later
same_situation : (w : World) (later : List RegistryEvent) (g : Given) (late : Bool) → g.seen ≤ length w.events → situation (record w { events = w.events ++ later }) g late ≡ situation w g late
same_situation w later g late le = ap (λ (es : List RegistryEvent). record { run = w.start.run; events = es; log = λ number. log_at w number g.shown; late = late; chunk = w.chunk }) (take-append-le g.seen w.events later le)

pub fair_stays : FairStays
fair_stays w later asked g le (FairPage ask late handle from page entries is answer alike gives) =
    FairPage ask late handle from page entries is (ap (λ s. answer_of s ask) (same_situation w later g late le) ∙ answer) alike gives
fair_stays w later asked g le (FairConflict ask late named is answer gives) = FairConflict ask late named is (ap (λ s. answer_of s ask) (same_situation w later g late le) ∙ answer) gives
fair_stays w later asked g le (FairRefusal refuses) = FairRefusal refuses
