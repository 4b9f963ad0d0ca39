-- What is kept of exchanges and clients, whatever comes: each reply is lawful and says what was written, and each client took fair ones.
use Rattle.std.proofs.Common.{◌≡◌, ℕ, zero, suc, ◌+◌, ◌^◌, ◌≤◌, ◌<◌, Bool, true, false, List, [], ◌∷◌, length, refl, sym, ◌∙◌, ap, subst, arith, lit<, Option, None, Some, IfSome}
use Rattle.std.specs.Bool.{if◌then◌else◌}
use Rattle.std.specs.List.{slice_get, AllByRecursion}
use Rattle.std.specs.Option.{option_map, option_or}
use Rattle.std.specs.Prelude.{nat_lt}
use Rattle.std.proofs.lemmas.Bool.{and_parts}
use Rattle.std.proofs.lemmas.Bool.Decides.{Decides-ltb}
use Rattle.shape_base.specs.declared.ask.Ask.{Ask}
use Rattle.shape_base.specs.declared.ask.Named.{Named}
use Rattle.shape_base.specs.declared.ask.Named.TheVariants.{Absent, Known, Strange}
use Rattle.shape_base.specs.declared.entry.Entry.{Entry}
use Rattle.shape_base.specs.declared.handle.Handle.{Handle}
use Rattle.shape_base.specs.declared.history.History.{History}
use Rattle.shape_base.specs.declared.offset.Offset.{Offset}
use Rattle.shape_base.specs.declared.offset.Offset.TheVariants.{Start, At}
use Rattle.shape_base.specs.Handle.{IsHandle}
use Rattle.shape_base.specs.OffsetText.{IsOffset}
use Rattle.shape_base.specs.Offsets.{end_from}
use Rattle.shape_base.specs.Log.{last_offset}
use Rattle.shape_base.specs.RegistryHistory.{was_removed, was_registered_under}
use Rattle.shape_json.specs.Page.{Part}
use Rattle.shape_json.specs.Reading.{HaveOffsets}
use Rattle.shape_json.specs.Answer.{Answer, Paged, Gone, OffsetAhead, NotYet, Starting, Unregistered, IsAsked, IsNamedReady, in_run, answer_of}
use Rattle.shape_json.proofs.Lemmas.{pages_are_asked, gone_names_ready, page_is_front}
use Rattle.http_edge.specs.declared.error_code.ErrorCode.{ErrorCode}
use Rattle.http_edge.specs.declared.error_code.ErrorCode.TheVariants as codes
use Rattle.http_edge.specs.World.{World, IsGoodWorld}
use Rattle.http_edge.specs.Lawful.{Asked, Refuses, AsksFor, next_cursor, IsLawful}
use Rattle.fold_client.specs.Client.{Says}
use Rattle.fold_client.specs.Following.{Heard, AreFair, start}
use Rattle.core_law.specs.Situation.{Options, Shape, Server, shape_at, Role, Reads, Waits, Owns, HasNone, Exchange, Customer, Situation, answers_from, world_of, held_of, identity_of}
use Rattle.core_law.specs.Steps.{Written, refused_with, written_as, written_to, reply_now, heard_at, settled_one, refused_at}
use Rattle.core_law.specs.Laws.{IsFirst, IsTold, IsLawfulExchange}
use Rattle.core_law.proofs.Lists.{some_same}
use Rattle.core_law.proofs.Server.{Sound, Extends}
use Rattle.core_law.proofs.Registrations.{still_registered}
use Rattle.core_law.proofs.Replies.{HasWait, HasRole, lawful_now, told_pages, says_now, refused_says}
use Rattle.core_law.proofs.Fields.{HasFields, HasReplyFields}
use Rattle.core_law.proofs.Targets.{ReadsBack}

-- ---- the facts

-- its body says what was written, and it was heard for what the exchange asked
pub record SaysFor (asked : Asked) (heard : Heard) : Type 0 where
  pub asks : heard.asked ≡ asked
  pub says : Says heard.given.reply.body heard.body

-- An exchange: its reply is lawful and says what was written, its role fits what it asked, and its parts are read back where events are routed.
pub record Fine (Q : Type 0) (o : Options) (v : Server) (w : World) (x : Exchange) : Type 0 where
  pub lawful : IsLawfulExchange w x
  pub says : IfSome x.given (SaysFor x.asked)
  pub role : HasRole v x.asked x.role
  pub read : Q → ReadsBack x.target x.asked
  pub fields : Q → IfSome x.given (λ heard. HasReplyFields heard.given.reply)

pub record FineCustomer (o : Options) (w : World) (c : Customer) : Type 0 where
  pub first : IsFirst o c.query c.asked
  pub fair : AreFair w (identity_of c) start c.took
  pub fields : HasFields (held_of c)

pub record Good (Q : Type 0) (o : Options) (w : World) (s : Situation) : Type 0 where
  pub exchanges : AllByRecursion (Fine Q o s.server w) s.exchanges
  pub customers : Q → AllByRecursion (FineCustomer o w) s.customers

-- ---- roles, as the registry grows

wait_on : (v z : Server) (asked : Asked) (n : ℕ) → Extends v z → HasWait v asked n → HasWait z asked n
wait_on v z asked n on has = record { ask = has.ask; is = has.is; first = has.first; under = ap (λ es. was_registered_under es has.ask.identity n) on.registry ∙ still_registered v.registry on.events has.ask.identity n has.under }

pub role_on : (v z : Server) (asked : Asked) (role : Role) → Extends v z → HasRole v asked role → HasRole z asked role
role_on v z asked Reads on has = tt
role_on v z asked (Waits n) on has = wait_on v z asked n on has
role_on v z asked (Owns n) on has = wait_on v z asked n on has
role_on v z asked HasNone on has = tt

pub fine_on : (Q : Type 0) (o : Options) (v z : Server) (w : World) (x : Exchange) → Extends v z → Fine Q o v w x → Fine Q o z w x
fine_on Q o v z w x on is = record { lawful = is.lawful; says = is.says; role = role_on v z x.asked x.role on is.role; read = is.read; fields = is.fields }

-- ---- the parts of a reply

refusal_fields : (code : ErrorCode) → HasReplyFields (refused_with code).reply
refusal_fields code = record { handle = tt; offset = tt; cursor = tt }

next_counts : (n : ℕ) → next_cursor n < 2 ^ 64
next_counts n = pick (nat_lt (n + 1) (2 ^ 64)) refl
  where
    pick : (b : Bool) → nat_lt (n + 1) (2 ^ 64) ≡ b → (if b then n + 1 else 0) < 2 ^ 64
    pick true e = (Decides-ltb (n + 1) (2 ^ 64)).0 e
    pick false e = lit< tt

cursor_fits : (b : Bool) (n : ℕ) → IfSome (if b then Some (next_cursor n) else None) (λ m. m < 2 ^ 64)
cursor_fits true n = next_counts n
cursor_fits false n = tt

end_fits : (o : Offset) → IsOffset o → IsOffset (end_from o)
end_fits Start is = (lit< tt, lit< tt)
end_fits (At lsn pos) is = is

last_fits : (o : Offset) (es : List Entry) → IsOffset o → HaveOffsets es → IsOffset (last_offset o es)
last_fits o [] is all = is
last_fits o (e ∷ es) is all = last_fits e.offset es all.0 all.1

-- a number that is registered, of the server's run, has a handle
pub handle_fits : (o : Options) (v : Server) (identity : List ℕ) (n : ℕ) → Sound o v → was_registered_under v.registry identity n ≡ true → IsHandle (in_run o.run n)
handle_fits o v identity n sound under =
    let named = sound.named identity n under in
    let range = in_range v.shapes n named.shape named.at in
    record { counted = range.0; small = let few : length v.shapes < 18446744073709551616 = sound.few in let le = range.1 in (let p : n < 18446744073709551616 = omega (arith, few, le) in p); named = sound.start.run }
  where
    within : {A : Type 0} (xs : List A) (i : ℕ) (x : A) → slice_get xs i ≡ Some x → i < length xs
    within [] i x h = cc
    within (y ∷ ys) zero x h = omega arith
    within (y ∷ ys) (suc i) x h = let l = within ys i x h in omega (arith, l)

    in_range : (xs : List Shape) (m : ℕ) (x : Shape) → shape_at xs m ≡ Some x → (1 ≤ m) × (m ≤ length xs)
    in_range xs zero x h = cc
    in_range xs (suc i) x h = let l = within xs i x h in (omega arith, omega (arith, l))

pub some_handle : (o : Options) (v : Server) (late : Bool) (ask : Ask) (named : Option Handle) → Sound o v → IfSome named (IsNamedReady (answers_from o v late) ask) → IfSome named IsHandle
some_handle o v late ask None sound h = tt
some_handle o v late ask (Some handle) sound h =
    let under = (and_parts (was_registered_under v.registry ask.identity handle.number) _ h.under).0 in
    subst (λ run. IsHandle (record { number = handle.number; run = run })) (sym h.run) (handle_fits o v ask.identity handle.number sound under)

asked_from : (named : Named) (offset : Offset) (handle : Handle) (from : Offset) → IsOffset offset → IsAsked named offset handle from → IsOffset from
asked_from Absent offset handle from is h = subst IsOffset (sym h) tt
asked_from (Known x) offset handle from is h = subst IsOffset (sym h.1) is
asked_from Strange offset handle from is h = absurd h

abbrev HasParts : Written → Type 0
HasParts x = HasReplyFields x.reply

answer_fields : (o : Options) (h : History) (step : ℕ → ℕ) (v z : Server) (late : Bool) (ask : Ask) (answer : Answer) (x : Written) → IsTold o h step z → Sound o v → Extends v z → IsGoodWorld (world_of o h step z) → IsOffset ask.offset → answer_of (answers_from o v late) ask ≡ answer → written_as o v ask answer ≡ Some x → HasParts x
answer_fields o h step v z late ask (Paged handle from page) x told sound on good fits e gives =
    let read = told_pages o h step v z told sound on good late ask handle from page e in
    let p = pages_are_asked (answers_from o v late) ask handle from page e in
    let front = page_is_front o.limits.chunk ((answers_from o v late).log handle.number) from in
    let under = (and_parts (was_registered_under v.registry ask.identity handle.number) _ p.under).0 in
    let ends : page.end ≡ last_offset (end_from from) page.entries = subst (λ (y : Part). y.end ≡ last_offset (end_from from) y.entries) (sym p.is) front.end in
    subst HasParts (some_same _ x gives) (record {
      handle = subst (λ run. IsHandle (record { number = handle.number; run = run })) (sym p.run) (handle_fits o v ask.identity handle.number sound under);
      offset = subst IsOffset (sym ends) (last_fits (end_from from) page.entries (end_fits from (asked_from ask.named ask.offset handle from fits p.asked)) read.1);
      cursor = cursor_fits page.up_to_date ask.cursor;
    })
answer_fields o h step v z late ask (Gone named) x told sound on good fits e gives = subst HasParts (some_same _ x gives) (record { handle = some_handle o v late ask named sound (gone_names_ready (answers_from o v late) ask named e).other; offset = tt; cursor = tt })
answer_fields o h step v z late ask (OffsetAhead end) x told sound on good fits e gives = subst HasParts (some_same _ x gives) (refusal_fields codes.OffsetAhead)
answer_fields o h step v z late ask NotYet x told sound on good fits e gives = cc
answer_fields o h step v z late ask (Starting n) x told sound on good fits e gives = cc
answer_fields o h step v z late ask Unregistered x told sound on good fits e gives = cc

-- the offsets that are asked for have 64 bits
abbrev AsksWithin : Asked → Type 0
AsksWithin asked = (ask : Ask) → asked ≡ AsksFor ask → IsOffset ask.offset

to_fields : (o : Options) (h : History) (step : ℕ → ℕ) (v z : Server) (late : Bool) (asked : Asked) (x : Written) → IsTold o h step z → Sound o v → Extends v z → IsGoodWorld (world_of o h step z) → AsksWithin asked → written_to o v late asked ≡ Some x → HasParts x
to_fields o h step v z late (Refuses code) x told sound on good fits e = subst HasParts (some_same _ x e) (refusal_fields code)
to_fields o h step v z late (AsksFor ask) x told sound on good fits e = answer_fields o h step v z late ask (answer_of (answers_from o v late) ask) x told sound on good (fits ask refl) refl e

unless_fields : (o : Options) (h : History) (step : ℕ → ℕ) (v z : Server) (late : Bool) (asked : Asked) (x : Written) (b : Bool) → IsTold o h step z → Sound o v → Extends v z → IsGoodWorld (world_of o h step z) → AsksWithin asked
    → (if b then Some (refused_with codes.SnapshotLost) else written_to o v late asked) ≡ Some x → HasParts x
unless_fields o h step v z late asked x true told sound on good fits e = subst HasParts (some_same _ x e) (refusal_fields codes.SnapshotLost)
unless_fields o h step v z late asked x false told sound on good fits e = to_fields o h step v z late asked x told sound on good fits e

fields_now : (o : Options) (h : History) (step : ℕ → ℕ) (v z : Server) (late : Bool) (asked : Asked) (role : Role) (x : Written) → IsTold o h step z → Sound o v → Extends v z → IsGoodWorld (world_of o h step z) → AsksWithin asked → reply_now o v late asked role ≡ Some x → HasParts x
fields_now o h step v z late asked Reads x told sound on good fits e = to_fields o h step v z late asked x told sound on good fits e
fields_now o h step v z late asked (Waits n) x told sound on good fits e = unless_fields o h step v z late asked x (was_removed v.registry n) told sound on good fits e
fields_now o h step v z late asked (Owns n) x told sound on good fits e = unless_fields o h step v z late asked x (was_removed v.registry n) told sound on good fits e
fields_now o h step v z late asked HasNone x told sound on good fits e = cc

-- ---- a reply is given

lawful_option : (o : Options) (h : History) (step : ℕ → ℕ) (v z : Server) (late : Bool) (x : Exchange) (reply : Option Written) → reply_now o v late x.asked x.role ≡ reply → HasRole v x.asked x.role → IsTold o h step z → Sound o v → Extends v z
    → IfSome (option_map (heard_at v x.asked) reply) (λ heard. IsLawful (world_of o h step z) x.asked heard.given)
lawful_option o h step v z late x None e role told sound on = tt
lawful_option o h step v z late x (Some y) e role told sound on = lawful_now o h step v z told sound on late x.asked x.role y role e

says_option : (o : Options) (h : History) (step : ℕ → ℕ) (v z : Server) (late : Bool) (x : Exchange) (reply : Option Written) → reply_now o v late x.asked x.role ≡ reply → IsTold o h step z → Sound o v → Extends v z → IsGoodWorld (world_of o h step z)
    → IfSome (option_map (heard_at v x.asked) reply) (SaysFor x.asked)
says_option o h step v z late x None e told sound on good = tt
says_option o h step v z late x (Some y) e told sound on good = record { asks = refl; says = says_now o v late x.asked x.role y (told_pages o h step v z told sound on good) e }

fields_option : (o : Options) (h : History) (step : ℕ → ℕ) (v z : Server) (late : Bool) (x : Exchange) (reply : Option Written) → reply_now o v late x.asked x.role ≡ reply → IsTold o h step z → Sound o v → Extends v z → IsGoodWorld (world_of o h step z) → AsksWithin x.asked
    → IfSome (option_map (heard_at v x.asked) reply) (λ heard. HasReplyFields heard.given.reply)
fields_option o h step v z late x None e told sound on good fits = tt
fields_option o h step v z late x (Some y) e told sound on good fits = fields_now o h step v z late x.asked x.role y told sound on good fits e

pub settled_fine : (Q : Type 0) (o : Options) (h : History) (step : ℕ → ℕ) (v z : Server) (late : Exchange → Bool) (x : Exchange) (given : Option Heard) → x.given ≡ given → IsTold o h step z → Sound o v → Extends v z → IsGoodWorld (world_of o h step z)
    → Fine Q o v (world_of o h step z) x → Fine Q o v (world_of o h step z) (settled_one o v late x given)
settled_fine Q o h step v z late x (Some heard) e told sound on good is = is
settled_fine Q o h step v z late x None e told sound on good is = record {
  lawful = lawful_option o h step v z (late x) x (reply_now o v (late x) x.asked x.role) refl is.role told sound on;
  says = says_option o h step v z (late x) x (reply_now o v (late x) x.asked x.role) refl told sound on good;
  role = is.role;
  read = is.read;
  fields = λ q. fields_option o h step v z (late x) x (reply_now o v (late x) x.asked x.role) refl told sound on good (is.read q).within;
}

-- ---- a refusal is given at once

option_lawful : (w : World) (v : Server) (code : ErrorCode) (asked : Asked) (given : Option Heard) → IfSome given (λ heard. IsLawful w asked heard.given) → IsLawful w asked (heard_at v asked (refused_with code)).given
    → IfSome (option_or given (Some (heard_at v asked (refused_with code)))) (λ heard. IsLawful w asked heard.given)
option_lawful w v code asked None h k = k
option_lawful w v code asked (Some heard) h k = h

option_says : (v : Server) (code : ErrorCode) (asked : Asked) (given : Option Heard) → IfSome given (SaysFor asked) → IfSome (option_or given (Some (heard_at v asked (refused_with code)))) (SaysFor asked)
option_says v code asked None h = record { asks = refl; says = refused_says code }
option_says v code asked (Some heard) h = h

option_fields : (v : Server) (code : ErrorCode) (asked : Asked) (given : Option Heard) → IfSome given (λ heard. HasReplyFields heard.given.reply) → IfSome (option_or given (Some (heard_at v asked (refused_with code)))) (λ heard. HasReplyFields heard.given.reply)
option_fields v code asked None h = refusal_fields code
option_fields v code asked (Some heard) h = h

pub refused_fine : (Q : Type 0) (o : Options) (v : Server) (w : World) (code : ErrorCode) (x : Exchange) → IsLawful w x.asked (heard_at v x.asked (refused_with code)).given → Fine Q o v w x → Fine Q o v w (refused_at v code x)
refused_fine Q o v w code x why is = record {
  lawful = option_lawful w v code x.asked x.given is.lawful why;
  says = option_says v code x.asked x.given is.says;
  role = is.role;
  read = is.read;
  fields = λ q. option_fields v code x.asked x.given (is.fields q);
}
