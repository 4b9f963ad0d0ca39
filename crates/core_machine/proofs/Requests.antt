-- A request that comes: what it comes to, and the exchange that it makes.
use Rattle.std.proofs.Common.{◌≡◌, ℕ, zero, suc, ◌<◌, Bool, true, false, ◌||◌, ◌==◌, List, [], ◌∷◌, ◌++◌, length, refl, sym, ap, subst, ◌∙◌, Option, None, Some, arith}
use Rattle.std.specs.Prelude.{slice_get}
use Rattle.std.specs.Bool.{if◌then◌else◌}
use Rattle.std.specs.Option.{option_map}
use Rattle.std.proofs.lemmas.Bool.Decides.{Decides-eqb}
use Rattle.shape_base.specs.declared.ask.Ask.{Ask}
use Rattle.shape_base.specs.declared.ask.Named.{Named}
use Rattle.shape_base.specs.declared.ask.Named.TheVariants.{Absent, Known, Strange}
use Rattle.shape_base.specs.RegistryHistory.{live_under}
use Rattle.shape_json.specs.ShapeHistory.{Reader}
use Rattle.http_edge.specs.declared.error_code.ErrorCode.{ErrorCode}
use Rattle.http_edge.specs.Lawful.{Asked, Refuses, AsksFor, refusal_to_register}
use Rattle.core_events.specs.declared.out.StepError.TheVariants as errors
use Rattle.core_law.specs.Situation.{Options, Server, Role, Reads, Exchange, Situation, known_of, reader_for}
use Rattle.core_law.specs.Steps.{with_exchange, with_role, refused_at, exchange_at, registered_for, opened, asked_first, asked_named, asked_for, request, reply_now}
use Rattle.core_law.specs.Clients.{Stops, finished, never, has_room}
use Rattle.core_law.specs.Run.{RequestCame, turn_of, next_of}
use Rattle.core_law.specs.Laws.{IsStart}
use Rattle.core_law.specs.Waiting.{IsAsBefore}
use Rattle.core_law.specs.Reached.{IsReached, AsksOfTable, OthersWait}
use Rattle.core_exchanges.specs.Indexing.{is_among}
use Rattle.core_machine.specs.declared.answering.Refusal.{Refusal}
use Rattle.core_machine.specs.Replying.{refused_in, answered_in, refusal_of}
use Rattle.core_machine.specs.Answering.{settled_at}
use Rattle.core_machine.specs.Opening.{Opening, registered, unless_refused, first_of, named_of, opening_of}
use Rattle.core_machine.proofs.Places.{one_sorted}
use Rattle.core_machine.proofs.Finishing.{one_more}
use Rattle.core_machine.proofs.Quiet.{quiet_here, quiet_registered, not_equal}
use Rattle.core_machine.proofs.Agreeing.{Agrees, agree}
use Rattle.core_machine.specs.Standing.{AreOfTables}
use Rattle.core_machine.proofs.Answers.{all_at}
use Rattle.core_machine.proofs.Turning.{Settling}

-- ---- the situation after a request

abbrev pub refused_as : Server → Option ErrorCode → Exchange → Exchange
refused_as v None x = x
refused_as v (Some code) x = refused_at v code x

-- by what the request comes to
abbrev pub after_opening : Situation → Exchange → Opening → Situation
after_opening s x op = record s { server = op.server; exchanges = s.exchanges ++ refused_as op.server op.refusal (with_role op.role x) ∷ [] }

module _ (o : Options) (s : Situation) (x : Exchange) (reads : x.role ≡ Reads) where
  plain : with_exchange s x ≡ after_opening s x (record { role = Reads; refusal = None; server = s.server })
  plain = ap (λ (y : Exchange). with_exchange s y) (ap (λ (r : Role). record x { role = r }) reads)

  registers : (ask : Ask) (reader : Option Reader) → registered_for s x ask reader ≡ after_opening s x (registered s.server ask reader)
  registers ask None = plain
  registers ask (Some reader) = refl

  opens : (ask : Ask) (code : Option ErrorCode) → opened o s x ask code ≡ after_opening s x (unless_refused o s.server ask code)
  opens ask (Some code) = ap (λ (y : Exchange). with_exchange s (refused_at s.server code y)) (ap (λ (r : Role). record x { role = r }) reads)
  opens ask None = registers ask (reader_for o s.server.registry ask)

  firsts : (ask : Ask) (n : Option ℕ) → asked_first o s x ask n ≡ after_opening s x (first_of o s.server ask n)
  firsts ask (Some n) = refl
  firsts ask None = opens ask (refusal_to_register (known_of o s.server) s.server.registry ask)

  names : (ask : Ask) (named : Named) → asked_named o s x ask named ≡ after_opening s x (named_of o s.server ask named)
  names ask Absent = firsts ask (live_under s.server.registry ask.identity)
  names ask (Known h) = plain
  names ask Strange = plain

  asks : (asked : Asked) → asked_for o s x asked ≡ after_opening s x (opening_of o s.server asked)
  asks (Refuses code) = plain
  asks (AsksFor ask) = names ask ask.named

pub request_is : (o : Options) (s : Situation) (outside : Bool) (target : Option (List ℕ)) (asked : Asked) (close : Bool)
    → request o s outside target asked close ≡ after_opening s (exchange_at outside target asked close s.clock) (opening_of o s.server asked)
request_is o s outside target asked close = asks o s (exchange_at outside target asked close s.clock) refl asked

-- ---- the server that a request leads to

pub comes : (o : Options) (s : Situation) (target : Option (List ℕ)) (asked : Asked) (close : Bool) → has_room s ≡ true → turn_of o s (RequestCame target asked close) ≡ finished o never s (request o s true target asked close)
comes o s target asked close room = ap (λ b. if b then finished o never s (request o s true target asked close) else Stops errors.TooManyExchanges) room

pub server_is : (o : Options) (s : Situation) (target : Option (List ℕ)) (asked : Asked) (close : Bool) → has_room s ≡ true → (next_of s (turn_of o s (RequestCame target asked close))).server ≡ (opening_of o s.server asked).server
server_is o s target asked close room = ap (λ t. (next_of s t).server) (comes o s target asked close room) ∙ ap (λ (t : Situation). t.server) (request_is o s true target asked close)

-- nothing happens to any number
quiet_one : (v : Server) (ask : Ask) (reader : Option Reader) (m : ℕ) → IsAsBefore v (registered v ask reader).server m
quiet_one v ask None m = quiet_here v m
quiet_one v ask (Some reader) m = quiet_registered v ask reader m

quiet_unless : (o : Options) (v : Server) (ask : Ask) (code : Option ErrorCode) (m : ℕ) → IsAsBefore v (unless_refused o v ask code).server m
quiet_unless o v ask (Some code) m = quiet_here v m
quiet_unless o v ask None m = quiet_one v ask (reader_for o v.registry ask) m

quiet_first : (o : Options) (v : Server) (ask : Ask) (n : Option ℕ) (m : ℕ) → IsAsBefore v (first_of o v ask n).server m
quiet_first o v ask (Some n) m = quiet_here v m
quiet_first o v ask None m = quiet_unless o v ask (refusal_to_register (known_of o v) v.registry ask) m

quiet_named : (o : Options) (v : Server) (ask : Ask) (named : Named) (m : ℕ) → IsAsBefore v (named_of o v ask named).server m
quiet_named o v ask Absent m = quiet_first o v ask (live_under v.registry ask.identity) m
quiet_named o v ask (Known h) m = quiet_here v m
quiet_named o v ask Strange m = quiet_here v m

pub quiet_opening : (o : Options) (v : Server) (asked : Asked) (m : ℕ) → IsAsBefore v (opening_of o v asked).server m
quiet_opening o v (Refuses code) m = quiet_here v m
quiet_opening o v (AsksFor ask) m = quiet_named o v ask ask.named m

-- ---- the one exchange that is answered

last_there : {A : Type 0} (xs : List A) (x : A) → slice_get (xs ++ x ∷ []) (length xs) ≡ Some x
last_there [] x = refl
last_there (y ∷ xs) x = last_there xs x

front_there : {A : Type 0} (xs : List A) (x : A) (q : ℕ) → (length xs ≡ q → ⊥) → slice_get (xs ++ x ∷ []) q ≡ slice_get xs q
front_there [] x zero other = absurd (other refl)
front_there [] x (suc q) other = refl
front_there (y ∷ xs) x zero other = refl
front_there (y ∷ xs) x (suc q) other = front_there xs x q (λ e. other (ap suc e))

length_more : {A : Type 0} (xs : List A) (x : A) → length xs < length (xs ++ x ∷ [])
length_more [] x = omega arith
length_more (y ∷ xs) x = let h = length_more xs x in omega (arith, h)

or_false : (a : Bool) → (a || false) ≡ a
or_false true = refl
or_false false = refl

pub same_or_not : (n m : ℕ) {P : Type 0} → (n ≡ m → P) → ((n ≡ m → ⊥) → P) → P
same_or_not n m {P} same other = pick (n == m) refl
  where
    pick : (b : Bool) → (n == m) ≡ b → P
    pick true e = same ((Decides-eqb n m).0 e)
    pick false e = other (λ h. let t : (n == m) ≡ true = (Decides-eqb n m).1 h in cc)

pub refused_here : (v : Server) (code : Option ErrorCode) (i : ℕ) (x : Exchange) → refused_in v (refusal_of i code) i x ≡ refused_as v code x
refused_here v None i x = refl
refused_here v (Some code) i x = ap (λ b. if b then refused_at v code x else x) ((Decides-eqb i i).1 refl)

pub refused_apart : (v : Server) (code : Option ErrorCode) (i q : ℕ) (x : Exchange) → (i ≡ q → ⊥) → refused_in v (refusal_of i code) q x ≡ x
refused_apart v None i q x other = refl
refused_apart v (Some code) i q x other = ap (λ b. if b then refused_at v code x else x) (not_equal i q other)

pub map_same : (f : Exchange → Exchange) (a : Option Exchange) → ((x : Exchange) → f x ≡ x) → option_map f a ≡ a
map_same f None h = refl
map_same f (Some x) h = ap (λ (y : Exchange). Some y) (h x)

module _ (wait : OthersWait) (o : Options) (s t : Situation) (x : Exchange) (asked : Asked) (start : IsStart o) (reached : IsReached o s) (tables : AreOfTables o s.exchanges) (room : has_room s ≡ true) (unanswered : x.given ≡ None)
    (server : t.server ≡ (opening_of o s.server asked).server) (exchanges : t.exchanges ≡ s.exchanges ++ refused_as t.server (opening_of o s.server asked).refusal x ∷ []) where
  abbrev i : ℕ
  i = length s.exchanges

  abbrev xs : List Exchange
  xs = s.exchanges ++ x ∷ []

  abbrev r : Option Refusal
  r = refusal_of i (opening_of o s.server asked).refusal

  base : (q : ℕ) → slice_get t.exchanges q ≡ option_map (refused_in t.server r q) (slice_get xs q)
  base q = same_or_not i q
      (λ e. subst (λ k. slice_get t.exchanges k ≡ option_map (refused_in t.server r k) (slice_get xs k)) e
      (ap (λ (ys : List Exchange). slice_get ys i) exchanges ∙ last_there s.exchanges (refused_as t.server (opening_of o s.server asked).refusal x)
      ∙ ap (λ (y : Exchange). Some y) (sym (refused_here t.server (opening_of o s.server asked).refusal i x)) ∙ ap (option_map (refused_in t.server r i)) (sym (last_there s.exchanges x))))
      (λ other. ap (λ (ys : List Exchange). slice_get ys q) exchanges ∙ front_there s.exchanges (refused_as t.server (opening_of o s.server asked).refusal x) q other ∙ sym (front_there s.exchanges x q other)
      ∙ sym (map_same (refused_in t.server r q) (slice_get xs q) (λ y. refused_apart t.server (opening_of o s.server asked).refusal i q y other)))

  out_of_place : (q : ℕ) → is_among q (i ∷ []) ≡ false → i ≡ q → ⊥
  out_of_place q out e = let yes : (i == q) ≡ true = (Decides-eqb i q).1 e in let no : (i == q) ≡ false = sym (or_false (i == q)) ∙ out in cc

  agrees : Agrees o t.server never false r (i ∷ []) xs
  agrees = record {
    late_as = λ q y at among none. refl;
    refused = λ q y at out none. refused_apart t.server (opening_of o s.server asked).refusal i q y (out_of_place q out);
    none = λ q y at out none. let other = out_of_place q out in
        subst (λ (v : Server). reply_now o v false y.asked y.role ≡ None) (server_is o s None asked false room ∙ sym server)
        (wait o s (RequestCame None asked false) q y start reached (sym (front_there s.exchanges x q other) ∙ at) none
        (all_at (λ (z : Exchange). AsksOfTable o z.asked) s.exchanges q y (sym (front_there s.exchanges x q other) ∙ at) tables)
        (λ n e. subst (λ (v : Server). IsAsBefore s.server v n) (sym (server_is o s None asked false room)) (quiet_opening o s.server asked n)));
  }

  pub opening_settles : Settling o s t never (answered_in o t.server false r) (i ∷ []) xs
  opening_settles = record {
    sorted = one_sorted i;
    among = (ap (λ b. b || false) ((Decides-eqb i i).1 refl), tt);
    inside = (length_more s.exchanges x, tt);
    agree = agree o t.server never false r (i ∷ []) xs agrees t.exchanges base;
    before = one_more 0 s.exchanges (settled_at (answered_in o t.server false r) (i ∷ []) xs) x unanswered;
  }
