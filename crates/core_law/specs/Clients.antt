-- What is put out, and what a client does.
use Rattle.std.specs.Prelude.{ℕ, zero, suc, ◌+◌, Bool, true, false, nat_lt, if◌then◌else◌, List, [], ◌∷◌, ◌++◌, length, Option, None, Some, slice_get, is_none, codes}
use Rattle.std.specs.FinMap as fin
use Rattle.shape_base.specs.declared.offset.Offset.{Offset}
use Rattle.shape_base.specs.declared.handle.Handle.{Handle}
use Rattle.shape_base.specs.Tables.{same_text}
use Rattle.shape_base.specs.Shape.{Keyed}
use Rattle.core_events.specs.declared.out.Unfit.{Unfit}
use Rattle.core_events.specs.declared.out.Unfit.TheVariants as unfit
use Rattle.core_events.specs.declared.out.StepError.{StepError}
use Rattle.core_events.specs.declared.out.StepError.TheVariants as errors
use Rattle.http_edge.specs.declared.error_code.ErrorCode.TheVariants as codes_of
use Rattle.http_edge.specs.Lawful.{Refuses}
use Rattle.fold_client.specs.Client.{Held, Outcome, UpToDate, More, Refetch, ServerRefused, BadReply, ForeignHandle, BadFold, take_reply}
use Rattle.fold_client.specs.Following.{Heard}
use Rattle.core_law.specs.Situation.{Options, Exchange, Customer, Situation, held_of, next_target, next_asked}
use Rattle.core_law.specs.Steps.{change_at, settled, request}

-- ---- what is put out

pub data Out : Type 0 where
  Gives : (exchange : ℕ) (heard : Heard) → Out
  Cut : (exchange : ℕ) → Out
  Block : (customer : ℕ) (handle : Option Handle) (offset : Offset) (rows : List Keyed) → Out
  Refetched : (customer : ℕ) → Out
  Refused : (customer : ℕ) (status : ℕ) → Out

-- One event goes on with what it puts out, or it does not.
pub data Turn : Type 0 where
  Goes : (outs : List Out) (next : Situation) → Turn
  Stops : (error : StepError) → Turn

abbrev pub is_unfit : Unfit → Turn
is_unfit cause = Stops (errors.Unfit cause)

abbrev pub new_reply : ℕ → Bool → Option Heard → Option Heard → List Out
new_reply i false before now = []
new_reply i true (Some h) now = []
new_reply i true None None = []
new_reply i true None (Some h) = Gives i h ∷ []

-- the exchanges from outside, from that number on, that have a reply now and had none before, or were not there
abbrev pub given_now : ℕ → List Exchange → List Exchange → List Out
given_now i xs [] = []
given_now i [] (y ∷ ys) = new_reply i y.outside None y.given ++ given_now (i + 1) [] ys
given_now i (x ∷ xs) (y ∷ ys) = new_reply i y.outside x.given y.given ++ given_now (i + 1) xs ys

-- Each exchange that can be answered is answered, in rising order.
abbrev pub finished : Options → (Exchange → Bool) → Situation → Situation → Turn
finished o late s t = let next = settled o late t in Goes (given_now 0 s.exchanges next.exchanges) next

abbrev pub never : Exchange → Bool
never x = false

-- ---- clients

-- an event that would make this exchange, counted from 0, is not taken
abbrev pub exchange_limit : ℕ
exchange_limit = 10000

abbrev pub has_room : Situation → Bool
has_room s = nat_lt (length s.exchanges) exchange_limit

abbrev pub waits_at : ℕ → Customer → Customer
waits_at e c = record c { waiting = Some e }

-- the head of a client's request for a target (RFC 9112, section 3), and whether it is too long to be read
abbrev pub head_text : List ℕ → List ℕ
head_text target = codes "GET " ++ target ++ codes " HTTP/1.1\r\nhost: shapes\r\nconnection: close\r\n\r\n"

abbrev pub is_long : List ℕ → Bool
is_long target = nat_lt 16384 (length (head_text target))

-- a client's request is refused where its head is too long
abbrev pub requested : Options → Situation → Customer → Situation
requested o s c = if is_long (next_target c) then request o s false None (Refuses codes_of.HeadTooLong) false else request o s false (Some (next_target c)) (next_asked c) false

-- it asks for its next part, by an exchange that is then its open one
abbrev pub sent : Options → Situation → ℕ → Customer → Turn
sent o s n c = let next = requested o s c in finished o never s (record next { customers = change_at (waits_at (length s.exchanges)) next.customers n })

abbrev pub send_by : Options → Situation → ℕ → Option Customer → Turn
send_by o s n None = is_unfit unfit.NoClient
send_by o s n (Some c) = if has_room s then sent o s n c else Stops errors.TooManyExchanges

abbrev pub took_one : Heard → Customer → Customer
took_one h c = record c { waiting = None; took = c.took ++ h ∷ [] }

abbrev pub out_of : ℕ → Held → Outcome → List Out
out_of n c UpToDate = Block n c.handle c.offset (fin.entries c.rows) ∷ []
out_of n c More = []
out_of n c Refetch = Refetched n ∷ []
out_of n c (ServerRefused status) = Refused n status ∷ []
out_of n c BadReply = []
out_of n c (ForeignHandle asked got) = []
out_of n c (BadFold offset key) = []

abbrev pub took_heard : Situation → ℕ → Customer → Heard → Turn
took_heard s n c h = let after = take_reply (held_of c) h.given.reply h.body in Goes (out_of n after.held after.outcome) (record s { customers = change_at (took_one h) s.customers n })

abbrev pub take_heard : Situation → ℕ → Customer → Option Heard → Turn
take_heard s n c None = is_unfit unfit.NoReply
take_heard s n c (Some h) = took_heard s n c h

-- the target is the client's next one
abbrev pub is_next : Customer → Option (List ℕ) → Bool
is_next c None = false
is_next c (Some target) = same_text target (next_target c)

abbrev pub take_exchange : Situation → ℕ → Customer → Option Exchange → Turn
take_exchange s n c None = is_unfit unfit.NoExchange
take_exchange s n c (Some x) = if is_none x.given then is_unfit unfit.NoReply else if is_next c x.target then take_heard s n c x.given else is_unfit unfit.WrongAddress

-- A client takes the reply of an exchange whose target is its next one.
abbrev pub take_by : Situation → ℕ → ℕ → Option Customer → Turn
take_by s n e None = is_unfit unfit.NoClient
take_by s n e (Some c) = take_exchange s n c (slice_get s.exchanges e)

-- ---- watches

abbrev pub joined : List Out → Turn → Turn
joined outs (Goes more next) = Goes (outs ++ more) next
joined outs (Stops error) = Stops error

-- one turn after the other
abbrev pub then_goes : (Situation → Turn) → Turn → Turn
then_goes go (Goes outs next) = joined outs (go next)
then_goes go (Stops error) = Stops error

-- what a client took does not end its watch
abbrev pub goes_on : Outcome → Bool
goes_on UpToDate = false
goes_on More = true
goes_on Refetch = true
goes_on (ServerRefused status) = false
goes_on BadReply = false
goes_on (ForeignHandle asked got) = false
goes_on (BadFold offset key) = false

abbrev pub watch_heard : (Situation → Turn) → Situation → ℕ → ℕ → Customer → Option Heard → Turn
watch_heard go s n e c None = Goes [] s
watch_heard go s n e c (Some h) = if goes_on (take_reply (held_of c) h.given.reply h.body).outcome then then_goes go (take_by s n e (Some c)) else take_by s n e (Some c)

abbrev pub watch_exchange : (Situation → Turn) → Situation → ℕ → ℕ → Customer → Option Exchange → Turn
watch_exchange go s n e c None = Goes [] s
watch_exchange go s n e c (Some x) = watch_heard go s n e c x.given

abbrev pub watch_open : Options → (Situation → Turn) → Situation → ℕ → Customer → Option ℕ → Turn
watch_open o go s n c None = then_goes go (send_by o s n (Some c))
watch_open o go s n c (Some e) = watch_exchange go s n e c (slice_get s.exchanges e)

abbrev pub watched_by : Options → (Situation → Turn) → Situation → ℕ → Option Customer → Turn
watched_by o go s n None = is_unfit unfit.NoClient
watched_by o go s n (Some c) = watch_open o go s n c c.waiting

-- A watch of at most that many rounds: the client asks where it has no open exchange, and takes its reply where there is one.
abbrev pub watch : Options → ℕ → ℕ → Situation → Turn
watch o zero n s = Goes [] s
watch o (suc rounds) n s = watched_by o (λ next. watch o rounds n next) s n (slice_get s.customers n)
