-- What becomes of an exchange that is given a reply, and which are late.
use Rattle.std.specs.Prelude.{◌+◌, nat_le, ℕ, Bool, false, ◌&&◌, Option, None, Some}
use Rattle.std.specs.Option.{option_or}
use Rattle.shape_base.specs.declared.reply.Reply.{Reply}
use Rattle.fold_client.specs.Following.{Heard}
use Rattle.core_law.specs.Situation.{Options, Exchange}
use Rattle.core_law.specs.Run.{is_late_at}
use Rattle.core_exchanges.specs.declared.exchange.Exchange.{Exchange as Kept}
use Rattle.core_exchanges.specs.Standing.{is_open, IsHeard}

-- it has what was heard, unless it has a reply
abbrev pub given_to : (Exchange → Heard) → Exchange → Exchange
given_to heard x = record x { given = option_or x.given (Some (heard x)) }

-- what each would hear is the reply, to what it asked
abbrev pub HearsAs : (Exchange → Heard) → Reply → Type 0
HearsAs heard reply = (x : Exchange) → IsHeard reply x.asked (heard x)

-- it has no reply, and was held as long as it may be
abbrev pub is_late : Options → ℕ → Exchange → Bool
is_late o now x = is_open x && is_late_at o now x

-- a kept one was held as long as it may be
abbrev pub is_late_there : ℕ → ℕ → Option Kept → Bool
is_late_there now hold None = false
is_late_there now hold (Some e) = nat_le (e.moment + hold) now
