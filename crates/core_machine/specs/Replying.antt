-- The reply that an exchange gets, and what it has then.
use Rattle.std.specs.Prelude.{ℕ, Bool, ◌==◌, if◌then◌else◌, Option, None, Some}
use Rattle.std.specs.Option.{option_map}
use Rattle.shape_base.specs.declared.reply.Reply.{Reply}
use Rattle.http_edge.specs.declared.error_code.ErrorCode.{ErrorCode}
use Rattle.http_edge.specs.Lawful.{Asked}
use Rattle.core_law.specs.Situation.{Options, Server, Role, Exchange}
use Rattle.core_law.specs.Steps.{Written, refused_with, reply_now, settled_one, refused_at}
use Rattle.core_machine.specs.declared.answering.Refusal.{Refusal}

abbrev pub reply_in : Option Written → Option Reply
reply_in w = option_map (λ (x : Written). x.reply) w

-- what the exchange in a place gets: the refusal where it is that one's, or else its reply, late or not
abbrev pub reply_at : Options → Server → Bool → Option Refusal → ℕ → Asked → Role → Option Written
reply_at o v late None p asked role = reply_now o v late asked role
reply_at o v late (Some r) p asked role = if r.index == p then Some (refused_with r.code) else reply_now o v late asked role

-- an exchange that has no reply gets it where there is one now
abbrev pub settle : Options → Server → Bool → Exchange → Exchange
settle o v late x = settled_one o v (λ _. late) x x.given

abbrev pub refused_in : Server → Option Refusal → ℕ → Exchange → Exchange
refused_in v None p x = x
refused_in v (Some r) p x = if r.index == p then refused_at v r.code x else x

-- The exchange in a place, once it was answered.
abbrev pub answered_in : Options → Server → Bool → Option Refusal → ℕ → Exchange → Exchange
answered_in o v late r p x = settle o v late (refused_in v r p x)

-- a refusal of the exchange in a place, where there is one
abbrev pub refusal_of : ℕ → Option ErrorCode → Option Refusal
refusal_of i None = None
refusal_of i (Some code) = Some (record { index = i; code = code })
