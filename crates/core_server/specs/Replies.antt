-- What a request is answered, by what is found for it.
use Rattle.std.specs.Prelude.{◌≡◌, ℕ, Bool, false, List, Option, None, Some}
use Rattle.std.specs.Option.{option_map}
use Rattle.shape_base.specs.declared.offset.Offset.{Offset}
use Rattle.shape_base.specs.declared.offset.Offset.TheVariants.{Start}
use Rattle.shape_base.specs.declared.handle.Handle.{Handle}
use Rattle.shape_base.specs.declared.ask.Ask.{Ask}
use Rattle.shape_base.specs.declared.ask.Named.{Named}
use Rattle.shape_base.specs.declared.ask.Named.TheVariants.{Absent, Known, Strange}
use Rattle.shape_base.specs.declared.reply.Reply.{Reply}
use Rattle.shape_base.specs.Shape.{Knows}
use Rattle.shape_registry.specs.declared.found.Found.{Found}
use Rattle.shape_registry.specs.declared.found.Found.TheVariants as found
use Rattle.chunked_log.specs.Chunked.{Carries}
use Rattle.shape_json.specs.Body.{IsInner}
use Rattle.shape_json.specs.Page.{Part, page_of}
use Rattle.shape_json.specs.Answer.{Answer, Paged, in_run, answer_ready}
use Rattle.shape_json.specs.Answer as answers
use Rattle.shape_state.specs.declared.paged.Paged as pages
use Rattle.shape_state.specs.declared.paged.Paged.TheVariants as paged
use Rattle.http_edge.specs.declared.error_code.ErrorCode.TheVariants as codes
use Rattle.http_edge.specs.Refusals.{refusal}
use Rattle.http_edge.specs.Schema.{schema_text}
use Rattle.http_edge.specs.Lawful.{page_reply}
use Rattle.core_law.specs.Situation.{Options}
use Rattle.core_law.specs.Situation as law
use Rattle.core_law.specs.Steps.{Written, answered}

-- the reply to a request, where there is one yet
abbrev pub reply_to : Options → law.Server → Bool → Ask → Option Reply
reply_to o v late ask = option_map (λ (w : Written). w.reply) (answered o v late ask)

-- ---- a number that is ready

-- from where a request is answered: from the start where it names no handle
abbrev pub start_of : Named → Offset → Offset
start_of Absent o = Start
start_of (Known h) o = o
start_of Strange o = o

-- whether it waits for what is new: not where it names no handle
abbrev pub waits_of : Named → Bool → Bool
waits_of Absent live = false
waits_of (Known h) live = live
waits_of Strange live = live

abbrev pub ready_named : answers.Situation → Ask → Named → ℕ → Answer
ready_named s ask Absent n = Paged (in_run s.run n) Start (page_of s.chunk (s.log n) Start)
ready_named s ask (Known h) n = answer_ready s ask (in_run s.run n) (s.log n)
ready_named s ask Strange n = answer_ready s ask (in_run s.run n) (s.log n)

-- the answer from the log of a ready number
abbrev pub ready_answer : answers.Situation → Ask → ℕ → Answer
ready_answer s ask n = ready_named s ask ask.named n

-- the answer, by what is found
abbrev pub answer_by : answers.Situation → Ask → Named → Found → Answer
answer_by s ask named (found.Ready n) = ready_named s ask named n
answer_by s ask named (found.Starting n) = answers.Starting n
answer_by s ask named (found.Gone other) = answers.Gone (option_map (in_run s.run) other)
answer_by s ask named found.Unregistered = answers.Unregistered

-- ---- the page of a shape

-- what is a page has the texts of entries
abbrev pub HasInner : pages.Paged → Type 0
HasInner (paged.Page page) = IsInner page.inner
HasInner paged.NotYet = Unit {0}
HasInner paged.Starting = Unit {0}
HasInner (paged.Gone cause) = Unit {0}
HasInner (paged.OffsetAhead end) = Unit {0}

-- The reply that is what a shape answers; none while there is no answer yet.
abbrev pub IsReplyTo : Ask → Handle → Knows → pages.Paged → Option Reply → Type 0
IsReplyTo ask h s (paged.Page page) reply = (part : Part) → Carries page part → reply ≡ Some (page_reply ask h (Some (schema_text s)) part)
IsReplyTo ask h s paged.NotYet reply = reply ≡ None
IsReplyTo ask h s paged.Starting reply = reply ≡ None
IsReplyTo ask h s (paged.Gone cause) reply = reply ≡ None
IsReplyTo ask h s (paged.OffsetAhead end) reply = reply ≡ Some (refusal codes.OffsetAhead)
