-- Which replies are fair: those that lead a client to the same rows as a lawful one, whatever its entries are.
use Rattle.std.specs.Prelude.{◌≡◌, Bool, true, false, ◌==◌, List, [], ◌++◌, Option}
use Rattle.shape_base.specs.declared.offset.Offset.{Offset}
use Rattle.shape_base.specs.declared.entry.Entry.{Entry}
use Rattle.shape_base.specs.declared.handle.Handle.{Handle}
use Rattle.shape_base.specs.declared.ask.Ask.{Ask}
use Rattle.shape_base.specs.declared.reply.Reply.{Reply}
use Rattle.shape_base.specs.Offsets.{rises_after, upto, end_from}
use Rattle.shape_base.specs.Log.{fold, last_offset}
use Rattle.shape_json.specs.Body.{body_text}
use Rattle.shape_json.specs.Plain.{ArePlain}
use Rattle.shape_json.specs.Reading.{HaveOffsets}
use Rattle.shape_json.specs.Page.{Part}
use Rattle.shape_json.specs.Answer.{Paged, Gone, answer_of}
use Rattle.http_edge.specs.World.{World, Given, situation, log_at, schema_at}
use Rattle.http_edge.specs.Lawful.{Asked, AsksFor, page_with, conflict_reply, control_of}

-- Entries lead to the same rows as a page of a log after an offset: there are some exactly where the page has some, they can be read back, their offsets rise from the offset to the page's end, and folded over the log up to the offset they give what the log up to the page's end gives.
pub record LeadAlike (log : List Entry) (o : Offset) (page : Part) (entries : List Entry) : Type 0 where
  pub none : page.entries ≡ [] → entries ≡ []
  pub some : entries ≡ [] → page.entries ≡ []
  pub plain : ArePlain entries
  pub offsets : HaveOffsets entries
  pub rise : rises_after o entries ≡ true
  pub last : last_offset (end_from o) entries ≡ page.end
  pub folds : fold (upto o log ++ entries) ≡ fold (upto page.end log)

-- a reply with neither a page nor a conflict
pub record IsRefusal (reply : Reply) : Type 0 where
  pub no_page : (reply.status == 200) ≡ false
  pub no_conflict : (reply.status == 409) ≡ false

-- The reply is fair: a page whose entries lead to the same rows as those of the answer's page, the answer's conflict, or any refusal.
pub data IsFair (w : World) (asked : Asked) (g : Given) : Type 0 where
  FairPage : (ask : Ask) (late : Bool) (handle : Handle) (from : Offset) (page : Part) (entries : List Entry) (is : asked ≡ AsksFor ask) (answer : answer_of (situation w g late) ask ≡ Paged handle from page)
      (alike : LeadAlike (log_at w handle.number g.shown) from page entries) (gives : g.reply ≡ page_with ask handle (schema_at w handle.number) page (body_text entries (control_of page.up_to_date))) → IsFair w asked g
  FairConflict : (ask : Ask) (late : Bool) (named : Option Handle) (is : asked ≡ AsksFor ask) (answer : answer_of (situation w g late) ask ≡ Gone named) (gives : g.reply ≡ conflict_reply named) → IsFair w asked g
  FairRefusal : (refuses : IsRefusal g.reply) → IsFair w asked g
