-- The body of each reply that an exchange gets is read back as what was written.
use Rattle.std.proofs.Common.{◌≡◌, ℕ, true, not, List, [], ◌∷◌, ◌++◌, refl, sym, subst, Option, None, Some}
use Rattle.std.proofs.lemmas.Bool.{and_parts, and_from}
use Rattle.shape_base.specs.declared.entry.Entry.{Entry}
use Rattle.shape_base.specs.declared.offset.Offset.{Offset}
use Rattle.shape_base.specs.declared.registry_event.RegistryEvent.{RegistryEvent}
use Rattle.shape_base.specs.Offsets.{upto, past}
use Rattle.shape_base.specs.Shape.{IsTest}
use Rattle.shape_base.specs.Snapshot.{Snapshot}
use Rattle.shape_base.specs.RegistryHistory.{was_registered, was_removed, was_registered_under, is_live, is_live_under}
use Rattle.shape_base.proofs.Lemmas.{upto_past}
use Rattle.shape_json.specs.Page.{Part, IsPage}
use Rattle.shape_json.specs.Plain.{ArePlain}
use Rattle.shape_json.specs.Reading.{HaveOffsets}
use Rattle.shape_json.specs.ShapeHistory.{Reader, ShapeEvent, snapshot_in, taken}
use Rattle.shape_json.proofs.Lemmas.{pages_are_asked, page_is_front, plain_front, plain_back, taken_is_plain}
use Rattle.core_law.specs.Situation.{Options, Shape, Server, shape_at, log_by, log_of_shape, answers_from}
use Rattle.core_law.specs.Reached.{HaveShortLogs, RepliesSay}
use Rattle.core_law.proofs.Server.{Sound}
use Rattle.core_law.proofs.Shapes.{shape_test}
use Rattle.core_law.proofs.Replies.{AreRead, PagesAreRead, says_now}
use Rattle.core_law.proofs.Reaching.{reached_sound, was_under}

-- ---- logs

plain_by : (r : Reader) (snapshot : Option Snapshot) (events : List ShapeEvent) → IsTest r.knows → ArePlain (log_by r snapshot events)
plain_by r None events test = refl
plain_by r (Some snapshot) events test = taken_is_plain r.knows snapshot.visibility snapshot.rows (taken events) test

plain_log : (o : Options) (v : Server) (n : ℕ) (shape : Option Shape) → Sound o v → shape_at v.shapes n ≡ shape → ArePlain (log_of_shape shape)
plain_log o v n None sound at = refl
plain_log o v n (Some x) sound at = plain_by x.reader (snapshot_in x.events) x.events (shape_test o v n x (sound.shapes n x at))

-- ---- pages

offsets_front : (es fs : List Entry) → HaveOffsets (es ++ fs) → HaveOffsets es
offsets_front [] fs h = tt
offsets_front (e ∷ es) fs h = (h.0, offsets_front es fs h.1)

offsets_back : (es fs : List Entry) → HaveOffsets (es ++ fs) → HaveOffsets fs
offsets_back [] fs h = h
offsets_back (e ∷ es) fs h = offsets_back es fs h.1

-- a page of a log that can be read back can be
page_of_read : (log : List Entry) (from : Offset) (page : Part) → ArePlain log → HaveOffsets log → IsPage log from page → AreRead page
page_of_read log from page plain offsets is = (
  plain_front page.entries is.rest (subst ArePlain is.cut (plain_back (upto from log) (past from log) (subst ArePlain (sym (upto_past from log)) plain))),
  offsets_front page.entries is.rest (subst HaveOffsets is.cut (offsets_back (upto from log) (past from log) (subst HaveOffsets (sym (upto_past from log)) offsets))),
)

-- a number that is live under an identity is live
is_live_there : (es : List RegistryEvent) (identity : List ℕ) (n : ℕ) → is_live_under es identity n ≡ true → is_live es n ≡ true
is_live_there es identity n h = let p = and_parts (was_registered_under es identity n) (not (was_removed es n)) h in and_from (was_registered es n) (not (was_removed es n)) (was_under es identity n p.0) p.1

short_pages : (o : Options) (v : Server) → Sound o v → HaveShortLogs v → PagesAreRead o v
short_pages o v sound short late ask handle from page e =
    let p = pages_are_asked (answers_from o v late) ask handle from page e in
    page_of_read (log_of_shape (shape_at v.shapes handle.number)) from page (plain_log o v handle.number (shape_at v.shapes handle.number) sound refl) (short handle.number (is_live_there v.registry ask.identity handle.number p.under))
    (subst (λ (x : Part). IsPage (log_of_shape (shape_at v.shapes handle.number)) from x) (sym p.is) (page_is_front o.limits.chunk (log_of_shape (shape_at v.shapes handle.number)) from))

pub replies_say : RepliesSay
replies_say o s late asked role w start r short e = says_now o s.server late asked role w (short_pages o s.server (reached_sound o s start r) short) e
