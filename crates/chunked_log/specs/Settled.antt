-- Pages that stay as they are for good.
use Rattle.std.specs.Prelude.{◌≡◌, ℕ, ◌<◌, List, ◌++◌, map}
use Rattle.std.specs.List.{AllByRecursion}
use Rattle.std.specs.Str.{IsUtf8}
use Rattle.shape_base.specs.declared.offset.Offset.{Offset}
use Rattle.shape_base.specs.declared.page.Page.{Page}
use Rattle.shape_base.specs.declared.entry.Entry.{Entry}
use Rattle.shape_json.specs.Body.{entry_text}
use Rattle.shape_json.specs.Page.{page_of}
use Rattle.shape_json.specs.Reading.{HaveOffsets}
use Rattle.chunked_log.specs.Chunked.{Carries, offsets_of}
use Rattle.chunked_log.specs.declared.settled.SettledPage.{SettledPage}

-- The page after an offset, for good: it has entries, its bytes are UTF-8, and it is that of each longer log too.
pub record IsSettled (offsets : List Offset) (texts : List (List ℕ)) (least : ℕ) (after : Offset) (page : Page) : Type 0 where
  pub some : 0 < page.count
  pub utf8 : IsUtf8 page.inner
  pub stays : (entries more : List Entry) → offsets ≡ offsets_of entries → texts ≡ map entry_text entries → HaveOffsets entries → Carries page (page_of least (entries ++ more) after)

abbrev pub AreSettled : List Offset → List (List ℕ) → ℕ → List SettledPage → Type 0
AreSettled offsets texts least pages = AllByRecursion (λ (s : SettledPage). IsSettled offsets texts least s.after s.page) pages
