-- What written entries and each log keep.
use Rattle.std.specs.Prelude.{◌≡◌, length, map}
use Rattle.std.specs.Str.{IsUtf8}
use Rattle.chunk_cutter.specs.Cut.{HasCut}
use Rattle.chunked_log.specs.Lines.{size_in, texts_in}
use Rattle.chunked_log.specs.Chunked.{AreUtf8}
use Rattle.chunked_log.specs.Settled.{AreSettled}
use Rattle.chunked_log.specs.declared.written.Written.TheInside as written
use Rattle.chunked_log.specs.declared.log.ChunkedLog.TheInside as log

-- the buffer has the texts, and nothing else; all of it is UTF-8, and so is each text
pub record IsWritten (w : written.Inside) : Type 0 where
  pub sizes : size_in w.lines.items ≡ length w.buffer.items
  pub buffer : IsUtf8 w.buffer.items
  pub texts : AreUtf8 (texts_in w.lines.items w.buffer.items)

-- the cutter has cut the sizes of the texts, each text is UTF-8, and each page that is kept is one for good
pub record IsChunked (l : log.Inside) : Type 0 where
  pub cut : HasCut l.cutter (map length l.log.texts)
  pub same : length l.log.offsets ≡ length l.log.texts
  pub texts : AreUtf8 l.log.texts
  pub settled : AreSettled l.log.offsets l.log.texts l.cutter.least l.settled
