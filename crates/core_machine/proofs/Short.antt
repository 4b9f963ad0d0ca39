-- The offsets of logs have 64 bits.
use Rattle.core_law.specs.Situation.{Options, Server}
use Rattle.core_law.specs.Reached.{HaveShortLogs}
use Rattle.core_server.specs.declared.server.Server.{Server as KeptServer}
use Rattle.core_server.specs.Standing as server
use Rattle.core_server.proofs.Lemmas.{short_logs as live_logs}

-- Where a server stands, the log of each live number has offsets of 64 bits.
pub short_logs : (o : Options) (v : Server) (s : KeptServer) → server.Stands o v s → HaveShortLogs v
short_logs o v s h = live_logs o v s h
