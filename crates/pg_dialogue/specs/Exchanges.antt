-- Exchanges as lists of bytes and of messages.
use Rattle.pg_dialogue.specs.declared.talk.Exchange as lent
use Rattle.pg_dialogue.specs.Dialogue.{Exchange}

abbrev pub exchange_of : lent.Exchange → Exchange
exchange_of e = record { sent = e.sent.now; wanted = e.wanted.now }
