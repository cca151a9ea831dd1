-- What a logger sends, as the calls take it: the record of its lists.
use Rattle.pattern.specs.Sent.{Sent, sent}
use Rattle.feeding.specs.declared.Sent as code

abbrev pub sent_of : code.Sent → Sent
sent_of s = sent s.pattern.now s.readings.now
