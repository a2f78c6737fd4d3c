-- What a datagram is, as values of the program say it.
use Rattle.std.specs.Prelude.{ℕ, List, Option, Some, None}
use Rattle.sl_defs.specs.Rpc.{accepted_text}
use Rattle.sl_types.specs.declared.call.Call.{Call}
use Rattle.sl_types.specs.declared.cred.Cred.{Cred}
use Rattle.sl_history.specs.Arrivals as arrivals
use Rattle.sl_datagram.specs.declared.datagram.Asked.{Asked}
use Rattle.sl_datagram.specs.declared.datagram.Datagram.{Datagram}
use Rattle.sl_datagram.specs.declared.datagram.Datagram.TheVariants as datagram

abbrev pub asked_of : Asked → arrivals.Asked
asked_of a = record { xid = a.xid; procedure = a.procedure; call = a.call; cred = a.cred }

abbrev pub datagram_of : Datagram → arrivals.Datagram
datagram_of datagram.Junk = arrivals.IsJunk
datagram_of (datagram.Answered answer) = arrivals.IsAnswered answer
datagram_of (datagram.Asked a) = arrivals.IsAsked (asked_of a)

-- what a call is that its header doesn't answer, when its arguments were read
abbrev pub with_read : ℕ → ℕ → Cred → Option (Call × List ℕ) → arrivals.Datagram
with_read xid procedure cred None = arrivals.IsAnswered (accepted_text xid 4)
with_read xid procedure cred (Some read) = arrivals.IsAsked (record { xid = xid; procedure = procedure; call = read.0; cred = cred })
