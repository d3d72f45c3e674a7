-- The table of reasons: the number of each, and its words.
use Rattle.std.specs.Prelude.{ℕ, List, codes}
use Rattle.types.specs.declared.discard.Discard.{Discard}
use Rattle.types.specs.declared.discard.Discard.TheVariants.{TooLong, MalformedUp, NotRequest, HasGiaddr, HasOption82, Hops, WrongType, NestedRelay, UnknownSource, Malformed, NotRelayed, UnknownCircuit, WrongLink, NoOverride, ClientKey, OtherServer, NoAddress, NoRecord, CircuitClosed, NotServed, DiskFault, NothingToSay, BatchTwice, NotServer, MalformedDown, UnknownCircuitDown, WrongLinkDown}

abbrev pub number_of : Discard → ℕ
number_of TooLong = 1
number_of MalformedUp = 2
number_of NotRequest = 3
number_of HasGiaddr = 4
number_of HasOption82 = 5
number_of Hops = 6
number_of WrongType = 7
number_of NestedRelay = 8
number_of UnknownSource = 11
number_of Malformed = 12
number_of NotRelayed = 13
number_of UnknownCircuit = 14
number_of WrongLink = 15
number_of NoOverride = 16
number_of ClientKey = 17
number_of OtherServer = 18
number_of NoAddress = 19
number_of NoRecord = 20
number_of CircuitClosed = 21
number_of NotServed = 22
number_of DiskFault = 23
number_of NothingToSay = 24
number_of BatchTwice = 25
number_of NotServer = 31
number_of MalformedDown = 32
number_of UnknownCircuitDown = 33
number_of WrongLinkDown = 34

-- each reason in words
abbrev pub words_of : Discard → List ℕ
words_of TooLong = codes "the frame is too long"
words_of MalformedUp = codes "the frame is malformed"
words_of NotRequest = codes "the frame is not a request"
words_of HasGiaddr = codes "the frame has a giaddr already"
words_of HasOption82 = codes "the frame has a relay agent information option already"
words_of Hops = codes "the frame has passed too many relays"
words_of WrongType = codes "the frame's message type is not a client's"
words_of NestedRelay = codes "the frame has passed another relay"
words_of UnknownSource = codes "the datagram is not from a configured relay"
words_of Malformed = codes "the datagram is malformed"
words_of NotRelayed = codes "the datagram has passed no relay"
words_of UnknownCircuit = codes "the datagram's circuit is unknown"
words_of WrongLink = codes "the datagram's link address is not its circuit's"
words_of NoOverride = codes "the server identifier override is missing or wrong"
words_of ClientKey = codes "the client's identifier is missing, or too short or too long"
words_of OtherServer = codes "the message names another server, or a server where it must not, or none where it must"
words_of NoAddress = codes "no address is free"
words_of NoRecord = codes "the server has no record of the client"
words_of CircuitClosed = codes "the circuit is closed"
words_of NotServed = codes "the message type is not served"
words_of DiskFault = codes "the circuit's region could not be written"
words_of NothingToSay = codes "no reply is due"
words_of BatchTwice = codes "an earlier datagram of the batch is of the same circuit"
words_of NotServer = codes "the reply is not from the server"
words_of MalformedDown = codes "the reply is malformed"
words_of UnknownCircuitDown = codes "the reply's circuit is unknown"
words_of WrongLinkDown = codes "the reply's link address is not its circuit's"
