-- A circuit that is served elsewhere: its relay and its server have other addresses.
use Rattle.types.specs.declared.addr.Source.{Source}
use Rattle.world.specs.Alone.{Setup}

-- The same circuit, whose relay sends from another source to a server that listens on other addresses.
abbrev pub served_elsewhere : Source → Source → Source → Setup → Setup
served_elsewhere relay listen4 listen6 setup = record setup { part = record setup.part { relay = relay; listen4 = listen4; listen6 = listen6 } }
