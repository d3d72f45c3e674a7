-- The system's form of an IPv4 address and port.
use Rattle.std.specs.Prelude.{◌≡◌}
use Rattle.std.specs.Net.Socket.{socket_ip, socket_port}
use Rattle.std.specs.declared.net.ip_addr.IpAddr.TheVariants.{V4}
use Rattle.std.specs.declared.net.socket_addr.SocketAddr.{SocketAddr}
use Rattle.types.specs.declared.addr.Source.{Source}

pub record IsSystemForm (at : Source) (form : SocketAddr) : Type 0 where
  pub ip : socket_ip form ≡ V4 (record { octets = at.addr.0 })
  pub port : socket_port form ≡ at.port
