-- The command that tells the server where a client listens: RFC 959, section 4.1.2 (PORT), RFC 2428, section 2 (EPRT).
use Rattle.std.specs.Prelude.{ℕ, ◌/◌, ◌%◌, List, [], ◌∷◌, ◌++◌, map, decimal}
use Rattle.std.specs.List.{join_with_byte}
use Rattle.std.specs.Net.Addr.{ipv4_octets}
use Rattle.std.specs.Net.Socket.{v4_ip, v4_port}
use Rattle.std.specs.declared.net.socket_addr.SocketAddr.{SocketAddr}
use Rattle.std.specs.declared.net.socket_addr.SocketAddr.TheVariants.{V4, V6}
use Rattle.ftp_base.specs.declared.command.Command.{Command}
use Rattle.ftp_base.specs.declared.command.Command.TheVariants.{Eprt, Port}

-- the byte ","
abbrev pub comma : ℕ
comma = 44

-- the octets of an address and the two of a port, the high one first: decimal numbers with commas between them
abbrev pub host_port : List ℕ → ℕ → List ℕ
host_port octets port = join_with_byte comma (map decimal (octets ++ port / 256 ∷ port % 256 ∷ []))

-- the command for a listener at an address
abbrev pub port_command : SocketAddr → Command
port_command (V4 address) = Port (host_port (ipv4_octets (v4_ip address)) (v4_port address))
port_command (V6 address) = Eprt (V6 address)
