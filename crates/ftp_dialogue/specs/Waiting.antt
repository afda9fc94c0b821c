-- What a session may wait for.
use Rattle.std.specs.Prelude.{List, [], ◌∷◌, Option, Some, None}
use Rattle.ftp_transport.specs.Told.{Told}
use Rattle.ftp_transport.specs.Registering.{Part}
use Rattle.ftp_transport.specs.Registering.Part.{Connection, Connect, Handshake, Peer}
use Rattle.ftp_dialogue.specs.State.{SessionValue}

-- the data connection, where there is one, before these
abbrev pub and_data : Option Told → List Part → List Part
and_data None parts = parts
and_data (Some told) parts = Connection told ∷ parts

-- all that a session may wait for: its control connection, its data connection, a connect, a TLS handshake, and a peer
abbrev pub waiting_parts : SessionValue → List Part
waiting_parts v = Connection v.channel.told ∷ and_data v.net.data_conn (Connect ∷ Handshake ∷ Peer ∷ [])
