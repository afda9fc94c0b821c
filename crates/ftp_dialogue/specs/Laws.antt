-- What the laws of the calls that open a data connection speak of: RFC 959, section 3.2; RFC 2428, section 3; RFC 3659,
-- section 5.
use Rattle.std.specs.Prelude.{◌≡◌, ◌⊎◌, ℕ, true, List, ◌++◌}
use Rattle.std.specs.List.{All}
use Rattle.std.specs.Net.Socket.{socket_ip}
use Rattle.std.specs.declared.net.socket_addr.SocketAddr.{SocketAddr}
use Rattle.ftp_base.specs.declared.types.mode.Mode.TheVariants.{Passive, ExtendedPassive, Automatic}
use Rattle.ftp_transport.specs.declared.request.Request.{Request}
use Rattle.ftp_transport.specs.declared.request.Request.TheVariants.{Connect, Listen, Accept, Build}
use Rattle.ftp_dialogue.specs.declared.model.Played.{Played}
use Rattle.ftp_dialogue.specs.declared.model.Played.TheVariants.{Done, Pending}
use Rattle.ftp_dialogue.specs.declared.model.PlayState.{PlayState}
use Rattle.ftp_dialogue.specs.declared.state.Settings.{Settings}

-- where the run stands when a call is done, or while it waits
abbrev pub reached : Played → PlayState
reached (Done answer s) = s
reached (Pending wait s) = s

-- the offset at which the next transfer would begin then: RFC 3659, section 5
abbrev pub offset_after : Played → ℕ
offset_after played = (reached played).state.settings.restart_offset

-- the host to connect to is the control connection's peer: the reply to EPSV tells a port alone, and behind a router that
-- rewrites addresses the host that the reply to PASV tells is passed over: RFC 2428, section 3; RFC 959, section 4.1.2
abbrev pub UsesPeerHost : Settings → Type 0
UsesPeerHost settings =
    (settings.mode ≡ ExtendedPassive)
    ⊎ (((settings.mode ≡ Passive) ⊎ (settings.mode ≡ Automatic)) × (settings.passive_nat_workaround ≡ true))

-- a connection that is asked for, of the transport or of the caller's builder, leads to the host of this peer, at
-- whichever port; other requests lead nowhere
abbrev pub LeadsTo : SocketAddr → Request → Type 0
LeadsTo peer (Connect address limit) = socket_ip address ≡ socket_ip peer
LeadsTo peer (Listen address) = Unit {0}
LeadsTo peer (Accept deadline) = Unit {0}
LeadsTo peer (Build address) = socket_ip address ≡ socket_ip peer

-- each connection that a call asks for, from here, leads to the host of the control connection's peer
pub record AsksPeerAlone (s : PlayState) (played : Played) : Type 0 where
  pub more : List Request
  pub asked : (reached played).net_record.asked ≡ s.net_record.asked ++ more
  pub to_peer : All (LeadsTo s.peer) more
