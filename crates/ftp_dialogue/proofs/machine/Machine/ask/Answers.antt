use Rattle.ftp_dialogue.proofs.machine.Machine.ask.Goals as goal

pub returns-in-Room-clause-asks : goal.returns-in-Room-clause-asks
returns-in-Room-clause-asks g c = rw c.in-Room.is c.ask_for_room.ensures.asks

pub returns-in-OwnAddress-clause-asks : goal.returns-in-OwnAddress-clause-asks
returns-in-OwnAddress-clause-asks g c = rw c.in-OwnAddress.is c.local_addr.ensures.asks

pub returns-in-PeerAddress-clause-asks : goal.returns-in-PeerAddress-clause-asks
returns-in-PeerAddress-clause-asks g c = rw c.in-PeerAddress.is c.peer_addr.ensures.asks

pub returns-in-Connection-clause-asks : goal.returns-in-Connection-clause-asks
returns-in-Connection-clause-asks g c = rw c.in-Connection.is c.ask_to_connect.ensures.asks

pub returns-in-Building-clause-asks : goal.returns-in-Building-clause-asks
returns-in-Building-clause-asks g c = rw c.in-Building.is c.ask_to_build.ensures.asks

pub returns-in-Listener-clause-asks : goal.returns-in-Listener-clause-asks
returns-in-Listener-clause-asks g c = rw c.in-Listener.is c.ask_to_listen.ensures.asks

pub returns-in-Peer-clause-asks : goal.returns-in-Peer-clause-asks
returns-in-Peer-clause-asks g c = rw c.in-Peer.is c.ask_to_accept.ensures.asks

pub returns-in-Handshake-clause-asks : goal.returns-in-Handshake-clause-asks
returns-in-Handshake-clause-asks g c = rw c.in-Handshake.is c.ask_to_secure.ensures.asks
