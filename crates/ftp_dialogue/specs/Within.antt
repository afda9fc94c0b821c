-- The places of a dialogue's tree.
use Rattle.std.specs.Prelude.{◌≡◌, ◌⊎◌, List, [], ◌∷◌, Option, Result, Ok, Err}
use Rattle.std.specs.declared.net.socket_addr.SocketAddr.{SocketAddr}
use Rattle.ftp_base.specs.declared.types.reply.Response.{Response}
use Rattle.ftp_base.specs.declared.types.fault.ConnectionError.TheVariants.{ReplyTooLarge, UnexpectedEof}
use Rattle.ftp_base.specs.declared.types.fault.FtpError.{FtpError}
use Rattle.ftp_base.specs.declared.types.fault.FtpError.TheVariants.{ConnectionError, UnexpectedResponse, BadResponse}
use Rattle.ftp_transport.specs.declared.request.RequestOutcome.{RequestOutcome}
use Rattle.ftp_dialogue.specs.declared.model.NetOutcome.{NetOutcome}
use Rattle.ftp_dialogue.specs.declared.model.NetOutcome.TheVariants.{Answered, Built, Secured}
use Rattle.ftp_dialogue.specs.Dialogue.{Tree, Say, Hear, Look, Ask, Build, Secure, Move, Leaf}

-- the errors that the bytes of a server may give in place of a reply: another reply, a first line that opens none, a reply
-- too large or an end of input
abbrev pub IsOfBytes : FtpError → Type 0
IsOfBytes (ConnectionError cause) = (cause ≡ ReplyTooLarge) ⊎ (cause ≡ UnexpectedEof)
IsOfBytes (UnexpectedResponse reply) = Unit {0}
IsOfBytes BadResponse = Unit {0}
IsOfBytes other = ⊥

abbrev pub MayHear : Result Response FtpError → Type 0
MayHear (Ok reply) = Unit {0}
MayHear (Err fault) = IsOfBytes fault

-- a place within a tree, which these outcomes lead to: the tree, also once the line that it says is begun; or a place after
-- its first node
abbrev pub Within : List NetOutcome → Tree → Tree → Type 0
Within outcomes place (Say (Ok line) next) =
    ((outcomes ≡ []) × (place ≡ Say (Ok line) next)) ⊎ ((outcomes ≡ []) × (place ≡ Say (Ok []) next)) ⊎ Within outcomes place next
Within outcomes place (Say (Err cause) next) = (outcomes ≡ []) × (place ≡ Say (Err cause) next)
Within outcomes place (Hear codes next) =
    ((outcomes ≡ []) × (place ≡ Hear codes next)) ⊎ ((heard : Result Response FtpError) × MayHear heard × Within outcomes place (next heard))
Within outcomes place (Look end next) =
    ((outcomes ≡ []) × (place ≡ Look end next)) ⊎ ((address : SocketAddr) × Within outcomes place (next address))
Within outcomes place (Ask request next) =
    ((outcomes ≡ []) × (place ≡ Ask request next)) ⊎ ((answer : RequestOutcome) × (later : List NetOutcome) × (outcomes ≡ Answered answer ∷ later) × Within later place (next answer))
Within outcomes place (Build address next) =
    ((outcomes ≡ []) × (place ≡ Build address next)) ⊎ ((fault : Option FtpError) × (later : List NetOutcome) × (outcomes ≡ Built fault ∷ later) × Within later place (next fault))
Within outcomes place (Secure next) =
    ((outcomes ≡ []) × (place ≡ Secure next)) ⊎ ((fault : Option FtpError) × (later : List NetOutcome) × (outcomes ≡ Secured fault ∷ later) × Within later place (next fault))
Within outcomes place (Move movement next) =
    ((outcomes ≡ []) × (place ≡ Move movement next)) ⊎ ((came : NetOutcome) × (later : List NetOutcome) × (outcomes ≡ came ∷ later) × Within later place (next came))
Within outcomes place (Leaf answer state) = (outcomes ≡ []) × (place ≡ Leaf answer state)
