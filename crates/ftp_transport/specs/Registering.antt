-- Who is asked to register a task.
use Rattle.std.specs.Prelude.{◌≡◌, List, [], ◌∷◌}
use Rattle.futures.specs.declared.task.context.Context.{Context}
use Rattle.ftp_transport.specs.Told.{Told}
use Rattle.ftp_transport.specs.Waits.{first_over}
use Rattle.ftp_transport.specs.declared.waiting.Waiting.{Waiting}
use Rattle.ftp_transport.specs.declared.waiting.Waiting.TheVariants.{Nothing}

-- what a session may wait for: a connection that recorded this; the transport's connect; its TLS handshake; or a peer
pub data Part : Type 0 where
  Connection : Told → Part
  Connect : Part
  Handshake : Part
  Peer : Part

-- what asks, the part that it asks, the task before, the answer, the task afterwards, and what asks afterwards
abbrev pub Asking : Type 0 → Type 1
Asking G = G → Part → Context → Waiting → Context → G → Type 0

-- each of these parts is asked once, in this order, with the task as the one before left it, and nothing else is done to
-- the task; the wait is over where it is over at one of them, else the task is registered where it is at one
abbrev pub AskInTurn : {G : Type 0} → Asking G → List Part → G → Context → Waiting → Context → G → Type 0
AskInTurn asks [] g task waiting task' g' = (g' ≡ g) × (waiting ≡ Nothing) × (task' ≡ task)
AskInTurn asks (part ∷ parts) g task waiting task' g' =
    (h : _) × (between : Context) × (one : Waiting) × (others : Waiting)
    × asks g part task one between h × (waiting ≡ first_over one others) × AskInTurn asks parts h between others task' g'
