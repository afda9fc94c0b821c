-- What a connection records whose own calls fail, over that of the connection below.
use Rattle.std.specs.Prelude.{ℕ, Bool, false, List, [], ◌∷◌, Option, None}
use Rattle.std.specs.declared.io.ErrorKind.{ErrorKind}
use Rattle.ftp_transport.specs.Told.{Told}
use Rattle.ftp_transport.specs.declared.supply.Supply.{Supply}
use Rattle.ftp_transport.specs.declared.supply.Supply.TheVariants.{Connects, Peer, Refuses}

-- what went over the connection below, with the failures and the close that were counted here
abbrev pub recounted : Bool → ℕ → Option ErrorKind → Told → Told
recounted closed failures last t = record t { closed_here = closed; failures = failures; last_fault = last }

-- nothing was counted yet
abbrev pub uncounted : Told → Told
uncounted t = recounted false 0 None t

-- what was handed in below, as it comes from here
abbrev pub uncounted_supply : Supply → Supply
uncounted_supply (Connects conn) = Connects (uncounted conn)
uncounted_supply (Peer address conn) = Peer address (uncounted conn)
uncounted_supply (Refuses kind) = Refuses kind

abbrev pub uncounted_supplies : List Supply → List Supply
uncounted_supplies [] = []
uncounted_supplies (one ∷ more) = uncounted_supply one ∷ uncounted_supplies more
