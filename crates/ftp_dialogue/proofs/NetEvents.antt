-- Lemmas on what stands beside the control connection.
use Rattle.std.proofs.lemmas.Bool.{eqb-true}
use Rattle.std.proofs.Common.{◌≡◌, ℕ, true, false, cond, eqb, arith, length, List, [], ◌∷◌, ◌++◌, map, Option, Some, None, option_map, refl, ap, sym, ◌∙◌, append-nil, subst, inl, inr}
use Rattle.ftp_transport.proofs.Asking.{requests-append}
use Rattle.ftp_transport.specs.Asking.{requests_of}
use Rattle.ftp_transport.specs.Told.{Told, after_end, after_read, begun}
use Rattle.ftp_transport.specs.declared.request.Asked.{Asked}
use Rattle.ftp_transport.specs.declared.supply.Supply.{Supply}
use Rattle.ftp_transport.specs.declared.request.Request.{Request}
use Rattle.ftp_transport.specs.declared.request.Request.TheVariants.{Connect, Listen, Accept, Build}
use Rattle.ftp_transport.specs.declared.request.RequestOutcome.{RequestOutcome}
use Rattle.ftp_transport.specs.declared.request.RequestOutcome.TheVariants.{Done, Address, Refused}
use Rattle.std.specs.declared.net.socket_addr.SocketAddr.{SocketAddr}
use Rattle.ftp_base.specs.declared.types.fault.FtpError.{FtpError}
use Rattle.ftp_calls.specs.declared.exchange.Movement.{Movement}
use Rattle.ftp_calls.specs.declared.exchange.Movement.TheVariants as movement
use Rattle.ftp_dialogue.specs.declared.model.NetOutcome.{NetOutcome}
use Rattle.ftp_dialogue.specs.declared.model.NetOutcome.TheVariants.{Answered, Built, Secured, Read, Wrote, Closed, Failed, NoMemory}
use Rattle.ftp_dialogue.specs.NetEvents.{Net, NetEvent, Requested, Constructed, Handshook, HandshookIs, Moved, Parted, Dropped, BuiltIs, ClosesBy, ClosesFrom, CloseIs, ConstructedIs, DataIs, DataTells, NetEvents, MovementIs, ReadIs, RequestIs, WriteIs, constructed, data_after, data_built, net_record_of, after_request, moved, outcomes_of, parted, read_more, secured, traffic_of, written_more, settled}
use Rattle.ftp_dialogue.specs.Link.{Beside}
use Rattle.ftp_dialogue.specs.declared.model.NetRecord.{NetRecord}
use Rattle.ftp_dialogue.specs.declared.model.Traffic.{Traffic}
use Rattle.ftp_dialogue.specs.declared.state.Owed.{Owed}
use Rattle.ftp_dialogue.specs.declared.state.Owed.TheVariants.{Nothing, Live, Left}
use Rattle.ftp_dialogue.specs.State.{SessionValue, LetsGo, LetsGoBeside}

pub outcomes-append : (a b : List NetEvent) → outcomes_of (a ++ b) ≡ outcomes_of a ++ outcomes_of b
outcomes-append [] b = refl
outcomes-append (Requested request outcome ∷ a) b = ap (λ l. Answered outcome ∷ l) (outcomes-append a b)
outcomes-append (Constructed address fault ∷ a) b = ap (λ l. Built fault ∷ l) (outcomes-append a b)
outcomes-append (Handshook fault ∷ a) b = ap (λ l. Secured fault ∷ l) (outcomes-append a b)
outcomes-append (Moved movement outcome ∷ a) b = ap (λ l. outcome ∷ l) (outcomes-append a b)
outcomes-append (Parted ∷ a) b = outcomes-append a b
outcomes-append (Dropped ∷ a) b = outcomes-append a b

-- one after another
pub net_events-append : (beside : Beside) (a b : List NetEvent) (n m k : Net) → NetEvents beside a n m → NetEvents beside b m k → NetEvents beside (a ++ b) n k
net_events-append beside [] b n m k same second = (let P : Net → Type 0 = λ x. NetEvents beside b x k in subst P same second)
net_events-append beside (net_event ∷ a) b n m k first second = (first.0, first.1, net_events-append beside a b first.0 m k first.2 second)

-- the data connection after a request is what the definition says
data_after_request : (request : Request) (outcome : RequestOutcome) (n m : Net) → DataIs request outcome n m → option_map traffic_of m.data_conn ≡ data_after request outcome (option_map traffic_of n.data_conn)
data_after_request (Connect address limit) Done n m is = ap (option_map traffic_of) is.2
data_after_request (Connect address limit) (Address other) n m is = ap (option_map traffic_of) is
data_after_request (Connect address limit) (Refused fault) n m is = ap (option_map traffic_of) is
data_after_request (Listen address) outcome n m is = ap (option_map traffic_of) is.0
data_after_request (Accept deadline) Done n m is = ap (option_map traffic_of) is
data_after_request (Accept deadline) (Address from) n m is = ap (option_map traffic_of) is.2
data_after_request (Accept deadline) (Refused fault) n m is = ap (option_map traffic_of) is
data_after_request (Build address) outcome n m is = ap (option_map traffic_of) is.0

pub net_record_after_request : (request : Request) (outcome : RequestOutcome) (n m : Net) → RequestIs request outcome n m → net_record_of m ≡ after_request request outcome (net_record_of n)
net_record_after_request request outcome n m is =
    let asked : requests_of m.asked ≡ requests_of n.asked ++ request ∷ [] = ap requests_of is.asked ∙ requests-append n.asked ((record { request = request; outcome = outcome }) ∷ []) in
    let A : List Request → NetRecord = λ a. record { asked = a; closed = map traffic_of m.closed; data_conn = option_map traffic_of m.data_conn } in
    let C : List Told → NetRecord = λ c. record { asked = requests_of n.asked ++ request ∷ []; closed = map traffic_of c; data_conn = option_map traffic_of m.data_conn } in
    let D : Option Traffic → NetRecord = λ d. record { asked = requests_of n.asked ++ request ∷ []; closed = map traffic_of n.closed; data_conn = d } in
    ap A asked ∙ ap C is.closed ∙ ap D (data_after_request request outcome n m is.data_is)

-- the data connection after the builder was asked is what the definition says
data_constructed : (beside : Beside) (address : SocketAddr) (fault : Option FtpError) (n m : Net) → BuiltIs beside address fault n m → option_map traffic_of m.data_conn ≡ data_built fault (option_map traffic_of n.data_conn)
data_constructed beside address None n m is = ap (option_map traffic_of) is.2
data_constructed beside address (Some fault) n m is = ap (option_map traffic_of) is.1

pub net_record_constructed : (beside : Beside) (address : SocketAddr) (fault : Option FtpError) (n m : Net) → ConstructedIs beside address fault n m → net_record_of m ≡ constructed address fault (net_record_of n)
net_record_constructed beside address fault n m is =
    let asked : requests_of m.asked ≡ requests_of n.asked ++ Build address ∷ [] = ap requests_of is.asked ∙ requests-append n.asked ((record { request = Build address; outcome = Done }) ∷ []) in
    let A : List Request → NetRecord = λ a. record { asked = a; closed = map traffic_of m.closed; data_conn = option_map traffic_of m.data_conn } in
    let C : List Told → NetRecord = λ c. record { asked = requests_of n.asked ++ Build address ∷ []; closed = map traffic_of c; data_conn = option_map traffic_of m.data_conn } in
    let D : Option Traffic → NetRecord = λ d. record { asked = requests_of n.asked ++ Build address ∷ []; closed = map traffic_of n.closed; data_conn = d } in
    ap A asked ∙ ap C is.closed ∙ ap D (data_constructed beside address fault n m is.built)

-- what a handshake leaves is what the definition says
pub net_record_handshook : (beside : Beside) (fault : Option FtpError) (n m : Net) → HandshookIs beside fault n m → net_record_of m ≡ secured fault (net_record_of n)
net_record_handshook beside None n m is = ap net_record_of is.2
net_record_handshook beside (Some fault) n m is = ap net_record_of is.1

-- What is done on the data connection

-- what a read tells is what the definition says
read_traffic : (most : ℕ) (outcome : NetOutcome) (t u : Told) → ReadIs most outcome t u → traffic_of u ≡ read_more outcome (traffic_of t)
read_traffic most (Read []) t u is = ap traffic_of is.1 ∙ ap (λ r. record (traffic_of t) { received = r }) (sym (append-nil t.received))
read_traffic most (Read (b ∷ bytes)) t u is =
    elim (eqb (length (b ∷ bytes)) 0) as (λ e. eqb (length (b ∷ bytes)) 0 ≡ e → u ≡ cond e (after_end t) (after_read (b ∷ bytes) t) → traffic_of u ≡ read_more (Read (b ∷ bytes)) (traffic_of t)) [
      | true ↦ λ e same. (let clash : ⊥ = omega (arith, eqb-true (length (b ∷ bytes)) 0 e) in absurd clash)
      | false ↦ λ e same. ap traffic_of same
    ] refl is.1
read_traffic most (Failed kind) t u is = ap traffic_of is.same
read_traffic most NoMemory t u (inl same) = ap traffic_of same
read_traffic most NoMemory t u (inr ended) = ap traffic_of ended
read_traffic most (Answered outcome) t u is = absurd is
read_traffic most (Built fault) t u is = absurd is
read_traffic most (Secured fault) t u is = absurd is
read_traffic most (Wrote count) t u is = absurd is
read_traffic most Closed t u is = absurd is

written_traffic : (bytes : List ℕ) (outcome : NetOutcome) (t u : Told) → WriteIs bytes outcome t u → traffic_of u ≡ written_more bytes outcome (traffic_of t)
written_traffic bytes (Wrote count) t u is = ap traffic_of is.2
written_traffic bytes (Failed kind) t u is = ap traffic_of is.same
written_traffic bytes other t u is = absurd is

closed_traffic : (outcome : NetOutcome) (t u : Told) → CloseIs outcome t u → traffic_of u ≡ traffic_of t
closed_traffic Closed t u is = ap traffic_of is
closed_traffic (Failed kind) t u is = ap traffic_of is.same
closed_traffic other t u is = absurd is

map-snoc : (l : List Told) (t : Told) → map traffic_of (l ++ t ∷ []) ≡ map traffic_of l ++ traffic_of t ∷ []
map-snoc [] t = refl
map-snoc (x ∷ l) t = ap (λ m. traffic_of x ∷ m) (map-snoc l t)

told_more : (Tells : Told → Told → Type 0) (more : Traffic → Traffic) (n m : Net) → ((t u : Told) → Tells t u → traffic_of u ≡ more (traffic_of t)) → DataTells Tells n m → net_record_of m ≡ record (net_record_of n) { data_conn = option_map more (option_map traffic_of n.data_conn) }
told_more Tells more n m tells is =
    let D : Option Traffic → NetRecord = λ d. record (net_record_of n) { data_conn = d } in
    ap net_record_of is.3 ∙ ap D (ap Some (tells is.0 is.1 is.4) ∙ ap (λ c. option_map more (option_map traffic_of c)) (sym is.2))

closes_from : (outcome : NetOutcome) (conn : Option Told) (n m : Net) → n.data_conn ≡ conn → ClosesFrom outcome conn n m → net_record_of m ≡ parted (net_record_of n)
closes_from outcome None n m none is =
    let P : Option Told → Type 0 = λ c. net_record_of (record n { data_conn = c }) ≡ parted (net_record_of (record n { data_conn = c })) in
    let same : n.data_conn ≡ None = none in
    ap net_record_of is ∙ subst P (sym same) refl
closes_from outcome (Some t) n m some is =
    let C : List Traffic → NetRecord = λ c. record { asked = requests_of n.asked; closed = c; data_conn = None } in
    let D : Option Told → NetRecord = λ c. parted (record (net_record_of n) { data_conn = option_map traffic_of c }) in
    ap net_record_of is.1
    ∙ ap C (map-snoc n.closed is.0 ∙ ap (λ x. map traffic_of n.closed ++ x ∷ []) (closed_traffic outcome t is.0 is.2))
    ∙ ap D (sym some)

pub net_record_parted : (outcome : NetOutcome) (n m : Net) → ClosesBy outcome n m → net_record_of m ≡ parted (net_record_of n)
net_record_parted outcome n m is = closes_from outcome n.data_conn n m refl is

pub net_record_moved : (moves : Movement) (outcome : NetOutcome) (n m : Net) → MovementIs moves outcome n m → net_record_of m ≡ moved moves outcome (net_record_of n)
net_record_moved (movement.Read most) outcome n m is = told_more (ReadIs most outcome) (read_more outcome) n m (read_traffic most outcome) is.1
net_record_moved (movement.Write bytes) outcome n m is = told_more (WriteIs bytes outcome) (written_more bytes outcome) n m (written_traffic bytes outcome) is.1
net_record_moved movement.Close outcome n m is = net_record_parted outcome n m is.1

-- a call is done: what happens to its data connection
abbrev pub drops : Owed → List NetEvent
drops Nothing = Dropped ∷ []
drops (Live number) = []
drops (Left number) = Parted ∷ []

pub drops_none : (owed : Owed) → outcomes_of (drops owed) ≡ []
drops_none Nothing = refl
drops_none other = refl

module _ (tells : Type 0) (v w : SessionValue) where
  -- nothing else happens
  pub letting_beside : LetsGo tells v w → w ≡ record v { net = w.net }
  letting_beside is = go v.state.counts.owed is
    where
      net_of : (n : Net) → w ≡ record v { net = n } → w ≡ record v { net = w.net }
      net_of n same = let N : Net → SessionValue = λ x. record v { net = x } in same ∙ ap N (sym (ap (λ x. x.net) same))

      go : (owed : Owed) → LetsGoBeside owed tells v w → w ≡ record v { net = w.net }
      go Nothing same = net_of (record v.net { data_conn = None }) same
      go (Live number) same = net_of v.net same
      go (Left number) parts = parts.0

  pub letting_net_events : (beside : Beside) → tells → LetsGo tells v w → NetEvents beside (drops v.state.counts.owed) v.net w.net
  letting_net_events beside h is = go v.state.counts.owed is
    where
      go : (owed : Owed) → LetsGoBeside owed tells v w → NetEvents beside (drops owed) v.net w.net
      go Nothing same = (w.net, ap (λ x. x.net) same, refl)
      go (Live number) same = ap (λ x. x.net) same
      go (Left number) parts = (w.net, parts.1 h, refl)

  pub letting_settles : tells → LetsGo tells v w → net_record_of w.net ≡ settled v.state.counts.owed (net_record_of v.net)
  letting_settles h is = go v.state.counts.owed is
    where
      go : (owed : Owed) → LetsGoBeside owed tells v w → net_record_of w.net ≡ settled owed (net_record_of v.net)
      go Nothing same = ap (λ x. net_record_of x.net) same
      go (Live number) same = ap (λ x. net_record_of x.net) same
      go (Left number) parts = let closed = parts.1 h in net_record_parted closed.0 v.net w.net closed.1

-- what stands beside the control connection stays where all of it does
pub same_net : (n m : Net) → m.asked ≡ n.asked → m.ready ≡ n.ready → m.closed ≡ n.closed → m.data_conn ≡ n.data_conn → m ≡ n
same_net n m asked ready closed same =
    let A : List Asked → Net = λ x. record m { asked = x } in
    let R : List Supply → Net = λ x. record { asked = n.asked; ready = x; closed = m.closed; data_conn = m.data_conn } in
    let C : List Told → Net = λ x. record { asked = n.asked; ready = n.ready; closed = x; data_conn = m.data_conn } in
    let D : Option Told → Net = λ x. record n { data_conn = x } in
    ap A asked ∙ ap R ready ∙ ap C closed ∙ ap D same

-- the data connection that came, of which nothing was read or written yet
pub is_next : (now told : Told) → now ≡ begun told → Some now ≡ Some (begun told)
is_next now told is = ap Some is
