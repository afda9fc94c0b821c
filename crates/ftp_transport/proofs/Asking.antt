-- Lemmas on what a transport was asked.
use Rattle.std.proofs.Common.{◌≡◌, ◌<◌, ◌+◌, ℕ, Option, List, [], ◌∷◌, ◌++◌, length, drop, get_or, refl, sym, ap, subst, ◌∙◌, append_assoc, append-nil}
use Rattle.std.proofs.lemmas.List.{drop_more}
use Rattle.std.specs.declared.net.socket_addr.SocketAddr.{SocketAddr}
use Rattle.std.specs.declared.time.Duration.{Duration}
use Rattle.ftp_base.specs.declared.types.fault.ConnectionError.{ConnectionError}
use Rattle.ftp_transport.specs.declared.request.Asked.{Asked}
use Rattle.ftp_transport.specs.declared.request.Request.{Request}
use Rattle.ftp_transport.specs.declared.request.Request.TheVariants.{Connect}
use Rattle.ftp_transport.specs.declared.request.RequestOutcome.TheVariants.{Refused}
use Rattle.ftp_transport.specs.declared.supply.Supply.{Supply}
use Rattle.ftp_transport.specs.Memory.{address_of, addresses_of}
use Rattle.ftp_transport.specs.Asking.{requests_of, outcomes_of, connects_to, recorded, IsDue, AreRefused, RefusedInTurn}

pub requests-append : (a b : List Asked) → requests_of (a ++ b) ≡ requests_of a ++ requests_of b
requests-append [] b = refl
requests-append (one ∷ a) b = ap (λ l. one.request ∷ l) (requests-append a b)

pub outcomes-append : (a b : List Asked) → outcomes_of (a ++ b) ≡ outcomes_of a ++ outcomes_of b
outcomes-append [] b = refl
outcomes-append (one ∷ a) b = ap (λ l. one.outcome ∷ l) (outcomes-append a b)

addresses-append : (a b : List Asked) → addresses_of (a ++ b) ≡ addresses_of a ++ addresses_of b
addresses-append [] b = refl
addresses-append (one ∷ a) b = ap (λ l. address_of one.request ++ l) (addresses-append a b) ∙ sym (append_assoc (address_of one.request) (addresses_of a) (addresses_of b))

-- one request more has its address after those of before, or none
pub asked_more : (items : List Asked) (one : Asked) (before after : List SocketAddr) → before ≡ addresses_of items → after ≡ before ++ address_of one.request → after ≡ addresses_of (items ++ one ∷ [])
asked_more items one before after is more =
    more ∙ ap (λ l. l ++ address_of one.request) is ∙ ap (λ l. addresses_of items ++ l) (sym (append-nil (address_of one.request))) ∙ sym (addresses-append items (one ∷ []))

pub asked_beside : (items : List Asked) (one : Asked) (before : List SocketAddr) → before ≡ addresses_of items → address_of one.request ≡ [] → before ≡ addresses_of (items ++ one ∷ [])
asked_beside items one before is none = asked_more items one before before is (sym (append-nil before) ∙ ap (λ l. before ++ l) (sym none))

module _ (refuses : List Supply → ConnectionError → Type 0) where
  -- one more was refused
  refused_more : (answered : List Asked) (one : Asked) (fault last cause : ConnectionError) (before between after : List Supply) → AreRefused refuses answered fault last before between → one.outcome ≡ Refused cause → IsDue refuses cause between after → AreRefused refuses (answered ++ one ∷ []) fault cause before after
  refused_more [] one fault last cause before between after refused is due =
      let P : List Supply → Type 0 = λ b. IsDue refuses cause b after in
      (cause, after, is, subst P refused.1 due, (refl, refl))
  refused_more (first ∷ answered) one fault last cause before between after refused is due =
      (refused.0, refused.1, refused.2, refused.3, refused_more answered one refused.0 last cause refused.1 between after refused.4 is due)

  -- the next request was refused, too
  pub refused_next : (requests left : List Request) (request : Request) (fault last cause : ConnectionError) (ready due ready' : List Supply) (asked before asked' : List Asked) → RefusedInTurn refuses requests (request ∷ left) fault last ready due asked before → asked' ≡ recorded request (Refused cause) before → IsDue refuses cause due ready' → RefusedInTurn refuses requests left fault cause ready ready' asked asked'
  refused_next requests left request fault last cause ready due ready' asked before asked' so_far recorded_is is_due =
      let one : Asked = record { request = request; outcome = Refused cause } in
      record {
        answered = so_far.answered ++ one ∷ [];
        in_order = so_far.in_order ∙ sym (append_assoc (requests_of so_far.answered) (request ∷ []) left) ∙ ap (λ l. l ++ left) (sym (requests-append so_far.answered (one ∷ [])));
        refused = refused_more so_far.answered one fault last cause ready due ready' so_far.refused refl is_due;
        recorded_are = recorded_is ∙ ap (λ l. l ++ one ∷ []) so_far.recorded_are ∙ append_assoc asked so_far.answered (one ∷ []);
      }

  -- the next address was refused, too
  pub refused_another : (requests : List Request) (limit : Option Duration) (addresses : List SocketAddr) (i : ℕ) (d : SocketAddr) (fault last cause : ConnectionError) (ready due ready' : List Supply) (asked before asked' : List Asked) → i < length addresses → RefusedInTurn refuses requests (connects_to limit (drop i addresses)) fault last ready due asked before → asked' ≡ recorded (Connect (get_or addresses i d) limit) (Refused cause) before → IsDue refuses cause due ready' → RefusedInTurn refuses requests (connects_to limit (drop (i + 1) addresses)) fault cause ready ready' asked asked'
  refused_another requests limit addresses i d fault last cause ready due ready' asked before asked' inside so_far recorded_is is_due =
      let P : List SocketAddr → Type 0 = λ l. RefusedInTurn refuses requests (connects_to limit l) fault last ready due asked before in
      let split : drop i addresses ≡ get_or addresses i d ∷ drop (i + 1) addresses = drop_more addresses i d inside in
      refused_next requests (connects_to limit (drop (i + 1) addresses)) (Connect (get_or addresses i d) limit) fault last cause ready due ready' asked before asked' (subst P split so_far) recorded_is is_due
