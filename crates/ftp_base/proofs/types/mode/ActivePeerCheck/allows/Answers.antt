use Rattle.std.proofs.Common.{rules, tests, ◌≡◌, Bool, List, Any}
use Rattle.std.specs.Bool.{Decides}
use Rattle.std.specs.List.{list_any}
use Rattle.std.specs.declared.net.ip_addr.IpAddr.{IpAddr}
use Rattle.std.proofs.lemmas.Bool.Decides.{Decides-at}
use Rattle.std.proofs.lemmas.Iterator.{YieldsList-from_slice}
use Rattle.std.proofs.lemmas.Iterator.Search.{any_from_yields_List}
use Rattle.std.proofs.lemmas.List.Folds.{Any-from_list_any, list_any-from_Any}
use Rattle.std.proofs.lemmas.Slice.Eq.{bytes_eq-Decides}
use Rattle.ftp_base.specs.Peer.{canonical, is_same_address}
use Rattle.ftp_base.proofs.types.mode.ActivePeerCheck.allows.Goals as goal

-- the test of two addresses tells whether they are canonically the same
same_address : (one other : IpAddr) → Decides (is_same_address one other) (canonical one ≡ canonical other)
same_address one other = search (rules, tests, bytes_eq-Decides)

-- the test of a list tells whether one of its addresses is canonically the peer's
listed : (addresses : List IpAddr) (peer : IpAddr) → Decides (list_any (λ address. is_same_address address peer) addresses) (Any (λ address. canonical address ≡ canonical peer) addresses)
listed addresses peer = (
  λ t. let found = Any-from_list_any (λ address. is_same_address address peer) addresses t in
      (found.0, found.1, found.2, found.3, (same_address found.1 peer).0 found.4),
  λ found. list_any-from_Any (λ address. is_same_address address peer) addresses (found.0, found.1, found.2, found.3, (same_address found.1 peer).1 found.4),
)

pub returns-in-Allow : goal.returns-in-Allow
returns-in-Allow c =
    let addresses = c.in-Allow.addresses in
    let same : IpAddr → Bool = λ address. is_same_address address c.args.peer in
    let is : c.any.result ≡ list_any same addresses = any_from_yields_List same _ _ c.any.result c.any.ensures.ran (YieldsList-from_slice addresses cc) (λ x b q k. search (rules, tests)) in
    rw c.in-Allow.is (record { allowed = Decides-at c.any.result (list_any same addresses) is (listed addresses c.args.peer); value = is })
