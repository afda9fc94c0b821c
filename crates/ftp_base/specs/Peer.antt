-- Which peers may open a data connection, by canonical addresses (RFC 4291, section 2.5.5.2).
use Rattle.std.specs.Prelude.{◌≡◌, ℕ, ◌==◌, Bool, true, ◌&&◌, List, [], ◌∷◌, bytes_eq, take, Any, if◌then◌else◌}
use Rattle.std.specs.List.{list_any}
use Rattle.std.specs.Net.Addr.{ipv4_octets, ipv6_segments, low_octets}
use Rattle.std.specs.declared.net.ip_addr.IpAddr.{IpAddr}
use Rattle.std.specs.declared.net.ip_addr.IpAddr.TheVariants.{V4, V6}
use Rattle.ftp_base.specs.declared.types.mode.ActivePeerCheck.{ActivePeerCheck}
use Rattle.ftp_base.specs.declared.types.mode.ActivePeerCheck.TheVariants.{ControlPeer, Any as AnyPeer, Allow}

-- an address as written: its family, and its four octets or its eight segments
abbrev pub as_written : IpAddr → ℕ × List ℕ
as_written (V4 ip) = (4, ipv4_octets ip)
as_written (V6 ip) = (6, ipv6_segments ip)

-- the canonical address: an IPv4-mapped IPv6 address is its IPv4 address, any other is as written
abbrev pub canonical : IpAddr → ℕ × List ℕ
canonical (V4 ip) = as_written (V4 ip)
canonical (V6 ip) =
    if bytes_eq (take 6 (ipv6_segments ip)) (0 ∷ 0 ∷ 0 ∷ 0 ∷ 0 ∷ 0xffff ∷ [])
    then (4, low_octets ip) else as_written (V6 ip)

-- a check allows a peer, beside the control connection's peer
abbrev pub IsAllowed : ActivePeerCheck → IpAddr → IpAddr → Type 0
IsAllowed ControlPeer peer control_peer = canonical peer ≡ canonical control_peer
IsAllowed AnyPeer peer control_peer = Unit {0}
IsAllowed (Allow addresses) peer control_peer =
    Any (λ address. canonical address ≡ canonical peer) addresses

-- the same address, both read canonically: of one family, with the same octets or segments
abbrev pub is_same_address : IpAddr → IpAddr → Bool
is_same_address one other =
    let a = canonical one in
    let b = canonical other in
    a.0 == b.0 && bytes_eq a.1 b.1

-- whether a check allows a peer
abbrev pub allows : ActivePeerCheck → IpAddr → IpAddr → Bool
allows ControlPeer peer control_peer = is_same_address peer control_peer
allows AnyPeer peer control_peer = true
allows (Allow addresses) peer control_peer = list_any (λ address. is_same_address address peer) addresses
