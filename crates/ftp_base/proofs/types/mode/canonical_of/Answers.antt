use Rattle.std.specs.Prelude.{ℕ}
use Rattle.std.specs.declared.net.ip_addr.IpAddr.{IpAddr}
use Rattle.std.specs.declared.net.ip_addr.IpAddr.TheVariants.{V4, V6}
use Rattle.std.specs.Net.Addr.{MatchIp, IsCanonicalOf, ipv6_segments}
use Rattle.std.proofs.Common.{◌≡◌, Bool, true, false, List, [], ◌∷◌, take, refl, ap}
use Rattle.std.specs.Bool.{Decides}
use Rattle.std.proofs.lemmas.Slice.Eq.{bytes_eq-Decides}
use Rattle.ftp_base.specs.Peer.{as_written, canonical}
use Rattle.ftp_base.proofs.types.mode.canonical_of.Goals as goal

-- how the segments of an IPv4-mapped address begin
abbrev mapped : List ℕ
mapped = 0 ∷ 0 ∷ 0 ∷ 0 ∷ 0 ∷ 65535 ∷ []

-- a test of what fails is false
test_fails : (b : Bool) (P : Type 0) → Decides b P → ¬ P → b ≡ false
test_fails true P decides fails = absurd (fails (decides.0 refl))
test_fails false P decides fails = refl

-- what std calls the canonical address is the canonical one
is_canonical : (address result : IpAddr) → MatchIp address (λ ip. result ≡ address) (λ ip. IsCanonicalOf ip result) → as_written result ≡ canonical address
is_canonical (V4 ip) result same = ap as_written same
is_canonical (V6 ip) (V4 inner) is = rw ((bytes_eq-Decides (take 6 (ipv6_segments ip)) mapped).1 is.0) (ap (λ (octets : List ℕ). (4, octets)) is.1)
is_canonical (V6 ip) (V6 other) is = rw (test_fails _ _ (bytes_eq-Decides (take 6 (ipv6_segments ip)) mapped) is.0) (ap (λ x. (6, ipv6_segments x)) is.1)

pub returns : goal.returns
returns c = is_canonical c.args.address c.to_canonical.result c.to_canonical.ensures
