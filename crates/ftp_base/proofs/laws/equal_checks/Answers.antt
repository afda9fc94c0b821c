use Rattle.std.proofs.Common.{rules, ◌≡◌, ◌∙◌, refl, sym, ap, List}
use Rattle.std.specs.Bool.{Decides}
use Rattle.std.proofs.lemmas.Slice.Eq.{slice_eq-Decides}
use Rattle.std.specs.declared.net.ip_addr.IpAddr.{IpAddr}
use Rattle.std.specs.declared.net.ip_addr.IpAddr.TheVariants.{V4, V6}
use Rattle.std.specs.contracts.net.ip_addr.IpAddrPartialEq.TheImpl.{ghosts as addresses}
use Rattle.ftp_base.specs.contracts.types.mode.ActivePeerCheckPartialEq.TheImpl.{ghosts as checks}
use Rattle.ftp_base.specs.declared.types.mode.ActivePeerCheck.{ActivePeerCheck}
use Rattle.ftp_base.specs.declared.types.mode.ActivePeerCheck.TheVariants.{ControlPeer, Any, Allow}
use Rattle.ftp_base.proofs.laws.equal_checks.Goals as goal

-- equal addresses are the same
address_same : (a b : IpAddr) → Decides (addresses.eq a b) (a ≡ b)
address_same (V4 a) (V4 b) = search rules
address_same (V4 a) (V6 b) = (λ t. (cc), λ e. (cc))
address_same (V6 a) (V4 b) = (λ t. (cc), λ e. (cc))
address_same (V6 a) (V6 b) = search rules

-- equal lists of addresses are the same
addresses_same : (xs ys : List IpAddr) → Decides (checks.eq (Allow xs) (Allow ys)) (xs ≡ ys)
addresses_same xs ys = slice_eq-Decides address_same xs ys _ refl

check_same : (a b : ActivePeerCheck) → Decides (checks.eq a b) (a ≡ b)
check_same ControlPeer ControlPeer = (λ _. refl, λ _. refl)
check_same ControlPeer Any = (λ t. (cc), λ e. (cc))
check_same ControlPeer (Allow ys) = (λ t. (cc), λ e. (cc))
check_same Any ControlPeer = (λ t. (cc), λ e. (cc))
check_same Any Any = (λ _. refl, λ _. refl)
check_same Any (Allow ys) = (λ t. (cc), λ e. (cc))
check_same (Allow xs) ControlPeer = (λ t. (cc), λ e. (cc))
check_same (Allow xs) Any = (λ t. (cc), λ e. (cc))
check_same (Allow xs) (Allow ys) = (λ t. ap Allow ((addresses_same xs ys).0 t), λ e. (addresses_same xs ys).1 (cc))

pub returns : goal.returns
returns c =
    let same : Decides (checks.eq c.args.one.now c.args.other.now) (c.args.one.now ≡ c.args.other.now) = check_same c.args.one.now c.args.other.now in
    (λ t. same.0 (sym c.eq.ensures ∙ t), λ e. c.eq.ensures ∙ same.1 e)
