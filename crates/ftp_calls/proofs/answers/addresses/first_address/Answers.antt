use Rattle.std.proofs.Common.{◌∙◌, refl, sym, ap, arith}
use Rattle.std.specs.Net.Addr.{ipv4_octets}
use Rattle.std.specs.declared.net.ipv4_addr.Ipv4Addr.{Ipv4Addr}
use Rattle.ftp_calls.proofs.AddressFacts.{absent_address, no_octet, socket_is, address_is}
use Rattle.ftp_calls.proofs.answers.addresses.first_address.Goals as goal

pub returns-in_err-first : goal.returns-in_err-first
returns-in_err-first c = c.from_residual.ensures ∙ absent_address c.args.text.now c.in_err-first.ensures

pub returns-in_err-octet : goal.returns-in_err-octet
returns-in_err-octet c =
    c.from_residual-in_err-octet.ensures
    ∙ no_octet c.args.text.now c.in_ok-first.field-0 0 c.in_ok-first.ensures (omega arith) (λ low high. sym c.in_err-octet.was ∙ c.octet.ensures low high)

pub returns-in_err-octet-2 : goal.returns-in_err-octet-2
returns-in_err-octet-2 c =
    c.from_residual-in_err-octet-2.ensures
    ∙ no_octet c.args.text.now c.in_ok-first.field-0 1 c.in_ok-first.ensures (omega arith) (λ low high. sym c.in_err-octet-2.was ∙ c.octet-2.ensures low high)

pub returns-in_err-octet-3 : goal.returns-in_err-octet-3
returns-in_err-octet-3 c =
    c.from_residual-in_err-octet-3.ensures
    ∙ no_octet c.args.text.now c.in_ok-first.field-0 2 c.in_ok-first.ensures (omega arith) (λ low high. sym c.in_err-octet-3.was ∙ c.octet-3.ensures low high)

pub returns-in_err-octet-4 : goal.returns-in_err-octet-4
returns-in_err-octet-4 c =
    c.from_residual-in_err-octet-4.ensures
    ∙ no_octet c.args.text.now c.in_ok-first.field-0 3 c.in_ok-first.ensures (omega arith) (λ low high. sym c.in_err-octet-4.was ∙ c.octet-4.ensures low high)

pub returns-in_err-octet-5 : goal.returns-in_err-octet-5
returns-in_err-octet-5 c =
    c.from_residual-in_err-octet-5.ensures
    ∙ no_octet c.args.text.now c.in_ok-first.field-0 4 c.in_ok-first.ensures (omega arith) (λ low high. sym c.in_err-octet-5.was ∙ c.octet-5.ensures low high)

pub returns-in_err-octet-6 : goal.returns-in_err-octet-6
returns-in_err-octet-6 c =
    c.from_residual-in_err-octet-6.ensures
    ∙ no_octet c.args.text.now c.in_ok-first.field-0 5 c.in_ok-first.ensures (omega arith) (λ low high. sym c.in_err-octet-6.was ∙ c.octet-6.ensures low high)

pub returns : goal.returns
returns c =
    let made = c.new.ensures in
    socket_is c.new.result (ap (λ (ip : Ipv4Addr). ipv4_octets ip) made.ip ∙ c.new-ip.ensures) (made.port ∙ (let high = c.from.ensures in let low = c.from-2.ensures in rw (high, low) refl))
    ∙ address_is c.args.text.now c.in_ok-first.field-0 c.in_ok-octet.field-0 c.in_ok-octet-2.field-0 c.in_ok-octet-3.field-0 c.in_ok-octet-4.field-0 c.in_ok-octet-5.field-0 c.in_ok-octet-6.field-0
    c.in_ok-first.ensures
    (λ low high. sym c.in_ok-octet.was ∙ c.octet.ensures low high)
    (λ low high. sym c.in_ok-octet-2.was ∙ c.octet-2.ensures low high)
    (λ low high. sym c.in_ok-octet-3.was ∙ c.octet-3.ensures low high)
    (λ low high. sym c.in_ok-octet-4.was ∙ c.octet-4.ensures low high)
    (λ low high. sym c.in_ok-octet-5.was ∙ c.octet-5.ensures low high)
    (λ low high. sym c.in_ok-octet-6.was ∙ c.octet-6.ensures low high)
