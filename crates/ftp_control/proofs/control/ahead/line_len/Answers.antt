use Rattle.std.proofs.Common.{◌≡◌, ◌+◌, ◌-◌, suc, length, arith}
use Rattle.ftp_control.proofs.Ahead.{piece}
use Rattle.ftp_control.proofs.control.ahead.line_len.Goals as goal

pub returns-in-Some-clause-piece : goal.returns-in-Some-clause-piece
returns-in-Some-clause-piece c =
    let found = c.in-Some.ensures in
    let next : suc c.in-Some.place ≡ c.in-Some.place + 1 = omega arith in
    rw (← next) (piece c.args.bytes.now c.in-Some.place found.0.high (λ i low. found.0.before i (omega arith) low))

pub returns-in-None-clause-piece : goal.returns-in-None-clause-piece
returns-in-None-clause-piece c =
    let next : suc (length c.args.bytes.now - 1) ≡ length c.args.bytes.now = omega (arith, c.requires) in
    rw (← next) (piece c.args.bytes.now (length c.args.bytes.now - 1) (omega (arith, c.requires)) (λ i low. c.in-None.ensures i (omega arith) (omega (arith, low))))
