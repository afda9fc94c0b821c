use Rattle.std.proofs.Common.{◌≡◌, ◌-◌, length, take, drop, arith, ◌∙◌, ap, length-take-le, length-drop}
use Rattle.ftp_control.proofs.Ahead.{consumed}
use Rattle.ftp_control.proofs.control.ahead.ReadAhead.consume.Goals as goal

pub returns : goal.returns
returns c =
    let a = c.self.inside in
    let all : length (take (a.end - a.start) (drop a.start a.buffer.items)) ≡ a.end - a.start = length-take-le (a.end - a.start) (drop a.start a.buffer.items) (omega (arith, c.self.invariant.1, length-drop a.start a.buffer.items)) in
    let seen : length (take (a.end - a.start) (drop a.start a.buffer.items)) ≡ length c.args.self.now = ap length c.self.view_is in
    consumed a.buffer.items a.start a.end c.args.count (omega (arith, c.requires, all, seen)) ∙ ap (drop c.args.count) c.self.view_is
