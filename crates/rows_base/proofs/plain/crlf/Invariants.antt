use Rattle.std.proofs.Common.{◌≡◌, take}
use Rattle.std.specs.List.{flat_map, enumerate_from}
use Rattle.ftp_base.specs.Ascii.{on_wire, follows_return}
use Rattle.rows_base.proofs.plain.crlf.Given as goal

abbrev pub invariant-loop-place : goal.invariant-loop-place
invariant-loop-place l =
    l.wire.items ≡ flat_map (λ p. on_wire (follows_return l.bytes p.0) p.1) (take l.place (enumerate_from 0 l.bytes))
