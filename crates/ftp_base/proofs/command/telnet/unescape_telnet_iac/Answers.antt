use Rattle.std.proofs.Common.{refl, ne_eqb}
use Rattle.ftp_base.proofs.TelnetLemmas.{paired_turn, alone_turn}
use Rattle.ftp_base.proofs.command.telnet.unescape_telnet_iac.Goals as goal
use Rattle.ftp_base.proofs.command.telnet.unescape_telnet_iac.Goals.{then-opens_pair+then-byte, else-opens_pair+in_ok-push, else-opens_pair-via-then-opens_pair+else-byte, else-opens_pair-via-else-opens_pair}

pub loop-byte-preserved : goal.loop-byte-preserved
loop-byte-preserved c =
    elim c.if-opens_pair.branch [
      | then-opens_pair+then-byte w ↦
          rw (w.plain-is, w.opens_pair-is)
          (paired_turn _ _ _ _ _ _ c.loop-byte-test.true refl c.loop-byte.invariant w.if-opens_pair.true w.if-byte.true)
      | else-opens_pair+in_ok-push w ↦
          rw (w.plain-is, w.in_ok-push.ensures.items, w.opens_pair-is)
          (alone_turn _ _ _ _ _ _ c.loop-byte-test.true refl c.loop-byte.invariant
          (elim w.else-opens_pair.branch [
            | else-opens_pair-via-then-opens_pair+else-byte v ↦ rw v.if-opens_pair.true (ne_eqb _ _ v.if-byte.false)
            | else-opens_pair-via-else-opens_pair v ↦ rw v.if-opens_pair.false refl
          ]))
    ]
