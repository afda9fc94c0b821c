use Rattle.std.proofs.Common.{ℕ, List, subst, length, arith}
use Rattle.ftp_base.specs.Scan.{IsTimestamp, StandsFirst, StandsNowhere}
use Rattle.ftp_base.proofs.ScanLemmas.{StandsNotBefore-next, StandsNowhere-from, IsTimestamp-within}
use Rattle.ftp_base.proofs.command.scan.mdtm.Goals as goal

pub returns-in-Some : goal.returns-in-Some
returns-in-Some c =
    subst (λ (text : List ℕ). StandsFirst (IsTimestamp text) c.in-Some.spans) c.as_bytes-bytes.ensures.value
    (record { place = c.loop-place.place; stands = c.in-Some.ensures; first = λ earlier other less. c.loop-place.invariant earlier other less })

pub loop-place-preserved : goal.loop-place-preserved
loop-place-preserved c = StandsNotBefore-next (IsTimestamp c.as_bytes-bytes.result.now) c.loop-place.place c.loop-place.invariant c.in_default.ensures

pub returns : goal.returns
returns c =
    subst (λ (text : List ℕ). StandsNowhere (IsTimestamp text)) c.as_bytes-bytes.ensures.value
    (StandsNowhere-from (IsTimestamp c.as_bytes-bytes.result.now) (length c.as_bytes-bytes.result.now) c.loop-place.place c.loop-place.invariant (omega (arith, c.loop-place-test.false)) (IsTimestamp-within c.as_bytes-bytes.result.now))
