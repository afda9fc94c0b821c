use Rattle.std.proofs.Common.{◌<◌, ◌++◌, ap, length, take}
use Rattle.ftp_transfer.specs.Copying.{Wrote}
use Rattle.ftp_transfer.proofs.CopyingLemmas.{length_some, moves_front, wrote_more}
use Rattle.ftp_transfer.proofs.copying.write_all.Goals as goal

pub loop-rest-preserved : goal.loop-rest-preserved
loop-rest-preserved g c =
    let (done, parts, wrote) = c.loop-rest.invariant in
    let rest = c.loop-rest.rest.now in
    let n = c.in_ok-count.count in
    let some : 0 < length rest = length_some rest c.loop-rest-test.ensures in
    let second : Wrote g.C.Tells.tells (take n rest) c.loop-rest.transfer c.write.new.self = record {
      sent = λ h. ap (λ t. t.sent) (c.in_ok-count.ensures.told h some).0;
      calm = λ h. ap (λ t. t.failures) (c.in_ok-count.ensures.told h some).0;
      kept = c.in_ok-count.ensures.kept;
    } in
    (done ++ take n rest, moves_front _ done rest n parts, wrote_more _ done (take n rest) _ _ _ wrote second)
