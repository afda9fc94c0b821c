use Rattle.std.proofs.Common.{refl}
use Rattle.ftp_calls.specs.declared.call.Call.TheVariants.{RetrAsStream}
use Rattle.ftp_session.proofs.FilesCounts.{of_opening, download_counts}
use Rattle.ftp_session.proofs.FilesLemmas.{receives_on}
use Rattle.ftp_session.proofs.session.client.Session.retr.Goals as goal

pub returns-in-Ok-clause-retrieves : goal.returns-in-Ok-clause-retrieves
returns-in-Ok-clause-retrieves g c =
    let opened = rw c.in-Ok.is at c.retr_as_stream.ensures.opens in
    let receives = rw c.retr_as_stream.ensures.keeps.encoding at c.read_by.ensures.receives in
    rw c.read_by.ensures.keeps.former (receives_on _ _ _ _ _ c.retr_as_stream.new.self.mark _ _ c.retr_as_stream.new.self.former _ c.retr_as_stream.new.self.machine _ c.in-Ok.transfer g.F.DownloadReader.reads _ _ opened receives)

pub returns-in-Ok-clause-counts : goal.returns-in-Ok-clause-counts
returns-in-Ok-clause-counts g c = download_counts _ _ (λ h. h) _ (RetrAsStream c.args.path.now) refl _ _ _ _ _ _ _ _ (returns-in-Ok-clause-retrieves g c)

pub returns-in-Err-clause-counts : goal.returns-in-Err-clause-counts
returns-in-Err-clause-counts g c = of_opening _ _ _ _ _ c.in-Err.ensures.counts
