use Rattle.std.proofs.Common.{refl}
use Rattle.ftp_calls.specs.declared.call.Call.TheVariants.{PutWithStream}
use Rattle.ftp_session.proofs.FilesCounts.{of_opening, upload_counts}
use Rattle.ftp_session.proofs.FilesLemmas.{puts_on}
use Rattle.ftp_session.proofs.session.client.Session.put_file_with.Goals as goal

pub returns-in-Ok-clause-puts : goal.returns-in-Ok-clause-puts
returns-in-Ok-clause-puts g c =
    let opened = rw c.in-Ok.is at c.put_with_stream.ensures.opens in
    let stores = rw c.put_with_stream.ensures.keeps.encoding at c.store.ensures.stores in
    rw c.store.ensures.keeps.former (puts_on _ _ _ _ _ c.put_with_stream.new.self.mark _ _ c.put_with_stream.new.self.former _ c.put_with_stream.new.self.machine _ c.in-Ok.transfer _ _ _ opened stores)

pub returns-in-Ok-clause-counts : goal.returns-in-Ok-clause-counts
returns-in-Ok-clause-counts g c = upload_counts _ _ (λ h. h) _ (PutWithStream c.args.path.now) refl _ _ _ _ _ _ _ _ _ (returns-in-Ok-clause-puts g c)

pub returns-in-Err-clause-counts : goal.returns-in-Err-clause-counts
returns-in-Err-clause-counts g c = of_opening _ _ _ _ _ c.in-Err.ensures.counts
