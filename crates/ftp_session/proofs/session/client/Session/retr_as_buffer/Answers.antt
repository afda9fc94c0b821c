use Rattle.std.proofs.Common.{refl}
use Rattle.ftp_calls.specs.declared.call.Call.TheVariants.{Retr}
use Rattle.ftp_calls.specs.declared.exchange.Fetch.TheVariants.{Whole}
use Rattle.ftp_session.proofs.Reasons.{opening_reasons}
use Rattle.ftp_session.proofs.session.client.Session.retr_as_buffer.Goals as goal

pub bytes-requires : goal.bytes-requires
bytes-requires g c = c.fetch.ensures.fetched Whole refl

pub returns-clause-fetches : goal.returns-clause-fetches
returns-clause-fetches g c = rw c.bytes.ensures c.fetch.ensures.plays

pub returns-clause-counts : goal.returns-clause-counts
returns-clause-counts g c = rw c.bytes.ensures (opening_reasons _ _ (Retr c.args.path.now) refl _ _ _ _ _ c.fetch.ensures.plays)
