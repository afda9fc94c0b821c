use Rattle.ftp_calls.specs.Exchanges.{call_of}
use Rattle.ftp_calls.specs.declared.exchange.Fetch.TheVariants.{Listed}
use Rattle.ftp_session.proofs.Reasons.{opening_reasons}
use Rattle.ftp_session.proofs.session.client.Session.listing.Goals as goal

pub lines-requires : goal.lines-requires
lines-requires g c = c.fetch.ensures.fetched Listed c.requires.reads

pub returns-clause-fetches : goal.returns-clause-fetches
returns-clause-fetches g c = rw c.lines.ensures c.fetch.ensures.plays

pub returns-clause-counts : goal.returns-clause-counts
returns-clause-counts g c = rw c.lines.ensures (opening_reasons _ _ (call_of c.args.call) c.requires.gives _ _ _ _ _ c.fetch.ensures.plays)
