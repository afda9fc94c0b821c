use Rattle.std.proofs.Common.{refl}
use Rattle.ftp_calls.specs.declared.call.Call.TheVariants.{CustomDataCommand}
use Rattle.ftp_session.proofs.Handed.{opens_replied}
use Rattle.ftp_session.proofs.Reasons.{replied_reasons}
use Rattle.ftp_session.proofs.session.client.Session.custom_data_command.Goals as goal

pub returns-clause-opens : goal.returns-clause-opens
returns-clause-opens g c = opens_replied _ _ _ _ _ _ _ _ _ _ _ _ c.with_reply.ensures c.open.ensures.opens

pub returns-clause-counts : goal.returns-clause-counts
returns-clause-counts g c = replied_reasons _ _ (CustomDataCommand c.args.line.now c.args.expected.now) refl _ _ _ _ _ _ _ _ (returns-clause-opens g c)
