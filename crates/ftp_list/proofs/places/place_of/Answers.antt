use Rattle.ftp_list.proofs.PlaceFacts.{empty_first}
use Rattle.ftp_list.proofs.places.place_of.Goals as goal

pub returns-in-empty-clause-value : goal.returns-in-empty-clause-value
returns-in-empty-clause-value c = empty_first c.args.marker.now c.args.text.now c.in-empty.len_below
