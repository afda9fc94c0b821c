use Rattle.std.proofs.Common.{rules}
use Rattle.ftp_transfer.proofs.Marks.{stores}
use Rattle.ftp_transfer.proofs.mark.word.Place.store.Goals as goal

pub store-requires : goal.store-requires
store-requires c = (search rules, search rules, stores _ _ _ c.requires)
