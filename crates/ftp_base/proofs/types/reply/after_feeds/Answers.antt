use Rattle.std.proofs.Common.{◌∙◌, ◌+◌, ◌-◌, length, drop, arith}
use Rattle.std.proofs.lemmas.List.{take_all, length-drop}
use Rattle.ftp_base.proofs.ReplyLemmas.{after_feeds_none, after_feeds_some}
use Rattle.ftp_base.proofs.types.reply.after_feeds.Goals as goal

pub returns-in-Some : goal.returns-in-Some
returns-in-Some c =
    let bytes = c.args.bytes.now in
    let place = c.in-Some.place in
    take_all (length bytes - (place + 1)) (drop (place + 1) bytes) (omega (arith, length-drop (place + 1) bytes)) ∙ after_feeds_some bytes place c.in-Some.ensures

pub returns-in-None : goal.returns-in-None
returns-in-None c = after_feeds_none c.args.bytes.now c.in-None.ensures
