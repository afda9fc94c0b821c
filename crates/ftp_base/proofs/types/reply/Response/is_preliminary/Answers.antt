use Rattle.std.proofs.Common.{◌∙◌, length, sym, ap}
use Rattle.ftp_base.specs.Reply.{after_feeds, begins_with_one, ending_line, is_preliminary}
use Rattle.ftp_base.proofs.ReplyLemmas.{empty_ends, front_is}
use Rattle.ftp_base.proofs.types.reply.Response.is_preliminary.Goals as goal

pub returns-in-Some : goal.returns-in-Some
unfolding is_preliminary
returns-in-Some c =
    c.begins_with_one.ensures ∙ ap begins_with_one c.after_feeds.ensures
    ∙ ap (λ bytes. begins_with_one (after_feeds bytes)) (sym (front_is c.as_slice.result.now c.in-Some.front.now c.in-Some.field-0-0.now c.in-Some.ensures.cases))
    ∙ ap (λ bytes. begins_with_one (ending_line bytes)) c.as_slice.ensures

pub returns-in-None : goal.returns-in-None
unfolding is_preliminary
returns-in-None c = sym (empty_ends _ (ap length (sym c.as_slice.ensures) ∙ c.in-None.ensures.cases))
