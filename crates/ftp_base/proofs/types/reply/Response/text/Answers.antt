use Rattle.ftp_base.proofs.ReplyLemmas.{strict_text_utf8, strict_text_not_utf8}
use Rattle.ftp_base.proofs.types.reply.Response.text.Goals as goal

pub returns-in-Ok : goal.returns-in-Ok
returns-in-Ok c =
    rw (← c.as_slice.ensures, c.trim_end.ensures.trim, c.in-Ok.ensures.cases.0)
    (strict_text_utf8 _ c.in-Ok.ensures.cases.1)

pub returns-in-Err : goal.returns-in-Err
returns-in-Err c = rw (← c.as_slice.ensures) (strict_text_not_utf8 _ c.in-Err.ensures.cases.0)
