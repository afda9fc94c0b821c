use Rattle.std.proofs.Common.{◌++◌, ◌∙◌, Bool, sym, ap}
use Rattle.ftp_base.specs.Ascii.{ends_in_return, converted, last_return}
use Rattle.ftp_base.proofs.AsciiLemmas.{crlf-append, ends_in_return-append}
use Rattle.ftp_base.proofs.ascii.CrlfEncoder.encode.Goals as goal

pub returns-in-Ok-clause-written : goal.returns-in-Ok-clause-written
returns-in-Ok-clause-written c before so_far = record {
  added = converted (ends_in_return before) c.args.input.now;
  whole = crlf-append before c.args.input.now;
  grown = c.in-Ok.ensures.written ∙ ap (λ (after : Bool). c.args.out.now.items ++ converted after c.args.input.now) (c.self.view_is ∙ so_far);
}

pub returns-in-Ok-clause-last : goal.returns-in-Ok-clause-last
returns-in-Ok-clause-last c before so_far =
    c.in-Ok.ensures.last ∙ ap (λ (after : Bool). last_return after c.args.input.now) (c.self.view_is ∙ so_far) ∙ sym (ends_in_return-append before c.args.input.now)
