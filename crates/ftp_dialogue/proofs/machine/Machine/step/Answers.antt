use Rattle.ftp_dialogue.specs.Coding.{coding_of}
use Rattle.std.proofs.Common.{◌≡◌, true, false, ap, inl, inr, sym, ◌∙◌}
use Rattle.ftp_dialogue.proofs.Sorts.{fetch_opens}
use Rattle.ftp_calls.specs.Exchanges.{given_by}
use Rattle.ftp_calls.proofs.Openings.{read_opens_none}
use Rattle.ftp_dialogue.proofs.TransitionsLemmas.{arms, exchange_apart, exchange_goes, exchange_makes}
use Rattle.ftp_dialogue.proofs.ClosingLemmas.{close_moves, closed}
use Rattle.ftp_dialogue.proofs.RecoveringLemmas.{composed, composed_apart, never_waits}
use Rattle.ftp_dialogue.proofs.Stages.{resync_unread}
use Rattle.ftp_dialogue.proofs.machine.Machine.step.Goals as goal

pub returns-in-At-clause-waits : goal.returns-in-At-clause-waits
returns-in-At-clause-waits g c = λ waits. absurd (exchange_goes (coding_of g.E.Encoding.decoded g.E.Encoding.encoded c.args.encoding.now) c.args.call.now c.in-At.turn c.begin_exchange.new.stage c.begin_exchange.result c.args.self.now c.begin_exchange.new.self c.begin_exchange.ensures waits)

pub returns-in-At-clause-net : goal.returns-in-At-clause-net
returns-in-At-clause-net g c = λ none ends. (exchange_apart (coding_of g.E.Encoding.decoded g.E.Encoding.encoded c.args.encoding.now) c.args.call.now c.in-At.turn c.begin_exchange.new.stage c.begin_exchange.result c.args.self.now c.begin_exchange.new.self c.begin_exchange.ensures).0

pub returns-in-At-clause-end : goal.returns-in-At-clause-end
returns-in-At-clause-end g c = λ tells may ended. inl (sym (exchange_apart (coding_of g.E.Encoding.decoded g.E.Encoding.encoded c.args.encoding.now) c.args.call.now c.in-At.turn c.begin_exchange.new.stage c.begin_exchange.result c.args.self.now c.begin_exchange.new.self c.begin_exchange.ensures).1 ∙ ended)

pub returns-in-At-clause-rests : goal.returns-in-At-clause-rests
returns-in-At-clause-rests g c = λ waits. absurd (exchange_goes (coding_of g.E.Encoding.decoded g.E.Encoding.encoded c.args.encoding.now) c.args.call.now c.in-At.turn c.begin_exchange.new.stage c.begin_exchange.result c.args.self.now c.begin_exchange.new.self c.begin_exchange.ensures waits)

pub returns-in-At-clause-makes : goal.returns-in-At-clause-makes
returns-in-At-clause-makes g c = rw (← c.in-At.ensures.value) (exchange_makes _ _ c.args.call.now c.in-At.turn _ _ _ _ c.requires.going c.begin_exchange.ensures)

pub returns-in-Saying-clause-waits : goal.returns-in-Saying-clause-waits
returns-in-Saying-clause-waits g c = λ waits. inl (c.say_line.ensures.waits waits)

pub returns-in-Saying-clause-makes : goal.returns-in-Saying-clause-makes
returns-in-Saying-clause-makes g c =
    let stage_of = rw (← c.in-Saying.ensures.value) at c.requires.stage in
    rw (← c.in-Saying.ensures.value) (c.say_line.ensures.makes (coding_of g.E.Encoding.decoded g.E.Encoding.encoded c.args.encoding.now) c.args.call.now stage_of)

pub returns-in-Hearing-clause-makes : goal.returns-in-Hearing-clause-makes
returns-in-Hearing-clause-makes g c = rw (← c.in-Hearing.ensures.value) c.hear_reply.ensures.makes

pub returns-in-SettingOffset-clause-makes : goal.returns-in-SettingOffset-clause-makes
returns-in-SettingOffset-clause-makes g c =
    let stage_of = rw (← c.in-SettingOffset.ensures.value) at c.requires.stage in
    rw (← c.in-SettingOffset.ensures.value, c.set_offset.ensures.done) (record {
      steps = inl (arms _ c.in-SettingOffset.offset c.args.self.now c.set_offset.new.self c.requires.going c.set_offset.ensures.armed);
      quiet = tt;
      begun = tt;
      answers = (c.in-SettingOffset._turn, inl stage_of.1, ap given_by stage_of.0);
      fewer = λ is. cc;
      stage_of = tt;
    })

pub returns-in-OpeningData-clause-waits : goal.returns-in-OpeningData-clause-waits
returns-in-OpeningData-clause-waits g c = λ waits. inr (c.open_data.ensures.waits waits)

pub returns-in-OpeningData-clause-makes : goal.returns-in-OpeningData-clause-makes
returns-in-OpeningData-clause-makes g c = rw (← c.in-OpeningData.ensures.value) (c.open_data.ensures.makes (coding_of g.E.Encoding.decoded g.E.Encoding.encoded c.args.encoding.now))

pub returns-in-Transferring-clause-waits : goal.returns-in-Transferring-clause-waits
returns-in-Transferring-clause-waits g c = c.transfer.ensures.waits

pub returns-in-Transferring-clause-net : goal.returns-in-Transferring-clause-net
returns-in-Transferring-clause-net g c = λ none ends.
    let stage_of = rw (← c.in-Transferring.ensures.value) at c.requires.stage in
    let clash : true ≡ false = sym (fetch_opens c.args.call.now c.in-Transferring.transferring stage_of) ∙ none in
    cc

pub returns-in-Transferring-clause-makes : goal.returns-in-Transferring-clause-makes
returns-in-Transferring-clause-makes g c =
    let stage_of = rw (← c.in-Transferring.ensures.value) at c.requires.stage in
    rw (← c.in-Transferring.ensures.value) (c.transfer.ensures.makes c.args.call.now stage_of)

pub returns-in-Transferring-clause-rests : goal.returns-in-Transferring-clause-rests
returns-in-Transferring-clause-rests g c = λ waits read.
    let stage_of = rw (← c.in-Transferring.ensures.value) at c.requires.stage in
    let clash : true ≡ false = sym read ∙ read_opens_none c.args.call.now (fetch_opens c.args.call.now c.in-Transferring.transferring stage_of) in
    cc

pub transfer-requires-clause-may : goal.transfer-requires-clause-may
transfer-requires-clause-may g c =
    let stage_of = rw (← c.in-Transferring.ensures.value) at c.requires.stage in
    c.requires.may (fetch_opens c.args.call.now c.in-Transferring.transferring stage_of)

pub returns-in-Composing-clause-waits : goal.returns-in-Composing-clause-waits
returns-in-Composing-clause-waits g c = λ waits. absurd (never_waits (coding_of g.E.Encoding.decoded g.E.Encoding.encoded c.args.encoding.now) c.in-Composing.recovery c.compose.new.stage c.compose.result c.args.self.now c.compose.new.self waits c.compose.ensures)

pub returns-in-Composing-clause-net : goal.returns-in-Composing-clause-net
returns-in-Composing-clause-net g c = λ none ends. (composed_apart (coding_of g.E.Encoding.decoded g.E.Encoding.encoded c.args.encoding.now) c.in-Composing.recovery c.compose.new.stage c.compose.result c.args.self.now c.compose.new.self c.compose.ensures).0

pub returns-in-Composing-clause-end : goal.returns-in-Composing-clause-end
returns-in-Composing-clause-end g c = λ tells may ended. inl ((sym (composed_apart (coding_of g.E.Encoding.decoded g.E.Encoding.encoded c.args.encoding.now) c.in-Composing.recovery c.compose.new.stage c.compose.result c.args.self.now c.compose.new.self c.compose.ensures).1) ∙ ended)

pub returns-in-Composing-clause-makes : goal.returns-in-Composing-clause-makes
returns-in-Composing-clause-makes g c =
    let stage_of = rw (← c.in-Composing.ensures.value) at c.requires.stage in
    rw (← c.in-Composing.ensures.value) (composed _ _ c.args.call.now c.in-Composing.recovery _ _ _ _ stage_of c.compose.ensures)

pub returns-in-Composing-clause-rests : goal.returns-in-Composing-clause-rests
returns-in-Composing-clause-rests g c = λ waits. absurd (never_waits (coding_of g.E.Encoding.decoded g.E.Encoding.encoded c.args.encoding.now) c.in-Composing.recovery c.compose.new.stage c.compose.result c.args.self.now c.compose.new.self waits c.compose.ensures)

pub returns-in-Seeking-clause-waits : goal.returns-in-Seeking-clause-waits
returns-in-Seeking-clause-waits g c = λ waits. inl (c.seek.ensures.waits waits)

pub returns-in-Seeking-clause-makes : goal.returns-in-Seeking-clause-makes
returns-in-Seeking-clause-makes g c =
    let stage_of = rw (← c.in-Seeking.ensures.value) at c.requires.stage in
    rw (← c.in-Seeking.ensures.value) (c.seek.ensures.makes (coding_of g.E.Encoding.decoded g.E.Encoding.encoded c.args.encoding.now) c.args.call.now stage_of)

pub returns-in-Seeking-clause-rests : goal.returns-in-Seeking-clause-rests
returns-in-Seeking-clause-rests g c = λ waits read.
    let stage_of = rw (← c.in-Seeking.ensures.value) at c.requires.stage in
    let clash : true ≡ false = sym read ∙ resync_unread c.args.call.now c.in-Seeking.turn stage_of.0 stage_of.1 in
    cc

pub returns-in-Closing-clause-net : goal.returns-in-Closing-clause-net
returns-in-Closing-clause-net g c = λ none ends.
    let stage_of = rw (← c.in-Closing.ensures.value) at c.requires.stage in
    close_moves c.args.call.now c.in-Closing.after stage_of none ends

pub returns-in-Closing-clause-end : goal.returns-in-Closing-clause-end
returns-in-Closing-clause-end g c = λ tells may ended. inl (ap (λ v. v.channel.ended) (sym c.close.ensures.beside) ∙ ended)

pub returns-in-Closing-clause-makes : goal.returns-in-Closing-clause-makes
returns-in-Closing-clause-makes g c =
    let stage_of = rw (← c.in-Closing.ensures.value) at c.requires.stage in
    rw (← c.in-Closing.ensures.value) (closed (coding_of g.E.Encoding.decoded g.E.Encoding.encoded c.args.encoding.now) c.args.call.now _ c.args.self.now _ c.in-Closing.after _ stage_of c.close.ensures)
